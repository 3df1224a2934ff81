-- The faults of targets and exception tables, by the marks of starts.
use Rattle.std.proofs.Common.{◌≡◌, ℕ, List, Bool, Option, Some, None, Result, Ok, Err, ap, ◌∙◌}
use Rattle.std.specs.Prelude.{ℤ, find, not, option_map}
use Rattle.std.proofs.Math.Path.{fun_ext}
use Rattle.class_grammar.specs.CodeGrammar.{code_fault, first_astray, first_bad_range, is_astray, is_range_of}
use Rattle.jx_base.specs.declared.class_file.Instr.{Instr}
use Rattle.jx_base.specs.declared.class_file.Range.{Range}
use Rattle.jx_base.specs.declared.fault.CodeFault.{CodeFault}
use Rattle.jx_base.specs.declared.fault.CodeKind.TheVariants as kind
use Rattle.code_reader.specs.CodeReading.{Marks, is_marked, leads_astray, is_good_range, unless_astray, unless_bad_range, placed}

abbrev pc_of : Instr → ℕ
pc_of i = i.pc

abbrev start_of : Range → ℕ
start_of r = r.start

astray_some : (pc : ℕ) (astray : Option Instr) (next : Result (List Instr) CodeFault) → Some pc ≡ option_map pc_of astray → unless_astray astray next ≡ Err (code_fault pc kind.Target)
astray_some pc None next e = absurd cc
astray_some pc (Some i) next e = let same : i.pc ≡ pc = cc in ap (λ n. Err (code_fault n kind.Target)) same

astray_none : (astray : Option Instr) (next : Result (List Instr) CodeFault) → None ≡ option_map pc_of astray → unless_astray astray next ≡ next
astray_none None next e = cc
astray_none (Some i) next e = absurd cc

range_some : (start : ℕ) (bad : Option Range) (instrs : List Instr) → Some start ≡ option_map start_of bad → unless_bad_range bad instrs ≡ Err (code_fault start kind.BadRange)
range_some start None instrs e = absurd cc
range_some start (Some r) instrs e = let same : r.start ≡ start = cc in ap (λ n. Err (code_fault n kind.BadRange)) same

range_none : (bad : Option Range) (instrs : List Instr) → None ≡ option_map start_of bad → unless_bad_range bad instrs ≡ Ok instrs
range_none None instrs e = cc
range_none (Some r) instrs e = absurd cc

module _ (starts : List Bool) (instrs : List Instr) (marks : Marks starts instrs) where
  same_astray : find (leads_astray (is_marked starts)) instrs ≡ first_astray instrs
  unfolding first_astray is_astray leads_astray
  same_astray = ap (λ (m : ℤ → Bool). find (leads_astray m) instrs) (fun_ext marks)

  same_range : (size : ℕ) (table : List Range) → find (λ r. not (is_good_range size (is_marked starts) r)) table ≡ first_bad_range size instrs table
  unfolding first_bad_range is_range_of is_good_range
  same_range size table = ap (λ (m : ℤ → Bool). find (λ r. not (is_good_range size m r)) table) (fun_ext marks)

  pub astray_found : (size : ℕ) (table : List Range) (pc : ℕ) → Some pc ≡ option_map pc_of (find (leads_astray (is_marked starts)) instrs) → placed size table instrs ≡ Err (code_fault pc kind.Target)
  astray_found size table pc e = astray_some pc (first_astray instrs) _ (e ∙ ap (option_map pc_of) same_astray)

  none_astray : (size : ℕ) (table : List Range) → None ≡ option_map pc_of (find (leads_astray (is_marked starts)) instrs) → placed size table instrs ≡ unless_bad_range (first_bad_range size instrs table) instrs
  none_astray size table e = astray_none (first_astray instrs) _ (e ∙ ap (option_map pc_of) same_astray)

  pub range_found : (size : ℕ) (table : List Range) (start : ℕ) → None ≡ option_map pc_of (find (leads_astray (is_marked starts)) instrs)
      → Some start ≡ option_map start_of (find (λ r. not (is_good_range size (is_marked starts) r)) table) → placed size table instrs ≡ Err (code_fault start kind.BadRange)
  range_found size table start none e =
      none_astray size table none ∙ range_some start (first_bad_range size instrs table) instrs (e ∙ ap (option_map start_of) (same_range size table))

  pub none_found : (size : ℕ) (table : List Range) → None ≡ option_map pc_of (find (leads_astray (is_marked starts)) instrs)
      → None ≡ option_map start_of (find (λ r. not (is_good_range size (is_marked starts) r)) table) → placed size table instrs ≡ Ok instrs
  none_found size table none e =
      none_astray size table none ∙ range_none (first_bad_range size instrs table) instrs (e ∙ ap (option_map start_of) (same_range size table))
