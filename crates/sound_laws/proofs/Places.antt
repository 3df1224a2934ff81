-- Where the frames of a linked system stand: at instructions of their methods.
use Rattle.std.proofs.Common.{◌≡◌, ℕ, zero, suc, ◌-◌, ◌≤◌, ◌⊎◌, inl, inr, Bool, true, false, not, List, [], ◌∷◌, length, drop, Option, Some, None, refl, sym, ap, ◌∙◌, subst, arith}
use Rattle.std.specs.Prelude.{pos, IfSome, Contains, Result, Ok, Err, find}
use Rattle.std.specs.Ordering.{int_eq}
use Rattle.std.proofs.lemmas.Bool.Decides.{Decides-int_eq}
use Rattle.class_grammar.specs.CodeGrammar.{BeginsWith, instruction_part, starts_at, is_range_of, first_bad_range}
use Rattle.jx_base.specs.declared.class_file.ClassFile.{ClassFile}
use Rattle.jx_base.specs.declared.class_file.Code.{Code}
use Rattle.jx_base.specs.declared.class_file.Instr.{Instr}
use Rattle.jx_base.specs.declared.class_file.Range.{Range}
use Rattle.jx_base.specs.declared.fault.CodeFault.{CodeFault}
use Rattle.jx_base.specs.declared.frame.Frame.{Frame}
use Rattle.jx_base.specs.declared.program.Method.{Method}
use Rattle.jx_base.specs.declared.program.Plan.{Plan}
use Rattle.jx_base.specs.declared.program.System.{System}
use Rattle.program_model.specs.Instructions.{Reading, reading_of, instruction_at}
use Rattle.program_model.specs.Lookup.{method_at}
use Rattle.machine_model.specs.NumericRows.{Locals}
use Rattle.machine_model.specs.State.{code_of, code_bytes, frame_with, pc_behind, handler_in, is_handler_for}
use Rattle.jx_base.proofs.BasicLaws.{both}
use Rattle.code_reader.proofs.Sound.{sound_instruction, starts_at_pc, takes_a_byte}
use Rattle.link_model.specs.LinkFaults.{IsLinked}
use Rattle.link_laws.specs.Methods.{StartsAt, IsCodeOf}
use Rattle.link_laws.proofs.Above.{find_some, find_none}
use Rattle.link_laws.proofs.Hierarchy.{contains_among}
use Rattle.link_laws.proofs.Lists.{Among, any_among, same_there}
use Rattle.link_laws.proofs.Uses.{and_then_some, mapped_some}
use Rattle.link_laws.proofs.Whole.{methods_hold}
use Rattle.machine_laws.specs.Values.{IsPlaced}
use Rattle.std.specs.Option.{option_and_then, option_map}

-- ---- readings

-- what was read
of_reading : (size : ℕ) (o : Result (Instr × List ℕ) CodeFault) (r : Reading) → reading_of size o ≡ Some r → (x : Instr × List ℕ) × (o ≡ Ok x) × (x.0 ≡ r.instr)
unfolding reading_of
of_reading size (Ok x) r e = (x, refl, ap (λ (y : Reading). y.instr) (same_there _ r e))
of_reading size (Err f) r e = absurd cc

-- an instruction that is read is spelled there
pub spelled_at : (code : List ℕ) (pc : ℕ) (r : Reading) → instruction_at code pc ≡ Some r → (rest : List ℕ) × (instruction_part pc).spells (drop pc code) r.instr rest
unfolding instruction_at
spelled_at code pc r e =
    let x = of_reading (length code) ((instruction_part pc).reads (drop pc code)) r e in
    (x.0.1, subst (λ (i : Instr). (instruction_part pc).spells (drop pc code) i x.0.1) x.2 ((sound_instruction pc).lawful.found (drop pc code) x.0.0 x.0.1 x.1))

-- its place is where it was read
pub read_pc : (code : List ℕ) (pc : ℕ) (r : Reading) → instruction_at code pc ≡ Some r → r.instr.pc ≡ pc
read_pc code pc r e = let x = spelled_at code pc r e in starts_at_pc pc (drop pc code) r.instr x.0 x.1

-- nothing stands behind the end
drop_all : (xs : List ℕ) → drop (length xs) xs ≡ []
drop_all [] = refl
drop_all (x ∷ xs) = drop_all xs

-- no instruction is read of no bytes
none_read : (code : List ℕ) (pc : ℕ) (r : Reading) → drop pc code ≡ [] → instruction_at code pc ≡ Some r → ⊥
none_read code pc r e h =
    let x = spelled_at code pc r h in
    let less = takes_a_byte pc (drop pc code) r.instr x.0 x.1 in omega (arith, less, ap length e)

-- nor of an empty code
pub none_of_none : (pc : ℕ) (r : Reading) → instruction_at [] pc ≡ Some r → ⊥
none_of_none pc r h = none_read [] pc r (empty pc) h
  where
    empty : (n : ℕ) → drop {A = ℕ} n [] ≡ []
    empty zero = refl
    empty (suc n) = refl

-- equal places
same_place : (a b : ℕ) → pos a ≡ pos b → a ≡ b
same_place a b e = cc

-- the first instruction starts at 0
pub first_starts : (c : Code) (instrs : List Instr) → IsCodeOf c instrs → StartsAt instrs (pos 0)
first_starts c instrs w = by instrs w.some w.code.spelled
  where
    by : (xs : List Instr) → 1 ≤ length xs → BeginsWith (length c.code) c.code xs [] → StartsAt xs (pos 0)
    by [] h b = absurd (omega (arith, h))
    by (i ∷ more) h b = (i, contains_among (i ∷ more) i (inl refl), ap (λ (n : ℕ). pos n) (omega (arith, starts_at_pc (length c.code - length c.code) c.code i b.0 b.1)))

-- an instruction starts where the test passes
starts_there : (instrs : List Instr) (n : ℕ) → starts_at instrs (pos n) ≡ true → StartsAt instrs (pos n)
unfolding starts_at
starts_there instrs n h =
    let r = any_among (λ (i : Instr). int_eq (pos i.pc) (pos n)) instrs h in
    (r.0, contains_among instrs r.0 r.1, (Decides-int_eq (pos r.0.pc) (pos n)).0 r.2)

-- the handler of a range of the code starts an instruction
handler_starts : (c : Code) (instrs : List Instr) (r : Range) → IsCodeOf c instrs → Among c.table r → StartsAt instrs (pos r.handler)
unfolding first_bad_range is_range_of
handler_starts c instrs r w h =
    let ok = holds _ (find_none (λ r. not (is_range_of (length c.code) instrs r)) c.table r w.code.ranges h) in
    starts_there instrs r.handler (both _ _ (both _ _ (both _ _ ok).0).0).1
  where
    holds : (b : Bool) → not b ≡ false → b ≡ true
    holds true e = refl
    holds false e = absurd cc

-- ---- frames

-- the bytes of a frame's code are those of its method
pub bytes_are : (s : System) (f : Frame) (k : Method) → method_at s f.method ≡ Some k → code_bytes s f ≡ (elim k.code as (λ _. List ℕ) [ None ↦ [] | Some c ↦ c.code ])
unfolding code_bytes code_of
bytes_are s f k e = by (method_at s f.method) e
  where
    by : (o : Option Method) → o ≡ Some k → (elim (option_and_then (λ x. x.code) o) as (λ _. List ℕ) [ None ↦ [] | Some c ↦ c.code ]) ≡ (elim k.code as (λ _. List ℕ) [ None ↦ [] | Some c ↦ c.code ])
    by None q = absurd cc
    by (Some x) q = ap (λ (y : Method). elim y.code as (λ _. List ℕ) [ None ↦ [] | Some c ↦ c.code ]) (same_there x k q)

-- frames of one method have the same code
same_bytes : (s : System) (f g : Frame) → g.method ≡ f.method → code_bytes s g ≡ code_bytes s f
unfolding code_bytes
same_bytes s f g e = ap (λ m. elim (code_of s m) as (λ _. List ℕ) [ None ↦ [] | Some c ↦ c.code ]) e

-- the code of a method
code_is : (s : System) (m : ℕ) (c : Code) (k : Method) → code_of s m ≡ Some c → method_at s m ≡ Some k → k.code ≡ Some c
unfolding code_of
code_is s m c k e h = let r = and_then_some (method_at s m) (λ (x : Method). x.code) c e in ap (λ (x : Method). x.code) (same_there k r.0 (sym h ∙ r.1)) ∙ r.2

module _ (plan : Plan) (files : List ClassFile) (s : System) (from : IsLinked plan files s) where
  -- a frame at an instruction of its code, or at its end, is placed
  pub placed : (g : Frame) → ((k : Method) (c : Code) → method_at s g.method ≡ Some k → k.code ≡ Some c → IsCodeOf c k.instrs → StartsAt k.instrs (pos g.pc) ⊎ (g.pc ≡ length c.code)) → IsPlaced s g
  placed g at k r e h = by k.code refl ((methods_hold plan files s from).whole g.method k e).instructions (ap (λ bs. instruction_at bs g.pc) (sym (bytes_are s g k e)) ∙ h)
    where
      by : (o : Option Code) → k.code ≡ o → IfSome o (λ c. IsCodeOf c k.instrs) → instruction_at (elim o as (λ _. List ℕ) [ None ↦ [] | Some c ↦ c.code ]) g.pc ≡ Some r → Contains k.instrs r.instr
      by None q w i = absurd (none_of_none g.pc r i)
      by (Some c) q w i = elim (at k c e q w) [
        | inl st ↦
            let there = w.reads st.0 st.1 in
            let same = same_there _ r (sym there.1 ∙ ap (instruction_at c.code) (same_place st.0.pc g.pc st.2) ∙ i) in
            subst (λ (x : Reading). Contains k.instrs x.instr) same st.1
        | inr end ↦ absurd (none_read c.code g.pc r (ap (λ n. drop n c.code) end ∙ drop_all c.code) i)
      ]

  -- a frame at the start of a method's code is placed
  pub starts : (m : ℕ) (c : Code) (l : Locals) → code_of s m ≡ Some c → IsPlaced s (frame_with m c l)
  unfolding frame_with
  starts m c l e = placed (frame_with m c l) (λ k d h q w. inl (first_starts d k.instrs w))

  -- so is one at a handler
  pub handlers : (f g : Frame) (c h : ℕ) → handler_in s c f ≡ Some h → g.method ≡ f.method → g.pc ≡ h → IsPlaced s g
  unfolding handler_in
  handlers f g c h e em ep =
      let code = and_then_some (code_of s f.method) (λ c2. option_map (λ r. r.handler) (find (is_handler_for s c f) c2.table)) h e in
      let range = mapped_some (λ (r : Range). r.handler) (find (is_handler_for s c f) code.0.table) h code.2 in
      let there = find_some (is_handler_for s c f) code.0.table range.0 range.1 in
      placed g (λ k d i q w.
      let same : code.0 ≡ d = same_there code.0 d (sym (code_is s f.method code.0 k code.1 (ap (method_at s) (sym em) ∙ i)) ∙ q) in
      inl (subst (λ n. StartsAt k.instrs (pos n)) (range.2 ∙ sym ep) (handler_starts d k.instrs range.0 w (subst (λ (x : Code). Among x.table range.0) same there.0))))

  -- and one behind an instruction
  pub goes_on : (f g : Frame) → IsPlaced s f → g.method ≡ f.method → g.pc ≡ pc_behind s f → IsPlaced s g
  unfolding pc_behind
  goes_on f g here em ep = by (instruction_at (code_bytes s f) f.pc) refl ep
    where
      by : (o : Option Reading) → instruction_at (code_bytes s f) f.pc ≡ o → g.pc ≡ (elim o as (λ _. ℕ) [ None ↦ f.pc | Some r ↦ r.next ]) → IsPlaced s g
      by None q p = λ k r e h. absurd (none k r h)
        where
          none : (k : Method) (r : Reading) → instruction_at (code_bytes s g) g.pc ≡ Some r → ⊥
          none k r h = both_ways (sym h ∙ ap (instruction_at (code_bytes s g)) p ∙ ap (λ bs. instruction_at bs f.pc) (same_bytes s f g em) ∙ q)
            where
              both_ways : Some r ≡ None → ⊥
              both_ways x = cc
      by (Some r) q p = placed g (λ k c e w of.
          let here_k : method_at s f.method ≡ Some k = ap (method_at s) (sym em) ∙ e in
          let inside = here k r here_k q in
          let bytes : code_bytes s f ≡ c.code = bytes_are s f k here_k ∙ ap (λ (o : Option Code). elim o as (λ _. List ℕ) [ None ↦ [] | Some c ↦ c.code ]) w in
          let reads = of.reads r.instr inside in
          let same = same_there _ r (sym reads.1 ∙ ap (instruction_at c.code) (read_pc (code_bytes s f) f.pc r q) ∙ ap (λ bs. instruction_at bs f.pc) (sym bytes) ∙ q) in
          let next : reads.0 ≡ g.pc = ap (λ (x : Reading). x.next) same ∙ sym p in
          elim reads.2 [ inl d ↦ inr (sym next ∙ d) | inr d ↦ inl (subst (λ n. StartsAt k.instrs (pos n)) next d) ])
