-- The instruction that a search by the pc finds is the one that is read there.
use Rattle.std.proofs.Common.{◌≡◌, ◌==◌, ◌∙◌, ◌<◌, ℕ, zero, suc, Bool, true, false, List, [], ◌∷◌, length, Option, Some, None, refl, sym, ap, subst, arith, find, drop}
use Rattle.std.specs.Prelude.{if◌then◌else◌, slice_index_or, slice_get, Contains, IsSomeAnd, is_some}
use Rattle.std.specs.List.{All}
use Rattle.std.specs.Option.{option_map, option_and_then}
use Rattle.std.proofs.lemmas.Bool.Decides.{nat_tests}
use Rattle.jx_base.specs.declared.class_file.Code.{Code}
use Rattle.jx_base.specs.declared.class_file.Instr.{Instr}
use Rattle.jx_base.specs.declared.frame.Frame.{Frame}
use Rattle.jx_base.specs.declared.program.Method.{Method}
use Rattle.jx_base.specs.declared.program.System.{System}
use Rattle.program_model.specs.Instructions.{Reading, instruction_at}
use Rattle.program_model.specs.Lookup.{method_at}
use Rattle.machine_model.specs.Conditions.{IsFrameOf}
use Rattle.machine_model.specs.State.{Core, code_bytes, code_of}
use Rattle.interp_core.proofs.Leavings.{head_frame}
use Rattle.machine_steps.specs.Stepping.{AreInstrsOf, AreListed, Finds, IsAt, IsOfPc}

pub first_frame : (fs : List Frame) (f : Frame) → Some f ≡ slice_get fs 0 → fs ≡ f ∷ drop 1 fs
first_frame [] f e = cc
first_frame (g ∷ gs) f e = let q : f ≡ g = cc in ap (λ (x : Frame). x ∷ gs) (sym q)

one_more : (x : Instr) (xs : List Instr) (i : Instr) → Contains xs i → Contains (x ∷ xs) i
one_more x xs i c = (suc c.0, omega (arith, c.1), c.2)

at_front : (x : Instr) (xs : List Instr) → Contains (x ∷ xs) x
at_front x xs = (0, omega arith, refl)

-- what is found is there, and passes
pub found : (p : Instr → Bool) (xs : List Instr) (i : Instr) → find p xs ≡ Some i → Contains xs i × (p i ≡ true)
found p [] i e = cc
found p (x ∷ xs) i e = by (found p xs i) (p x) refl
  where
    by : (find p xs ≡ Some i → Contains xs i × (p i ≡ true)) → (b : Bool) → p x ≡ b → Contains (x ∷ xs) i × (p i ≡ true)
    by again true h =
        let same : Some x ≡ Some i = sym (ap (λ (b : Bool). if b then Some x else find p xs) h) ∙ e in
        let q : x ≡ i = cc in subst (λ (y : Instr). Contains (x ∷ xs) y × (p y ≡ true)) q (at_front x xs, h)
    by again false h =
        let rest = again (sym (ap (λ (b : Bool). if b then Some x else find p xs) h) ∙ e) in
        (one_more x xs i rest.0, rest.1)

-- where none is found none passes
none_passes : (p : Instr → Bool) (xs : List Instr) (i : Instr) (k : ℕ) → find p xs ≡ None → k < length xs → slice_index_or xs k i ≡ i → p i ≡ false
none_passes p [] i k e l h = absurd (omega (arith, l))
none_passes p (x ∷ xs) i k e l h = by (none_passes p xs i) (p x) refl k l h
  where
    by : ((k : ℕ) → find p xs ≡ None → k < length xs → slice_index_or xs k i ≡ i → p i ≡ false) → (b : Bool) → p x ≡ b → (k : ℕ) → k < length (x ∷ xs) → slice_index_or (x ∷ xs) k i ≡ i → p i ≡ false
    by again true t k l h = let q : Some x ≡ None = sym (ap (λ (b : Bool). if b then Some x else find p xs) t) ∙ e in cc
    by again false t zero l h = subst (λ (y : Instr). p y ≡ false) h t
    by again false t (suc k) l h = again k (sym (ap (λ (b : Bool). if b then Some x else find p xs) t) ∙ e) (omega (arith, l)) h

module _ (s : System) (core : Core) (h : All (IsFrameOf s) core.frames) where
  -- the running frame's method is there
  pub no_method : (f : Frame) (callers : List Frame) → core.frames ≡ f ∷ callers → method_at s f.method ≡ None → ⊥
  unfolding code_of
  no_method f callers e m =
      let some = (head_frame s core.frames callers f e h).method in
      let none : code_of s f.method ≡ None = ap (λ (o : Option Method). option_and_then (λ (x : Method). x.code) o) m in
      let q : false ≡ true = sym (ap is_some none) ∙ some in cc

  -- it has code
  its_code : (f : Frame) (callers : List Frame) (x : Method) → core.frames ≡ f ∷ callers → method_at s f.method ≡ Some x → (c : Code) × ((x.code ≡ Some c) × (code_bytes s f ≡ c.code))
  unfolding code_of code_bytes
  its_code f callers x e m = by x.code refl
    where
      by : (o : Option Code) → x.code ≡ o → (c : Code) × ((x.code ≡ Some c) × (code_bytes s f ≡ c.code))
      by None q =
          let some = (head_frame s core.frames callers f e h).method in
          let none : code_of s f.method ≡ None = ap (λ (o : Option Method). option_and_then (λ (x : Method). x.code) o) m ∙ q in
          let t : false ≡ true = sym (ap is_some none) ∙ some in cc
      by (Some c) q =
          let some : code_of s f.method ≡ Some c = ap (λ (o : Option Method). option_and_then (λ (x : Method). x.code) o) m ∙ q in
          (c, (q, ap (λ (o : Option Code). elim o as (λ _. List ℕ) [ None ↦ [] | Some c ↦ c.code ]) some))

  -- an instruction of that pc
  pub of_pc : (f : Frame) (callers : List Frame) (x : Method) (i : Instr) → core.frames ≡ f ∷ callers → AreListed s → method_at s f.method ≡ Some x → IsOfPc x.instrs f.pc i → IsAt s core i
  of_pc f callers x i e listed m is =
      let c = its_code f callers x e m in
      let read : option_map (λ (r : Reading). r.instr) (instruction_at (code_bytes s f) f.pc) ≡ Some i =
      ap (λ (k : List ℕ). option_map (λ (r : Reading). r.instr) (instruction_at k f.pc)) c.1.1
      ∙ ap (λ (n : ℕ). option_map (λ (r : Reading). r.instr) (instruction_at c.0.code n)) (sym is.1)
      ∙ listed f.method x c.0 i m c.1.0 is.0 in
      by (instruction_at (code_bytes s f) f.pc) refl read
    where
      by : (o : Option Reading) → instruction_at (code_bytes s f) f.pc ≡ o → option_map (λ (r : Reading). r.instr) o ≡ Some i → IsAt s core i
      by None z w = cc
      by (Some r) z w = let same : r.instr ≡ i = cc in record { frame = f; callers = callers; reading = r; running = e; read = z; instr = same }

  -- what the search finds
  pub finds_is : (f : Frame) (callers : List Frame) (x : Method) (o : Option Instr) → core.frames ≡ f ∷ callers → AreListed s → AreInstrsOf s core → method_at s f.method ≡ Some x → o ≡ find (λ i. i.pc == f.pc) x.instrs → Finds s core o
  finds_is f callers x None e listed at m q = λ g gs w. none g gs w (instruction_at (code_bytes s g) g.pc) refl
    where
      none : (g : Frame) (gs : List Frame) → core.frames ≡ g ∷ gs → (r : Option Reading) → instruction_at (code_bytes s g) g.pc ≡ r → instruction_at (code_bytes s g) g.pc ≡ None
      none g gs w None z = z
      none g gs w (Some r) z =
          let both : g ∷ gs ≡ f ∷ callers = sym w ∙ e in
          let same : g ≡ f = cc in
          let i = (at g gs r w z).instruction in
          let there : IsSomeAnd (Some x) (λ k. Contains k.instrs r.instr) = subst (λ (k : Option Method). IsSomeAnd k (λ k. Contains k.instrs r.instr)) (ap (λ (g : Frame). method_at s g.method) same ∙ m) i.listed in
          let place : r.instr.pc ≡ f.pc = i.place ∙ ap (λ (g : Frame). g.pc) same in
          let passes : (r.instr.pc == f.pc) ≡ true = grind (arith, nat_tests, place) in
          let fails = none_passes (λ i. i.pc == f.pc) x.instrs r.instr there.0 (sym q) there.1 there.2 in
          let t : true ≡ false = sym passes ∙ fails in cc
  finds_is f callers x (Some i) e listed at m q =
      let is = found (λ i. i.pc == f.pc) x.instrs i (sym q) in
      let passes : (i.pc == f.pc) ≡ true = is.1 in
      let place : i.pc ≡ f.pc = grind (arith, nat_tests, passes) in
      of_pc f callers x i e listed m (is.0, place)
