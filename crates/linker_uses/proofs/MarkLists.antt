-- Marks of indices, set one after the other.
use Rattle.std.proofs.Common.{◌≡◌, ◌∙◌, refl, sym, ap, subst, ℕ, zero, suc, ◌+◌, ◌<◌, ◌≤◌, ◌==◌, ◌||◌, Bool, true, false, List, [], ◌∷◌, ◌++◌, length, map, replicate, set, take, get_or, arith}
use Rattle.std.proofs.lemmas.Bool.{eqb-false, eqb-true}
use Rattle.std.proofs.lemmas.List.{get_or-replicate, get_or-set_other, get_or-set_same, get_or_default, length-replicate, length-set, map-append}
use Rattle.std.proofs.lemmas.List.Folds.{list_any-append}
use Rattle.jx_base.specs.Basics.{contains_number}
use Rattle.link_model.specs.declared.uses.Used.{Used}
use Rattle.linker_uses.proofs.UseLists.{taken}
use Rattle.linker_uses.specs.Constants.{AreMarked}

-- nothing is set behind the end
pub set_beyond : {A : Type 0} (xs : List A) (i : ℕ) (x : A) → length xs ≤ i → set xs i x ≡ xs
set_beyond [] i x h = refl
set_beyond (y ∷ ys) zero x h = absurd (omega arith)
set_beyond (y ∷ ys) (suc i) x h = ap (λ zs. y ∷ zs) (set_beyond ys i x (omega arith))

-- no mark is set first
pub none_marked : (count : ℕ) (marks : List Bool) → marks ≡ replicate count false → AreMarked [] count marks
unfolding contains_number
none_marked count marks e = record {
  length = ap length e ∙ length-replicate count false;
  marked = λ i less. ap (λ xs. get_or xs i false) e ∙ get_or-replicate count i false false less;
}

module _ (used : List ℕ) (count : ℕ) (marks : List Bool) (index : ℕ) (before : AreMarked used count marks) where
  -- whether an index is used with one more
  used_more : (i : ℕ) → contains_number (used ++ index ∷ []) i ≡ contains_number used i || ((index == i) || false)
  unfolding contains_number
  used_more i = list_any-append (λ x. x == i) used (index ∷ [])

  or_true : (b : Bool) → b || true ≡ true
  or_true true = refl
  or_true false = refl

  or_false : (b : Bool) → b || false ≡ b
  or_false true = refl
  or_false false = refl

  -- one mark more
  marked_more : AreMarked (used ++ index ∷ []) count (set marks index true)
  marked_more = record {
    length = length-set marks index true ∙ before.length;
    marked = λ i less. by i less (index == i) refl ∙ sym (used_more i);
  }
    where
      by : (i : ℕ) → i < count → (b : Bool) → (index == i) ≡ b → get_or (set marks index true) i false ≡ contains_number used i || ((index == i) || false)
      by i less true e =
          let same : index ≡ i = eqb-true index i e in
          ap (λ k. get_or (set marks index true) k false) (sym same) ∙ get_or-set_same marks index true false (omega (arith, before.length))
          ∙ sym (ap (λ b. contains_number used i || (b || false)) e ∙ or_true (contains_number used i))
      by i less false e =
          get_or-set_other marks index i true false (λ k. eqb-false index i e (sym k)) ∙ before.marked i less
          ∙ sym (ap (λ b. contains_number used i || (b || false)) e ∙ or_false (contains_number used i))

-- the mark of the next use
pub marked_at : (uses : List Used) (i : ℕ) (d : Used) (count : ℕ) (marks : List Bool) → i < length uses → AreMarked (map (λ (u : Used). u.index) (take i uses)) count marks
    → AreMarked (map (λ (u : Used). u.index) (take (i + 1) uses)) count (set marks (get_or uses i d).index true)
marked_at uses i d count marks less before =
    let x = get_or uses i d in
    subst (λ (is : List ℕ). AreMarked is count (set marks x.index true))
    (sym (ap (map (λ (u : Used). u.index)) (taken uses i x less (get_or_default uses i d x less)) ∙ map-append (λ (u : Used). u.index) (take i uses) (x ∷ [])))
    (marked_more (map (λ (u : Used). u.index) (take i uses)) count marks x.index before)
