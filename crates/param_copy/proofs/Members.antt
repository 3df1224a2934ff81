-- What values and members of a walk refer to is in the walk.
use Rattle.std.proofs.Common.{sym, subst, ℕ, List, [], ◌∷◌, ◌++◌, inl, inr}
use Rattle.jx_base.specs.declared.states.Exported.{Exported}
use Rattle.jx_base.specs.declared.value.Value.{Value}
use Rattle.program_model.specs.Parcels.{HeapObject, references_of, object_references, cells_at, walk_of}
use Rattle.program_model.proofs.WalkRounds.{Has, has_head, has_tail, has_none, has_cases}
use Rattle.program_model.proofs.OneWalk.{only_walk}
use Rattle.param_copy.proofs.WalkSteps.{has_append}
use Rattle.param_copy.proofs.Images.{in_firsts, has_left, has_right}

module _ (sent : List HeapObject) (sent_exports : List Exported) (roots : List Value) where
  abbrev refs : List ℕ
  refs = references_of sent_exports roots

  abbrev walk : List ℕ
  walk = walk_of sent sent_exports refs

  pub root_met : (r : ℕ) → Has refs r → Has walk r
  root_met r h =
      subst (λ (xs : List ℕ). Has xs r) (sym (only_walk sent sent_exports refs).walk.closed)
      (in_firsts (refs ++ object_references sent sent_exports walk) r (has_left refs (object_references sent sent_exports walk) r h))

  has_member : (xs : List ℕ) (x r : ℕ) → Has xs x → Has (references_of sent_exports (cells_at sent x)) r → Has (object_references sent sent_exports xs) r
  unfolding object_references
  has_member [] x r h k = has_none x h
  has_member (y ∷ xs) x r h k = elim (has_cases y xs x h) [
    | inl q ↦ has_left (references_of sent_exports (cells_at sent y)) (object_references sent sent_exports xs) r (subst (λ (z : ℕ). Has (references_of sent_exports (cells_at sent z)) r) (sym q) k)
    | inr t ↦ has_right (references_of sent_exports (cells_at sent y)) (object_references sent sent_exports xs) r (has_member xs x r t k)
  ]

  pub object_met : (x r : ℕ) → Has walk x → Has (references_of sent_exports (cells_at sent x)) r → Has walk r
  object_met x r h k =
      subst (λ (xs : List ℕ). Has xs r) (sym (only_walk sent sent_exports refs).walk.closed)
      (in_firsts (refs ++ object_references sent sent_exports walk) r (has_right refs (object_references sent sent_exports walk) r (has_member walk x r h k)))

  pub all_met : (xs : List ℕ) (r : ℕ) → ((y : ℕ) → Has xs y → Has walk y) → Has (object_references sent sent_exports xs) r → Has walk r
  unfolding object_references
  all_met [] r s h = has_none r h
  all_met (x ∷ xs) r s h = elim (has_append (references_of sent_exports (cells_at sent x)) (object_references sent sent_exports xs) r h) [
    | inl a ↦ object_met x r (s x (has_head x xs)) a
    | inr b ↦ all_met xs r (λ y t. s y (has_tail x xs y t)) b
  ]
