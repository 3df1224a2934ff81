-- What a reply leaves of its thread.
use Rattle.std.proofs.Common.{◌≡◌, ◌∙◌, sym, ap, subst, ℕ, List, Option, Some, None}
use Rattle.std.specs.Prelude.{codes}
use Rattle.std.specs.Option.{unwrap_or}
use Rattle.jx_base.specs.declared.program.System.{System}
use Rattle.jx_base.specs.declared.value.Value.{Value}
use Rattle.jx_base.specs.declared.value.Value.TheVariants as value
use Rattle.machine_model.specs.AfterEntry.{after_result, after_split}
use Rattle.machine_model.specs.MachineThreads.{after_throw, with_store}
use Rattle.machine_model.specs.State.{Core, Store, Thread, State, new_object}
use Rattle.program_model.specs.Lookup.{class_named}
use Rattle.machine_replies.specs.Leaving.{HasCoreOf, Leaves, LeavesAs}
use Rattle.machine_replies.specs.declared.stage.Stage.{Stage as OneStage}
use Rattle.machine_replies.proofs.Left.{has_stored, stored}

module _ (s : System) (halves : List Value) (old mid new : Core) (c : ℕ) (named : c ≡ unwrap_or (class_named s (codes "[Ljx/Memory;")) 0) (answer : Option OneStage) where
  split_by : (st : State) (t : ℕ) (x : Thread) (o : Option (Store × ℕ)) → HasCoreOf old st x → new_object old.store c halves ≡ o
      → after_split s st t x halves ≡ elim o as (λ _. State) [ None ↦ after_throw s st t x 0 | Some y ↦ after_result s (with_store st y.0) t x (Some (value.Ref y.1)) ]
  unfolding after_split
  split_by st t x o h e =
      ap (λ (o : Option (Store × ℕ)). elim o as (λ _. State) [ None ↦ after_throw s st t x 0 | Some y ↦ after_result s (with_store st y.0) t x (Some (value.Ref y.1)) ])
      (ap (λ (c : ℕ). new_object st.store c halves) (sym named) ∙ ap (λ (k : Store). new_object k c halves) h.store ∙ e)

  -- the array is the result
  pub split_made : (r : ℕ) → new_object old.store c halves ≡ Some (mid.store, r) → mid.frames ≡ old.frames
      → Leaves mid new answer (λ st t x. after_result s st t x (Some (value.Ref r))) → Leaves old new answer (λ st t x. after_split s st t x halves)
  split_made r made frames left st t x h =
      subst (LeavesAs st t x new answer) (sym (split_by st t x (Some (mid.store, r)) h made))
      (stored st t x mid.store new answer _ (left (with_store st mid.store) t x (has_stored st t x old mid frames h)))

  -- there is no room for it
  pub split_thrown : new_object old.store c halves ≡ None → mid ≡ old
      → Leaves mid new answer (λ st t x. after_throw s st t x 0) → Leaves old new answer (λ st t x. after_split s st t x halves)
  split_thrown none same thrown st t x h =
      let here = subst (λ (k : Core). Leaves k new answer (λ st t x. after_throw s st t x 0)) same thrown in
      subst (LeavesAs st t x new answer) (sym (split_by st t x None h none)) (here st t x h)
