use Rattle.std.proofs.Common.{◌∙◌, ℕ, List, ◌∷◌, sym, ap, subst}
use Rattle.std.specs.List.{All}
use Rattle.std.proofs.lemmas.Result.{IfOk-weaker}
use Rattle.jx_base.specs.declared.value.Value.{Value}
use Rattle.jx_base.specs.declared.value.Value.TheVariants as value
use Rattle.interp_core.specs.Cores.{core_state, store_of}
use Rattle.machine_laws.proofs.EntryValues.{selected_in}
use Rattle.machine_laws.specs.Called.{IsCallOf}
use Rattle.machine_model.specs.AfterEntry.{after_selection}
use Rattle.machine_model.specs.Conditions.{IsHeldBy}
use Rattle.program_model.specs.Lookup.{method_at}
use Rattle.machine_replies.specs.Leaving.{Comes}
use Rattle.machine_calls.proofs.Selection.{if_some, selected_call, selected_held}
use Rattle.machine_calls.proofs.Taken.{none_selected, selected_begins}
use Rattle.machine_calls.proofs.taking.begin_call.Goals as goal

pub returns-in_default : goal.returns-in_default
returns-in_default c =
    let old = core_state c.args.core.now in
    none_selected c.args.system.now c.args.service c.args.method old old c.args.roots.now (sym c.in_default.ensures)

pub begin_selected-requires-clause-arguments : goal.begin_selected-requires-clause-arguments
begin_selected-requires-clause-arguments c =
    let h = c.requires.roots in let s = c.args.system.now in let store = store_of c.args.core.now in
    let w = selected_in s h.past c.requires.system.sound store c.args.service c.args.method _ h.core_in.store (sym c.in-Some.ensures) in
    subst (All (IsHeldBy store)) (sym (c.as_slice.ensures.value ∙ c.in_ok-arguments.ensures))
    (selected_held s h.past c.requires.system.sound store c.args.method c.in-Some.place c.in-Some.object c.args.roots.now w h.values)

pub begin_selected-requires-clause-call : goal.begin_selected-requires-clause-call
begin_selected-requires-clause-call c =
    let h = c.requires.roots in let s = c.args.system.now in let store = store_of c.args.core.now in
    let w = selected_in s h.past c.requires.system.sound store c.args.service c.args.method _ h.core_in.store (sym c.in-Some.ensures) in
    let arguments = sym (c.as_slice.ensures.value ∙ c.in_ok-arguments.ensures) in
    if_some (method_at s c.in_ok-place.place) (λ k. IsCallOf s store k c.as_slice.result.now) (λ k e.
    subst (IsCallOf s store k) arguments
    (selected_call s h.past c.requires.system.sound store c.args.method c.in-Some.place c.in-Some.object c.args.roots.now w k h.fit (ap (method_at s) (sym c.in_ok-place.ensures) ∙ e)))

pub returns : goal.returns
returns c =
    let s = c.args.system.now in let old = core_state c.args.core.now in let new = core_state c.begin_selected.new.core in
    let arguments = c.as_slice.ensures.value ∙ c.in_ok-arguments.ensures in
    IfOk-weaker c.begin_selected.result _ _ (λ g h.
    selected_begins s c.args.service c.args.method old new c.args.roots.now _ g (sym c.in-Some.ensures)
    (subst (λ (m : ℕ). Comes old new g (λ st t x. after_selection s st t x m (value.Ref c.in-Some.object ∷ c.args.roots.now))) c.in_ok-place.ensures
    (subst (λ (vs : List Value). Comes old new g (λ st t x. after_selection s st t x c.in_ok-place.place vs)) arguments h))) c.begin_selected.ensures
