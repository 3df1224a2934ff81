use Rattle.std.proofs.Common.{◌≡◌, ◌∙◌, ◌+◌, [], length, sym, ap, subst, Some, None, slice_get, arith}
use Rattle.link_model.specs.LinkFaults.{next_above}
use Rattle.linker_faults.specs.Hierarchies.{OfFiles, joined}
use Rattle.linker_faults.proofs.Climbing.{at_end, followed_above, followed_short, next_firsts}
use Rattle.linker_faults.proofs.Growing.{joined_firsts}
use Rattle.linker_faults.proofs.Rounds.{IsFollowed, followed_more, followed_none}
use Rattle.linker_faults.proofs.hierarchy.Hierarchy.all_above.Goals as goal

pub loop-followed-init : goal.loop-followed-init
loop-followed-init c =
    let s = c.args.self.now in
    let next = next_above s.plan s.files s.template in
    let start = next c.args.place in
    subst (IsFollowed next start 0)
    (sym (c.in_ok-add_all.ensures ∙ ap (λ xs. joined xs c.right_above.result.now) c.new-reached.ensures.empty ∙ ap (joined []) (c.right_above.ensures ∙ next_firsts s.plan s.files s.template c.args.place) ∙ joined_firsts [] start))
    (followed_none next start)

pub returns-in_default : goal.returns-in_default
returns-in_default c =
    let s = c.args.self.now in
    let none : slice_get c.loop-followed.reached.keys c.loop-followed.followed ≡ None = sym c.get_index.ensures.key ∙ sym c.copied.ensures ∙ c.in_default.is in
    followed_above s.plan s.files s.template c.args.place c.loop-followed.followed c.loop-followed.reached.keys (at_end c.loop-followed.reached.keys c.loop-followed.followed none) c.loop-followed.invariant

pub loop-followed-preserved : goal.loop-followed-preserved
loop-followed-preserved c =
    let s = c.args.self.now in
    let next = next_above s.plan s.files s.template in
    let start = next c.args.place in
    let keys = c.loop-followed.reached.keys in
    let there : slice_get keys c.loop-followed.followed ≡ Some c.in-Some.next = sym c.get_index.ensures.key ∙ sym c.copied.ensures ∙ c.in-Some.is in
    subst (IsFollowed next start (c.loop-followed.followed + 1))
    (sym (c.in_ok-add_all-2.ensures ∙ ap (joined keys) (c.right_above-in-loop-followed.ensures ∙ next_firsts s.plan s.files s.template c.in-Some.next) ∙ joined_firsts keys (next c.in-Some.next)))
    (followed_more next start c.loop-followed.followed keys c.in-Some.next there c.loop-followed.invariant)

pub returns : goal.returns
returns c =
    let s = c.args.self.now in
    let short = followed_short s.plan s.files s.template c.args.place c.loop-followed.followed c.loop-followed.reached.keys c.loop-followed.invariant in
    followed_above s.plan s.files s.template c.args.place c.loop-followed.followed c.loop-followed.reached.keys
    (omega (arith, short, c.loop-followed-test.false, ap length (c.as_slice-followed-end.ensures ∙ ap (λ t. t.classes) c.template.ensures), ap (λ (h : OfFiles). length h.template.classes) c.self.view_is))
    c.loop-followed.invariant
