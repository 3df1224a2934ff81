-- The slots that are left decide whether both groups have room.
use Rattle.std.proofs.Common.{arith, refl, ap, subst, ◌∙◌, ◌≡◌, ◌++◌, length, drop, Some}
use Rattle.jx_base.specs.Stacks.{StackState}
use Rattle.machine_model.specs.NumericRows.{group_of, Stack}
use Rattle.interp_num.specs.Groups.{values_of}
use Rattle.interp_num.proofs.moves.copy.Goals as goal
use Rattle.interp_num.proofs.Groups.{copied_within, copied_over}
use Rattle.interp_num.proofs.Depths.{length_within}

pub returns-then-slots_left-needed-clause-row : goal.returns-then-slots_left-needed-clause-row
returns-then-slots_left-needed-clause-row c =
    let second = subst (λ (x : Stack). group_of c.args.under x ≡ Some (values_of c.in_ok-under.under)) c.in_ok-copied.ensures.rest c.in_ok-under.ensures.value in
    let below = c.in_ok-under.ensures.rest ∙ ap (λ (x : Stack). drop (length (values_of c.in_ok-under.under)) x) c.in_ok-copied.ensures.rest in
    (copied_over c.args.most c.args.frame.now.locals c.args.copied c.args.under _ _ _ c.pop_group-2.new.stack.values (record { first = c.in_ok-copied.ensures.value; second = second; below = below }) (omega arith), refl)

pub push_copied-requires : goal.push_copied-requires
push_copied-requires c =
    let same = ap (λ (s : StackState). length s.values) c.slots_left.ensures.same in
    let room = ap (λ (s : StackState). s.room) c.slots_left.ensures.same in
    omega (arith, length_within (values_of c.in_ok-copied.copied), length_within (values_of c.in_ok-under.under), length_within c.pop_group-2.new.stack.values)

pub returns-clause-row : goal.returns-clause-row
returns-clause-row c =
    let second = subst (λ (x : Stack). group_of c.args.under x ≡ Some (values_of c.in_ok-under.under)) c.in_ok-copied.ensures.rest c.in_ok-under.ensures.value in
    let below = c.in_ok-under.ensures.rest ∙ ap (λ (x : Stack). drop (length (values_of c.in_ok-under.under)) x) c.in_ok-copied.ensures.rest in
    let same = ap (λ (s : StackState). s.values) c.slots_left.ensures.same in
    let new = ap (λ (s : StackState). s.values) c.push_copied.ensures ∙ ap (λ (x : Stack). values_of c.in_ok-copied.copied ++ (values_of c.in_ok-under.under ++ (values_of c.in_ok-copied.copied ++ x))) same in
    copied_within c.args.most c.args.frame.now.locals c.args.copied c.args.under _ _ _ c.pop_group-2.new.stack.values _ (record { first = c.in_ok-copied.ensures.value; second = second; below = below }) new (omega arith)
