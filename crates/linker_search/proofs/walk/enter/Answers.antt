use Rattle.std.proofs.Common.{◌≡◌, ◌∙◌, ◌<◌, ◌≤◌, ◌+◌, ◌++◌, [], ◌∷◌, suc, refl, sym, ap, subst, length, reverse, slice_get, Some, None, nat_eq, arith}
use Rattle.std.specs.Prelude.{nat_le, sum_by}
use Rattle.std.proofs.lemmas.Bool.{ltb-false, ltb-true}
use Rattle.std.proofs.lemmas.Option.{slice_get_past}
use Rattle.indexmap.specs.IndexMap.{get, keys}
use Rattle.jx_base.specs.Basics.{all_added}
use Rattle.jx_base.proofs.BasicLaws.{ap2, at_most, passed}
use Rattle.program_model.specs.Lookup.{supers_within}
use Rattle.linker_search.specs.Visits.{IsOwed, to_come, turns_of, turns_within}
use Rattle.linker_search.specs.Walked.{HasAll}
use Rattle.linker_search.specs.declared.walk.Visit.{Visit}
use Rattle.linker_search.proofs.Followed.{came_to}
use Rattle.linker_search.proofs.Turns.{come_order, come_owed, come_turns, item_at, newest, none_known, passed_order, passed_owed, passed_turns}
use Rattle.linker_search.proofs.Walks.{followed_before, no_class, no_steps}
use Rattle.linker_search.proofs.walk.enter.Goals as goal

pub returns-in_default-clause-order : goal.returns-in_default-clause-order
returns-in_default-clause-order c =
    let s = c.args.system.now in
    let zero_is : c.args.steps ≡ 0 = omega (arith, c.in_default.ensures) in
    let known = none_known (keys c.args.followed.now) (supers_within s c.args.steps c.args.class) (ap (λ n. supers_within s n c.args.class) zero_is ∙ no_steps s c.args.class) in
    passed_order s (keys c.args.followed.now) c.args.steps c.args.class known (to_come s (reverse c.args.visits.now.items))

pub returns-in_default-clause-owed : goal.returns-in_default-clause-owed
returns-in_default-clause-owed c =
    let s = c.args.system.now in
    let zero_is : c.args.steps ≡ 0 = omega (arith, c.in_default.ensures) in
    let known = none_known (keys c.args.followed.now) (supers_within s c.args.steps c.args.class) (ap (λ n. supers_within s n c.args.class) zero_is ∙ no_steps s c.args.class) in
    passed_owed s (keys c.args.followed.now) c.args.steps c.args.class known (reverse c.args.visits.now.items) c.requires.owed

pub returns-in_default-clause-shorter : goal.returns-in_default-clause-shorter
returns-in_default-clause-shorter c = passed_turns c.args.system.now c.args.steps c.args.class (sum_by (turns_of c.args.system.now) c.args.visits.now.items)

pub returns-then-is_none-clause-order : goal.returns-then-is_none-clause-order
returns-then-is_none-clause-order c =
    let s = c.args.system.now in
    let slice = c.as_slice.result.now in
    let beyond : length slice ≤ c.args.class = ltb-false c.args.class (length slice) (sym c.get.ensures.lookup.0 ∙ c.if-is_none.ensures) in
    let none : slice_get s.program.classes c.args.class ≡ None = ap (λ ks. slice_get ks c.args.class) (sym c.as_slice.ensures) ∙ slice_get_past slice c.args.class beyond in
    let known = none_known (keys c.args.followed.now) (supers_within s c.args.steps c.args.class) (no_class s c.in-Some.steps c.args.steps c.args.class (omega (arith, c.in-Some.ensures)) none) in
    passed_order s (keys c.args.followed.now) c.args.steps c.args.class known (to_come s (reverse c.args.visits.now.items))

pub returns-then-is_none-clause-owed : goal.returns-then-is_none-clause-owed
returns-then-is_none-clause-owed c =
    let s = c.args.system.now in
    let slice = c.as_slice.result.now in
    let beyond : length slice ≤ c.args.class = ltb-false c.args.class (length slice) (sym c.get.ensures.lookup.0 ∙ c.if-is_none.ensures) in
    let none : slice_get s.program.classes c.args.class ≡ None = ap (λ ks. slice_get ks c.args.class) (sym c.as_slice.ensures) ∙ slice_get_past slice c.args.class beyond in
    let known = none_known (keys c.args.followed.now) (supers_within s c.args.steps c.args.class) (no_class s c.in-Some.steps c.args.steps c.args.class (omega (arith, c.in-Some.ensures)) none) in
    passed_owed s (keys c.args.followed.now) c.args.steps c.args.class known (reverse c.args.visits.now.items) c.requires.owed

pub returns-then-is_none-clause-shorter : goal.returns-then-is_none-clause-shorter
returns-then-is_none-clause-shorter c = passed_turns c.args.system.now c.args.steps c.args.class (sum_by (turns_of c.args.system.now) c.args.visits.now.items)

pub returns-then-was_followed-clause-order : goal.returns-then-was_followed-clause-order
returns-then-was_followed-clause-order c =
    let s = c.args.system.now in
    let before = passed (nat_le c.in-Some.steps) (get nat_eq c.args.followed.now c.args.class) (sym c.was_followed.ensures ∙ c.if-was_followed.true) in
    let steps : suc c.in-Some.steps ≡ c.args.steps = omega (arith, c.in-Some.ensures) in
    let known = subst (λ n. HasAll (keys c.args.followed.now) (supers_within s n c.args.class)) steps
    (followed_before s c.args.followed.now c.in-Some.steps before.0 c.args.class c.requires.followed before.1 (at_most c.in-Some.steps before.0 before.2)) in
    passed_order s (keys c.args.followed.now) c.args.steps c.args.class known (to_come s (reverse c.args.visits.now.items))

pub returns-then-was_followed-clause-owed : goal.returns-then-was_followed-clause-owed
returns-then-was_followed-clause-owed c =
    let s = c.args.system.now in
    let before = passed (nat_le c.in-Some.steps) (get nat_eq c.args.followed.now c.args.class) (sym c.was_followed.ensures ∙ c.if-was_followed.true) in
    let steps : suc c.in-Some.steps ≡ c.args.steps = omega (arith, c.in-Some.ensures) in
    let known = subst (λ n. HasAll (keys c.args.followed.now) (supers_within s n c.args.class)) steps
    (followed_before s c.args.followed.now c.in-Some.steps before.0 c.args.class c.requires.followed before.1 (at_most c.in-Some.steps before.0 before.2)) in
    passed_owed s (keys c.args.followed.now) c.args.steps c.args.class known (reverse c.args.visits.now.items) c.requires.owed

pub returns-then-was_followed-clause-shorter : goal.returns-then-was_followed-clause-shorter
returns-then-was_followed-clause-shorter c = passed_turns c.args.system.now c.args.steps c.args.class (sum_by (turns_of c.args.system.now) c.args.visits.now.items)

pub returns-clause-order : goal.returns-clause-order
returns-clause-order c =
    let s = c.args.system.now in
    let there = keys c.args.followed.now in
    let slice = c.as_slice.result.now in
    let old = c.args.visits.now.items in
    let visit : Visit = record { class = c.args.class; steps = c.in-Some.steps; place = 0 } in
    let within : c.args.class < length slice = ltb-true c.args.class (length slice) (sym c.get.ensures.lookup.0 ∙ c.if-is_none.ensures) in
    let item = item_at slice c.args.class within in
    let found : slice_get s.program.classes c.args.class ≡ Some item.0 = ap (λ ks. slice_get ks c.args.class) (sym c.as_slice.ensures) ∙ item.1 in
    let steps : suc c.in-Some.steps ≡ c.args.steps = omega (arith, c.in-Some.ensures) in
    let visits : reverse c.push.new.self.items ≡ visit ∷ reverse old = ap reverse c.in_ok-push.ensures.items ∙ newest old visit in
    ap2 (λ ks vs. all_added nat_eq ks (to_come s vs)) c.in_ok-come_to.ensures.order visits
    ∙ come_order s there c.in-Some.steps c.args.class item.0 found (to_come s (reverse old))
    ∙ ap (λ n. all_added nat_eq there (supers_within s n c.args.class ++ to_come s (reverse old))) steps

pub returns-clause-followed : goal.returns-clause-followed
returns-clause-followed c = came_to c.args.system.now c.args.followed.now c.come_to.new.followed c.args.class c.requires.followed c.in_ok-come_to.ensures.order c.in_ok-come_to.ensures.steps

pub returns-clause-owed : goal.returns-clause-owed
returns-clause-owed c =
    let s = c.args.system.now in
    let there = keys c.args.followed.now in
    let slice = c.as_slice.result.now in
    let old = c.args.visits.now.items in
    let visit : Visit = record { class = c.args.class; steps = c.in-Some.steps; place = 0 } in
    let within : c.args.class < length slice = ltb-true c.args.class (length slice) (sym c.get.ensures.lookup.0 ∙ c.if-is_none.ensures) in
    let item = item_at slice c.args.class within in
    let found : slice_get s.program.classes c.args.class ≡ Some item.0 = ap (λ ks. slice_get ks c.args.class) (sym c.as_slice.ensures) ∙ item.1 in
    let steps : suc c.in-Some.steps ≡ c.args.steps = omega (arith, c.in-Some.ensures) in
    let visits : reverse c.push.new.self.items ≡ visit ∷ reverse old = ap reverse c.in_ok-push.ensures.items ∙ newest old visit in
    let owed = subst (λ n. IsOwed s (there ++ supers_within s n c.args.class) (reverse old)) (sym steps) c.requires.owed in
    subst (IsOwed s (keys c.come_to.new.followed)) (sym visits)
    (subst (λ ks. IsOwed s ks (visit ∷ reverse old)) (sym c.in_ok-come_to.ensures.order) (come_owed s there c.in-Some.steps c.args.class item.0 found (reverse old) owed))

pub returns-clause-shorter : goal.returns-clause-shorter
returns-clause-shorter c =
    let s = c.args.system.now in
    let visit : Visit = record { class = c.args.class; steps = c.in-Some.steps; place = 0 } in
    let steps : suc c.in-Some.steps ≡ c.args.steps = omega (arith, c.in-Some.ensures) in
    subst (λ vs. sum_by (turns_of s) vs < turns_within s c.args.steps c.args.class + sum_by (turns_of s) c.args.visits.now.items) (sym c.in_ok-push.ensures.items)
    (subst (λ n. sum_by (turns_of s) (c.args.visits.now.items ++ visit ∷ []) < turns_within s n c.args.class + sum_by (turns_of s) c.args.visits.now.items) steps
    (come_turns s c.args.visits.now.items visit refl))
