use Rattle.std.proofs.Common.{◌≡◌, ◌∙◌, ◌<◌, ◌+◌, ◌++◌, ◌∷◌, suc, sym, ap, subst, reverse, nat_eq}
use Rattle.std.specs.Prelude.{sum_by}
use Rattle.indexmap.specs.IndexMap.{keys}
use Rattle.jx_base.specs.Basics.{all_added}
use Rattle.program_model.specs.Lookup.{supers_within}
use Rattle.linker_search.specs.Visits.{IsOwed, to_come, turns_of, turns_within}
use Rattle.linker_search.proofs.Added.{right}
use Rattle.linker_search.proofs.Followed.{is_key, left_class}
use Rattle.linker_search.proofs.Turns.{end_order, end_owed, first_of, go_order, go_owed, go_turns, newest, onward}
use Rattle.linker_search.specs.Walked.{has}
use Rattle.linker_search.proofs.walk.go_on.Goals as goal

pub enter-requires-clause-owed : goal.enter-requires-clause-owed
enter-requires-clause-owed c =
    let s = c.args.system.now in
    let there = keys c.args.followed.now in
    let visit = c.args.visit in
    let old = c.args.visits.now.items in
    let next = sym c.in-Some.ensures.next in
    let on = onward s visit c.in-Some.class next in
    let visits : reverse c.push.new.self.items ≡ on ∷ reverse old = ap reverse c.in_ok-push-in-Some.ensures.items ∙ newest old on in
    subst (IsOwed s (there ++ supers_within s visit.steps c.in-Some.class)) (sym visits) (go_owed s visit c.in-Some.class next there (reverse old) c.requires.owed)

pub leave-requires : goal.leave-requires
leave-requires c =
    let s = c.args.system.now in
    let there = keys c.args.followed.now in
    let visit = c.args.visit in
    let olds = reverse c.args.visits.now.items in
    let next = sym c.in-None.ensures.next in
    let owed = end_owed s visit next there olds c.requires.owed in
    sym (is_key c.args.followed.now visit.class) ∙ owed.0 visit.class (first_of visit.class (supers_within s (suc visit.steps) visit.class))

pub returns-in_ok-enter-in-Some-clause-order : goal.returns-in_ok-enter-in-Some-clause-order
returns-in_ok-enter-in-Some-clause-order c =
    let s = c.args.system.now in
    let there = keys c.args.followed.now in
    let visit = c.args.visit in
    let old = c.args.visits.now.items in
    let next = sym c.in-Some.ensures.next in
    let on = onward s visit c.in-Some.class next in
    let visits : reverse c.push.new.self.items ≡ on ∷ reverse old = ap reverse c.in_ok-push-in-Some.ensures.items ∙ newest old on in
    c.in_ok-enter-in-Some.ensures.order
    ∙ ap (λ vs. all_added nat_eq there (supers_within s visit.steps c.in-Some.class ++ to_come s vs)) visits
    ∙ go_order s visit c.in-Some.class next there (reverse old)

pub returns-in_ok-enter-in-Some-clause-shorter : goal.returns-in_ok-enter-in-Some-clause-shorter
returns-in_ok-enter-in-Some-clause-shorter c =
    let s = c.args.system.now in
    let there = keys c.args.followed.now in
    let visit = c.args.visit in
    let old = c.args.visits.now.items in
    let next = sym c.in-Some.ensures.next in
    let on = onward s visit c.in-Some.class next in
    let visits : reverse c.push.new.self.items ≡ on ∷ reverse old = ap reverse c.in_ok-push-in-Some.ensures.items ∙ newest old on in
    let turns = ap (λ vs. turns_within s visit.steps c.in-Some.class + sum_by (turns_of s) vs) c.in_ok-push-in-Some.ensures.items ∙ go_turns s visit c.in-Some.class next old in
    subst (λ n. sum_by (turns_of s) c.enter.new.visits.items < n) turns c.in_ok-enter-in-Some.ensures.shorter

pub returns-in_ok-leave-in-None-clause-order : goal.returns-in_ok-leave-in-None-clause-order
returns-in_ok-leave-in-None-clause-order c =
    let s = c.args.system.now in
    let there = keys c.args.followed.now in
    let visit = c.args.visit in
    let olds = reverse c.args.visits.now.items in
    let next = sym c.in-None.ensures.next in
    let owed = end_owed s visit next there olds c.requires.owed in
    ap (λ ks. all_added nat_eq ks (to_come s olds)) c.in_ok-leave-in-None.ensures.order ∙ end_order s visit next there olds

pub returns-in_ok-leave-in-None-clause-followed : goal.returns-in_ok-leave-in-None-clause-followed
returns-in_ok-leave-in-None-clause-followed c =
    let s = c.args.system.now in
    let there = keys c.args.followed.now in
    let visit = c.args.visit in
    let olds = reverse c.args.visits.now.items in
    let next = sym c.in-None.ensures.next in
    let owed = end_owed s visit next there olds c.requires.owed in
    left_class s c.args.followed.now c.leave.new.followed visit.class visit.steps c.requires.followed c.in_ok-leave-in-None.ensures.order c.in_ok-leave-in-None.ensures.steps
    (λ n h. owed.0 n (right (nat_eq n visit.class) (has (supers_within s (suc visit.steps) visit.class) n) h))

pub returns-in_ok-leave-in-None-clause-owed : goal.returns-in_ok-leave-in-None-clause-owed
returns-in_ok-leave-in-None-clause-owed c =
    let s = c.args.system.now in
    let there = keys c.args.followed.now in
    let visit = c.args.visit in
    let olds = reverse c.args.visits.now.items in
    let next = sym c.in-None.ensures.next in
    let owed = end_owed s visit next there olds c.requires.owed in
    subst (λ ks. IsOwed s ks olds) (sym c.in_ok-leave-in-None.ensures.order) owed.1
