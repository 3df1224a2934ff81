use Rattle.std.proofs.Common.{◌≡◌, ◌∙◌, ◌≤◌, refl, sym, ap, subst, [], drop, List, length, arith}
use Rattle.std.specs.List.{AllByRecursion}
use Rattle.std.proofs.lemmas.List.{length-replicate}
use Rattle.jx_base.specs.declared.states.DomainState.{DomainState}
use Rattle.program_model.specs.Limits.{domain_limit}
use Rattle.domain_table.specs.DomainLists.{ThreadsState}
use Rattle.domain_table.specs.Inner.{HasRoom}
use Rattle.domain_table.proofs.Rooms.{IsEmpty, all_replicate}
use Rattle.domain_table.proofs.domains.Domains.open.Goals as goal

pub invariant_of-result : goal.invariant_of-result
unfolding domain_limit
invariant_of-result c =
    let limit = c.domain_limit-limit.result in
    let rooms : List ThreadsState = c.loop.threads.items in
    let room : ThreadsState = record { records = []; room = 2049 } in
    let none : c.in_ok-with_capacity.field-0.items ≡ [] = c.in_ok-with_capacity.ensures.items in
    let small : limit ≤ 64 = omega (arith, c.domain_limit-limit.ensures) in
    let count : length rooms ≡ c.loop.counter = ap (λ (ts : List ThreadsState). length ts) c.loop.invariant ∙ length-replicate c.loop.counter room in
    let empty : AllByRecursion IsEmpty rooms = subst (AllByRecursion IsEmpty) (sym c.loop.invariant) (all_replicate IsEmpty c.loop.counter room refl) in
    let all : AllByRecursion (HasRoom 0) rooms =
    subst (AllByRecursion (HasRoom 0)) (sym c.loop.invariant) (all_replicate (HasRoom 0) c.loop.counter room (record { room = refl; count = omega arith }))
    in
    record {
      small = small;
      made = omega (arith, ap (λ (ds : List DomainState). length ds) none);
      capacity = omega (arith, c.in_ok-with_capacity.ensures.exact);
      lists = omega (arith, count);
      services = omega arith;
      rooms = all;
      empty = subst (λ (ds : List DomainState). AllByRecursion IsEmpty (drop (length ds) rooms)) (sym none) empty;
    }
