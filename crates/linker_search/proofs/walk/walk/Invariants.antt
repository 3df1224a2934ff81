use Rattle.std.proofs.Common.{◌≡◌, nat_eq, reverse}
use Rattle.std.specs.Prelude.{sum_by}
use Rattle.indexmap.specs.IndexMap.{keys}
use Rattle.jx_base.specs.Basics.{all_added}
use Rattle.linker_search.specs.Visits.{IsOwed, to_come, turns_of}
use Rattle.linker_search.specs.Walked.{AreFollowed, distinct_supers}
use Rattle.linker_search.proofs.walk.walk.Given as goal

abbrev pub invariant-loop-visit : goal.invariant-loop-visit
invariant-loop-visit l =
    (all_added nat_eq (keys l.followed) (to_come l.system (reverse l.visits.items)) ≡ distinct_supers l.system l.class)
    × AreFollowed l.system l.followed × IsOwed l.system (keys l.followed) (reverse l.visits.items)

abbrev pub decreases-loop-visit : goal.decreases-loop-visit
decreases-loop-visit l = sum_by (turns_of l.system) l.visits.items
