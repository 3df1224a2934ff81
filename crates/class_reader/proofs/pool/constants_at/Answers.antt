use Rattle.std.proofs.Common.{◌≡◌, ◌∷◌, [], List, drop, refl, arith}
use Rattle.jx_base.specs.declared.class_file.Constant.{Constant}
use Rattle.jx_base.specs.declared.class_file.Constant.TheVariants.{Unusable}
use Rattle.class_reader.specs.Pools.{entries, constants_length}
use Rattle.class_reader.proofs.Fronts.{begins}
use Rattle.class_reader.proofs.Pools.{goes_on, dropped, still_first, length_entries}
use Rattle.class_reader.proofs.pool.constants_at.Goals as goal

pub loop-left-init : goal.loop-left-init
unfolding constants_length
loop-left-init c =
    let items : List Constant = c.in_ok-constants.constants.items in
    let e : items ≡ Unusable ∷ [] = c.in_ok-constants.ensures.items in
    rw e (record { so_far = begins _; first = refl; long = omega arith })

pub loop-left-preserved : goal.loop-left-preserved
loop-left-preserved c =
    let old : List Constant = c.loop-left.constants.items in
    let new : List Constant = c.push_entries.new.constants.items in
    let front : List Constant = drop 1 old in
    let row = c.in_ok-constant.constant in
    let d = dropped old new front (entries row) c.loop-left.invariant.first c.in_ok-push_entries.ensures in
    let k = c.index_count-taken.ensures.count in
    record {
      so_far = rw (d, k) (goes_on c.args.size c.loop-left.left c.loop-left.rest.now front row c.in_ok-constant.after.now _ (omega arith) c.in_ok-constant.ensures.read c.loop-left.invariant.so_far);
      first = still_first old new front (entries row) c.loop-left.invariant.first c.in_ok-push_entries.ensures;
      long = rw d (omega (arith, length_entries front row, c.in_ok-constant.ensures.long, c.loop-left.invariant.long));
    }
