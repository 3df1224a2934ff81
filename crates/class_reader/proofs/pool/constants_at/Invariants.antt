use Rattle.std.proofs.Common.{◌≡◌, ◌+◌, ◌∷◌, drop, length}
use Rattle.class_grammar.specs.Constants.{constants_part}
use Rattle.jx_base.specs.declared.class_file.Constant.TheVariants.{Unusable}
use Rattle.class_grammar.specs.Parts.{with_front}
use Rattle.class_reader.specs.Pools.{constants_length}
use Rattle.class_reader.proofs.pool.constants_at.Given as goal

abbrev pub invariant-loop-left : goal.invariant-loop-left
invariant-loop-left l =
    let read = drop 1 l.constants.items in
    record {
      so_far : with_front read ((constants_part l.size l.left).reads l.rest) ≡ (constants_part l.size l.count).reads l.bytes;
      first : l.constants.items ≡ Unusable ∷ read;
      long : length l.bytes ≡ constants_length read + length l.rest;
    }

abbrev pub decreases-loop-left : goal.decreases-loop-left
decreases-loop-left l = l.left
