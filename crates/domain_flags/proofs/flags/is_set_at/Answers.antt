use Rattle.std.proofs.Common.{◌<◌, ◌≤◌, ap, refl, sym, length, arith}
use Rattle.std.proofs.lemmas.Bool.Decides.{nat_tests}
use Rattle.std.proofs.lemmas.Option.{slice_get_past, slice_get_read}
use Rattle.jx_base.specs.Basics.{passes}
use Rattle.table_threads.specs.Changes as Changes
use Rattle.domain_flags.proofs.flags.is_set_at.Goals as goal

pub returns-in-Some : goal.returns-in-Some
unfolding passes
returns-in-Some c =
    let within : c.args.place < length c.args.flags.now = grind (arith, nat_tests, c.in-Some.ensures.lookup.0) in
    sym (ap (passes Changes.is_set) (slice_get_read c.args.flags.now (length c.args.flags.now) c.args.place c.in-Some.flag.now refl within c.in-Some.ensures.lookup.1))

pub returns-in-None : goal.returns-in-None
unfolding passes
returns-in-None c =
    let past : length c.args.flags.now ≤ c.args.place = grind (arith, nat_tests, c.in-None.ensures.lookup.0) in
    sym (ap (passes Changes.is_set) (slice_get_past c.args.flags.now c.args.place past))
