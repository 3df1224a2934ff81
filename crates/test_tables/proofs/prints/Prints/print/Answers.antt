use Rattle.std.proofs.Common.{◌∙◌, ap, arith, length}
use Rattle.std.specs.List.{list_any}
use Rattle.std.proofs.lemmas.Bool.Decides.{nat_tests}
use Rattle.journal.specs.Journals.{JournalState, is_halt}
use Rattle.test_tables.proofs.Room.{print_goes_on, room_for_print}
use Rattle.test_tables.proofs.prints.Prints.print.Goals as goal

pub push-requires : goal.push-requires
push-requires c = room_for_print c.args.self.now.journal (record { 0 = 1 }) (record { 0 = 0 }) c.args.text c.args.self.now.limit
    (grind (arith, nat_tests, ap length c.as_slice.ensures, c.if-as_slice-gt-MOST_UNITS.false))
    (grind (arith, nat_tests, c.words.ensures, c.if-words.false))

pub invariant_of-self : goal.invariant_of-self
invariant_of-self c = record {
  limit = ap (λ (j : JournalState). j.limit) c.push.ensures ∙ c.args.self.now.limit;
  goes_on = ap (λ (j : JournalState). list_any is_halt j.entries) c.push.ensures
      ∙ print_goes_on c.args.self.now.journal.entries (record { 0 = 1 }) (record { 0 = 0 }) c.args.text c.args.self.now.goes_on;
}
