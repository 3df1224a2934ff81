use Rattle.test_tables.proofs.Room.{room_for_halt}
use Rattle.test_tables.proofs.prints.Prints.halted.Goals as goal

pub push-requires : goal.push-requires
push-requires c = room_for_halt c.args.self.journal (record { 0 = 0 }) (record { 0 = 0 }) c.args.self.goes_on
