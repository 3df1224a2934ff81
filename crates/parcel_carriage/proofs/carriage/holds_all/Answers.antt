use Rattle.std.proofs.Common.{refl}
use Rattle.memory_objects.specs.ObjectLists as Objects
use Rattle.portal_table.specs.ServiceLists as Services
use Rattle.parcel_carriage.proofs.Standing.{nodes_decide, roots_decide}
use Rattle.parcel_carriage.proofs.carriage.holds_all.Goals as goal

pub returns-then-holds_words : goal.returns-then-holds_words
returns-then-holds_words c =
    nodes_decide (Services.holds_in c.args.services.now c.args.domain.0) (Objects.holds_in c.args.objects.now.records c.args.domain.0) c.args.parcel.now
    c.as_slice.result.now c.as_slice-then-holds_words.result.now c.holds_words.result c.holds_nodes.result c.as_slice.ensures c.as_slice-then-holds_words.ensures
    c.holds_words.ensures c.if-holds_words.true c.holds_nodes.ensures

pub returns-else-holds_words : goal.returns-else-holds_words
returns-else-holds_words c =
    roots_decide (Services.holds_in c.args.services.now c.args.domain.0) (Objects.holds_in c.args.objects.now.records c.args.domain.0) c.args.parcel.now
    c.as_slice.result.now c.args.parcel.now.nodes c.holds_words.result c.holds_words.result c.as_slice.ensures refl
    c.holds_words.ensures c.if-holds_words.false
