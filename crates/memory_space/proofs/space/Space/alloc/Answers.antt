use Rattle.std.proofs.Common.{◌∙◌, sym, ap, true, false, ℕ}
use Rattle.std.specs.Int.{w32}
use Rattle.std.proofs.lemmas.Int.{to_z-of_z}
use Rattle.jx_base.specs.declared.act.Refusal.TheVariants as refusal
use Rattle.jx_base.specs.declared.act.Reply.TheVariants as reply
use Rattle.jx_model.specs.Granules.{extent_granules}
use Rattle.jx_model.specs.Replies.{given_or}
use Rattle.memory_objects.proofs.MadeParts.{has_room, lacking}
use Rattle.memory_objects.specs.ObjectLists.{lacks_in, next_object}
use Rattle.memory_space.specs.Numbers.{allocation}
use Rattle.memory_space.specs.SpaceLists.{SpaceState, objects_in, room_in}
use Rattle.memory_space.proofs.Allocated.{in_range, is_allocation, no_allocation, out_of_range}
use Rattle.memory_space.proofs.space.Space.alloc.Goals as goal

pub returns-in_default-clause-reply : goal.returns-in_default-clause-reply
returns-in_default-clause-reply c =
    let same = to_z-of_z w32 c.args.size c.ranges.size in
    out_of_range c.args.self.now c.args.size (no_allocation c.args.size (sym c.in_default.is ∙ c.allocation.ensures ∙ ap allocation same))

pub returns-then-not-has_room-clause-reply : goal.returns-then-not-has_room-clause-reply
returns-then-not-has_room-clause-reply c =
    let y = c.args.self.now in
    let same = to_z-of_z w32 c.args.size c.ranges.size in
    let is = is_allocation c.args.size c.in-Some.size (sym c.in-Some.is ∙ c.allocation.ensures ∙ ap allocation same) in
    in_range y c.args.size true is.fits
    (sym (ap (λ (z : SpaceState). lacks_in (objects_in z) 1) c.self.view_is) ∙ lacking (lacks_in c.self.inside.objects 1) (sym c.if-not-has_room.true ∙ c.has_room.ensures.room))

pub make-requires-clause-some : goal.make-requires-clause-some
make-requires-clause-some c =
    let same = to_z-of_z w32 c.args.size c.ranges.size in
    (is_allocation c.args.size c.in-Some.size (sym c.in-Some.is ∙ c.allocation.ensures ∙ ap allocation same)).some

pub make-requires-clause-small : goal.make-requires-clause-small
make-requires-clause-small c =
    let same = to_z-of_z w32 c.args.size c.ranges.size in
    (is_allocation c.args.size c.in-Some.size (sym c.in-Some.is ∙ c.allocation.ensures ∙ ap allocation same)).small

pub returns-clause-reply : goal.returns-clause-reply
returns-clause-reply c =
    let y = c.args.self.now in
    let same = to_z-of_z w32 c.args.size c.ranges.size in
    let is = is_allocation c.args.size c.in-Some.size (sym c.in-Some.is ∙ c.allocation.ensures ∙ ap allocation same) in
    c.make.ensures.reply
    ∙ ap (λ (n : ℕ). given_or (room_in y (extent_granules n)) refusal.NoRoom (λ at. reply.Made (next_object (objects_in y) 1) at)) is.number
    ∙ in_range y c.args.size false is.fits
    (sym (ap (λ (z : SpaceState). lacks_in (objects_in z) 1) c.self.view_is) ∙ has_room (lacks_in c.self.inside.objects 1) (sym c.if-not-has_room.false ∙ c.has_room.ensures.room))
