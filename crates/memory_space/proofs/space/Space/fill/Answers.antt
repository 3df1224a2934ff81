use Rattle.std.proofs.Common.{◌≡◌, ◌∙◌, sym, ap, subst, Ok, Err}
use Rattle.std.specs.Int.{w32}
use Rattle.std.proofs.lemmas.Int.{to_z-of_z}
use Rattle.jx_base.specs.Basics.{not_below_zero}
use Rattle.jx_base.specs.declared.act.Reply.TheVariants as reply
use Rattle.jx_model.specs.Replies.{done_within}
use Rattle.memory_objects.specs.ObjectLists.{replied}
use Rattle.memory_space.specs.SpaceLists.{SpaceState, held_in}
use Rattle.memory_space.specs.ExtentLists.{LieWithin}
use Rattle.memory_space.proofs.Backed.{done_at, done_refused, found_at, is_at, place_lies, space_written}
use Rattle.memory_space.proofs.space.Space.fill.Goals as goal

pub fill-requires : goal.fill-requires
fill-requires c =
    let x = c.self.inside in
    let at = to_z-of_z w32 c.args.at c.ranges.at in
    let count = to_z-of_z w32 c.args.count c.ranges.count in
    let found = found_at x.objects c.args.domain.0 c.args.object.0 c.args.at c.args.count _ _ (Ok (c.in-Ok.extent, c.in-Ok.from)) (sym c.in-Ok.is ∙ c.check.ensures) at count in
    subst (λ n. LieWithin x.extents.items c.in-Ok.extent c.in-Ok.from n) (sym (c.natural.ensures ∙ ap not_below_zero count))
    (place_lies x.objects x.extents.items x.pool c.args.domain.0 c.args.object.0 c.args.at c.args.count (c.in-Ok.extent, c.in-Ok.from) c.self.invariant.backed (is_at x.objects c.args.domain.0 c.args.object.0 c.args.at c.args.count (c.in-Ok.extent, c.in-Ok.from) found))

pub invariant_of-self : goal.invariant_of-self
invariant_of-self c = space_written c.self.inside c.fill.new.self c.in-Ok.extent c.in-Ok.from c.natural.result _ c.self.invariant c.fill.ensures

pub returns-in-Ok-clause-reply : goal.returns-in-Ok-clause-reply
returns-in-Ok-clause-reply c =
    let x = c.self.inside in
    let at = to_z-of_z w32 c.args.at c.ranges.at in
    let count = to_z-of_z w32 c.args.count c.ranges.count in
    let found = found_at x.objects c.args.domain.0 c.args.object.0 c.args.at c.args.count _ _ (Ok (c.in-Ok.extent, c.in-Ok.from)) (sym c.in-Ok.is ∙ c.check.ensures) at count in
    subst (λ (z : SpaceState). reply.Done ≡ replied (held_in z c.args.domain.0 c.args.object.0) (done_within c.args.at c.args.count)) c.self.view_is
    (done_at x.objects c.args.domain.0 c.args.object.0 c.args.at c.args.count (c.in-Ok.extent, c.in-Ok.from) (is_at x.objects c.args.domain.0 c.args.object.0 c.args.at c.args.count (c.in-Ok.extent, c.in-Ok.from) found))

pub returns-in-Err-clause-reply : goal.returns-in-Err-clause-reply
returns-in-Err-clause-reply c =
    let x = c.self.inside in
    let at = to_z-of_z w32 c.args.at c.ranges.at in
    let count = to_z-of_z w32 c.args.count c.ranges.count in
    let found = found_at x.objects c.args.domain.0 c.args.object.0 c.args.at c.args.count _ _ (Err c.in-Err.refusal) (sym c.in-Err.is ∙ c.check.ensures) at count in
    subst (λ (z : SpaceState). reply.Refused c.in-Err.refusal ≡ replied (held_in z c.args.domain.0 c.args.object.0) (done_within c.args.at c.args.count)) c.self.view_is
    (done_refused x.objects c.args.domain.0 c.args.object.0 c.args.at c.args.count c.in-Err.refusal found)
