use Rattle.std.proofs.Common.{◌≡◌, ◌∙◌, sym, subst, Ok, Err, ℕ}
use Rattle.std.specs.Int.{w32}
use Rattle.std.specs.Prelude.{pos}
use Rattle.std.proofs.lemmas.Int.{to_z-of_z}
use Rattle.jx_base.specs.Basics.{not_below_zero}
use Rattle.jx_base.specs.declared.act.Reply.TheVariants as reply
use Rattle.jx_model.specs.Replies.{done_within}
use Rattle.memory_objects.specs.ObjectLists.{replied}
use Rattle.memory_space.specs.SpaceLists.{SpaceState, held_in}
use Rattle.memory_space.proofs.Backed.{done_at, done_refused, found_at, is_at, place_lies, space_written}
use Rattle.memory_space.proofs.space.Space.set.Goals as goal

pub set-requires-clause-within : goal.set-requires-clause-within
unfolding not_below_zero
set-requires-clause-within c =
    let x = c.self.inside in
    let d = c.args.domain.0 in
    let m = c.args.object.0 in
    let at = to_z-of_z w32 c.args.at c.ranges.at in
    let count = to_z-of_z w32 c.from.result (record { sfits = c.from.type_inv }) ∙ c.from.ensures in
    let p : ℕ × ℕ = (c.in-Ok.extent, c.in-Ok.from) in
    let found = found_at x.objects d m c.args.at (pos c.args.width) _ _ (Ok p) (sym c.in-Ok.is ∙ c.check.ensures) at count in
    let here = is_at x.objects d m c.args.at (pos c.args.width) p found in
    place_lies x.objects x.extents.items x.pool d m c.args.at (pos c.args.width) p c.self.invariant.backed here

pub invariant_of-self : goal.invariant_of-self
invariant_of-self c = space_written c.self.inside c.set.new.self c.in-Ok.extent c.in-Ok.from c.args.width _ c.self.invariant c.set.ensures

pub returns-in-Ok-clause-reply : goal.returns-in-Ok-clause-reply
returns-in-Ok-clause-reply c =
    let x = c.self.inside in
    let d = c.args.domain.0 in
    let m = c.args.object.0 in
    let at = to_z-of_z w32 c.args.at c.ranges.at in
    let count = to_z-of_z w32 c.from.result (record { sfits = c.from.type_inv }) ∙ c.from.ensures in
    let p : ℕ × ℕ = (c.in-Ok.extent, c.in-Ok.from) in
    let found = found_at x.objects d m c.args.at (pos c.args.width) _ _ (Ok p) (sym c.in-Ok.is ∙ c.check.ensures) at count in
    let here = is_at x.objects d m c.args.at (pos c.args.width) p found in
    subst (λ (z : SpaceState). reply.Done ≡ replied (held_in z d m) (done_within c.args.at (pos c.args.width))) c.self.view_is
    (done_at x.objects d m c.args.at (pos c.args.width) p here)

pub returns-in-Err-clause-reply : goal.returns-in-Err-clause-reply
returns-in-Err-clause-reply c =
    let x = c.self.inside in
    let d = c.args.domain.0 in
    let m = c.args.object.0 in
    let at = to_z-of_z w32 c.args.at c.ranges.at in
    let count = to_z-of_z w32 c.from.result (record { sfits = c.from.type_inv }) ∙ c.from.ensures in
    let found = found_at x.objects d m c.args.at (pos c.args.width) _ _ (Err c.in-Err.refusal) (sym c.in-Err.is ∙ c.check.ensures) at count in
    subst (λ (z : SpaceState). reply.Refused c.in-Err.refusal ≡ replied (held_in z d m) (done_within c.args.at (pos c.args.width))) c.self.view_is
    (done_refused x.objects d m c.args.at (pos c.args.width) c.in-Err.refusal found)
