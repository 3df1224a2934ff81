use Rattle.std.proofs.Common.{◌∙◌, sym, ap, Ok, Err, ℕ}
use Rattle.std.specs.Int.{w32}
use Rattle.std.specs.Prelude.{ℤ, pos}
use Rattle.std.proofs.lemmas.Int.{to_z-of_z}
use Rattle.jx_base.specs.Basics.{not_below_zero}
use Rattle.jx_base.specs.declared.act.Reply.TheVariants as reply
use Rattle.memory_objects.specs.ObjectLists.{replied}
use Rattle.memory_space.specs.SpaceLists.{SpaceState, held_in, read_in}
use Rattle.memory_space.specs.ExtentLists.{LieWithin}
use Rattle.memory_space.proofs.Backed.{found_at, is_at, place_lies, read_at, read_refused}
use Rattle.memory_space.proofs.space.Space.get.Goals as goal

pub get-requires-clause-within : goal.get-requires-clause-within
unfolding not_below_zero
get-requires-clause-within c =
    let x = c.self.inside in
    let d = c.args.domain.0 in
    let m = c.args.object.0 in
    let at = to_z-of_z w32 c.args.at c.ranges.at in
    let count = to_z-of_z w32 c.from.result (record { sfits = c.from.type_inv }) ∙ c.from.ensures in
    let p : ℕ × ℕ = (c.in-Ok.extent, c.in-Ok.from) in
    let found = found_at x.objects d m c.args.at (pos c.args.width) _ _ (Ok p) (sym c.in-Ok.is ∙ c.check.ensures) at count in
    let here = is_at x.objects d m c.args.at (pos c.args.width) p found in
    place_lies x.objects x.extents.items x.pool d m c.args.at (pos c.args.width) p c.self.invariant.backed here

pub returns-in-Ok : goal.returns-in-Ok
unfolding not_below_zero
returns-in-Ok c =
    let x = c.self.inside in
    let d = c.args.domain.0 in
    let m = c.args.object.0 in
    let at = to_z-of_z w32 c.args.at c.ranges.at in
    let count = to_z-of_z w32 c.from.result (record { sfits = c.from.type_inv }) ∙ c.from.ensures in
    let p : ℕ × ℕ = (c.in-Ok.extent, c.in-Ok.from) in
    let found = found_at x.objects d m c.args.at (pos c.args.width) _ _ (Ok p) (sym c.in-Ok.is ∙ c.check.ensures) at count in
    let here = is_at x.objects d m c.args.at (pos c.args.width) p found in
    let within : LieWithin x.extents.items p.0 p.1 c.args.width = place_lies x.objects x.extents.items x.pool d m c.args.at (pos c.args.width) p c.self.invariant.backed here in
    ap (λ (z : ℤ). reply.Number z) (to_z-of_z w32 c.get.result (record { sfits = c.get.type_inv }) ∙ c.get.ensures)
    ∙ read_at x.objects x.extents.items d m c.args.at c.args.width p here within
    ∙ ap (λ (z : SpaceState). replied (held_in z d m) (read_in z.extents c.args.at c.args.width)) c.self.view_is

pub returns-in-Err : goal.returns-in-Err
returns-in-Err c =
    let x = c.self.inside in
    let d = c.args.domain.0 in
    let m = c.args.object.0 in
    let at = to_z-of_z w32 c.args.at c.ranges.at in
    let count = to_z-of_z w32 c.from.result (record { sfits = c.from.type_inv }) ∙ c.from.ensures in
    let found = found_at x.objects d m c.args.at (pos c.args.width) _ _ (Err c.in-Err.refusal) (sym c.in-Err.is ∙ c.check.ensures) at count in
    read_refused x.objects x.extents.items d m c.args.at c.args.width c.in-Err.refusal found
    ∙ ap (λ (z : SpaceState). replied (held_in z d m) (read_in z.extents c.args.at c.args.width)) c.self.view_is
