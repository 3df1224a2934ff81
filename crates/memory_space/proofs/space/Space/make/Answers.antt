use Rattle.std.proofs.Common.{◌≡◌, ◌∙◌, ◌+◌, sym, ap, subst, arith, length, false, true, ℕ, List, Bool, Some, None, Option, if◌then◌else◌}
use Rattle.std.specs.Prelude.{IfSome}
use Rattle.extent_pool.specs.Taken.{AreTaken, with_run}
use Rattle.jx_base.proofs.BasicLaws.{ap2}
use Rattle.jx_model.specs.Tables.{ExtentRecord}
use Rattle.table_steps.specs.Steps as Steps
use Rattle.jx_base.specs.declared.act.Refusal.TheVariants as refusal
use Rattle.jx_base.specs.declared.act.Reply.TheVariants as reply
use Rattle.jx_base.specs.declared.ids.ObjectId.{ObjectId}
use Rattle.jx_model.specs.Granules.{extent_granules}
use Rattle.jx_model.specs.Replies.{given_or}
use Rattle.memory_objects.specs.ObjectLists.{ObjectsState, lacks_in, next_object, with_root}
use Rattle.memory_space.specs.declared.space.Space.TheInside.{Inside}
use Rattle.memory_space.specs.Backing.{space_state}
use Rattle.memory_space.specs.ExtentLists.{ExtentsState, IsClear}
use Rattle.memory_space.specs.SpaceLists.{SpaceState, objects_in, room_in, with_alloc}
use Rattle.memory_space.proofs.Allocated.{free_clear, free_end, made_reply, no_room, some_granules, space_root}
use Rattle.memory_space.proofs.RunsTaken.{run_taken}
use Rattle.memory_space.proofs.space.Space.make.Goals as goal

pub take-requires : goal.take-requires
take-requires c = some_granules c.args.size c.extent_granules.result c.extent_granules.ensures c.requires.some

pub returns-in_default-clause-reply : goal.returns-in_default-clause-reply
returns-in_default-clause-reply c =
    let x = c.self.inside in
    no_room x.objects x.pool c.extent_granules.result (sym c.in_default.is ∙ c.take.ensures.place)
    ∙ ap (λ (n : ℕ). given_or (room_in (space_state x) n) refusal.NoRoom (λ at. reply.Made (next_object x.objects 1) at)) c.extent_granules.ensures
    ∙ ap (λ (z : SpaceState). given_or (room_in z (extent_granules c.args.size)) refusal.NoRoom (λ at. reply.Made (next_object (objects_in z) 1) at)) c.self.view_is

pub add-extent-requires-clause-within : goal.add-extent-requires-clause-within
add-extent-requires-clause-within c =
    let x = c.self.inside in
    omega (arith, free_end x.pool c.extent_granules.result c.in-Some.at (sym c.in-Some.is ∙ c.take.ensures.place), c.extent_granules.ensures, c.self.invariant.granules)

pub add-extent-requires-clause-clear : goal.add-extent-requires-clause-clear
add-extent-requires-clause-clear c =
    let x = c.self.inside in
    subst (λ (n : ℕ). IsClear x.extents.items (c.in-Some.at, n)) c.extent_granules.ensures
    (free_clear x.objects x.extents.items x.pool c.extent_granules.result c.in-Some.at c.self.invariant.backed (sym c.in-Some.is ∙ c.take.ensures.place))

-- the objects with the new one
rooted : (x : Inside) (new : ObjectsState) (d e size : ℕ) (y : SpaceState) → space_state x ≡ y → lacks_in (objects_in y) 1 ≡ false → e ≡ length x.extents.items + 1 →
    new ≡ (if lacks_in x.objects 1 then x.objects else with_root x.objects d e size) → new ≡ with_root x.objects d (length x.extents.items + 1) size
rooted x new d e size y view room n h =
    h ∙ ap (λ (b : Bool). if b then x.objects else with_root x.objects d e size) (ap (λ (z : SpaceState). lacks_in (objects_in z) 1) view ∙ room)
    ∙ ap (λ (k : ℕ). with_root x.objects d k size) n

pub invariant_of-self-2 : goal.invariant_of-self-2
invariant_of-self-2 c =
    let x = c.self.inside in
    let given : AreTaken c.take.new.self c.in-Some.at c.extent_granules.result = subst (λ (o : Option ℕ). IfSome o (λ at. AreTaken c.take.new.self at c.extent_granules.result)) c.in-Some.is c.take.ensures.given in
    let pool : c.take.new.self ≡ with_run x.pool c.in-Some.at c.extent_granules.result true = subst (λ (o : Option ℕ). IfSome o (λ at. c.take.new.self ≡ with_run x.pool at c.extent_granules.result true)) c.in-Some.is c.take.ensures.taken in
    space_root x c.root.new.self c.add-extent.new.self c.take.new.self c.args.domain.0 c.args.size c.in-Some.at c.extent_granules.result c.self.invariant c.requires.small c.extent_granules.ensures
    given pool c.add-extent.ensures.after
    (rooted x c.root.new.self c.args.domain.0 c.add-extent.result c.args.size c.args.self.now c.self.view_is c.requires.room c.add-extent.ensures.number c.root.ensures.after)

-- the object that is made
made : (x : Inside) (r : Option ObjectId) (object : ObjectId) (y : SpaceState) → space_state x ≡ y → lacks_in (objects_in y) 1 ≡ false → r ≡ Some object →
    r ≡ (if lacks_in x.objects 1 then None else Some (next_object x.objects 1)) → object ≡ next_object x.objects 1
made x r object y view room is h =
    let q : Some object ≡ Some (next_object x.objects 1) = sym is ∙ h ∙ ap (λ (b : Bool). if b then None else Some (next_object x.objects 1)) (ap (λ (z : SpaceState). lacks_in (objects_in z) 1) view ∙ room) in
    cc

pub returns-clause-reply : goal.returns-clause-reply
returns-clause-reply c =
    let x = c.self.inside in
    ap (λ (m : ObjectId). reply.Made m c.in-Some.at) (made x c.root.result c.in-Some-root.object c.args.self.now c.self.view_is c.requires.room c.in-Some-root.is c.root.ensures.number)
    ∙ made_reply x.objects x.pool c.extent_granules.result c.in-Some.at (sym c.in-Some.is ∙ c.take.ensures.place)
    ∙ ap (λ (n : ℕ). given_or (room_in (space_state x) n) refusal.NoRoom (λ at. reply.Made (next_object x.objects 1) at)) c.extent_granules.ensures
    ∙ ap (λ (z : SpaceState). given_or (room_in z (extent_granules c.args.size)) refusal.NoRoom (λ at. reply.Made (next_object (objects_in z) 1) at)) c.self.view_is

-- what is seen once it is made
seen : (x : Inside) (objects : ObjectsState) (es : ExtentsState) (pool : List Bool) (d size at n : ℕ) (m : ObjectId) → n ≡ extent_granules size → pool ≡ with_run x.pool at n true →
    es.items ≡ (with_alloc (space_state x) d size (reply.Made m at)).extents → objects ≡ with_root x.objects d (length x.extents.items + 1) size →
    space_state (record { objects = objects; extents = es; pool = pool }) ≡ with_alloc (space_state x) d size (reply.Made m at)
seen x objects es pool d size at n m g p q r =
    let flags : pool ≡ (with_alloc (space_state x) d size (reply.Made m at)).taken = p ∙ run_taken x.pool at n ∙ ap (λ (k : ℕ). Steps.with_run (at, k) x.pool) g in
    ap (λ (z : ObjectsState). let w : SpaceState = record { parts = z.parts; objects = z.records; extents = es.items; taken = pool } in w) r
    ∙ ap2 (λ (items : List ExtentRecord) (bs : List Bool). let w : SpaceState = record { parts = (with_root x.objects d (length x.extents.items + 1) size).parts; objects = (with_root x.objects d (length x.extents.items + 1) size).records; extents = items; taken = bs } in w) q flags

pub returns-clause-after : goal.returns-clause-after
returns-clause-after c =
    let x = c.self.inside in
    let pool : c.take.new.self ≡ with_run x.pool c.in-Some.at c.extent_granules.result true = subst (λ (o : Option ℕ). IfSome o (λ at. c.take.new.self ≡ with_run x.pool at c.extent_granules.result true)) c.in-Some.is c.take.ensures.taken in
    seen x c.root.new.self c.add-extent.new.self c.take.new.self c.args.domain.0 c.args.size c.in-Some.at c.extent_granules.result c.in-Some-root.object c.extent_granules.ensures pool
    (ap (λ (z : ExtentsState). z.items) c.add-extent.ensures.after)
    (rooted x c.root.new.self c.args.domain.0 c.add-extent.result c.args.size c.args.self.now c.self.view_is c.requires.room c.add-extent.ensures.number c.root.ensures.after)
    ∙ ap (λ (z : SpaceState). with_alloc z c.args.domain.0 c.args.size (reply.Made c.in-Some-root.object c.in-Some.at)) c.self.view_is
