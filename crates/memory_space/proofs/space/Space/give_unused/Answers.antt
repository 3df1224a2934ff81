use Rattle.std.proofs.Common.{◌≡◌, ◌∙◌, ◌-◌, ◌<◌, ◌==◌, sym, ap, subst, not, filter, false, ℕ, List, Bool, Some, None, Option, length, is_some, true}
use Rattle.jx_base.specs.Basics.{numbered}
use Rattle.std.specs.Prelude.{IfSome}
use Rattle.extent_pool.specs.Taken as Pool
use Rattle.jx_base.proofs.BasicLaws.{ap2}
use Rattle.jx_model.specs.Granules.{Run}
use Rattle.jx_model.specs.Tables.{ExtentRecord}
use Rattle.table_objects.specs.ObjectChanges.{count_of}
use Rattle.table_threads.proofs.Numbered.{numbered_from_one}
use Rattle.table_threads.specs.Changes.{changed_at}
use Rattle.memory_objects.specs.ObjectLists.{ObjectsState, first_unused, without_extent}
use Rattle.memory_space.specs.declared.space.Space.TheInside.{Inside}
use Rattle.memory_space.specs.Backing.{IsBacked, IsSpace, shapes_of, space_state}
use Rattle.memory_space.specs.ExtentLists.{ExtentsState, IsClear, without_bytes}
use Rattle.memory_space.specs.SpaceLists.{SpaceState, has_bytes, swept}
use Rattle.memory_space.proofs.Backed.{length_run}
use Rattle.memory_space.proofs.Swept.{IsUnused, all_used, backed_forgotten, fewer, is_unused, none_unused, swept_same}
use Rattle.memory_space.proofs.space.Space.give_unused.Goals as goal

-- the extent that is found
found : (x : Inside) (r : Option ℕ) (e : ℕ) → IsSpace x → r ≡ first_unused x.objects → r ≡ Some e → IsUnused x.objects x.extents.items x.pool e
found x r e inv h is = is_unused x.objects x.extents.items x.pool e inv.backed (sym h ∙ is)

-- its run
run_is : (es : List ExtentRecord) (e : ℕ) (item : ExtentRecord) (run : Run) → numbered es e ≡ Some item → IfSome (numbered es e) (λ z. z.run ≡ run) → item.run ≡ run
run_is es e item run h k = subst (λ (o : Option ExtentRecord). IfSome o (λ z. z.run ≡ run)) h k

pub forget-at-requires : goal.forget-at-requires
forget-at-requires c = (found c.self.inside c.unused.result c.in-Some.extent c.self.invariant c.unused.ensures.extent c.in-Some.is).bytes

pub give-requires : goal.give-requires
give-requires c =
    let x = c.self.inside in
    let f = found x c.unused.result c.in-Some.extent c.self.invariant c.unused.ensures.extent c.in-Some.is in
    subst (λ (r : Run). Pool.AreTaken x.pool r.0 r.1) (run_is x.extents.items c.in-Some.extent f.item c.forget-at.result f.there c.forget-at.ensures.run) f.taken

-- the objects that are left to be told of
told : (y new : ObjectsState) (r : Option ℕ) (e : ℕ) → r ≡ Some e → new ≡ record y { extents = without_extent r y.extents } → new ≡ record y { extents = filter (λ x. not (e == x)) y.extents }
told y new r e is h = h ∙ ap (λ (o : Option ℕ). let z : ObjectsState = record y { extents = without_extent o y.extents } in z) is

-- all still goes together
left : (x : Inside) (objects : ObjectsState) (es : ExtentsState) (pool : List Bool) (e : ℕ) (run : Run) → IsSpace x → IsUnused x.objects x.extents.items x.pool e →
    objects ≡ record x.objects { extents = filter (λ k. not (e == k)) x.objects.extents } → es ≡ record x.extents { items = changed_at (e - 1) without_bytes x.extents.items } →
    IsClear es.items run → pool ≡ Pool.with_run x.pool run.0 run.1 false → IsSpace (record { objects = objects; extents = es; pool = pool })
left x objects es pool e run inv f p q clear r =
    let items : es.items ≡ changed_at (e - 1) without_bytes x.extents.items = ap (λ (z : ExtentsState). z.items) q in
    let y : ObjectsState = record x.objects { extents = filter (λ k. not (e == k)) x.objects.extents } in
    record {
      granules = ap (λ (z : ExtentsState). z.granules) q ∙ inv.granules ∙ sym (ap (λ (bs : List Bool). length bs) r ∙ length_run x.pool run.0 run.1 false);
      backed =
          subst (λ (z : ObjectsState). IsBacked z (shapes_of es.items) pool) (sym p)
          (subst (λ (is : List ExtentRecord). IsBacked y (shapes_of is) pool) (sym items)
          (subst (λ (bs : List Bool). IsBacked y (shapes_of (changed_at (e - 1) without_bytes x.extents.items)) bs) (sym r)
          (backed_forgotten x.objects x.extents.items x.pool e run inv.backed (numbered_from_one x.extents.items e f.item f.there) f.unused
          (subst (λ (is : List ExtentRecord). IsClear is run) items clear))));
    }

pub invariant_of-self : goal.invariant_of-self
invariant_of-self c =
    let x = c.self.inside in
    left x c.unused.new.self c.forget-at.new.self c.give.new.self c.in-Some.extent c.forget-at.result c.self.invariant
    (found x c.unused.result c.in-Some.extent c.self.invariant c.unused.ensures.extent c.in-Some.is)
    (told x.objects c.unused.new.self c.unused.result c.in-Some.extent c.in-Some.is c.unused.ensures.after)
    c.forget-at.ensures.after c.forget-at.ensures.clear c.give.ensures

-- as much is swept
rest : (x : Inside) (objects : ObjectsState) (es : ExtentsState) (pool : List Bool) (e : ℕ) (run : Run) → IsUnused x.objects x.extents.items x.pool e → (f : ExtentRecord) → numbered x.extents.items e ≡ Some f → f.run ≡ run →
    objects ≡ record x.objects { extents = filter (λ k. not (e == k)) x.objects.extents } → es ≡ record x.extents { items = changed_at (e - 1) without_bytes x.extents.items } →
    pool ≡ Pool.with_run x.pool run.0 run.1 false → is_some f.bytes ≡ true → swept (space_state (record { objects = objects; extents = es; pool = pool })) ≡ swept (space_state x)
rest x objects es pool e run u f there same p q r s =
    ap (λ (z : ObjectsState). swept (space_state (record { objects = z; extents = es; pool = pool }))) p
    ∙ ap2 (λ (z : ExtentsState) (bs : List Bool). let w : SpaceState = record (space_state x) { extents = z.items; taken = bs } in swept w) q (r ∙ ap (λ (k : Run). Pool.with_run x.pool k.0 k.1 false) (sym same))
    ∙ swept_same (space_state x) e f (numbered_from_one x.extents.items e f there) there s u.unused

pub returns-in-Some-clause-rest : goal.returns-in-Some-clause-rest
returns-in-Some-clause-rest c _ =
    let x = c.self.inside in
    let f = found x c.unused.result c.in-Some.extent c.self.invariant c.unused.ensures.extent c.in-Some.is in
    rest x c.unused.new.self c.forget-at.new.self c.give.new.self c.in-Some.extent c.forget-at.result f f.item f.there
    (run_is x.extents.items c.in-Some.extent f.item c.forget-at.result f.there c.forget-at.ensures.run)
    (told x.objects c.unused.new.self c.unused.result c.in-Some.extent c.in-Some.is c.unused.ensures.after)
    c.forget-at.ensures.after c.give.ensures f.some
    ∙ ap swept c.self.view_is

pub returns-in-Some-clause-fewer : goal.returns-in-Some-clause-fewer
returns-in-Some-clause-fewer c _ =
    let x = c.self.inside in
    let f = found x c.unused.result c.in-Some.extent c.self.invariant c.unused.ensures.extent c.in-Some.is in
    subst (λ (z : SpaceState). count_of has_bytes c.forget-at.new.self.items < count_of has_bytes z.extents) c.self.view_is
    (subst (λ (z : ExtentsState). count_of has_bytes z.items < count_of has_bytes x.extents.items) (sym c.forget-at.ensures.after)
    (fewer x.extents.items c.in-Some.extent f.item (numbered_from_one x.extents.items c.in-Some.extent f.item f.there) f.there f.some))

-- what is seen where none is found
none : (x : Inside) (new : ObjectsState) (r : Option ℕ) → IsSpace x → r ≡ first_unused x.objects → r ≡ None → new ≡ record x.objects { extents = without_extent r x.objects.extents } →
    space_state (record x { objects = new }) ≡ swept (space_state x)
none x new r inv h is p =
    ap (λ (z : ObjectsState). space_state (record x { objects = z })) p
    ∙ all_used (space_state x) (none_unused x.objects x.extents.items x.pool inv.backed (sym h ∙ is))

pub returns-in-None-clause-none : goal.returns-in-None-clause-none
returns-in-None-clause-none c _ =
    none c.self.inside c.unused.new.self c.unused.result c.self.invariant c.unused.ensures.extent c.in-None.is c.unused.ensures.after
    ∙ ap swept c.self.view_is
