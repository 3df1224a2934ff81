use Rattle.std.proofs.Common.{◌≡◌, ◌∙◌, sym, ap, subst, refl, true, false, ◌&&◌, Bool, Ok, Err, ℕ}
use Rattle.std.specs.Int.{w32}
use Rattle.std.specs.Prelude.{ℤ}
use Rattle.std.proofs.lemmas.Int.{to_z-of_z}
use Rattle.jx_base.specs.declared.act.Refusal.{Refusal}
use Rattle.jx_base.specs.declared.act.Refusal.TheVariants as refusal
use Rattle.jx_base.specs.declared.act.Reply.TheVariants as reply
use Rattle.jx_base.specs.Basics.{not_below_zero}
use Rattle.jx_base.proofs.BasicLaws.{ap2}
use Rattle.memory_objects.specs.ObjectLists.{holds_in, valid_in}
use Rattle.memory_space.specs.Backing.{shapes_of, space_state}
use Rattle.memory_space.specs.ExtentLists.{LieWithin}
use Rattle.memory_space.specs.SpaceLists.{SpaceState, copied_in}
use Rattle.memory_space.proofs.Backed.{found_at, is_at, place_lies, space_written}
use Rattle.memory_space.proofs.Copied.{copied_by, part_within_is, place_refused, size_refused, size_told}
use Rattle.memory_space.proofs.space.Space.copy.Goals as goal
use Rattle.memory_space.proofs.space.Space.copy.Goals.{then-not-holds-via-then-not-holds, then-not-holds-via-else-not-holds+then-not-holds-2}

both_true : {a b : Bool} → a ≡ true → b ≡ true → (a && b) ≡ true
both_true p q = ap2 (λ (a b : Bool). a && b) p q

first_false : (a b : Bool) → a ≡ false → (a && b) ≡ false
first_false a b p = ap (λ (c : Bool). c && b) p

-- an object that isn't held
not_held : (y : SpaceState) (d m k : ℕ) (at k_at count : ℤ) → (holds_in y.objects d m && holds_in y.objects d k) ≡ false → reply.Refused refusal.NotHeld ≡ copied_in y d m at k k_at count
not_held y d m k at k_at count h = copied_by y d m at k k_at count false _ _ h refl refl

pub returns-then-not-holds-clause-reply : goal.returns-then-not-holds-clause-reply
returns-then-not-holds-clause-reply c =
    let x = c.self.inside in
    let d = c.args.domain.0 in
    let m = c.args.object.0 in
    let k = c.args.target.0 in
    let at = c.args.at in
    let k_at = c.args.target_at in
    let count = c.args.count in
    elim c.then-not-holds.branch [
      | then-not-holds-via-then-not-holds w ↦
          not_held (space_state x) d m k at k_at count (first_false _ _ (sym c.holds.ensures.held ∙ w.if-not-holds.true))
          ∙ ap (λ (z : SpaceState). copied_in z d m at k k_at count) c.self.view_is
      | then-not-holds-via-else-not-holds+then-not-holds-2 w ↦
          not_held (space_state x) d m k at k_at count (ap2 (λ (a b : Bool). a && b) (sym c.holds.ensures.held ∙ w.if-not-holds.false) (sym w.holds-else-not-holds.ensures.held ∙ w.if-not-holds-2.true))
          ∙ ap (λ (z : SpaceState). copied_in z d m at k k_at count) c.self.view_is
    ]

pub returns-in-Err-clause-reply : goal.returns-in-Err-clause-reply
returns-in-Err-clause-reply c =
    let x = c.self.inside in
    let d = c.args.domain.0 in
    let m = c.args.object.0 in
    let k = c.args.target.0 in
    let at = c.args.at in
    let k_at = c.args.target_at in
    let count = c.args.count in
    let held : (holds_in x.objects.records d m && holds_in x.objects.records d k) ≡ true = both_true (sym c.holds.ensures.held ∙ c.if-not-holds.false) (sym c.holds-else-not-holds.ensures.held ∙ c.if-not-holds-2.false) in
    let e = size_refused x.objects (shapes_of x.extents.items) x.pool d m c.in-Err.refusal c.self.invariant.backed (sym c.holds.ensures.held ∙ c.if-not-holds.false) (sym c.in-Err.is ∙ c.size.ensures) in
    ap (λ (r : Refusal). reply.Refused r) e.refused
    ∙ copied_by (space_state x) d m at k k_at count true false _ held (first_false _ _ e.ended) refl
    ∙ ap (λ (z : SpaceState). copied_in z d m at k k_at count) c.self.view_is

pub returns-in-Err-size-clause-reply : goal.returns-in-Err-size-clause-reply
returns-in-Err-size-clause-reply c =
    let x = c.self.inside in
    let d = c.args.domain.0 in
    let m = c.args.object.0 in
    let k = c.args.target.0 in
    let at = c.args.at in
    let k_at = c.args.target_at in
    let count = c.args.count in
    let held : (holds_in x.objects.records d m && holds_in x.objects.records d k) ≡ true = both_true (sym c.holds.ensures.held ∙ c.if-not-holds.false) (sym c.holds-else-not-holds.ensures.held ∙ c.if-not-holds-2.false) in
    let s = size_told x.objects d m c.in_default.field-0 (sym c.in_default.is ∙ c.size.ensures) in
    let e = size_refused x.objects (shapes_of x.extents.items) x.pool d k c.in-Err-size.refusal c.self.invariant.backed (sym c.holds-else-not-holds.ensures.held ∙ c.if-not-holds-2.false) (sym c.in-Err-size.is ∙ c.size-2.ensures) in
    ap (λ (r : Refusal). reply.Refused r) e.refused
    ∙ copied_by (space_state x) d m at k k_at count true false _ held (ap2 (λ (a b : Bool). a && b) s.held.valid e.ended) refl
    ∙ ap (λ (z : SpaceState). copied_in z d m at k k_at count) c.self.view_is

pub copy-requires-clause-from : goal.copy-requires-clause-from
copy-requires-clause-from c =
    let x = c.self.inside in
    let d = c.args.domain.0 in
    let m = c.args.object.0 in
    let k = c.args.target.0 in
    let at = c.args.at in
    let k_at = c.args.target_at in
    let count = c.args.count in
    let a = to_z-of_z w32 at c.ranges.at in
    let b = to_z-of_z w32 k_at c.ranges.target_at in
    let n = to_z-of_z w32 count c.ranges.count in
    let p : ℕ × ℕ = (c.in-Ok.extent, c.in-Ok.from) in
    let here = is_at x.objects d m at count p (found_at x.objects d m at count _ _ (Ok p) (sym c.in-Ok.is ∙ c.check.ensures) a n) in
    subst (λ (i : ℕ). LieWithin x.extents.items p.0 p.1 i) (sym (c.natural.ensures ∙ ap not_below_zero n))
    (place_lies x.objects x.extents.items x.pool d m at count p c.self.invariant.backed here)

pub copy-requires-clause-to : goal.copy-requires-clause-to
copy-requires-clause-to c =
    let x = c.self.inside in
    let d = c.args.domain.0 in
    let m = c.args.object.0 in
    let k = c.args.target.0 in
    let at = c.args.at in
    let k_at = c.args.target_at in
    let count = c.args.count in
    let a = to_z-of_z w32 at c.ranges.at in
    let b = to_z-of_z w32 k_at c.ranges.target_at in
    let n = to_z-of_z w32 count c.ranges.count in
    let q : ℕ × ℕ = (c.in-Ok-check.other, c.in-Ok-check.to) in
    let there = is_at x.objects d k k_at count q (found_at x.objects d k k_at count _ _ (Ok q) (sym c.in-Ok-check.is ∙ c.check-in-Ok.ensures) b n) in
    subst (λ (i : ℕ). LieWithin x.extents.items q.0 q.1 i) (sym (c.natural.ensures ∙ ap not_below_zero n))
    (place_lies x.objects x.extents.items x.pool d k k_at count q c.self.invariant.backed there)

pub invariant_of-self : goal.invariant_of-self
invariant_of-self c = space_written c.self.inside c.copy.new.self c.in-Ok-check.other c.in-Ok-check.to c.natural.result _ c.self.invariant c.copy.ensures

pub returns-in-Ok-check-clause-reply : goal.returns-in-Ok-check-clause-reply
returns-in-Ok-check-clause-reply c =
    let x = c.self.inside in
    let d = c.args.domain.0 in
    let m = c.args.object.0 in
    let k = c.args.target.0 in
    let at = c.args.at in
    let k_at = c.args.target_at in
    let count = c.args.count in
    let a = to_z-of_z w32 at c.ranges.at in
    let b = to_z-of_z w32 k_at c.ranges.target_at in
    let n = to_z-of_z w32 count c.ranges.count in
    let held : (holds_in x.objects.records d m && holds_in x.objects.records d k) ≡ true = both_true (sym c.holds.ensures.held ∙ c.if-not-holds.false) (sym c.holds-else-not-holds.ensures.held ∙ c.if-not-holds-2.false) in
    let s = size_told x.objects d m c.in_default.field-0 (sym c.in_default.is ∙ c.size.ensures) in
    let t = size_told x.objects d k c.in_default-size.field-0 (sym c.in_default-size.is ∙ c.size-2.ensures) in
    let valid : (valid_in x.objects.records m && valid_in x.objects.records k) ≡ true = both_true s.held.valid t.held.valid in
    let p : ℕ × ℕ = (c.in-Ok.extent, c.in-Ok.from) in
    let here = is_at x.objects d m at count p (found_at x.objects d m at count _ _ (Ok p) (sym c.in-Ok.is ∙ c.check.ensures) a n) in
    let q : ℕ × ℕ = (c.in-Ok-check.other, c.in-Ok-check.to) in
    let there = is_at x.objects d k k_at count q (found_at x.objects d k k_at count _ _ (Ok q) (sym c.in-Ok-check.is ∙ c.check-in-Ok.ensures) b n) in
    copied_by (space_state x) d m at k k_at count true true true held valid
    (both_true (part_within_is (space_state x) m here.part at count here.held.part ∙ here.within) (part_within_is (space_state x) k there.part k_at count there.held.part ∙ there.within))
    ∙ ap (λ (z : SpaceState). copied_in z d m at k k_at count) c.self.view_is

pub returns-in-Err-check-2-clause-reply : goal.returns-in-Err-check-2-clause-reply
returns-in-Err-check-2-clause-reply c =
    let x = c.self.inside in
    let d = c.args.domain.0 in
    let m = c.args.object.0 in
    let k = c.args.target.0 in
    let at = c.args.at in
    let k_at = c.args.target_at in
    let count = c.args.count in
    let a = to_z-of_z w32 at c.ranges.at in
    let b = to_z-of_z w32 k_at c.ranges.target_at in
    let n = to_z-of_z w32 count c.ranges.count in
    let held : (holds_in x.objects.records d m && holds_in x.objects.records d k) ≡ true = both_true (sym c.holds.ensures.held ∙ c.if-not-holds.false) (sym c.holds-else-not-holds.ensures.held ∙ c.if-not-holds-2.false) in
    let s = size_told x.objects d m c.in_default.field-0 (sym c.in_default.is ∙ c.size.ensures) in
    let t = size_told x.objects d k c.in_default-size.field-0 (sym c.in_default-size.is ∙ c.size-2.ensures) in
    let valid : (valid_in x.objects.records m && valid_in x.objects.records k) ≡ true = both_true s.held.valid t.held.valid in
    let p : ℕ × ℕ = (c.in-Ok.extent, c.in-Ok.from) in
    let here = is_at x.objects d m at count p (found_at x.objects d m at count _ _ (Ok p) (sym c.in-Ok.is ∙ c.check.ensures) a n) in
    let o = place_refused x.objects d k k_at count c.in-Err-check-2.refusal t (found_at x.objects d k k_at count _ _ (Err c.in-Err-check-2.refusal) (sym c.in-Err-check-2.is ∙ c.check-in-Ok.ensures) b n) in
    ap (λ (r : Refusal). reply.Refused r) o.refused
    ∙ copied_by (space_state x) d m at k k_at count true true false held valid
    (ap2 (λ (e f : Bool). e && f) (part_within_is (space_state x) m here.part at count here.held.part ∙ here.within) (part_within_is (space_state x) k t.part k_at count t.held.part ∙ o.out))
    ∙ ap (λ (z : SpaceState). copied_in z d m at k k_at count) c.self.view_is

pub returns-in-Err-check-clause-reply : goal.returns-in-Err-check-clause-reply
returns-in-Err-check-clause-reply c =
    let x = c.self.inside in
    let d = c.args.domain.0 in
    let m = c.args.object.0 in
    let k = c.args.target.0 in
    let at = c.args.at in
    let k_at = c.args.target_at in
    let count = c.args.count in
    let a = to_z-of_z w32 at c.ranges.at in
    let b = to_z-of_z w32 k_at c.ranges.target_at in
    let n = to_z-of_z w32 count c.ranges.count in
    let held : (holds_in x.objects.records d m && holds_in x.objects.records d k) ≡ true = both_true (sym c.holds.ensures.held ∙ c.if-not-holds.false) (sym c.holds-else-not-holds.ensures.held ∙ c.if-not-holds-2.false) in
    let s = size_told x.objects d m c.in_default.field-0 (sym c.in_default.is ∙ c.size.ensures) in
    let t = size_told x.objects d k c.in_default-size.field-0 (sym c.in_default-size.is ∙ c.size-2.ensures) in
    let valid : (valid_in x.objects.records m && valid_in x.objects.records k) ≡ true = both_true s.held.valid t.held.valid in
    let o = place_refused x.objects d m at count c.in-Err-check.refusal s (found_at x.objects d m at count _ _ (Err c.in-Err-check.refusal) (sym c.in-Err-check.is ∙ c.check.ensures) a n) in
    ap (λ (r : Refusal). reply.Refused r) o.refused
    ∙ copied_by (space_state x) d m at k k_at count true true false held valid
    (first_false _ _ (part_within_is (space_state x) m s.part at count s.held.part ∙ o.out))
    ∙ ap (λ (z : SpaceState). copied_in z d m at k k_at count) c.self.view_is
