-- The values on the top of a stack, and steps that leave the running frame.
use Rattle.std.proofs.Common.{◌≡◌, ℕ, List, [], ◌∷◌, drop, Option, Some, None, refl, sym, ap, ◌∙◌, subst}
use Rattle.std.specs.Prelude.{Vec, reverse, slice_get}
use Rattle.std.specs.declared.alloc.Global.{Global}
use Rattle.jx_base.specs.declared.frame.Frame.{Frame}
use Rattle.jx_base.specs.declared.value.Value.{Value}
use Rattle.jx_base.specs.declared.value.Value.TheVariants as value
use Rattle.machine_model.specs.NumericRows.{Stack}
use Rattle.machine_model.specs.ObjectRows.{ObjectOutcome, Raised, leaves, leaves_new, with_result}
use Rattle.machine_model.specs.State.{Core, Store}
use Rattle.jx_base.specs.declared.program.System.{System}
use Rattle.interp_core.specs.Cores.{core_state, running_stack}
use Rattle.interp_core.specs.Making.{Makes}
use Rattle.interp_core.specs.Steps.{Gives, Leaves}
use Rattle.interp_core.specs.declared.cores.Core.{Core as OneCore}
use Rattle.interp_core.specs.declared.step.ObjStep.{ObjStep}
use Rattle.interp_core.specs.declared.step.ObjStep.TheVariants as step

pub top_is : (s : Stack) (v : Value) → Some v ≡ slice_get s 0 → s ≡ v ∷ drop 1 s
top_is [] v e = absurd cc
top_is (w ∷ s) v e = let q : v ≡ w = cc in ap (λ x. x ∷ s) (sym q)

pub two_are : (s : Stack) (v w : Value) → Some v ≡ slice_get s 0 → Some w ≡ slice_get s 1 → s ≡ v ∷ w ∷ drop 2 s
two_are [] v w e f = absurd cc
two_are (a ∷ []) v w e f = absurd cc
two_are (a ∷ b ∷ s) v w e f = let p : v ≡ a = cc in let q : w ≡ b = cc in ap (λ x. x ∷ b ∷ s) (sym p) ∙ ap (λ x. v ∷ x ∷ s) (sym q)

pub three_are : (s : Stack) (v w u : Value) → Some v ≡ slice_get s 0 → Some w ≡ slice_get s 1 → Some u ≡ slice_get s 2 → s ≡ v ∷ w ∷ u ∷ drop 3 s
three_are [] v w u e f g = absurd cc
three_are (a ∷ []) v w u e f g = absurd cc
three_are (a ∷ b ∷ []) v w u e f g = absurd cc
three_are (a ∷ b ∷ c ∷ s) v w u e f g =
    let p : v ≡ a = cc in let q : w ≡ b = cc in let r : u ≡ c = cc in
    ap (λ x. x ∷ b ∷ c ∷ s) (sym p) ∙ ap (λ x. v ∷ x ∷ c ∷ s) (sym q) ∙ ap (λ x. v ∷ w ∷ x ∷ s) (sym r)

-- ---- steps

-- a step that leaves gives the same from any core
pub gives_left : (x : ObjStep) (old new : Core) (r : ObjectOutcome) → Leaves x new r → Gives x old new r
gives_left step.Next old new r h = h
gives_left step.BadCode old new r h = h
gives_left (step.Raise c) old new r h = absurd h
gives_left (step.Raised c) old new r h = absurd h
gives_left (step.Ask c) old new r h = absurd h
gives_left (step.Finish c) old new r h = absurd h
gives_left step.NotMine old new r h = absurd h

pub gives_as : (x : ObjStep) (old new : Core) (r q : ObjectOutcome) → r ≡ q → Leaves x new q → Gives x old new r
gives_as x old new r q e h = gives_left x old new r (subst (λ (o : ObjectOutcome). Leaves x new o) (sym e) h)

pub same_step : (x : ObjStep) (old new : Core) (r q : ObjectOutcome) → r ≡ q → Gives x old new q → Gives x old new r
same_step x old new r q e h = subst (λ (o : ObjectOutcome). Gives x old new o) (sym e) h

-- a store that changed before the frame leaves
pub leaves_after : (s : System) (before mid : Core) (stack : Stack) → mid.frames ≡ before.frames → leaves s mid mid.store stack ≡ leaves s before mid.store stack
unfolding leaves
leaves_after s before mid stack e = rw e refl

pub same_running : (before mid : Core) → mid.frames ≡ before.frames → running_stack mid ≡ running_stack before
unfolding running_stack
same_running before mid e = rw e refl

-- ---- objects that were made

made_some : (before mid : Store) (object : ℕ) (o : Option (Store × ℕ)) → Makes (Some object) before mid o → o ≡ Some (mid, object)
made_some before mid object o m = m

pub left_new : (s : System) (x : ObjStep) (before mid new : Core) (n object : ℕ) (made : Option ℕ) (o : Option (Store × ℕ)) → made ≡ Some object → mid.frames ≡ before.frames → Makes made before.store mid.store o
    → Leaves x new (leaves s mid mid.store (with_result (Some (value.Ref object)) (drop n (running_stack mid)))) → Gives x before new (leaves_new s before (drop n (running_stack before)) o)
unfolding leaves_new with_result
left_new s x before mid new n object made o e f m h =
    let is : o ≡ Some (mid.store, object) = subst (λ (k : Option ℕ). Makes k before.store mid.store o) e m in
    let stack = value.Ref object ∷ drop n (running_stack before) in
    gives_as x before new _ (leaves s mid mid.store (value.Ref object ∷ drop n (running_stack mid)))
    (ap (λ (k : Option (Store × ℕ)). leaves_new s before (drop n (running_stack before)) k) is
    ∙ sym (leaves_after s before mid stack f)
    ∙ ap (λ (k : Stack). leaves s mid mid.store (value.Ref object ∷ drop n k)) (sym (same_running before mid f))) h

pub none_new : (s : System) (before mid : Core) (n : ℕ) (made : Option ℕ) (o : Option (Store × ℕ)) → made ≡ None → mid.frames ≡ before.frames → Makes made before.store mid.store o
    → leaves_new s before (drop n (running_stack before)) o ≡ Raised 0 mid
unfolding leaves_new
none_new s before mid n made o e f m =
    let is : (o ≡ None) × (mid.store ≡ before.store) = subst (λ (k : Option ℕ). Makes k before.store mid.store o) e m in
    ap (λ (k : Option (Store × ℕ)). leaves_new s before (drop n (running_stack before)) k) is.0
    ∙ ap (λ (fs : List Frame). Raised 0 (record { frames = fs; store = before.store })) (sym f)
    ∙ ap (λ (t : Store). Raised 0 (record { frames = mid.frames; store = t })) (sym is.1)

-- ---- values that were put

pub same_frames : (old new : OneCore) → new.frames ≡ old.frames → (core_state new).frames ≡ (core_state old).frames
same_frames old new e = ap (λ (v : Vec Frame Global). reverse v.items) e

pub after_put : (s : System) (x : ObjStep) (before mid new : Core) (n : ℕ) (r : ObjectOutcome) → mid.frames ≡ before.frames → r ≡ leaves s before mid.store (drop n (running_stack before))
    → Leaves x new (leaves s mid mid.store (with_result None (drop n (running_stack mid)))) → Gives x before new r
unfolding with_result
after_put s x before mid new n r f e h =
    gives_as x before new r (leaves s mid mid.store (drop n (running_stack mid)))
    (e ∙ sym (leaves_after s before mid (drop n (running_stack before)) f) ∙ ap (λ (k : Stack). leaves s mid mid.store (drop n k)) (sym (same_running before mid f))) h
