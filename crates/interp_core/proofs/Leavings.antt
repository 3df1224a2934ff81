-- How the running frame leaves its instruction.
use Rattle.std.proofs.Common.{◌≡◌, ℕ, zero, suc, ◌+◌, ◌≤◌, ◌<◌, Bool, true, false, List, [], ◌∷◌, ◌++◌, drop, reverse, Option, Some, None, refl, sym, ap, ◌∙◌, subst, arith, All}
use Rattle.std.specs.Prelude.{not, nat_lt, if◌then◌else◌}
use Rattle.std.proofs.lemmas.Bool.Decides.{nat_tests}
use Rattle.std.proofs.lemmas.List.{reverse-append, drop-drop}
use Rattle.std.proofs.lemmas.List.Elements.{All-head}
use Rattle.jx_base.specs.declared.frame.Frame.{Frame}
use Rattle.jx_base.specs.declared.program.System.{System}
use Rattle.jx_base.specs.declared.value.Value.{Value}
use Rattle.jx_base.specs.Basics.{passes}
use Rattle.jx_base.specs.Stacks.{StackState}
use Rattle.interp_num.proofs.Depths.{depth_cons}
use Rattle.machine_model.specs.Conditions.{IsFrameOf}
use Rattle.machine_model.specs.NumericRows.{Stack, depth_of, slots_of}
use Rattle.machine_model.specs.ObjectRows.{Next, BadCode, leaves, next_unless_overfull, with_result}
use Rattle.machine_model.specs.State.{Store, Core, frame_behind, is_overfull, pc_behind, stack_limit, with_running, with_values}
use Rattle.interp_core.specs.Cores.{running_stack}

depth_none : depth_of [] ≡ 0
unfolding depth_of
depth_none = refl

pub depth_drop : (n : ℕ) (s : Stack) → depth_of (drop n s) ≤ depth_of s
depth_drop zero s = omega arith
depth_drop (suc n) [] = omega (arith, depth_none)
depth_drop (suc n) (v ∷ s) = omega (arith, depth_drop n s, depth_cons v s)

pub one_taken : (old mid new : StackState) (n : ℕ) → mid ≡ record old { values = drop n old.values } → new ≡ record mid { values = drop 1 mid.values } → new ≡ record old { values = drop (n + 1) old.values }
one_taken old mid new n e f = f ∙ ap (λ (s : StackState). record s { values = drop 1 s.values }) e ∙ ap (λ (v : Stack). record { values = v; room = old.room }) (drop-drop 1 n old.values)

-- ---- one frame

pub fits_none : (most n : ℕ) (s : Stack) (pushed : Option Value) → pushed ≡ None → depth_of s ≤ most → true ≡ not (nat_lt most (depth_of (with_result pushed (drop n s))))
unfolding with_result
fits_none most n s pushed e h =
    let le = depth_drop n s in
    let less : nat_lt most (depth_of (drop n s)) ≡ false = grind (arith, nat_tests) in
    rw e (sym (ap not less))

pub fits_some : (most n left : ℕ) (s : Stack) (v : Value) → depth_of (drop n s) + left ≡ most → slots_of v ≤ left → true ≡ not (nat_lt most (depth_of (with_result (Some v) (drop n s))))
unfolding with_result
fits_some most n left s v e h =
    let deep = depth_cons v (drop n s) in
    let less : nat_lt most (depth_of (v ∷ drop n s)) ≡ false = grind (arith, nat_tests) in
    sym (ap not less)

pub fits_not : (most n left : ℕ) (s : Stack) (v : Value) → depth_of (drop n s) + left ≡ most → left < slots_of v → false ≡ not (nat_lt most (depth_of (with_result (Some v) (drop n s))))
unfolding with_result
fits_not most n left s v e h =
    let deep = depth_cons v (drop n s) in
    let less : nat_lt most (depth_of (v ∷ drop n s)) ≡ true = grind (arith, nat_tests) in
    sym (ap not less)

pub frame_is : (s : System) (f : Frame) (pc : ℕ) (stack : Stack) (new : StackState) → pc ≡ pc_behind s f → new ≡ record f.stack { values = stack } → record f { pc = pc; stack = new } ≡ frame_behind s stack f
unfolding frame_behind with_values
frame_is s f pc stack new e g = rw (e, g) refl

-- ---- the frames

pub last_first : {A : Type 0} (xs ys : List A) (x : A) → xs ≡ ys ++ x ∷ [] → reverse xs ≡ x ∷ reverse ys
last_first xs ys x e = ap reverse e ∙ reverse-append ys (x ∷ [])

pub head_frame : (s : System) (frames callers : List Frame) (f : Frame) → frames ≡ f ∷ callers → All (IsFrameOf s) frames → IsFrameOf s f
head_frame s frames callers f e h = All-head (IsFrameOf s) f callers (subst (λ (fs : List Frame). All (IsFrameOf s) fs) e h)

-- the stack of the running frame
pub running_is : (core : Core) (callers : List Frame) (f : Frame) → core.frames ≡ f ∷ callers → running_stack core ≡ f.stack.values
unfolding running_stack
running_is core callers f e = rw e refl

pub leaves_none : (s : System) (core : Core) (stack : Stack) → core.frames ≡ [] → leaves s core core.store stack ≡ Next core
unfolding leaves next_unless_overfull is_overfull with_running passes
leaves_none s core stack e = rw e refl

over : (s : System) (store : Store) (g : Frame) (callers : List Frame) (b : Bool) → nat_lt (stack_limit s g) (depth_of g.stack.values) ≡ b → next_unless_overfull s store (g ∷ callers) ≡ (if b then BadCode else Next (record { frames = g ∷ callers; store = store }))
unfolding next_unless_overfull is_overfull passes
over s store g callers b e = ap (λ (x : Bool). if x then BadCode else Next (record { frames = g ∷ callers; store = store })) e

same_limit : (s : System) (f : Frame) (stack : Stack) → stack_limit s (frame_behind s stack f) ≡ stack_limit s f
unfolding stack_limit frame_behind with_values
same_limit s f stack = refl

same_stack : (s : System) (f : Frame) (stack : Stack) → (frame_behind s stack f).stack.values ≡ stack
unfolding frame_behind with_values
same_stack s f stack = refl

leaves_by : (s : System) (core : Core) (f : Frame) (callers : List Frame) (stack : Stack) (b : Bool) → core.frames ≡ f ∷ callers → nat_lt (stack_limit s f) (depth_of stack) ≡ b
    → leaves s core core.store stack ≡ (if b then BadCode else Next (record { frames = frame_behind s stack f ∷ callers; store = core.store }))
unfolding leaves with_running
leaves_by s core f callers stack b e h =
    let deep : nat_lt (stack_limit s (frame_behind s stack f)) (depth_of (frame_behind s stack f).stack.values) ≡ b =
    ap (λ (n : ℕ). nat_lt n (depth_of (frame_behind s stack f).stack.values)) (same_limit s f stack) ∙ ap (λ (k : Stack). nat_lt (stack_limit s f) (depth_of k)) (same_stack s f stack) ∙ h in
    ap (λ (fs : List Frame). next_unless_overfull s core.store (with_running (frame_behind s stack) fs)) e ∙ over s core.store (frame_behind s stack f) callers b deep

test_false : (b : Bool) → true ≡ not b → b ≡ false
test_false true e = absurd cc
test_false false e = refl

test_true : (b : Bool) → false ≡ not b → b ≡ true
test_true true e = refl
test_true false e = absurd cc

pub leaves_next : (s : System) (core : Core) (f g : Frame) (callers frames : List Frame) (stack : Stack) → core.frames ≡ f ∷ callers → true ≡ not (nat_lt (stack_limit s f) (depth_of stack)) → g ≡ frame_behind s stack f → frames ≡ g ∷ callers
    → leaves s core core.store stack ≡ Next (record { frames = frames; store = core.store })
leaves_next s core f g callers frames stack e fits is new =
    leaves_by s core f callers stack false e (test_false _ fits)
    ∙ ap (λ (fs : List Frame). Next (record { frames = fs; store = core.store })) (ap (λ (x : Frame). x ∷ callers) (sym is) ∙ sym new)

pub leaves_bad : (s : System) (core : Core) (f : Frame) (callers : List Frame) (stack : Stack) → core.frames ≡ f ∷ callers → false ≡ not (nat_lt (stack_limit s f) (depth_of stack)) → leaves s core core.store stack ≡ BadCode
leaves_bad s core f callers stack e fits = leaves_by s core f callers stack true e (test_true _ fits)

-- ---- the stack of the running frame

pub stack_none : (old new : StackState) (n : ℕ) (pushed : Option Value) → pushed ≡ None → new ≡ record old { values = drop n old.values } → new ≡ record old { values = with_result pushed (drop n old.values) }
unfolding with_result
stack_none old new n pushed e h = h ∙ ap (λ (o : Option Value). record { values = with_result o (drop n old.values); room = old.room }) (sym e)

pub stack_some : (old mid left new : StackState) (n : ℕ) (pushed : Option Value) (v : Value) → pushed ≡ Some v → mid ≡ record old { values = drop n old.values } → left ≡ mid → new ≡ record left { values = v ∷ left.values }
    → new ≡ record old { values = with_result pushed (drop n old.values) }
unfolding with_result
stack_some old mid left new n pushed v e h same p =
    p ∙ ap (λ (s : StackState). record s { values = v ∷ s.values }) (same ∙ h)
    ∙ ap (λ (o : Option Value). record { values = with_result o (drop n old.values); room = old.room }) (sym e)
