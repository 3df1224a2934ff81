-- Which method a call runs, and with which arguments.
use Rattle.std.proofs.Common.{◌≡◌, ℕ, zero, suc, ◌-◌, ◌<◌, ◌≤◌, Bool, true, false, List, [], ◌∷◌, ◌++◌, length, take, drop, reverse, Option, Some, None, refl, sym, ap, ◌∙◌, subst, arith, ◌⊎◌, inl, inr, drop_of_length-le, get_or}
use Rattle.std.specs.Prelude.{nat_lt, IfSome, if◌then◌else◌}
use Rattle.std.specs.Option.{option_and_then}
use Rattle.std.proofs.lemmas.Bool.Decides.{nat_tests}
use Rattle.std.proofs.lemmas.List.{length-reverse, length-take, reverse-append}
use Rattle.class_grammar.specs.Flags.{is_abstract}
use Rattle.jx_base.proofs.BasicLaws.{both}
use Rattle.jx_base.specs.declared.ids.ClassId.{ClassId}
use Rattle.jx_base.specs.declared.ids.ServiceId.{ServiceId}
use Rattle.jx_base.specs.declared.program.Method.{Method}
use Rattle.jx_base.specs.declared.program.Selector.{Selector}
use Rattle.jx_base.specs.declared.program.System.{System}
use Rattle.jx_base.specs.declared.row.Invocation.{Invocation}
use Rattle.jx_base.specs.declared.row.Invocation.TheVariants as invocation
use Rattle.jx_base.specs.declared.value.Value.{Value}
use Rattle.jx_base.specs.declared.value.Value.TheVariants as value
use Rattle.machine_laws.proofs.ObjectValues.{selected_is}
use Rattle.machine_laws.specs.Sound.{IsSound}
use Rattle.machine_model.specs.BuiltInMethods.{built_in_outcome}
use Rattle.machine_model.specs.NumericRows.{Stack}
use Rattle.machine_model.specs.ObjectRows.{BadCode, Taken, all_fit, built_in_row, enter_row, given, invoke_at, invoke_on, invoke_row, portal_row, run_row, selected_row, taken_arguments, with_object}
use Rattle.machine_model.specs.State.{Core, Store, class_of_object, class_of_shape, shape_of}
use Rattle.program_model.specs.BuiltIn.{built_in_count}
use Rattle.program_model.specs.Lookup.{ObjectShape, Shape, Unknown, is_below, is_built_in, is_interface, method_at, selected_method, selector_at, selector_of_method, shape_fits_class}
use Rattle.program_model.specs.Types.{parameter_types}
use Rattle.interp_core.specs.Cores.{running_stack}
use Rattle.interp_obj.specs.Calls.{CallsBuiltIn, IsInstanceCall, instance_row, static_row, taken}

-- ---- the method of a place

module _ (s : System) (core : Core) (m : ℕ) (x : Taken) where
  pub no_method : method_at s m ≡ None → run_row s core m x ≡ BadCode
  unfolding run_row given
  no_method e = rw e refl

  run_found : (k : Method) (a b : Bool) → method_at s m ≡ Some k → is_abstract k.flags ≡ a → is_built_in k.class.0 ≡ b
      → run_row s core m x ≡ (if a then BadCode else if b then built_in_row s core x.below (built_in_outcome s core.store k x.arguments) else enter_row s core m x)
  unfolding run_row given
  run_found k a b e f g = rw (e, f, g) refl

  pub run_abstract : (k : Method) → method_at s m ≡ Some k → is_abstract k.flags ≡ true → run_row s core m x ≡ BadCode
  run_abstract k e f = run_found k true (is_built_in k.class.0) e f refl

  pub run_built_in : (k : Method) → method_at s m ≡ Some k → is_abstract k.flags ≡ false → k.class.0 < built_in_count
      → run_row s core m x ≡ built_in_row s core x.below (built_in_outcome s core.store k x.arguments)
  unfolding is_built_in
  run_built_in k e f l = let g : nat_lt k.class.0 built_in_count ≡ true = grind (arith, nat_tests, l) in run_found k false true e f g

  pub run_entered : (k : Method) → method_at s m ≡ Some k → is_abstract k.flags ≡ false → built_in_count ≤ k.class.0 → run_row s core m x ≡ enter_row s core m x
  unfolding is_built_in
  run_entered k e f l = let g : nat_lt k.class.0 built_in_count ≡ false = grind (arith, nat_tests, l) in run_found k false false e f g

pub if_found : {A : Type 0} (o : Option A) (x : A) (P : A → Type 0) → o ≡ Some x → IfSome o P → P x
if_found None x P e h = cc
if_found (Some y) x P e h = let q : y ≡ x = cc in subst P q h

-- ---- the method that is selected

module _ (s : System) (core : Core) (k : Method) (o : Value) (x : Taken) where
  pub no_class : class_of_shape (shape_of core.store o) ≡ None → selected_row s core k o x ≡ BadCode
  unfolding selected_row given
  no_class e = rw e refl

  pub none_selected : (c : ℕ) → class_of_shape (shape_of core.store o) ≡ Some c → selected_method s c k.selector.0 ≡ None → selected_row s core k o x ≡ BadCode
  unfolding selected_row given
  none_selected c e f = rw e (rw f refl)

  pub one_selected : (c m : ℕ) → class_of_shape (shape_of core.store o) ≡ Some c → selected_method s c k.selector.0 ≡ Some m → selected_row s core k o x ≡ run_row s core m x
  unfolding selected_row given
  one_selected c m e f = rw e (rw f refl)

class_of_reference : (store : Store) (r a n : ℕ) → class_of_object store r ≡ Some a → class_of_shape (shape_of store (value.Ref r)) ≡ Some n → n ≡ a
unfolding shape_of class_of_shape
class_of_reference store r a n of e =
    let q : Some a ≡ Some n = subst (λ (o : Option ℕ). class_of_shape (elim o as (λ _. Shape) [ None ↦ Unknown | Some c ↦ ObjectShape c ]) ≡ Some n) of e in cc

module _ (s : System) (store : Store) (k : Method) (o : Value) (args : List Value) (c : IsInstanceCall s store k o args) where
  -- a method of the same selector, of a class that the object is below
  fits_call : (j : Method) → j.selector.0 ≡ k.selector.0
      → (j.class.0 < built_in_count → is_interface s j.class.0 ≡ false → (r a : ℕ) → o ≡ value.Ref r → class_of_object store r ≡ Some a → is_below s a j.class.0 ≡ true)
      → CallsBuiltIn s store args j
  fits_call j e f l i y q =
      let w : Some c.selector ≡ Some y = sym c.has ∙ ap (selector_at s) (sym e) ∙ q in
      let u : c.selector ≡ y = cc in
      inr (record {
        object = o;
        others = c.others;
        is = c.parts;
        fit = subst (λ (y : Selector). all_fit s true store c.others (parameter_types y.descriptor) ≡ true) u c.fit;
        below = f l i;
      })

  shape_at : (n r a : ℕ) → shape_fits_class s true (shape_of store o) n ≡ true → o ≡ value.Ref r → class_of_object store r ≡ Some a → shape_fits_class s true (ObjectShape a) n ≡ true
  unfolding shape_of
  shape_at n r a fit is of =
      let p : shape_fits_class s true (shape_of store (value.Ref r)) n ≡ true = subst (λ (v : Value). shape_fits_class s true (shape_of store v) n ≡ true) is fit in
      subst (λ (o : Option ℕ). shape_fits_class s true (elim o as (λ _. Shape) [ None ↦ Unknown | Some c ↦ ObjectShape c ]) n ≡ true) of p

  if_method : (o : Option Method) (P : Method → Type 0) → ((j : Method) → o ≡ Some j → P j) → IfSome o P
  if_method None P f = tt
  if_method (Some j) P f = f j refl

  -- the method itself
  pub special_calls : IsSound s → (m : ℕ) → method_at s m ≡ Some k → shape_fits_class s true (shape_of store o) k.class.0 ≡ true → IfSome (method_at s m) (CallsBuiltIn s store args)
  special_calls z m e fit = if_method (method_at s m) (CallsBuiltIn s store args) (λ j q.
      let w : Some k ≡ Some j = sym e ∙ q in
      let u : k ≡ j = cc in
      subst (CallsBuiltIn s store args) u (fits_call k refl (λ l i r a is of. z.receivers a k.class.0 l i (shape_at k.class.0 r a fit is of))))

  -- the one selected
  pub selected_calls : (n m : ℕ) → class_of_shape (shape_of store o) ≡ Some n → selected_method s n k.selector.0 ≡ Some m → IfSome (method_at s m) (CallsBuiltIn s store args)
  selected_calls n m e q = if_method (method_at s m) (CallsBuiltIn s store args) (λ j w.
      let t = selected_is s n k.selector.0 m j q w in
      fits_call j t.1 (λ l i r a is of. subst (λ (n : ℕ). is_below s n j.class.0 ≡ true) (at_class n r a e is of) t.0))
    where
      at_class : (n r a : ℕ) → class_of_shape (shape_of store o) ≡ Some n → o ≡ value.Ref r → class_of_object store r ≡ Some a → n ≡ a
      at_class n r a e is of = class_of_reference store r a n of (subst (λ (v : Value). class_of_shape (shape_of store v) ≡ Some n) is e)

-- ---- the call on an object

module _ (s : System) (core : Core) (m : ℕ) (k : Method) (o : Value) (x : Taken) where
  pub special_runs : invoke_at s core invocation.Special m k o x ≡ run_row s core m x
  unfolding invoke_at
  special_runs = refl

  pub class_selects : (kind : Invocation) → (kind ≡ invocation.Virtual) ⊎ (kind ≡ invocation.Static) → invoke_at s core kind m k o x ≡ selected_row s core k o x
  unfolding invoke_at
  class_selects kind (inl e) = rw e refl
  class_selects kind (inr e) = rw e refl

pub portal_asks : (s : System) (core : Core) (m : ℕ) (k : Method) (service : ServiceId) (iface : ClassId) (x : Taken)
    → invoke_at s core invocation.Interface m k (value.Portal service iface) x ≡ portal_row core service k (drop 1 x.arguments)
unfolding invoke_at
portal_asks s core m k service iface x = refl

pub others_select : (s : System) (core : Core) (m : ℕ) (k : Method) (o : Value) (x : Taken) → ((service : ServiceId) (iface : ClassId) → o ≡ value.Portal service iface → ⊥)
    → invoke_at s core invocation.Interface m k o x ≡ selected_row s core k o x
unfolding invoke_at
others_select s core m k (value.Portal service iface) x n = absurd (n service iface refl)
others_select s core m k (value.Int n) x _ = refl
others_select s core m k (value.Long n) x _ = refl
others_select s core m k value.Null x _ = refl
others_select s core m k (value.Ref r) x _ = refl
others_select s core m k (value.Mem n) x _ = refl

-- the arguments without the object
pub without_object : (args : List Value) → take (length args - 1) (drop 1 args) ≡ drop 1 args
without_object [] = refl
without_object (v ∷ args) =
    let n : length (v ∷ args) - 1 ≡ length args = omega arith in
    ap (λ (n : ℕ). take n args) n ∙ take_all args
  where
    take_all : (vs : List Value) → take (length vs) vs ≡ vs
    take_all [] = refl
    take_all (w ∷ vs) = ap (λ (vs : List Value). w ∷ vs) (take_all vs)

-- ---- the arguments on the stack

-- as many values fit as there are types
pub as_many : (s : System) (store : Store) (vs : List Value) (types : List (List ℕ)) → all_fit s true store vs types ≡ true → length vs ≡ length types
unfolding all_fit
as_many s store [] [] e = refl
as_many s store [] (t ∷ types) e = cc
as_many s store (v ∷ vs) [] e = cc
as_many s store (v ∷ vs) (t ∷ types) e =
    let rest = as_many s store vs types (both _ (all_fit s true store vs types) e).1 in
    omega (arith, rest)

-- the value below the n topmost ones
split_at : (n : ℕ) (stack : Stack) → n < length stack → (o : Value) × (drop n stack ≡ o ∷ drop (suc n) stack) × (take (suc n) stack ≡ take n stack ++ o ∷ [])
split_at n [] l = absurd (omega (arith, l))
split_at zero (v ∷ stack) l = (v, refl, refl)
split_at (suc n) (v ∷ stack) l = let x = split_at n stack (omega (arith, l)) in (x.0, x.1, ap (λ (vs : List Value). v ∷ vs) x.2)

pub record IsBelow (stack : Stack) (n : ℕ) (o : Value) (arguments : List Value) : Type 0 where
  pub above : arguments ≡ reverse (take n stack)
  pub below : drop n stack ≡ o ∷ drop (suc n) stack

pub is_below_arguments : (n m : ℕ) (stack : Stack) (values arguments : List Value) (o : Value) → suc n ≡ m → values ≡ reverse (take m stack) → m ≤ length stack → values ≡ o ∷ arguments
    → IsBelow stack n o arguments
is_below_arguments n m stack values arguments o q e l p =
    let x = split_at n stack (omega (arith, l, q)) in
    let whole : o ∷ arguments ≡ x.0 ∷ reverse (take n stack) =
    sym p ∙ e ∙ ap (λ (k : ℕ). reverse (take k stack)) (sym q) ∙ ap reverse x.2 ∙ reverse-append (take n stack) (x.0 ∷ []) in
    let same : o ≡ x.0 = cc in
    let rest : arguments ≡ reverse (take n stack) = cc in
    record { above = rest; below = x.1 ∙ ap (λ (v : Value). v ∷ drop (suc n) stack) (sym same) }

-- the first of the values, and the rest
pub first_and_rest : (values : List Value) (d : Value) → 1 ≤ length values → values ≡ get_or values 0 d ∷ take (length values - 1) (drop 1 values)
first_and_rest [] d l = absurd (omega (arith, l))
first_and_rest (v ∷ values) d l = ap (λ (vs : List Value). v ∷ vs) (sym (without_object (v ∷ values)))

module _ (s : System) (core : Core) (types : List (List ℕ)) (stack : Stack) where
  taken_by : (b : Bool) → all_fit s true core.store (reverse (take (length types) stack)) types ≡ b
      → taken_arguments s core types stack
      ≡ (if b then Some (record { arguments = reverse (take (length types) stack); below = drop (length types) stack }) else None)
  unfolding taken_arguments
  taken_by b e = ap (λ (b : Bool). if b then Some (record { arguments = reverse (take (length types) stack); below = drop (length types) stack }) else None) e

  pub none_fit : (arguments : List Value) → arguments ≡ reverse (take (length types) stack) → all_fit s true core.store arguments types ≡ false → taken_arguments s core types stack ≡ None
  none_fit arguments e f = taken_by false (ap (λ (vs : List Value). all_fit s true core.store vs types) (sym e) ∙ f)

  pub too_few : length stack < length types → taken_arguments s core types stack ≡ None
  too_few l = by (all_fit s true core.store (reverse (take (length types) stack)) types) refl
    where
      by : (b : Bool) → all_fit s true core.store (reverse (take (length types) stack)) types ≡ b → taken_arguments s core types stack ≡ None
      by false e = taken_by false e
      by true e =
          let n = as_many s core.store (reverse (take (length types) stack)) types e in
          let m = length-reverse (take (length types) stack) in
          absurd (omega (arith, n, m, l, length-take (length types) stack))

  pub all_taken : (arguments : List Value) → arguments ≡ reverse (take (length types) stack) → all_fit s true core.store arguments types ≡ true
      → taken_arguments s core types stack ≡ Some (taken arguments stack)
  all_taken arguments e f =
      taken_by true (ap (λ (vs : List Value). all_fit s true core.store vs types) (sym e) ∙ f)
      ∙ ap (λ (vs : List Value). Some (record { arguments = vs; below = drop (length types) stack })) (sym e)
      ∙ ap (λ (n : ℕ). Some (record { arguments = arguments; below = drop n stack })) (sym (as_many s core.store arguments types f))

  -- what is below the arguments
  below_taken : (x : Taken) → taken_arguments s core types stack ≡ Some x → x.below ≡ drop (length types) stack
  below_taken x e = by (all_fit s true core.store (reverse (take (length types) stack)) types) refl
    where
      by : (b : Bool) → all_fit s true core.store (reverse (take (length types) stack)) types ≡ b → x.below ≡ drop (length types) stack
      by true q =
          let w : Some (record { arguments = reverse (take (length types) stack); below = drop (length types) stack }) ≡ Some x = sym (taken_by true q) ∙ e in
          let u : record { arguments = reverse (take (length types) stack); below = drop (length types) stack } ≡ x = cc in
          ap (λ (x : Taken). x.below) (sym u)
      by false q = let w : None ≡ Some x = sym (taken_by false q) ∙ e in cc

-- ---- the call without an object

module _ (s : System) (core : Core) (m : ℕ) (y : Selector) where
  pub static_bad : taken_arguments s core (parameter_types y.descriptor) (running_stack core) ≡ None → static_row s core m y ≡ BadCode
  unfolding given
  static_bad e = ap (λ (o : Option Taken). given o (run_row s core m)) e

  pub static_runs : (x : Taken) → taken_arguments s core (parameter_types y.descriptor) (running_stack core) ≡ Some x → static_row s core m y ≡ run_row s core m x
  unfolding given
  static_runs x e = ap (λ (o : Option Taken). given o (run_row s core m)) e

-- ---- the call with one

module _ (s : System) (core : Core) (kind : Invocation) (m : ℕ) (k : Method) (y : Selector) where
  pub instance_bad : taken_arguments s core (parameter_types y.descriptor) (running_stack core) ≡ None → instance_row s core kind m k y ≡ BadCode
  unfolding given
  instance_bad e = ap (λ (o : Option Taken). given o (λ x. given (with_object x) (λ o. invoke_on s core kind m k o.0 o.1))) e

  -- nothing is below the arguments
  pub no_object : length (running_stack core) ≤ length (parameter_types y.descriptor) → instance_row s core kind m k y ≡ BadCode
  unfolding with_object given
  no_object l = by (taken_arguments s core (parameter_types y.descriptor) (running_stack core)) refl
    where
      alone : (x : Taken) → x.below ≡ [] → given (with_object x) (λ o. invoke_on s core kind m k o.0 o.1) ≡ BadCode
      alone x e = rw e refl

      by : (o : Option Taken) → taken_arguments s core (parameter_types y.descriptor) (running_stack core) ≡ o
          → given o (λ x. given (with_object x) (λ o. invoke_on s core kind m k o.0 o.1)) ≡ BadCode
      by None e = refl
      by (Some x) e = alone x (below_taken s core (parameter_types y.descriptor) (running_stack core) x e ∙ drop_of_length-le (running_stack core) l)

  pub instance_runs : (o : Value) (arguments : List Value) → IsBelow (running_stack core) (length (parameter_types y.descriptor)) o arguments
      → all_fit s true core.store arguments (parameter_types y.descriptor) ≡ true
      → instance_row s core kind m k y ≡ invoke_on s core kind m k o (taken (o ∷ arguments) (running_stack core))
  unfolding given with_object
  instance_runs o arguments b f =
      let types = parameter_types y.descriptor in
      let stack = running_stack core in
      let count = as_many s core.store arguments types f in
      let below : drop (length arguments) stack ≡ o ∷ drop (suc (length arguments)) stack = ap (λ (n : ℕ). drop n stack) count ∙ b.below ∙ ap (λ (n : ℕ). o ∷ drop (suc n) stack) (sym count) in
      ap (λ (x : Option Taken). given x (λ x. given (with_object x) (λ o. invoke_on s core kind m k o.0 o.1))) (all_taken s core types stack arguments b.above f)
      ∙ ap (λ (k2 : Stack). given (with_object (record { arguments = arguments; below = k2 })) (λ o. invoke_on s core kind m k o.0 o.1)) below

-- ---- what the call is by its kind

module _ (s : System) (core : Core) (m : ℕ) (stack : Stack) where
  pub no_called : (kind : Invocation) → method_at s m ≡ None → invoke_row s core kind m stack ≡ BadCode
  unfolding invoke_row given
  no_called kind e = rw e refl

  selector_of : (k : Method) → method_at s m ≡ Some k → selector_of_method s m ≡ selector_at s k.selector.0
  unfolding selector_of_method
  selector_of k e = ap (λ (o : Option Method). option_and_then (λ x. selector_at s x.selector.0) o) e

  pub no_selector : (kind : Invocation) (k : Method) → method_at s m ≡ Some k → selector_at s k.selector.0 ≡ None → invoke_row s core kind m stack ≡ BadCode
  unfolding invoke_row given
  no_selector kind k e f = let g = selector_of k e ∙ f in rw e (rw g refl)

module _ (s : System) (core : Core) (m : ℕ) (k : Method) (y : Selector) (e : method_at s m ≡ Some k) (f : selector_at s k.selector.0 ≡ Some y) where
  pub calls_static : invoke_row s core invocation.Static m (running_stack core) ≡ static_row s core m y
  unfolding invoke_row given parameter_types
  calls_static = let g = selector_of s core m (running_stack core) k e ∙ f in rw e (rw g refl)

  pub calls_instance : (kind : Invocation) → (kind ≡ invocation.Static → ⊥) → invoke_row s core kind m (running_stack core) ≡ instance_row s core kind m k y
  unfolding invoke_row given parameter_types
  calls_instance invocation.Static n = absurd (n refl)
  calls_instance invocation.Virtual n = let g = selector_of s core m (running_stack core) k e ∙ f in rw e (rw g refl)
  calls_instance invocation.Special n = let g = selector_of s core m (running_stack core) k e ∙ f in rw e (rw g refl)
  calls_instance invocation.Interface n = let g = selector_of s core m (running_stack core) k e ∙ f in rw e (rw g refl)
