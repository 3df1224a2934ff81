-- Extents that are in use no more.
use Rattle.std.proofs.Common.{◌≡◌, ◌≢◌, refl, sym, ◌∙◌, ap, subst, arith, ℕ, zero, suc, ◌+◌, ◌-◌, ◌≤◌, ◌<◌, Bool, true, false, cond, not, ◌&&◌, ◌||◌, ◌==◌, List, [], ◌∷◌, length, filter, set, slice_get, Option, Some, None, is_some, if◌then◌else◌, inl, inr}
use Rattle.std.specs.Prelude.{IsSome}
use Rattle.std.specs.List.{cons_option, find, list_any}
use Rattle.std.specs.Option.{option_and_then, option_map}
use Rattle.jx_base.specs.Basics.{contains_number, numbered, passes, up_to}
use Rattle.jx_base.proofs.BasicLaws.{ap2, and_false, and_true, eq_of, same_number}
use Rattle.jx_laws.proofs.Lists.{numbered_within}
use Rattle.extent_pool.specs.Taken as Pool
use Rattle.jx_model.specs.Granules.{Run, lies_in, lies_in_one}
use Rattle.jx_model.specs.MemoryObjects.{Part}
use Rattle.jx_model.specs.Tables.{ExtentRecord, ObjectRecord}
use Rattle.table_objects.proofs.Riding.{count_set}
use Rattle.table_objects.specs.ObjectChanges.{count_of}
use Rattle.table_steps.specs.Steps.{freed_from, in_use_by, is_record_used, without_runs}
use Rattle.table_threads.proofs.Records.{any_at, not_that, one_if, same_or_not, set_changed}
use Rattle.table_threads.specs.Changes.{changed_at, each_from}
use Rattle.memory_objects.specs.ObjectLists.{ObjectsState, first_unused}
use Rattle.memory_space.specs.Backing.{IsBacked, LiesIn, Shape, shape_of, shapes_of, size_in}
use Rattle.memory_space.specs.ExtentLists.{IsClear, bytes_in, without_bytes}
use Rattle.memory_space.specs.SpaceLists.{SpaceState, has_bytes, swept}
use Rattle.memory_space.proofs.Backed.{backed_given, numbered_map}
use Rattle.memory_space.proofs.Forgotten.{change_shown}
use Rattle.memory_space.proofs.RunsTaken.{each_alike, run_freed}

-- ---- lists of which one item changed

get_changed : {A : Type 0} (f : A → A) (i : ℕ) (xs : List A) → slice_get (changed_at i f xs) i ≡ option_map f (slice_get xs i)
get_changed f zero [] = refl
get_changed f (suc i) [] = refl
get_changed f zero (x ∷ xs) = refl
get_changed f (suc i) (x ∷ xs) = get_changed f i xs

get_same : {A : Type 0} (f : A → A) (i j : ℕ) (xs : List A) → j ≢ i → slice_get (changed_at i f xs) j ≡ slice_get xs j
get_same f i j [] d = refl
get_same f zero zero (x ∷ xs) d = absurd (d refl)
get_same f zero (suc j) (x ∷ xs) d = refl
get_same f (suc i) zero (x ∷ xs) d = refl
get_same f (suc i) (suc j) (x ∷ xs) d = get_same f i j xs (λ e. d (ap suc e))

-- the item that changed
pub number_changed : {A : Type 0} (f : A → A) (e : ℕ) (xs : List A) → 1 ≤ e → numbered (changed_at (e - 1) f xs) e ≡ option_map f (numbered xs e)
unfolding numbered
number_changed f zero xs l = absurd (omega (arith, l))
number_changed f (suc i) xs l = let z : suc i - 1 ≡ i = omega arith in ap (λ (k : ℕ). slice_get (changed_at k f xs) i) z ∙ get_changed f i xs

-- the others
pub number_same : {A : Type 0} (f : A → A) (e k : ℕ) (xs : List A) → 1 ≤ e → k ≢ e → numbered (changed_at (e - 1) f xs) k ≡ numbered xs k
unfolding numbered
number_same f e zero xs l d = refl
number_same f zero (suc j) xs l d = absurd (omega (arith, l))
number_same f (suc i) (suc j) xs l d =
    let z : suc i - 1 ≡ i = omega arith in
    ap (λ (k : ℕ). slice_get (changed_at k f xs) j) z ∙ get_same f i j xs (λ e. d (ap suc e))

-- a change that a later one hides
each_hidden : {A : Type 0} (g : ℕ → A → A) (f : A → A) (a i : ℕ) (xs : List A) → ((x : A) → g (a + i) (f x) ≡ g (a + i) x) → each_from g a (changed_at i f xs) ≡ each_from g a xs
each_hidden g f a i [] h = refl
each_hidden {A} g f a zero (x ∷ xs) h =
    let z : a ≡ a + 0 = omega arith in
    ap (λ (y : A). y ∷ each_from g (a + 1) xs) (ap (λ (k : ℕ). g k (f x)) z ∙ h x ∙ ap (λ (k : ℕ). g k x) (sym z))
each_hidden {A} g f a (suc i) (x ∷ xs) h =
    let z : a + suc i ≡ a + 1 + i = omega arith in
    ap (λ (ys : List A). g a x ∷ ys) (each_hidden g f (a + 1) i xs (λ y. ap (λ (k : ℕ). g k (f y)) (sym z) ∙ h y ∙ ap (λ (k : ℕ). g k y) z))

-- changes that change nothing
each_none : {A : Type 0} (g : ℕ → A → A) (a : ℕ) (xs : List A) → ((i : ℕ) (x : A) → slice_get xs i ≡ Some x → g (a + i) x ≡ x) → each_from g a xs ≡ xs
each_none g a [] h = refl
each_none {A} g a (x ∷ xs) h =
    let z : a ≡ a + 0 = omega arith in
    ap2 (λ (y : A) (ys : List A). y ∷ ys) (ap (λ (k : ℕ). g k x) z ∙ h 0 x refl)
    (each_none g (a + 1) xs (λ i y e. let w : a + 1 + i ≡ a + suc i = omega arith in ap (λ (k : ℕ). g k y) w ∙ h (suc i) y e))

-- one change after another
each_twice : {A : Type 0} (g h : ℕ → A → A) (a : ℕ) (xs : List A) → each_from g a (each_from h a xs) ≡ each_from (λ i x. g i (h i x)) a xs
each_twice g h a [] = refl
each_twice {A} g h a (x ∷ xs) = ap (λ (ys : List A). g a (h a x) ∷ ys) (each_twice g h (a + 1) xs)

-- ---- numbers that are sought and left out

contains_filter : (e k : ℕ) (xs : List ℕ) → contains_number (filter (λ x. not (e == x)) xs) k ≡ (contains_number xs k && not (e == k))
unfolding contains_number
contains_filter e k [] = refl
contains_filter e k (x ∷ xs) = by (contains_filter e k xs) (e == x) refl (x == k) refl
  where
    rest : List ℕ
    rest = filter (λ y. not (e == y)) xs

    by : list_any (λ y. y == k) rest ≡ (list_any (λ y. y == k) xs && not (e == k)) → (b : Bool) → (e == x) ≡ b → (c : Bool) → (x == k) ≡ c →
        list_any (λ y. y == k) (cond (not b) (x ∷ rest) rest) ≡ ((c || list_any (λ y. y == k) xs) && not (e == k))
    by again true p true q =
        let z : (e == k) ≡ true = ap (λ (n : ℕ). n == k) (eq_of e x p) ∙ q in
        again
        ∙ ap (λ (b : Bool). list_any (λ y. y == k) xs && not b) z
        ∙ and_false (list_any (λ y. y == k) xs)
        ∙ sym (ap not z)
    by again true p false q = again
    by again false p true q =
        let z : (e == k) ≡ false = ap (λ (n : ℕ). e == n) (sym (eq_of x k q)) ∙ p in
        ap (λ (b : Bool). b || list_any (λ y. y == k) rest) q ∙ sym (ap not z)
    by again false p false q = ap (λ (b : Bool). b || list_any (λ y. y == k) rest) q ∙ again

-- a number that is found is one of the list, and passes
pub found_listed : (p : ℕ → Bool) (xs : List ℕ) (e : ℕ) → find p xs ≡ Some e → (contains_number xs e ≡ true) × (p e ≡ true)
unfolding contains_number
found_listed p [] e h = cc
found_listed p (x ∷ xs) e h = by (p x) refl h (found_listed p xs e)
  where
    right : (a b : Bool) → b ≡ true → (a || b) ≡ true
    right true b q = refl
    right false b q = q

    by : (b : Bool) → p x ≡ b → cond b (Some x) (find p xs) ≡ Some e → (find p xs ≡ Some e → (list_any (λ y. y == e) xs ≡ true) × (p e ≡ true)) → ((x == e) || list_any (λ y. y == e) xs) ≡ true × (p e ≡ true)
    by true q h again =
        let z : x ≡ e = cc in
        (ap (λ (b : Bool). b || list_any (λ y. y == e) xs) (ap (λ (n : ℕ). n == e) z ∙ same_number e), ap p (sym z) ∙ q)
    by false q h again = let r = again h in (right (x == e) (list_any (λ y. y == e) xs) r.0, r.1)

-- where none is found, none of the list passes
pub none_listed : (p : ℕ → Bool) (xs : List ℕ) → find p xs ≡ None → (e : ℕ) → contains_number xs e ≡ true → p e ≡ false
unfolding contains_number
none_listed p [] h e c = cc
none_listed p (x ∷ xs) h e c = by (p x) refl h (λ g k. none_listed p xs g e k)
  where
    by : (b : Bool) → p x ≡ b → cond b (Some x) (find p xs) ≡ None → (find p xs ≡ None → list_any (λ y. y == e) xs ≡ true → p e ≡ false) → p e ≡ false
    by true q h again = cc
    by false q h again = here (x == e) refl c
      where
        here : (b : Bool) → (x == e) ≡ b → (b || list_any (λ y. y == e) xs) ≡ true → p e ≡ false
        here true z k = ap p (sym (eq_of x e z)) ∙ q
        here false z k = again h k

-- ---- what still goes together

-- a part that is used uses its extent
pub extent_used : (parts : List Part) (records : List ObjectRecord) (m : ℕ) (o : Part) (r : ObjectRecord) → numbered parts m ≡ Some o → numbered records m ≡ Some r → is_record_used r ≡ true → in_use_by parts records o.extent ≡ true
unfolding up_to passes
extent_used parts records m o r p q u =
    let w = numbered_within parts m o p in
    any_at (λ k. passes (λ z. z.extent == o.extent) (numbered parts k) && passes is_record_used (numbered records k)) 1 (length parts) m w.0 (omega (arith, w.1))
    (ap2 (λ (a : Option Part) (b : Option ObjectRecord). passes (λ z. z.extent == o.extent) a && passes is_record_used b) p q
    ∙ ap2 (λ (a b : Bool). a && b) (same_number o.extent) u)

-- a shape without bytes
abbrev pub bare : Shape → Shape
bare s = record { run = s.run; size = None }

shapes_forgotten : (es : List ExtentRecord) (e : ℕ) → shapes_of (changed_at (e - 1) without_bytes es) ≡ changed_at (e - 1) bare (shapes_of es)
shapes_forgotten es e = change_shown shape_of without_bytes bare (e - 1) es (λ item. refl)

size_gone : (shapes : List Shape) (e : ℕ) → 1 ≤ e → size_in (changed_at (e - 1) bare shapes) e ≡ None
size_gone shapes e l = ap (λ (o : Option Shape). option_and_then (λ s. s.size) o) (number_changed bare e shapes l) ∙ by (numbered shapes e)
  where
    by : (o : Option Shape) → option_and_then (λ (s : Shape). s.size) (option_map bare o) ≡ None
    by None = refl
    by (Some s) = refl

size_left : (shapes : List Shape) (e k : ℕ) → 1 ≤ e → k ≢ e → size_in (changed_at (e - 1) bare shapes) k ≡ size_in shapes k
size_left shapes e k l d = ap (λ (o : Option Shape). option_and_then (λ s. s.size) o) (number_same bare e k shapes l d)

-- all still goes together
backed_bare : (y : ObjectsState) (shapes : List Shape) (flags : List Bool) (e : ℕ) → IsBacked y shapes flags → 1 ≤ e → in_use_by y.parts y.records e ≡ false →
    IsBacked (record y { extents = filter (λ x. not (e == x)) y.extents }) (changed_at (e - 1) bare shapes) flags
backed_bare y shapes flags e b first unused =
    record {
      count = b.count;
      made = omega (arith, b.made, length_same (e - 1) shapes);
      listed = λ k. elim (same_or_not e k) [ inl z ↦ gone k z | inr z ↦ left k z ];
      parts = λ m o h. lies o (b.parts m o h);
      used = λ m o r p q u. subst IsSome (sym (size_left shapes e o.extent first (apart m o r p q u))) (b.used m o r p q u);
      taken = λ k s p q. b.taken k s (still k s p q) q;
    }
  where
    length_same : (i : ℕ) (ss : List Shape) → length (changed_at i bare ss) ≡ length ss
    length_same i [] = refl
    length_same zero (s ∷ ss) = refl
    length_same (suc i) (s ∷ ss) = ap suc (length_same i ss)

    gone : (k : ℕ) → e ≡ k → contains_number (filter (λ x. not (e == x)) y.extents) k ≡ is_some (size_in (changed_at (e - 1) bare shapes) k)
    gone k z =
        subst (λ (n : ℕ). contains_number (filter (λ x. not (e == x)) y.extents) n ≡ is_some (size_in (changed_at (e - 1) bare shapes) n)) z
        (contains_filter e e y.extents
        ∙ ap (λ (c : Bool). contains_number y.extents e && not c) (same_number e)
        ∙ and_false (contains_number y.extents e)
        ∙ sym (ap (λ (o : Option ℕ). is_some o) (size_gone shapes e first)))

    left : (k : ℕ) → e ≢ k → contains_number (filter (λ x. not (e == x)) y.extents) k ≡ is_some (size_in (changed_at (e - 1) bare shapes) k)
    left k z =
        contains_filter e k y.extents
        ∙ ap (λ (c : Bool). contains_number y.extents k && not c) (not_that e k (λ q. z (sym q)))
        ∙ and_true (contains_number y.extents k)
        ∙ b.listed k
        ∙ sym (ap (λ (o : Option ℕ). is_some o) (size_left shapes e k first (λ q. z (sym q))))

    lies : (o : Part) → LiesIn shapes o → LiesIn (changed_at (e - 1) bare shapes) o
    lies o h =
        let last = h.last in
        record {
          first = h.first;
          last = omega (arith, last, length_same (e - 1) shapes);
          small = h.small;
          within = λ n k. elim (same_or_not o.extent e) [ inl z ↦ none n k z | inr z ↦ h.within n (sym (size_left shapes e o.extent first z) ∙ k) ];
        }
      where
        none : (n : ℕ) → size_in (changed_at (e - 1) bare shapes) o.extent ≡ Some n → o.extent ≡ e → o.from + o.size ≤ n
        none n k z = let f : None ≡ Some n = sym (size_gone shapes e first) ∙ ap (size_in (changed_at (e - 1) bare shapes)) (sym z) ∙ k in absurd cc

    apart : (m : ℕ) (o : Part) (r : ObjectRecord) → numbered y.parts m ≡ Some o → numbered y.records m ≡ Some r → is_record_used r ≡ true → o.extent ≢ e
    apart m o r p q u z =
        let f : true ≡ false = sym (extent_used y.parts y.records m o r p q u) ∙ ap (in_use_by y.parts y.records) z ∙ unused in cc

    still : (k : ℕ) (s : Shape) → numbered (changed_at (e - 1) bare shapes) k ≡ Some s → IsSome s.size → numbered shapes k ≡ Some s
    still k s p q = elim (same_or_not k e) [ inl z ↦ mine z | inr z ↦ sym (number_same bare e k shapes first z) ∙ p ]
      where
        mine : k ≡ e → numbered shapes k ≡ Some s
        mine z = by (numbered shapes e) (sym (number_changed bare e shapes first) ∙ ap (numbered (changed_at (e - 1) bare shapes)) (sym z) ∙ p)
          where
            by : (o : Option Shape) → option_map bare o ≡ Some s → numbered shapes k ≡ Some s
            by None g = cc
            by (Some t) g =
                let f : bare t ≡ s = cc in
                let h : IsSome (bare t).size = subst (λ (w : Shape). IsSome w.size) (sym f) q in absurd cc

pub backed_forgotten : (y : ObjectsState) (es : List ExtentRecord) (flags : List Bool) (e : ℕ) (run : Run) → IsBacked y (shapes_of es) flags → 1 ≤ e → in_use_by y.parts y.records e ≡ false →
    IsClear (changed_at (e - 1) without_bytes es) run →
    IsBacked (record y { extents = filter (λ x. not (e == x)) y.extents }) (shapes_of (changed_at (e - 1) without_bytes es)) (Pool.with_run flags run.0 run.1 false)
backed_forgotten y es flags e run b first unused clear =
    backed_given (record y { extents = filter (λ x. not (e == x)) y.extents }) (changed_at (e - 1) without_bytes es) flags run.0 run.1 clear
    (subst (λ (ss : List Shape). IsBacked (record y { extents = filter (λ x. not (e == x)) y.extents }) ss flags) (sym (shapes_forgotten es e)) (backed_bare y (shapes_of es) flags e b first unused))

-- ---- what is found

-- an extent with bytes that is in use no more
pub record IsUnused (y : ObjectsState) (es : List ExtentRecord) (flags : List Bool) (e : ℕ) : Type 0 where
  pub item : ExtentRecord
  pub there : numbered es e ≡ Some item
  pub some : is_some item.bytes ≡ true
  pub bytes : IsSome (bytes_in es e)
  pub unused : in_use_by y.parts y.records e ≡ false
  pub taken : Pool.AreTaken flags item.run.0 item.run.1

pub is_unused : (y : ObjectsState) (es : List ExtentRecord) (flags : List Bool) (e : ℕ) → IsBacked y (shapes_of es) flags → first_unused y ≡ Some e → IsUnused y es flags e
is_unused y es flags e b h = by (numbered es e) refl (sym (b.listed e) ∙ f.0)
  where
    f : (contains_number y.extents e ≡ true) × (not (in_use_by y.parts y.records e) ≡ true)
    f = found_listed (λ k. not (in_use_by y.parts y.records k)) y.extents e h

    turned : (c : Bool) → not c ≡ true → c ≡ false
    turned true q = cc
    turned false q = refl

    by : (o : Option ExtentRecord) → numbered es e ≡ o → is_some (size_in (shapes_of es) e) ≡ true → IsUnused y es flags e
    by None q g =
        let z : size_in (shapes_of es) e ≡ None = ap (λ (o : Option Shape). option_and_then (λ s. s.size) o) (numbered_map shape_of es e ∙ ap (option_map shape_of) q) in
        let w : false ≡ true = sym (ap (λ (o : Option ℕ). is_some o) z) ∙ g in absurd cc
    by (Some item) q g =
        let shape : numbered (shapes_of es) e ≡ Some (shape_of item) = numbered_map shape_of es e ∙ ap (option_map shape_of) q in
        let size : is_some (option_map length item.bytes) ≡ true = sym (ap (λ (o : Option Shape). is_some (option_and_then (λ s. s.size) o)) shape) ∙ g in
        record {
          item = item;
          there = q;
          some = test item.bytes size;
          bytes = subst (λ (o : Option ExtentRecord). IsSome (option_and_then (λ z. z.bytes) o)) (sym q) (is item.bytes size);
          unused = turned (in_use_by y.parts y.records e) f.1;
          taken = b.taken e (shape_of item) shape (sized item.bytes size);
        }
      where
        test : (o : Option (List ℕ)) → is_some (option_map length o) ≡ true → is_some o ≡ true
        test None k = k
        test (Some bytes) k = refl

        is : (o : Option (List ℕ)) → is_some (option_map length o) ≡ true → IsSome o
        is None k = absurd cc
        is (Some bytes) k = refl

        sized : (o : Option (List ℕ)) → is_some (option_map length o) ≡ true → IsSome (option_map length o)
        sized None k = absurd cc
        sized (Some bytes) k = refl

-- ---- what is seen

-- the granules that are freed, one extent aside
freed_aside : (parts : List Part) (objects : List ObjectRecord) (x i : ℕ) (es : List ExtentRecord) (item : ExtentRecord) (g : ℕ) → slice_get es i ≡ Some item → is_some item.bytes ≡ true → in_use_by parts objects (x + i) ≡ false →
    lies_in_one (freed_from parts objects x es) g ≡ (lies_in g item.run || lies_in_one (freed_from parts objects x (changed_at i without_bytes es)) g)
unfolding lies_in_one
freed_aside parts objects x i [] item g h s u = cc
freed_aside parts objects x zero (z ∷ es) item g h s u =
    let same : z ≡ item = cc in
    let n : x + 0 ≡ x = omega arith in
    let test : (is_some z.bytes && not (in_use_by parts objects x)) ≡ true =
    ap2 (λ (a b : Bool). a && not b) (ap (λ (w : ExtentRecord). is_some w.bytes) same ∙ s) (ap (in_use_by parts objects) (sym n) ∙ u)
    in
    ap (λ (b : Bool). list_any (lies_in g) (cons_option (if b then Some z.run else None) (freed_from parts objects (x + 1) es))) test
    ∙ ap (λ (w : ExtentRecord). lies_in g w.run || list_any (lies_in g) (freed_from parts objects (x + 1) es)) same
freed_aside parts objects x (suc i) (z ∷ es) item g h s u =
    let n : x + suc i ≡ x + 1 + i = omega arith in
    by (if is_some z.bytes && not (in_use_by parts objects x) then Some z.run else None)
    (freed_aside parts objects (x + 1) i es item g h s (ap (in_use_by parts objects) (sym n) ∙ u))
  where
    swap : (a b c : Bool) → (a || (b || c)) ≡ (b || (a || c))
    swap true true c = refl
    swap true false c = refl
    swap false b c = refl

    by : (o : Option Run) → list_any (lies_in g) (freed_from parts objects (x + 1) es) ≡ (lies_in g item.run || list_any (lies_in g) (freed_from parts objects (x + 1) (changed_at i without_bytes es))) →
        list_any (lies_in g) (cons_option o (freed_from parts objects (x + 1) es)) ≡ (lies_in g item.run || list_any (lies_in g) (cons_option o (freed_from parts objects (x + 1) (changed_at i without_bytes es))))
    by None k = k
    by (Some r) k = ap (λ (b : Bool). lies_in g r || b) k ∙ swap (lies_in g r) (lies_in g item.run) (list_any (lies_in g) (freed_from parts objects (x + 1) (changed_at i without_bytes es)))

-- the same is left once one extent was forgotten
pub swept_same : (y : SpaceState) (e : ℕ) (item : ExtentRecord) → 1 ≤ e → numbered y.extents e ≡ Some item → is_some item.bytes ≡ true → in_use_by y.parts y.objects e ≡ false →
    swept (record y { extents = changed_at (e - 1) without_bytes y.extents; taken = Pool.with_run y.taken item.run.0 item.run.1 false }) ≡ swept y
unfolding numbered lies_in_one
swept_same y zero item l h s u = absurd (omega (arith, l))
swept_same y (suc i) item l h s u =
    let n : suc i - 1 ≡ i = omega arith in
    let m : suc i ≡ 1 + i = omega arith in
    let left : List ExtentRecord = changed_at i without_bytes y.extents in
    let unused : in_use_by y.parts y.objects (1 + i) ≡ false = ap (in_use_by y.parts y.objects) (sym m) ∙ u in
    ap (λ (k : ℕ). swept (record y { extents = changed_at k without_bytes y.extents; taken = Pool.with_run y.taken item.run.0 item.run.1 false })) n
    ∙ ap2 (λ (es : List ExtentRecord) (bs : List Bool). let z : SpaceState = record y { extents = es; taken = bs } in z)
    (each_hidden (λ x z. record z { bytes = if in_use_by y.parts y.objects x then z.bytes else None }) without_bytes 1 i y.extents
    (λ z. ap (λ (b : Bool). let w : ExtentRecord = record { run = z.run; bytes = if b then None else None } in w) unused
    ∙ sym (ap (λ (b : Bool). let w : ExtentRecord = record { run = z.run; bytes = if b then z.bytes else None } in w) unused)))
    (ap (without_runs (freed_from y.parts y.objects 1 left)) (run_freed y.taken item.run)
    ∙ each_twice (λ g used. used && not (lies_in_one (freed_from y.parts y.objects 1 left) g)) (λ g used. used && not (lies_in_one (item.run ∷ []) g)) 0 y.taken
    ∙ each_alike (λ g used. (used && not (lies_in_one (item.run ∷ []) g)) && not (lies_in_one (freed_from y.parts y.objects 1 left) g)) (λ g used. used && not (lies_in_one (freed_from y.parts y.objects 1 y.extents) g)) 0 y.taken
    (λ g used. twice used (lies_in g item.run) (lies_in_one (freed_from y.parts y.objects 1 left) g) ∙ sym (ap (λ (b : Bool). used && not b) (freed_aside y.parts y.objects 1 i y.extents item g h s unused))))
  where
    twice : (a b c : Bool) → ((a && not (b || false)) && not c) ≡ (a && not (b || c))
    twice true true c = refl
    twice true false c = refl
    twice false b c = refl

-- one extent fewer has bytes
pub fewer : (es : List ExtentRecord) (e : ℕ) (item : ExtentRecord) → 1 ≤ e → numbered es e ≡ Some item → is_some item.bytes ≡ true → count_of has_bytes (changed_at (e - 1) without_bytes es) < count_of has_bytes es
unfolding numbered
fewer es zero item l h s = absurd (omega (arith, l))
fewer es (suc i) item l h s =
    let n : suc i - 1 ≡ i = omega arith in
    let k = count_set has_bytes es i item (without_bytes item) h in
    let one : one_if (has_bytes item) ≡ 1 = ap one_if s in
    let same : count_of has_bytes (changed_at (suc i - 1) without_bytes es) ≡ count_of has_bytes (set es i (without_bytes item)) =
    ap (λ (j : ℕ). count_of has_bytes (changed_at j without_bytes es)) n ∙ sym (ap (count_of has_bytes) (set_changed i without_bytes es item h))
    in
    omega (arith, k, one, same)

-- ---- where all extents with bytes are in use

no_runs : (taken : List Bool) → without_runs [] taken ≡ taken
unfolding lies_in_one
no_runs taken = each_none (λ g used. used && not (lies_in_one [] g)) 0 taken (λ i used e. and_true used)

freed_none : (parts : List Part) (objects : List ObjectRecord) (x : ℕ) (es : List ExtentRecord) → ((i : ℕ) (item : ExtentRecord) → slice_get es i ≡ Some item → is_some item.bytes ≡ true → in_use_by parts objects (x + i) ≡ true) → freed_from parts objects x es ≡ []
freed_none parts objects x [] h = refl
freed_none parts objects x (z ∷ es) h =
    let n : x ≡ x + 0 = omega arith in
    ap2 (λ (b : Bool) (rs : List Run). cons_option (if b then Some z.run else None) rs)
    (by (is_some z.bytes) (λ s. ap (in_use_by parts objects) n ∙ h 0 z refl s))
    (freed_none parts objects (x + 1) es (λ i item e s. let m : x + 1 + i ≡ x + suc i = omega arith in ap (in_use_by parts objects) m ∙ h (suc i) item e s))
  where
    by : (a : Bool) → (a ≡ true → in_use_by parts objects x ≡ true) → (a && not (in_use_by parts objects x)) ≡ false
    by true g = ap not (g refl)
    by false g = refl

pub all_used : (y : SpaceState) → ((i : ℕ) (item : ExtentRecord) → slice_get y.extents i ≡ Some item → is_some item.bytes ≡ true → in_use_by y.parts y.objects (1 + i) ≡ true) → y ≡ swept y
all_used y h =
    sym (ap2 (λ (es : List ExtentRecord) (bs : List Bool). let z : SpaceState = record y { extents = es; taken = bs } in z)
    (each_none (λ x z. record z { bytes = if in_use_by y.parts y.objects x then z.bytes else None }) 1 y.extents (λ i item e. by i item item.bytes refl e))
    (ap (λ (rs : List Run). without_runs rs y.taken) (freed_none y.parts y.objects 1 y.extents h) ∙ no_runs y.taken))
  where
    by : (i : ℕ) (item : ExtentRecord) (o : Option (List ℕ)) → item.bytes ≡ o → slice_get y.extents i ≡ Some item →
        (let z : ExtentRecord = record item { bytes = if in_use_by y.parts y.objects (1 + i) then item.bytes else None } in z) ≡ item
    by i item None q e =
        ap (λ (p : Option (List ℕ)). let z : ExtentRecord = record { run = item.run; bytes = p } in z)
        (ap (λ (p : Option (List ℕ)). if in_use_by y.parts y.objects (1 + i) then p else None) q ∙ none (in_use_by y.parts y.objects (1 + i)) ∙ sym q)
      where
        nothing : Option (List ℕ)
        nothing = None

        none : (b : Bool) → (if b then nothing else nothing) ≡ nothing
        none true = refl
        none false = refl
    by i item (Some bytes) q e =
        ap (λ (b : Bool). let z : ExtentRecord = record { run = item.run; bytes = if b then item.bytes else None } in z)
        (h i item e (ap (λ (p : Option (List ℕ)). is_some p) q))

-- so it is where none is found
pub none_unused : (y : ObjectsState) (es : List ExtentRecord) (flags : List Bool) → IsBacked y (shapes_of es) flags → first_unused y ≡ None →
    (i : ℕ) (item : ExtentRecord) → slice_get es i ≡ Some item → is_some item.bytes ≡ true → in_use_by y.parts y.records (1 + i) ≡ true
unfolding numbered
none_unused y es flags b h i item e s =
    let n : suc i ≡ 1 + i = omega arith in
    let size : is_some (size_in (shapes_of es) (suc i)) ≡ true =
    ap (λ (o : Option Shape). is_some (option_and_then (λ z. z.size) o)) (numbered_map shape_of es (suc i) ∙ ap (option_map shape_of) e) ∙ test item.bytes s
    in
    turned (in_use_by y.parts y.records (1 + i)) (ap (λ (k : ℕ). not (in_use_by y.parts y.records k)) (sym n) ∙ none_listed (λ k. not (in_use_by y.parts y.records k)) y.extents h (suc i) (b.listed (suc i) ∙ size))
  where
    turned : (c : Bool) → not c ≡ false → c ≡ true
    turned true q = refl
    turned false q = cc

    test : (o : Option (List ℕ)) → is_some o ≡ true → is_some (option_map length o) ≡ true
    test None k = k
    test (Some bytes) k = refl
