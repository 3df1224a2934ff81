-- Records: what a definition gives at the numbers 1 to n, and how they change.
use Rattle.std.proofs.Common.{◌≡◌, ◌≢◌, refl, sym, ◌∙◌, ap, ℕ, suc, zero, ◌+◌, ◌<◌, ◌≤◌, Bool, true, false, cond, ◌||◌, ◌&&◌, List, [], ◌∷◌, ◌++◌, length, map, Option, Some, None, is_some, arith, add-one, slice_get, filter, set, ◌⊎◌, inl, inr, ◌==◌}
use Rattle.std.specs.List.{list_any, range_with_len, find}
use Rattle.std.proofs.lemmas.List.{map-append}
use Rattle.std.proofs.lemmas.List.Elements.{filter-append}
use Rattle.std.proofs.lemmas.List.FromFn.{length-map-range_with_len}
use Rattle.jx_base.specs.Basics.{up_to, numbered}
use Rattle.table_threads.specs.Changes.{each_from, changed_at}

-- ---- tests and options

-- equal numbers or different ones
pub same_or_not : (x y : ℕ) → (x ≡ y) ⊎ (x ≢ y)
same_or_not x y = grind arith

-- the test of different numbers fails
pub not_that : (a b : ℕ) → b ≢ a → (a == b) ≡ false
not_that a b h = grind arith

-- the test of equal numbers passes
pub is_that : (a b : ℕ) → a ≡ b → (a == b) ≡ true
is_that a b h = grind arith

-- an option that is there
pub some_of : {A : Type 0} (o : Option A) → is_some o ≡ true → (x : A) × (o ≡ Some x)
some_of None h = cc
some_of (Some x) h = (x, refl)

-- a first test that fails adds nothing
pub or_false : (x : Bool) → (x || false) ≡ x
or_false true = refl
or_false false = refl

-- ---- ranges

-- one number more at the end of a range
pub range_more : (a n : ℕ) → range_with_len a (suc n) ≡ range_with_len a n ++ (a + n) ∷ []
range_more a zero = ap (λ (x : ℕ). x ∷ []) (omega arith)
range_more a (suc n) = ap (λ xs. a ∷ xs) (range_more (a + 1) n ∙ ap (λ x. range_with_len (a + 1) n ++ x ∷ []) (omega arith))

-- one number more
pub up_to_more : (n : ℕ) → up_to (n + 1) ≡ up_to n ++ (n + 1) ∷ []
unfolding up_to
up_to_more n = ap (λ (k : ℕ). range_with_len 1 k) (add-one n) ∙ range_more 1 n ∙ ap (λ (k : ℕ). range_with_len 1 n ++ k ∷ []) (omega arith)

-- what agrees at each number of a range gives the same there
pub map_range : {A : Type 0} (f g : ℕ → A) (a n : ℕ) → ((k : ℕ) → a ≤ k → k < a + n → f k ≡ g k) → map f (range_with_len a n) ≡ map g (range_with_len a n)
map_range f g a zero h = refl
map_range f g a (suc n) h =
    rw (h a (omega arith) (omega arith), map_range f g (a + 1) n (λ k l u. h k (omega (arith, l)) (omega (arith, u)))) refl

-- tests that agree at each number of a range keep the same of it
pub filter_range : (p q : ℕ → Bool) (a n : ℕ) → ((k : ℕ) → a ≤ k → k < a + n → p k ≡ q k) → filter p (range_with_len a n) ≡ filter q (range_with_len a n)
filter_range p q a zero h = refl
filter_range p q a (suc n) h =
    rw (h a (omega arith) (omega arith), filter_range p q (a + 1) n (λ k l u. h k (omega (arith, l)) (omega (arith, u)))) refl

-- tests that agree at each number of a range find the same in it
pub find_range : (p q : ℕ → Bool) (a n : ℕ) → ((k : ℕ) → a ≤ k → k < a + n → p k ≡ q k) → find p (range_with_len a n) ≡ find q (range_with_len a n)
find_range p q a zero h = refl
find_range p q a (suc n) h =
    rw (h a (omega arith) (omega arith), find_range p q (a + 1) n (λ k l u. h k (omega (arith, l)) (omega (arith, u)))) refl

-- tests that agree at each number of a range pass at one of them alike
pub any_range : (p q : ℕ → Bool) (a n : ℕ) → ((k : ℕ) → a ≤ k → k < a + n → p k ≡ q k) → list_any p (range_with_len a n) ≡ list_any q (range_with_len a n)
any_range p q a zero h = refl
any_range p q a (suc n) h =
    rw (h a (omega arith) (omega arith), any_range p q (a + 1) n (λ k l u. h k (omega (arith, l)) (omega (arith, u)))) refl

-- a test that fails at each number of a range keeps none of it
pub filter_none : (p : ℕ → Bool) (a n : ℕ) → ((k : ℕ) → a ≤ k → k < a + n → p k ≡ false) → filter p (range_with_len a n) ≡ []
filter_none p a zero h = refl
filter_none p a (suc n) h =
    rw (h a (omega arith) (omega arith), filter_none p (a + 1) n (λ k l u. h k (omega (arith, l)) (omega (arith, u)))) refl

-- the same for the numbers from 1
pub filter_same : (p q : ℕ → Bool) (n : ℕ) → ((k : ℕ) → 1 ≤ k → k ≤ n → p k ≡ q k) → filter p (up_to n) ≡ filter q (up_to n)
unfolding up_to
filter_same p q n h = filter_range p q 1 n (λ k l u. h k l (omega (arith, u)))

-- one number more, which passes or not
pub filter_more : (p : ℕ → Bool) (n : ℕ) → filter p (up_to (n + 1)) ≡ filter p (up_to n) ++ cond (p (n + 1)) ((n + 1) ∷ []) []
filter_more p n = ap (filter p) (up_to_more n) ∙ filter-append p (up_to n) _

-- the same for a test of the numbers from 1
pub any_same : (p q : ℕ → Bool) (n : ℕ) → ((k : ℕ) → 1 ≤ k → k ≤ n → p k ≡ q k) → list_any p (up_to n) ≡ list_any q (up_to n)
unfolding up_to
any_same p q n h = any_range p q 1 n (λ k l u. h k l (omega (arith, u)))

-- the same for what is found from 1 on
pub find_same : (p q : ℕ → Bool) (n : ℕ) → ((k : ℕ) → 1 ≤ k → k ≤ n → p k ≡ q k) → find p (up_to n) ≡ find q (up_to n)
unfolding up_to
find_same p q n h = find_range p q 1 n (λ k l u. h k l (omega (arith, u)))

-- a test of lists end to end
pub any_append : {A : Type 0} (p : A → Bool) (xs ys : List A) → list_any p (xs ++ ys) ≡ (list_any p xs || list_any p ys)
any_append p [] ys = refl
any_append p (x ∷ xs) ys = ap (λ (b : Bool). p x || b) (any_append p xs ys) ∙ turn (p x) (list_any p xs) (list_any p ys)
  where
    turn : (a b c : Bool) → (a || (b || c)) ≡ ((a || b) || c)
    turn true b c = refl
    turn false b c = refl

-- one number more for a test
pub any_more : (p : ℕ → Bool) (n : ℕ) → list_any p (up_to (n + 1)) ≡ (list_any p (up_to n) || p (n + 1))
any_more p n = ap (list_any p) (up_to_more n) ∙ any_append p (up_to n) _ ∙ ap (λ (b : Bool). list_any p (up_to n) || b) (or_false (p (n + 1)))

-- a number that passes makes the test of all pass
pub any_at : (p : ℕ → Bool) (a n x : ℕ) → a ≤ x → x < a + n → p x ≡ true → list_any p (range_with_len a n) ≡ true
any_at p a zero x l u h = absurd (omega (arith, l, u))
any_at p a (suc n) x l u h = by (same_or_not a x) (any_at p (a + 1) n x)
  where
    first : (b c : Bool) → b ≡ true → (b || c) ≡ true
    first true c q = refl
    first false c q = cc

    second : (b c : Bool) → c ≡ true → (b || c) ≡ true
    second true c q = refl
    second false c q = q

    by : (a ≡ x) ⊎ (a ≢ x) → (a + 1 ≤ x → x < a + 1 + n → p x ≡ true → list_any p (range_with_len (a + 1) n) ≡ true) → (p a || list_any p (range_with_len (a + 1) n)) ≡ true
    by (inl e) again = first (p a) (list_any p (range_with_len (a + 1) n)) (ap p e ∙ h)
    by (inr d) again = second (p a) (list_any p (range_with_len (a + 1) n)) (again (omega (arith, l, d)) (omega (arith, u)) h)

-- a test of all that passes passes at a number
pub any_found : (p : ℕ → Bool) (a n : ℕ) → list_any p (range_with_len a n) ≡ true → (x : ℕ) × (a ≤ x) × (x < a + n) × (p x ≡ true)
any_found p a zero h = cc
any_found p a (suc n) h = by (p a) refl h (any_found p (a + 1) n)
  where
    by : (b : Bool) → p a ≡ b → (b || list_any p (range_with_len (a + 1) n)) ≡ true →
        (list_any p (range_with_len (a + 1) n) ≡ true → (x : ℕ) × (a + 1 ≤ x) × (x < a + 1 + n) × (p x ≡ true)) → (x : ℕ) × (a ≤ x) × (x < a + suc n) × (p x ≡ true)
    by true q h again = (a, omega arith, omega arith, q)
    by false q h again = let r = again h in (r.0, omega (arith, r.1), omega (arith, r.2), r.3)

-- ---- records

-- what agrees at each number has the same records
pub records_same : {A : Type 0} (f g : ℕ → A) (n : ℕ) → ((k : ℕ) → 1 ≤ k → k ≤ n → f k ≡ g k) → map f (up_to n) ≡ map g (up_to n)
unfolding up_to
records_same f g n h = map_range f g 1 n (λ k l u. h k l (omega (arith, u)))

-- one record more
pub records_more : {A : Type 0} (f : ℕ → A) (n : ℕ) → map f (up_to (n + 1)) ≡ map f (up_to n) ++ f (n + 1) ∷ []
records_more f n = ap (map f) (up_to_more n) ∙ map-append f (up_to n) _

-- one place of a range changed
pub set_range : {A : Type 0} (f g : ℕ → A) (a n i : ℕ) → i < n → ((k : ℕ) → a ≤ k → k < a + n → k ≢ a + i → f k ≡ g k) → map g (range_with_len a n) ≡ set (map f (range_with_len a n)) i (g (a + i))
set_range f g a zero i l h = absurd (omega (arith, l))
set_range f g a (suc n) zero l h =
    rw (map_range f g (a + 1) n (λ k l u. h k (omega (arith, l)) (omega (arith, u)) (omega (arith, l)))) (ap (λ (k : ℕ). g k ∷ map g (range_with_len (a + 1) n)) (omega arith))
set_range f g a (suc n) (suc i) l h =
    rw (h a (omega arith) (omega arith) (omega arith), set_range f g (a + 1) n i (omega (arith, l)) (λ k l u d. h k (omega (arith, l)) (omega (arith, u)) (omega (arith, d))))
    (ap (λ (k : ℕ). g a ∷ set (map f (range_with_len (a + 1) n)) i (g k)) (omega arith))

-- one record changed
pub records_set : {A : Type 0} (f g : ℕ → A) (n c i : ℕ) → c ≡ i + 1 → c ≤ n → ((k : ℕ) → 1 ≤ k → k ≤ n → k ≢ c → f k ≡ g k) → map g (up_to n) ≡ set (map f (up_to n)) i (g c)
unfolding up_to
records_set f g n c i e l h =
    set_range f g 1 n i (omega (arith, e, l)) (λ k a b d. h k a (omega (arith, b)) (λ z. d (omega (arith, z, e)))) ∙ ap (λ (k : ℕ). set (map f (range_with_len 1 n)) i (g k)) (omega (arith, e))

-- records of records
pub map_map : {A B C : Type 0} (f : B → C) (g : A → B) (xs : List A) → map (λ x. f (g x)) xs ≡ map f (map g xs)
map_map f g [] = refl
map_map f g (x ∷ xs) = ap (λ ys. f (g x) ∷ ys) (map_map f g xs)

-- a place of what a range gives
pub get_range : {A : Type 0} (f : ℕ → A) (a n i : ℕ) → i < n → slice_get (map f (range_with_len a n)) i ≡ Some (f (a + i))
get_range f a zero i l = absurd (omega (arith, l))
get_range f a (suc n) zero l = ap (λ (k : ℕ). Some (f k)) (omega arith)
get_range f a (suc n) (suc i) l = get_range f (a + 1) n i (omega (arith, l)) ∙ ap (λ (k : ℕ). Some (f k)) (omega arith)

-- a record
pub records_get : {A : Type 0} (f : ℕ → A) (n c i : ℕ) → c ≡ i + 1 → c ≤ n → slice_get (map f (up_to n)) i ≡ Some (f c)
unfolding up_to
records_get f n c i e l = get_range f 1 n i (omega (arith, e, l)) ∙ ap (λ (k : ℕ). Some (f k)) (omega (arith, e))

-- a record by its number
pub numbered_record : {A : Type 0} (f : ℕ → A) (n d : ℕ) → 1 ≤ d → d ≤ n → numbered (map f (up_to n)) d ≡ Some (f d)
unfolding numbered
numbered_record f n zero l u = absurd (omega (arith, l))
numbered_record f n (suc d) l u = records_get f n (suc d) d (omega arith) u

get_none : {A : Type 0} (f : ℕ → A) (a n i : ℕ) → n ≤ i → slice_get (map f (range_with_len a n)) i ≡ None
get_none f a zero i l = refl
get_none f a (suc n) zero l = absurd (omega (arith, l))
get_none f a (suc n) (suc i) l = get_none f (a + 1) n i (omega (arith, l))

-- there is none with another number
pub no_record : {A : Type 0} (f : ℕ → A) (n d : ℕ) → (d ≡ 0) ⊎ (n < d) → numbered (map f (up_to n)) d ≡ None
unfolding numbered up_to
no_record f n zero h = refl
no_record f n (suc d) (inl q) = absurd (omega (arith, q))
no_record f n (suc d) (inr l) = get_none f 1 n d (omega (arith, l))

-- how many records there are
pub records_length : {A : Type 0} (f : ℕ → A) (n : ℕ) → length (map f (up_to n)) ≡ n
unfolding up_to
records_length f n = length-map-range_with_len f 1 n

-- a filter behind a filter of numbers
pub filter_behind : (r p q : ℕ → Bool) (a n : ℕ) → ((k : ℕ) → a ≤ k → k < a + n → p k ≡ q k) → filter p (filter r (range_with_len a n)) ≡ filter q (filter r (range_with_len a n))
filter_behind r p q a zero h = refl
filter_behind r p q a (suc n) h = by (r a) (filter_behind r p q (a + 1) n (λ k l u. h k (omega (arith, l)) (omega (arith, u))))
  where
    by : (b : Bool) → filter p (filter r (range_with_len (a + 1) n)) ≡ filter q (filter r (range_with_len (a + 1) n)) →
        filter p (cond b (a ∷ filter r (range_with_len (a + 1) n)) (filter r (range_with_len (a + 1) n))) ≡ filter q (cond b (a ∷ filter r (range_with_len (a + 1) n)) (filter r (range_with_len (a + 1) n)))
    by true again = rw (h a (omega arith) (omega arith), again) refl
    by false again = again

filter_one : (p q : ℕ → Bool) (x : ℕ) (xs : List ℕ) (a b : Bool) → p x ≡ a → q x ≡ b → filter (λ y. p y && q y) xs ≡ filter q (filter p xs) →
    cond (a && b) (x ∷ filter (λ y. p y && q y) xs) (filter (λ y. p y && q y) xs) ≡ filter q (cond a (x ∷ filter p xs) (filter p xs))
filter_one p q x xs false b h i again = again
filter_one p q x xs true true h i again = rw i (ap (λ (ys : List ℕ). x ∷ ys) again)
filter_one p q x xs true false h i again = rw i again

-- two filters are one of both tests
pub filter_twice : (p q : ℕ → Bool) (xs : List ℕ) → filter (λ x. p x && q x) xs ≡ filter q (filter p xs)
filter_twice p q [] = refl
filter_twice p q (x ∷ xs) = filter_one p q x xs (p x) (q x) refl refl (filter_twice p q xs)

-- ---- counts

-- a test as a number
abbrev pub one_if : Bool → ℕ
one_if true = 1
one_if false = 0

count_range_changed : (p q : ℕ → Bool) (a n c : ℕ) → a ≤ c → c < a + n → ((k : ℕ) → a ≤ k → k < a + n → k ≢ c → p k ≡ q k) →
    length (filter q (range_with_len a n)) + one_if (p c) ≡ length (filter p (range_with_len a n)) + one_if (q c)
count_range_changed p q a zero c l u h = absurd (omega (arith, l, u))
count_range_changed p q a (suc n) c l u h = by (same_or_not a c) (count_range_changed p q (a + 1) n c)
  where
    first : (x y : Bool) (xs : List ℕ) → length (cond y (a ∷ xs) xs) + one_if x ≡ length (cond x (a ∷ xs) xs) + one_if y
    first true true xs = refl
    first true false xs = omega arith
    first false true xs = omega arith
    first false false xs = refl

    later : (x : Bool) (xs ys : List ℕ) (i j : ℕ) → length xs + i ≡ length ys + j → length (cond x (a ∷ xs) xs) + i ≡ length (cond x (a ∷ ys) ys) + j
    later true xs ys i j e = omega (arith, e)
    later false xs ys i j e = e

    by : (a ≡ c) ⊎ (a ≢ c) →
        (a + 1 ≤ c → c < a + 1 + n → ((k : ℕ) → a + 1 ≤ k → k < a + 1 + n → k ≢ c → p k ≡ q k) → length (filter q (range_with_len (a + 1) n)) + one_if (p c) ≡ length (filter p (range_with_len (a + 1) n)) + one_if (q c)) →
        length (filter q (range_with_len a (suc n))) + one_if (p c) ≡ length (filter p (range_with_len a (suc n))) + one_if (q c)
    by (inl e) again =
        rw (← e, filter_range q p (a + 1) n (λ k l u. sym (h k (omega (arith, l)) (omega (arith, u)) (λ z. omega (arith, z, e, l))))) (first (p a) (q a) (filter p (range_with_len (a + 1) n)))
    by (inr d) again =
        rw (h a (omega arith) (omega arith) d)
        (later (q a) (filter q (range_with_len (a + 1) n)) (filter p (range_with_len (a + 1) n)) (one_if (p c)) (one_if (q c))
        (again (omega (arith, l, d)) (omega (arith, u)) (λ k l u. h k (omega (arith, l)) (omega (arith, u)))))

-- how many pass, where the test of one number changes
pub count_changed : (p q : ℕ → Bool) (n c : ℕ) → 1 ≤ c → c ≤ n → ((k : ℕ) → 1 ≤ k → k ≤ n → k ≢ c → p k ≡ q k) →
    length (filter q (up_to n)) + one_if (p c) ≡ length (filter p (up_to n)) + one_if (q c)
unfolding up_to
count_changed p q n c l u h = count_range_changed p q 1 n c l (omega (arith, u)) (λ k a b. h k a (omega (arith, b)))

-- ---- records that change each by its number

-- the records that a definition gives, each changed
pub each_map : {A : Type 0} (f : ℕ → A → A) (g : ℕ → A) (a n : ℕ) → each_from f a (map g (range_with_len a n)) ≡ map (λ m. f m (g m)) (range_with_len a n)
each_map f g a zero = refl
each_map {A = A} f g a (suc n) = ap (λ (xs : List A). f a (g a) ∷ xs) (each_map f g (a + 1) n)

-- to set what a change gives of the item that is there is to change it
pub set_changed : {A : Type 0} (i : ℕ) (f : A → A) (xs : List A) (x : A) → slice_get xs i ≡ Some x → set xs i (f x) ≡ changed_at i f xs
set_changed i f [] x h = cc
set_changed {A = A} zero f (y ∷ xs) x h = let q : y ≡ x = cc in ap (λ (z : A). f z ∷ xs) (sym q)
set_changed {A = A} (suc i) f (y ∷ xs) x h = ap (λ (zs : List A). y ∷ zs) (set_changed i f xs x h)
