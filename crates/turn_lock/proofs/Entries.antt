-- The entries of one domain, and the domains that they made.
use Rattle.std.proofs.Common.{◌≡◌, ◌≢◌, ℕ, zero, suc, ◌+◌, ◌<◌, ◌≤◌, ◌⊎◌, inl, inr, Bool, true, false, cond, eqb, List, [], ◌∷◌, ◌++◌, length, take, drop, slice_get, Option, Some, None, refl, ap, sym, ◌∙◌, subst, ⊎_elim, arith, append_assoc, append-nil, length-append, leb, leb-true, leb-false, eqb-true, ne_eqb, eq-eqb}
use Rattle.std.specs.List.{Contains, cons_option, last_or}
use Rattle.std.specs.Option.{option_and_then}
use Rattle.std.proofs.lemmas.List.{take-append-drop, take-append-le}
use Rattle.std.proofs.lemmas.List.Elements.{filter-append}
use mathlib.Core.List.{IsPrefix}
use Rattle.jx_base.specs.declared.act.Entry.{Entry}
use Rattle.jx_base.specs.Births.{answered_domain, answered_domains, IsNumbered}
use Rattle.jx_base.specs.Histories.{is_own, own_entries}
use Rattle.turn_lock.specs.Entries.{last_born, IsMade, Extends}
use Rattle.turn_lock.specs.Views.{longer}
use Rattle.turn_lock.proofs.Lists.{prefix_self, prefix_shorter, nothing_added, none_added, slice_get-push_cases, Contains-cases, Contains-head, Contains-later}
use Rattle.turn_lock.proofs.Births.{AllDiffer, AllDiffer-tail, AllDiffer-head, made_more, last_is_new, last_is_positive}

-- ---- own entries

pub own_entries-append : (d : ℕ) (xs ys : List Entry) → own_entries (xs ++ ys) d ≡ own_entries xs d ++ own_entries ys d
unfolding own_entries is_own
own_entries-append d xs ys = filter-append (is_own d) xs ys

own_head : (d : ℕ) (e : Entry) (es : List Entry) (b : Bool) → eqb e.domain.0 d ≡ b → own_entries (e ∷ es) d ≡ cond b (e ∷ own_entries es d) (own_entries es d)
unfolding own_entries is_own
own_head d e es b is = ap (λ (t : Bool). cond t (e ∷ own_entries es d) (own_entries es d)) is

pub own_other : (d : ℕ) (xs : List Entry) (e : Entry) → e.domain.0 ≢ d → own_entries (xs ++ e ∷ []) d ≡ own_entries xs d
unfolding own_entries is_own
own_other d xs e ne = own_entries-append d xs (e ∷ []) ∙ (ap (λ w. own_entries xs d ++ w) (own_head d e [] false (ne_eqb e.domain.0 d ne)) ∙ append-nil (own_entries xs d))

pub own_mine : (d : ℕ) (xs : List Entry) (e : Entry) → e.domain.0 ≡ d → own_entries (xs ++ e ∷ []) d ≡ own_entries xs d ++ e ∷ []
unfolding own_entries is_own
own_mine d xs e is = own_entries-append d xs (e ∷ []) ∙ ap (λ w. own_entries xs d ++ w) (own_head d e [] true (eq-eqb e.domain.0 d is))

-- a list between two that have the same entries of d has these entries too
pub own_between : (d : ℕ) (xs ys zs : List Entry) → IsPrefix xs ys → IsPrefix ys zs → own_entries xs d ≡ own_entries zs d → own_entries ys d ≡ own_entries xs d
own_between d xs ys zs p q e =
    let own : List Entry → List Entry = λ es. own_entries es d in
    let up : own ys ≡ own xs ++ own p.0 = ap own (sym p.1) ∙ own_entries-append d xs p.0 in
    let top : own zs ≡ own ys ++ own q.0 = ap own (sym q.1) ∙ own_entries-append d ys q.0 in
    let all : own xs ++ (own p.0 ++ own q.0) ≡ own xs = sym (append_assoc (own xs) (own p.0) (own q.0)) ∙ (ap (λ w. w ++ own q.0) (sym up) ∙ (sym top ∙ sym e)) in
    let gone : own p.0 ++ own q.0 ≡ [] = nothing_added (own xs) (own p.0 ++ own q.0) all in
    up ∙ (ap (λ w. own xs ++ w) (none_added (own p.0) (own q.0) gone) ∙ append-nil (own xs))

-- where the whole has no entry of d, no beginning has one
pub own_none_before : (d : ℕ) (xs zs : List Entry) → IsPrefix xs zs → own_entries zs d ≡ [] → own_entries xs d ≡ []
own_none_before d xs zs p e = none_added (own_entries xs d) (own_entries p.0 d) (sym (own_entries-append d xs p.0) ∙ (ap (λ (es : List Entry). own_entries es d) p.1 ∙ e))

own_none : (d : ℕ) (es : List Entry) → ((i : ℕ) (x : Entry) → slice_get es i ≡ Some x → x.domain.0 ≢ d) → own_entries es d ≡ []
unfolding own_entries is_own
own_none d [] never = refl
own_none d (e ∷ es) never = own_head d e es false (ne_eqb e.domain.0 d (never 0 e refl)) ∙ own_none d es (λ i x at. never (suc i) x at)

length-own_entries : (d : ℕ) (es : List Entry) → length (own_entries es d) ≤ length es
unfolding own_entries is_own
length-own_entries d [] = omega arith
length-own_entries d (e ∷ es) = by_test d e es (eqb e.domain.0 d) refl (length-own_entries d es) where
  by_test : (d : ℕ) (e : Entry) (es : List Entry) (b : Bool) → eqb e.domain.0 d ≡ b → length (own_entries es d) ≤ length es → length (own_entries (e ∷ es) d) ≤ suc (length es)
  by_test d e es true is le = omega (arith, ap length (own_head d e es true is))
  by_test d e es false is le = omega (arith, ap length (own_head d e es false is))

-- where an entry was added, there is room for one more of the domain's own
pub own_room : (d : ℕ) (seen es : List Entry) → Extends seen es d → (length es ≡ length seen → ⊥) → length (own_entries seen d) + 1 ≤ length es
own_room d seen es more ne = let le = length-own_entries d seen in
    ⊎_elim (λ (t : es ≡ seen). absurd (ne (ap length t))) (λ (t : (x : Entry) × (es ≡ seen ++ x ∷ []) × (x.domain.0 ≡ d)). omega (arith, ap length t.1, length-append seen (t.0 ∷ []))) more

-- two beginnings of a list begin the longer one, which begins the list
pub longer_of : (xs ys zs : List Entry) → IsPrefix xs zs → IsPrefix ys zs → IsPrefix xs (longer xs ys) × IsPrefix ys (longer xs ys) × IsPrefix (longer xs ys) zs
longer_of xs ys zs p q = by_test (leb (length xs) (length ys)) refl where
  by_test : (b : Bool) → leb (length xs) (length ys) ≡ b → IsPrefix xs (cond b ys xs) × IsPrefix ys (cond b ys xs) × IsPrefix (cond b ys xs) zs
  by_test true e = (prefix_shorter xs ys zs p q (leb-true (length xs) (length ys) e), prefix_self ys, q)
  by_test false e = (prefix_self xs, prefix_shorter ys xs zs q p (let lt = leb-false (length xs) (length ys) e in omega arith), p)

-- ---- the domain that the last entry made

last_or-push : (o : Option Entry) (es : List Entry) (e : Entry) → last_or o (es ++ e ∷ []) ≡ Some e
last_or-push o [] e = refl
last_or-push o (x ∷ xs) e = last_or-push (Some x) xs e

pub last_born-push : (es : List Entry) (e : Entry) → last_born (es ++ e ∷ []) ≡ answered_domain e
last_born-push es e = ap (option_and_then answered_domain) (last_or-push None es e)

last_from : (x : Entry) (xs : List Entry) (d : ℕ) → option_and_then answered_domain (last_or (Some x) xs) ≡ Some d → Contains (answered_domains (x ∷ xs)) d
last_from x [] d e = subst (λ (o : Option ℕ). Contains (cons_option o []) d) (sym e) (Contains-head d [] d refl)
last_from x (y ∷ ys) d e = later (answered_domain x) (answered_domains (y ∷ ys)) d (last_from y ys d e) where
  later : (o : Option ℕ) (ds : List ℕ) (d : ℕ) → Contains ds d → Contains (cons_option o ds) d
  later None ds d c = c
  later (Some n) ds d c = Contains-later n ds d c

pub last_made : (es : List Entry) (d : ℕ) → last_born es ≡ Some d → Contains (answered_domains es) d
last_made [] d e = absurd (cc (e))
last_made (x ∷ xs) d e = last_from x xs d e

-- ---- domains that were made

pub IsMade-more : (es fs : List Entry) (d : ℕ) → IsMade es d → IsMade (es ++ fs) d
IsMade-more es fs d m = record { either = ⊎_elim (λ (z : d ≡ 0). inl z) (λ (c : Contains (answered_domains es) d). inr (made_more es fs d c)) m.either }

IsMade-from_take : (es : List Entry) (i d : ℕ) → IsMade (take i es) d → IsMade es d
IsMade-from_take es i d m = subst (λ (l : List Entry). IsMade l d) (take-append-drop i es) (IsMade-more (take i es) (drop i es) d m)

-- the domain that the last entry of a numbered list made was not made before
pub unmade : (h : List Entry) (e : Entry) (b c : ℕ) → IsNumbered (h ++ e ∷ []) → answered_domain e ≡ Some b → IsMade h c → c ≢ b
unmade h e b c num born made is = ⊎_elim (λ (z : c ≡ 0). last_is_positive h e b num born (sym is ∙ z)) (λ (t : Contains (answered_domains h) c). last_is_new h e b c num born t is) made.either

-- each entry's domain is Domain Zero, or was made by an entry before it
abbrev pub IsRooted : List Entry → Type 0
IsRooted h = (place : ℕ) (entry : Entry) → slice_get h place ≡ Some entry → IsMade (take place h) entry.domain.0

pub IsRooted-push : (h : List Entry) (e : Entry) → IsRooted h → IsMade h e.domain.0 → IsRooted (h ++ e ∷ [])
IsRooted-push h e rooted made i x at = ⊎_elim
    (λ (t : (i < length h) × (slice_get h i ≡ Some x)). let le : i ≤ length h = let lt = t.0 in omega arith in subst (λ (l : List Entry). IsMade l x.domain.0) (sym (take-append-le i h (e ∷ []) le)) (rooted i x t.1))
    (λ (t : (i ≡ length h) × (e ≡ x)). let le : i ≤ length h = let is = t.0 in omega arith in
    let whole : take i (h ++ e ∷ []) ≡ h = take-append-le i h (e ∷ []) le ∙ take_all h i t.0 in
    subst (λ (l : List Entry). IsMade l x.domain.0) (sym whole) (subst (λ (z : Entry). IsMade h z.domain.0) t.1 made))
    (slice_get-push_cases h e x i at) where
      take_all : (l : List Entry) (i : ℕ) → i ≡ length l → take i l ≡ l
      take_all [] zero is = refl
      take_all [] (suc i) is = refl
      take_all (y ∷ ys) zero is = absurd (omega arith)
      take_all (y ∷ ys) (suc i) is = ap (λ l. y ∷ l) (take_all ys i (omega arith))

-- a domain that was not made has no entry
pub own_unmade : (h : List Entry) (c : ℕ) → IsRooted h → (IsMade h c → ⊥) → own_entries h c ≡ []
own_unmade h c rooted unmade = own_none c h (λ i x at is. unmade (subst (IsMade h) is (IsMade-from_take h i x.domain.0 (rooted i x at))))

-- ---- who made a domain

abbrev MadeHere : Entry → ℕ → ℕ → Type 0
MadeHere e c d = (e.domain.0 ≡ c) × (answered_domain e ≡ Some d)

answered_cases : (o : Option ℕ) (ds : List ℕ) (d : ℕ) → Contains (cons_option o ds) d → (o ≡ Some d) ⊎ Contains ds d
answered_cases None ds d c = inr c
answered_cases (Some n) ds d c = ⊎_elim (λ (t : n ≡ d). inl (ap Some t)) (λ (t : Contains ds d). inr t) (Contains-cases n ds d c)

answered_later : (o : Option ℕ) (ds : List ℕ) (d : ℕ) → Contains ds d → Contains (cons_option o ds) d
answered_later None ds d c = c
answered_later (Some n) ds d c = Contains-later n ds d c

maker_cases : (e : Entry) (es : List Entry) (c d : ℕ) → Contains (answered_domains (own_entries (e ∷ es) c)) d → MadeHere e c d ⊎ Contains (answered_domains (own_entries es c)) d
unfolding own_entries is_own
maker_cases e es c d k = by_test (eqb e.domain.0 c) refl where
  by_test : (b : Bool) → eqb e.domain.0 c ≡ b → MadeHere e c d ⊎ Contains (answered_domains (own_entries es c)) d
  by_test true is = ⊎_elim (λ (t : answered_domain e ≡ Some d). inl (eqb-true e.domain.0 c is, t)) (λ (t : Contains (answered_domains (own_entries es c)) d). inr t)
      (answered_cases (answered_domain e) (answered_domains (own_entries es c)) d (subst (λ (l : List Entry). Contains (answered_domains l) d) (own_head c e es true is) k))
  by_test false is = inr (subst (λ (l : List Entry). Contains (answered_domains l) d) (own_head c e es false is) k)

-- what an own entry made, an entry of the whole made
pub own_made : (es : List Entry) (c d : ℕ) → Contains (answered_domains (own_entries es c)) d → Contains (answered_domains es) d
unfolding own_entries is_own
own_made [] c d k = k
own_made (e ∷ es) c d k = ⊎_elim
    (λ (t : MadeHere e c d). subst (λ (o : Option ℕ). Contains (cons_option o (answered_domains es)) d) (sym t.1) (Contains-head d (answered_domains es) d refl))
    (λ (t : Contains (answered_domains (own_entries es c)) d). answered_later (answered_domain e) (answered_domains es) d (own_made es c d t))
    (maker_cases e es c d k)

differ_tail : (o : Option ℕ) (ds : List ℕ) → AllDiffer (cons_option o ds) → AllDiffer ds
differ_tail None ds a = a
differ_tail (Some n) ds a = AllDiffer-tail n ds a

not_twice : (e : Entry) (es : List Entry) (d : ℕ) → AllDiffer (answered_domains (e ∷ es)) → answered_domain e ≡ Some d → Contains (answered_domains es) d → ⊥
not_twice e es d a made c = AllDiffer-head d (answered_domains es) d (subst (λ (o : Option ℕ). AllDiffer (cons_option o (answered_domains es))) made a) c refl

-- entries of two domains do not make one domain
pub one_maker : (es : List Entry) (b c d : ℕ) → AllDiffer (answered_domains es) → Contains (answered_domains (own_entries es b)) d → Contains (answered_domains (own_entries es c)) d → b ≡ c
unfolding own_entries is_own
one_maker [] b c d a (k, lt, is) l = absurd (omega arith)
one_maker (e ∷ es) b c d a k l = ⊎_elim
    (λ (t : MadeHere e b d). ⊎_elim
    (λ (u : MadeHere e c d). sym t.0 ∙ u.0)
    (λ (u : Contains (answered_domains (own_entries es c)) d). absurd (not_twice e es d a t.1 (own_made es c d u)))
    (maker_cases e es c d l))
    (λ (t : Contains (answered_domains (own_entries es b)) d). ⊎_elim
    (λ (u : MadeHere e c d). absurd (not_twice e es d a u.1 (own_made es b d t)))
    (λ (u : Contains (answered_domains (own_entries es c)) d). one_maker es b c d (differ_tail (answered_domain e) (answered_domains es) a) t u)
    (maker_cases e es c d l))
    (maker_cases e es b d k)
