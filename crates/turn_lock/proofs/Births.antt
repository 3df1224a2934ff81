-- The domains that entries are answered with.
use Rattle.std.proofs.Common.{◌≡◌, ◌≢◌, ℕ, zero, suc, ◌<◌, List, [], ◌∷◌, ◌++◌, length, get_or, Option, Some, None, append-nil, refl, ap, sym, ◌∙◌, subst, ⊎_elim, arith}
use Rattle.std.specs.List.{All, AllPairs, Contains, cons_option}
use Rattle.std.proofs.lemmas.List.Elements.{All-contains, All-push, Contains-append_left, Contains-push, Contains-push_cases, filter_map-append}
use Rattle.jx_base.specs.declared.act.Entry.{Entry}
use Rattle.jx_base.specs.Births.{answered_domain, answered_domains, IsNumbered}
use Rattle.turn_lock.proofs.Lists.{Contains-cases, Contains-head, Contains-later}

-- numbers of which no two are the same
abbrev pub AllDiffer : List ℕ → Type 0
AllDiffer ns = AllPairs (λ earlier later. earlier ≢ later) ns

pub AllDiffer-tail : (n : ℕ) (ns : List ℕ) → AllDiffer (n ∷ ns) → AllDiffer ns
AllDiffer-tail n ns d i j k lt within = d (suc i) (suc j) k (omega arith) (omega arith)

pub AllDiffer-head : (n : ℕ) (ns : List ℕ) (m : ℕ) → AllDiffer (n ∷ ns) → Contains ns m → n ≢ m
AllDiffer-head n ns m d (k, lt, is) e = d 0 (suc k) m (omega arith) (omega arith) (e ∙ sym is)

pub AllDiffer-last : (ns : List ℕ) (n m : ℕ) → AllDiffer (ns ++ n ∷ []) → Contains ns m → m ≢ n
AllDiffer-last [] n m d (k, lt, is) = absurd (omega arith)
AllDiffer-last (x ∷ xs) n m d c = ⊎_elim (λ (t : x ≡ m). λ e. AllDiffer-head x (xs ++ n ∷ []) n d (Contains-push xs n) (t ∙ e)) (λ (t : Contains xs m). AllDiffer-last xs n m (AllDiffer-tail x (xs ++ n ∷ []) d) t) (Contains-cases x xs m c)

differ_at_head : (n : ℕ) (ns : List ℕ) → ((m : ℕ) → Contains ns m → n ≢ m) → AllDiffer ns → AllDiffer (n ∷ ns)
differ_at_head n ns new d zero zero k lt within = absurd (omega arith)
differ_at_head n ns new d zero (suc j) k lt within = new (get_or ns j k) (contains_at ns j k (omega arith)) where
  contains_at : (ns : List ℕ) (j k : ℕ) → j < length ns → Contains ns (get_or ns j k)
  contains_at [] j k h = absurd (omega arith)
  contains_at (x ∷ xs) zero k h = (0, omega arith, refl)
  contains_at (x ∷ xs) (suc j) k h = Contains-later x xs (get_or xs j k) (contains_at xs j k (omega arith))
differ_at_head n ns new d (suc i) zero k lt within = absurd (omega arith)
differ_at_head n ns new d (suc i) (suc j) k lt within = d i j k (omega arith) (omega arith)

no_item : (n : ℕ) → Contains [] n → ⊥
no_item n (k, lt, is) = absurd (omega arith)

pub AllDiffer-push : (ns : List ℕ) (n : ℕ) → AllDiffer ns → ((m : ℕ) → Contains ns m → m ≢ n) → AllDiffer (ns ++ n ∷ [])
AllDiffer-push [] n d new = differ_at_head n [] (λ m c. absurd (no_item m c)) d
AllDiffer-push (x ∷ xs) n d new =
    differ_at_head x (xs ++ n ∷ [])
    (λ m c e. ⊎_elim (λ (t : Contains xs m). AllDiffer-head x xs m d t e) (λ (t : n ≡ m). new x (Contains-head x xs x refl) (e ∙ sym t)) (Contains-push_cases xs n m c))
    (AllDiffer-push xs n (AllDiffer-tail x xs d) (λ m c. new m (Contains-later x xs m c)))

pub answered_domains-push : (es : List Entry) (e : Entry) → answered_domains (es ++ e ∷ []) ≡ answered_domains es ++ answered_domains (e ∷ [])
answered_domains-push es e = filter_map-append answered_domain es (e ∷ [])

-- an entry that made no domain, and one that made a domain, is added
pub answered_domains-push_none : (es : List Entry) (e : Entry) → answered_domain e ≡ None → answered_domains (es ++ e ∷ []) ≡ answered_domains es
answered_domains-push_none es e none = answered_domains-push es e ∙ (ap (λ (o : Option ℕ). answered_domains es ++ cons_option o []) none ∙ append-nil (answered_domains es))

pub answered_domains-push_some : (es : List Entry) (e : Entry) (n : ℕ) → answered_domain e ≡ Some n → answered_domains (es ++ e ∷ []) ≡ answered_domains es ++ n ∷ []
answered_domains-push_some es e n some = answered_domains-push es e ∙ ap (λ (o : Option ℕ). answered_domains es ++ cons_option o []) some

pub made_more : (es fs : List Entry) (d : ℕ) → Contains (answered_domains es) d → Contains (answered_domains (es ++ fs)) d
made_more es fs d c = subst (λ (ds : List ℕ). Contains ds d) (sym (filter_map-append answered_domain es fs)) (Contains-append_left (answered_domains es) (answered_domains fs) d c)

-- a numbered list stays so where the entry that is added made no domain, or a new one
pub IsNumbered-push_none : (es : List Entry) (e : Entry) → IsNumbered es → answered_domain e ≡ None → IsNumbered (es ++ e ∷ [])
IsNumbered-push_none es e num none =
    let same : answered_domains es ≡ answered_domains (es ++ e ∷ []) = sym (answered_domains-push_none es e none) in
    record { once = subst AllDiffer same num.once; never = subst (λ (ds : List ℕ). All (λ d. d ≢ 0) ds) same num.never }

pub IsNumbered-push_some : (es : List Entry) (e : Entry) (n : ℕ) → IsNumbered es → answered_domain e ≡ Some n → n ≢ 0 → ((m : ℕ) → Contains (answered_domains es) m → m ≢ n) → IsNumbered (es ++ e ∷ [])
IsNumbered-push_some es e n num some positive new =
    let same : answered_domains es ++ n ∷ [] ≡ answered_domains (es ++ e ∷ []) = sym (answered_domains-push_some es e n some) in
    record {
      once = subst AllDiffer same (AllDiffer-push (answered_domains es) n num.once new);
      never = subst (λ (ds : List ℕ). All (λ d. d ≢ 0) ds) same (All-push (λ d. d ≢ 0) (answered_domains es) n num.never positive);
    }

-- the domain that the last entry of a numbered list made is not Domain Zero, and no entry before made it
pub last_is_positive : (es : List Entry) (e : Entry) (n : ℕ) → IsNumbered (es ++ e ∷ []) → answered_domain e ≡ Some n → n ≢ 0
last_is_positive es e n num some =
    let all : All (λ d. d ≢ 0) (answered_domains es ++ n ∷ []) = subst (λ (ds : List ℕ). All (λ d. d ≢ 0) ds) (answered_domains-push_some es e n some) num.never in
    All-contains (λ d. d ≢ 0) (answered_domains es ++ n ∷ []) n all (Contains-push (answered_domains es) n)

pub last_is_new : (es : List Entry) (e : Entry) (n m : ℕ) → IsNumbered (es ++ e ∷ []) → answered_domain e ≡ Some n → Contains (answered_domains es) m → m ≢ n
last_is_new es e n m num some c = AllDiffer-last (answered_domains es) n m (subst AllDiffer (answered_domains-push_some es e n some) num.once) c
