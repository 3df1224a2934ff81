-- Whether the domain of the last entry goes on, and which it is.
use Rattle.std.proofs.Common.{◌≡◌, ◌≢◌, refl, sym, ◌∙◌, ap, subst, ℕ, suc, ◌+◌, ◌<◌, ◌≤◌, Bool, true, false, not, ◌&&◌, [], ◌∷◌, length, Option, Some, None, slice_get, ◌==◌, arith, cond}
use Rattle.std.specs.Prelude.{find, nat_lt}
use Rattle.std.specs.List.{range_with_len}
use Rattle.std.specs.Option.{option_or}
use Rattle.std.proofs.lemmas.Bool.Decides.{nat_tests}
use Rattle.jx_base.specs.declared.act.Entry.{Entry}
use Rattle.jx_base.specs.Histories.{Past, count_where}
use Rattle.jx_base.proofs.BasicLaws.{ap3}
use Rattle.jx_model.specs.Domains.{domains_made}
use Rattle.jx_model.specs.Permits.{can_act, first_alive}
use Rattle.jx_model.specs.SingleWorker.{goes_on, is_yield, last_domain, next_above, next_domain}
use Rattle.table_threads.proofs.Records.{find_same, is_that, not_that}
use Rattle.run_alone.proofs.Picking.{goes_next, waits_next}

-- the last entry by its place
first : (x e : Entry) (past : Past) → slice_get (x ∷ past) 0 ≡ Some e → x ≡ e
first x e past h = cc

-- the newest of a past that has an entry more
pub newest_is : (new past : Past) (e x : Entry) → new ≡ e ∷ past → slice_get new 0 ≡ Some x → e ≡ x
newest_is new past e x q h = first e x past (subst (λ (new : Past). slice_get new 0 ≡ Some x) q h)

-- it is of Domain Zero
pub stays_by_domain : (past : Past) (e : Entry) → slice_get past 0 ≡ Some e → e.domain.0 ≡ 0 → goes_on past ≡ false
unfolding goes_on
stays_by_domain [] e h z = refl
stays_by_domain (x ∷ past) e h z =
    ap (λ (b : Bool). not b && not (is_yield x.act) && can_act (x ∷ past) x.domain.0) (is_that x.domain.0 0 (ap (λ (e : Entry). e.domain.0) (first x e past h) ∙ z))

-- it is a yield
pub stays_by_yield : (past : Past) (e : Entry) → slice_get past 0 ≡ Some e → is_yield e.act ≡ true → goes_on past ≡ false
unfolding goes_on
stays_by_yield [] e h z = refl
stays_by_yield (x ∷ past) e h z = by (not (x.domain.0 == 0)) (is_yield x.act) (ap (λ (e : Entry). is_yield e.act) (first x e past h) ∙ z)
  where
    by : (b y : Bool) → y ≡ true → (b && not y && can_act (x ∷ past) x.domain.0) ≡ false
    by true true q = refl
    by false true q = refl
    by b false q = cc

-- else it goes on where it can act
pub goes : (past : Past) (e : Entry) → slice_get past 0 ≡ Some e → e.domain.0 ≢ 0 → is_yield e.act ≡ false → goes_on past ≡ can_act past e.domain.0
unfolding goes_on
goes [] e h z y = cc
goes (x ∷ past) e h z y =
    ap3 (λ (b y : Bool) (d : ℕ). not b && not y && can_act (x ∷ past) d) (not_that x.domain.0 0 (λ q. z (sym (q ∙ same)))) (ap (λ (e : Entry). is_yield e.act) (first x e past h) ∙ y) same
  where
    same : x.domain.0 ≡ e.domain.0
    same = ap (λ (e : Entry). e.domain.0) (first x e past h)

-- its domain
pub last_is : (past : Past) (e : Entry) → slice_get past 0 ≡ Some e → last_domain past ≡ e.domain.0
unfolding last_domain
last_is [] e h = cc
last_is (x ∷ past) e h = ap (λ (e : Entry). e.domain.0) (first x e past h)

-- ---- whose turn it is

-- that of the last entry
pub turn_stays : (past : Past) (e : Entry) → slice_get past 0 ≡ Some e → goes_on past ≡ true → Some e.domain.0 ≡ next_domain past
turn_stays past e h g = sym (goes_next past g ∙ ap (λ (d : ℕ). Some d) (last_is past e h))

-- the next above it
pub turn_above : (past : Past) (e : Entry) (d : ℕ) → slice_get past 0 ≡ Some e → goes_on past ≡ false → Some d ≡ next_above past e.domain.0 → Some d ≡ next_domain past
turn_above past e d h g q =
    sym (waits_next past g
    ∙ ap (λ (k : ℕ). option_or (next_above past k) (first_alive past)) (last_is past e h)
    ∙ ap (λ (o : Option ℕ). option_or o (first_alive past)) (sym q))

-- the least above 0 is the least
least_is : (past : Past) → next_above past 0 ≡ first_alive past
unfolding next_above first_alive
least_is past = find_same (λ (k : ℕ). nat_lt 0 k && can_act past k) (can_act past) (domains_made past) (λ k l u. same k (can_act past k) l)
  where
    same : (k : ℕ) (b : Bool) → 1 ≤ k → (nat_lt 0 k && b) ≡ b
    same k b l = grind (arith, nat_tests)

-- or the least
pub turn_least : (past : Past) (e : Entry) (o : Option ℕ) → slice_get past 0 ≡ Some e → goes_on past ≡ false → None ≡ next_above past e.domain.0 → o ≡ next_above past 0 → o ≡ next_domain past
turn_least past e o h g q w =
    w ∙ least_is past
    ∙ sym (waits_next past g
    ∙ ap (λ (k : ℕ). option_or (next_above past k) (first_alive past)) (last_is past e h)
    ∙ ap (λ (o : Option ℕ). option_or o (first_alive past)) (sym q))

-- where the first number fails, the others are left
pub fails : (p : ℕ → Bool) (k m n : ℕ) → n ≡ suc m → p k ≡ false → find p (range_with_len k n) ≡ find p (range_with_len (k + 1) m)
fails p k m n q h =
    ap (λ (n : ℕ). find p (range_with_len k n)) q ∙ ap (λ (b : Bool). cond b (Some k) (find p (range_with_len (k + 1) m))) h

-- a past with domains has entries
pub some_entries : (past : Past) → domains_made past ≢ 0 → 0 < length past
unfolding count_where
some_entries [] h = absurd (h refl)
some_entries (e ∷ past) h = omega arith
