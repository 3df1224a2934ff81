-- The tables of calls after an entry more.
use Rattle.std.proofs.Common.{◌≡◌, ◌≢◌, refl, sym, ◌∙◌, ap, subst, ℕ, ◌+◌, ◌<◌, Bool, true, false, ◌&&◌, cond, List, [], ◌∷◌, length, set, take, replicate, get_or, Option, Some, None, is_some, slice_get, reverse, arith, ◌⊎◌, inl, inr, ◌==◌, if◌then◌else◌}
use Rattle.std.specs.List.{find}
use Rattle.std.specs.Option.{option_map, unwrap_or}
use Rattle.std.proofs.lemmas.List.{length-set, length-replicate}
use Rattle.std.proofs.lemmas.Option.{slice_get_within, get_or_from_slice_get}
use Rattle.jx_base.specs.declared.act.Act.{Act}
use Rattle.jx_base.specs.declared.act.Act.TheVariants as act
use Rattle.jx_base.specs.declared.act.Entry.{Entry}
use Rattle.jx_base.specs.declared.act.Reason.{Reason}
use Rattle.jx_base.specs.declared.ids.CallId.{CallId}
use Rattle.jx_base.specs.Basics.{is_number}
use Rattle.jx_base.specs.Histories.{Past, count_where, is_own, nth_entry}
use Rattle.jx_model.specs.Domains.{end_reason, ended_by, reason_for}
use Rattle.jx_model.specs.Portals.{is_export, export_of, owner_of, services_made}
use Rattle.jx_model.specs.Threads.{served_after, served_call, is_of_thread}
use Rattle.jx_base.proofs.BasicLaws.{ap2, and_false, same_number}
use Rattle.jx_base.proofs.NthEntries.{count_new, count_same, nth_new, nth_old, nth_same}
use Rattle.jx_model.proofs.OneThread.{serves_same}
use Rattle.table_threads.proofs.Records.{not_that}
use Rattle.audit_text.specs.declared.call_tables.CallTables.{CallTables}
use Rattle.audit_text.specs.CallTables.{served_number, taken_service, taken_call, last_take, last_taken, last_taker, owner_number, has_ended, HasRows, HasServed, HasCallTables, served_then, ended_domain, served_noted, numbers_noted, ended_noted}
use Rattle.audit_text.proofs.EntryOrder.{taken_one_more}
use Rattle.audit_text.proofs.Rows.{all_there, put_there, put_elsewhere, same_or_other, rows_same, rows_put}

-- ---- what a thread serves

-- an act that changes nothing of what its thread serves
served_kept : (old : Option CallId) (a : Act) → served_then a ≡ None → served_after old a ≡ old
unfolding served_then served_after
served_kept old (act.Take c) h = cc
served_kept old (act.Return c p) h = cc
served_kept old (act.Throw c p) h = cc
served_kept old _ h = refl

-- an act that does
served_new : (old : Option CallId) (a : Act) (n : ℕ) → served_then a ≡ Some n → unwrap_or (option_map (λ c. c.0) (served_after old a)) 0 ≡ n
unfolding served_then served_after
served_new old (act.Take c) n h = cc
served_new old (act.Return c p) n h = cc
served_new old (act.Throw c p) n h = cc
served_new old _ n h = cc

-- whether an entry is of its thread, and of no other
of_own : (e : Entry) → is_of_thread e.domain.0 e.thread.0 e ≡ true
unfolding is_of_thread is_own
of_own e = ap2 (λ (x y : Bool). x && y) (same_number e.domain.0) (same_number e.thread.0)

of_other_thread : (e : Entry) (d t : ℕ) → e.thread.0 ≢ t → is_of_thread d t e ≡ false
unfolding is_of_thread
of_other_thread e d t h = ap (λ (b : Bool). is_own d e && b) (not_that e.thread.0 t (λ q. h (sym q))) ∙ and_false (is_own d e)

of_other_domain : (e : Entry) (d t : ℕ) → e.domain.0 ≢ d → is_of_thread d t e ≡ false
unfolding is_of_thread is_own
of_other_domain e d t h = ap (λ (b : Bool). b && (e.thread.0 == t)) (not_that e.domain.0 d (λ q. h (sym q)))

number_other : (e : Entry) (past : Past) (d t : ℕ) → is_of_thread d t e ≡ false → served_number (e ∷ past) d t ≡ served_number past d t
unfolding served_number
number_other e past d t h = ap (λ (o : Option CallId). unwrap_or (option_map (λ c. c.0) o) 0) (serves_same e past d t h)

number_kept : (e : Entry) (past : Past) (d t : ℕ) → served_then e.act ≡ None → served_number (e ∷ past) d t ≡ served_number past d t
unfolding served_number served_call
number_kept e past d t h = ap (λ (o : Option CallId). unwrap_or (option_map (λ c. c.0) o) 0) (by (is_of_thread d t e))
  where
    by : (b : Bool) → (elim b as (λ _. Option CallId) [ true ↦ served_after (served_call past d t) e.act | false ↦ served_call past d t ]) ≡ served_call past d t
    by true = served_kept (served_call past d t) e.act h
    by false = refl

number_own : (e : Entry) (past : Past) (n : ℕ) → served_then e.act ≡ Some n → served_number (e ∷ past) e.domain.0 e.thread.0 ≡ n
unfolding served_number served_call
number_own e past n h =
    ap (λ (b : Bool). unwrap_or (option_map (λ c. c.0) (elim b as (λ _. Option CallId) [ true ↦ served_after (served_call past e.domain.0 e.thread.0) e.act | false ↦ served_call past e.domain.0 e.thread.0 ])) 0) (of_own e)
    ∙ served_new (served_call past e.domain.0 e.thread.0) e.act n h

module _ (e : Entry) (past : Past) (rows : List (List ℕ)) (has : HasServed rows past) where
  -- one more entry, where it changes what its thread serves and where it doesn't
  served_by : (o : Option ℕ) → served_then e.act ≡ o →
      HasServed (elim o as (λ _. List (List ℕ)) [ None ↦ rows | Some c ↦ set rows e.domain.0 (set (get_or rows e.domain.0 []) e.thread.0 c) ]) (e ∷ past)
  served_by None is d l =
      let h = has d l in
      (h.0, h.1, h.2, rows_same h.0 (served_number past d) (served_number (e ∷ past) d) 2048 h.3 (λ t. number_kept e past d t is))
  served_by (Some c) is d l = at (same_or_other e.domain.0 d)
    where
      new : List ℕ
      new = set (get_or rows e.domain.0 []) e.thread.0 c

      own : e.domain.0 ≡ d → HasRows new (served_number (e ∷ past) e.domain.0) 2048
      own q =
          let h = has e.domain.0 (omega (arith, q, l)) in
          let row : get_or rows e.domain.0 [] ≡ h.0 = get_or_from_slice_get rows e.domain.0 h.0 [] h.1 in
          subst (λ (xs : List ℕ). HasRows (set xs e.thread.0 c) (served_number (e ∷ past) e.domain.0) 2048) (sym row)
          (rows_put h.0 (served_number past e.domain.0) (served_number (e ∷ past) e.domain.0) 2048 e.thread.0 c h.3 (number_own e past c is) (λ t other. number_other e past e.domain.0 t (of_other_thread e e.domain.0 t other)))

      long : e.domain.0 ≡ d → length new ≡ 2049
      long q =
          let h = has e.domain.0 (omega (arith, q, l)) in
          length-set (get_or rows e.domain.0 []) e.thread.0 c ∙ ap (λ (xs : List ℕ). length xs) (get_or_from_slice_get rows e.domain.0 h.0 [] h.1) ∙ h.2

      at : (e.domain.0 ≡ d) ⊎ (e.domain.0 ≢ d) → (row : List ℕ) × (slice_get (set rows e.domain.0 new) d ≡ Some row) × (length row ≡ 2049) × HasRows row (served_number (e ∷ past) d) 2048
      at (inl q) =
          let h = has d l in (
            new,
            ap (slice_get (set rows e.domain.0 new)) (sym q) ∙ put_there rows e.domain.0 new (omega (arith, q, slice_get_within rows d h.0 h.1)),
            long q,
            subst (λ (n : ℕ). HasRows new (served_number (e ∷ past) n) 2048) q (own q),
          )
      at (inr other) =
          let h = has d l in (
            h.0,
            put_elsewhere rows e.domain.0 d new other ∙ h.1,
            h.2,
            rows_same h.0 (served_number past d) (served_number (e ∷ past) d) 2048 h.3 (λ t. number_other e past d t (of_other_domain e d t other)),
          )

  pub served_more : HasServed (served_noted e rows) (e ∷ past)
  unfolding served_noted
  served_more = served_by (served_then e.act) refl

-- ---- the last take of a service

-- an entry that takes no call of the service
pub last_take-other : (e : Entry) (past : Past) (k : ℕ) → is_number (taken_service e.act e.reply) k ≡ false → last_take (e ∷ past) k ≡ last_take past k
unfolding last_take
last_take-other e past k h = ap (λ (b : Bool). cond b (Some e) (find (λ x. is_number (taken_service x.act x.reply) k) past)) h

-- one that does
pub last_take-own : (e : Entry) (past : Past) (k : ℕ) → is_number (taken_service e.act e.reply) k ≡ true → last_take (e ∷ past) k ≡ Some e
unfolding last_take
last_take-own e past k h = ap (λ (b : Bool). cond b (Some e) (find (λ x. is_number (taken_service x.act x.reply) k) past)) h

-- what a function gives of the last take of each service, or 0
abbrev pub of_last : (Entry → ℕ) → Past → ℕ → ℕ
of_last f past k = unwrap_or (option_map f (last_take past k)) 0

module _ (f : Entry → ℕ) (e : Entry) (past : Past) (numbers : List ℕ) (has : HasRows numbers (of_last f past) 256) where
  other : (o : Option ℕ) → taken_service e.act e.reply ≡ o → (k : ℕ) → is_number o k ≡ false → of_last f (e ∷ past) k ≡ of_last f past k
  other o is k h = ap (λ (x : Option Entry). unwrap_or (option_map f x) 0) (last_take-other e past k (ap (λ (x : Option ℕ). is_number x k) is ∙ h))

  number_by : (o : Option ℕ) → taken_service e.act e.reply ≡ o → HasRows (numbers_noted o (f e) numbers) (of_last f (e ∷ past)) 256
  unfolding numbers_noted is_number
  number_by None is = rows_same numbers (of_last f past) (of_last f (e ∷ past)) 256 has (λ k. other None is k refl)
  number_by (Some k) is =
      rows_put numbers (of_last f past) (of_last f (e ∷ past)) 256 k (f e) has
      (ap (λ (x : Option Entry). unwrap_or (option_map f x) 0) (last_take-own e past k (ap (λ (x : Option ℕ). is_number x k) is ∙ same_number k)))
      (λ i q. other (Some k) is i (not_that k i (λ z. q (sym z))))

  number_more : HasRows (numbers_noted (taken_service e.act e.reply) (f e) numbers) (of_last f (e ∷ past)) 256
  number_more = number_by (taken_service e.act e.reply) refl

pub taken_more : (e : Entry) (past : Past) (numbers : List ℕ) → HasRows numbers (last_taken past) 256 → HasRows (numbers_noted (taken_service e.act e.reply) (taken_call e.act) numbers) (last_taken (e ∷ past)) 256
unfolding last_taken
taken_more e past numbers has = number_more (λ x. taken_call x.act) e past numbers has

pub taker_more : (e : Entry) (past : Past) (numbers : List ℕ) → HasRows numbers (last_taker past) 256 → HasRows (numbers_noted (taken_service e.act e.reply) e.thread.0 numbers) (last_taker (e ∷ past)) 256
unfolding last_taker
taker_more e past numbers has = number_more (λ x. x.thread.0) e past numbers has

-- ---- owners

module _ (e : Entry) (past : Past) (made : ℕ) (numbers : List ℕ) (is : made ≡ services_made past) (has : HasRows numbers (owner_number past) 256) where
  pub made_more : (if is_export e then made + 1 else made) ≡ services_made (e ∷ past)
  made_more = by (is_export e) refl
    where
      by : (b : Bool) → is_export e ≡ b → (if b then made + 1 else made) ≡ services_made (e ∷ past)
      by true q = omega (arith, is, count_new is_export e past q)
      by false q = is ∙ sym (count_same is_export e past q)

  pub owner_more : HasRows (if is_export e then set numbers (made + 1) e.domain.0 else numbers) (owner_number (e ∷ past)) 256
  unfolding owner_number owner_of export_of
  owner_more = by (is_export e) refl
    where
      by : (b : Bool) → is_export e ≡ b → HasRows (if b then set numbers (made + 1) e.domain.0 else numbers) (owner_number (e ∷ past)) 256
      by true q =
          rows_put numbers (owner_number past) (owner_number (e ∷ past)) 256 (made + 1) e.domain.0 has
          (ap (λ (y : Option Entry). unwrap_or (option_map (λ z. z.domain.0) y) 0) (nth_new is_export e past (made + 1) q (ap (λ (n : ℕ). n + 1) is)))
          (λ i w. ap (λ (y : Option Entry). unwrap_or (option_map (λ z. z.domain.0) y) 0) (nth_old is_export e past i (λ z. w (omega (arith, is, z)))))
      by false q =
          rows_same numbers (owner_number past) (owner_number (e ∷ past)) 256 has
          (λ k. ap (λ (x : Option Entry). unwrap_or (option_map (λ y. y.domain.0) x) 0) (nth_same is_export e past k q))

-- ---- which domains ended

module _ (e : Entry) (past : Past) (flags : List Bool) (has : HasRows flags (has_ended past) 64) where
  ended_by_end : (o : Option (ℕ × Reason)) → ended_by e ≡ o → HasRows (ended_noted (option_map (λ x. x.0) o) flags) (has_ended (e ∷ past)) 64
  unfolding ended_noted has_ended end_reason reason_for
  ended_by_end None is =
      rows_same flags (has_ended past) (has_ended (e ∷ past)) 64 has
      (λ d. ap (λ (x : Option (ℕ × Reason)). is_some (elim (reason_for x d) as (λ _. Option Reason) [ Some r ↦ Some r | None ↦ end_reason past d ])) is)
  ended_by_end (Some x) is =
      rows_put flags (has_ended past) (has_ended (e ∷ past)) 64 x.0 true has
      (at x.0 ∙ ap (λ (b : Bool). is_some (elim (if b then Some x.1 else None) as (λ _. Option Reason) [ Some r ↦ Some r | None ↦ end_reason past x.0 ])) (same_number x.0))
      (λ d q. at d ∙ ap (λ (b : Bool). is_some (elim (if b then Some x.1 else None) as (λ _. Option Reason) [ Some r ↦ Some r | None ↦ end_reason past d ])) (not_that x.0 d (λ z. q (sym z))))
    where
      at : (d : ℕ) → has_ended (e ∷ past) d ≡ is_some (elim (reason_for (Some x) d) as (λ _. Option Reason) [ Some r ↦ Some r | None ↦ end_reason past d ])
      at d = ap (λ (y : Option (ℕ × Reason)). is_some (elim (reason_for y d) as (λ _. Option Reason) [ Some r ↦ Some r | None ↦ end_reason past d ])) is

  pub ended_more : HasRows (ended_noted (ended_domain e) flags) (has_ended (e ∷ past)) 64
  unfolding ended_domain
  ended_more = ended_by_end (ended_by e) refl

-- ---- all tables

-- what noting an entry makes of the tables
pub record IsNoted (e : Entry) (old new : CallTables) : Type 0 where
  pub served : new.served ≡ served_noted e old.served
  pub taken : new.taken ≡ numbers_noted (taken_service e.act e.reply) (taken_call e.act) old.taken
  pub taker : new.taker ≡ numbers_noted (taken_service e.act e.reply) e.thread.0 old.taker
  pub made : new.owners.made ≡ (if is_export e then old.owners.made + 1 else old.owners.made)
  pub owners : new.owners.by_number ≡ (if is_export e then set old.owners.by_number (old.owners.made + 1) e.domain.0 else old.owners.by_number)
  pub ended : new.ended ≡ ended_noted (ended_domain e) old.ended

pub tables_more : (e : Entry) (past : Past) (old new : CallTables) → HasCallTables old past → IsNoted e old new → HasCallTables new (e ∷ past)
tables_more e past old new has n =
    record {
      served = subst (λ (x : List (List ℕ)). HasServed x (e ∷ past)) (sym n.served) (served_more e past old.served has.served);
      taken = subst (λ (x : List ℕ). HasRows x (last_taken (e ∷ past)) 256) (sym n.taken) (taken_more e past old.taken has.taken);
      taker = subst (λ (x : List ℕ). HasRows x (last_taker (e ∷ past)) 256) (sym n.taker) (taker_more e past old.taker has.taker);
      made = n.made ∙ made_more e past old.owners.made old.owners.by_number has.made has.owners;
      owners = subst (λ (x : List ℕ). HasRows x (owner_number (e ∷ past)) 256) (sym n.owners) (owner_more e past old.owners.made old.owners.by_number has.made has.owners);
      ended = subst (λ (x : List Bool). HasRows x (has_ended (e ∷ past)) 64) (sym n.ended) (ended_more e past old.ended has.ended);
    }

-- the tables of the entries up to one more
pub tables_step : (entries : List Entry) (place : ℕ) (x : Entry) (old new : CallTables) → x ≡ get_or entries place x → place < length entries →
    HasCallTables old (reverse (take place entries)) → IsNoted x old new → HasCallTables new (reverse (take (place + 1) entries))
tables_step entries place x old new is lt has n =
    subst (λ (past : Past). HasCallTables new past) (sym (taken_one_more entries place x is lt)) (tables_more x (reverse (take place entries)) old new has n)

-- no services are made yet
pub none_made : (x : CallTables) → HasCallTables x [] → x.owners.made ≡ 0
unfolding count_where
none_made x has = has.made

-- the tables of no entries
pub no_tables : HasCallTables (record {
  served = replicate 65 (replicate 2049 0);
  taken = replicate 257 0;
  taker = replicate 257 0;
  owners = record { made = 0; by_number = replicate 257 0 };
  ended = replicate 65 false;
}) []
unfolding served_number served_call last_taken last_taker last_take owner_number owner_of export_of nth_entry count_where has_ended end_reason
no_tables =
    record {
      served = λ d l. (replicate 2049 0, all_there 65 d (replicate 2049 0) (omega (arith, l)), length-replicate {A = ℕ} 2049 0, none_served d);
      taken = λ k l. all_there 257 k 0 (omega (arith, l));
      taker = λ k l. all_there 257 k 0 (omega (arith, l));
      made = refl;
      owners = λ k l. all_there 257 k 0 (omega (arith, l));
      ended = λ d l. all_there 65 d false (omega (arith, l));
    }
  where
    none_served : (d : ℕ) → HasRows (replicate 2049 0) (served_number [] d) 2048
    none_served d t l = all_there 2049 t 0 (omega (arith, l))
