-- The records of the domains after an entry more.
use Rattle.std.proofs.Common.{◌≡◌, ◌≢◌, refl, sym, ◌∙◌, ap, ℕ, ◌+◌, ◌≤◌, Bool, true, false, cond, List, [], ◌∷◌, ◌++◌, map, Option, Some, None, arith, ◌==◌, if◌then◌else◌, set, slice_get}
use Rattle.jx_base.specs.declared.act.Reason.{Reason}
use Rattle.jx_base.specs.declared.act.Entry.{Entry}
use Rattle.jx_base.specs.declared.states.DomainState.{DomainState}
use Rattle.jx_base.specs.declared.program.System.{System}
use Rattle.jx_base.specs.Basics.{up_to}
use Rattle.jx_base.specs.Histories.{Past, nth_entry}
use Rattle.jx_model.specs.Domains.{is_birth, domains_made, birth_of, template_of, creator_of, heap_place_of, named_template, reply_granule, end_reason, ended_by, reason_for}
use Rattle.jx_model.specs.Tables.{domain_record, domain_records}
use Rattle.jx_model.specs.Legal.{IsAdmittedPast}
use Rattle.jx_base.proofs.BasicLaws.{ap2}
use Rattle.jx_base.proofs.NthEntries.{nth_new, nth_old, count_new, count_same}
use Rattle.table_threads.proofs.Records.{records_same, records_more, records_set, records_get, not_that, is_that}
use Rattle.table_threads.proofs.Actors.{unmade_unended}
use Rattle.std.specs.Option.{option_and_then, option_map, unwrap_or}
use Rattle.table_threads.specs.ThreadChanges.{born}

-- a domain's record by the entry that made it and why it ended
abbrev pub domain_by : System → Option Entry → Option Reason → DomainState
domain_by s b r =
    record {
      template = unwrap_or (option_and_then (λ e. named_template s e.act) b) 0;
      creator = record { 0 = unwrap_or (option_map (λ e. e.domain.0) b) 0 };
      at = unwrap_or (option_map (λ e. reply_granule e.reply) b) 0;
      ended = r;
    }

-- the reason of an entry, or else the one before it
abbrev pub reason_after : Option (ℕ × Reason) → ℕ → Option Reason → Option Reason
reason_after x d before = elim (reason_for x d) as (λ _. Option Reason) [ Some r ↦ Some r | None ↦ before ]

module _ (s : System) (past : Past) (e : Entry) where
  -- the record of a domain that was made before the entry
  pub domain_record_old : (d : ℕ) → d ≤ domains_made past → domain_record s (e ∷ past) d ≡ record (domain_record s past d) { ended = reason_after (ended_by e) d (end_reason past d) }
  unfolding domain_record template_of creator_of heap_place_of birth_of end_reason
  domain_record_old d u =
      ap (λ (b : Option Entry). domain_by s b (reason_after (ended_by e) d (end_reason past d))) (nth_old is_birth e past d (λ q. omega (arith, q, u)))

  -- an entry that neither makes nor ends a domain leaves the records
  pub domains_same : is_birth e ≡ false → ended_by e ≡ None → domain_records s (e ∷ past) ≡ domain_records s past
  unfolding domain_records domain_record reason_for
  domains_same b n =
      ap (λ (k : ℕ). map (domain_record s (e ∷ past)) (up_to k)) (count_same is_birth e past b)
      ∙ records_same (domain_record s (e ∷ past)) (domain_record s past) (domains_made past) (λ d l u.
      domain_record_old d u ∙ ap (λ (x : Option (ℕ × Reason)). let item : DomainState = record (domain_record s past d) { ended = reason_after x d (end_reason past d) } in item) n)

  -- one that makes a domain adds its record
  pub domains_after_birth : IsAdmittedPast s past → is_birth e ≡ true → ended_by e ≡ None → domain_records s (e ∷ past) ≡ domain_records s past ++ born s e ∷ []
  unfolding domain_records domain_record reason_for template_of creator_of heap_place_of birth_of end_reason
  domains_after_birth a b n =
      ap (λ (k : ℕ). map (domain_record s (e ∷ past)) (up_to k)) (count_new is_birth e past b)
      ∙ records_more (domain_record s (e ∷ past)) (domains_made past)
      ∙ ap2 (λ (xs : List DomainState) (x : DomainState). xs ++ x ∷ []) olds new
    where
      olds : map (domain_record s (e ∷ past)) (up_to (domains_made past)) ≡ map (domain_record s past) (up_to (domains_made past))
      olds =
          records_same (domain_record s (e ∷ past)) (domain_record s past) (domains_made past) (λ d l u.
          domain_record_old d u ∙ ap (λ (x : Option (ℕ × Reason)). let item : DomainState = record (domain_record s past d) { ended = reason_after x d (end_reason past d) } in item) n)

      new : domain_by s (nth_entry is_birth (e ∷ past) (domains_made past + 1)) (reason_after (ended_by e) (domains_made past + 1) (end_reason past (domains_made past + 1))) ≡ born s e
      new =
          ap2 (domain_by s)
          (nth_new is_birth e past (domains_made past + 1) b refl)
          (ap2 (λ (x : Option (ℕ × Reason)) (r : Option Reason). reason_after x (domains_made past + 1) r) n (unmade_unended s past (domains_made past + 1) a (omega arith)))

  -- one that ends a live domain sets its record
  pub domains_after_end : (k i : ℕ) (why : Reason) → is_birth e ≡ false → ended_by e ≡ Some (k, why) → k ≡ i + 1 → k ≤ domains_made past →
      domain_records s (e ∷ past) ≡ set (domain_records s past) i (record (domain_record s past k) { ended = Some why })
  unfolding domain_records domain_record reason_for
  domains_after_end k i why b n q u =
      ap (λ (m : ℕ). map (domain_record s (e ∷ past)) (up_to m)) (count_same is_birth e past b)
      ∙ records_set (domain_record s past) (domain_record s (e ∷ past)) (domains_made past) k i q u (λ d l v z.
      sym (domain_record_old d v ∙ ended d (cond false (Some why) (end_reason past d)) ((ap (λ (x : Option (ℕ × Reason)). reason_after x d (end_reason past d)) n) ∙ other d z)))
      ∙ ap (set (map (domain_record s past) (up_to (domains_made past))) i)
      (domain_record_old k u ∙ ended k (Some why) (ap (λ (x : Option (ℕ × Reason)). reason_after x k (end_reason past k)) n ∙ its))
    where
      ended : (d : ℕ) (r : Option Reason) → reason_after (ended_by e) d (end_reason past d) ≡ r →
          (let item : DomainState = record (domain_record s past d) { ended = reason_after (ended_by e) d (end_reason past d) } in item) ≡ record (domain_record s past d) { ended = r }
      ended d r h = ap (λ (x : Option Reason). let item : DomainState = record (domain_record s past d) { ended = x } in item) h

      other : (d : ℕ) → d ≢ k → (elim (if k == d then Some why else None) as (λ _. Option Reason) [ Some r ↦ Some r | None ↦ end_reason past d ]) ≡ end_reason past d
      other d z = ap (λ (b : Bool). elim (if b then Some why else None) as (λ _. Option Reason) [ Some r ↦ Some r | None ↦ end_reason past d ]) (not_that k d z)

      its : (elim (if k == k then Some why else None) as (λ _. Option Reason) [ Some r ↦ Some r | None ↦ end_reason past k ]) ≡ Some why
      its = ap (λ (b : Bool). elim (if b then Some why else None) as (λ _. Option Reason) [ Some r ↦ Some r | None ↦ end_reason past k ]) (is_that k k refl)

-- a record of a domain that was made
pub domain_record_there : (s : System) (past : Past) (d i : ℕ) → d ≡ i + 1 → d ≤ domains_made past → slice_get (domain_records s past) i ≡ Some (domain_record s past d)
unfolding domain_records
domain_record_there s past d i q u = records_get (domain_record s past) (domains_made past) d i q u
