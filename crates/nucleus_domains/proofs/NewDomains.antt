-- A create: its reply, and the domain that it makes.
use Rattle.std.proofs.Common.{◌≡◌, refl, sym, ◌∙◌, ap, subst, ℕ, ◌+◌, ◌-◌, ◌/◌, ◌≤◌, ◌<◌, Bool, true, false, not, List, [], ◌∷◌, ◌++◌, length, Option, Some, None, is_some, arith, slice_get, if◌then◌else◌, ◌==◌, ◌⊎◌, inl, inr}
use Rattle.std.specs.List.{range_with_len}
use Rattle.std.proofs.lemmas.List.FromFn.{length-range_with_len}
use Rattle.std.proofs.lemmas.List.Sums.{count_by-le-length, length-filter}
use Rattle.jx_model.proofs.Acting.{acting_cases}
use Rattle.jx_model.specs.Journal.{is_full}
use Rattle.jx_base.specs.Basics.{is_number}
use Rattle.std.specs.Prelude.{Err, IsSome, Ok, Result, nat_le, nat_lt}
use Rattle.std.specs.Option.{option_map, unwrap_or}
use Rattle.std.proofs.lemmas.Bool.Decides.{nat_tests}
use Rattle.std.proofs.lemmas.List.FromFn.{length-map-range_with_len}
use Rattle.std.proofs.lemmas.List.Elements.{All-get_or}
use Rattle.std.proofs.lemmas.Option.{get_or_from_slice_get, slice_get_within}
use Rattle.jx_base.specs.declared.act.Act.TheVariants as act
use Rattle.jx_base.specs.declared.act.Entry.{Entry}
use Rattle.jx_base.specs.declared.act.Refusal.{Refusal}
use Rattle.jx_base.specs.declared.act.Refusal.TheVariants as refusal
use Rattle.jx_base.specs.declared.act.Reply.TheVariants as reply
use Rattle.jx_base.specs.declared.program.System.{System}
use Rattle.jx_base.specs.declared.program.Template.{Template}
use Rattle.jx_base.specs.Basics.{parts_of}
use Rattle.jx_base.specs.Histories.{Past}
use Rattle.jx_base.proofs.BasicLaws.{ap2}
use Rattle.jx_model.specs.Domains.{domains_made, ended_by, ended_by_act, is_birth, makes_domain, named_template, reply_granule}
use Rattle.jx_model.specs.Granules.{first_fit, heap_granules, heap_of_template, is_used_granule, least_free}
use Rattle.jx_model.specs.Permits.{boot_templates, creates_made, domain_thread, is_boot_template, is_create, is_create_entry, is_ending, is_halt, next_boot, zero_may, zero_may_now}
use Rattle.jx_model.specs.Replies.{given_or, new_domain, reply_to, ◌refuses◌else◌}
use Rattle.jx_model.specs.Tables.{StandsFor, granule_flags}
use Rattle.program_model.specs.Limits.{domain_limit, granule_cells, granule_limit}
use Rattle.program_model.specs.Lookup.{template_at}
use Rattle.program_model.specs.Plans.{IsTemplateInRange}
use Rattle.extent_pool.specs.Taken.{is_taken}
use Rattle.nucleus_tables.proofs.DomainReads.{made_count}
use Rattle.nucleus_tables.proofs.Entered.{entered_beside_calls, kept_with, same_beside}
use Rattle.memory_space.proofs.RunsTaken.{run_taken}
use Rattle.nucleus_tables.proofs.LeastPlaces.{least_is}
use Rattle.nucleus_domains.specs.Births.{IsBorn, with_newborn}
use Rattle.nucleus_tables.specs.Inner.{IsOf, IsPermittedIn, kept_in, past_in, state_of, with_put}
use Rattle.nucleus_tables.specs.Stepping.{IsEntered}
use Rattle.nucleus_domains.specs.declared.birth.Newborn.{Newborn}
use Rattle.nucleus_tables.specs.declared.tables.Tables.{Tables}
use Rattle.table_reads.proofs.ReplyReads.{fit_by_flags}
use Rattle.table_steps.proofs.ActSteps.{stands_after_create}
use Rattle.table_steps.proofs.PlainSteps.{stands_after_refusal}
use Rattle.table_steps.specs.Steps as Steps
use Rattle.table_threads.specs.CallChanges.{entry}
use Rattle.table_threads.specs.ThreadChanges.{born, first_records}

-- ---- the heap of a template

-- it has a granule at least
pub has_granules : (s : System) (t : ℕ) (x : Template) → 16 ≤ x.heap → template_at s t ≡ Some x → 0 < heap_granules s t
unfolding template_at heap_granules heap_of_template parts_of granule_cells
has_granules s t x l q = subst (λ (o : Option Template). 0 < (unwrap_or (option_map (λ x. x.heap) o) 0 + (8 - 1)) / 8) (sym q) (omega (arith, l))

pub in_range : (s : System) (x : Tables) (t : ℕ) → IsOf s x → IsSome (template_at s t) → 0 < heap_granules s t
unfolding template_at
in_range s x t h p = by (slice_get s.plan.templates t) refl p
  where
    by : (o : Option Template) → slice_get s.plan.templates t ≡ o → is_some o ≡ true → 0 < heap_granules s t
    by None q p = cc
    by (Some y) q p =
        let r : IsTemplateInRange (length s.plan.classes) y =
        subst (λ z. IsTemplateInRange (length s.plan.classes) z) (get_or_from_slice_get s.plan.templates t y y q)
        (All-get_or (IsTemplateInRange (length s.plan.classes)) s.plan.templates t y (slice_get_within s.plan.templates t y q) h.plan.templates) in
        has_granules s t y r.heap.0 q

-- ---- the reply

-- whether there is room for another
full : (m l : ℕ) (b : Bool) → nat_lt m l ≡ b → nat_le l m ≡ not b
full m l true q = grind (arith, nat_tests)
full m l false q = grind (arith, nat_tests)

module _ (s : System) (x : Tables) (h : IsOf s x) (t : ℕ) where
  no_more : (b : Bool) → nat_lt (length x.domains.domains) x.domains.limit ≡ b → nat_le (domain_limit s) (domains_made (past_in x)) ≡ not b
  no_more b q = ap2 nat_le (sym h.domains) (sym (made_count s x h)) ∙ full (length x.domains.domains) x.domains.limit b q

  -- there are as many flags as granules
  flags : length x.space.taken ≡ granule_limit s
  unfolding granule_flags
  flags = ap (λ (taken : List Bool). length taken) h.stands.taken ∙ length-map-range_with_len (is_used_granule s (past_in x)) 0 (granule_limit s)

  -- the pool finds the first fit
  fit_is : (n : ℕ) → first_fit s (past_in x) n ≡ least_free (is_taken x.space.taken) n (length x.space.taken + 1 - n) 0
  fit_is n =
      fit_by_flags s (past_in x) n
      ∙ least_is (granule_flags s (past_in x)) n (granule_limit s + 1 - n)
      ∙ ap2 (λ (taken : List Bool) (l : ℕ). least_free (is_taken taken) n (l + 1 - n) 0) (sym h.stands.taken) (sym flags)

  pub too_many : nat_lt (length x.domains.domains) x.domains.limit ≡ false → new_domain s (past_in x) t ≡ reply.Refused refusal.TooMany
  unfolding new_domain ◌refuses◌else◌
  too_many q = ap (λ (b : Bool). b refuses refusal.TooMany else given_or (first_fit s (past_in x) (heap_granules s t)) refusal.NoRoom (λ g. reply.Domain (record { 0 = domains_made (past_in x) + 1 }) g)) (no_more false q)

  replied : nat_lt (length x.domains.domains) x.domains.limit ≡ true → (o : Option ℕ) → o ≡ least_free (is_taken x.space.taken) (heap_granules s t) (length x.space.taken + 1 - heap_granules s t) 0 →
      new_domain s (past_in x) t ≡ given_or o refusal.NoRoom (λ g. reply.Domain (record { 0 = domains_made (past_in x) + 1 }) g)
  unfolding new_domain ◌refuses◌else◌
  replied q o p =
      ap2 (λ (b : Bool) (o : Option ℕ). b refuses refusal.TooMany else given_or o refusal.NoRoom (λ g. reply.Domain (record { 0 = domains_made (past_in x) + 1 }) g)) (no_more true q) (fit_is (heap_granules s t) ∙ sym p)

  pub no_room : nat_lt (length x.domains.domains) x.domains.limit ≡ true → None ≡ least_free (is_taken x.space.taken) (heap_granules s t) (length x.space.taken + 1 - heap_granules s t) 0 → new_domain s (past_in x) t ≡ reply.Refused refusal.NoRoom
  unfolding given_or
  no_room q p = replied q None p

  pub makes : (at : ℕ) → nat_lt (length x.domains.domains) x.domains.limit ≡ true → Some at ≡ least_free (is_taken x.space.taken) (heap_granules s t) (length x.space.taken + 1 - heap_granules s t) 0 →
      new_domain s (past_in x) t ≡ reply.Domain (record { 0 = length x.domains.domains + 1 }) at
  unfolding given_or
  makes at q p = replied q (Some at) p ∙ ap (λ (n : ℕ). reply.Domain (record { 0 = n + 1 }) at) (sym (made_count s x h))

-- ---- how many creates there may be

boots_few : (s : System) (x : Tables) → IsOf s x → length (boot_templates s) ≤ 64
unfolding boot_templates
boots_few s x h =
    let all : List ℕ = range_with_len 0 (length s.plan.templates) in
    omega (arith, length-filter (is_boot_template s) all, count_by-le-length (is_boot_template s) all, length-range_with_len 0 (length s.plan.templates), h.plan.template_count)

-- a create that may come is of one that is left
boot_left : (s : System) (past : Past) (t : ℕ) → zero_may_now s past (act.Create t) ≡ true → creates_made past < length (boot_templates s)
unfolding next_boot zero_may_now zero_may is_halt is_number
boot_left s past t h = by (is_full s past) (slice_get (boot_templates s) (creates_made past)) refl h
  where
    by : (f : Bool) (o : Option ℕ) → slice_get (boot_templates s) (creates_made past) ≡ o → (if f then false else is_number o t) ≡ true → creates_made past < length (boot_templates s)
    by true o q h = cc
    by false None q h = cc
    by false (Some b) q h = slice_get_within (boot_templates s) (creates_made past) b q

pub creates_fit : (s : System) (x : Tables) (t : ℕ) → IsPermittedIn s x 0 0 (act.Create t) → x.creates < 64
creates_fit s x t p = by (acting_cases s (past_in x) 0 0 (act.Create t) p.thread)
  where
    by : (((0 == 0) ≡ true) × ◌≡◌ {A = ℕ} 0 0 × (zero_may_now s (past_in x) (act.Create t) ≡ true)) ⊎ (((0 == 0) ≡ false) × (domain_thread (past_in x) 0 (act.Create t) ≡ Some 0)) → x.creates < 64
    by (inl m) = omega (arith, boot_left s (past_in x) t m.2, boots_few s x p.tables, p.tables.stands.creates)
    by (inr m) = absurd (cc (m.0))

-- the making of a domain is no create yet
pub creates_kept : (s : System) (old new : Tables) (t : ℕ) (r : Result Newborn Refusal) → IsBorn s old new t r → new.creates ≡ old.creates
creates_kept s old new t (Ok born) h = ap (λ (z : Tables). z.creates) h.0
creates_kept s old new t (Err r) h = ap (λ (z : Tables). z.creates) h.0

-- ---- the entry

-- one create more
abbrev pub created : Tables → Tables
created x = record x { creates = x.creates + 1 }

module _ (s : System) (x : Tables) (t : ℕ) (p : IsPermittedIn s x 0 0 (act.Create t)) where
  -- one that is refused
  pub refused_create : (y : Tables) (r : Refusal) → new_domain s (past_in x) t ≡ reply.Refused r → y ≡ with_put (created x) (entry 0 0 (act.Create t) (reply.Refused r)) →
      IsEntered s (state_of x) (state_of y) (entry 0 0 (act.Create t) (reply.Refused r)) × (is_birth (entry 0 0 (act.Create t) (reply.Refused r)) ≡ false)
  unfolding reply_to is_birth makes_domain ended_by ended_by_act is_ending is_create_entry is_create
  refused_create y r h q =
      let e : Entry = entry 0 0 (act.Create t) (reply.Refused r) in
      let stands : StandsFor s (Steps.with_entry (kept_in x) e) = stands_after_refusal s (kept_in x) 0 0 (act.Create t) r p.tables.stands (record { thread = p.thread; well_made = p.may_come.well_made; reply = sym h }) refl in (
        subst (λ (z : Tables). IsEntered s (state_of x) (state_of z) e) (sym q)
            (entered_beside_calls s x (created x) 0 0 (act.Create t) (reply.Refused r) p (sym h) refl refl refl (same_beside s x (created x) e p.tables refl refl refl refl refl (record { calls = refl; places = refl; objects = refl; extents = refl })) stands),
        refl,
      )

  -- one that makes a domain
  pub done_create : (y : Tables) (new : Newborn) → new_domain s (past_in x) t ≡ reply.Domain new.domain new.at → y ≡ with_put (created (with_newborn s x t new)) (entry 0 0 (act.Create t) (reply.Domain new.domain new.at)) →
      IsEntered s (state_of x) (state_of y) (entry 0 0 (act.Create t) (reply.Domain new.domain new.at)) × (new.domain ≡ new.domain) × (is_birth (entry 0 0 (act.Create t) (reply.Domain new.domain new.at)) ≡ true)
  unfolding reply_to is_birth makes_domain named_template reply_granule ended_by ended_by_act is_ending is_create_entry is_create
  done_create y new h q =
      let e : Entry = entry 0 0 (act.Create t) (reply.Domain new.domain new.at) in
      let stands : StandsFor s (Steps.after_birth s (kept_in x) e) =
      stands_after_create s (kept_in x) 0 0 t new.domain new.at p.tables.stands (record { thread = p.thread; well_made = p.may_come.well_made; reply = sym h }) in
      let kept : Steps.after_birth s (kept_in x) e ≡ kept_with x (created (with_newborn s x t new)) e =
      ap (λ (taken : List Bool). record (Steps.with_entry (kept_in x) e) {
        domains = x.domains.domains ++ born s e ∷ [];
        threads = x.domains.threads ++ first_records ∷ [];
        taken = taken;
      }) (sym (run_taken x.space.taken new.at (heap_granules s t))) in (
        subst (λ (z : Tables). IsEntered s (state_of x) (state_of z) e) (sym q)
            (entered_beside_calls s x (created (with_newborn s x t new)) 0 0 (act.Create t) (reply.Domain new.domain new.at) p (sym h) refl refl refl (same_beside s x (created (with_newborn s x t new)) e p.tables refl refl refl refl refl (record { calls = refl; places = refl; objects = refl; extents = refl })) (subst (StandsFor s) kept stands)),
        refl,
        refl,
      )
