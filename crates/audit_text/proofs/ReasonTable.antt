-- The table of reasons after an entry more.
use Rattle.std.proofs.Common.{◌≡◌, ◌≢◌, refl, sym, ◌∙◌, ap, ℕ, ◌+◌, ◌<◌, ◌≤◌, ◌==◌, true, false, List, [], ◌∷◌, length, set, replicate, take, get_or, Option, Some, None, slice_get, reverse, arith, eq-eqb, ◌⊎◌, inl, inr}
use Rattle.std.proofs.lemmas.Bool.{ne_eqb}
use Rattle.std.proofs.lemmas.Option.{slice_get_within}
use Rattle.jx_base.specs.declared.act.Entry.{Entry}
use Rattle.jx_base.specs.declared.act.Reason.{Reason}
use Rattle.jx_base.specs.Histories.{Past}
use Rattle.jx_model.specs.Domains.{end_reason, ended_by, reason_for}
use Rattle.audit_text.specs.Rendering.{HasReasons, noted}
use Rattle.audit_text.proofs.EntryOrder.{taken_one_more}
use Rattle.audit_text.proofs.Rows.{all_there, put_there, put_elsewhere, same_or_other}

-- what stands at the place of a domain
pub found_reason : (reasons : List (Option Reason)) (past : Past) (d : ℕ) (why : Option Reason) → HasReasons reasons past → d ≤ 64 → slice_get reasons d ≡ Some why → why ≡ end_reason past d
found_reason reasons past d why has l found = let both : Some why ≡ Some (end_reason past d) = sym found ∙ has d l in cc

-- no domain has ended yet
pub no_reasons : HasReasons (replicate 65 None) []
unfolding end_reason
no_reasons d l = all_there 65 d None (omega (arith, l))

-- a domain that an entry ends has its reason
reason_first : (x : Entry) (past : Past) (d : ℕ) (why : Reason) → reason_for (ended_by x) d ≡ Some why → end_reason (x ∷ past) d ≡ Some why
unfolding end_reason
reason_first x past d why found = rw (found, end_reason) refl

-- another has the one that it had
reason_before : (x : Entry) (past : Past) (d : ℕ) → reason_for (ended_by x) d ≡ None → end_reason (x ∷ past) d ≡ end_reason past d
unfolding end_reason
reason_before x past d none = rw (none, end_reason) refl

-- the reason is that of the domain that ends
reason_there : (k d : ℕ) (why : Reason) → k ≡ d → reason_for (Some (k, why)) d ≡ Some why
unfolding reason_for
reason_there k d why same = let test : (k == d) ≡ true = eq-eqb k d same in rw test refl

-- and of no other
reason_elsewhere : (k d : ℕ) (why : Reason) → k ≢ d → reason_for (Some (k, why)) d ≡ None
unfolding reason_for
reason_elsewhere k d why other = let test : (k == d) ≡ false = ne_eqb k d other in rw test refl

-- nor of any, where none ends
no_reason : (d : ℕ) → reason_for None d ≡ None
unfolding reason_for
no_reason d = refl

module _ (reasons : List (Option Reason)) (past : Past) (x : Entry) (has : HasReasons reasons past) where
  -- a domain that has no reason more
  kept : (d : ℕ) → d ≤ 64 → reason_for (ended_by x) d ≡ None → slice_get reasons d ≡ Some (end_reason (x ∷ past) d)
  kept d l none = has d l ∙ ap (λ (r : Option Reason). Some r) (sym (reason_before x past d none))

  -- the table with the reason of the domain that ends
  by_end : (o : Option (ℕ × Reason)) → ended_by x ≡ o → HasReasons (noted o reasons) (x ∷ past)
  unfolding noted
  by_end None is d l = kept d l (ap (λ (o : Option (ℕ × Reason)). reason_for o d) is ∙ no_reason d)
  by_end (Some (k, why)) is d l = by (same_or_other k d)
    where
      by : (k ≡ d) ⊎ (k ≢ d) → slice_get (set reasons k (Some why)) d ≡ Some (end_reason (x ∷ past) d)
      by (inl same) =
          let some = ap (λ (o : Option (ℕ × Reason)). reason_for o d) is ∙ reason_there k d why same in
          let within = slice_get_within reasons d (end_reason past d) (has d l) in
          ap (λ (n : ℕ). slice_get (set reasons n (Some why)) d) same
          ∙ put_there reasons d (Some why) within
          ∙ ap (λ (r : Option Reason). Some r) (sym (reason_first x past d why some))
      by (inr other) =
          put_elsewhere reasons k d (Some why) other
          ∙ kept d l (ap (λ (o : Option (ℕ × Reason)). reason_for o d) is ∙ reason_elsewhere k d why other)

  -- one entry more
  pub reasons_more : HasReasons (noted (ended_by x) reasons) (x ∷ past)
  reasons_more = by_end (ended_by x) refl

-- the entries up to one more
pub reasons_step : (entries : List Entry) (place : ℕ) (x : Entry) (before after : List (Option Reason)) → x ≡ get_or entries place x → place < length entries →
    HasReasons before (reverse (take place entries)) → after ≡ noted (ended_by x) before → HasReasons after (reverse (take (place + 1) entries))
reasons_step entries place x before after is lt has noted =
    rw (taken_one_more entries place x is lt, noted) (reasons_more before (reverse (take place entries)) x has)
