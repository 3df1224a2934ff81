-- Each entry of a domain in a legal history is of an act of its own.
use Rattle.std.proofs.Common.{◌≡◌, refl, ◌∙◌, ap, subst, ℕ, ◌≤◌, Bool, true, false, [], ◌∷◌, ◌++◌, Option, Some, None, arith, inl, inr}
use Rattle.std.specs.Prelude.{IsSome}
use Rattle.std.specs.Option.{option_and_then}
use Rattle.jx_base.specs.declared.act.Entry.{Entry}
use Rattle.jx_base.specs.declared.program.System.{System}
use Rattle.jx_base.specs.Histories.{Past, is_own, own_entries}
use Rattle.jx_base.proofs.NthEntries.{count_grows, nth_there}
use Rattle.jx_model.specs.Domains.{birth_of, is_birth, named_template, template_of}
use Rattle.jx_model.specs.Legal.{FollowsCode, IsAdmittedPast, IsLegalPast}
use Rattle.jx_model.specs.Permits.{acting_thread}
use Rattle.table_reads.proofs.ReplyReads.{template_there}
use Rattle.table_threads.proofs.Actors.{IsMade, actor_live, live_made}
use Rattle.table_threads.proofs.Records.{is_that, some_of}
use Rattle.thread_laws.proofs.OwnEntries.{own_more, own_same}
use Rattle.run_alone.proofs.Actors.{template_stays}
use Rattle.run_alone.specs.RunLaws.{IsOwnAct, PerformOwnActs}

-- what came before is legal
earlier : (s : System) (e : Entry) (past : Past) → IsLegalPast s (e ∷ past) → IsLegalPast s past
earlier s e past h = record { admitted = h.admitted.1; follows = λ d t l u q. by d t (is_own d e) refl (h.follows d t l (omega (arith, u, count_grows is_birth e past)) (template_stays s e past d t q)) }
  where
    by : (d t : ℕ) (b : Bool) → is_own d e ≡ b → FollowsCode s t (own_entries (e ∷ past) d) → FollowsCode s t (own_entries past d)
    by d t true q f = (subst (FollowsCode s t) (own_more e past d q) f).1
    by d t false q f = subst (FollowsCode s t) (own_same e past d q) f

pub before : (s : System) (later past : Past) → IsLegalPast s (later ++ past) → IsLegalPast s past
before s [] past h = h
before s (x ∷ later) past h = before s later past (earlier s x (later ++ past) h)

-- a domain that was made has a template
made_there : (s : System) (past : Past) (d : ℕ) → IsAdmittedPast s past → IsMade past d → (t : ℕ) × (template_of s past d ≡ Some t)
unfolding template_of birth_of
made_there s past d a m =
    let x = some_of (birth_of past d) (nth_there is_birth past d m.low m.high) in
    let t = some_of (named_template s x.0.act) (template_there s past d x.0 a x.1) in
    (t.0, ap (option_and_then (λ (e : Entry). named_template s e.act)) x.1 ∙ t.1)

-- the last entry of a legal past
last_own : (s : System) (past : Past) (e : Entry) → IsLegalPast s (e ∷ past) → 1 ≤ e.domain.0 → IsOwnAct s past e
unfolding is_own
last_own s past e h l = record {
  template = t.0;
  of = t.1;
  from = (subst (FollowsCode s t.0) (own_more e past d (is_that d d refl)) (h.follows d t.0 made.low (omega (arith, made.high, count_grows is_birth e past)) (template_stays s e past d t.0 t.1))).0;
  permitted = some (acting_thread s past d e.act) e.thread.0 h.admitted.0.thread;
}
  where
    d : ℕ
    d = e.domain.0

    made : IsMade past e.domain.0
    made = elim (actor_live s past e h.admitted.0) [ inl z ↦ absurd (omega (arith, z, l)) | inr v ↦ live_made past e.domain.0 v ]

    t : (t : ℕ) × (template_of s past e.domain.0 ≡ Some t)
    t = made_there s past e.domain.0 h.admitted.1 made

    some : (o : Option ℕ) (k : ℕ) → o ≡ Some k → IsSome o
    some None k q = cc
    some (Some x) k q = refl

pub own_acts : (s : System) (whole : Past) → IsLegalPast s whole → PerformOwnActs s whole
own_acts s whole h e past m l = last_own s past e (before s m.0 (e ∷ past) (subst (IsLegalPast s) m.1 h)) l
