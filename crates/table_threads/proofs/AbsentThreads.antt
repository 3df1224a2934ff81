-- What isn't made has no threads, and a thread that isn't there has no entries.
use Rattle.std.proofs.Common.{◌≡◌, refl, ◌∙◌, ap, ℕ, ◌<◌, Bool, false, ◌&&◌, [], ◌∷◌, arith, ◌==◌}
use Rattle.jx_base.specs.declared.program.System.{System}
use Rattle.jx_base.specs.Histories.{Past, is_own}
use Rattle.jx_model.specs.Domains.{is_birth, domains_made}
use Rattle.jx_model.specs.Threads.{service_threads, is_of_thread, served_call, last_of_thread}
use Rattle.jx_model.specs.Legal.{IsAdmittedPast}
use Rattle.jx_base.proofs.NthEntries.{count_grows}
use Rattle.jx_model.proofs.OneThread.{serves_same, last_same, IsAbsent}
use Rattle.table_threads.proofs.Actors.{unmade_acts}
use Rattle.table_threads.proofs.ThreadRecords.{same_threads, no_threads}

-- a domain that wasn't made has no entry of a thread
pub unmade_absent : (s : System) (past : Past) (d t : ℕ) → IsAdmittedPast s past → domains_made past < d → IsAbsent past d t
unfolding last_of_thread served_call is_of_thread is_own
unmade_absent s [] d t h l = record { last = refl; serves = refl }
unmade_absent s (e ∷ past) d t h l = by (unmade_absent s past d t h.1 before)
  where
    before : domains_made past < d
    before = omega (arith, l, count_grows is_birth e past)

    not_of : (q : Bool) → q ≡ false → (q && (e.thread.0 == t)) ≡ false
    not_of q h = ap (λ (b : Bool). b && (e.thread.0 == t)) h

    other : is_of_thread d t e ≡ false
    other = not_of (e.domain.0 == d) (unmade_acts s past e d h.0 before)

    by : IsAbsent past d t → IsAbsent (e ∷ past) d t
    by i = record { last = last_same e past d t other ∙ i.last; serves = serves_same e past d t other ∙ i.serves }

-- nor has it service threads
pub unmade_threads : (s : System) (past : Past) (d : ℕ) → IsAdmittedPast s past → domains_made past < d → service_threads past d ≡ []
unfolding service_threads is_own
unmade_threads s [] d h l = refl
unmade_threads s (e ∷ past) d h l =
    same_threads e past d (no_threads e d (unmade_acts s past e d h.0 (omega (arith, l, count_grows is_birth e past))))
    ∙ unmade_threads s past d h.1 (omega (arith, l, count_grows is_birth e past))
