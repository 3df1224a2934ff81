-- All that is kept stands for the past with the entry, after acts that do nothing but to their thread.
use Rattle.std.proofs.Common.{◌≡◌, refl, sym, ◌∙◌, ap, ℕ, true, false, List, []}
use Rattle.jx_base.specs.declared.act.Act.{Act}
use Rattle.jx_base.specs.declared.act.Act.TheVariants as act
use Rattle.jx_base.specs.declared.act.Reply.{Reply}
use Rattle.jx_base.specs.declared.act.Reply.TheVariants as reply
use Rattle.jx_base.specs.declared.act.Refusal.{Refusal}
use Rattle.jx_base.specs.declared.program.System.{System}
use Rattle.jx_base.specs.Histories.{Past}
use Rattle.jx_model.specs.Threads.{new_threads}
use Rattle.jx_model.specs.Permits.{is_choice}
use Rattle.jx_model.specs.Replies.{reply_to}
use Rattle.jx_model.specs.Tables.{Kept, StandsFor}
use Rattle.jx_model.specs.Legal.{IsNext}
use Rattle.table_threads.specs.ThreadChanges.{thread_record_after, leaves_thread, own_changed}
use Rattle.table_threads.proofs.ThreadActs.{threads_stepped, threads_left}
use Rattle.table_threads.specs.CallChanges.{entry}
use Rattle.table_steps.specs.Steps.{with_entry, moved_threads}
use Rattle.table_steps.proofs.Unchanged.{IsPlain, stands_after_plain, plain_act, plain_lookup, plain_refusal, is_plain_act, touches_calls}
use Rattle.jx_model.proofs.Refusals.{no_threads}

adds_no_threads : (a : Act) (r : Reply) → is_plain_act a ≡ true → new_threads a r ≡ []
unfolding new_threads
adds_no_threads (act.Export iface k) r h = cc
adds_no_threads _ r h = refl

-- a print, go, size, get, yield or end of a thread, a quiet or a halt changes the record of its thread alone
pub stands_after_plain_act : (s : System) (k : Kept) (d t : ℕ) (a : Act) (r : Reply) → StandsFor s k → IsNext s k.past (entry d t a r) → is_plain_act a ≡ true →
    StandsFor s (record (with_entry k (entry d t a r)) { threads = moved_threads k (entry d t a r) })
stands_after_plain_act s k d t a r h n p =
    let q : IsPlain k.past (entry d t a r) = plain_act k.past d t a r p in
    stands_after_plain s k (entry d t a r) _ h n q
    (ap (own_changed d t (λ item. thread_record_after item a r)) h.threads ∙ sym (threads_stepped s k.past (entry d t a r) n q.life.birth (adds_no_threads a r p)))

-- one that leaves its thread running changes nothing
pub stands_after_reading : (s : System) (k : Kept) (d t : ℕ) (a : Act) (r : Reply) → StandsFor s k → IsNext s k.past (entry d t a r) → is_plain_act a ≡ true → is_choice a ≡ false → leaves_thread a r ≡ true →
    StandsFor s (with_entry k (entry d t a r))
stands_after_reading s k d t a r h n p c l =
    let q : IsPlain k.past (entry d t a r) = plain_act k.past d t a r p in
    stands_after_plain s k (entry d t a r) k.threads h n q (h.threads ∙ sym (threads_left s k.past (entry d t a r) n q.life.birth (adds_no_threads a r p) c l))

-- a lookup that finds no name changes nothing
pub stands_after_no_name : (s : System) (k : Kept) (d t : ℕ) (name : List ℕ) → StandsFor s k → IsNext s k.past (entry d t (act.Lookup name) reply.NoName) → StandsFor s (with_entry k (entry d t (act.Lookup name) reply.NoName))
unfolding new_threads is_choice
stands_after_no_name s k d t name h n =
    let q : IsPlain k.past (entry d t (act.Lookup name) reply.NoName) = plain_lookup k.past d t name in
    stands_after_plain s k (entry d t (act.Lookup name) reply.NoName) k.threads h n q (h.threads ∙ sym (threads_left s k.past (entry d t (act.Lookup name) reply.NoName) n q.life.birth refl refl refl))

refused_runs : (s : System) (past : Past) (d : ℕ) (a : Act) (r : Refusal) → reply.Refused r ≡ reply_to s past d a → touches_calls a ≡ false → (is_choice a ≡ false) × (leaves_thread a (reply.Refused r) ≡ true)
unfolding reply_to is_choice
refused_runs s past d (act.Take c) r h q = cc
refused_runs s past d (act.Resume c) r h q = cc
refused_runs s past d (act.Return c p) r h q = cc
refused_runs s past d (act.Throw c p) r h q = cc
refused_runs s past d (act.Go t) r h q = cc
refused_runs s past d act.Yield r h q = cc
refused_runs s past d (act.EndThread c) r h q = cc
refused_runs s past d _ r h q = (refl, refl)

-- a refused act changes nothing, but for a return or throw
pub stands_after_refusal : (s : System) (k : Kept) (d t : ℕ) (a : Act) (r : Refusal) → StandsFor s k → IsNext s k.past (entry d t a (reply.Refused r)) → touches_calls a ≡ false → StandsFor s (with_entry k (entry d t a (reply.Refused r)))
stands_after_refusal s k d t a r h n p =
    let q : IsPlain k.past (entry d t a (reply.Refused r)) = plain_refusal s k.past (entry d t a (reply.Refused r)) r n refl p in
    let w = refused_runs s k.past d a r n.reply p in
    stands_after_plain s k (entry d t a (reply.Refused r)) k.threads h n q (h.threads ∙ sym (threads_left s k.past (entry d t a (reply.Refused r)) n q.life.birth (no_threads a r) w.0 w.1))
