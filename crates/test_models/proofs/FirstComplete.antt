-- The run of the first class, written out, is the complete history of one worker.
use Rattle.std.specs.Prelude.{◌≡◌, refl, ℕ, [], ◌∷◌, Some, None, codes}
use Rattle.std.proofs.Common.{arith, subst, sym}
use Rattle.jx_base.specs.declared.act.Act.{Act}
use Rattle.jx_base.specs.declared.act.Act.TheVariants as act
use Rattle.jx_base.specs.declared.act.Reply.{Reply}
use Rattle.jx_base.specs.declared.act.Reply.TheVariants as reply
use Rattle.jx_base.specs.declared.act.Entry.{Entry}
use Rattle.jx_base.specs.declared.act.History.{History}
use Rattle.jx_base.specs.declared.program.System.{System}
use Rattle.opened_models.specs.Opened.{opened_model}
use Rattle.jx_base.specs.Histories.{own_entries, past_of}
use Rattle.jx_model.specs.Domains.{template_of, domains_made}
use Rattle.program_model.specs.Ranges.{IsText}
use Rattle.jx_model.specs.Legal.{IsNext, AllFollowCode, FollowsCode, IsComplete}
use Rattle.jx_model.specs.SingleWorker.{IsSingleWorkerHistory}
use Rattle.audit_model.specs.AuditText.{audit_text}
use Rattle.test_models.proofs.FirstClass.{hello_audit}
use Rattle.std.specs.Fmt.{digits}
use Rattle.test_models.proofs.TestSystems.{history_of}
use Rattle.test_models.proofs.Hello.{hello_system}

abbrev hello : System
hello = hello_system 1000000

abbrev entry : ℕ → Act → Reply → Entry
entry d a r = record { domain = record { 0 = d }; thread = record { 0 = 0 }; act = a; reply = r }

abbrev created : Entry
created = entry 0 (act.Create 0) (reply.Domain (record { 0 = 1 }) 0)

abbrev printed : Entry
printed = entry 1 (act.Print (codes "hi")) reply.Done

abbrev returned : Entry
returned = entry 1 (act.EndThread None) reply.Done

abbrev quieted : Entry
quieted = entry 0 act.Quiet reply.Done

abbrev pub hello_history : History
hello_history = history_of (created ∷ printed ∷ returned ∷ quieted ∷ [])

hi_is_text : IsText (codes "hi")
unfolding opened_model
hi_is_text = record { short = omega arith; sixteen_bits = (omega arith, (omega arith, tt)) }

first_next : IsNext hello [] created
unfolding opened_model
first_next = record { thread = refl; well_made = refl; reply = refl }

second_next : IsNext hello (created ∷ []) printed
unfolding opened_model
second_next = record { thread = refl; well_made = hi_is_text; reply = refl }

third_next : IsNext hello (printed ∷ created ∷ []) returned
unfolding opened_model
third_next = record { thread = refl; well_made = tt; reply = refl }

fourth_next : IsNext hello (returned ∷ printed ∷ created ∷ []) quieted
unfolding opened_model
fourth_next = record { thread = refl; well_made = tt; reply = refl }

follows_first : FollowsCode hello 0 (own_entries (past_of hello_history) 1)
unfolding opened_model
follows_first = (refl, (refl, tt))

first_template : template_of hello (past_of hello_history) 1 ≡ Some 0
unfolding opened_model
first_template = refl

one_domain : domains_made (past_of hello_history) ≡ 1
unfolding opened_model
one_domain = refl

follows_at : (t : ℕ) → template_of hello (past_of hello_history) 1 ≡ Some t → FollowsCode hello t (own_entries (past_of hello_history) 1)
follows_at t h = let q : 0 ≡ t = cc (h, first_template) in subst (λ (k : ℕ). FollowsCode hello k (own_entries (past_of hello_history) 1)) q follows_first

follows : AllFollowCode hello (past_of hello_history)
follows d t l u h =
    let q : 1 ≡ d = omega (arith, l, u, one_domain) in
    subst (λ (k : ℕ). FollowsCode hello t (own_entries (past_of hello_history) k)) q
    (follows_at t (subst (λ (k : ℕ). template_of hello (past_of hello_history) k ≡ Some t) (sym q) h))

pub hello_is_complete : IsComplete hello hello_history
unfolding opened_model
hello_is_complete =
    record {
      legal = record { admitted = (fourth_next, (third_next, (second_next, (first_next, tt)))); follows = follows };
      ended = refl;
    }

pub hello_is_single : IsSingleWorkerHistory hello hello_history
unfolding opened_model
hello_is_single =
    record {
      complete = hello_is_complete;
      picked = (
        record { domain = refl; act = refl },
        (record { domain = refl; act = refl }, (record { domain = refl; act = refl }, (record { domain = refl; act = refl }, tt))),
      );
    }

-- its audit
pub hello_has_audit : audit_text hello hello_history ≡ hello_audit
unfolding digits opened_model
hello_has_audit = refl
