-- Nothing of a domain comes after its end.
use Rattle.std.proofs.Common.{ℤ, ◌≡◌, refl, sym, ◌∙◌, ap, ℕ, ◌≤◌, Bool, true, false, [], ◌∷◌, None, arith, ◌⊎◌, inl, inr}
use Rattle.jx_base.specs.declared.act.Act.TheVariants as act
use Rattle.jx_base.specs.declared.act.Entry.{Entry}
use Rattle.jx_base.specs.declared.act.Reason.{Reason}
use Rattle.jx_base.specs.declared.program.System.{System}
use Rattle.jx_base.specs.Histories.{Past, is_own, own_entries}
use Rattle.jx_model.specs.Domains.{end_reason, is_live}
use Rattle.jx_model.specs.Legal.{IsAdmittedPast}
use Rattle.jx_model.proofs.Serving.{before_end, not_ended_yet}
use Rattle.table_threads.proofs.Actors.{actor_live}
use Rattle.thread_laws.proofs.OwnEntries.{domain_of, none_yet, own_more, own_same}
use Rattle.thread_laws.proofs.KindsOfActs.{ends}
use Rattle.thread_laws.proofs.RunningThreads.{ends_not}

-- a domain whose last entry is an end has ended
ended : (past : Past) (d : ℕ) (f : Entry) (own : Past) → own_entries past d ≡ f ∷ own → ends f.act ≡ true → end_reason past d ≡ None → ⊥
ended [] d f own q h r = let w : [] ≡ f ∷ own = sym (none_yet d) ∙ q in cc
ended (g ∷ past) d f own q h r = by (is_own d g) refl (ended past d f own)
  where
    by : (b : Bool) → is_own d g ≡ b → (own_entries past d ≡ f ∷ own → ends f.act ≡ true → end_reason past d ≡ None → ⊥) → ⊥
    by false u again = again (sym (own_same g past d u) ∙ q) h (before_end g past d r).1
    by true u again =
        let w : g ∷ own_entries past d ≡ f ∷ own = sym (own_more g past d u) ∙ q in
        let y : g ≡ f = cc in
        let v : ends g.act ≡ true = ap (λ (e : Entry). ends e.act) y ∙ h in cc (v, ends_not g d u (before_end g past d r).0)

-- no entry of it comes next
none_after : (s : System) (past : Past) → IsAdmittedPast s past → (d : ℕ) (e f : Entry) (own : Past) → 1 ≤ d → own_entries past d ≡ e ∷ f ∷ own → ends f.act ≡ true → ⊥
none_after s [] a d e f own l q h = let w : [] ≡ e ∷ f ∷ own = sym (none_yet d) ∙ q in cc
none_after s (g ∷ past) a d e f own l q h = by (is_own d g) refl (none_after s past a.1 d e f own l)
  where
    by : (b : Bool) → is_own d g ≡ b → (own_entries past d ≡ e ∷ f ∷ own → ends f.act ≡ true → ⊥) → ⊥
    by false u again = again (sym (own_same g past d u) ∙ q) h
    by true u again = here (actor_live s past g a.0)
      where
        z : g.domain.0 ≡ d
        z = domain_of g d u

        before : own_entries past d ≡ f ∷ own
        before = let w : g ∷ own_entries past d ≡ e ∷ f ∷ own = sym (own_more g past d u) ∙ q in cc

        here : (g.domain.0 ≡ 0) ⊎ (is_live past g.domain.0 ≡ true) → ⊥
        here (inl o) = absurd (omega (arith, l, o, z))
        here (inr v) = ended past d f own before h (not_ended_yet past d (ap (is_live past) (sym z) ∙ v))

-- nothing of a domain comes after an end
pub none_after_end : (s : System) (past : Past) → IsAdmittedPast s past → (d : ℕ) (e f : Entry) (own : Past) → 1 ≤ d → own_entries past d ≡ e ∷ f ∷ own → (r : Reason) → f.act ≡ act.End r → ⊥
none_after_end s past a d e f own l q r h = none_after s past a d e f own l q (ap ends h)

-- nor after its exit
pub none_after_exit : (s : System) (past : Past) → IsAdmittedPast s past → (d : ℕ) (e f : Entry) (own : Past) → 1 ≤ d → own_entries past d ≡ e ∷ f ∷ own → (code : ℤ) → f.act ≡ act.Exit code → ⊥
none_after_exit s past a d e f own l q code h = none_after s past a d e f own l q (ap ends h)
