-- The names as a list of all binds, the newest first: a bind adds one, and nothing else changes it.
use Rattle.std.proofs.Common.{◌≡◌, sym, ◌∙◌, ap, ℕ, Bool, true, false, List, ◌∷◌, Option, Some, None, if◌then◌else◌, refl}
use Rattle.std.specs.Str.{bytes_eq}
use Rattle.jx_base.specs.declared.act.Entry.{Entry}
use Rattle.jx_base.specs.Histories.{Past}
use Rattle.jx_model.specs.Portals.{bound_by_act, last_bound}
use Rattle.jx_model.specs.Tables.{named_service}
use Rattle.table_threads.specs.LastBinds.{HasLastBinds}

-- a done bind adds itself
pub binds_after_bind : (names : List (List ℕ × ℕ)) (e : Entry) (past : Past) (name : List ℕ) (k : ℕ) → HasLastBinds names past → ((x : List ℕ) → bound_by_act x e.act e.reply ≡ (if bytes_eq name x then Some k else None)) → HasLastBinds ((name, k) ∷ names) (e ∷ past)
unfolding named_service last_bound
binds_after_bind names e past name k h b x =
    by (bytes_eq name x) ∙ sym (ap (λ (o : Option ℕ). elim o as (λ _. Option ℕ) [ Some j ↦ Some j | None ↦ last_bound past x ]) (b x))
  where
    by : (c : Bool) → (if c then Some k else named_service names x) ≡ (elim (if c then Some k else None) as (λ _. Option ℕ) [ Some j ↦ Some j | None ↦ last_bound past x ])
    by true = refl
    by false = h x

-- any other entry leaves the list
pub binds_same : (names : List (List ℕ × ℕ)) (e : Entry) (past : Past) → HasLastBinds names past → ((x : List ℕ) → bound_by_act x e.act e.reply ≡ None) → HasLastBinds names (e ∷ past)
unfolding last_bound
binds_same names e past h b x = h x ∙ sym (ap (λ (o : Option ℕ). elim o as (λ _. Option ℕ) [ Some j ↦ Some j | None ↦ last_bound past x ]) (b x))
