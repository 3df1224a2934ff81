-- The entries of one domain, as its history grows.
use Rattle.std.proofs.Common.{◌≡◌, refl, ap, ℕ, Bool, true, false, cond, [], ◌∷◌}
use Rattle.jx_base.specs.declared.act.Entry.{Entry}
use Rattle.jx_base.specs.Histories.{Past, is_own, own_entries}
use Rattle.jx_base.proofs.BasicLaws.{eq_of}

-- a domain's own entry is the newest of its entries
pub own_more : (e : Entry) (past : Past) (d : ℕ) → is_own d e ≡ true → own_entries (e ∷ past) d ≡ e ∷ own_entries past d
unfolding own_entries
own_more e past d q = ap (λ (b : Bool). cond b (e ∷ own_entries past d) (own_entries past d)) q

pub own_same : (e : Entry) (past : Past) (d : ℕ) → is_own d e ≡ false → own_entries (e ∷ past) d ≡ own_entries past d
unfolding own_entries
own_same e past d q = ap (λ (b : Bool). cond b (e ∷ own_entries past d) (own_entries past d)) q

pub domain_of : (e : Entry) (d : ℕ) → is_own d e ≡ true → e.domain.0 ≡ d
unfolding is_own
domain_of e d q = eq_of e.domain.0 d q

pub none_yet : (d : ℕ) → own_entries [] d ≡ []
unfolding own_entries
none_yet d = refl
