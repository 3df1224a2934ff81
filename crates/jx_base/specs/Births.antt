-- The domains that entries made.
use Rattle.std.specs.Prelude.{◌≢◌, ℕ, List, Option, Some, None, All, AllPairs}
use Rattle.std.specs.List.{filter_map}
use Rattle.jx_base.specs.declared.act.Entry.{Entry}
use Rattle.jx_base.specs.declared.act.Reply.{Reply}
use Rattle.jx_base.specs.declared.act.Reply.TheVariants.{Domain}

-- the domain that the reply says was made
unfoldable pub domain_in : Reply → Option ℕ
domain_in (Domain made at) = Some made.0
domain_in _ = None

-- the domain that the entry is answered with
unfoldable pub answered_domain : Entry → Option ℕ
answered_domain entry = domain_in entry.reply

-- the domains that the entries are answered with, in order
abbrev pub answered_domains : List Entry → List ℕ
answered_domains entries = filter_map answered_domain entries

-- no two entries are answered with the same domain, and none with Domain Zero
pub record IsNumbered (entries : List Entry) : Type 0 where
  pub once : AllPairs (λ earlier later. earlier ≢ later) (answered_domains entries)
  pub never : All (λ domain. domain ≢ 0) (answered_domains entries)
