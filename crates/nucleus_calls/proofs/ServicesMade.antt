-- A service is made exactly where the reply is one.
use Rattle.std.proofs.Common.{◌≡◌, ◌≢◌, refl, ℕ, ◌+◌, ◌<◌, Bool, true, false, not, length, arith, if◌then◌else◌}
use Rattle.std.specs.Prelude.{nat_le, nat_lt}
use Rattle.std.proofs.lemmas.Bool.Decides.{nat_tests}
use Rattle.jx_base.specs.declared.act.Refusal.TheVariants as refusal
use Rattle.jx_base.specs.declared.act.Reply.{Reply}
use Rattle.jx_base.specs.declared.act.Reply.TheVariants as reply
use Rattle.jx_base.specs.declared.ids.ClassId.{ClassId}
use Rattle.jx_base.specs.declared.ids.ServiceId.{ServiceId}
use Rattle.jx_model.specs.Replies.{◌refuses◌else◌}
use Rattle.nucleus_tables.specs.Portals.{with_service}
use Rattle.nucleus_tables.specs.declared.tables.Tables.{Tables}
use Rattle.portal_table.specs.ServiceLists.{ServicesState, export_reply}

-- there is room where there is not too much
room : (n : ℕ) (b : Bool) → nat_le 256 n ≡ b → nat_lt n 256 ≡ not b
room n true q = grind (arith, nat_tests)
room n false q = grind (arith, nat_tests)

module _ (x : ServicesState) (iface : ClassId) where
  -- there was room for a service that was made
  pub made_in_room : (k : ServiceId) (c : ClassId) → reply.Service k c ≡ export_reply x iface → nat_lt (length x.services) 256 ≡ true
  unfolding ◌refuses◌else◌
  made_in_room k c q = by (nat_le 256 (length x.services)) refl q
    where
      by : (b : Bool) → nat_le 256 (length x.services) ≡ b → reply.Service k c ≡ (if b then reply.Refused refusal.TooMany else reply.Service (record { 0 = length x.services + 1 }) iface) → nat_lt (length x.services) 256 ≡ true
      by true p q = cc
      by false p q = room (length x.services) false p

  -- and for fewer than the most
  pub made_below : (k : ServiceId) (c : ClassId) → reply.Service k c ≡ export_reply x iface → length x.services < 256
  made_below k c q = by (length x.services) (made_in_room k c q)
    where
      by : (n : ℕ) → nat_lt n 256 ≡ true → n < 256
      by n q = grind (arith, nat_tests)

  -- where none was made there was none
  pub none_in_room : (r : Reply) → r ≡ export_reply x iface → ((k : ServiceId) (c : ClassId) → r ≢ reply.Service k c) → nat_lt (length x.services) 256 ≡ false
  unfolding ◌refuses◌else◌
  none_in_room r q n = by (nat_le 256 (length x.services)) refl q
    where
      by : (b : Bool) → nat_le 256 (length x.services) ≡ b → r ≡ (if b then reply.Refused refusal.TooMany else reply.Service (record { 0 = length x.services + 1 }) iface) → nat_lt (length x.services) 256 ≡ false
      by true p q = room (length x.services) true p
      by false p q = absurd (n (record { 0 = length x.services + 1 }) iface q)

-- no service, no change
pub none_made : (x : Tables) (d : ℕ) (iface : ClassId) (count : ℕ) (r : Reply) → ((k : ServiceId) (c : ClassId) → r ≢ reply.Service k c) → with_service x d iface count r ≡ x
none_made x d iface count (reply.Service k c) n = absurd (n k c refl)
none_made x d iface count _ n = refl

-- the journal and the counts are as before
pub keeps_journal : (x : Tables) (d : ℕ) (iface : ClassId) (count : ℕ) (r : Reply) → (with_service x d iface count r).journal ≡ x.journal
keeps_journal x d iface count (reply.Service k c) = refl
keeps_journal x d iface count _ = refl
