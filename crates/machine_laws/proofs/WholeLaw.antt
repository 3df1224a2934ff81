-- The law of the machine, from an admitted past alone.
use Rattle.std.proofs.Common.{◌≡◌, refl, sym, ◌∙◌, ap, subst, ℕ, ◌+◌, ◌<◌, ◌≤◌, Bool, true, false, [], ◌∷◌, Option, Some, None, arith, ◌⊎◌, inl, inr}
use Rattle.std.specs.Prelude.{nat_le, nat_lt, if◌then◌else◌}
use Rattle.std.proofs.lemmas.Bool.Decides.{nat_tests}
use Rattle.jx_base.specs.declared.act.Act.{Act}
use Rattle.jx_base.specs.declared.act.Act.TheVariants as act
use Rattle.jx_base.specs.declared.act.Reply.{Reply}
use Rattle.jx_base.specs.declared.act.Reply.TheVariants as reply
use Rattle.jx_base.specs.declared.act.Refusal.{Refusal}
use Rattle.jx_base.specs.declared.act.Refusal.TheVariants as refusal
use Rattle.jx_base.specs.declared.act.Entry.{Entry}
use Rattle.jx_base.specs.declared.ids.ClassId.{ClassId}
use Rattle.jx_base.specs.declared.ids.ObjectId.{ObjectId}
use Rattle.jx_base.specs.declared.program.System.{System}
use Rattle.jx_base.specs.declared.value.Parcel.{Parcel}
use Rattle.jx_base.specs.Basics.{not_below_zero}
use Rattle.jx_model.specs.Calls.{Asked, Answer, asked_of, answer_of}
use Rattle.jx_model.specs.Domains.{domains_made}
use Rattle.jx_base.specs.Histories.{Past}
use Rattle.jx_model.specs.Legal.{IsAdmittedPast, IsNext}
use Rattle.program_model.specs.Limits.{domain_limit, service_limit}
use Rattle.jx_model.specs.MemoryObjects.{Part, object_part}
use Rattle.jx_model.specs.Portals.{interface_of, services_made, bound_service}
use Rattle.jx_model.specs.Replies.{reply_to, ◌refuses◌else◌, given_or, new_domain, spawned, killed, new_service, bound, portal_reply, looked_up, called, job_of, sent_back, answer_reply, or_done, with_object, done_within, number_in, copied, allocated, one_object, derived, divided}
use Rattle.jx_model.specs.WellMade.{IsWellMade}
use Rattle.machine_laws.specs.Handed.{IsHanded, IsReplyIn}
use Rattle.machine_laws.specs.Law.{RepliesHold, NextIsWellMade, StatesHoldValues, AskedIsWellMade, StandingHoldsValues}
use Rattle.machine_laws.proofs.Standing.{standing}
use Rattle.machine_laws.proofs.StateValues.{advanced_in}
use Rattle.jx_base.specs.Histories.{own_entries}
use Rattle.machine_model.specs.Machine.{domain_state}
use Rattle.machine_laws.specs.Sound.{IsSound}
use Rattle.machine_laws.specs.Values.{IsStateIn}
use Rattle.machine_laws.proofs.Bytes.{number_reply_in, size_fits}
use Rattle.machine_laws.proofs.Law.{exported, state_in, next_well_made}
use Rattle.machine_laws.proofs.Replies.{asked_in, answer_in, handed_grows}
use Rattle.jx_model.proofs.Growing.{moment, before_admitted, portal_stays}
use Rattle.jx_model.proofs.SmallNumbers.{services_few, interface_within}
use Rattle.jx_model.specs.MemoryObjects.{objects_made}
use Rattle.jx_model.specs.Replies.{lacks_objects, new_object}
use Rattle.program_model.specs.Limits.{object_limit}
use Rattle.program_model.specs.Ranges.{IsId}
use Rattle.jx_model.specs.WellMade.{IsPortalIn}
use Rattle.machine_laws.proofs.Law.{calls_known}
use Rattle.std.specs.Option.{option_and_then}

module _ (s : System) (new : Past) where
  -- a reply in its ranges
  abbrev I : Reply → Type 0
  I r = IsReplyIn s new r

  refuses_in : (b : Bool) (r : Refusal) (rest : Reply) → I rest → I (b refuses r else rest)
  unfolding ◌refuses◌else◌
  refuses_in true r rest h = tt
  refuses_in false r rest h = h

  refuses_by : (b : Bool) (r : Refusal) (rest : Reply) → (b ≡ false → I rest) → I (b refuses r else rest)
  unfolding ◌refuses◌else◌
  refuses_by true r rest h = tt
  refuses_by false r rest h = h refl

  given_in : {A : Type 0} (o : Option A) (r : Refusal) (f : A → Reply) → ((x : A) → o ≡ Some x → I (f x)) → I (given_or o r f)
  unfolding given_or
  given_in None r f h = tt
  given_in (Some x) r f h = h x refl

  domain_in : (past : Past) (t : ℕ) → I (new_domain s past t)
  unfolding new_domain domain_limit
  domain_in past t = refuses_by _ _ _ (λ e. given_in _ _ _ (λ g q. record { sfits = small (domains_made past) e }))
    where
      small : (n : ℕ) → nat_le 64 n ≡ false → n + 1 < 2147483648
      small n e = grind (arith, nat_tests, e)

  object_in : (past : Past) (d : ℕ) (m : ObjectId) (f : Part → Reply) → ((o : Part) → object_part past m.0 ≡ Some o → I (f o)) → I (with_object past d m f)
  unfolding with_object
  object_in past d m f h = refuses_in _ _ _ (refuses_in _ _ _ (given_in _ _ _ h))

  -- objects that the limit leaves room for have numbers of 32 bits
  numbered_in : (past : Past) (k j : ℕ) → j ≤ k → lacks_objects s past k ≡ false → IsId (new_object past j).0
  unfolding lacks_objects object_limit new_object
  numbered_in past k j l e = small (objects_made past) e
    where
      small : (n : ℕ) → nat_lt 65536 (n + k) ≡ false → n + j < 4294967296
      small n e = grind (arith, nat_tests, e, l)

  one_in : (past : Past) → I (one_object s past)
  unfolding one_object
  one_in past = refuses_by _ _ _ (λ e. numbered_in past 1 1 (omega arith) e)

  looked_in : (past : Past) (o : Option ℕ) → ((k : ℕ) (c : ClassId) → interface_of past k ≡ Some c → IsPortalIn new k c) → I (looked_up past o)
  unfolding looked_up portal_reply
  looked_in past None g = tt
  looked_in past (Some k) g = by (interface_of past k) refl
    where
      by : (o : Option ClassId) → interface_of past k ≡ o → I (portal_reply k o)
      by None e = tt
      by (Some c) e = g k c e

  job_in : (past : Past) (o : Option Asked) → ((a : Asked) → o ≡ Some a → IsHanded s new a.parcel) → I (job_of o)
  unfolding job_of
  job_in past None h = tt
  job_in past (Some a) h = h a refl

  resumed_in : (o : Option Answer) → ((p : Parcel) → (o ≡ Some (Answer.Value p)) ⊎ (o ≡ Some (Answer.Thrown p)) → IsHanded s new p) → I (or_done (option_and_then answer_reply o))
  unfolding or_done answer_reply
  resumed_in None h = tt
  resumed_in (Some (Answer.Value p)) h = h p (inl refl)
  resumed_in (Some (Answer.Thrown p)) h = h p (inr refl)
  resumed_in (Some Answer.CopyFailed) h = tt
  resumed_in (Some Answer.Ended) h = tt
  resumed_in (Some Answer.Discarded) h = tt

-- the reply to an export
export_reply : (s : System) (past : Past) (e : Entry) (iface : ClassId) (k : ℕ) → IsAdmittedPast s past → e.act ≡ act.Export iface k → e.reply ≡ reply_to s past e.domain.0 (act.Export iface k) → IsReplyIn s (e ∷ past) (reply_to s past e.domain.0 (act.Export iface k))
unfolding reply_to new_service ◌refuses◌else◌
export_reply s past e iface k h f g = by (nat_le (service_limit s) (services_made past)) refl
  where
    by : (b : Bool) → nat_le (service_limit s) (services_made past) ≡ b → IsReplyIn s (e ∷ past) (if b then reply.Refused refusal.TooMany else reply.Service (record { 0 = services_made past + 1 }) iface)
    by true q = tt
    by false q =
        let r : (if nat_le (service_limit s) (services_made past) then reply.Refused refusal.TooMany else reply.Service (record { 0 = services_made past + 1 }) iface) ≡ reply.Service (record { 0 = services_made past + 1 }) iface =
        ap (λ (b : Bool). if b then reply.Refused refusal.TooMany else reply.Service (record { 0 = services_made past + 1 }) iface) q in
        exported s e past e.domain.0 (act.Export iface k) (reply.Service (record { 0 = services_made past + 1 }) iface) h (sym r) f (g ∙ r)

-- the reply to each act is in its ranges
reply_of : (s : System) (past : Past) (e : Entry) (a : Act) → IsSound s → IsAdmittedPast s past → IsWellMade s past a → e.act ≡ a → e.reply ≡ reply_to s past e.domain.0 a → IsReplyIn s (e ∷ past) (reply_to s past e.domain.0 a)
unfolding reply_to new_service spawned killed bound called sent_back number_in done_within copied allocated derived divided
reply_of s past e (act.Create t) z h w f g = domain_in s (e ∷ past) past t
reply_of s past e (act.Spawn name) z h w f g = given_in s (e ∷ past) _ _ _ (λ t q. domain_in s (e ∷ past) past t)
reply_of s past e (act.Export iface k) z h w f g = export_reply s past e iface k h f g
reply_of s past e (act.Bind name service) z h w f g = refuses_in s (e ∷ past) _ _ _ (refuses_in s (e ∷ past) _ _ _ tt)
reply_of s past e (act.Lookup name) z h w f g = looked_in s (e ∷ past) past (bound_service past name) (λ k c q. portal_stays e past k c (omega (arith, interface_within past k c q, services_few s past h), q))
reply_of s past e (act.Call service method parcel) z h w f g = refuses_in s (e ∷ past) _ _ _ (refuses_in s (e ∷ past) _ _ _ (refuses_in s (e ∷ past) _ _ _ (refuses_in s (e ∷ past) _ _ _ tt)))
reply_of s past e (act.Take c) z h w f g = job_in s (e ∷ past) past (asked_of past c.0) (λ a q. handed_grows s past (e ∷ past) a.parcel (e ∷ [], refl) (asked_in s past c.0 a z h q))
reply_of s past e (act.Return c p) z h w f g = refuses_in s (e ∷ past) _ _ _ (refuses_in s (e ∷ past) _ _ _ (refuses_in s (e ∷ past) _ _ _ tt))
reply_of s past e (act.Throw c p) z h w f g = refuses_in s (e ∷ past) _ _ _ (refuses_in s (e ∷ past) _ _ _ (refuses_in s (e ∷ past) _ _ _ tt))
reply_of s past e (act.Resume c) z h w f g = resumed_in s (e ∷ past) (answer_of past c.0) (λ p q. handed_grows s past (e ∷ past) p (e ∷ [], refl) (elim q [
  | inl i ↦ answer_in s past c.0 (Answer.Value p) p z h i refl
  | inr i ↦ answer_in s past c.0 (Answer.Thrown p) p z h i refl
]))
reply_of s past e (act.Alloc n) z h w f g =
    refuses_in s (e ∷ past) _ _ _ (refuses_by s (e ∷ past) _ _ _ (λ l. given_in s (e ∷ past) _ _ _ (λ g q. numbered_in s (e ∷ past) past 1 1 (omega arith) l)))
reply_of s past e (act.Size m) z h w f g = object_in s (e ∷ past) past e.domain.0 m _ (λ o q. size_fits s past m.0 o h q)
reply_of s past e (act.Get m at width) z h w f g = object_in s (e ∷ past) past e.domain.0 m _ (λ o q. refuses_in s (e ∷ past) _ _ _ (number_reply_in s past (e ∷ past) o.extent (o.from + not_below_zero at) width w.0 h))
reply_of s past e (act.Set m at width v) z h w f g = object_in s (e ∷ past) past e.domain.0 m _ (λ o q. refuses_in s (e ∷ past) _ _ _ tt)
reply_of s past e (act.Fill m at count b) z h w f g = object_in s (e ∷ past) past e.domain.0 m _ (λ o q. refuses_in s (e ∷ past) _ _ _ tt)
reply_of s past e (act.Copy m at k k_at count) z h w f g = refuses_in s (e ∷ past) _ _ _ (refuses_in s (e ∷ past) _ _ _ (refuses_in s (e ∷ past) _ _ _ tt))
reply_of s past e (act.Sub m at count) z h w f g = object_in s (e ∷ past) past e.domain.0 m _ (λ o q. refuses_in s (e ∷ past) _ _ _ (one_in s (e ∷ past) past))
reply_of s past e (act.Split m at) z h w f g =
    object_in s (e ∷ past) past e.domain.0 m _ (λ o q. refuses_in s (e ∷ past) _ _ _ (refuses_by s (e ∷ past) _ _ _
    (λ l. (numbered_in s (e ∷ past) past 2 1 (omega arith) l, numbered_in s (e ∷ past) past 2 2 (omega arith) l))))
reply_of s past e (act.Revoke m) z h w f g = object_in s (e ∷ past) past e.domain.0 m _ (λ o q. one_in s (e ∷ past) past)
reply_of s past e (act.Release m) z h w f g = refuses_in s (e ∷ past) _ _ _ tt
reply_of s past e (act.Kill k) z h w f g = refuses_in s (e ∷ past) _ _ _ (refuses_in s (e ∷ past) _ _ _ (refuses_in s (e ∷ past) _ _ _ tt))
reply_of s past e _ z h w f g = tt

reply_next : (s : System) (past : Past) (e : Entry) → IsSound s → IsAdmittedPast s past → IsNext s past e → IsReplyIn s (e ∷ past) e.reply
reply_next s past e z h n = subst (IsReplyIn s (e ∷ past)) (sym n.reply) (reply_of s past e e.act z h n.well_made refl n.reply)

-- all replies of an admitted past are in their ranges
pub replies_hold : (s : System) (past : Past) → IsSound s → IsAdmittedPast s past → RepliesHold s past
replies_hold s past z h e before m = reply_next s before e z (before_admitted s past e before h m) (moment s past e before h m)

-- the state of each domain is one of values
pub states_hold : (s : System) (past : Past) → IsSound s → IsAdmittedPast s past → StatesHoldValues s past
states_hold s past z h d t k = state_in s t d past z k h (replies_hold s past z h)

-- what a domain performs next is well made
pub next_is_well_made : (s : System) (past : Past) → IsSound s → IsAdmittedPast s past → NextIsWellMade s past
next_is_well_made s past z h = next_well_made s past z h (replies_hold s past z h)

-- what a state asks for that stands for a domain is well made
pub asked_is_well_made : (s : System) (past : Past) → IsSound s → IsAdmittedPast s past → AskedIsWellMade s past
asked_is_well_made s past z h d t k st a i n q = next_is_well_made s past z h d t a i ((standing s t (own_entries past d)).act st k a n q)

-- a state that stands for a domain is one of values
pub standing_values : (s : System) (past : Past) → IsSound s → IsAdmittedPast s past → StandingHoldsValues s past
standing_values s past z h d t st i n = subst (IsStateIn s past) (sym n.1) (advanced_in s past z n.0 (domain_state s t (own_entries past d)) (states_hold s past z h d t i) (calls_known s t d past h))
