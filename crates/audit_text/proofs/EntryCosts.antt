-- What an entry of an admitted history costs at most.
use Rattle.std.proofs.Common.{◌≡◌, refl, ◌∙◌, ap, subst, ℕ, ◌+◌, ◌≤◌, pos, Bool, true, false, ◌==◌, if◌then◌else◌, length, Option, Some, None, arith}
use Rattle.std.specs.Int.{cast_signed, w32}
use Rattle.std.specs.Option.{option_and_then}
use Rattle.jx_base.specs.declared.act.Act.{Act}
use Rattle.jx_base.specs.declared.act.Act.TheVariants as act
use Rattle.jx_base.specs.declared.act.Entry.{Entry}
use Rattle.jx_base.specs.declared.act.Refusal.{Refusal}
use Rattle.jx_base.specs.declared.act.Refusal.TheVariants as refusal
use Rattle.jx_base.specs.declared.act.Reply.{Reply}
use Rattle.jx_base.specs.declared.act.Reply.TheVariants as reply
use Rattle.jx_base.specs.declared.ids.ClassId.{ClassId}
use Rattle.jx_base.specs.declared.ids.ObjectId.{ObjectId}
use Rattle.jx_base.specs.declared.program.System.{System}
use Rattle.jx_base.specs.declared.value.Parcel.{Parcel}
use Rattle.jx_base.specs.Histories.{Past, nth_entry}
use Rattle.program_model.specs.Limits.{name_limit, parcel_limit, text_limit}
use Rattle.program_model.specs.ParcelParts.{parcel_words}
use Rattle.jx_model.specs.Calls.{Answer, Asked, answer_by_reply, answer_of, answered_by, answered_by_act, asked_by, asked_of, call_entry, ends_server, is_call, refused_answer, thrown}
use Rattle.jx_model.specs.Journal.{act_words, entry_words, reply_words}
use Rattle.jx_model.specs.Legal.{IsAdmittedPast, IsNext}
use Rattle.jx_model.specs.MemoryObjects.{Part}
use Rattle.jx_model.specs.Portals.{bound_service, interface_of}
use Rattle.jx_model.specs.Replies.{◌refuses◌else◌, allocated, answer_reply, bound, called, copied, derived, divided, done_within, given_or, job_of, killed, looked_up, new_domain, new_service, number_in, number_reply, one_object, or_done, portal_reply, reply_to, sent_back, spawned, with_object}
use Rattle.jx_model.specs.WellMade.{IsWellMade}
use Rattle.jx_model.proofs.Growing.{moment}
use Rattle.jx_laws.proofs.Basics.{nth_moment}
use Rattle.jx_laws.proofs.HandedOn.{since_moment}

-- ---- the parcels of calls

-- what a well made call asks is small
asked_small : (s : System) (past : Past) (a : Act) (x : Asked) → IsWellMade s past a → asked_by a ≡ Some x → parcel_words x.parcel ≤ 4096
unfolding asked_by parcel_limit
asked_small s past (act.Call k m p) x w h =
    let same : p ≡ x.parcel = cc in
    subst (λ (q : Parcel). parcel_words q ≤ 4096) same w.1.small
asked_small s past _ x w h = cc

-- so is what a call of the past asked
call_small : (s : System) (past : Past) (c : ℕ) (x : Asked) → IsAdmittedPast s past → asked_of past c ≡ Some x → parcel_words x.parcel ≤ 4096
unfolding asked_of call_entry
call_small s past c x admitted h = by (nth_entry is_call past c) refl h
  where
    by : (o : Option Entry) → nth_entry is_call past c ≡ o → option_and_then (λ e. asked_by e.act) o ≡ Some x → parcel_words x.parcel ≤ 4096
    by None q h = cc
    by (Some e) q h =
        let n = nth_moment is_call past c e q in
        asked_small s n.before e.act x (moment s past e n.before admitted n.moment).well_made h

-- ---- the parcels of answers

-- the words of the parcel that an answer carries
unfoldable pub answer_words : Answer → ℕ
answer_words (Answer.Value p) = parcel_words p
answer_words (Answer.Thrown p) = parcel_words p
answer_words _ = 0

-- what is thrown carries no more than its parcel
thrown_words : (p : Parcel) → answer_words (thrown p) ≤ parcel_words p
unfolding answer_words thrown
thrown_words p = by (length p.roots == 0)
  where
    by : (b : Bool) → answer_words (if b then Answer.CopyFailed else Answer.Thrown p) ≤ parcel_words p
    by true = omega arith
    by false = omega arith

-- the answer of a refused return or throw carries no parcel
refused_words : (r : Refusal) → answer_words (refused_answer r) ≡ 0
unfolding answer_words refused_answer
refused_words refusal.Discarded = refl
refused_words _ = refl

-- an answer carries no more than that of a done reply
replied_words : (r : Reply) (a : Answer) → answer_words (answer_by_reply r a) ≤ answer_words a
unfolding answer_by_reply
replied_words (reply.Refused r) a = omega (arith, refused_words r)
replied_words _ a = omega arith

-- what a well made act answers is small
act_answer_small : (s : System) (past : Past) (c : ℕ) (a : Act) (r : Reply) (x : Answer) → IsWellMade s past a → answered_by_act c a r ≡ Some x → answer_words x ≤ 4096
unfolding answered_by_act answer_words parcel_limit
act_answer_small s past c (act.Return k p) r x w h = by (k.0 == c) h
  where
    by : (b : Bool) → (if b then Some (answer_by_reply r (Answer.Value p)) else None) ≡ Some x → answer_words x ≤ 4096
    by true h =
        let same : answer_by_reply r (Answer.Value p) ≡ x = cc in
        subst (λ (y : Answer). answer_words y ≤ 4096) same (omega (arith, replied_words r (Answer.Value p), w.0.small))
    by false h = cc
act_answer_small s past c (act.Throw k p) r x w h = by (k.0 == c) h
  where
    by : (b : Bool) → (if b then Some (answer_by_reply r (thrown p)) else None) ≡ Some x → answer_words x ≤ 4096
    by true h =
        let same : answer_by_reply r (thrown p) ≡ x = cc in
        subst (λ (y : Answer). answer_words y ≤ 4096) same (omega (arith, replied_words r (thrown p), thrown_words p, w.0.small))
    by false h = cc
act_answer_small s past c _ r x w h = cc

-- what an entry answers is small
entry_answer_small : (s : System) (past : Past) (e : Entry) (c : ℕ) (x : Answer) → IsNext s past e → answered_by past e c ≡ Some x → answer_words x ≤ 4096
unfolding answered_by answer_words
entry_answer_small s past e c x next h = by (answered_by_act c e.act e.reply) refl (ends_server past c e) h
  where
    by : (o : Option Answer) → answered_by_act c e.act e.reply ≡ o → (b : Bool) → (elim o as (λ _. Option Answer) [ Some y ↦ Some y | None ↦ if b then Some Answer.Ended else None ]) ≡ Some x → answer_words x ≤ 4096
    by (Some y) q b h = act_answer_small s past c e.act e.reply x next.well_made (q ∙ h)
    by None q true h =
        let same : Answer.Ended ≡ x = cc in
        subst (λ (y : Answer). answer_words y ≤ 4096) same (omega arith)
    by None q false h = cc

-- so is the answer of a call
answer_small : (s : System) (past : Past) (c : ℕ) (x : Answer) → IsAdmittedPast s past → answer_of past c ≡ Some x → answer_words x ≤ 4096
unfolding answer_of
answer_small s past c x admitted h =
    let k = since_moment (λ before e. answered_by before e c) past c x h in
    entry_answer_small s k.before k.entry c x (moment s past k.entry k.before admitted k.moment) k.gives

-- ---- replies that carry no parcel

-- a refusal carries none, so that it is the other reply that may
bare_refuses : (b : Bool) (x : Refusal) (rest : Reply) → reply_words rest ≡ 0 → reply_words (b refuses x else rest) ≡ 0
unfolding ◌refuses◌else◌ reply_words
bare_refuses true x rest h = refl
bare_refuses false x rest h = h

-- nor does the refusal of what is not there
bare_given : {A : Type 0} (o : Option A) (x : Refusal) (f : A → Reply) → ((y : A) → reply_words (f y) ≡ 0) → reply_words (given_or o x f) ≡ 0
unfolding given_or reply_words
bare_given None x f h = refl
bare_given (Some y) x f h = h y

-- a new domain is told without a parcel
bare_domain : (s : System) (past : Past) (t : ℕ) → reply_words (new_domain s past t) ≡ 0
unfolding new_domain reply_words
bare_domain s past t = bare_refuses _ _ _ (bare_given _ _ _ (λ g. refl))

-- so is what a look-up finds
bare_lookup : (past : Past) (o : Option ℕ) → reply_words (looked_up past o) ≡ 0
unfolding looked_up portal_reply reply_words
bare_lookup past None = refl
bare_lookup past (Some k) = by (interface_of past k)
  where
    by : (o : Option ClassId) → reply_words (portal_reply k o) ≡ 0
    by None = refl
    by (Some c) = refl

-- what is done with an object carries a parcel only where its reply does
bare_object : (past : Past) (d : ℕ) (m : ObjectId) (f : Part → Reply) → ((o : Part) → reply_words (f o) ≡ 0) → reply_words (with_object past d m f) ≡ 0
unfolding with_object
bare_object past d m f h = bare_refuses _ _ _ (bare_refuses _ _ _ (bare_given _ _ _ h))

-- a number that was read is no parcel
bare_number : (width n : ℕ) → reply_words (number_reply width n) ≡ 0
unfolding number_reply reply_words
bare_number width n = by (width == 4) (reply.Number (cast_signed w32 n)) (reply.Number (pos n)) refl refl
  where
    by : (b : Bool) (r q : Reply) → reply_words r ≡ 0 → reply_words q ≡ 0 → reply_words (if b then r else q) ≡ 0
    by true r q h k = h
    by false r q h k = k

-- nor is a new object
bare_one : (s : System) (past : Past) → reply_words (one_object s past) ≡ 0
unfolding one_object reply_words
bare_one s past = bare_refuses _ _ _ refl

-- ---- all acts

-- the words of an act and of its reply
abbrev pub Costs : System → Past → ℕ → Act → Type 0
Costs s past d a = act_words a + reply_words (reply_to s past d a) ≤ 4096

-- what the taker of a call gets is small
job_small : (s : System) (past : Past) (c : ℕ) (o : Option Asked) → IsAdmittedPast s past → asked_of past c ≡ o → reply_words (job_of o) ≤ 4096
unfolding job_of reply_words
job_small s past c None admitted h = omega arith
job_small s past c (Some x) admitted h = call_small s past c x admitted h

-- so is what its caller gets
resumed_small : (s : System) (past : Past) (c : ℕ) (o : Option Answer) → IsAdmittedPast s past → answer_of past c ≡ o → reply_words (or_done (option_and_then answer_reply o)) ≤ 4096
unfolding or_done answer_reply reply_words answer_words
resumed_small s past c None admitted h = omega arith
resumed_small s past c (Some (Answer.Value p)) admitted h = answer_small s past c (Answer.Value p) admitted h
resumed_small s past c (Some (Answer.Thrown p)) admitted h = answer_small s past c (Answer.Thrown p) admitted h
resumed_small s past c (Some Answer.CopyFailed) admitted h = omega arith
resumed_small s past c (Some Answer.Ended) admitted h = omega arith
resumed_small s past c (Some Answer.Discarded) admitted h = omega arith

-- a well made act and its reply cost at most 4096 words
cost_small : (s : System) (past : Past) (d : ℕ) (a : Act) → IsAdmittedPast s past → IsWellMade s past a → Costs s past d a
unfolding act_words reply_words reply_to text_limit name_limit parcel_limit new_service bound called sent_back allocated spawned killed copied derived divided done_within number_in
cost_small s past d (act.Create t) h w = omega (arith, bare_domain s past t)
cost_small s past d (act.Print text) h w = omega (arith, w.short)
cost_small s past d (act.Export iface k) h w = let bare : reply_words (new_service s past iface) ≡ 0 = bare_refuses _ _ _ refl in omega (arith, bare)
cost_small s past d (act.Bind name k) h w = let bare : reply_words (bound past d name k.0) ≡ 0 = bare_refuses _ _ _ (bare_refuses _ _ _ refl) in omega (arith, bare, w.0.short)
cost_small s past d (act.Lookup name) h w = omega (arith, bare_lookup past (bound_service past name), w.short)
cost_small s past d (act.Call k m p) h w =
    let bare : reply_words (called s past d k m p) ≡ 0 = bare_refuses _ _ _ (bare_refuses _ _ _ (bare_refuses _ _ _ (bare_refuses _ _ _ refl))) in
    omega (arith, bare, w.1.small)
cost_small s past d (act.Take c) h w = omega (arith, job_small s past c.0 (asked_of past c.0) h refl)
cost_small s past d (act.Return c p) h w =
    let bare : reply_words (sent_back s past d c.0 p) ≡ 0 = bare_refuses _ _ _ (bare_refuses _ _ _ (bare_refuses _ _ _ refl)) in
    omega (arith, bare, w.0.small)
cost_small s past d (act.Throw c p) h w =
    let bare : reply_words (sent_back s past d c.0 p) ≡ 0 = bare_refuses _ _ _ (bare_refuses _ _ _ (bare_refuses _ _ _ refl)) in
    omega (arith, bare, w.0.small)
cost_small s past d (act.Resume c) h w = omega (arith, resumed_small s past c.0 (answer_of past c.0) h refl)
cost_small s past d (act.Alloc n) h w =
    let bare : reply_words (allocated s past n) ≡ 0 = bare_refuses _ _ _ (bare_refuses _ _ _ (bare_given _ _ _ (λ g. refl))) in
    omega (arith, bare)
cost_small s past d (act.Size m) h w = omega (arith, bare_object past d m (λ o. reply.Number (pos o.size)) (λ o. refl))
cost_small s past d (act.Get m at width) h w = omega (arith, bare_object past d m (number_in past at width) (λ o. bare_refuses _ _ _ (bare_number width _)))
cost_small s past d (act.Set m at width v) h w = omega (arith, bare_object past d m (done_within at (pos width)) (λ o. bare_refuses _ _ _ refl))
cost_small s past d (act.Fill m at count b) h w = omega (arith, bare_object past d m (done_within at count) (λ o. bare_refuses _ _ _ refl))
cost_small s past d (act.Copy m at k k_at count) h w =
    let bare : reply_words (copied past d m at k k_at count) ≡ 0 = bare_refuses _ _ _ (bare_refuses _ _ _ (bare_refuses _ _ _ refl)) in
    omega (arith, bare)
cost_small s past d (act.Sub m at count) h w = omega (arith, bare_object past d m (derived s past at count) (λ o. bare_refuses _ _ _ (bare_one s past)))
cost_small s past d (act.Split m at) h w = omega (arith, bare_object past d m (divided s past at) (λ o. bare_refuses _ _ _ (bare_refuses _ _ _ refl)))
cost_small s past d (act.Revoke m) h w = omega (arith, bare_object past d m (λ o. one_object s past) (λ o. bare_one s past))
cost_small s past d (act.Release m) h w = let bare : reply_words (reply_to s past d (act.Release m)) ≡ 0 = bare_refuses _ _ _ refl in omega (arith, bare)
cost_small s past d (act.Spawn name) h w =
    let bare : reply_words (spawned s past name) ≡ 0 = bare_given _ _ _ (λ t. bare_domain s past t) in
    omega (arith, bare, w.short)
cost_small s past d (act.Kill k) h w =
    let bare : reply_words (reply_to s past d (act.Kill k)) ≡ 0 = bare_refuses _ _ _ (bare_refuses _ _ _ (bare_refuses _ _ _ refl)) in
    omega (arith, bare)
cost_small s past d _ h w = omega arith

-- an entry costs at most what the journal keeps free for one
pub entry_small : (s : System) (past : Past) (e : Entry) → IsAdmittedPast s past → IsNext s past e → entry_words e ≤ 4104
unfolding entry_words
entry_small s past e admitted next =
    let cost = cost_small s past e.domain.0 e.act admitted next.well_made in
    omega (arith, cost, ap reply_words next.reply)
