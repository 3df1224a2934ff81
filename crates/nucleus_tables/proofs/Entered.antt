-- The tables with one entry more are those of the past with it.
use Rattle.std.proofs.Common.{◌≡◌, refl, sym, ◌∙◌, ap, subst, ℕ, ◌+◌, ◌≤◌, Bool, true, false, ◌||◌, List, [], ◌∷◌, length, reverse, None, arith, if◌then◌else◌}
use Rattle.std.proofs.lemmas.List.{reverse-append}
use Rattle.jx_base.specs.declared.act.Act.{Act}
use Rattle.jx_base.specs.declared.act.Act.TheVariants as act
use Rattle.jx_base.specs.declared.act.Entry.{Entry}
use Rattle.jx_base.specs.declared.act.Reply.{Reply}
use Rattle.jx_base.specs.declared.act.Reply.TheVariants as reply
use Rattle.jx_base.specs.declared.program.System.{System}
use Rattle.jx_base.specs.Histories.{Past}
use Rattle.jx_base.proofs.BasicLaws.{ap2}
use Rattle.jx_model.specs.Domains.{ended_by, ended_by_act, is_birth, makes_domain}
use Rattle.jx_model.specs.Journal.{entry_words, words_of}
use Rattle.jx_model.specs.Legal.{IsNext}
use Rattle.jx_model.specs.Permits.{is_choice, is_create, is_create_entry, is_ending}
use Rattle.jx_model.specs.Replies.{reply_to}
use Rattle.jx_model.specs.Calls.{waiting_calls}
use Rattle.jx_model.specs.Tables.{CallRecord, Kept, StandsFor, call_records}
use Rattle.call_table.specs.CallLists.{CallsState}
use Rattle.nucleus_tables.specs.CallTables.{AreCallsOf}
use Rattle.nucleus_tables.specs.PlaceLists.{PlacesState}
use Rattle.journal.specs.Journals.{JournalState}
use Rattle.portal_table.specs.NameLists.{name_words}
use Rattle.portal_table.specs.ServiceLists.{ServicesState}
use Rattle.table_steps.proofs.PlainSteps.{stands_after_reading}
use Rattle.table_steps.specs.Steps.{with_entry}
use Rattle.table_threads.specs.CallChanges.{entry}
use Rattle.nucleus_tables.proofs.EndedFlags.{ended_same}
use Rattle.nucleus_tables.specs.Entering.{IsPlain, done_entry}
use Rattle.nucleus_tables.specs.Inner.{IsOf, IsPermittedIn, kept_in, past_in, state_of, with_put}
use Rattle.nucleus_tables.specs.NucleusStates.{ended_flags}
use Rattle.nucleus_tables.specs.Stepping.{IsEntered, IsStepped}
use Rattle.nucleus_tables.specs.declared.step.Step.{Step}
use Rattle.nucleus_tables.specs.declared.step.Step.TheVariants as step
use Rattle.jx_base.specs.declared.ids.ThreadId.{ThreadId}
use Rattle.nucleus_tables.specs.declared.tables.Tables.{Tables}

-- ---- one entry more

-- the past with the entry
pub past_put : (x : Tables) (e : Entry) → past_in (with_put x e) ≡ e ∷ past_in x
past_put x e = reverse-append x.journal.entries (e ∷ [])

-- what is kept of the tables with the entry, but for the calls
abbrev pub kept_with : Tables → Tables → Entry → Kept
kept_with x y e =
    record (with_entry (kept_in x) e) {
      domains = y.domains.domains;
      threads = y.domains.threads;
      services = y.services.services;
      names = y.services.binds;
      parts = y.space.parts;
      objects = y.space.objects;
      extents = y.space.extents;
      taken = y.space.taken;
    }

-- with the calls of the past with the entry it is all that is kept, where the counts are right
kept_put : (x y : Tables) (e : Entry) → y.over ≡ (is_ending e.act || x.over) → y.creates ≡ x.creates + (if is_create_entry e then 1 else 0) → y.journal ≡ x.journal →
    kept_in (with_put y e) ≡ record (kept_with x y e) { calls = call_records (e ∷ past_in x); waiting = waiting_calls (e ∷ past_in x) }
unfolding words_of
kept_put x y e o c j =
    ap (λ (past : Past). kept past (words_of past) y.over y.creates) (past_put y e ∙ ap (λ (z : JournalState). e ∷ reverse z.entries) j)
    ∙ ap2 (λ (b : Bool) (n : ℕ). kept (e ∷ past_in x) (words_of (past_in x) + entry_words e) b n) o c
  where
    kept : Past → ℕ → Bool → ℕ → Kept
    kept past words over creates =
        record (kept_in y) { past = past; words = words; over = over; creates = creates; calls = call_records past; waiting = waiting_calls past }

-- what stands for a past has its calls
recalled : (s : System) (k : Kept) → StandsFor s k → StandsFor s (record k { calls = call_records k.past; waiting = waiting_calls k.past })
recalled s k h =
    record {
      admitted = h.admitted;
      over = h.over;
      words = h.words;
      creates = h.creates;
      domains = h.domains;
      threads = h.threads;
      services = h.services;
      names = h.names;
      calls = refl;
      waiting = refl;
      parts = h.parts;
      objects = h.objects;
      extents = h.extents;
      taken = h.taken;
    }

-- what the tables have beside what is kept, of which these are the calls, is as before the entry, or as the past with the entry says
pub record IsBeside (s : System) (x y : Tables) (e : Entry) (calls : List CallRecord) : Type 0 where
  pub limit : y.domains.limit ≡ x.domains.limit
  pub boots : y.boots ≡ x.boots
  pub words : y.services.words ≡ x.services.words
  pub ended : y.services.ended ≡ ended_flags s (e ∷ past_in x)
  pub serving : y.domains.services ≡ length y.services.services
  pub cost : name_words y.services.binds ≤ words_of (e ∷ past_in x)
  pub calls_are : AreCallsOf calls y.calls.calls y.places.places
  pub call_room : y.calls.limit ≡ x.calls.limit
  pub place_room : y.places.limit ≡ x.places.limit
  pub no_objects : y.space.objects ≡ []
  pub no_extents : y.space.extents ≡ []

-- names that cost no more than before
pub costs_less : (s : System) (x : Tables) (e : Entry) → IsOf s x → name_words x.services.binds ≤ words_of (e ∷ past_in x)
unfolding words_of
costs_less s x e h = omega (arith, h.cost)

-- what acts on calls alone change
pub record LeavesCalls (x y : Tables) : Type 0 where
  pub calls : y.calls ≡ x.calls
  pub places : y.places ≡ x.places
  pub objects : y.space.objects ≡ x.space.objects
  pub extents : y.space.extents ≡ x.space.extents

-- so the tables of calls are as before
pub same_calls : (s : System) (x y : Tables) → IsOf s x → LeavesCalls x y → AreCallsOf (call_records (past_in x)) y.calls.calls y.places.places
same_calls s x y h l =
    record {
      calls_are = ap (λ (z : CallsState). z.calls) l.calls ∙ h.calls.calls_are;
      places_are = ap (λ (z : PlacesState). z.places) l.places ∙ h.calls.places_are;
    }

-- it is so where the services and the calls are as before, and nobody ends
pub same_beside : (s : System) (x y : Tables) (e : Entry) → IsOf s x → ended_by e ≡ None → y.domains.limit ≡ x.domains.limit → y.boots ≡ x.boots → y.domains.services ≡ x.domains.services → y.services ≡ x.services → LeavesCalls x y →
    IsBeside s x y e (call_records (past_in x))
same_beside s x y e h q l b n v c =
    record {
      limit = l;
      boots = b;
      words = ap (λ (z : ServicesState). z.words) v;
      ended = ap (λ (z : ServicesState). z.ended) v ∙ h.ended ∙ sym (ended_same s e (past_in x) q);
      serving = n ∙ h.serving ∙ ap (λ (z : ServicesState). length z.services) (sym v);
      cost = subst (λ (z : ServicesState). name_words z.binds ≤ words_of (e ∷ past_in x)) (sym v) (costs_less s x e h);
      calls_are = same_calls s x y h c;
      call_room = ap (λ (z : CallsState). z.limit) c.calls;
      place_room = ap (λ (z : PlacesState). z.limit) c.places;
      no_objects = c.objects ∙ h.no_objects;
      no_extents = c.extents ∙ h.no_extents;
    }

-- the entry was made, where what is kept with these calls stands for the past with it
pub entered : (s : System) (x y : Tables) (d t : ℕ) (a : Act) (r : Reply) (calls : List CallRecord) (waiting : List ℕ) → IsPermittedIn s x d t a → r ≡ reply_to s (past_in x) d a →
    y.over ≡ (is_ending a || x.over) → y.creates ≡ x.creates + (if is_create_entry (entry d t a r) then 1 else 0) → y.journal ≡ x.journal →
    IsBeside s x y (entry d t a r) calls → StandsFor s (record (kept_with x y (entry d t a r)) { calls = calls; waiting = waiting }) →
    IsEntered s (state_of x) (state_of (with_put y (entry d t a r))) (entry d t a r)
entered s x y d t a r calls waiting h q o c j b k =
    let e : Entry = entry d t a r in
    let past : past_in (with_put y e) ≡ e ∷ past_in x = past_put y e ∙ ap (λ (z : JournalState). e ∷ reverse z.entries) j in
    record {
      next = record { thread = h.thread; well_made = h.may_come.well_made; reply = q };
      past = past;
      nucleus = record {
        plan = h.tables.plan;
        stands = subst (StandsFor s) (sym (kept_put x y e o c j)) (recalled s (record (kept_with x y e) { calls = calls; waiting = waiting }) k);
        journal = ap (λ (z : JournalState). z.limit) j ∙ h.tables.journal;
        domains = b.limit ∙ h.tables.domains;
        boots = ap (λ z. z.items) b.boots ∙ h.tables.boots;
        ended = b.ended ∙ ap (ended_flags s) (sym past);
        serving = b.serving;
        names = b.words ∙ h.tables.names;
        cost = subst (λ (p : Past). name_words y.services.binds ≤ words_of p) (sym past) b.cost;
        calls = subst (λ (cs : List CallRecord). AreCallsOf cs y.calls.calls y.places.places) (k.calls ∙ ap call_records (sym past)) b.calls_are;
        call_room = b.call_room ∙ h.tables.call_room;
        place_room = b.place_room ∙ h.tables.place_room;
        no_objects = b.no_objects;
        no_extents = b.no_extents;
      };
    }

-- the same, where the calls are as before
pub entered_beside_calls : (s : System) (x y : Tables) (d t : ℕ) (a : Act) (r : Reply) → IsPermittedIn s x d t a → r ≡ reply_to s (past_in x) d a →
    y.over ≡ (is_ending a || x.over) → y.creates ≡ x.creates + (if is_create_entry (entry d t a r) then 1 else 0) → y.journal ≡ x.journal →
    IsBeside s x y (entry d t a r) (call_records (past_in x)) → StandsFor s (kept_with x y (entry d t a r)) →
    IsEntered s (state_of x) (state_of (with_put y (entry d t a r))) (entry d t a r)
entered_beside_calls s x y d t a r h q o c j b k = entered s x y d t a r (call_records (past_in x)) (waiting_calls (past_in x)) h q o c j b k

-- nothing was done to the tables of calls
pub left : (x : Tables) → LeavesCalls x x
left x = record { calls = refl; places = refl; objects = refl; extents = refl }

-- ---- entries that end nothing and make no domain

-- the run goes on after the entry, with the same domains
pub record LeavesRun (e : Entry) : Type 0 where
  pub going : is_ending e.act ≡ false
  pub create : is_create_entry e ≡ false
  pub birth : is_birth e ≡ false
  pub ended : ended_by e ≡ None

-- the entry was made, and it makes no domain
abbrev pub IsMadeOf : System → Tables → Tables → Entry → Type 0
IsMadeOf s x y e = IsEntered s (state_of x) (state_of (with_put y e)) e × (is_birth e ≡ false)

-- the step that replies
pub replied : (s : System) (x y z : Tables) (d : ℕ) (t : ThreadId) (a : Act) (r : Reply) (answer : Step) → IsMadeOf s x z (entry d t.0 a r) → y ≡ with_put z (entry d t.0 a r) → answer ≡ step.Replied t r →
    IsStepped s (state_of x) (state_of y) d a answer
replied s x y z d t a r answer m q p =
    subst (λ (w : Step). IsStepped s (state_of x) (state_of y) d a w) (sym p)
    (subst (λ (v : Tables). IsEntered s (state_of x) (state_of v) (entry d t.0 a r) × (is_birth (entry d t.0 a r) ≡ false)) (sym q) m)

-- the entry of such an act was made
pub run_entered : (s : System) (x y : Tables) (d t : ℕ) (a : Act) (r : Reply) (calls : List CallRecord) (waiting : List ℕ) → IsPermittedIn s x d t a → LeavesRun (entry d t a r) → r ≡ reply_to s (past_in x) d a →
    y.over ≡ x.over → y.creates ≡ x.creates → y.journal ≡ x.journal →
    IsBeside s x y (entry d t a r) calls → StandsFor s (record (kept_with x y (entry d t a r)) { calls = calls; waiting = waiting }) → IsMadeOf s x y (entry d t a r)
run_entered s x y d t a r calls waiting h l q o c j b k =
    let e : Entry = entry d t a r in
    (entered s x y d t a r calls waiting h q (o ∙ ap (λ (b : Bool). b || x.over) (sym l.going)) (c ∙ count (is_create_entry e) l.create) j b k, l.birth)
  where
    count : (b : Bool) → b ≡ false → x.creates ≡ x.creates + (if b then 1 else 0)
    count false q = omega arith
    count true q = cc

-- ---- acts that change no table

plain_put : (s : System) (x : Tables) (d t : ℕ) (a : Act) → IsPermittedIn s x d t a → IsPlain a → IsEntered s (state_of x) (state_of (with_put x (done_entry d t a))) (done_entry d t a) × (is_birth (done_entry d t a) ≡ false)
unfolding reply_to is_ending is_create_entry is_create is_birth makes_domain is_choice ended_by ended_by_act
plain_put s x d t (act.Print text) h p =
    let e : Entry = done_entry d t (act.Print text) in
    let next : IsNext s (past_in x) e = record { thread = h.thread; well_made = h.may_come.well_made; reply = refl } in
    let stands : StandsFor s (with_entry (kept_in x) e) = stands_after_reading s (kept_in x) d t (act.Print text) reply.Done h.tables.stands next refl refl refl in
    (entered_beside_calls s x x d t (act.Print text) reply.Done h refl refl (omega arith) refl (same_beside s x x e h.tables refl refl refl refl refl (left x)) stands, refl)
plain_put s x d t _ h p = absurd p

-- a print
pub plain_entered : (s : System) (x y : Tables) (d t : ℕ) (a : Act) → IsPermittedIn s x d t a → IsPlain a → y ≡ with_put x (done_entry d t a) →
    IsEntered s (state_of x) (state_of y) (done_entry d t a) × (is_birth (done_entry d t a) ≡ false)
plain_entered s x y d t a h p q =
    subst (λ (z : Tables). IsEntered s (state_of x) (state_of z) (done_entry d t a) × (is_birth (done_entry d t a) ≡ false)) (sym q) (plain_put s x d t a h p)

-- ---- ends of the run

ending_put : (s : System) (x : Tables) (a : Act) → IsPermittedIn s x 0 0 a → is_ending a ≡ true →
    IsEntered s (state_of x) (state_of (with_put (record x { over = true }) (done_entry 0 0 a))) (done_entry 0 0 a) × (is_birth (done_entry 0 0 a) ≡ false)
unfolding reply_to is_ending is_create_entry is_create is_birth makes_domain is_choice ended_by ended_by_act
ending_put s x act.Quiet h p =
    let e : Entry = done_entry 0 0 act.Quiet in
    let next : IsNext s (past_in x) e = record { thread = h.thread; well_made = h.may_come.well_made; reply = refl } in
    let stands : StandsFor s (with_entry (kept_in x) e) = stands_after_reading s (kept_in x) 0 0 act.Quiet reply.Done h.tables.stands next refl refl refl in
    (entered_beside_calls s x (record x { over = true }) 0 0 act.Quiet reply.Done h refl refl (omega arith) refl (same_beside s x (record x { over = true }) e h.tables refl refl refl refl refl (record { calls = refl; places = refl; objects = refl; extents = refl })) stands, refl)
ending_put s x act.Halt h p =
    let e : Entry = done_entry 0 0 act.Halt in
    let next : IsNext s (past_in x) e = record { thread = h.thread; well_made = h.may_come.well_made; reply = refl } in
    let stands : StandsFor s (with_entry (kept_in x) e) = stands_after_reading s (kept_in x) 0 0 act.Halt reply.Done h.tables.stands next refl refl refl in
    (entered_beside_calls s x (record x { over = true }) 0 0 act.Halt reply.Done h refl refl (omega arith) refl (same_beside s x (record x { over = true }) e h.tables refl refl refl refl refl (record { calls = refl; places = refl; objects = refl; extents = refl })) stands, refl)
ending_put s x _ h p = cc

-- a quiet or a halt
pub ending_entered : (s : System) (x y : Tables) (a : Act) → IsPermittedIn s x 0 0 a → is_ending a ≡ true → y ≡ with_put (record x { over = true }) (done_entry 0 0 a) →
    IsEntered s (state_of x) (state_of y) (done_entry 0 0 a) × (is_birth (done_entry 0 0 a) ≡ false)
ending_entered s x y a h p q =
    subst (λ (z : Tables). IsEntered s (state_of x) (state_of z) (done_entry 0 0 a) × (is_birth (done_entry 0 0 a) ≡ false)) (sym q) (ending_put s x a h p)
