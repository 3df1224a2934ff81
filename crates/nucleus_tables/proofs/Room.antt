-- A permitted act has room in the journal, and is asked while the run goes on.
use Rattle.std.proofs.Common.{◌≡◌, refl, sym, ◌∙◌, ap, ℕ, ◌+◌, ◌≤◌, Bool, true, false, ◌||◌, List, [], ◌∷◌, reverse, Some, None, is_some, arith, if◌then◌else◌, ◌⊎◌, inl, inr, ◌==◌}
use Rattle.std.specs.Prelude.{nat_lt}
use Rattle.std.specs.List.{list_any}
use Rattle.std.proofs.lemmas.Bool.Decides.{nat_tests}
use Rattle.std.proofs.lemmas.List.{reverse-append}
use Rattle.jx_base.specs.declared.act.Act.{Act}
use Rattle.jx_base.specs.declared.act.Act.TheVariants as act
use Rattle.jx_base.specs.declared.act.Entry.{Entry}
use Rattle.jx_base.specs.declared.act.Reply.{Reply}
use Rattle.jx_base.specs.declared.act.Reply.TheVariants as reply
use Rattle.nucleus_tables.specs.Portals.{HasNoParcel}
use Rattle.jx_base.specs.declared.program.System.{System}
use Rattle.jx_base.specs.Histories.{Past}
use Rattle.jx_base.proofs.BasicLaws.{ap2}
use Rattle.jx_model.specs.Journal.{act_words, entry_words, is_full, reply_words, words_of}
use Rattle.jx_model.specs.Permits.{acting_thread, domain_thread, domains_wait, is_ending, is_halt, is_over, next_boot, zero_may, zero_may_now}
use Rattle.jx_model.specs.WellMade.{IsWellMade}
use Rattle.journal.specs.Journals.{HasRoomFor}
use Rattle.journal.specs.Journals as Journals
use Rattle.program_model.specs.Limits.{entry_limit, journal_limit, name_limit, parcel_limit, text_limit}
use Rattle.table_threads.proofs.Records.{any_append}
use Rattle.table_threads.specs.CallChanges.{entry}
use Rattle.nucleus_tables.specs.Inner.{IsPermittedIn, past_in}
use Rattle.nucleus_tables.specs.declared.tables.Tables.{Tables}

-- ---- what a permitted act finds

-- the run goes on, and the journal isn't full or the act is a halt
pub record GoesOn (s : System) (past : Past) (a : Act) : Type 0 where
  pub going : is_over past ≡ false
  pub room : (is_full s past ≡ false) ⊎ (is_halt a ≡ true)

pub goes_on : (s : System) (past : Past) (d t : ℕ) (a : Act) → acting_thread s past d a ≡ Some t → GoesOn s past a
unfolding acting_thread zero_may_now domains_wait
goes_on s past d t a h = by (is_over past) refl (d == 0) (is_full s past) refl (is_halt a) refl h
  where
    by : (o : Bool) → is_over past ≡ o → (z f : Bool) → is_full s past ≡ f → (k : Bool) → is_halt a ≡ k →
        (if o then None else if z then (if (if f then k else zero_may s past a) then Some 0 else None)
        else if f || is_some (next_boot s past) then None else domain_thread past d a) ≡ Some t → GoesOn s past a
    by true p z f q k r h = cc
    by false p z false q k r h = record { going = p; room = inl q }
    by false p true true q true r h = record { going = p; room = inr r }
    by false p true true q false r h = cc
    by false p false true q k r h = cc

-- ---- what an entry costs

-- an act costs 8 words and its text, name or parcel
pub entry_cost : (s : System) (past : Past) (a : Act) → IsWellMade s past a → act_words a ≤ 4096
unfolding act_words text_limit name_limit parcel_limit
entry_cost s past (act.Print text) w = w.short
entry_cost s past (act.Spawn name) w = w.short
entry_cost s past (act.Bind name k) w = omega (arith, w.0.short)
entry_cost s past (act.Lookup name) w = omega (arith, w.short)
entry_cost s past (act.Call k m p) w = w.1.small
entry_cost s past (act.Return c p) w = w.0.small
entry_cost s past (act.Throw c p) w = w.0.small
entry_cost s past _ w = omega arith

-- ---- halts

-- what no entry is none is in another order
any_reversed : {A : Type 0} (p : A → Bool) (xs : List A) → list_any p (reverse xs) ≡ list_any p xs
any_reversed p [] = refl
any_reversed p (x ∷ xs) =
    ap (list_any p) (reverse-append (x ∷ []) xs) ∙ any_append p (reverse xs) (x ∷ []) ∙ ap (λ (b : Bool). b || (p x || false)) (any_reversed p xs) ∙ swapped (list_any p xs) (p x)
  where
    swapped : (a b : Bool) → (a || (b || false)) ≡ (b || a)
    swapped true true = refl
    swapped true false = refl
    swapped false true = refl
    swapped false false = refl

-- what doesn't end the run is no halt
no_halt_act : (d t : ℕ) (a : Act) (r : Reply) → is_ending a ≡ false → Journals.is_halt (entry d t a r) ≡ false
unfolding is_ending Journals.is_halt
no_halt_act d t act.Halt r q = cc
no_halt_act d t _ r q = refl

-- a halt costs 8 words
halt_is : (d t : ℕ) (a : Act) (r : Reply) → is_halt a ≡ true → (Journals.is_halt (entry d t a r) ≡ true) × (act_words a ≡ 0)
unfolding is_halt Journals.is_halt act_words
halt_is d t act.Halt r q = (refl, refl)
halt_is d t _ r q = cc

-- where none ends the run, none is a halt
no_halt : (es : List Entry) → list_any (λ e. is_ending e.act) es ≡ false → list_any Journals.is_halt es ≡ false
no_halt [] h = refl
no_halt (e ∷ es) h = by (is_ending e.act) refl (list_any (λ e. is_ending e.act) es) refl (no_halt es) h
  where
    by : (x : Bool) → is_ending e.act ≡ x → (y : Bool) → list_any (λ e. is_ending e.act) es ≡ y → (list_any (λ e. is_ending e.act) es ≡ false → list_any Journals.is_halt es ≡ false) →
        (x || y) ≡ false → (Journals.is_halt e || list_any Journals.is_halt es) ≡ false
    by false p false q again h = ap2 (λ (a b : Bool). a || b) (no_halt_act e.domain.0 e.thread.0 e.act e.reply p) (again q)
    by true p y q again h = cc
    by false p true q again h = cc

-- ---- room

-- a journal that isn't full has room for an entry of the largest cost
pub room_left : (w l : ℕ) → nat_lt l (w + 4104) ≡ false → w + 4104 ≤ l
room_left w l q = grind (arith, nat_tests)

-- the entry of a permitted act other than a halt has room, where its words and those of its reply are few
pub has_room_beside : (s : System) (x : Tables) (d t : ℕ) (a : Act) (r : Reply) → IsPermittedIn s x d t a → is_halt a ≡ false → act_words a + reply_words r ≤ 4096 → HasRoomFor x.journal (entry d t a r)
unfolding is_full entry_words entry_limit
has_room_beside s x d t a r h n few = by (goes_on s (past_in x) d t a h.thread).room
  where
    by : (is_full s (past_in x) ≡ false) ⊎ (is_halt a ≡ true) → HasRoomFor x.journal (entry d t a r)
    by (inl q) =
        let room = room_left (words_of (past_in x)) (journal_limit s) q in
        inl (record { cost = omega (arith, few); room = omega (arith, room, h.tables.journal) })
    by (inr q) = cc

-- the entry of a permitted act has room, whatever journal it is
pub has_room : (s : System) (x : Tables) (d t : ℕ) (a : Act) (r : Reply) → IsPermittedIn s x d t a → reply_words r ≡ 0 → HasRoomFor x.journal (entry d t a r)
unfolding is_full entry_words entry_limit is_over
has_room s x d t a r h z = by (goes_on s (past_in x) d t a h.thread).room
  where
    few : act_words a ≤ 4096
    few = entry_cost s (past_in x) a h.may_come.well_made

    by : (is_full s (past_in x) ≡ false) ⊎ (is_halt a ≡ true) → HasRoomFor x.journal (entry d t a r)
    by (inl q) =
        let room = room_left (words_of (past_in x)) (journal_limit s) q in
        inl (record { cost = omega (arith, few, z); room = omega (arith, room, h.tables.journal) })
    by (inr q) =
        let none = any_reversed (λ (e : Entry). is_ending e.act) x.journal.entries in
        inr (record {
          halt = (halt_is d t a r q).0;
          cost = omega (arith, (halt_is d t a r q).1, z);
          first = no_halt x.journal.entries (sym none ∙ (goes_on s (past_in x) d t a h.thread).going);
        })

-- a reply without a parcel costs nothing
pub no_parcel : (r : Reply) → HasNoParcel r → reply_words r ≡ 0
unfolding reply_words
no_parcel (reply.Job k m p) h = absurd h
no_parcel (reply.Value p) h = absurd h
no_parcel (reply.Thrown p) h = absurd h
no_parcel _ h = refl
