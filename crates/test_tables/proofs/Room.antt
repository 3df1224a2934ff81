-- The room for a print, and for the halt behind all.
use Rattle.std.proofs.Common.{◌≡◌, refl, ℕ, ◌+◌, ◌≤◌, false, List, [], ◌∷◌, ◌++◌, length, arith, inl, inr}
use Rattle.std.specs.List.{list_any}
use Rattle.jx_base.specs.declared.act.Act.TheVariants as act
use Rattle.jx_base.specs.declared.act.Entry.{Entry}
use Rattle.jx_base.specs.declared.act.Reply.TheVariants as reply
use Rattle.jx_base.specs.declared.ids.DomainId.{DomainId}
use Rattle.jx_base.specs.declared.ids.ThreadId.{ThreadId}
use Rattle.jx_model.specs.Journal.{act_words, entry_words, reply_words}
use Rattle.journal.proofs.Halts.{any_more}
use Rattle.journal.specs.Journals.{HasRoomFor, JournalState, is_halt, words_in}

-- a print of the text
abbrev pub print_of : DomainId → ThreadId → List ℕ → Entry
print_of d t text = record { domain = d; thread = t; act = act.Print text; reply = reply.Done }

-- the halt
abbrev pub halt_of : DomainId → ThreadId → Entry
halt_of d t = record { domain = d; thread = t; act = act.Halt; reply = reply.Done }

print_cost : (d : DomainId) (t : ThreadId) (text : List ℕ) → entry_words (print_of d t text) ≡ 8 + length text + 0
unfolding entry_words act_words reply_words
print_cost d t text = refl

pub room_for_print : (j : JournalState) (d : DomainId) (t : ThreadId) (text : List ℕ) → j.limit ≡ 8208 → length text ≤ 4096 → words_in j ≤ 4104 → HasRoomFor j (print_of d t text)
room_for_print j d t text limit short few = inl (record {
  cost = omega (arith, print_cost d t text, short);
  room = omega (arith, limit, few);
})

pub room_for_halt : (j : JournalState) (d : DomainId) (t : ThreadId) → list_any is_halt j.entries ≡ false → HasRoomFor j (halt_of d t)
unfolding entry_words act_words reply_words is_halt
room_for_halt j d t none = inr (record { halt = refl; cost = refl; first = none })

pub print_goes_on : (es : List Entry) (d : DomainId) (t : ThreadId) (text : List ℕ) → list_any is_halt es ≡ false → list_any is_halt (es ++ print_of d t text ∷ []) ≡ false
unfolding is_halt
print_goes_on es d t text none = rw (any_more es (print_of d t text), none) refl
