-- What a history costs in its journal, in words.
use Rattle.std.specs.Prelude.{ℕ, ◌+◌, Bool, [], ◌∷◌, length, nat_lt}
use Rattle.jx_base.specs.Histories.{Past}
use Rattle.jx_base.specs.declared.act.Act.{Act}
use Rattle.jx_base.specs.declared.act.Act.TheVariants as act
use Rattle.jx_base.specs.declared.act.Reply.{Reply}
use Rattle.jx_base.specs.declared.act.Reply.TheVariants as reply
use Rattle.jx_base.specs.declared.act.Entry.{Entry}
use Rattle.jx_base.specs.declared.program.System.{System}
use Rattle.program_model.specs.Limits.{journal_limit, entry_limit}
use Rattle.program_model.specs.ParcelParts.{parcel_words}

-- the words of an act's text or parcel
unfoldable pub act_words : Act → ℕ
act_words (act.Print text) = length text
act_words (act.Bind name s) = length name
act_words (act.Lookup name) = length name
act_words (act.Spawn name) = length name
act_words (act.Call s m p) = parcel_words p
act_words (act.Return c p) = parcel_words p
act_words (act.Throw c p) = parcel_words p
act_words _ = 0

-- the words of a reply's parcel
unfoldable pub reply_words : Reply → ℕ
reply_words (reply.Job s m p) = parcel_words p
reply_words (reply.Value p) = parcel_words p
reply_words (reply.Thrown p) = parcel_words p
reply_words _ = 0

-- what an entry costs: 8 words and its payload
unfoldable pub entry_words : Entry → ℕ
entry_words e = 8 + act_words e.act + reply_words e.reply

-- what all entries cost
unfoldable pub words_of : Past → ℕ
words_of [] = 0
words_of (e ∷ past) = words_of past + entry_words e

-- whether the journal may lack the room for one entry of the largest cost
unfoldable pub is_full : System → Past → Bool
is_full s past = nat_lt (journal_limit s) (words_of past + entry_limit s)

-- what a computed case opens
unfoldable pub opened_journal : Unit {0}
unfolding act_words reply_words entry_words words_of is_full
opened_journal = tt
