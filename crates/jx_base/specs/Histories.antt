-- Parts of a history. A past is a list of entries with the newest first: what came before an entry
-- is the rest of the list behind it.
use Rattle.std.specs.Prelude.{ℕ, ◌+◌, Bool, true, false, List, [], ◌∷◌, reverse, Option, Some, None, ◌&&◌, ◌==◌, if◌then◌else◌, filter}
use Rattle.jx_base.specs.declared.act.Reply.{Reply}
use Rattle.jx_base.specs.declared.act.Reply.TheVariants as reply
use Rattle.jx_base.specs.declared.act.Entry.{Entry}
use Rattle.jx_base.specs.declared.act.History.{History}

-- entries, the newest first
abbrev pub Past : Type 0
Past = List Entry

-- all entries of a history, the newest first
unfoldable pub past_of : History → Past
past_of h = reverse h.entries

-- whether the reply is no refusal
unfoldable pub is_done : Reply → Bool
is_done (reply.Refused r) = false
is_done _ = true

-- whether the domain performed the entry
unfoldable pub is_own : ℕ → Entry → Bool
is_own d e = e.domain.0 == d

-- the entries of a domain
unfoldable pub own_entries : Past → ℕ → Past
own_entries past d = filter (is_own d) past

-- how many entries pass
unfoldable pub count_where : (Entry → Bool) → Past → ℕ
count_where p [] = 0
count_where p (e ∷ past) = count_where p past + (if p e then 1 else 0)

-- the n-th entry that passes, counted from 1: the one before which n - 1 pass
unfoldable pub nth_entry : (Entry → Bool) → Past → ℕ → Option Entry
nth_entry p [] n = None
nth_entry p (e ∷ past) n =
    elim (p e && (n == count_where p past + 1)) [ true ↦ Some e | false ↦ nth_entry p past n ]

-- what a computed case opens
unfoldable pub opened_histories : Unit {0}
unfolding past_of is_done is_own own_entries count_where nth_entry
opened_histories = tt
