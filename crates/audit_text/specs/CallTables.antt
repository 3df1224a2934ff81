-- What one pass over a history keeps of its calls, and how a call stands by that.
use Rattle.std.specs.Prelude.{ℕ, ◌≡◌, ◌≤◌, ◌-◌, ◌||◌, Bool, true, List, [], ◌∷◌, Option, Some, None, is_some, if◌then◌else◌, nat_lt, nat_le, length, set, slice_get, get_or, take, drop, codes, decimal}
use Rattle.std.specs.List.{find}
use Rattle.std.specs.Option.{option_map, unwrap_or}
use Rattle.jx_base.specs.declared.act.Act.{Act}
use Rattle.jx_base.specs.declared.act.Act.TheVariants as act
use Rattle.jx_base.specs.declared.act.Entry.{Entry}
use Rattle.jx_base.specs.declared.act.Reply.{Reply}
use Rattle.jx_base.specs.declared.act.Reply.TheVariants as reply
use Rattle.jx_base.specs.Basics.{contains_number, is_number}
use Rattle.jx_base.specs.Histories.{Past}
use Rattle.jx_base.specs.Texts.{line}
use Rattle.jx_model.specs.Domains.{end_reason, ended_by}
use Rattle.jx_model.specs.Portals.{owner_of, services_made}
use Rattle.jx_model.specs.Threads.{served_call}
use Rattle.audit_text.specs.declared.call_tables.CallTables.{CallTables}
use Rattle.audit_text.specs.declared.call_tables.Standing.{Standing}
use Rattle.audit_text.specs.declared.call_tables.Standing.TheVariants.{Answered, Queued, Running}

-- ---- what is kept

-- the number of the call that a thread serves, or 0
unfoldable pub served_number : Past → ℕ → ℕ → ℕ
served_number past d t = unwrap_or (option_map (λ c. c.0) (served_call past d t)) 0

-- the service of the call that an act takes
unfoldable pub taken_service : Act → Reply → Option ℕ
taken_service (act.Take c) (reply.Job s m p) = Some s.0
taken_service _ _ = None

-- the call that an act takes, or 0
unfoldable pub taken_call : Act → ℕ
taken_call (act.Take c) = c.0
taken_call _ = 0

-- the last take of a call of the service
unfoldable pub last_take : Past → ℕ → Option Entry
last_take past k = find (λ e. is_number (taken_service e.act e.reply) k) past

-- the call of the service that was taken last, or 0
unfoldable pub last_taken : Past → ℕ → ℕ
last_taken past k = unwrap_or (option_map (λ e. taken_call e.act) (last_take past k)) 0

-- the thread that took it, or 0
unfoldable pub last_taker : Past → ℕ → ℕ
last_taker past k = unwrap_or (option_map (λ e. e.thread.0) (last_take past k)) 0

-- the owner of the service, or 0
unfoldable pub owner_number : Past → ℕ → ℕ
owner_number past k = unwrap_or (owner_of past k) 0

-- whether the domain has ended
unfoldable pub has_ended : Past → ℕ → Bool
has_ended past d = is_some (end_reason past d)

-- each place up to the last has what f gives of it
abbrev pub HasRows : {A : Type 0} → List A → (ℕ → A) → ℕ → Type 0
HasRows rows f last = (i : ℕ) → i ≤ last → slice_get rows i ≡ Some (f i)

-- the rows have, by domain and thread, the number of the call that the thread serves
abbrev pub HasServed : List (List ℕ) → Past → Type 0
HasServed rows past = (d : ℕ) → d ≤ 64 → (row : List ℕ) × (slice_get rows d ≡ Some row) × (length row ≡ 2049) × HasRows row (served_number past d) 2048

-- the tables are those of the past
pub record HasCallTables (x : CallTables) (past : Past) : Type 0 where
  pub served : HasServed x.served past
  pub taken : HasRows x.taken (last_taken past) 256
  pub taker : HasRows x.taker (last_taker past) 256
  pub made : x.owners.made ≡ services_made past
  pub owners : HasRows x.owners.by_number (owner_number past) 256
  pub ended : HasRows x.ended (has_ended past) 64

-- ---- what an entry changes

-- the call that the acting thread serves after its act, where the act changes that
unfoldable pub served_then : Act → Option ℕ
served_then (act.Take c) = Some c.0
served_then (act.Return c p) = Some 0
served_then (act.Throw c p) = Some 0
served_then _ = None

-- the domain that an entry ends
unfoldable pub ended_domain : Entry → Option ℕ
ended_domain e = option_map (λ x. x.0) (ended_by e)

-- the rows with the call that the thread of the entry serves then
unfoldable pub served_noted : Entry → List (List ℕ) → List (List ℕ)
served_noted e rows = elim (served_then e.act) [ None ↦ rows | Some c ↦ set rows e.domain.0 (set (get_or rows e.domain.0 []) e.thread.0 c) ]

-- the numbers with that one for the service, where there is a service
unfoldable pub numbers_noted : Option ℕ → ℕ → List ℕ → List ℕ
numbers_noted None n numbers = numbers
numbers_noted (Some k) n numbers = set numbers k n

-- the flags with that of the domain that ends
unfoldable pub ended_noted : Option ℕ → List Bool → List Bool
ended_noted None flags = flags
ended_noted (Some d) flags = set flags d true

-- ---- how a call stands

-- the numbers of a row from eight places before a place to eight behind it
unfoldable pub near : List ℕ → ℕ → List ℕ
near row place = take 17 (drop (place - 8) row)

-- how call c of service k stands by the tables
unfoldable pub standing_in : CallTables → ℕ → ℕ → Standing
standing_in x c k =
    let d : ℕ = get_or x.owners.by_number k 0 in
    if nat_le 65 d || get_or x.ended d true then Answered
    else if nat_lt (get_or x.taken k 0) c then Queued
    else if contains_number (near (get_or x.served d []) (get_or x.taker k 0)) c then Running else Answered

-- the line of a call that stands so
unfoldable pub standing_line : Standing → ℕ → List ℕ
standing_line Answered c = []
standing_line Queued c = line (decimal c ∷ codes "queued" ∷ [])
standing_line Running c = line (decimal c ∷ codes "running" ∷ [])

-- the number and the service of the call that an act queues
unfoldable pub queued_call : Act → Reply → Option (ℕ × ℕ)
queued_call (act.Call s m p) (reply.Queued c) = Some (c.0, s.0)
queued_call _ _ = None

-- the line of the call that an entry queues, as it stands by the tables
unfoldable pub entry_call_line : CallTables → Entry → List ℕ
entry_call_line x e = elim (queued_call e.act e.reply) [ None ↦ [] | Some q ↦ standing_line (standing_in x q.0 q.1) q.0 ]
