-- Domains: which were made, by whom and of what template, and why one ended.
use Rattle.std.specs.Prelude.{ℕ, Bool, true, false, ◌&&◌, List, [], ◌∷◌, Option, Some, None, is_none, ◌==◌, nat_lt, nat_le, if◌then◌else◌, IsTrue}
use Rattle.std.specs.List.{position}
use Rattle.std.specs.Str.{bytes_eq}
use Rattle.jx_base.specs.declared.act.Act.{Act}
use Rattle.jx_base.specs.declared.act.Act.TheVariants as act
use Rattle.jx_base.specs.declared.act.Reply.{Reply}
use Rattle.jx_base.specs.declared.act.Reply.TheVariants as reply
use Rattle.jx_base.specs.declared.act.Reason.{Reason}
use Rattle.jx_base.specs.declared.act.Reason.TheVariants as reason
use Rattle.jx_base.specs.declared.act.Entry.{Entry}
use Rattle.jx_base.specs.declared.program.System.{System}
use Rattle.jx_base.specs.Basics.{not_below_zero}
use Rattle.jx_base.specs.Histories.{Past, is_done, nth_entry, count_where}
use Rattle.std.specs.Option.{option_and_then, option_map}

-- ---- which domains were made

-- whether a create or spawn was answered with a domain
unfoldable pub makes_domain : Act → Reply → Bool
makes_domain (act.Create t) (reply.Domain d g) = true
makes_domain (act.Spawn name) (reply.Domain d g) = true
makes_domain _ _ = false

-- whether the entry made a domain
unfoldable pub is_birth : Entry → Bool
is_birth e = makes_domain e.act e.reply

-- how many domains were made
abbrev pub domains_made : Past → ℕ
domains_made past = count_where is_birth past

-- whether domain d was made
unfoldable pub is_made : Past → ℕ → Bool
is_made past d = nat_lt 0 d && nat_le d (domains_made past)

-- the entry that made domain d
unfoldable pub birth_of : Past → ℕ → Option Entry
birth_of past d = nth_entry is_birth past d

-- the template of that name
unfoldable pub template_named : System → List ℕ → Option ℕ
template_named s name = position (λ t. bytes_eq t.name name) s.plan.templates

-- the template that a create or spawn names
unfoldable pub named_template : System → Act → Option ℕ
named_template s (act.Create t) = Some t
named_template s (act.Spawn name) = template_named s name
named_template s _ = None

-- the template of domain d
unfoldable pub template_of : System → Past → ℕ → Option ℕ
template_of s past d = option_and_then (λ e. named_template s e.act) (birth_of past d)

-- the domain that made d
unfoldable pub creator_of : Past → ℕ → Option ℕ
creator_of past d = option_map (λ e. e.domain.0) (birth_of past d)

-- the granule in a reply of a domain or an allocation
unfoldable pub reply_granule : Reply → ℕ
reply_granule (reply.Domain d g) = g
reply_granule (reply.Made m g) = g
reply_granule _ = 0

-- the first granule of the heap of d
unfoldable pub heap_place_of : Past → ℕ → Option ℕ
heap_place_of past d = option_map (λ e. reply_granule e.reply) (birth_of past d)

-- ---- which of them live

-- the domain that an act of d ends, and why
unfoldable pub ended_by_act : ℕ → Act → Reply → Option (ℕ × Reason)
ended_by_act d (act.Exit code) r = Some (d, reason.Exit code)
ended_by_act d (act.End why) r = Some (d, why)
ended_by_act d (act.Kill k) r = if is_done r then Some (not_below_zero k, reason.Killed) else None
ended_by_act d _ r = None

-- the domain that an entry ends, and why
unfoldable pub ended_by : Entry → Option (ℕ × Reason)
ended_by e = ended_by_act e.domain.0 e.act e.reply

-- the reason, where it is domain d that ends
unfoldable pub reason_for : Option (ℕ × Reason) → ℕ → Option Reason
reason_for None d = None
reason_for (Some x) d = if x.0 == d then Some x.1 else None

-- why domain d ended
unfoldable pub end_reason : Past → ℕ → Option Reason
end_reason [] d = None
end_reason (e ∷ past) d = elim (reason_for (ended_by e) d) [ Some r ↦ Some r | None ↦ end_reason past d ]

-- whether d was made and hasn't ended
unfoldable pub is_live : Past → ℕ → Bool
is_live past d = is_made past d && is_none (end_reason past d)

-- d was made and hasn't ended
abbrev pub IsLive : Past → ℕ → Type 0
IsLive past d = IsTrue (is_live past d)

-- what a computed case opens
unfoldable pub opened_domains : Unit {0}
unfolding makes_domain is_birth is_made birth_of template_named named_template template_of creator_of reply_granule heap_place_of ended_by_act ended_by reason_for end_reason is_live
opened_domains = tt
