-- The parts of a domain's line, and the table of reasons.
use Rattle.std.specs.Prelude.{ℕ, ◌+◌, ◌≡◌, ◌≤◌, List, [], ◌∷◌, ◌++◌, Option, Some, None, codes, decimal, set, slice_get}
use Rattle.std.specs.List.{flat_map}
use Rattle.std.specs.Option.{unwrap_or}
use Rattle.jx_base.specs.declared.act.Act.{Act}
use Rattle.jx_base.specs.declared.act.Act.TheVariants as act
use Rattle.jx_base.specs.declared.act.Reason.{Reason}
use Rattle.jx_base.specs.declared.act.Reply.{Reply}
use Rattle.jx_base.specs.declared.act.Reply.TheVariants as reply
use Rattle.jx_base.specs.declared.program.System.{System}
use Rattle.jx_base.specs.Histories.{Past}
use Rattle.jx_base.specs.Texts.{after_space, spaced}
use Rattle.audit_model.specs.Audit.{template_text}
use Rattle.audit_model.specs.AuditText.{standing_words}
use Rattle.jx_model.specs.Domains.{end_reason, template_named}

-- the template of the domain that a create made
unfoldable pub created_template : Act → Reply → Option ℕ
created_template (act.Create t) (reply.Domain d g) = Some t
created_template _ _ = None

-- the template of the domain that a create or spawn made; the first one, where none has the name
unfoldable pub made_template : System → Act → Reply → Option ℕ
made_template s (act.Create t) (reply.Domain d g) = Some t
made_template s (act.Spawn name) (reply.Domain d g) = Some (unwrap_or (template_named s name) 0)
made_template s _ _ = None

-- the first words of a domain's line: its number, its template and its creator
unfoldable pub domain_text : System → ℕ → ℕ → ℕ → List ℕ
domain_text s d t creator = spaced (decimal d ∷ template_text s t ∷ codes "by" ∷ decimal creator ∷ [])

-- the words of how a domain stands, each behind a space
unfoldable pub standing_text : Option Reason → List ℕ
standing_text why = flat_map after_space (standing_words why)

-- the line of a domain, by its number, its template, its creator and how it stands
unfoldable pub whole_line : System → ℕ → ℕ → ℕ → Option Reason → List ℕ
whole_line s d t creator why = domain_text s d t creator ++ (standing_text why ++ codes "\n")

-- the reasons with that of the domain that ends, at the place of its number, where one does
unfoldable pub noted : Option (ℕ × Reason) → List (Option Reason) → List (Option Reason)
noted None reasons = reasons
noted (Some x) reasons = set reasons x.0 (Some x.1)

-- the reasons are those of the domains after the past, each at the place of its domain's number
abbrev pub HasReasons : List (Option Reason) → Past → Type 0
HasReasons reasons past = (d : ℕ) → d ≤ 64 → slice_get reasons d ≡ Some (end_reason past d)

-- the sum of numbers
unfoldable pub total : List ℕ → ℕ
total [] = 0
total (n ∷ ns) = n + total ns

-- a number, where the domain did not end
unfoldable pub where_live : Option Reason → ℕ → List ℕ
where_live None n = n ∷ []
where_live (Some why) n = []
