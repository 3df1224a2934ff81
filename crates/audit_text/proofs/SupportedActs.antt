-- Entries whose acts have code: they make domains by creates alone, and no extents.
use Rattle.std.proofs.Common.{◌≡◌, refl, ◌∙◌, ℕ, zero, suc, ◌<◌, false, List, [], ◌∷◌, ◌++◌, length, get_or, Option, Some, is_some, reverse, arith}
use Rattle.std.specs.List.{AllByRecursion}
use Rattle.jx_base.specs.declared.act.Act.{Act}
use Rattle.jx_base.specs.declared.act.Act.TheVariants as act
use Rattle.jx_base.specs.declared.act.Reply.{Reply}
use Rattle.jx_base.specs.declared.act.Reply.TheVariants as reply
use Rattle.jx_base.specs.declared.act.Entry.{Entry}
use Rattle.jx_base.specs.declared.program.System.{System}
use Rattle.jx_base.specs.Histories.{Past}
use Rattle.jx_model.specs.Domains.{is_birth, makes_domain, named_template}
use Rattle.jx_model.specs.MemoryObjects.{is_allocation, makes_extent, extents_made}
use Rattle.supported_acts.specs.SupportedActs.{AreSupported, IsSupported, is_supported}
use Rattle.jx_base.proofs.NthEntries.{count_same}
use Rattle.audit_text.specs.Rendering.{created_template}
use Rattle.audit_text.proofs.EntryOrder.{reverse-cons}

-- ---- what all have, in any order

all_append : {X : Type 0} (P : X → Type 0) (xs ys : List X) → AllByRecursion P xs → AllByRecursion P ys → AllByRecursion P (xs ++ ys)
all_append P [] ys p q = q
all_append P (x ∷ xs) ys p q = (p.0, all_append P xs ys p.1 q)

pub all_reverse : {X : Type 0} (P : X → Type 0) (xs : List X) → AllByRecursion P xs → AllByRecursion P (reverse xs)
all_reverse P [] p = p
all_reverse P (x ∷ xs) p = rw (reverse-cons x xs) (all_append P (reverse xs) (x ∷ []) (all_reverse P xs p.1) (p.0, tt))

-- each entry of a list has what all have
pub entry_supported : (entries : List Entry) (place : ℕ) (x : Entry) → AreSupported entries → x ≡ get_or entries place x → place < length entries → IsSupported x.act
entry_supported [] place x all is lt = absurd (omega arith)
entry_supported (e ∷ entries) zero x all is lt = let same : x ≡ e = is in rw same all.0
entry_supported (e ∷ entries) (suc place) x all is lt = entry_supported entries place x all.1 is (omega arith)

-- ---- extents

no_extent : (a : Act) (r : Reply) → IsSupported a → makes_extent a r ≡ false
unfolding is_supported makes_extent
no_extent (act.Alloc n) r h = cc
no_extent _ r h = refl

is_allocation-false : (e : Entry) → IsSupported e.act → is_allocation e ≡ false
unfolding is_allocation
is_allocation-false e h = no_extent e.act e.reply h

pub no_extents : (past : Past) → AreSupported past → extents_made past ≡ 0
unfolding Rattle.jx_base.specs.Histories.count_where
no_extents [] h = refl
no_extents (e ∷ past) h = count_same is_allocation e past (is_allocation-false e h.0) ∙ no_extents past h.1

-- ---- births

create_births : (t : ℕ) (r : Reply) → makes_domain (act.Create t) r ≡ is_some (created_template (act.Create t) r)
unfolding makes_domain created_template
create_births t (reply.Domain d g) = refl
create_births t _ = refl

births : (a : Act) (r : Reply) → IsSupported a → makes_domain a r ≡ is_some (created_template a r)
unfolding is_supported makes_domain created_template
births (act.Create t) r h = create_births t r
births (act.Spawn name) r h = cc
births _ r h = refl

-- the template of the domain that an entry creates
unfoldable pub created : Entry → Option ℕ
created e = created_template e.act e.reply

-- it is what its act and its reply say
pub created-is : (e : Entry) → created e ≡ created_template e.act e.reply
unfolding created
created-is e = refl

-- an act with code makes a domain by a create
pub birth_created : (e : Entry) → IsSupported e.act → is_birth e ≡ is_some (created e)
unfolding is_birth created
birth_created e h = births e.act e.reply h

template_of_created : (s : System) (a : Act) (r : Reply) (t : ℕ) → created_template a r ≡ Some t → named_template s a ≡ Some t
unfolding created_template named_template
template_of_created s (act.Create k) (reply.Domain d g) t h = h
template_of_created s _ _ t h = absurd (cc)

pub named_template-created : (s : System) (e : Entry) (t : ℕ) → created e ≡ Some t → named_template s e.act ≡ Some t
unfolding created
named_template-created s e t h = template_of_created s e.act e.reply t h
