-- The lines of domains, in the order of their births.
use Rattle.std.proofs.Common.{◌≡◌, refl, sym, ◌∙◌, ap, ℕ, ◌+◌, ◌<◌, true, false, List, [], ◌∷◌, ◌++◌, length, drop, get_or, Option, Some, None, is_some, reverse, append_assoc, append-nil, add-one, drop-cons}
use Rattle.std.specs.List.{AllByRecursion, flat_map}
use Rattle.std.specs.Prelude.{codes, decimal}
use Rattle.std.proofs.lemmas.Grind.{flat_map-append}
use Rattle.jx_base.specs.declared.act.Act.{Act}
use Rattle.jx_base.specs.declared.act.Act.TheVariants as act
use Rattle.jx_base.specs.declared.act.Entry.{Entry}
use Rattle.jx_base.specs.declared.act.Reason.{Reason}
use Rattle.jx_base.specs.declared.act.Reply.{Reply}
use Rattle.jx_base.specs.declared.act.Reply.TheVariants as reply
use Rattle.jx_base.specs.declared.program.System.{System}
use Rattle.jx_base.specs.Basics.{up_to}
use Rattle.jx_base.specs.Histories.{Past}
use Rattle.jx_base.specs.Texts.{after_space, spaced, line}
use Rattle.audit_model.specs.Audit.{template_text}
use Rattle.jx_model.specs.Domains.{domains_made, birth_of, is_birth, makes_domain, named_template, template_of, creator_of, end_reason}
use Rattle.audit_model.specs.AuditText.{domain_line, standing_words}
use Rattle.jx_base.proofs.NthEntries.{count_new, count_same}
use Rattle.audit_text.specs.Rendering.{made_template, domain_text, standing_text, whole_line}
use Rattle.audit_text.proofs.Births.{each_birth, each_birth-new, each_birth-same, same_up_to}
use Rattle.audit_text.proofs.EntryOrder.{turned}
use Rattle.std.specs.Option.{option_and_then, option_map, unwrap_or}

-- what f gives of the number, the template and the creator of each domain that was made, by its birth
unfoldable pub of_birth : {X : Type 0} → (ℕ → ℕ → ℕ → List X) → System → ℕ → Option Entry → List X
of_birth f s d birth = f d (unwrap_or (option_and_then (λ e. named_template s e.act) birth) 0) (unwrap_or (option_map (λ e. e.domain.0) birth) 0)

-- the template of the domain that an entry made
unfoldable pub made : System → Entry → Option ℕ
made s e = made_template s e.act e.reply

-- it is what its act and its reply say
pub made-is : (s : System) (e : Entry) → made s e ≡ made_template s e.act e.reply
unfolding made
made-is s e = refl

-- a domain is made by a create or spawn alone
act_births : (s : System) (a : Act) (r : Reply) → makes_domain a r ≡ is_some (made_template s a r)
unfolding makes_domain made_template
act_births s (act.Create t) (reply.Domain d g) = refl
act_births s (act.Create t) _ = refl
act_births s (act.Spawn name) (reply.Domain d g) = refl
act_births s (act.Spawn name) _ = refl
act_births s _ r = refl

-- an entry makes a domain just where it has a template
pub birth_made : (s : System) (e : Entry) → is_birth e ≡ is_some (made s e)
unfolding is_birth made
birth_made s e = act_births s e.act e.reply

-- the template that the act names
act_template : (s : System) (a : Act) (r : Reply) (t : ℕ) → made_template s a r ≡ Some t → unwrap_or (named_template s a) 0 ≡ t
unfolding made_template named_template
act_template s (act.Create k) (reply.Domain d g) t h = cc
act_template s (act.Spawn name) (reply.Domain d g) t h = cc
act_template s _ _ t h = absurd (cc)

-- by a birth, f is given what the entry says
of_birth-made : {X : Type 0} (f : ℕ → ℕ → ℕ → List X) (s : System) (d t : ℕ) (e : Entry) → made s e ≡ Some t → of_birth f s d (Some e) ≡ f d t e.domain.0
unfolding of_birth made
of_birth-made f s d t e is = rw (act_template s e.act e.reply t is) refl

-- what f gives of a domain that is made after n others, where one is, and what follows after so many
unfoldable pub with_birth : {X : Type 0} → (ℕ → ℕ → ℕ → List X) → ℕ → ℕ → Option ℕ → (ℕ → List X) → List X
with_birth f n creator None rest = rest n
with_birth f n creator (Some t) rest = f (n + 1) t creator ++ rest (n + 1)

module _ {X : Type 0} (template : Entry → Option ℕ) (f : ℕ → ℕ → ℕ → List X) where
  -- what f gives of the domains that these entries make, the oldest entry first, after n domains
  unfoldable pub born : ℕ → List Entry → List X
  born n [] = []
  born n (e ∷ entries) = with_birth f n e.domain.0 (template e) (λ k. born k entries)

-- f gives of a domain's number, template and creator what g gives of its number and birth
abbrev pub Agree : {X : Type 0} → (Entry → Option ℕ) → (ℕ → ℕ → ℕ → List X) → (ℕ → Option Entry → List X) → Type 0
Agree template f g = (d t : ℕ) (e : Entry) → template e ≡ Some t → g d (Some e) ≡ f d t e.domain.0

-- the template is there where the entry, which has that, made a domain
abbrev pub IsOfBirths : (Entry → Type 0) → (Entry → Option ℕ) → Type 0
IsOfBirths P template = (e : Entry) → P e → is_birth e ≡ is_some (template e)

module _ {X : Type 0} (P : Entry → Type 0) (template : Entry → Option ℕ) (births : IsOfBirths P template) (f : ℕ → ℕ → ℕ → List X) (g : ℕ → Option Entry → List X) (agree : Agree template f g) where
  -- one entry more
  born_step : (e : Entry) (entries : List Entry) (past : Past) (o : Option ℕ) → P e → template e ≡ o →
      each_birth g past ++ born template f (domains_made past) (e ∷ entries) ≡ each_birth g (e ∷ past) ++ born template f (domains_made (e ∷ past)) entries
  unfolding born with_birth
  born_step e entries past None h is =
      let none : is_birth e ≡ false = births e h ∙ ap is_some is in
      rw (is, count_same is_birth e past none, each_birth-same g e past none) refl
  born_step e entries past (Some t) h is =
      let one : is_birth e ≡ true = births e h ∙ ap is_some is in
      rw (is, count_new is_birth e past one, each_birth-new g e past one, agree (domains_made past + 1) t e is)
      (sym (append_assoc (each_birth g past) (f (domains_made past + 1) t e.domain.0) (born template f (domains_made past + 1) entries)))

  -- what a past gives, and what the entries after it give
  born_after : (entries : List Entry) (past : Past) → AllByRecursion P entries →
      each_birth g past ++ born template f (domains_made past) entries ≡ each_birth g (reverse entries ++ past)
  unfolding born
  born_after [] past h = append-nil _
  born_after (e ∷ entries) past h =
      born_step e entries past (template e) h.0 refl
      ∙ born_after entries (e ∷ past) h.1
      ∙ ap (each_birth g) (sym (turned e entries past))

  pub born-births : (entries : List Entry) → AllByRecursion P entries → born template f 0 entries ≡ each_birth g (reverse entries)
  unfolding each_birth up_to Rattle.jx_base.specs.Histories.count_where
  born-births entries h = born_after entries [] h ∙ ap (each_birth g) (append-nil (reverse entries))

module _ {X : Type 0} (template : Entry → Option ℕ) (f : ℕ → ℕ → ℕ → List X) where
  -- from an entry on, where it makes a domain, and where it doesn't
  pub born-more : (n place t : ℕ) (entries : List Entry) (x : Entry) → x ≡ get_or entries place x → place < length entries → template x ≡ Some t →
      born template f n (drop place entries) ≡ f (n + 1) t x.domain.0 ++ born template f (n + 1) (drop (place + 1) entries)
  unfolding born with_birth
  born-more n place t entries x is lt birth =
      let split : drop place entries ≡ x ∷ drop (place + 1) entries = rw (add-one, drop-cons entries place x lt, ← is) refl in
      rw (split, birth) refl

  pub born-same : (n place : ℕ) (entries : List Entry) (x : Entry) → x ≡ get_or entries place x → place < length entries → template x ≡ None →
      born template f n (drop place entries) ≡ born template f n (drop (place + 1) entries)
  unfolding born with_birth
  born-same n place entries x is lt none =
      let split : drop place entries ≡ x ∷ drop (place + 1) entries = rw (add-one, drop-cons entries place x lt, ← is) refl in
      rw (split, none) refl

  pub born-end : (n place : ℕ) (entries : List Entry) → drop place entries ≡ [] → born template f n (drop place entries) ≡ []
  unfolding born
  born-end n place entries is = rw is refl

-- ---- lines

-- the line of a domain, as it stands after a past
unfoldable pub line_after : System → Past → ℕ → ℕ → ℕ → List ℕ
line_after s past d t creator = whole_line s d t creator (end_reason past d)

pub line_after-is : (s : System) (past : Past) (d t creator : ℕ) (why : Option Reason) → why ≡ end_reason past d → line_after s past d t creator ≡ whole_line s d t creator why
unfolding line_after
line_after-is s past d t creator why is = ap (whole_line s d t creator) (sym is)

joined_words : (first : List ℕ) (front end : List (List ℕ)) (tail : List ℕ) →
    (first ++ flat_map after_space (front ++ end)) ++ tail ≡ (first ++ flat_map after_space front) ++ (flat_map after_space end ++ tail)
joined_words first front end tail = simp (flat_map-append, append_assoc) refl

domain_line-birth : (s : System) (past : Past) (d : ℕ) → domain_line s past d ≡ of_birth (line_after s past) s d (birth_of past d)
unfolding domain_line of_birth line_after whole_line domain_text standing_text template_of creator_of line spaced
domain_line-birth s past d =
    joined_words (decimal d) (template_text s (unwrap_or (template_of s past d) 0) ∷ codes "by" ∷ decimal (unwrap_or (creator_of past d) 0) ∷ []) (standing_words (end_reason past d)) (codes "\n")

-- nothing is asked of an entry
abbrev Any : Entry → Type 0
Any e = Unit {0}

all_any : (entries : List Entry) → AllByRecursion Any entries
all_any [] = tt
all_any (e ∷ entries) = (tt, all_any entries)

pub domain_lines-born : (s : System) (entries : List Entry) →
    born (made s) (line_after s (reverse entries)) 0 entries ≡ flat_map (domain_line s (reverse entries)) (up_to (domains_made (reverse entries)))
unfolding each_birth
domain_lines-born s entries =
    let past = reverse entries in
    born-births Any (made s) (λ e h. birth_made s e) (line_after s past) (of_birth (line_after s past) s) (of_birth-made (line_after s past) s) entries (all_any entries)
    ∙ sym (same_up_to (domain_line s past) _ (domains_made past) (λ d l u. domain_line-birth s past d))
