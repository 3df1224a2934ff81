-- How a run ends, and the main class of the domains of a template.
use Rattle.std.proofs.Common.{◌≡◌, refl, sym, ◌∙◌, ap, subst, ℕ, ◌-◌, ◌<◌, List, [], ◌∷◌, ◌++◌, length, reverse, get_or, Option, Some, None, arith, inl, inr}
use Rattle.std.specs.Prelude.{◌⊎◌, IsSome, IsTrue, slice_get}
use Rattle.std.proofs.lemmas.List.{length-append, reverse-append, reverse-reverse}
use Rattle.std.proofs.lemmas.List.Elements.{All-contains}
use Rattle.std.proofs.lemmas.Option.{get_or_from_slice_get, slice_get_read}
use Rattle.audit_model.specs.AuditText.{audit_text}
use Rattle.jx_base.specs.declared.act.Act.{Act}
use Rattle.jx_base.specs.declared.act.Act.TheVariants as act
use Rattle.jx_base.specs.declared.act.Entry.{Entry}
use Rattle.jx_base.specs.declared.act.History.{History}
use Rattle.jx_base.specs.declared.program.System.{System}
use Rattle.jx_base.specs.declared.program.Template.{Template}
use Rattle.jx_base.specs.Histories.{Past, past_of}
use Rattle.jx_model.specs.Domains.{birth_of, is_birth, named_template, template_of}
use Rattle.jx_model.specs.Legal.{HasEnded, IsAdmittedPast, IsNext}
use Rattle.jx_model.specs.Permits.{is_ending}
use Rattle.jx_model.specs.SingleWorker.{IsSingleWorkerHistory, pick}
use Rattle.jx_model.specs.WellMade.{IsWellMade}
use Rattle.supported_acts.specs.SupportedActs.{IsSupported, is_supported}
use Rattle.jx_model.proofs.Growing.{start_admitted}
use Rattle.link_laws.proofs.Lists.{below_length}
use Rattle.machine_laws.proofs.NumericValues.{then_some}
use Rattle.machine_laws.proofs.Replies.{nth_moment}
use Rattle.program_model.specs.Lookup.{template_at}
use Rattle.program_model.specs.Plans.{IsPlanInRange, IsTemplateInRange}
use Rattle.supported_acts.specs.SupportedActs.{AreSupported, HasSupportedActs, LacksCode}
use Rattle.jx_top.specs.Outcomes.{Outcome}
use Rattle.jx_top.specs.Outcomes as outcome
use Rattle.jx_top.specs.Runs.{EndsBy, main_class}
use Rattle.jx_top.specs.Steps.{IsRunText, IsTextOfRun}
use Rattle.jx_top.proofs.Firsts.{holds_between}

-- ---- the last entry

pushed_last : (front : List Entry) (e : Entry) → slice_get (front ++ e ∷ []) (length front) ≡ Some e
pushed_last [] e = refl
pushed_last (x ∷ front) e = pushed_last front e

last_pushed : (front : List Entry) (e : Entry) → slice_get (front ++ e ∷ []) (length (front ++ e ∷ []) - 1) ≡ Some e
last_pushed front e =
    let count : length (front ++ e ∷ []) - 1 ≡ length front = omega (arith, length-append front (e ∷ [])) in
    ap (λ (k : ℕ). slice_get (front ++ e ∷ []) k) count ∙ pushed_last front e

-- the last entry, and that it ends the run
pub record HasLast (h : History) : Type 0 where
  pub last : Entry
  pub is_last : slice_get h.entries (length h.entries - 1) ≡ Some last
  pub ends : IsTrue (is_ending last.act)

last_of : (es : List Entry) (past : Past) → reverse past ≡ es → HasEnded past → HasLast (record { entries = es })
last_of es [] is h = absurd h
last_of es (e ∷ past) is h =
    let split : es ≡ reverse past ++ e ∷ [] = sym is ∙ reverse-append (e ∷ []) past in
    record {
      last = e;
      is_last = ap (λ (x : List Entry). slice_get x (length x - 1)) split ∙ last_pushed (reverse past) e;
      ends = h;
    }

pub ended_last : (h : History) → HasEnded (past_of h) → HasLast h
unfolding past_of
ended_last h ended = last_of h.entries (reverse h.entries) (reverse-reverse h.entries) ended

-- a history that ends the run has an entry
pub never_empty : {A : Type 0} (h : History) → HasEnded (past_of h) → slice_get h.entries (length h.entries - 1) ≡ None → A
never_empty h ended none =
    let x = ended_last h ended in
    let both : Some x.last ≡ None = sym x.is_last ∙ none in
    absurd cc

quiet_of : (a : Act) → IsTrue (is_ending a) → (a ≡ act.Halt → ⊥) → a ≡ act.Quiet
unfolding is_ending
quiet_of act.Quiet h other = refl
quiet_of act.Halt h other = absurd (other refl)
quiet_of _ h other = absurd cc

-- what ends, and not in halt, ends in quiet
pub ends_quiet : (h : History) (last : Entry) → HasEnded (past_of h) → slice_get h.entries (length h.entries - 1) ≡ Some last
    → (last.act ≡ act.Halt → ⊥) → EndsBy h act.Quiet
ends_quiet h last ended is other =
    let x = ended_last h ended in
    let both : Some x.last ≡ Some last = sym x.is_last ∙ is in
    let same : x.last ≡ last = cc in
    let ends = subst (λ (e : Entry). IsTrue (is_ending e.act)) same x.ends in
    record { last = last; is_last = is; act = quiet_of last.act ends other }

quiet_or_halt_act : (a : Act) → IsTrue (is_ending a) → (a ≡ act.Quiet) ⊎ (a ≡ act.Halt)
unfolding is_ending
quiet_or_halt_act act.Quiet h = inl refl
quiet_or_halt_act act.Halt h = inr refl
quiet_or_halt_act _ h = absurd cc

-- its audit is that of a run that ends in quiet or in halt
pub has_text : (s : System) (h : History) → IsSingleWorkerHistory s h → HasSupportedActs h → (o : Outcome) × IsTextOfRun s o (audit_text s h)
has_text s h complete supported =
    let x = ended_last h complete.complete.ended in
    by x (quiet_or_halt_act x.last.act x.ends)
  where
    runs : (x : HasLast h) (a : Act) → x.last.act ≡ a → IsRunText s a (audit_text s h)
    runs x a is = record {
      runs = record {
        history = h;
        complete = complete;
        supported = supported;
        ends = record { last = x.last; is_last = x.is_last; act = is };
      };
      text_is = refl;
    }

    by : (x : HasLast h) → (x.last.act ≡ act.Quiet) ⊎ (x.last.act ≡ act.Halt) → (o : Outcome) × IsTextOfRun s o (audit_text s h)
    by x (inl is) = (outcome.Done, runs x act.Quiet is)
    by x (inr is) = (outcome.Halted, runs x act.Halt is)

-- ---- the template of a domain

act_known : (s : System) (past : Past) (a : Act) (t : ℕ) → IsSupported a → IsWellMade s past a → named_template s a ≡ Some t → IsSome (template_at s t)
unfolding named_template is_supported
act_known s past (act.Create u) t h w is = let same : u ≡ t = cc in subst (λ (n : ℕ). IsSome (template_at s n)) same w
act_known s past (act.Spawn name) t h w is = absurd cc
act_known s past _ t h w is = absurd cc

-- the plan has the template of a domain that was made by acts with code
template_known : (s : System) (past : Past) (d t : ℕ) → IsAdmittedPast s past → AreSupported past → template_of s past d ≡ Some t → IsSome (template_at s t)
unfolding template_of birth_of
template_known s past d t admitted supported is =
    let x = then_some (birth_of past d) (λ e. named_template s e.act) t is in
    let moment = (nth_moment is_birth past d x.0 x.1).0.is in
    let whole = subst (IsAdmittedPast s) moment.1 admitted in
    let all = subst AreSupported moment.1 supported in
    let next : IsNext s _ x.0 = (start_admitted s moment.0 (x.0 ∷ _) whole).0 in
    act_known s _ x.0.act t (holds_between (λ e. IsSupported e.act) moment.0 x.0 _ all) next.well_made x.2

-- ---- the main class

-- the template at that place, and the place of its main class
pub record HasMain (s : System) (t : ℕ) : Type 0 where
  pub template : Template
  pub at : slice_get s.plan.templates t ≡ Some template
  pub below : t < length s.plan.templates
  pub main : template.main < length s.plan.classes

main_below : (classes : ℕ) (x : Template) → IsTemplateInRange classes x → x.main < classes
main_below classes x range = All-contains (λ c. c < classes) x.classes x.main range.class_places range.main

has_main : (s : System) (t : ℕ) → IsPlanInRange s.plan → IsSome (template_at s t) → HasMain s t
unfolding template_at
has_main s t range known = by (slice_get s.plan.templates t) refl known
  where
    by : (o : Option Template) → slice_get s.plan.templates t ≡ o → IsSome o → HasMain s t
    by None is h = absurd cc
    by (Some x) is h =
        let below : t < length s.plan.templates = below_length s.plan.templates t x is in
        record {
          template = x;
          at = is;
          below = below;
          main = main_below (length s.plan.classes) x
              (subst (IsTemplateInRange (length s.plan.classes)) (get_or_from_slice_get s.plan.templates t x x is) (range.templates t x below));
        }

-- the domain that lacks code has a template with a main class
pub lacks_main : (s : System) (t : ℕ) → LacksCode s t → IsPlanInRange s.plan → HasMain s t
lacks_main s t l range = has_main s t range (template_known s l.past (pick s l.past).domain t l.legal.admitted l.supported l.template)

-- the template that stands there names a class of the plan
pub main_there : (s : System) (t : ℕ) (x : Template) → LacksCode s t → IsPlanInRange s.plan
    → (get_or s.plan.templates t x).main < length s.plan.classes
main_there s t x l range =
    let m = lacks_main s t l range in
    main_below (length s.plan.classes) (get_or s.plan.templates t x) (range.templates t x m.below)

-- the name at that place is that of the main class
main_is : (s : System) (t : ℕ) (m : HasMain s t) (name : List ℕ) → slice_get s.plan.classes m.template.main ≡ Some name → main_class s t ≡ Some name
unfolding main_class template_at
main_is s t m name is = rw m.at is

-- so is the name that is read there
pub main_read : (s : System) (t : ℕ) (x : Template) (name : List ℕ) → LacksCode s t → IsPlanInRange s.plan
    → name ≡ get_or s.plan.classes (get_or s.plan.templates t x).main name → main_class s t ≡ Some name
main_read s t x name l range is =
    let m = lacks_main s t l range in
    let same : get_or s.plan.templates t x ≡ m.template = get_or_from_slice_get s.plan.templates t m.template x m.at in
    let there : name ≡ get_or s.plan.classes m.template.main name = is ∙ ap (λ (y : Template). get_or s.plan.classes y.main name) same in
    main_is s t m name (slice_get_read s.plan.classes (length s.plan.classes) m.template.main name refl m.main there)
