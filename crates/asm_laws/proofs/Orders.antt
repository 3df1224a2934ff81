-- Where lines without a fault stand: one line of a class in front, and each body up to its end.
use Rattle.std.proofs.Common.{◌≡◌, ◌∙◌, refl, ap, ℕ, ◌⊎◌, inl, inr, List, [], ◌∷◌, ◌++◌, true, false, Some, None, Option}
use Rattle.std.specs.Prelude.{option_map, if◌then◌else◌}
use Rattle.std.specs.List.{AllByRecursion}
use Rattle.asm_lines.specs.declared.line.Line.{Line}
use Rattle.asm_lines.specs.declared.line.Line.TheVariants as line
use Rattle.asm_bodies.specs.Bodies.{open_body, goes_on}
use Rattle.asm_bodies.specs.Lines.{is_class, is_method, is_step, is_catch}
use Rattle.asm_checks.specs.Faults.{last_said, is_skipped, is_inside, may_follow, may_come_next, is_in_place, is_complete, may_end}
use Rattle.asm_laws.proofs.Soundness.{AreSound}

-- ---- the class

no_class_behind : (b : Line) (past : List Line) (l : Line) → last_said past ≡ Some b → is_in_place past l ≡ true → is_class l ≡ false
unfolding is_in_place may_come_next may_follow is_skipped is_class
no_class_behind b past (line.Class flags name super) e h = let k = ap (λ o. may_come_next o (line.Class flags name super)) e in absurd (cc)
no_class_behind b past _ e h = refl

last_again : (b : Line) (past : List Line) (l : Line) → last_said past ≡ Some b → (c : Line) × (last_said (l ∷ past) ≡ Some c)
unfolding last_said
last_again b past l e = elim (is_skipped l) as (λ s. (c : Line) × ((if s then last_said past else Some l) ≡ Some c)) [ true ↦ (b, e) | false ↦ (l, refl) ]

pub no_more_classes : (b : Line) (past lines : List Line) → last_said past ≡ Some b → AreSound past lines → AllByRecursion (λ l. is_class l ≡ false) lines
no_more_classes b past [] e sound = tt
no_more_classes b past (l ∷ lines) e sound =
    let c = last_again b past l e in
    (no_class_behind b past l e sound.0.placed, no_more_classes c.0 (l ∷ past) lines c.1 sound.1)

-- lines up to that of the class, which has those parts, and those behind it, none of which is one
pub record HasClass (lines : List Line) : Type 0 where
  pub before : List Line
  pub after : List Line
  pub flags : ℕ
  pub name : List ℕ
  pub super : List ℕ
  pub joined : lines ≡ before ++ line.Class flags name super ∷ after
  pub none_before : AllByRecursion (λ l. is_class l ≡ false) before
  pub none_after : AllByRecursion (λ l. is_class l ≡ false) after

-- the first line that isn't skipped is the class
starts_class : (past : List Line) (l : Line) → last_said past ≡ None → is_in_place past l ≡ true
    → (is_skipped l ≡ true) ⊎ ((flags : ℕ) × (name super : List ℕ) × (l ≡ line.Class flags name super))
unfolding is_in_place may_come_next is_skipped is_class
starts_class past line.Skipped e h = inl refl
starts_class past (line.Class flags name super) e h = inr (flags, name, super, refl)
starts_class past l e h = let k = ap (λ o. may_come_next o l) e in absurd (cc)

skipped_is_none : (l : Line) → is_skipped l ≡ true → is_class l ≡ false
unfolding is_skipped is_class
skipped_is_none line.Skipped h = refl
skipped_is_none _ h = absurd (cc)

still_none : (past : List Line) (l : Line) → last_said past ≡ None → is_skipped l ≡ true → last_said (l ∷ past) ≡ None
unfolding last_said
still_none past l e s = rw s e

class_last : (past : List Line) (flags : ℕ) (name super : List ℕ) → last_said (line.Class flags name super ∷ past) ≡ Some (line.Class flags name super)
unfolding last_said is_skipped
class_last past flags name super = refl

never_ends : (past : List Line) → last_said past ≡ None → may_end past ≡ true → ⊥
unfolding may_end is_complete
never_ends past e h = let k = ap is_complete e in absurd (cc)

pub one_class : (past lines : List Line) → last_said past ≡ None → AreSound past lines → HasClass lines
one_class past [] e sound = absurd (never_ends past e sound)
one_class past (l ∷ lines) e sound = elim (starts_class past l e sound.0.placed) [
  | inl s ↦
      let r = one_class (l ∷ past) lines (still_none past l e s) sound.1 in
      record {
        before = l ∷ r.before;
        after = r.after;
        flags = r.flags;
        name = r.name;
        super = r.super;
        joined = ap (λ (ls : List Line). l ∷ ls) r.joined;
        none_before = (skipped_is_none l s, r.none_before);
        none_after = r.none_after;
      }
  | inr k ↦
      let class : Line = line.Class k.0 k.1 k.2 in
      record {
        before = [];
        after = lines;
        flags = k.0;
        name = k.1;
        super = k.2;
        joined = ap (λ (c : Line). c ∷ lines) k.3;
        none_before = tt;
        none_after = no_more_classes class (l ∷ past) lines (ap (λ (c : Line). last_said (c ∷ past)) k.3 ∙ class_last past k.0 k.1 k.2) sound.1;
      }
]

-- ---- bodies

mapped : {X Y : Type 0} (o : Option X) (f : X → Y) (y : Y) → option_map f o ≡ Some y → (x : X) × (o ≡ Some x)
mapped None f y e = absurd (cc)
mapped (Some x) f y e = (x, refl)

-- a body is open behind a line that stands in it
pub inside_last : (past body : List Line) → open_body past ≡ Some body → (l : Line) × (last_said past ≡ Some l) × (is_inside l ≡ true)
unfolding open_body last_said is_skipped is_inside is_method is_step is_catch goes_on
inside_last [] body e = absurd (cc)
inside_last (line.Skipped ∷ past) body e = let k = mapped (open_body past) (λ (b : List Line). b ++ line.Skipped ∷ []) body e in inside_last past k.0 k.1
inside_last (line.Method m max_stack max_locals ∷ past) body e = (line.Method m max_stack max_locals, refl, refl)
inside_last (line.Label name ∷ past) body e = (line.Label name, refl, refl)
inside_last (line.Instruction i ∷ past) body e = (line.Instruction i, refl, refl)
inside_last (line.Catch c ∷ past) body e = (line.Catch c, refl, refl)
inside_last (_ ∷ past) body e = absurd (cc)
