-- How what is kept while lines are checked follows the lines so far.
use Rattle.std.specs.Prelude.{◌≡◌, ℕ, ◌||◌, List, [], Option, Some, None, option_map, reverse}
use Rattle.std.specs.HashSet.{contains}
use Rattle.std.specs.Str.{bytes_eq}
use Rattle.asm_lines.specs.declared.line.Line.{Line}
use Rattle.asm_bodies.specs.Needs.{pool_of}
use Rattle.asm_bodies.specs.Bodies.{open_body, body_of, has_label, pc_behind}
use Rattle.asm_bodies.specs.Lines.{count_of, is_implements, is_field, is_member, is_catch}
use Rattle.asm_checks.specs.Faults.{last_said, first_fault}
use Rattle.asm_checks.specs.declared.body.Body.{Body}
use Rattle.asm_checks.specs.declared.survey.Survey.{Survey}
use Rattle.asm_checks.specs.declared.survey.Checked.{Checked}
use Rattle.asm_checks.specs.declared.survey.Checked.TheVariants as checked

-- what is kept of a body is that of its lines so far, before those lines
pub record IsBodyOf (b : Body) (lines after : List Line) : Type 0 where
  pub pc : b.pc ≡ pc_behind 0 lines
  pub catches : b.catches ≡ count_of is_catch lines
  pub seen : (name : List ℕ) → contains bytes_eq b.seen name ≡ has_label name lines
  pub whole : (name : List ℕ) → contains bytes_eq b.whole name ≡ (has_label name lines || has_label name (body_of after))

-- the same, where a body is open
abbrev pub FollowsBody : Option Body → Option (List Line) → List Line → Type 0
FollowsBody None lines after = lines ≡ None
FollowsBody (Some b) lines after = (body : List Line) × (lines ≡ Some body) × IsBodyOf b body after

-- what is kept, but for the constants, follows those lines, the latest one first, before the others
pub record Follows (s : Survey) (past after : List Line) : Type 0 where
  pub last : option_map (λ l. l.now) s.last ≡ last_said past
  pub interfaces : s.interfaces ≡ count_of is_implements past
  pub fields : s.fields ≡ count_of is_field past
  pub members : s.members ≡ count_of is_member past
  pub body : FollowsBody s.body (open_body past) after

-- the lines have no fault where they stand and need those constants, or that is the first fault
abbrev pub IsChecked : List Line → Checked → Type 0
IsChecked lines (checked.Sound pool) = (first_fault [] lines ≡ None) × (pool ≡ pool_of (reverse lines))
IsChecked lines (checked.Faulty before kind) = first_fault [] lines ≡ Some (before, kind)
