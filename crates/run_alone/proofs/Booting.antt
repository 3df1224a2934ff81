-- The templates of the start are the plan's.
use Rattle.std.proofs.Common.{◌≡◌, refl, ℕ, suc, zero, ◌+◌, ◌<◌, Bool, true, false, cond, ◌∷◌, length, Option, Some, None, arith, slice_get, filter}
use Rattle.std.specs.Prelude.{IsSome}
use Rattle.std.specs.List.{range_with_len}
use Rattle.jx_base.specs.declared.program.System.{System}
use Rattle.jx_base.specs.declared.program.Template.{Template}
use Rattle.jx_base.specs.Histories.{Past}
use Rattle.program_model.specs.Lookup.{template_at}
use Rattle.jx_model.specs.Permits.{boot_templates, creates_made, is_boot_template, next_boot}
use Rattle.run_alone.proofs.Actors.{there}

-- what a filter of a range has lies in the range
filtered_within : (p : ℕ → Bool) (a n k t : ℕ) → slice_get (filter p (range_with_len a n)) k ≡ Some t → t < a + n
filtered_within p a zero k t h = cc
filtered_within p a (suc n) k t h = by (p a) k h (λ k h. filtered_within p (a + 1) n k t h)
  where
    by : (b : Bool) (k : ℕ) → slice_get (cond b (a ∷ filter p (range_with_len (a + 1) n)) (filter p (range_with_len (a + 1) n))) k ≡ Some t →
        ((k : ℕ) → slice_get (filter p (range_with_len (a + 1) n)) k ≡ Some t → t < a + 1 + n) → t < a + suc n
    by false k h later = omega (arith, later k h)
    by true zero h later = let q : a ≡ t = cc in omega (arith, q)
    by true (suc k) h later = omega (arith, later k h)

-- the template that comes next is one of the plan
pub boot_there : (s : System) (past : Past) (t : ℕ) → next_boot s past ≡ Some t → IsSome (template_at s t)
unfolding next_boot boot_templates template_at
boot_there s past t h =
    let x = there s.plan.templates t (omega (arith, filtered_within (is_boot_template s) 0 (length s.plan.templates) (creates_made past) t h)) in
    some (slice_get s.plan.templates t) x.0 x.1
  where
    some : (o : Option Template) (x : Template) → o ≡ Some x → IsSome o
    some None x h = cc
    some (Some y) x h = refl
