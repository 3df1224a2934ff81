-- What was told of lines, as the definitions tell it.
use Rattle.std.proofs.Common.{◌≡◌, ◌∙◌, sym, ap, subst, ℕ, List, [], Some, None, Ok, Err, Option, take, reverse}
use Rattle.asm_lines.specs.declared.line.AsmKind.{AsmKind}
use Rattle.asm_lines.specs.declared.line.AsmKind.TheVariants as kind
use Rattle.asm_lines.specs.declared.line.Line.{Line}
use Rattle.asm_constants.specs.declared.pool.Pool.{Pool}
use Rattle.asm_bodies.specs.Bodies.{first_far}
use Rattle.asm_bodies.specs.Needs.{pool_of}
use Rattle.asm_bytes.specs.Files.{file_bytes, file_with}
use Rattle.asm_checks.specs.Faults.{first_fault}
use Rattle.asm_checks.specs.Following.{IsChecked}
use Rattle.asm_checks.specs.declared.survey.Checked.{Checked}
use Rattle.asm_checks.specs.declared.survey.Checked.TheVariants as checked
use Rattle.class_asm.specs.declared.fault.AsmFault.{AsmFault}
use Rattle.class_asm.specs.Assembly.{asm_fault, far_or, bytes_or_far, assembly, assembly_with}

-- the first fault of lines that were found faulty
pub faulty : (lines seen : List Line) (c : Checked) (n : ℕ) (k : AsmKind) → seen ≡ lines → IsChecked seen c → c ≡ checked.Faulty n k → first_fault [] lines ≡ Some (n, k)
faulty lines seen c n k same h e = sym (ap (first_fault []) same) ∙ subst (IsChecked seen) e h

-- lines that were found sound
pub sound : (lines seen : List Line) (c : Checked) (pool : Pool) → seen ≡ lines → IsChecked seen c → c ≡ checked.Sound pool
    → (first_fault [] lines ≡ None) × (pool ≡ pool_of (reverse lines))
sound lines seen c pool same h e =
    let s = subst (IsChecked seen) e h in
    (sym (ap (first_fault []) same) ∙ s.0, s.1 ∙ ap (λ (ls : List Line). pool_of (reverse ls)) same)

pub told : (lines seen : List Line) (n : ℕ) (k : AsmKind) (f : AsmFault) → first_fault [] lines ≡ Some (n, k) → seen ≡ lines
    → f ≡ far_or (first_far (take n seen)) (asm_fault n k) → assembly lines ≡ Err f
unfolding assembly assembly_with
told lines seen n k f found same is =
    ap (assembly_with lines) found
    ∙ ap (λ (g : AsmFault). Err g) (sym (is ∙ ap (λ (ls : List Line). far_or (first_far (take n ls)) (asm_fault n k)) same))

pub too_far : (lines seen : List Line) (o : Option ℕ) (n : ℕ) (f : AsmFault) → first_fault [] lines ≡ None → seen ≡ lines → o ≡ first_far seen → o ≡ Some n
    → f ≡ asm_fault n kind.Label → assembly lines ≡ Err f
unfolding assembly assembly_with bytes_or_far
too_far lines seen o n f none same is some told =
    ap (assembly_with lines) none
    ∙ (ap (λ far. bytes_or_far far (file_bytes lines)) (sym (ap first_far same) ∙ (sym is ∙ some)) ∙ ap (λ (g : AsmFault). Err g) (sym told))

pub assembled : (lines seen : List Line) (o : Option ℕ) (pool : Pool) (bytes : List ℕ) → (first_fault [] lines ≡ None) × (pool ≡ pool_of (reverse lines))
    → seen ≡ lines → o ≡ first_far seen → o ≡ None → bytes ≡ file_with pool lines → assembly lines ≡ Ok bytes
unfolding assembly assembly_with bytes_or_far file_bytes
assembled lines seen o pool bytes s same is none written =
    ap (assembly_with lines) s.0
    ∙ (ap (λ far. bytes_or_far far (file_bytes lines)) (sym (ap first_far same) ∙ (sym is ∙ none))
    ∙ ap (λ (bs : List ℕ). Ok bs) (sym (written ∙ ap (λ p. file_with p lines) s.1)))
