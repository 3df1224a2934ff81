-- Reading the instructions one behind the other, as a loop does.
use Rattle.std.proofs.Common.{◌≡◌, ℕ, zero, suc, ◌-◌, ◌≤◌, ◌<◌, List, [], ◌∷◌, ◌++◌, length, Result, Ok, Err, refl, sym, ap, ◌∙◌, append_assoc, arith}
use Rattle.std.proofs.lemmas.List.{append-nil}
use Rattle.class_grammar.specs.Parts.{onward}
use Rattle.class_grammar.specs.CodeGrammar.{in_front, instruction_part, instructions_reading}
use Rattle.jx_base.specs.declared.class_file.Instr.{Instr}
use Rattle.jx_base.specs.declared.fault.CodeFault.{CodeFault}
use Rattle.jx_base.specs.declared.error.Error.{Error}
use Rattle.jx_base.specs.declared.error.Error.TheVariants as error
use Rattle.jx_base.specs.Answers.{Fails}

-- instructions that were read, and those behind them
abbrev pub with_instrs : List Instr → Result (List Instr) CodeFault → Result (List Instr) CodeFault
with_instrs front (Ok instrs) = Ok (front ++ instrs)
with_instrs front (Err f) = Err f

-- of code of that size these instructions were read, and that rest is left
pub record IsLeft (size : ℕ) (front : List Instr) (rest : List ℕ) (total : Result (List Instr) CodeFault) : Type 0 where
  pub within : length rest ≤ size
  pub steps : ℕ
  pub enough : length rest ≤ steps
  pub so_far : with_instrs front (instructions_reading size steps rest) ≡ total

pub all_left : (code : List ℕ) → IsLeft (length code) [] code (instructions_reading (length code) (length code) code)
all_left code = record { within = omega arith; steps = length code; enough = omega arith; so_far = none_read (instructions_reading (length code) (length code) code) } where
  none_read : (reading : Result (List Instr) CodeFault) → with_instrs [] reading ≡ reading
  none_read (Ok instrs) = refl
  none_read (Err f) = refl

regroup : (front : List Instr) (i : Instr) (reading : Result (List Instr) CodeFault) → with_instrs front (in_front i reading) ≡ with_instrs (front ++ i ∷ []) reading
unfolding in_front
regroup front i (Ok instrs) = ap Ok (sym (append_assoc front (i ∷ []) instrs))
regroup front i (Err f) = refl

-- what one step gives
step : (size k : ℕ) (front : List Instr) (b : ℕ) (bytes : List ℕ) (i : Instr) (after : List ℕ) → (instruction_part (size - length (b ∷ bytes))).reads (b ∷ bytes) ≡ Ok (i, after)
    → with_instrs front (instructions_reading size (suc k) (b ∷ bytes)) ≡ with_instrs (front ++ i ∷ []) (instructions_reading size k after)
unfolding instructions_reading
step size k front b bytes i after e =
    ap (λ r. with_instrs front (onward r (λ i rest. in_front i (instructions_reading size k rest)))) e ∙ regroup front i (instructions_reading size k after)

goes_on_at : (size k : ℕ) (front : List Instr) (rest : List ℕ) (i : Instr) (after : List ℕ) (total : Result (List Instr) CodeFault) → length rest ≤ size → length rest ≤ k
    → (instruction_part (size - length rest)).reads rest ≡ Ok (i, after) → length after < length rest
    → with_instrs front (instructions_reading size k rest) ≡ total → IsLeft size (front ++ i ∷ []) after total
goes_on_at size k front [] i after total w le e s so_far = absurd (omega arith)
goes_on_at size zero front (b ∷ bytes) i after total w le e s so_far = absurd (omega arith)
goes_on_at size (suc k) front (b ∷ bytes) i after total w le e s so_far =
    record { within = omega arith; steps = k; enough = omega arith; so_far = sym (step size k front b bytes i after e) ∙ so_far }

pub goes_on : (size : ℕ) (front : List Instr) (rest : List ℕ) (i : Instr) (after : List ℕ) (total : Result (List Instr) CodeFault) → IsLeft size front rest total
    → (instruction_part (size - length rest)).reads rest ≡ Ok (i, after) → length after < length rest → IsLeft size (front ++ i ∷ []) after total
goes_on size front rest i after total left e s = goes_on_at size left.steps front rest i after total left.within left.enough e s left.so_far

fails_at : (f : CodeFault) (size k : ℕ) (front : List Instr) (rest : List ℕ) (total : Result (List Instr) CodeFault) → 0 < length rest → length rest ≤ k
    → (instruction_part (size - length rest)).reads rest ≡ Err f → with_instrs front (instructions_reading size k rest) ≡ total → total ≡ Err f
unfolding instructions_reading
fails_at f size k front [] total some le e so_far = absurd (omega arith)
fails_at f size zero front (b ∷ bytes) total some le e so_far = absurd (omega arith)
fails_at f size (suc k) front (b ∷ bytes) total some le e so_far =
    sym so_far ∙ ap (λ r. with_instrs front (onward r (λ i rest. in_front i (instructions_reading size k rest)))) e

pub fails : (e : Error CodeFault) (size : ℕ) (front : List Instr) (rest : List ℕ) (total : Result (List Instr) CodeFault) → IsLeft size front rest total → 0 < length rest
    → Fails e ((instruction_part (size - length rest)).reads rest) → Fails e total
fails error.OutOfMemory size front rest total left some h = tt
fails (error.Bad f) size front rest total left some h = fails_at f size left.steps front rest total some left.enough h left.so_far

done_at : (size k : ℕ) (front : List Instr) (rest : List ℕ) (total : Result (List Instr) CodeFault) → length rest ≡ 0
    → with_instrs front (instructions_reading size k rest) ≡ total → total ≡ Ok front
unfolding instructions_reading
done_at size zero front [] total none so_far = sym so_far ∙ ap Ok (append-nil front)
done_at size (suc k) front [] total none so_far = sym so_far ∙ ap Ok (append-nil front)
done_at size k front (b ∷ bytes) total none so_far = absurd (omega arith)

pub is_done : (size : ℕ) (front : List Instr) (rest : List ℕ) (total : Result (List Instr) CodeFault) → IsLeft size front rest total → length rest ≡ 0 → total ≡ Ok front
is_done size front rest total left none = done_at size left.steps front rest total none left.so_far
