-- What a system says of the code of a frame.
use Rattle.std.proofs.Common.{◌≡◌, ℕ, List, [], Option, Some, None, refl, ap, ◌∙◌, subst, All}
use Rattle.std.specs.Prelude.{slice_get}
use Rattle.std.specs.Option.{option_and_then}
use Rattle.std.proofs.lemmas.Option.{get_or_from_slice_get, slice_get_within}
use Rattle.std.proofs.lemmas.List.Elements.{All-get_or}
use Rattle.class_grammar.specs.ClassGrammar.{IsShortCode}
use Rattle.jx_base.specs.declared.class_file.Code.{Code}
use Rattle.jx_base.specs.declared.frame.Frame.{Frame}
use Rattle.jx_base.specs.declared.program.Method.{Method}
use Rattle.jx_base.specs.declared.program.System.{System}
use Rattle.machine_model.specs.State.{code_of, code_bytes, pc_behind}
use Rattle.program_model.specs.Instructions.{Reading, instruction_at}
use Rattle.program_model.specs.Lookup.{method_at}
use Rattle.interp_core.specs.Cores.{HasShortCodes}
use Rattle.interp_core.proofs.BehindParts.{none_at}

pub all_at : {A : Type 0} (P : A → Type 0) (xs : List A) → All P xs → (i : ℕ) (x : A) → slice_get xs i ≡ Some x → P x
all_at P xs h i x e = subst P (get_or_from_slice_get xs i x x e) (All-get_or P xs i x (slice_get_within xs i x e) h)

pub short_code : (s : System) (m : ℕ) (c : Code) → HasShortCodes s → code_of s m ≡ Some c → IsShortCode (Some c)
unfolding code_of method_at
short_code s m c h e = by (slice_get s.program.methods m) refl e
  where
    by : (o : Option Method) → slice_get s.program.methods m ≡ o → option_and_then (λ x. x.code) o ≡ Some c → IsShortCode (Some c)
    by None f g = absurd cc
    by (Some k) f g = subst IsShortCode g (all_at (λ (x : Method). IsShortCode x.code) s.program.methods h m k f)

pub no_code_behind : (s : System) (f : Frame) → code_of s f.method ≡ None → pc_behind s f ≡ f.pc
unfolding pc_behind code_bytes
no_code_behind s f e =
    let none : instruction_at (elim (code_of s f.method) as (λ _. List ℕ) [ None ↦ [] | Some c ↦ c.code ]) f.pc ≡ None = ap (λ (o : Option Code). instruction_at (elim o as (λ _. List ℕ) [ None ↦ [] | Some c ↦ c.code ]) f.pc) e ∙ none_at f.pc in
    ap (λ (o : Option Reading). elim o as (λ _. ℕ) [ None ↦ f.pc | Some r ↦ r.next ]) none
