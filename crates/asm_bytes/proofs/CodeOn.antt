-- The code of a body, line by line.
use Rattle.std.proofs.Common.{◌≡◌, ◌∙◌, ℕ, ◌+◌, ◌≤◌, ◌<◌, sym, ap, List, [], ◌∷◌, ◌++◌, length, drop, get_or, append_assoc, append-nil}
use Rattle.std.proofs.lemmas.List.{drop_more, drop_all}
use Rattle.asm_constants.specs.declared.content.Content.{Content}
use Rattle.asm_lines.specs.declared.line.Line.{Line}
use Rattle.asm_bodies.specs.Bodies.{Mark}
use Rattle.asm_bodies.specs.Needs.{line_length}
use Rattle.asm_bytes.specs.Files.{line_bytes, code_from}

-- what was put, and the code of the lines that are left
abbrev pub Coded : List Content → List Mark → List Line → ℕ → ℕ → List ℕ → Type 0
Coded pool marks body i pc now = now ++ code_from pool marks pc (drop i body) ≡ code_from pool marks 0 body

pub none_coded : (pool : List Content) (marks : List Mark) (body : List Line) (now : List ℕ) → now ≡ [] → Coded pool marks body 0 0 now
none_coded pool marks body now e = ap (λ (front : List ℕ). front ++ code_from pool marks 0 body) e

pub one_coded : (pool : List Content) (marks : List Mark) (body : List Line) (i pc : ℕ) (l : Line) (before now : List ℕ) → i < length body → l ≡ get_or body i l
    → now ≡ before ++ line_bytes pool marks pc l → Coded pool marks body i pc before → Coded pool marks body (i + 1) (pc + line_length pc l) now
unfolding code_from
one_coded pool marks body i pc l before now lt is e so_far =
    let left : List ℕ = code_from pool marks (pc + line_length pc l) (drop (i + 1) body) in
    let rest : code_from pool marks pc (drop i body) ≡ line_bytes pool marks pc l ++ left =
    ap (code_from pool marks pc) (drop_more body i l lt ∙ ap (λ y. y ∷ drop (i + 1) body) (sym is)) in
    ap (λ (front : List ℕ). front ++ left) e
    ∙ (append_assoc before (line_bytes pool marks pc l) left ∙ (ap (λ (r : List ℕ). before ++ r) (sym rest) ∙ so_far))

pub all_coded : (pool : List Content) (marks : List Mark) (body : List Line) (i pc : ℕ) (now : List ℕ) → length body ≤ i → Coded pool marks body i pc now
    → now ≡ code_from pool marks 0 body
unfolding code_from
all_coded pool marks body i pc now le so_far =
    sym (append-nil now) ∙ (ap (λ (r : List Line). now ++ code_from pool marks pc r) (sym (drop_all i body le)) ∙ so_far)
