-- Methods, line by line.
use Rattle.std.proofs.Common.{◌≡◌, ◌∙◌, ℕ, ◌+◌, ◌≤◌, ◌<◌, sym, ap, List, ◌∷◌, ◌++◌, length, drop, get_or, append_assoc, append-nil}
use Rattle.std.proofs.lemmas.List.{drop_more, drop_all}
use Rattle.asm_constants.specs.declared.content.Content.{Content}
use Rattle.asm_lines.specs.declared.line.Line.{Line}
use Rattle.asm_bytes.specs.Files.{method_bytes, methods_bytes}

-- what was put, and the methods of the lines that are left
abbrev pub Put : List Content → List Line → ℕ → List ℕ → List ℕ → Type 0
Put pool lines i now old = now ++ methods_bytes pool (drop i lines) ≡ old ++ methods_bytes pool lines

pub one_put : (pool : List Content) (lines : List Line) (i : ℕ) (l : Line) (before now old : List ℕ) → i < length lines → l ≡ get_or lines i l
    → now ≡ before ++ method_bytes pool l (drop (i + 1) lines) → Put pool lines i before old → Put pool lines (i + 1) now old
unfolding methods_bytes
one_put pool lines i l before now old lt is e so_far =
    let left : List ℕ = methods_bytes pool (drop (i + 1) lines) in
    let one : List ℕ = method_bytes pool l (drop (i + 1) lines) in
    let rest : methods_bytes pool (drop i lines) ≡ one ++ left =
    ap (methods_bytes pool) (drop_more lines i l lt ∙ ap (λ y. y ∷ drop (i + 1) lines) (sym is)) in
    ap (λ (front : List ℕ). front ++ left) e ∙ (append_assoc before one left ∙ (ap (λ (r : List ℕ). before ++ r) (sym rest) ∙ so_far))

pub all_put : (pool : List Content) (lines : List Line) (i : ℕ) (now old : List ℕ) → length lines ≤ i → Put pool lines i now old → now ≡ old ++ methods_bytes pool lines
unfolding methods_bytes
all_put pool lines i now old le so_far =
    sym (append-nil now) ∙ (ap (λ (r : List Line). now ++ methods_bytes pool r) (sym (drop_all i lines le)) ∙ so_far)
