-- Parts of lines of one kind, one behind the other.
use Rattle.std.proofs.Common.{◌≡◌, refl, sym, subst, ℕ, suc, List, [], ◌∷◌, ◌++◌, Bool, true, false, length, append_assoc}
use Rattle.std.specs.Prelude.{flat_map, filter, if◌then◌else◌}
use Rattle.std.specs.List.{AllByRecursion}
use Rattle.class_grammar.specs.Parts.{Part, repeated}
use Rattle.asm_lines.specs.declared.line.Line.{Line}
use Rattle.asm_bodies.specs.Lines.{count_of}

-- the lines that pass the test are spelled each by its bytes, and the others have none
module _ {A F : Type 0} (p : Part (List A) F) (test : Line → Bool) (bytes : Line → List ℕ) (P : Line → Type 0)
    (each : (l : Line) → P l → test l ≡ true → (rest : List ℕ) → (x : List A) × p.spells (bytes l ++ rest) x rest)
    (other : (l : Line) → test l ≡ false → bytes l ≡ []) where
  pub lines_spelled : (lines : List Line) (rest : List ℕ) → AllByRecursion P lines
      → (xs : List A) × (repeated (count_of test lines) p).spells (flat_map bytes lines ++ rest) xs rest
  unfolding repeated count_of
  lines_spelled [] rest h = ([], (refl, refl))
  lines_spelled (l ∷ lines) rest h =
      let r = lines_spelled lines rest h.1 in
      let behind : List ℕ = flat_map bytes lines ++ rest in
      elim (test l) as (λ b. test l ≡ b → (xs : List A) × (repeated (length (if b then l ∷ filter test lines else filter test lines)) p).spells ((bytes l ++ flat_map bytes lines) ++ rest) xs rest) [
        | true ↦ λ e.
            let x = each l h.0 e behind in (
              x.0 ++ r.0,
              subst (λ (text : List ℕ). (repeated (suc (length (filter test lines))) p).spells text (x.0 ++ r.0) rest) (sym (append_assoc (bytes l) (flat_map bytes lines) rest))
                  (x.0, r.0, behind, x.1, r.1, refl),
            )
        | false ↦ λ e.
            (r.0, subst (λ (front : List ℕ). (repeated (length (filter test lines)) p).spells ((front ++ flat_map bytes lines) ++ rest) r.0 rest) (sym (other l e)) r.1)
      ] refl
