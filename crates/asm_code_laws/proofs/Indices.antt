-- A constant keeps its index when constants are added.
use Rattle.std.proofs.Common.{◌≡◌, ◌∙◌, refl, ℕ, ◌+◌, List, [], ◌∷◌, ◌++◌, true, false}
use Rattle.std.specs.Prelude.{◌||◌, nat_lt, flat_map, if◌then◌else◌}
use Rattle.std.specs.List.{list_any, list_all}
use Rattle.std.proofs.lemmas.Bool.{and_parts, or_left}
use Rattle.std.proofs.lemmas.List.Folds.{list_any-append}
use Rattle.asm_constants.specs.declared.content.Content.{Content}
use Rattle.asm_constants.specs.Contents.{same_content, needed}
use Rattle.asm_constants.specs.Pools.{has_content, with_new, with_all_new, with_needed, places, index_from, index_of}
use Rattle.asm_lines.specs.declared.line.Line.{Line}
use Rattle.asm_lines.specs.declared.line.Line.TheVariants as line
use Rattle.asm_lines.specs.declared.line.Operand.{Operand}
use Rattle.asm_lines.specs.declared.line.Operand.TheVariants as operand
use Rattle.asm_bodies.specs.Needs.{operand_contents, line_contents, with_all_needed, pool_of}
use Rattle.asm_checks.specs.Faults.{is_index_over, has_index_over}
use Rattle.asm_laws.proofs.Soundness.{neither}
use Rattle.jx_base.specs.Basics.{added, all_added}

-- each constant of a pool is in another one, at the same index
abbrev Keeps : List Content → List Content → Type 0
Keeps pool more = (c : Content) → has_content pool c ≡ true → (has_content more c ≡ true) × (index_of more c ≡ index_of pool c)

kept_itself : (pool : List Content) → Keeps pool pool
kept_itself pool c h = (h, refl)

kept_further : (a b c : List Content) → Keeps a b → Keeps b c → Keeps a c
kept_further a b c h k d e = let x = h d e in let y = k d x.0 in (y.0, y.1 ∙ x.1)

index_kept : (i : ℕ) (pool more : List Content) (c : Content) → has_content pool c ≡ true → index_from i (pool ++ more) c ≡ index_from i pool c
unfolding has_content index_from
index_kept i [] more c h = absurd (cc)
index_kept i (d ∷ pool) more c h =
    elim (same_content c d) as (λ b. (b || list_any (same_content c) pool) ≡ true → (if b then i else index_from (i + places d) (pool ++ more) c) ≡ (if b then i else index_from (i + places d) pool c)) [
      | true ↦ λ k. refl
      | false ↦ λ k. index_kept (i + places d) pool more c k
    ] h

kept_with_more : (pool more : List Content) → Keeps pool (pool ++ more)
unfolding has_content index_of
kept_with_more pool more c h =
    (list_any-append (same_content c) pool more ∙ or_left (list_any (same_content c) pool) (list_any (same_content c) more) h, index_kept 1 pool more c h)

kept_with_new : (pool : List Content) (d : Content) → Keeps pool (with_new pool d)
unfolding added has_content
kept_with_new pool d = elim (has_content pool d) as (λ b. Keeps pool (if b then pool else pool ++ d ∷ [])) [ true ↦ kept_itself pool | false ↦ kept_with_more pool (d ∷ []) ]

kept_with_all_new : (pool contents : List Content) → Keeps pool (with_all_new pool contents)
unfolding all_added
kept_with_all_new pool [] = kept_itself pool
kept_with_all_new pool (d ∷ contents) =
    kept_further pool (with_new pool d) (with_all_new (with_new pool d) contents) (kept_with_new pool d) (kept_with_all_new (with_new pool d) contents)

kept_with_all_needed : (pool contents : List Content) → Keeps pool (with_all_needed pool contents)
unfolding with_all_needed with_needed
kept_with_all_needed pool [] = kept_itself pool
kept_with_all_needed pool (d ∷ contents) =
    kept_further pool (with_all_new pool (needed d)) (with_all_needed (with_all_new pool (needed d)) contents) (kept_with_all_new pool (needed d)) (kept_with_all_needed (with_all_new pool (needed d)) contents)

kept_later : (later past : List Line) → Keeps (pool_of past) (pool_of (later ++ past))
unfolding pool_of
kept_later [] past = kept_itself (pool_of past)
kept_later (l ∷ later) past =
    kept_further (pool_of past) (pool_of (later ++ past)) (with_all_needed (pool_of (later ++ past)) (line_contents l)) (kept_later later past) (kept_with_all_needed (pool_of (later ++ past)) (line_contents l))

operands_later : (pool more : List Content) → Keeps pool more → (operands : List Operand) → list_all (has_content pool) (flat_map operand_contents operands) ≡ true
    → list_any (is_index_over pool) operands ≡ false → list_any (is_index_over more) operands ≡ false
unfolding operand_contents is_index_over
operands_later pool more k [] h e = refl
operands_later pool more k (operand.ByteIndex c ∷ operands) h e =
    let parts = and_parts (has_content pool c) (list_all (has_content pool) (flat_map operand_contents operands)) h in
    let two = neither (nat_lt 255 (index_of pool c)) (list_any (is_index_over pool) operands) e in
    let same : index_of more c ≡ index_of pool c = (k c parts.0).1 in
    rw (same, two.0) (operands_later pool more k operands parts.1 two.1)
operands_later pool more k (operand.Index c ∷ operands) h e =
    let parts = and_parts (has_content pool c) (list_all (has_content pool) (flat_map operand_contents operands)) h in
    operands_later pool more k operands parts.1 e
operands_later pool more k (o ∷ operands) h e = operands_later pool more k operands h e

-- an index that a byte says is so small among all constants
pub index_later : (later past : List Line) (l : Line) → list_all (has_content (pool_of past)) (line_contents l) ≡ true
    → has_index_over (pool_of past) l ≡ false → has_index_over (pool_of (later ++ past)) l ≡ false
unfolding has_index_over line_contents
index_later later past (line.Instruction i) h e = operands_later (pool_of past) (pool_of (later ++ past)) (kept_later later past) i.operands h e
index_later later past _ h e = refl
