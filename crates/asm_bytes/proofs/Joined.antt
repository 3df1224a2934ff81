-- The parts of an attribute and of a file, one behind the other.
use Rattle.std.proofs.Common.{◌≡◌, ◌∙◌, ℕ, ap, List, [], ◌++◌, length}
use Rattle.std.specs.Prelude.{flat_map}
use Rattle.asm_constants.specs.declared.content.Content.{Content}
use Rattle.asm_constants.specs.Pools.{two_bytes}
use Rattle.asm_lines.specs.declared.line.Line.{Line}
use Rattle.asm_bodies.specs.Bodies.{Mark, marks_of}
use Rattle.asm_bodies.specs.Lines.{count_of, is_implements, is_field, is_member, is_catch}
use Rattle.asm_bytes.specs.Files.{four_bytes, code_from, catch_bytes, code_attribute, version_bytes, constants_bytes, heading_bytes, interface_bytes, field_bytes, methods_bytes, file_with}
use Rattle.asm_bytes.proofs.Alike.{Alike, same_code, same_catches}

-- behind bytes that are known
on : (before now known more : List ℕ) → now ≡ before ++ more → before ≡ known → now ≡ known ++ more
on before now known more e h = e ∙ ap (λ (front : List ℕ). front ++ more) h

-- behind bytes that are known, two parts at once
on_two : (before now known more last : List ℕ) → now ≡ (before ++ more) ++ last → before ≡ known → now ≡ (known ++ more) ++ last
on_two before now known more last e h = e ∙ ap (λ (front : List ℕ). (front ++ more) ++ last) h

whole : ℕ → ℕ → ℕ → List ℕ → List ℕ → List ℕ
whole max_stack max_locals count code catches =
    two_bytes max_stack ++ two_bytes max_locals ++ four_bytes (length code) ++ code ++ two_bytes count ++ catches ++ two_bytes 0

pub attribute_joined : (pool : List Content) (marks : List Mark) (body : List Line) (max_stack max_locals : ℕ) (code none one two three four all : List ℕ)
    → Alike marks (marks_of body) → code ≡ code_from pool marks 0 body
    → none ≡ [] → one ≡ none ++ two_bytes max_stack → two ≡ one ++ two_bytes max_locals → three ≡ (two ++ four_bytes (length code)) ++ code
    → four ≡ (three ++ two_bytes (count_of is_catch body)) ++ flat_map (catch_bytes pool marks) body → all ≡ four ++ two_bytes 0
    → all ≡ code_attribute pool max_stack max_locals body
unfolding code_attribute whole
attribute_joined pool marks body max_stack max_locals code none one two three four all alike is e a b c d f =
    let n : ℕ = count_of is_catch body in
    let caught : List ℕ = flat_map (catch_bytes pool marks) body in
    let coded : code ≡ code_from pool (marks_of body) 0 body = is ∙ same_code pool marks (marks_of body) 0 body alike in
    let joined : all ≡ whole max_stack max_locals n code caught =
    on four all _ (two_bytes 0) f (on_two three four _ (two_bytes n) caught d (on_two two three _ (four_bytes (length code)) code c
    (on one two _ (two_bytes max_locals) b (on none one [] (two_bytes max_stack) a e)))) in
    joined ∙ (ap (λ (code : List ℕ). whole max_stack max_locals n code caught) coded
    ∙ ap (whole max_stack max_locals n (code_from pool (marks_of body) 0 body)) (same_catches pool marks (marks_of body) body alike))

pub file_joined : (pool : List Content) (lines : List Line) (none one two three four five six all : List ℕ)
    → none ≡ [] → one ≡ none ++ version_bytes → two ≡ one ++ constants_bytes pool → three ≡ two ++ flat_map (heading_bytes pool) lines
    → four ≡ (three ++ two_bytes (count_of is_implements lines)) ++ flat_map (interface_bytes pool) lines
    → five ≡ (four ++ two_bytes (count_of is_field lines)) ++ flat_map (field_bytes pool) lines
    → six ≡ (five ++ two_bytes (count_of is_member lines)) ++ methods_bytes pool lines → all ≡ six ++ two_bytes 0 → all ≡ file_with pool lines
unfolding file_with
file_joined pool lines none one two three four five six all e f g h i j k l =
    on six all _ (two_bytes 0) l
    (on_two five six _ (two_bytes (count_of is_member lines)) (methods_bytes pool lines) k
    (on_two four five _ (two_bytes (count_of is_field lines)) (flat_map (field_bytes pool) lines) j
    (on_two three four _ (two_bytes (count_of is_implements lines)) (flat_map (interface_bytes pool) lines) i
    (on two three _ (flat_map (heading_bytes pool) lines) h (on one two _ (constants_bytes pool) g (on none one [] version_bytes f e))))))
