-- The code of a method is spelled by its bytes.
use Rattle.std.proofs.Common.{◌≡◌, ◌∙◌, refl, sym, ap, subst, ℕ, ◌+◌, ◌*◌, ◌^◌, ◌<◌, ◌≤◌, ◌-◌, List, [], ◌∷◌, ◌++◌, Bool, true, false, Some, None, Option, length, append_assoc, length-append, arith}
use Rattle.std.specs.Prelude.{◌||◌, ◌==◌, nat_le, flat_map}
use Rattle.std.specs.Int.{w16, w32, from_be_bytes}
use Rattle.std.specs.List.{list_all, AllByRecursion}
use Rattle.std.proofs.lemmas.Bool.{le-leb}
use Rattle.class_grammar.specs.Parts.{bytes_of}
use Rattle.class_grammar.specs.Constants.{names_class}
use Rattle.class_grammar.specs.Members.{catches_class, range_part, table_part, code_part}
use Rattle.jx_base.specs.declared.class_file.Code.{Code}
use Rattle.jx_base.specs.declared.class_file.Range.{Range}
use Rattle.jx_base.specs.declared.fault.ClassFault.{ClassFault}
use Rattle.asm_constants.specs.declared.content.Content.{Content}
use Rattle.asm_constants.specs.declared.content.Content.TheVariants as content
use Rattle.asm_constants.specs.Pools.{two_bytes, index_of, has_content, fits}
use Rattle.asm_lines.specs.declared.line.Line.{Line}
use Rattle.asm_lines.specs.declared.line.Line.TheVariants as line
use Rattle.asm_bodies.specs.Bodies.{Mark, marks_of}
use Rattle.asm_bodies.specs.Lines.{count_of, is_catch}
use Rattle.asm_bodies.specs.Needs.{line_contents, caught_contents}
use Rattle.asm_bytes.specs.Files.{class_index, catch_bytes, code_from, code_attribute, pc_of, four_bytes}
use Rattle.asm_laws.specs.Tables.{table_of}
use Rattle.asm_laws.proofs.Numbers.{number_spelled}
use Rattle.asm_laws.proofs.Constants.{index_small, class_found}
use Rattle.asm_laws.proofs.Members.{number_any, none_skipped, both}
use Rattle.asm_laws.proofs.Repeated.{lines_spelled}

-- the constants that a line needs are in the pool
abbrev pub IsFound : List Content → Line → Type 0
IsFound pool l = list_all (has_content pool) (line_contents l) ≡ true

regrouped : (a b c d : List ℕ) → a ++ b ++ c ++ d ≡ a ++ (b ++ (c ++ d))
regrouped a b c d = append_assoc (a ++ b) c d ∙ append_assoc a b (c ++ d)

or_true : (a b : Bool) → b ≡ true → (a || b) ≡ true
or_true true b e = refl
or_true false b e = e

no_bytes : (pool : List Content) (marks : List Mark) (l : Line) → is_catch l ≡ false → catch_bytes pool marks l ≡ []
unfolding is_catch catch_bytes
no_bytes pool marks (line.Catch c) h = absurd (cc)
no_bytes pool marks _ h = refl

pub catches_length : (pool : List Content) (marks : List Mark) (body : List Line) → length (flat_map (catch_bytes pool marks) body) ≡ 8 * count_of is_catch body
unfolding count_of is_catch catch_bytes
catches_length pool marks [] = refl
catches_length pool marks (line.Catch c ∷ body) = omega (arith, catches_length pool marks body)
catches_length pool marks (_ ∷ body) = catches_length pool marks body

module _ (pool : List Content) (small : fits pool ≡ true) where
  caught : (class : Option (List ℕ)) → list_all (has_content pool) (caught_contents class) ≡ true
      → (class_index pool class < 2 ^ 16) × (catches_class (table_of pool) (class_index pool class) ≡ true)
  unfolding caught_contents class_index catches_class
  caught None h = (omega arith, refl)
  caught (Some class) h =
      let i : ℕ = index_of pool (content.Class class) in
      (index_small pool (content.Class class) small, or_true (i == 0) (names_class (table_of pool) i) (class_found pool class (both (has_content pool (content.Class class)) _ h).0))

  range_spelled : (size : ℕ) (cut : ClassFault) (marks : List Mark) (l : Line) → IsFound pool l → is_catch l ≡ true → (rest : List ℕ)
      → (x : List Range) × (range_part size cut (table_of pool)).spells (catch_bytes pool marks l ++ rest) x rest
  unfolding is_catch catch_bytes range_part line_contents
  range_spelled size cut marks (line.Catch c) found is rest =
      let k = caught c.class found in
      let n : ℕ = class_index pool c.class in
      let class : List ℕ = two_bytes n ++ rest in
      let handler : List ℕ = two_bytes (pc_of marks c.handler) ++ class in
      let end : List ℕ = two_bytes (pc_of marks c.end) ++ handler in
      let read : ℕ → ℕ = λ pc. from_be_bytes w16 (two_bytes pc) in (
        (record { start = read (pc_of marks c.start); end = read (pc_of marks c.end); handler = read (pc_of marks c.handler); catch_type = n } ∷ []),
        (
          read (pc_of marks c.start),
          end,
          number_any cut (pc_of marks c.start) end,
          (
            read (pc_of marks c.end),
            handler,
            number_any cut (pc_of marks c.end) handler,
            (
              read (pc_of marks c.handler),
              class,
              number_any cut (pc_of marks c.handler) class,
              (
                size - length class,
                class,
                (refl, refl),
                (
                  n,
                  rest,
                  number_spelled cut w16 n rest k.0,
                  (tt, rest, (k.1, refl), (refl, refl)),
                ),
              ),
            ),
          ),
        ),
      )
  range_spelled size cut marks _ found is rest = absurd (cc)

  table_spelled : (size : ℕ) (cut : ClassFault) (marks : List Mark) (body : List Line) (rest : List ℕ) → AllByRecursion (IsFound pool) body → count_of is_catch body < 2 ^ 16
      → (xs : List Range) × (table_part size cut (table_of pool)).spells (two_bytes (count_of is_catch body) ++ (flat_map (catch_bytes pool marks) body ++ rest)) xs rest
  unfolding table_part
  table_spelled size cut marks body rest found few =
      let r = lines_spelled (range_part size cut (table_of pool)) is_catch (catch_bytes pool marks) (IsFound pool) (range_spelled size cut marks) (no_bytes pool marks) body rest found in
      let n : ℕ = count_of is_catch body in
      (r.0, (n, flat_map (catch_bytes pool marks) body ++ rest, number_spelled cut w16 n (flat_map (catch_bytes pool marks) body ++ rest) few, r.1))

  -- what Code holds
  pub code_spelled : (size : ℕ) (cut : ClassFault) (max_stack max_locals : ℕ) (body : List Line) → AllByRecursion (IsFound pool) body → count_of is_catch body < 2 ^ 16
      → 1 ≤ length (code_from pool (marks_of body) 0 body) → length (code_from pool (marks_of body) 0 body) ≤ 65535
      → (x : Code) × (code_part size cut (table_of pool)).spells (code_attribute pool max_stack max_locals body) x []
  unfolding code_part code_attribute bytes_of
  code_spelled size cut max_stack max_locals body found few some short =
      let marks : List Mark = marks_of body in
      let code : List ℕ = code_from pool marks 0 body in
      let none : List ℕ = two_bytes 0 in
      let table : List ℕ = two_bytes (count_of is_catch body) ++ (flat_map (catch_bytes pool marks) body ++ none) in
      let coded : List ℕ = code ++ table in
      let sized : List ℕ = four_bytes (length code) ++ coded in
      let locals : List ℕ = two_bytes max_locals ++ sized in
      let t = table_spelled size cut marks body none found few in
      let read : ℕ → ℕ = λ n. from_be_bytes w16 (two_bytes n) in
      let lower : nat_le 1 (length code) ≡ true = le-leb 1 (length code) some in
      let upper : nat_le (length code) 65535 ≡ true = le-leb (length code) 65535 short in
      let fixed : ℕ → List ℕ → List ℕ = λ n behind. two_bytes max_stack ++ (two_bytes max_locals ++ (four_bytes n ++ behind)) in (
        record { max_stack = read max_stack; max_locals = read max_locals; at = size - length coded; code = code; table = t.0 },
        subst (λ (text : List ℕ). (code_part size cut (table_of pool)).spells (fixed (length code) text) (record { max_stack = read max_stack; max_locals = read max_locals; at = size - length coded; code = code; table = t.0 }) [])
            (sym (regrouped code (two_bytes (count_of is_catch body)) (flat_map (catch_bytes pool marks) body) none)) (
              read max_stack,
              locals,
              number_any cut max_stack locals,
              (
                read max_locals,
                sized,
                number_any cut max_locals sized,
                (
                  length code,
                  coded,
                  number_spelled cut w32 (length code) coded (omega arith),
                  (
                    tt,
                    coded,
                    (rw (lower, upper) refl, refl),
                    (
                      size - length coded,
                      coded,
                      (refl, refl),
                      (
                        code,
                        table,
                        (refl, refl),
                        (
                          t.0,
                          none,
                          t.1,
                          (
                            [],
                            [],
                            none_skipped size cut (table_of pool) [],
                            (refl, refl),
                          ),
                        ),
                      ),
                    ),
                  ),
                ),
              ),
            ),
      )

pub attribute_length : (pool : List Content) (max_stack max_locals : ℕ) (body : List Line)
    → length (code_attribute pool max_stack max_locals body) ≡ 12 + length (code_from pool (marks_of body) 0 body) + 8 * count_of is_catch body
unfolding code_attribute
attribute_length pool max_stack max_locals body =
    let marks : List Mark = marks_of body in
    let code : List ℕ = code_from pool marks 0 body in
    let table : List ℕ = flat_map (catch_bytes pool marks) body in
    omega (arith, ap length (regrouped code (two_bytes (count_of is_catch body)) table (two_bytes 0)), length-append code (two_bytes (count_of is_catch body) ++ (table ++ two_bytes 0)), length-append table (two_bytes 0), catches_length pool marks body)
