-- Lines of four words and of three.
use Rattle.std.proofs.Common.{◌≡◌, ℕ, ◌<◌, ◌≤◌, List, [], ◌∷◌, length, get_or, true, Option, Some, None, refl, arith}
use Rattle.std.specs.Prelude.{if◌then◌else◌, codes}
use Rattle.std.specs.Borrow.{Bor}
use Rattle.std.specs.Str.{bytes_eq}
use Rattle.asm_words.specs.Numbers.{flags_of}
use Rattle.asm_lines.specs.declared.line.Line.TheVariants as line
use Rattle.asm_lines.specs.Operands.{is_name}
use Rattle.asm_lines.specs.Lines.{class_line, catch_line}
use Rattle.asm_lines.specs.Readings.{texts}
use Rattle.asm_lines.proofs.Conditions.{given}

pub is_class : (words : List (Bor (List ℕ))) (d : Bor (List ℕ)) (flags : ℕ) (name super : List ℕ) → 3 ≤ length words → length words < 4 →
    flags_of (get_or words 0 d).now ≡ Some flags →
    (if is_name (get_or words 1 d).now then Some (get_or words 1 d).now else None) ≡ Some name →
    (if is_name (get_or words 2 d).now then Some (get_or words 2 d).now else None) ≡ Some super →
    class_line (texts words) ≡ Some (line.Class flags name super)
unfolding class_line
is_class [] d flags name super l u f n s = absurd (omega arith)
is_class (a ∷ []) d flags name super l u f n s = absurd (omega arith)
is_class (a ∷ b ∷ []) d flags name super l u f n s = absurd (omega arith)
is_class (a ∷ b ∷ c ∷ []) d flags name super l u f n s =
    let p : (is_name b.now ≡ true) × (name ≡ b.now) = given _ _ _ n in
    let q : (is_name c.now ≡ true) × (super ≡ c.now) = given _ _ _ s in
    rw (p.0, q.0, f, p.1, q.1) refl
is_class (a ∷ b ∷ c ∷ e ∷ words) d flags name super l u f n s = absurd (omega arith)

pub is_catch : (words : List (Bor (List ℕ))) (d : Bor (List ℕ)) (start end handler : List ℕ) (class : Option (List ℕ)) → 4 ≤ length words → length words < 5 →
    (if is_name (get_or words 0 d).now then Some (get_or words 0 d).now else None) ≡ Some start →
    (if is_name (get_or words 1 d).now then Some (get_or words 1 d).now else None) ≡ Some end →
    (if is_name (get_or words 2 d).now then Some (get_or words 2 d).now else None) ≡ Some handler →
    (if is_name (get_or words 3 d).now then Some (if bytes_eq (get_or words 3 d).now (codes "any") then None else Some (get_or words 3 d).now) else None) ≡ Some class →
    catch_line (texts words) ≡ Some (line.Catch (record { start = start; end = end; handler = handler; class = class }))
unfolding catch_line
is_catch [] d start end handler class l u f g h i = absurd (omega arith)
is_catch (a ∷ []) d start end handler class l u f g h i = absurd (omega arith)
is_catch (a ∷ b ∷ []) d start end handler class l u f g h i = absurd (omega arith)
is_catch (a ∷ b ∷ c ∷ []) d start end handler class l u f g h i = absurd (omega arith)
is_catch (a ∷ b ∷ c ∷ e ∷ []) d start end handler class l u f g h i =
    let p : (is_name a.now ≡ true) × (start ≡ a.now) = given _ _ _ f in
    let q : (is_name b.now ≡ true) × (end ≡ b.now) = given _ _ _ g in
    let r : (is_name c.now ≡ true) × (handler ≡ c.now) = given _ _ _ h in
    let s : (is_name e.now ≡ true) × (class ≡ (if bytes_eq e.now (codes "any") then None else Some e.now)) = given _ _ _ i in
    rw (p.0, q.0, r.0, s.0, p.1, q.1, r.1, s.1) refl
is_catch (a ∷ b ∷ c ∷ e ∷ x ∷ words) d start end handler class l u f g h i = absurd (omega arith)
