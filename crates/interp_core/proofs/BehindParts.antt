-- The bytes behind an instruction are those that its grammar leaves.
use Rattle.std.proofs.Common.{◌≡◌, ℕ, zero, suc, ◌+◌, ◌-◌, ◌*◌, ◌<◌, ◌≤◌, Bool, true, false, List, [], ◌∷◌, ◌++◌, length, take, drop, Option, Some, None, Result, Ok, Err, refl, sym, ap, ◌∙◌, arith}
use Rattle.std.specs.Prelude.{ℤ, pos, negsuc, int_lt, int_le, unsigned_abs, ◌&&◌, not, ◌==◌, nat_lt, nat_le, if◌then◌else◌, ◌-ℤ◌, ◌+ℤ◌}
use Rattle.std.specs.Int.{Width, w8, w16, w32, byte_len, from_be_bytes, cast_signed, int_wrap}
use Rattle.std.specs.Option.{option_and_then, option_map}
use Rattle.std.proofs.lemmas.Bool.Decides.{nat_tests}
use Rattle.std.proofs.lemmas.List.{drop-drop, drop_all, length-drop}
use Rattle.class_grammar.specs.CodeGrammar.{code_fault, past_end, unsigned_operand, signed_operand, target_operand, interface_operands, array_type_operand, dimensions_operands, increment_operands, padding_length, table_operands, key_operands, keys_rise, lookup_operands, operands_part, wide_part, behind_opcode, instruction_part}
use Rattle.class_grammar.specs.Opcodes.{form_at, wide_form_at}
use Rattle.class_grammar.specs.Parts.{Part, onward, with_front, repeated, bytes_of, number, demand}
use Rattle.jx_base.specs.declared.class_file.Instr.{Instr}
use Rattle.jx_base.specs.declared.fault.CodeFault.{CodeFault}
use Rattle.jx_base.specs.declared.fault.CodeKind.{CodeKind}
use Rattle.jx_base.specs.declared.fault.CodeKind.TheVariants as kind
use Rattle.jx_base.specs.declared.row.Form.{Form}
use Rattle.jx_base.specs.declared.row.Form.TheVariants as form
use Rattle.program_model.specs.Instructions.{instruction_at, reading_of}
use Rattle.code_reader.proofs.Sound.{sound_instruction, takes_a_byte}
use Rattle.interp_core.specs.Behind as behind
use Rattle.interp_core.specs.Behind.{left_by, behind_bytes, number_front, key_front, is_above_last, behind_keys}

-- ---- one part behind another

abbrev Read : Type 0 → Type 0
Read A = Result (A × List ℕ) CodeFault

pub then_left : {A B : Type 0} (r : Read A) (next : A → List ℕ → Read B) (g : List ℕ → Option (List ℕ)) → ((x : A) (rest : List ℕ) → left_by (next x rest) ≡ g rest) → left_by (onward r next) ≡ option_and_then g (left_by r)
unfolding left_by
then_left (Ok x) next g h = h x.0 x.1
then_left (Err f) next g h = refl

pub then_done : {A B : Type 0} (r : Read A) (y : A → B) → left_by (onward r (λ x rest. Ok (y x, rest))) ≡ left_by r
unfolding left_by
then_done (Ok x) y = refl
then_done (Err f) y = refl

skipped : {A : Type 0} (b : Bool) (x : A) (rest : List ℕ) (f : CodeFault) → left_by (if b then Err f else Ok (x, rest)) ≡ (if b then None else Some rest)
unfolding left_by
skipped true x rest f = refl
skipped false x rest f = refl

number_left : (f : CodeFault) (w : Width) (text : List ℕ) → left_by ((number f w).reads text) ≡ behind_bytes (byte_len w) text
unfolding number behind_bytes
number_left f w text = skipped (nat_lt (length text) (byte_len w)) (from_be_bytes w (take (byte_len w) text)) (drop (byte_len w) text) f

bytes_left : (f : CodeFault) (n : ℕ) (text : List ℕ) → left_by ((bytes_of f n).reads text) ≡ behind_bytes n text
unfolding bytes_of behind_bytes
bytes_left f n text = skipped (nat_lt (length text) n) (take n text) (drop n text) f

-- so many bytes behind so many
pub bytes_add : (a b : ℕ) (text : List ℕ) → option_and_then (behind_bytes b) (behind_bytes a text) ≡ behind_bytes (a + b) text
unfolding behind_bytes
bytes_add a b text = by (nat_lt (length text) a) refl (nat_lt (length (drop a text)) b) refl (nat_lt (length text) (a + b)) refl
  where
    by : (x : Bool) → nat_lt (length text) a ≡ x → (y : Bool) → nat_lt (length (drop a text)) b ≡ y → (z : Bool) → nat_lt (length text) (a + b) ≡ z
        → option_and_then (λ t. if nat_lt (length t) b then None else Some (drop b t)) (if x then None else Some (drop a text)) ≡ (if z then None else Some (drop (a + b) text))
    by true e y f true g = refl
    by true e y f false g = absurd (grind (arith, nat_tests))
    by false e true f true g = rw f refl
    by false e true f false g = absurd (grind (arith, nat_tests, length-drop))
    by false e false f true g = absurd (grind (arith, nat_tests, length-drop))
    by false e false f false g = rw f (ap Some (drop-drop b a text))

-- ---- operands

unsigned_left : (w : Width) (pc : ℕ) (text : List ℕ) → left_by ((unsigned_operand w pc).reads text) ≡ behind_bytes (byte_len w) text
unfolding unsigned_operand
unsigned_left w pc text = then_done ((number (past_end pc) w).reads text) (λ n. pos n ∷ []) ∙ number_left (past_end pc) w text

signed_left : (w : Width) (pc : ℕ) (text : List ℕ) → left_by ((signed_operand w pc).reads text) ≡ behind_bytes (byte_len w) text
unfolding signed_operand
signed_left w pc text = then_done ((number (past_end pc) w).reads text) _ ∙ number_left (past_end pc) w text

target_left : (w : Width) (pc : ℕ) (text : List ℕ) → left_by ((target_operand w pc).reads text) ≡ behind_bytes (byte_len w) text
unfolding target_operand
target_left w pc text = then_done ((number (past_end pc) w).reads text) _ ∙ number_left (past_end pc) w text

interface_left : (pc : ℕ) (text : List ℕ) → left_by ((interface_operands pc).reads text) ≡ behind_bytes 4 text
unfolding interface_operands
interface_left pc text =
    then_left ((number (past_end pc) w16).reads text) _ (behind_bytes 2) (λ i rest. then_done ((bytes_of (past_end pc) 2).reads rest) _ ∙ bytes_left (past_end pc) 2 rest)
    ∙ ap (option_and_then (behind_bytes 2)) (number_left (past_end pc) w16 text) ∙ bytes_add 2 2 text

increment_left : (w : Width) (pc : ℕ) (text : List ℕ) → left_by ((increment_operands w pc).reads text) ≡ behind_bytes (byte_len w + byte_len w) text
unfolding increment_operands
increment_left w pc text =
    then_left ((number (past_end pc) w).reads text) _ (behind_bytes (byte_len w)) (λ n rest. then_done ((number (past_end pc) w).reads rest) _ ∙ number_left (past_end pc) w rest)
    ∙ ap (option_and_then (behind_bytes (byte_len w))) (number_left (past_end pc) w text) ∙ bytes_add (byte_len w) (byte_len w) text

-- where the demand is met, what is left behind it
demand_left : {B : Type 0} (b : Bool) (f : CodeFault) (text : List ℕ) (next : List ℕ → Read B) → left_by (onward ((demand b f).reads text) (λ u rest. next rest)) ≡ (if b then left_by (next text) else None)
unfolding left_by
demand_left true f text next = refl
demand_left false f text next = refl

-- the bytes are as many
enough : (n k : ℕ) → k ≤ n → nat_lt n k ≡ false
enough n k h = grind (arith, nat_tests)

-- a byte at the front, and what is left behind what follows it
byte_then : {B : Type 0} (f : CodeFault) (n : ℕ) (rest : List ℕ) (next : ℕ → List ℕ → Read B) → left_by (onward ((number f w8).reads (n ∷ rest)) next) ≡ left_by (next n rest)
unfolding number left_by
byte_then f n rest next = ap (λ b. left_by (onward (if b then Err f else Ok (n, rest)) next)) (enough (suc (length rest)) 1 (omega arith))

two_then : {B : Type 0} (f : CodeFault) (i j : ℕ) (rest : List ℕ) (next : ℕ → List ℕ → Read B) → left_by (onward ((number f w16).reads (i ∷ j ∷ rest)) next) ≡ left_by (next (i * 256 + j) rest)
unfolding number left_by
two_then f i j rest next = ap (λ b. left_by (onward (if b then Err f else Ok (i * 256 + j, rest)) next)) (enough (suc (suc (length rest))) 2 (omega arith))

array_type_left : (pc : ℕ) (text : List ℕ) → left_by ((array_type_operand pc).reads text) ≡ behind.behind_array_type text
unfolding array_type_operand number left_by behind.behind_array_type
array_type_left pc [] = refl
array_type_left pc (n ∷ rest) =
    byte_then (past_end pc) n rest _ ∙ demand_left (nat_le 4 n && nat_le n 11) (code_fault pc kind.Opcode) rest _
    ∙ ap (λ o. if nat_le 4 n && nat_le n 11 then o else None) (demand_left (not (n == 6) && not (n == 7)) (code_fault pc kind.LeftOut) rest _)
    ∙ four (nat_le 4 n) (nat_le n 11) (not (n == 6)) (not (n == 7)) (Some rest)
  where
    four : (p q r t : Bool) (o : Option (List ℕ)) → (if p && q then (if r && t then o else None) else None) ≡ (if p && q && r && t then o else None)
    four true true r t o = refl
    four true false r t o = refl
    four false q r t o = refl

positive : (n : ℕ) (o : Option (List ℕ)) → (if nat_lt 0 n then o else None) ≡ (if n == 0 then None else o)
positive zero o = refl
positive (suc n) o =
    let less : nat_lt 0 (suc n) ≡ true = grind (arith, nat_tests) in
    let some : (suc n == 0) ≡ false = grind (arith, nat_tests) in
    ap (λ b. if b then o else None) less ∙ sym (ap (λ b. if b then None else o) some)

dimensions_left : (pc : ℕ) (text : List ℕ) → left_by ((dimensions_operands pc).reads text) ≡ behind.behind_dimensions text
unfolding dimensions_operands number left_by behind.behind_dimensions
dimensions_left pc [] = refl
dimensions_left pc (i ∷ []) = refl
dimensions_left pc (i ∷ j ∷ []) = refl
dimensions_left pc (i ∷ j ∷ n ∷ rest) =
    two_then (past_end pc) i j (n ∷ rest) _ ∙ byte_then (past_end pc) n rest _
    ∙ demand_left (nat_lt 0 n) (code_fault pc kind.Opcode) rest _ ∙ positive n (Some rest)

-- ---- switches

-- a signed number, and what is left behind it
number_then : {B : Type 0} (f : CodeFault) (text : List ℕ) (next : ℕ → List ℕ → Read B) (g : ℤ → List ℕ → Option (List ℕ)) → ((n : ℕ) (rest : List ℕ) → left_by (next n rest) ≡ g (cast_signed w32 n) rest)
    → left_by (onward ((number f w32).reads text) next) ≡ option_and_then (λ (x : ℤ × List ℕ). g x.0 x.1) (number_front text)
unfolding number number_front left_by
number_then f text next g h = by (nat_lt (length text) 4)
  where
    by : (b : Bool) → left_by (onward (if b then Err f else Ok (from_be_bytes w32 (take 4 text), drop 4 text)) next) ≡ option_and_then (λ (x : ℤ × List ℕ). g x.0 x.1) (if b then None else Some (cast_signed w32 (from_be_bytes w32 (take 4 text)), drop 4 text))
    by true = refl
    by false = h (from_be_bytes w32 (take 4 text)) (drop 4 text)

repeated_left : (p : Part (List ℤ) CodeFault) → ((text : List ℕ) → left_by (p.reads text) ≡ behind_bytes 4 text) → (n : ℕ) (text : List ℕ) → left_by ((repeated n p).reads text) ≡ behind_bytes (4 * n) text
unfolding repeated left_by behind_bytes
repeated_left p h zero text = ap (λ b. if b then None else Some text) (sym (enough (length text) 0 (omega arith)))
repeated_left p h (suc n) text =
    let times : 4 + 4 * n ≡ 4 * suc n = omega arith in
    then_left (p.reads text) _ (behind_bytes (4 * n)) (λ xs middle. then_done ((repeated n p).reads middle) _ ∙ repeated_left p h n middle)
    ∙ ap (option_and_then (behind_bytes (4 * n))) (h text) ∙ bytes_add 4 (4 * n) text ∙ ap (λ k. behind_bytes k text) times

range_left : (pc low high : ℕ) (f : CodeFault) (y : List ℤ → List ℤ) (text : List ℕ)
    → left_by (onward ((demand (int_le (cast_signed w32 low) (cast_signed w32 high)) f).reads text) (λ u rest. onward ((repeated (unsigned_abs (cast_signed w32 high -ℤ cast_signed w32 low) + 1) (target_operand w32 pc)).reads rest) (λ ts r. Ok (y ts, r))))
    ≡ behind.behind_range (cast_signed w32 low) (cast_signed w32 high) text
unfolding behind.behind_range
range_left pc low high f y text =
    let n = unsigned_abs (cast_signed w32 high -ℤ cast_signed w32 low) + 1 in
    demand_left (int_le (cast_signed w32 low) (cast_signed w32 high)) f text _
    ∙ ap (λ (o : Option (List ℕ)). if int_le (cast_signed w32 low) (cast_signed w32 high) then o else None) (then_done ((repeated n (target_operand w32 pc)).reads text) y ∙ repeated_left (target_operand w32 pc) (target_left w32 pc) n text)

-- behind the padding and the default
default_left : {B : Type 0} (pc : ℕ) (text : List ℕ) (next : List ℤ → List ℕ → Read B) (g : List ℕ → Option (List ℕ)) → ((d : List ℤ) (rest : List ℕ) → left_by (next d rest) ≡ g rest)
    → left_by (onward ((bytes_of (past_end pc) (padding_length pc)).reads text) (λ p rest. onward ((target_operand w32 pc).reads rest) next)) ≡ option_and_then g (behind_bytes (padding_length pc + 4) text)
default_left pc text next g h =
    then_left ((bytes_of (past_end pc) (padding_length pc)).reads text) _ (λ rest. option_and_then g (behind_bytes 4 rest))
    (λ p rest. then_left ((target_operand w32 pc).reads rest) next g h ∙ ap (option_and_then g) (target_left w32 pc rest))
    ∙ ap (option_and_then (λ rest. option_and_then g (behind_bytes 4 rest))) (bytes_left (past_end pc) (padding_length pc) text)
    ∙ twice (behind_bytes (padding_length pc) text) ∙ ap (option_and_then g) (bytes_add (padding_length pc) 4 text)
  where
    twice : (o : Option (List ℕ)) → option_and_then (λ rest. option_and_then g (behind_bytes 4 rest)) o ≡ option_and_then g (option_and_then (behind_bytes 4) o)
    twice None = refl
    twice (Some x) = refl

table_left : (pc : ℕ) (text : List ℕ) → left_by ((table_operands pc).reads text) ≡ behind.behind_table pc text
unfolding table_operands behind.behind_table
table_left pc text =
    default_left pc text _ _ (λ d rest.
    number_then (past_end pc) rest _ _ (λ low more. number_then (past_end pc) more _ (λ (h : ℤ) last. behind.behind_range (cast_signed w32 low) h last)
    (λ high last. range_left pc low high (code_fault pc kind.BadRange) _ last)))

-- ---- keys

-- what is left where the numbers pass
abbrev left_with : Read (List ℤ) → (List ℤ → Bool) → Option (List ℕ)
left_with (Ok x) ok = if ok x.0 then Some x.1 else None
left_with (Err f) ok = None

with_demand : (r : Read (List ℤ)) (ok : List ℤ → Bool) (f : CodeFault) (y : List ℤ → List ℤ) → left_by (onward r (λ pairs rest. onward ((demand (ok pairs) f).reads rest) (λ u more. Ok (y pairs, more)))) ≡ left_with r ok
unfolding left_by
with_demand (Ok x) ok f y = by (ok x.0)
  where
    by : (b : Bool) → left_by (onward ((demand b f).reads x.1) (λ u more. Ok (y x.0, more))) ≡ (if b then Some x.1 else None)
    by true = refl
    by false = refl
with_demand (Err g) ok f y = refl

with_front_left : (xs : List ℤ) (r : Read (List ℤ)) (ok : List ℤ → Bool) → left_with (with_front xs r) ok ≡ left_with r (λ ys. ok (xs ++ ys))
with_front_left xs (Ok x) ok = refl
with_front_left xs (Err f) ok = refl

none_passes : (r : Read (List ℤ)) → left_with r (λ ys. false) ≡ None
none_passes (Ok x) = refl
none_passes (Err f) = refl

abbrev with_key : ℤ → List ℕ → ℤ × List ℕ
with_key k rest = (k, rest)

-- a key and its target, whatever the last key was
abbrev plain_key : List ℕ → Option (ℤ × List ℕ)
plain_key text = option_and_then (λ (x : ℤ × List ℕ). option_map (with_key x.0) (behind_bytes 4 x.1)) (number_front text)

above : (last : Option ℤ) (text : List ℕ) → key_front last text ≡ option_and_then (λ (x : ℤ × List ℕ). if is_above_last last x.0 then Some x else None) (plain_key text)
unfolding key_front
above last text = by (number_front text)
  where
    inner : (k : ℤ) (b : Bool) (o : Option (List ℕ)) → is_above_last last k ≡ b → (if b then option_map (with_key k) o else None) ≡ option_and_then (λ (x : ℤ × List ℕ). if is_above_last last x.0 then Some x else None) (option_map (with_key k) o)
    inner k true None e = refl
    inner k false None e = refl
    inner k true (Some rest) e = rw e refl
    inner k false (Some rest) e = rw e refl

    by : (o : Option (ℤ × List ℕ)) → option_and_then (λ (x : ℤ × List ℕ). if is_above_last last x.0 then option_map (λ rest. with_key x.0 rest) (behind_bytes 4 x.1) else None) o ≡ option_and_then (λ (x : ℤ × List ℕ). if is_above_last last x.0 then Some x else None) (option_and_then (λ (x : ℤ × List ℕ). option_map (with_key x.0) (behind_bytes 4 x.1)) o)
    by None = refl
    by (Some x) = inner x.0 (is_above_last last x.0) (behind_bytes 4 x.1) refl

-- what reading a key and its target comes to
data KeyRead (pc : ℕ) (text : List ℕ) : Type 0 where
  no_key : (f : CodeFault) → (key_operands pc).reads text ≡ Err f → plain_key text ≡ None → KeyRead pc text
  a_key : (k t : ℤ) (rest : List ℕ) → (key_operands pc).reads text ≡ Ok (k ∷ t ∷ [], rest) → plain_key text ≡ Some (k, rest) → KeyRead pc text

key_read : (pc : ℕ) (text : List ℕ) → KeyRead pc text
unfolding key_operands signed_operand target_operand number number_front behind_bytes
key_read pc text = by (nat_lt (length text) 4) refl (nat_lt (length (drop 4 text)) 4) refl
  where
    by : (a : Bool) → nat_lt (length text) 4 ≡ a → (b : Bool) → nat_lt (length (drop 4 text)) 4 ≡ b → KeyRead pc text
    by true e b f = no_key (past_end pc) (rw e refl) (rw e refl)
    by false e true f = no_key (past_end pc) (rw (e, f) refl) (rw (e, f) refl)
    by false e false f =
        a_key (cast_signed w32 (from_be_bytes w32 (take 4 text))) (int_wrap w32 (pos pc +ℤ cast_signed w32 (from_be_bytes w32 (take 4 (drop 4 text))))) (drop 4 (drop 4 text))
        (rw (e, f) refl) (rw (e, f) refl)

module _ (pc : ℕ) where
  abbrev keys : ℕ → List ℕ → Read (List ℤ)
  keys n text = (repeated n (key_operands pc)).reads text

  none_key : (n : ℕ) (text : List ℕ) (f : CodeFault) (ok : List ℤ → Bool) → (key_operands pc).reads text ≡ Err f → left_with (keys (suc n) text) ok ≡ None
  unfolding repeated
  none_key n text f ok e = rw e refl

  one_key : (n : ℕ) (text : List ℕ) (xs : List ℤ) (rest : List ℕ) (ok : List ℤ → Bool) → (key_operands pc).reads text ≡ Ok (xs, rest) → left_with (keys (suc n) text) ok ≡ left_with (keys n rest) (λ ys. ok (xs ++ ys))
  unfolding repeated
  one_key n text xs rest ok e = rw e (with_front_left xs (keys n rest) ok)

  none_front : (last : Option ℤ) (text : List ℕ) → plain_key text ≡ None → key_front last text ≡ None
  none_front last text e = above last text ∙ ap (option_and_then (λ (x : ℤ × List ℕ). if is_above_last last x.0 then Some x else None)) e

  one_front : (last : Option ℤ) (text : List ℕ) (k : ℤ) (rest : List ℕ) (b : Bool) → plain_key text ≡ Some (k, rest) → is_above_last last k ≡ b → key_front last text ≡ (if b then Some (k, rest) else None)
  one_front last text k rest b e f =
      above last text ∙ ap (option_and_then (λ (x : ℤ × List ℕ). if is_above_last last x.0 then Some x else None)) e
      ∙ ap (λ c. if c then Some (k, rest) else None) f

  step : (last : Option ℤ) (n : ℕ) (text : List ℕ) (o : Option (ℤ × List ℕ)) → key_front last text ≡ o → behind_keys last (suc n) text ≡ option_and_then (λ x. behind_keys (Some x.0) n x.1) o
  unfolding behind_keys
  step last n text o e = ap (option_and_then (λ x. behind_keys (Some x.0) n x.1)) e

  abbrev Rises : ℕ → Type 0
  Rises n = (last t : ℤ) (text : List ℕ) → left_with (keys n text) (λ pairs. keys_rise (last ∷ t ∷ pairs)) ≡ behind_keys (Some last) n text

  rising_left : (n : ℕ) (last t : ℤ) (text : List ℕ) → left_with (keys n text) (λ pairs. keys_rise (last ∷ t ∷ pairs)) ≡ behind_keys (Some last) n text
  unfolding repeated keys_rise behind_keys is_above_last
  rising_left zero last t text = refl
  rising_left (suc n) last t text = by (λ k t2 rest. rising_left n k t2 rest) (key_read pc text)
    where
      above_or_not : Rises n → (k t2 : ℤ) (rest : List ℕ) (b : Bool) → int_lt last k ≡ b → (key_operands pc).reads text ≡ Ok (k ∷ t2 ∷ [], rest) → plain_key text ≡ Some (k, rest)
          → left_with (keys (suc n) text) (λ pairs. keys_rise (last ∷ t ∷ pairs)) ≡ behind_keys (Some last) (suc n) text
      above_or_not ih k t2 rest true f e p =
          one_key n text (k ∷ t2 ∷ []) rest _ e ∙ ap (λ b. left_with (keys n rest) (λ ys. b && keys_rise (k ∷ t2 ∷ ys))) f
          ∙ ih k t2 rest ∙ sym (step (Some last) n text (Some (k, rest)) (one_front (Some last) text k rest true p f))
      above_or_not ih k t2 rest false f e p =
          one_key n text (k ∷ t2 ∷ []) rest _ e ∙ ap (λ b. left_with (keys n rest) (λ ys. b && keys_rise (k ∷ t2 ∷ ys))) f
          ∙ none_passes (keys n rest) ∙ sym (step (Some last) n text None (one_front (Some last) text k rest false p f))

      by : Rises n → KeyRead pc text → left_with (keys (suc n) text) (λ pairs. keys_rise (last ∷ t ∷ pairs)) ≡ behind_keys (Some last) (suc n) text
      by ih (no_key f e p) = none_key n text f _ e ∙ sym (step (Some last) n text None (none_front (Some last) text p))
      by ih (a_key k t2 rest e p) = above_or_not ih k t2 rest (int_lt last k) refl e p

  keys_left : (n : ℕ) (text : List ℕ) → left_with (keys n text) keys_rise ≡ behind_keys None n text
  unfolding repeated keys_rise behind_keys is_above_last
  keys_left zero text = refl
  keys_left (suc n) text = elim (key_read pc text) [
    | no_key f e p ↦ none_key n text f keys_rise e ∙ sym (step None n text None (none_front None text p))
    | a_key k t rest e p ↦
        one_key n text (k ∷ t ∷ []) rest keys_rise e ∙ rising_left n k t rest
        ∙ sym (step None n text (Some (k, rest)) (one_front None text k rest true p refl))
  ]

not_negative : (n : ℤ) → int_le (pos 0) n ≡ not (int_lt n (pos 0))
not_negative (pos n) =
    let least : nat_le 0 n ≡ true = grind (arith, nat_tests) in
    least ∙ sym (ap not (enough n 0 (omega arith)))
not_negative (negsuc n) = refl

lookup_left : (pc : ℕ) (text : List ℕ) → left_by ((lookup_operands pc).reads text) ≡ behind.behind_lookup pc text
unfolding lookup_operands behind.behind_lookup
lookup_left pc text =
    default_left pc text _ _ (λ d rest.
    number_then (past_end pc) rest _ (λ n more. if int_lt n (pos 0) then None else behind_keys None (unsigned_abs n) more)
    (λ count more. counted (cast_signed w32 count) d more))
  where
    flip : (b : Bool) (o : Option (List ℕ)) → (if not b then o else None) ≡ (if b then None else o)
    flip true o = refl
    flip false o = refl

    counted : (n : ℤ) (d : List ℤ) (more : List ℕ)
        → left_by (onward ((demand (int_le (pos 0) n) (code_fault pc kind.BadRange)).reads more) (λ u rest. onward ((repeated (unsigned_abs n) (key_operands pc)).reads rest) (λ pairs r. onward ((demand (keys_rise pairs) (code_fault pc kind.BadRange)).reads r) (λ v q. Ok (d ++ (n ∷ pairs), q)))))
        ≡ (if int_lt n (pos 0) then None else behind_keys None (unsigned_abs n) more)
    counted n d more =
        demand_left (int_le (pos 0) n) (code_fault pc kind.BadRange) more _
        ∙ ap (λ b. if b then left_by (onward (keys pc (unsigned_abs n) more) (λ pairs r. onward ((demand (keys_rise pairs) (code_fault pc kind.BadRange)).reads r) (λ v q. Ok (d ++ (n ∷ pairs), q)))) else None) (not_negative n)
        ∙ ap (λ o. if not (int_lt n (pos 0)) then o else None) (with_demand (keys pc (unsigned_abs n) more) keys_rise (code_fault pc kind.BadRange) _ ∙ keys_left pc (unsigned_abs n) more)
        ∙ flip (int_lt n (pos 0)) (behind_keys None (unsigned_abs n) more)

-- ---- instructions

operands_left : (missing : CodeKind) (pc : ℕ) (f : Form) (text : List ℕ) → left_by ((operands_part missing pc f).reads text) ≡ behind.behind_operands pc f text
unfolding operands_part behind.behind_operands left_by
operands_left missing pc form.Plain text = refl
operands_left missing pc form.SignedByte text = signed_left w8 pc text
operands_left missing pc form.SignedShort text = signed_left w16 pc text
operands_left missing pc form.Byte text = unsigned_left w8 pc text
operands_left missing pc form.Index text = unsigned_left w16 pc text
operands_left missing pc form.Interface text = interface_left pc text
operands_left missing pc form.ArrayType text = array_type_left pc text
operands_left missing pc form.Dimensions text = dimensions_left pc text
operands_left missing pc form.Increment text = increment_left w8 pc text
operands_left missing pc form.WideIncrement text = increment_left w16 pc text
operands_left missing pc form.Branch text = target_left w16 pc text
operands_left missing pc form.FarBranch text = target_left w32 pc text
operands_left missing pc form.TableSwitch text = table_left pc text
operands_left missing pc form.LookupSwitch text = lookup_left pc text
operands_left missing pc form.Wide text = refl
operands_left missing pc form.LeftOut text = refl
operands_left missing pc form.Unassigned text = refl

wide_left : (pc : ℕ) (text : List ℕ) → left_by ((wide_part pc).reads text) ≡ behind.behind_wide pc text
unfolding wide_part behind.behind_wide number left_by
wide_left pc [] = refl
wide_left pc (opcode ∷ rest) =
    byte_then (past_end pc) opcode rest _ ∙ then_done ((operands_part kind.BadWide pc (wide_form_at opcode)).reads rest) _ ∙ operands_left kind.BadWide pc (wide_form_at opcode) rest

plain_left : (pc opcode : ℕ) (f : Form) (rest : List ℕ) → left_by ((behind_opcode pc opcode f).reads rest) ≡ behind.behind_opcode pc f rest
unfolding behind_opcode behind.behind_opcode
plain_left pc opcode form.Wide rest = wide_left pc rest
plain_left pc opcode f rest = then_done ((operands_part kind.Opcode pc f).reads rest) _ ∙ operands_left kind.Opcode pc f rest

-- the bytes behind an instruction
pub instruction_left : (pc : ℕ) (text : List ℕ) → left_by ((instruction_part pc).reads text) ≡ behind.behind_instruction pc text
unfolding instruction_part behind.behind_instruction number left_by
instruction_left pc [] = refl
instruction_left pc (opcode ∷ rest) = byte_then (past_end pc) opcode rest _ ∙ plain_left pc opcode (form_at opcode) rest

-- ---- places

-- the reading of an instruction, by what is left of it
left_ok : (r : Read Instr) (rest : List ℕ) → left_by r ≡ Some rest → (i : Instr) × (r ≡ Ok (i, rest))
unfolding left_by
left_ok (Ok x) rest e = let q : x.1 ≡ rest = cc in (x.0, ap (λ (t : List ℕ). Ok (x.0, t)) q)
left_ok (Err f) rest e = absurd cc

place_left : (size : ℕ) (r : Read Instr) → option_map (λ x. x.next) (reading_of size r) ≡ option_map (λ rest. size - length rest) (left_by r)
unfolding reading_of left_by
place_left size (Ok x) = refl
place_left size (Err f) = refl

-- the place behind an instruction, by the bytes behind it
pub place_is : (code : List ℕ) (pc : ℕ) → option_map (λ x. x.next) (instruction_at code pc) ≡ option_map (λ rest. length code - length rest) (behind.behind_instruction pc (drop pc code))
unfolding instruction_at
place_is code pc =
    place_left (length code) ((instruction_part pc).reads (drop pc code))
    ∙ ap (option_map (λ (rest : List ℕ). length code - length rest)) (instruction_left pc (drop pc code))

-- there is none past the code
pub none_past : (code : List ℕ) (pc : ℕ) → length code < pc → option_map (λ x. x.next) (instruction_at code pc) ≡ None
unfolding behind.behind_instruction
none_past code pc h =
    let none : drop pc code ≡ [] = drop_all pc code (omega arith) in
    place_is code pc ∙ ap (λ (t : List ℕ). option_map (λ (rest : List ℕ). length code - length rest) (behind.behind_instruction pc t)) none

-- what is left is a part of the code
pub within : (code : List ℕ) (pc : ℕ) (rest : List ℕ) → behind.behind_instruction pc (drop pc code) ≡ Some rest → length rest ≤ length code
within code pc rest e =
    let read = left_ok ((instruction_part pc).reads (drop pc code)) rest (instruction_left pc (drop pc code) ∙ e) in
    let less = takes_a_byte pc (drop pc code) read.0 rest ((sound_instruction pc).lawful.found (drop pc code) read.0 rest read.1) in
    omega (arith, length-drop pc code, less)

-- so many bytes are not there, or they are passed over
pub past : (n : ℕ) (bytes : List ℕ) → behind_bytes n bytes ≡ None → length bytes < n
unfolding behind_bytes
past n bytes e = by (nat_lt (length bytes) n) refl e
  where
    by : (b : Bool) → nat_lt (length bytes) n ≡ b → (if b then None else Some (drop n bytes)) ≡ None → length bytes < n
    by true f h = grind (arith, nat_tests)
    by false f h = absurd cc

pub bytes_are : (n : ℕ) (bytes rest : List ℕ) → behind_bytes n bytes ≡ Some rest → rest ≡ drop n bytes
unfolding behind_bytes
bytes_are n bytes rest e = by (nat_lt (length bytes) n) e
  where
    by : (b : Bool) → (if b then None else Some (drop n bytes)) ≡ Some rest → rest ≡ drop n bytes
    by true h = absurd cc
    by false h = cc

-- there is no instruction in no code
pub none_at : (pc : ℕ) → instruction_at [] pc ≡ None
unfolding instruction_at instruction_part number reading_of
none_at pc = ap (λ (t : List ℕ). reading_of 0 ((instruction_part pc).reads t)) (drop_all pc [] (omega arith))
