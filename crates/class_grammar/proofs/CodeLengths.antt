-- The methods of a class file have less than 2^16 bytes of code.
use Rattle.std.proofs.Common.{◌≡◌, ℕ, zero, suc, ◌<◌, ◌^◌, Bool, true, false, List, [], ◌∷◌, ◌++◌, length, Option, Some, None, sym, ap, ◌⊎◌, inl, inr, subst, arith}
use Rattle.std.specs.Prelude.{IsTrue, MatchBool, nat_le, ◌&&◌}
use Rattle.std.specs.List.{AllByRecursion}
use Rattle.std.proofs.lemmas.Bool.Decides.{nat_tests}
use Rattle.jx_base.specs.declared.class_file.ClassFile.{ClassFile}
use Rattle.jx_base.specs.declared.class_file.Code.{Code}
use Rattle.jx_base.specs.declared.class_file.Constant.{Constant}
use Rattle.jx_base.specs.declared.class_file.Member.{Member}
use Rattle.jx_base.specs.declared.fault.ClassFault.{ClassFault}
use Rattle.class_grammar.specs.Parts.{Part, repeated, bytes_of}
use Rattle.class_grammar.specs.Members.{code_part, code_body, is_code_name, method_attributes, method_part}
use Rattle.class_grammar.specs.ClassGrammar.{IsClassFile, IsShortCode, HasShortCodes, methods_part, class_file_part}

all_joined : {A : Type 0} (P : A → Type 0) (xs ys : List A) → AllByRecursion P xs
    → AllByRecursion P ys → AllByRecursion P (xs ++ ys)
all_joined P [] ys p q = q
all_joined P (x ∷ xs) ys p q = (p.0, all_joined P xs ys p.1 q)

-- what each part means so, all mean so
pub all_repeated : {A F : Type 0} (P : A → Type 0) (p : Part (List A) F)
    → ((text : List ℕ) (xs : List A) (rest : List ℕ) → p.spells text xs rest → AllByRecursion P xs)
    → (n : ℕ) (text : List ℕ) (zs : List A) (rest : List ℕ) → (repeated n p).spells text zs rest
    → AllByRecursion P zs
unfolding repeated
all_repeated {A} P p each zero text zs rest h = subst (λ (zs : List A). AllByRecursion P zs) (sym h.0) tt
all_repeated {A} P p each (suc n) text zs rest h =
    subst (λ (zs : List A). AllByRecursion P zs) (sym h.5)
    (all_joined P h.0 h.1 (each text h.0 h.2 h.3) (all_repeated P p each n h.2 h.1 rest h.4))

within : (n : ℕ) → IsTrue (nat_le 1 n && nat_le n 65535) → n < 2 ^ 16
within n h = grind (arith, nat_tests)

short_code : (size : ℕ) (cut : ClassFault) (constants : List Constant) (text : List ℕ) (c : Code) (rest : List ℕ)
    → (code_part size cut constants).spells text c rest → length c.code < 2 ^ 16
unfolding code_part bytes_of
short_code size cut constants text c rest h =
    let n = h.3.3 in
    let code = n.3.3.3 in
    let is = code.3.3.3.0 in
    let same : c.code ≡ code.0 = ap (λ (k : Code). k.code) is in
    let short : n.0 < 2 ^ 16 = within n.0 n.3.2.0 in
    omega (arith, ap length same, code.2.0)

short_body : (size at : ℕ) (constants : List Constant) (n : ℕ) (text : List ℕ) (c : Code) (rest : List ℕ)
    → (code_body size at constants n).spells text c rest → length c.code < 2 ^ 16
unfolding code_body
short_body size at constants n text c rest h = short_code _ _ constants h.3.0 c [] h.3.3

choice : {X Y : Type 0} (b : Bool) → MatchBool b X Y → X ⊎ Y
choice true h = inl h
choice false h = inr h

short_attributes : (size : ℕ) (constants : List Constant) (may_have : Bool) (k : ℕ) (before : Option Code) (text : List ℕ) (code : Option Code) (rest : List ℕ)
    → IsShortCode before
    → (method_attributes size constants may_have k before).spells text code rest → IsShortCode code
unfolding method_attributes
short_attributes size constants may_have zero before text code rest p h = subst IsShortCode (sym h.0) p
short_attributes size constants may_have (suc k) before text code rest p h =
    elim (choice (is_code_name h.3.0) h.3.3.3.3) [
      | inl c ↦
          short_attributes size constants may_have k (Some c.3.0) c.3.1 code rest (short_body size h.0 constants h.3.3.0 c.1 c.3.0 c.3.1 c.3.2) c.3.3
      | inr skipped ↦ short_attributes size constants may_have k before skipped.1 code rest p skipped.3
    ]

short_method : (size : ℕ) (constants : List Constant) (interface : Bool) (text : List ℕ) (xs : List Member) (rest : List ℕ)
    → (method_part size constants interface).spells text xs rest → HasShortCodes xs
unfolding method_part
short_method size constants interface text xs rest h =
    let type = h.3.3.3.3.3 in
    let code = type.3.3.3 in
    let one : HasShortCodes (record { flags = h.3.0; name = h.3.3.0; descriptor = h.3.3.3.3.0; code = code.0 } ∷ []) =
    (short_attributes size constants _ _ None _ code.0 _ tt code.2, tt) in
    subst HasShortCodes (sym code.3.3.0) one

-- so it is of each class file
pub has_short_codes : (bytes : List ℕ) (file : ClassFile) → IsClassFile bytes file
    → HasShortCodes file.methods
unfolding class_file_part methods_part
has_short_codes bytes file h =
    let methods = h.3.3.3.3 in
    let all = all_repeated (λ m. IsShortCode m.code) (method_part (length bytes) h.3.0 _) (short_method (length bytes) h.3.0 _) methods.2.0 _ methods.0 _ methods.2.3 in
    let same : file.methods ≡ methods.0 = ap (λ (f : ClassFile). f.methods) methods.3.3.3.3.0 in
    subst HasShortCodes (sym same) all
