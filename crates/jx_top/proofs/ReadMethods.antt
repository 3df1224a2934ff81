-- The methods of a class, whose code is read one after the other.
use Rattle.std.specs.Prelude.{◌≡◌, refl, ℕ, suc, ◌<◌, List, [], ◌∷◌, ◌++◌, length, take, drop, Option, Some, None, Ok, Err, IfSome}
use Rattle.std.proofs.Common.{sym, ◌∙◌, ap, subst, get_or, drop-cons, take-suc}
use Rattle.std.specs.List.{AllByRecursion}
use Rattle.std.proofs.lemmas.List.{take-append-drop, map-append}
use Rattle.class_grammar.specs.ReadFiles.{AreBytes, IsReadCode, IsReadFile}
use Rattle.linker_names.specs.Bodies.{instructions_of_code}
use Rattle.jx_base.specs.declared.class_file.ClassFile.{ClassFile}
use Rattle.jx_base.specs.declared.class_file.Code.{Code}
use Rattle.jx_base.specs.declared.class_file.Instr.{Instr}
use Rattle.jx_base.specs.declared.class_file.Member.{Member}
use Rattle.jx_top.specs.ReadClasses.{HaveReadCode, IsReadClass, IsBadCode, AreBodies, ReadsMethod, ReadsMethods}
use Rattle.jx_top.specs.declared.class_error.ClassError.{ClassError}
use Rattle.jx_top.specs.declared.class_error.ClassError.TheVariants as error
use Rattle.jx_top.specs.declared.defect.Defect.{Defect}

bad_code_of : (code : Option Code) (d : Defect) → ReadsMethod code (Err (error.Bad d)) → (c : Code) × (code ≡ Some c) × IsBadCode c d
bad_code_of None d h = absurd (cc)
bad_code_of (Some c) d h = (c, refl, h)

-- the first method whose code is not read
pub first_bad : (methods : List Member) (place : ℕ) (x : Member) (e : ClassError) → x ≡ get_or methods place x → place < length methods
    → HaveReadCode (take place methods) → ReadsMethod x.code (Err e) → ReadsMethods methods (Err e)
first_bad methods place x error.OutOfMemory is lt read h = tt
first_bad methods place x (error.Bad d) is lt read h =
    let bad = bad_code_of x.code d h in
    let split : drop place methods ≡ x ∷ drop (suc place) methods = rw (drop-cons methods place x lt, ← is) refl in
    record {
      before = take place methods;
      method = x;
      after = drop (suc place) methods;
      parts = sym (take-append-drop place methods) ∙ ap (λ (ms : List Member). take place methods ++ ms) split;
      read = read;
      code = bad.0;
      is_code = bad.1;
      bad = bad.2;
    }

-- ---- methods whose code is read

pub record IsBodyOf (code : Option Code) (body : List Instr) : Type 0 where
  pub read : IfSome code IsReadCode
  pub instructions : body ≡ instructions_of_code code

body_of : (code : Option Code) (body : List Instr) → ReadsMethod code (Ok body) → IsBodyOf code body
body_of None body h = record { read = tt; instructions = cc }
body_of (Some c) body h = record { read = h.read; instructions = h.instructions }

pub all_push : {A : Type 0} (P : A → Type 0) (xs : List A) (x : A) → AllByRecursion P xs → P x → AllByRecursion P (xs ++ x ∷ [])
all_push P [] x h p = (p, tt)
all_push P (y ∷ ys) x h p = (h.0, all_push P ys x h.1 p)

-- one method more
pub more_bodies : (methods : List Member) (place : ℕ) (x : Member) (bodies : List (List Instr)) (body : List Instr) → x ≡ get_or methods place x
    → place < length methods → AreBodies (take place methods) bodies → ReadsMethod x.code (Ok body)
    → AreBodies (take (suc place) methods) (bodies ++ body ∷ [])
more_bodies methods place x bodies body is lt before h =
    let one = body_of x.code body h in
    let split : take (suc place) methods ≡ take place methods ++ x ∷ [] = rw (take-suc methods place x lt, ← is) refl in
    subst (λ (ms : List Member). AreBodies ms (bodies ++ body ∷ [])) (sym split) (record {
      read = all_push (λ m. IfSome m.code IsReadCode) (take place methods) x before.read one.read;
      bodies_are = rw (map-append, ← before.bodies_are, ← one.instructions) refl;
    })

-- ---- bytes

-- numbers below 256 at each place
pub bytes_fit : (bytes : List ℕ) → ((i : ℕ) → get_or bytes i 0 < 256) → AreBytes bytes
bytes_fit [] h = tt
bytes_fit (b ∷ bs) h = (h 0, bytes_fit bs (λ i. h (suc i)))

-- the file of a class that is read
pub read_file : (bytes : List ℕ) (file : ClassFile) → AreBytes bytes → IsReadClass bytes file → IsReadFile file
read_file bytes file are h = record { bytes = bytes; are_bytes = are; file = h.class; codes = h.codes }
