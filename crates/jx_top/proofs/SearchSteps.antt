-- From the steps of the search for a system to the search.
use Rattle.std.specs.Prelude.{◌≡◌, refl, ℕ, suc, ◌<◌, List, [], ◌∷◌, ◌++◌, length, take, drop, Option, Some, Result, Ok, Err}
use Rattle.std.proofs.Common.{sym, ◌∙◌, ap, subst, get_or, drop-cons, take-suc}
use Rattle.std.proofs.lemmas.List.{take-append-drop}
use Rattle.jx_base.specs.Files.{Files}
use Rattle.jx_base.specs.declared.class_file.ClassFile.{ClassFile}
use Rattle.jx_base.specs.declared.program.Plan.{Plan}
use Rattle.jx_top.specs.Commands.{EndsInClass}
use Rattle.jx_top.specs.Finding.{CanStop, IsCauseOfStop, Finds, HoldsClass, HoldsPlan}
use Rattle.jx_top.specs.GotFiles.{IsGot, IsNotGot, IsFailedFetch, CanFailFetch}
use Rattle.jx_top.specs.Outcomes.{Outcome, outcome_of}
use Rattle.jx_top.specs.Outcomes as outcome
use Rattle.jx_top.specs.Systems.{IsPlanOf, of_text, IsPlanRefused, file_of_class, HasClass, HaveClasses, IsClassRefused, HasRefusedClass}
use Rattle.jx_top.specs.declared.status.Status.{Status}
use Rattle.jx_top.specs.declared.status.Status.TheVariants as status

-- ---- stops

can_stop : (o : Outcome) → CanFailFetch o → CanStop o
can_stop outcome.ShelfFault p = tt
can_stop outcome.OutOfMemory p = tt
can_stop (outcome.Missing n) p = tt
can_stop (outcome.TooLong n) p = tt
can_stop _ p = absurd p

fetch_caused : (Stops : Outcome → Type 0) (files : Files) (file : List ℕ) (o : Outcome) → ((o : Outcome) → IsNotGot files file o → Stops o)
    → IsFailedFetch files file o → IsCauseOfStop Stops o
fetch_caused Stops files file outcome.ShelfFault f p = tt
fetch_caused Stops files file outcome.OutOfMemory f p = tt
fetch_caused Stops files file (outcome.Missing n) f p = f (outcome.Missing n) p
fetch_caused Stops files file (outcome.TooLong n) f p = f (outcome.TooLong n) p
fetch_caused Stops files file _ f p = absurd p

-- a step that a failed fetch stops
pub fetch_stops : {A : Type 0} (told : Option Files) (Found : Files → A → Type 0) (Stops : Files → Outcome → Type 0) (file : List ℕ) (s : Status)
    → ((files : Files) (o : Outcome) → IsNotGot files file o → Stops files o)
    → ((files : Files) → told ≡ Some files → IsFailedFetch files file (outcome_of s)) → CanFailFetch (outcome_of s)
    → Finds told Found Stops (Err s)
fetch_stops told Found Stops file s f p can =
    (can_stop (outcome_of s) can, λ files t. fetch_caused (Stops files) files file (outcome_of s) (f files) (p files t))

caused_so : (Stops More : Outcome → Type 0) (o : Outcome) → ((o : Outcome) → Stops o → More o) → IsCauseOfStop Stops o → IsCauseOfStop More o
caused_so Stops More outcome.ShelfFault f p = tt
caused_so Stops More outcome.OutOfMemory f p = tt
caused_so Stops More outcome.Done f p = f outcome.Done p
caused_so Stops More outcome.Halted f p = f outcome.Halted p
caused_so Stops More outcome.Usage f p = f outcome.Usage p
caused_so Stops More outcome.SinkFault f p = f outcome.SinkFault p
caused_so Stops More (outcome.Missing n) f p = f (outcome.Missing n) p
caused_so Stops More (outcome.TooLong n) f p = f (outcome.TooLong n) p
caused_so Stops More (outcome.NotYet n) f p = f (outcome.NotYet n) p
caused_so Stops More (outcome.BadPlan g) f p = f (outcome.BadPlan g) p
caused_so Stops More (outcome.BadClass n d) f p = f (outcome.BadClass n d) p
caused_so Stops More (outcome.BadLink g) f p = f (outcome.BadLink g) p
caused_so Stops More (outcome.BadAsm g) f p = f (outcome.BadAsm g) p

-- what stops a step stops those that need it
pub stops_so : {A B : Type 0} (told : Option Files) (Found : Files → A → Type 0) (Other : Files → B → Type 0) (Stops More : Files → Outcome → Type 0)
    (s : Status) → ((files : Files) (o : Outcome) → told ≡ Some files → Stops files o → More files o) → Finds told Found Stops (Err s)
    → Finds told Other More (Err s)
stops_so told Found Other Stops More s f p =
    (p.0, λ files t. caused_so (Stops files) (More files) (outcome_of s) (λ o. f files o t) (p.1 files t))

-- ---- a class

-- the bytes of the file
abbrev pub Gets : Option Files → List ℕ → List ℕ → Type 0
Gets told file bytes = (files : Files) → told ≡ Some files → IsGot files file bytes

-- the search for the class of that name
abbrev pub FindsClass : Option Files → List ℕ → Result ClassFile Status → Type 0
FindsClass told name r = Finds told (λ files class. HasClass files name class) (λ files o. IsClassRefused files name o) r

pub class_refused : (files : Files) (name : List ℕ) (o : Outcome) → IsNotGot files (file_of_class name) o → IsClassRefused files name o
class_refused files name (outcome.Missing n) p = p
class_refused files name (outcome.TooLong n) p = p
class_refused files name _ p = absurd p

pub class_held : (told : Option Files) (name bytes : List ℕ) (r : Result ClassFile Status) → Gets told (file_of_class name) bytes
    → HoldsClass name bytes r → FindsClass told name r
class_held told name bytes (Ok class) got p = λ files t. record { bytes = bytes; got = got files t; read = p }
class_held told name bytes (Err (status.BadClass n d)) got p =
    (tt, λ files t. (p.0, record { bytes = bytes; got = got files t; bad = p.1 }))
class_held told name bytes (Err status.OutOfMemory) got p = (tt, λ files t. tt)
class_held told name bytes (Err _) got p = absurd p

-- ---- classes in order

have_push : (files : Files) (names : List (List ℕ)) (classes : List ClassFile) (x : List ℕ) (class : ClassFile) → HaveClasses files names classes
    → HasClass files x class → HaveClasses files (names ++ x ∷ []) (classes ++ class ∷ [])
have_push files [] [] x class h p = (p, tt)
have_push files [] (c ∷ cs) x class h p = absurd h
have_push files (n ∷ names) [] x class h p = absurd h
have_push files (n ∷ names) (c ∷ cs) x class h p = (h.0, have_push files names cs x class h.1 p)

-- one class more
pub have_more : (files : Files) (names : List (List ℕ)) (place : ℕ) (x : List ℕ) (classes : List ClassFile) (class : ClassFile)
    → x ≡ get_or names place x → place < length names → HaveClasses files (take place names) classes → HasClass files x class
    → HaveClasses files (take (suc place) names) (classes ++ class ∷ [])
have_more files names place x classes class is lt h p =
    let split : take (suc place) names ≡ take place names ++ x ∷ [] = rw (take-suc names place x lt, ← is) refl in
    subst (λ (ns : List (List ℕ)). HaveClasses files ns (classes ++ class ∷ [])) (sym split)
    (have_push files (take place names) classes x class h p)

-- the class at that place is the first one that is refused
pub refused_at : (files : Files) (names : List (List ℕ)) (place : ℕ) (x : List ℕ) (classes : List ClassFile) (o : Outcome)
    → x ≡ get_or names place x → place < length names → HaveClasses files (take place names) classes → IsClassRefused files x o
    → HasRefusedClass files names o
refused_at files names place x classes o is lt h p =
    let split : drop place names ≡ x ∷ drop (suc place) names = rw (drop-cons names place x lt, ← is) refl in
    record {
      before = take place names;
      name = x;
      after = drop (suc place) names;
      parts = sym (take-append-drop place names) ∙ ap (λ (ns : List (List ℕ)). take place names ++ ns) split;
      classes = classes;
      accepted = h;
      refused = p;
    }

-- ---- a plan

pub text_refused : (files : Files) (file : List ℕ) (o : Outcome) → (EndsInClass file → ⊥) → IsNotGot files file o → IsPlanRefused files file o
text_refused files file (outcome.Missing n) none p = record { no_class = none; not_got = p }
text_refused files file (outcome.TooLong n) none p = record { no_class = none; not_got = p }
text_refused files file _ none p = absurd p

pub plan_held : (told : Option Files) (file bytes : List ℕ) (r : Result Plan Status) → (EndsInClass file → ⊥) → Gets told file bytes
    → HoldsPlan bytes r → Finds told (λ files plan. IsPlanOf files file plan) (λ files o. IsPlanRefused files file o) r
plan_held told file bytes (Ok plan) none got p = λ files t. of_text bytes none (got files t) p
plan_held told file bytes (Err (status.BadPlan f)) none got p =
    (tt, λ files t. record { no_class = none; bytes = bytes; got = got files t; fault = p })
plan_held told file bytes (Err status.OutOfMemory) none got p = (tt, λ files t. tt)
plan_held told file bytes (Err _) none got p = absurd p
