-- Method descriptors that are read unit by unit.
use Rattle.std.proofs.Common.{◌≡◌, ◌≢◌, refl, sym, ◌∙◌, ap, subst, ℕ, ◌+◌, ◌<◌, ◌≤◌, Bool, true, false, List, [], ◌∷◌, ◌++◌, length, take, drop, get_or, arith, ◌==◌, if◌then◌else◌}
use Rattle.std.proofs.lemmas.Bool.Decides.{nat_tests}
use Rattle.std.proofs.lemmas.List.{drop_more, take_more, drop_all}
use Rattle.program_model.specs.Types.{Scan, Signature, scan_with, signature_from, with_parameters}

-- ---- one unit

-- what is scanned, and the signature behind it
abbrev scanned : Scan → List ℕ → Signature
scanned x rest = with_parameters x.whole (signature_from x.part x.in_name rest)

-- a type that the unit ends
abbrev ended : List ℕ → ℕ → Scan
ended part u = record { part = []; in_name = false; whole = (part ++ u ∷ []) ∷ [] }

-- a type that goes on behind the unit
abbrev open_part : List ℕ → Bool → ℕ → Scan
open_part part in_name u = record { part = part ++ u ∷ []; in_name = in_name; whole = [] }

module _ (part rest : List ℕ) (u : ℕ) where
  name_ends : u ≡ 59 → signature_from part true (u ∷ rest) ≡ with_parameters ((part ++ u ∷ []) ∷ []) (signature_from [] false rest)
  unfolding signature_from scan_with with_parameters
  name_ends e = subst (λ v. signature_from part true (v ∷ rest) ≡ with_parameters ((part ++ v ∷ []) ∷ []) (signature_from [] false rest)) (sym e) refl

  name_goes_on : u ≢ 59 → signature_from part true (u ∷ rest) ≡ signature_from (part ++ u ∷ []) true rest
  unfolding signature_from scan_with with_parameters
  name_goes_on n =
      let t : (u == 59) ≡ false = grind (arith, nat_tests) in
      ap (λ (b : Bool). scanned (if b then ended part u else open_part part true u) rest) t

  closes : u ≡ 41 → signature_from part false (u ∷ rest) ≡ record { parameters = []; result = rest }
  unfolding signature_from scan_with with_parameters
  closes e = subst (λ v. signature_from part false (v ∷ rest) ≡ record { parameters = []; result = rest }) (sym e) refl

  name_begins : u ≡ 76 → signature_from part false (u ∷ rest) ≡ signature_from (part ++ u ∷ []) true rest
  unfolding signature_from scan_with with_parameters
  name_begins e = subst (λ v. signature_from part false (v ∷ rest) ≡ signature_from (part ++ v ∷ []) true rest) (sym e) refl

  dimension : u ≡ 91 → signature_from part false (u ∷ rest) ≡ signature_from (part ++ u ∷ []) false rest
  unfolding signature_from scan_with with_parameters
  dimension e = subst (λ v. signature_from part false (v ∷ rest) ≡ signature_from (part ++ v ∷ []) false rest) (sym e) refl

  letter : u ≢ 41 → u ≢ 76 → u ≢ 91 → signature_from part false (u ∷ rest) ≡ with_parameters ((part ++ u ∷ []) ∷ []) (signature_from [] false rest)
  unfolding signature_from scan_with with_parameters
  letter closing name array =
      let a : (u == 41) ≡ false = grind (arith, nat_tests) in
      let b : (u == 91) ≡ false = grind (arith, nat_tests) in
      let c : (u == 76) ≡ false = grind (arith, nat_tests) in
      ap (λ (t : Bool). elim t as (λ _. Signature) [
        | true ↦ record { parameters = []; result = rest }
        | false ↦ scanned (if u == 91 then open_part part false u else if u == 76 then open_part part true u else ended part u) rest
      ]) a
      ∙ ap (λ (t : Bool). scanned (if t then open_part part false u else if u == 76 then open_part part true u else ended part u) rest) b
      ∙ ap (λ (t : Bool). scanned (if t then open_part part true u else ended part u) rest) c

-- one parameter more in front leaves the result
pub same_result : (kind : List ℕ) (x : Signature) → (with_parameters (kind ∷ []) x).result ≡ x.result
unfolding with_parameters
same_result kind x = refl

-- and is one more of them
pub one_parameter : (kind : List ℕ) (x : Signature) → length (with_parameters (kind ∷ []) x).parameters ≡ 1 + length x.parameters
unfolding with_parameters
one_parameter kind x = omega arith

-- ---- one more unit of many

-- from unit i on, where a type goes on
abbrev pub from_unit : List ℕ → Bool → ℕ → Signature
from_unit units in_name i = signature_from (take i units) in_name (drop i units)

pub from_first : (units : List ℕ) → signature_from [] false units ≡ from_unit units false 0
from_first units = refl

pub from_last : (units : List ℕ) (in_name : Bool) (i : ℕ) → length units ≤ i → from_unit units in_name i ≡ record { parameters = []; result = [] }
unfolding signature_from
from_last units in_name i le = ap (signature_from (take i units) in_name) (drop_all i units le)

module _ (units : List ℕ) (i : ℕ) (lt : i < length units) where
  -- the part before a unit and the unit
  with_unit : take i units ++ get_or units i 0 ∷ [] ≡ take (i + 1) units
  with_unit = sym (take_more units i 0 lt)

  here : (in_name : Bool) → from_unit units in_name i ≡ signature_from (take i units) in_name (get_or units i 0 ∷ drop (i + 1) units)
  here in_name = ap (signature_from (take i units) in_name) (drop_more units i 0 lt)

  on : (in_name : Bool) → signature_from (take i units ++ get_or units i 0 ∷ []) in_name (drop (i + 1) units) ≡ from_unit units in_name (i + 1)
  on in_name = ap (λ part. signature_from part in_name (drop (i + 1) units)) with_unit

  ends : with_parameters ((take i units ++ get_or units i 0 ∷ []) ∷ []) (signature_from [] false (drop (i + 1) units))
      ≡ with_parameters (take (i + 1) units ∷ []) (signature_from [] false (drop (i + 1) units))
  ends = ap (λ part. with_parameters (part ∷ []) (signature_from [] false (drop (i + 1) units))) with_unit

  pub at_name_end : get_or units i 0 ≡ 59 → from_unit units true i ≡ with_parameters (take (i + 1) units ∷ []) (signature_from [] false (drop (i + 1) units))
  at_name_end e = here true ∙ name_ends (take i units) (drop (i + 1) units) (get_or units i 0) e ∙ ends

  pub within_name : get_or units i 0 ≢ 59 → from_unit units true i ≡ from_unit units true (i + 1)
  within_name n = here true ∙ name_goes_on (take i units) (drop (i + 1) units) (get_or units i 0) n ∙ on true

  pub at_closing : get_or units i 0 ≡ 41 → from_unit units false i ≡ record { parameters = []; result = drop (i + 1) units }
  at_closing e = here false ∙ closes (take i units) (drop (i + 1) units) (get_or units i 0) e

  pub at_name : get_or units i 0 ≡ 76 → from_unit units false i ≡ from_unit units true (i + 1)
  at_name e = here false ∙ name_begins (take i units) (drop (i + 1) units) (get_or units i 0) e ∙ on true

  pub at_dimension : get_or units i 0 ≡ 91 → from_unit units false i ≡ from_unit units false (i + 1)
  at_dimension e = here false ∙ dimension (take i units) (drop (i + 1) units) (get_or units i 0) e ∙ on false

  pub at_letter : get_or units i 0 ≢ 41 → get_or units i 0 ≢ 76 → get_or units i 0 ≢ 91 →
      from_unit units false i ≡ with_parameters (take (i + 1) units ∷ []) (signature_from [] false (drop (i + 1) units))
  at_letter closing name array = here false ∙ letter (take i units) (drop (i + 1) units) (get_or units i 0) closing name array ∙ ends
