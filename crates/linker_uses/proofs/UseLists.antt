-- The uses of constants, put together one after the other.
use Rattle.std.proofs.Common.{◌≡◌, ◌∙◌, refl, sym, ap, ℕ, suc, ◌+◌, ◌<◌, ◌==◌, Bool, true, false, not, List, [], ◌∷◌, ◌++◌, length, map, filter, Option, Some, None, take, get_or, if◌then◌else◌, append_assoc, arith}
use Rattle.std.proofs.Math.Seq.{take-suc}
use Rattle.std.proofs.lemmas.List.{append-nil, get_or_default}
use Rattle.std.proofs.lemmas.List.Elements.{filter_map-append}
use Rattle.std.proofs.lemmas.Grind.{flat_map-append}
use Rattle.std.specs.Prelude.{flat_map}
use Rattle.std.specs.List.{cons_option, filter_map}
use Rattle.jx_base.specs.declared.class_file.Code.{Code}
use Rattle.jx_base.specs.declared.class_file.Range.{Range}
use Rattle.link_model.specs.ClassFiles.{catch_uses, used_by, uses_of_code}
use Rattle.link_model.specs.declared.uses.Use.TheVariants.{AsClass}
use Rattle.link_model.specs.declared.uses.Used.{Used}
use Rattle.linker_names.specs.Names.{catch_use}
use Rattle.program_model.specs.Instructions.{instructions_of}

-- one item more of a list
pub taken : {A : Type 0} (xs : List A) (i : ℕ) (x : A) → i < length xs → x ≡ get_or xs i x → take (i + 1) xs ≡ take i xs ++ x ∷ []
taken xs i x le is = ap (λ n. take n xs) (next i) ∙ take-suc xs i x le ∙ ap (λ z. take i xs ++ z ∷ []) (sym is)
  where
    next : (i : ℕ) → i + 1 ≡ suc i
    next i = omega arith

-- what is chosen of one item more
pub chosen_more : {A B : Type 0} (f : A → Option B) (front : List B) (xs : List A) (i : ℕ) (x : A) → i < length xs → x ≡ get_or xs i x
    → front ++ filter_map f (take (i + 1) xs) ≡ (front ++ filter_map f (take i xs)) ++ cons_option (f x) []
chosen_more f front xs i x le is =
    ap (λ zs. front ++ filter_map f zs) (taken xs i x le is)
    ∙ ap (λ zs. front ++ zs) (filter_map-append f (take i xs) (x ∷ []))
    ∙ sym (append_assoc front (filter_map f (take i xs)) (cons_option (f x) []))

-- the same of the item that is read there
pub chosen_at : {A B : Type 0} (f : A → Option B) (front : List B) (xs : List A) (i : ℕ) (d : A) → i < length xs
    → front ++ filter_map f (take (i + 1) xs) ≡ (front ++ filter_map f (take i xs)) ++ cons_option (f (get_or xs i d)) []
chosen_at f front xs i d le = chosen_more f front xs i (get_or xs i d) le (get_or_default xs i d (get_or xs i d) le)

-- what the next item gives stands behind what the items before it gave
pub listed_more : {A B : Type 0} (f : A → List B) (xs : List A) (i : ℕ) (x : A) → i < length xs → x ≡ get_or xs i x
    → flat_map f (take (i + 1) xs) ≡ flat_map f (take i xs) ++ f x
listed_more f xs i x le is =
    ap (flat_map f) (taken xs i x le is) ∙ flat_map-append f (take i xs) (x ∷ []) ∙ ap (λ zs. flat_map f (take i xs) ++ zs) (append-nil (f x))

-- a range
abbrev pub some_range : Range
some_range = record { start = 0; end = 0; handler = 0; catch_type = 0 }

-- the uses as catch types are those that the table gives
catches : (rs : List Range) → filter_map catch_use rs ≡ map (λ (r : Range). record { use_of = AsClass; index = r.catch_type }) (filter (λ (r : Range). not (r.catch_type == 0)) rs)
catches [] = refl
catches (r ∷ rs) = by (r.catch_type == 0) (catches rs)
  where
    rest : List Range
    rest = filter (λ (r : Range). not (r.catch_type == 0)) rs

    by : (b : Bool) → filter_map catch_use rs ≡ map (λ (r : Range). record { use_of = AsClass; index = r.catch_type }) rest
        → cons_option (if b then None else Some (record { use_of = AsClass; index = r.catch_type })) (filter_map catch_use rs)
        ≡ map (λ (r : Range). record { use_of = AsClass; index = r.catch_type }) (if not b then r ∷ rest else rest)
    by true again = again
    by false again = ap (λ (us : List Used). record { use_of = AsClass; index = r.catch_type } ∷ us) again

-- the uses of code are those of its instructions and of its table
pub code_uses : (c : Code) → filter_map used_by (instructions_of c.code) ++ filter_map catch_use c.table ≡ uses_of_code c
unfolding uses_of_code catch_uses
code_uses c = ap (λ us. filter_map used_by (instructions_of c.code) ++ us) (catches c.table)
