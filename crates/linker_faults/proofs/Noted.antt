-- Notes of the files in which no member stands twice.
use Rattle.std.proofs.Common.{◌≡◌, ◌∙◌, refl, sym, subst, ℕ, ◌==◌, Bool, true, false, List, [], ◌∷◌, ◌++◌, Option, Some, None, is_some, slice_get}
use Rattle.std.specs.Prelude.{if◌then◌else◌}
use Rattle.std.specs.List.{list_any}
use Rattle.jx_base.specs.Basics.{contains_number, first_fault}
use Rattle.jx_base.specs.declared.class_file.ClassFile.{ClassFile}
use Rattle.link_laws.proofs.Lists.{number_among, of_each, same_there}
use Rattle.link_model.specs.declared.fault.LinkFault.{LinkFault}
use Rattle.link_model.specs.declared.fault.LinkKind.TheVariants.{Twice}
use Rattle.link_model.specs.LinkFaults.{named_fault, repeated_name}
use Rattle.linker_faults.specs.Repeats.{HasNoRepeats, HaveNoRepeats, twice_fault}
use Rattle.linker_faults.proofs.Growing.{has_turned}

-- the fault of two names, each of which there may be
abbrev of_two : List ℕ → Option (List ℕ) → Option (List ℕ) → Option LinkFault
of_two class field method = first_fault (named_fault class Twice field ∷ named_fault class Twice method ∷ [])

-- without a fault there are no such names
no_names : (class : List ℕ) (field method : Option (List ℕ)) → of_two class field method ≡ None → (field ≡ None) × (method ≡ None)
unfolding first_fault named_fault
no_names class None None h = (refl, refl)
no_names class None (Some m) h = absurd cc
no_names class (Some f) method h = absurd cc

-- without such names there is no fault
no_fault : (class : List ℕ) (field method : Option (List ℕ)) → field ≡ None → method ≡ None → None ≡ of_two class field method
unfolding first_fault named_fault
no_fault class None None h k = refl
no_fault class None (Some m) h k = absurd cc
no_fault class (Some f) method h k = absurd cc

module _ (files : List ClassFile) (places : List ℕ) (place : ℕ) (name : List ℕ) (f : ClassFile) (noted : HaveNoRepeats files places) (at : slice_get files place ≡ Some f) where
  -- a class that was noted has no fault
  pub noted_none : list_any (λ p. place == p) places ≡ true → None ≡ twice_fault name f
  unfolding contains_number
  noted_none h =
      let none = of_each (HasNoRepeats files) places place noted (number_among places place (sym (has_turned places place) ∙ h)) f at in
      no_fault name (repeated_name f.fields) (repeated_name f.methods) none.0 none.1

  -- a class without a fault may be noted
  pub note_none : None ≡ twice_fault name f → (new : List ℕ) → new ≡ (if list_any (λ p. place == p) places then places else places ++ place ∷ []) → HaveNoRepeats files new
  note_none h new made = subst (HaveNoRepeats files) (sym made) (by (list_any (λ p. place == p) places))
    where
      here : HasNoRepeats files place
      here g e =
          let same = same_there f g (sym at ∙ e) in
          subst (λ k. (repeated_name k.fields ≡ None) × (repeated_name k.methods ≡ None)) same (no_names name (repeated_name f.fields) (repeated_name f.methods) (sym h))

      behind : (ps : List ℕ) → HaveNoRepeats files ps → HaveNoRepeats files (ps ++ place ∷ [])
      behind [] k = (here, tt)
      behind (p ∷ ps) k = (k.0, behind ps k.1)

      by : (b : Bool) → HaveNoRepeats files (if b then places else places ++ place ∷ [])
      by true = noted
      by false = behind places noted

-- a value that isn't there is none
pub none_of : {A : Type 0} (o : Option A) → is_some o ≡ false → None ≡ o
none_of None h = refl
none_of (Some x) h = absurd cc
