-- A method's attributes, one behind the other.
use Rattle.std.proofs.Common.{◌≡◌, ℕ, suc, ◌-◌, ◌+◌, ◌≤◌, ◌<◌, List, Bool, true, false, Option, Result, Ok, Err, refl, sym, ap, ◌∙◌, arith}
use Rattle.std.specs.Prelude.{if◌then◌else◌}
use Rattle.jx_base.specs.declared.class_file.Code.{Code}
use Rattle.jx_base.specs.declared.class_file.Constant.{Constant}
use Rattle.jx_base.specs.declared.fault.ClassFault.{ClassFault}
use Rattle.class_grammar.specs.Parts.{onward}
use Rattle.class_grammar.specs.Members.{method_attributes}
use Rattle.jx_base.specs.declared.error.Error.{Error}
use Rattle.jx_base.specs.declared.error.Error.TheVariants as error
use Rattle.class_reader.specs.Attributes.{method_attribute}
use Rattle.jx_base.specs.Answers.{Fails}

abbrev Read : Type 0 → Type 0
Read A = Result (A × List ℕ) ClassFault

onward_onward : {A B C : Type 0} (r : Read A) (f : A → List ℕ → Read B) (g : B → List ℕ → Read C) → onward (onward r f) g ≡ onward r (λ x rest. onward (f x rest) g)
onward_onward (Ok x) f g = refl
onward_onward (Err e) f g = refl

onward_if : {A B : Type 0} (t : Bool) (p q : Read A) (g : A → List ℕ → Read B) → onward (if t then p else q) g ≡ (if t then onward p g else onward q g)
onward_if true p q g = refl
onward_if false p q g = refl

module _ (size : ℕ) (constants : List Constant) (may_have : Bool) where
  -- one attribute and the others
  pub one_more : (k : ℕ) (code : Option Code) (text : List ℕ)
      → (method_attributes size constants may_have (suc k) code).reads text
      ≡ onward ((method_attribute size constants may_have code).reads text) (λ found rest. (method_attributes size constants may_have k found).reads rest)
  unfolding method_attributes method_attribute
  one_more k code text = simp (onward_onward, onward_if)

  pub goes_on : (n i : ℕ) (code found : Option Code) (text after : List ℕ) (total : Read (Option Code)) → i < n → (method_attribute size constants may_have code).reads text ≡ Ok (found, after)
      → (method_attributes size constants may_have (n - i) code).reads text ≡ total → (method_attributes size constants may_have (n - (i + 1)) found).reads after ≡ total
  goes_on n i code found text after total lt h so_far =
      let k : n - i ≡ suc (n - (i + 1)) = omega arith in
      sym (ap (λ m. (method_attributes size constants may_have m code).reads text) k ∙ one_more (n - (i + 1)) code text ∙ ap (λ (r : Read (Option Code)). onward r (λ c rest. (method_attributes size constants may_have (n - (i + 1)) c).reads rest)) h) ∙ so_far

  pub ends : (e : Error ClassFault) (n i : ℕ) (code : Option Code) (text : List ℕ) (total : Read (Option Code)) → i < n → Fails e ((method_attribute size constants may_have code).reads text)
      → (method_attributes size constants may_have (n - i) code).reads text ≡ total → Fails e total
  ends error.OutOfMemory n i code text total lt h so_far = tt
  ends (error.Bad f) n i code text total lt h so_far =
      let k : n - i ≡ suc (n - (i + 1)) = omega arith in
      sym so_far ∙ (ap (λ m. (method_attributes size constants may_have m code).reads text) k ∙ one_more (n - (i + 1)) code text ∙ ap (λ (r : Read (Option Code)). onward r (λ c rest. (method_attributes size constants may_have (n - (i + 1)) c).reads rest)) h)

  pub is_done : (n i : ℕ) (code : Option Code) (text : List ℕ) (total : Read (Option Code)) → n ≤ i → (method_attributes size constants may_have (n - i) code).reads text ≡ total → total ≡ Ok (code, text)
  unfolding method_attributes
  is_done n i code text total le so_far =
      let k : n - i ≡ 0 = omega arith in
      sym so_far ∙ ap (λ m. (method_attributes size constants may_have m code).reads text) k
