use Rattle.std.proofs.Common.{rules, arith, sym, ap, ◌∙◌, ◌≡◌, Bool, ◌||◌, Some, None, drop, slice_get}
use Rattle.std.specs.Str.{bytes_eq}
use Rattle.std.proofs.lemmas.Grind.{common_steps}
use Rattle.std.proofs.lemmas.Option.{gets}
use Rattle.std.proofs.lemmas.List.{take_rest}
use Rattle.jx_base.specs.Basics.{passes}
use Rattle.program_model.specs.Lookup.{fits_type, is_below, class_of_type}
use Rattle.program_types.proofs.ClassSteps.{component_fits, fits_empty, fits_class, fits_array, component_of, no_component_of, passes_some, passes_none}
use Rattle.program_types.proofs.classes.+fits_type.Goals as goal

pub returns-in_default : goal.returns-in_default
returns-in_default t c = sym (fits_empty c.args.system.now c.args.class c.args.kind.now (omega arith))

pub returns-in-Some : goal.returns-in-Some
returns-in-Some t c =
    let s = c.args.system.now in
    c.is_below.ensures
    ∙ sym (passes_some (is_below s c.args.class) (class_of_type s c.args.kind.now) c.in-Some.other (sym c.class_of_type.ensures ∙ c.in-Some.is))
    ∙ sym (fits_class s c.args.class c.args.kind.now (omega arith) (search rules))

pub returns-in-None : goal.returns-in-None
returns-in-None t c =
    let s = c.args.system.now in
    sym (passes_none (is_below s c.args.class) (class_of_type s c.args.kind.now) (sym c.class_of_type.ensures ∙ c.in-None.is))
    ∙ sym (fits_class s c.args.class c.args.kind.now (omega arith) (search rules))

pub returns-in_default-get : goal.returns-in_default-get
returns-in_default-get t c =
    let s = c.args.system.now in
    let h = c.in_default-get.ensures.lookup in
    let e : slice_get s.program.classes c.args.class ≡ None = grind (arith, common_steps, gets) in
    sym (fits_array s c.args.class c.args.kind.now (omega arith) (search rules) ∙ ap (λ o. component_fits s o (drop 1 c.args.kind.now)) (no_component_of s c.args.class e))

pub returns-in_default-component : goal.returns-in_default-component
returns-in_default-component t c =
    let s = c.args.system.now in
    let h = c.in-Some-get.ensures.lookup in
    let e : slice_get s.program.classes c.args.class ≡ Some c.in-Some-get.found.now = grind (arith, common_steps, gets) in
    sym (fits_array s c.args.class c.args.kind.now (omega arith) (search rules)
    ∙ ap (λ o. component_fits s o (drop 1 c.args.kind.now)) (component_of s c.args.class c.in-Some-get.found.now e ∙ c.in_default-component.is))

pub returns-then-eq : goal.returns-then-eq
returns-then-eq t c =
    let s = c.args.system.now in let kind = c.args.kind.now in let rest = drop 1 kind in let component = c.in-Some-component.component in
    let h = c.in-Some-get.ensures.lookup in
    let e : slice_get s.program.classes c.args.class ≡ Some c.in-Some-get.found.now = grind (arith, common_steps, gets) in
    let whole = fits_array s c.args.class kind (omega arith) (search rules)
    ∙ ap (λ o. component_fits s o rest) (component_of s c.args.class c.in-Some-get.found.now e ∙ c.in-Some-component.is) in
    let same = ap (λ from. bytes_eq from rest) (sym c.as_slice-2.ensures) ∙ ap (bytes_eq c.as_slice-2.result.now) (sym (take_rest kind 1)) ∙ sym c.eq.ensures in
    let others = passes (λ other. fits_type s other rest) (class_of_type s component) in
    sym (whole ∙ ap (λ (b : Bool). b || others) (same ∙ c.if-eq.true))

pub returns-in-Some-class_of_type : goal.returns-in-Some-class_of_type
returns-in-Some-class_of_type t c =
    let s = c.args.system.now in let kind = c.args.kind.now in let rest = drop 1 kind in let component = c.in-Some-component.component in
    let h = c.in-Some-get.ensures.lookup in
    let e : slice_get s.program.classes c.args.class ≡ Some c.in-Some-get.found.now = grind (arith, common_steps, gets) in
    let whole = fits_array s c.args.class kind (omega arith) (search rules)
    ∙ ap (λ o. component_fits s o rest) (component_of s c.args.class c.in-Some-get.found.now e ∙ c.in-Some-component.is) in
    let same = ap (λ from. bytes_eq from rest) (sym c.as_slice-2.ensures) ∙ ap (bytes_eq c.as_slice-2.result.now) (sym (take_rest kind 1)) ∙ sym c.eq.ensures in
    let others = passes (λ other. fits_type s other rest) (class_of_type s component) in
    let other = c.in-Some-class_of_type.other in
    let found : class_of_type s component ≡ Some other = ap (class_of_type s) (sym c.as_slice-3.ensures) ∙ sym c.class_of_type-2.ensures ∙ c.in-Some-class_of_type.is in
    c.fits_type.ensures
    ∙ ap (fits_type s other) (take_rest kind 1)
    ∙ sym (passes_some (λ x. fits_type s x rest) (class_of_type s component) other found)
    ∙ sym (whole ∙ ap (λ (b : Bool). b || others) (same ∙ c.if-eq.false))

pub returns-in-None-class_of_type : goal.returns-in-None-class_of_type
returns-in-None-class_of_type t c =
    let s = c.args.system.now in let kind = c.args.kind.now in let rest = drop 1 kind in let component = c.in-Some-component.component in
    let h = c.in-Some-get.ensures.lookup in
    let e : slice_get s.program.classes c.args.class ≡ Some c.in-Some-get.found.now = grind (arith, common_steps, gets) in
    let whole = fits_array s c.args.class kind (omega arith) (search rules)
    ∙ ap (λ o. component_fits s o rest) (component_of s c.args.class c.in-Some-get.found.now e ∙ c.in-Some-component.is) in
    let same = ap (λ from. bytes_eq from rest) (sym c.as_slice-2.ensures) ∙ ap (bytes_eq c.as_slice-2.result.now) (sym (take_rest kind 1)) ∙ sym c.eq.ensures in
    let others = passes (λ other. fits_type s other rest) (class_of_type s component) in
    let found : class_of_type s component ≡ None = ap (class_of_type s) (sym c.as_slice-3.ensures) ∙ sym c.class_of_type-2.ensures ∙ c.in-None-class_of_type.is in
    sym (passes_none (λ x. fits_type s x rest) (class_of_type s component) found)
    ∙ sym (whole ∙ ap (λ (b : Bool). b || others) (same ∙ c.if-eq.false))
