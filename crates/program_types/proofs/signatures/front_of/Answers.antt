use Rattle.std.proofs.Common.{arith, sym, ap, ◌∙◌, ◌≡◌, ◌+◌, Bool, true, false, [], ◌∷◌, take}
use Rattle.std.proofs.lemmas.List.{take_rest}
use Rattle.program_model.specs.Types.{signature_from, with_parameters}
use Rattle.program_types.proofs.SignatureSteps.{from_unit, from_first, from_last, at_name_end, within_name, at_closing, at_name, at_dimension, at_letter}
use Rattle.program_types.proofs.signatures.front_of.Goals.{then-in_name+else-unit-eq-NAME_END, else-in_name+else-unit-eq-CLOSING+then-unit-eq-CLASS_MARK, else-in_name+else-unit-eq-CLOSING+else-unit-eq-CLASS_MARK+else-unit-ne-ARRAY_MARK}
use Rattle.program_types.proofs.signatures.front_of.Goals as goal

pub loop-place-init : goal.loop-place-init
loop-place-init c = from_first c.args.units.now

pub returns-then-unit-eq-NAME_END-clause-signature : goal.returns-then-unit-eq-NAME_END-clause-signature
returns-then-unit-eq-NAME_END-clause-signature c =
    let units = c.args.units.now in let i = c.loop-place.place in
    c.loop-place.invariant
    ∙ ap (λ b. from_unit units b i) c.if-in_name.true
    ∙ at_name_end units i c.loop-place-test.true c.if-unit-eq-NAME_END.true
    ∙ ap (λ rest. with_parameters (take (i + 1) units ∷ []) (signature_from [] false rest)) (sym (take_rest units (i + 1)))

pub returns-then-unit-eq-CLOSING-clause-signature : goal.returns-then-unit-eq-CLOSING-clause-signature
returns-then-unit-eq-CLOSING-clause-signature c =
    let units = c.args.units.now in let i = c.loop-place.place in
    c.loop-place.invariant
    ∙ ap (λ b. from_unit units b i) c.if-in_name.false
    ∙ at_closing units i c.loop-place-test.true c.if-unit-eq-CLOSING.true
    ∙ ap (λ rest. record { parameters = []; result = rest }) (sym (take_rest units (i + 1)))

pub returns-then-unit-ne-ARRAY_MARK-clause-signature : goal.returns-then-unit-ne-ARRAY_MARK-clause-signature
returns-then-unit-ne-ARRAY_MARK-clause-signature c =
    let units = c.args.units.now in let i = c.loop-place.place in
    c.loop-place.invariant
    ∙ ap (λ b. from_unit units b i) c.if-in_name.false
    ∙ at_letter units i c.loop-place-test.true c.if-unit-eq-CLOSING.false c.if-unit-eq-CLASS_MARK.false c.if-unit-ne-ARRAY_MARK.true
    ∙ ap (λ rest. with_parameters (take (i + 1) units ∷ []) (signature_from [] false rest)) (sym (take_rest units (i + 1)))

pub loop-place-preserved : goal.loop-place-preserved
loop-place-preserved c =
    let units = c.args.units.now in let i = c.loop-place.place in
    let lt = c.loop-place-test.true in
    let to : (b : Bool) → c.if-in_name.in_name ≡ b → from_unit units b (i + 1) ≡ from_unit units c.if-in_name.in_name (i + 1) = λ b e. ap (λ b. from_unit units b (i + 1)) (sym e) in
    let of : (b : Bool) → c.loop-place.in_name ≡ b → from_unit units c.loop-place.in_name i ≡ from_unit units b i = λ b e. ap (λ b. from_unit units b i) e in
    c.loop-place.invariant ∙ (elim c.if-in_name.branch [
      | then-in_name+else-unit-eq-NAME_END w ↦ of true w.if-in_name.true ∙ within_name units i lt w.if-unit-eq-NAME_END.false ∙ to true (w.in_name-is ∙ w.if-in_name.true)
      | else-in_name+else-unit-eq-CLOSING+then-unit-eq-CLASS_MARK w ↦ of false w.if-in_name.false ∙ at_name units i lt w.if-unit-eq-CLASS_MARK.true ∙ to true w.in_name-is
      | else-in_name+else-unit-eq-CLOSING+else-unit-eq-CLASS_MARK+else-unit-ne-ARRAY_MARK w ↦ of false w.if-in_name.false ∙ at_dimension units i lt w.if-unit-ne-ARRAY_MARK.false ∙ to false (w.in_name-is ∙ w.if-in_name.false)
    ])

pub returns-clause-signature : goal.returns-clause-signature
returns-clause-signature c = c.loop-place.invariant ∙ from_last c.args.units.now c.loop-place.in_name c.loop-place.place (omega (arith, c.loop-place-test.false))
