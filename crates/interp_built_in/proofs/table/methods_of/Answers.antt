use Rattle.std.proofs.Common.{◌≡◌, refl, sym, ◌∙◌}
use Rattle.jx_base.proofs.BasicLaws.{eq_of}
use Rattle.program_model.specs.BuiltIn.{opened_built_in}
use Rattle.program_model.specs.Types.{opened_types}
use Rattle.machine_model.specs.BuiltInMethods.{effects_of, object_effects, string_effects, builder_effects, constructor_effects, message_effects, zero_effects, memory_effects, built_in_method}
use Rattle.interp_built_in.specs.BuiltIns.{effect_of}
use Rattle.interp_built_in.proofs.TableSteps.{other_effects}
use Rattle.interp_built_in.proofs.table.methods_of.Goals as goal

pub returns-then-eq-clause-effects : goal.returns-then-eq-clause-effects
unfolding effects_of object_effects built_in_method effect_of opened_built_in
returns-then-eq-clause-effects c = let e : c.args.class.0 ≡ 0 = eq_of c.args.class.0 0 (sym c.eq.ensures ∙ c.if-eq.true) in rw e refl

pub returns-then-eq-2-clause-effects : goal.returns-then-eq-2-clause-effects
unfolding effects_of string_effects built_in_method effect_of opened_built_in
returns-then-eq-2-clause-effects c = let e : c.args.class.0 ≡ 1 = eq_of c.args.class.0 1 (sym c.eq-else-eq.ensures ∙ c.if-eq-2.true) in rw e refl

pub returns-then-eq-3-clause-effects : goal.returns-then-eq-3-clause-effects
unfolding effects_of builder_effects built_in_method effect_of opened_built_in
returns-then-eq-3-clause-effects c = let e : c.args.class.0 ≡ 2 = eq_of c.args.class.0 2 (sym c.eq-else-eq-2.ensures ∙ c.if-eq-3.true) in rw e refl

pub returns-then-eq-4-clause-effects : goal.returns-then-eq-4-clause-effects
unfolding effects_of constructor_effects message_effects built_in_method effect_of opened_built_in
returns-then-eq-4-clause-effects c = let e : c.args.class.0 ≡ 3 = eq_of c.args.class.0 3 (sym c.eq-else-eq-3.ensures ∙ c.if-eq-4.true) in rw e refl

pub returns-then-eq-5-clause-effects : goal.returns-then-eq-5-clause-effects
unfolding effects_of built_in_method effect_of opened_built_in
returns-then-eq-5-clause-effects c = let e : c.args.class.0 ≡ 18 = eq_of c.args.class.0 18 (sym c.eq-else-eq-4.ensures ∙ c.if-eq-5.true) in rw e refl

pub returns-then-eq-6-clause-effects : goal.returns-then-eq-6-clause-effects
unfolding effects_of zero_effects built_in_method effect_of opened_built_in
returns-then-eq-6-clause-effects c = let e : c.args.class.0 ≡ 19 = eq_of c.args.class.0 19 (sym c.eq-else-eq-5.ensures ∙ c.if-eq-6.true) in rw e refl

pub returns-then-eq-7-clause-effects : goal.returns-then-eq-7-clause-effects
unfolding effects_of memory_effects built_in_method effect_of opened_built_in
returns-then-eq-7-clause-effects c = let e : c.args.class.0 ≡ 20 = eq_of c.args.class.0 20 (sym c.eq-else-eq-6.ensures ∙ c.if-eq-7.true) in rw e refl

pub returns-then-eq-6-clause-parameters : goal.returns-then-eq-6-clause-parameters
unfolding opened_types
returns-then-eq-6-clause-parameters c = (refl, (refl, (refl, (refl, (tt, (refl, (tt, (tt, (tt, tt)))))))))

pub returns-else-eq-7-clause-effects : goal.returns-else-eq-7-clause-effects
unfolding constructor_effects built_in_method effect_of opened_built_in
returns-else-eq-7-clause-effects c = other_effects c.args.class.0 (sym c.eq.ensures ∙ c.if-eq.false) (sym c.eq-else-eq.ensures ∙ c.if-eq-2.false) (sym c.eq-else-eq-2.ensures ∙ c.if-eq-3.false) (sym c.eq-else-eq-3.ensures ∙ c.if-eq-4.false) (sym c.eq-else-eq-4.ensures ∙ c.if-eq-5.false) (sym c.eq-else-eq-5.ensures ∙ c.if-eq-6.false) (sym c.eq-else-eq-6.ensures ∙ c.if-eq-7.false)
