use Rattle.std.proofs.Common.{◌∙◌, ◌++◌, ap, sym, map, take, get_or, length, arith}
use Rattle.std.proofs.lemmas.List.{take_all}
use Rattle.jx_base.specs.declared.program.Field.{Field}
use Rattle.machine_model.specs.State.{default_of, static_types, static_types_of}
use Rattle.machine_start.proofs.Defaults.{defaults_more}
use Rattle.machine_start.proofs.cores.first_statics.Goals as goal

pub loop-class-init : goal.loop-class-init
unfolding static_types_of
loop-class-init c = c.new-values.ensures.items

pub loop-class-preserved : goal.loop-class-preserved
loop-class-preserved c =
    let classes = c.args.system.now.program.classes in
    let i = c.loop-class.class-index in
    let k = c.class-item.result in
    let same = c.as_slice-class-items.ensures in
    let before = map default_of (static_types_of (take i classes)) in
    let fields = c.as_slice.result.now in
    c.in_ok-add_defaults.ensures
    ∙ ap (λ vs. vs ++ map (λ (f : Field). default_of f.descriptor) fields) c.loop-class.invariant
    ∙ ap (λ fs. before ++ map (λ (f : Field). default_of f.descriptor) fs) c.as_slice.ensures
    ∙ sym (defaults_more classes i k (omega (arith, c.loop-class-test.true, ap length same)) (c.class-item.is ∙ ap (λ ks. get_or ks i k) same))

pub returns : goal.returns
unfolding static_types
returns c =
    c.loop-class.invariant
    ∙ ap (λ ks. map default_of (static_types_of ks))
    (take_all c.loop-class.class-index c.args.system.now.program.classes (omega (arith, c.loop-class-test.false, ap length c.as_slice-class-items.ensures)))
