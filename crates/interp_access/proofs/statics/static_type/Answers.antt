-- The classes before have none of the fields from there on.
use Rattle.std.proofs.Common.{◌≡◌, ◌+◌, ◌-◌, ◌<◌, ◌≤◌, List, ℕ, ◌∙◌, sym, ap, Some, get_or, slice_get, length, arith}
use Rattle.std.proofs.lemmas.Option.{slice_get-get_or}
use Rattle.jx_base.specs.declared.program.Class.{Class}
use Rattle.jx_base.specs.declared.program.Field.{Field}
use Rattle.interp_access.proofs.StaticTypes.{from, here, later, none, whole}
use Rattle.interp_access.proofs.statics.static_type.Goals as goal

pub loop-class-init : goal.loop-class-init
loop-class-init c = whole c.args.system.now c.args.place

pub returns-then-left-statics : goal.returns-then-left-statics
returns-then-left-statics c =
    let classes = c.args.system.now.program.classes in let k = c.class-item.result in
    let i : c.loop-class.class-index < length classes = omega (arith, ap length c.as_slice-class-items.ensures, c.loop-class-test.true) in
    let item : k ≡ get_or classes c.loop-class.class-index k = c.class-item.is ∙ ap (λ (cs : List Class). get_or cs c.loop-class.class-index k) c.as_slice-class-items.ensures in
    let l : c.loop-class.left < length k.statics = omega (arith, ap length c.as_slice-statics.ensures, c.if-left-statics.true) in
    let f = get_or k.statics c.loop-class.left c.index-statics-left.result in
    ap Some (c.as_slice.ensures ∙ ap (λ (fs : List Field). (get_or fs c.loop-class.left c.index-statics-left.result).descriptor) c.as_slice-statics.ensures)
    ∙ here classes c.loop-class.class-index c.loop-class.left k f i item l (slice_get-get_or k.statics c.loop-class.left c.index-statics-left.result l)
    ∙ c.loop-class.invariant

pub loop-class-preserved : goal.loop-class-preserved
loop-class-preserved c =
    let classes = c.args.system.now.program.classes in let k = c.class-item.result in
    let i : c.loop-class.class-index < length classes = omega (arith, ap length c.as_slice-class-items.ensures, c.loop-class-test.true) in
    let item : k ≡ get_or classes c.loop-class.class-index k = c.class-item.is ∙ ap (λ (cs : List Class). get_or cs c.loop-class.class-index k) c.as_slice-class-items.ensures in
    let n = ap length c.as_slice-statics.ensures in
    let l : length k.statics ≤ c.loop-class.left = omega (arith, n, c.if-left-statics.false) in
    ap (λ (m : ℕ). slice_get (from classes (c.loop-class.class-index + 1)) (c.loop-class.left - m)) n
    ∙ sym (later classes c.loop-class.class-index c.loop-class.left k i item l) ∙ c.loop-class.invariant

pub returns : goal.returns
returns c =
    let classes = c.args.system.now.program.classes in
    sym (none classes c.loop-class.class-index c.loop-class.left (omega (arith, ap length c.as_slice-class-items.ensures, c.loop-class-test.false))) ∙ c.loop-class.invariant
