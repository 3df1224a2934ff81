use Rattle.std.proofs.Common.{◌≡◌, ◌∙◌, refl, sym, ap, length, get_or, slice_get, Some, None, arith}
use Rattle.std.proofs.lemmas.Bool.{ltb-false, ltb-true}
use Rattle.std.proofs.lemmas.Option.{slice_get_past, slice_get_read}
use Rattle.jx_base.specs.declared.ids.ClassId.{ClassId}
use Rattle.linker_search.proofs.Above.{above_interface, above_nothing, above_super, above_there, no_super, past_super}
use Rattle.linker_search.proofs.walk.next_above.Goals as goal

pub returns-in_err-class-clause-next : goal.returns-in_err-class-clause-next
returns-in_err-class-clause-next c =
    let s = c.args.system.now in
    let slice = c.as_slice.result.now in
    let none : slice_get s.program.classes c.args.visit.class ≡ None =
    ap (λ ks. slice_get ks c.args.visit.class) (sym c.as_slice.ensures)
    ∙ slice_get_past slice c.args.visit.class (ltb-false c.args.visit.class (length slice) (sym c.in_err-class.ensures.lookup.0)) in
    c.from_residual.ensures ∙ ap (λ xs. slice_get xs c.args.visit.place) (sym (above_nothing s c.args.visit.class none))

pub returns-then-visit-interfaces-clause-next : goal.returns-then-visit-interfaces-clause-next
returns-then-visit-interfaces-clause-next c =
    let s = c.args.system.now in
    let slice = c.as_slice.result.now in
    let class = c.in_ok-class.class.now in
    let found : slice_get s.program.classes c.args.visit.class ≡ Some class =
    ap (λ ks. slice_get ks c.args.visit.class) (sym c.as_slice.ensures)
    ∙ slice_get_read slice (length slice) c.args.visit.class class refl (ltb-true c.args.visit.class (length slice) (sym c.in_ok-class.ensures.lookup.0)) c.in_ok-class.ensures.lookup.1 in
    let interfaces = c.as_slice-interfaces.ensures in
    let zero : ClassId = record { 0 = 0 } in
    ap (λ is. Some ((get_or is c.args.visit.place zero).0)) interfaces
    ∙ sym (above_interface class c.args.visit.place zero (omega (arith, ap length interfaces, c.if-visit-interfaces.true)))
    ∙ ap (λ xs. slice_get xs c.args.visit.place) (sym (above_there s c.args.visit.class class found))

pub returns-then-visit-interfaces-2-clause-next : goal.returns-then-visit-interfaces-2-clause-next
returns-then-visit-interfaces-2-clause-next c =
    let s = c.args.system.now in
    let slice = c.as_slice.result.now in
    let class = c.in_ok-class.class.now in
    let found : slice_get s.program.classes c.args.visit.class ≡ Some class =
    ap (λ ks. slice_get ks c.args.visit.class) (sym c.as_slice.ensures)
    ∙ slice_get_read slice (length slice) c.args.visit.class class refl (ltb-true c.args.visit.class (length slice) (sym c.in_ok-class.ensures.lookup.0)) c.in_ok-class.ensures.lookup.1 in
    let interfaces = c.as_slice-interfaces.ensures in
    sym (past_super class c.args.visit.place (omega (arith, ap length interfaces, c.if-visit-interfaces-2.true)))
    ∙ ap (λ xs. slice_get xs c.args.visit.place) (sym (above_there s c.args.visit.class class found))

pub returns-in-Some-clause-next : goal.returns-in-Some-clause-next
returns-in-Some-clause-next c =
    let s = c.args.system.now in
    let slice = c.as_slice.result.now in
    let class = c.in_ok-class.class.now in
    let found : slice_get s.program.classes c.args.visit.class ≡ Some class =
    ap (λ ks. slice_get ks c.args.visit.class) (sym c.as_slice.ensures)
    ∙ slice_get_read slice (length slice) c.args.visit.class class refl (ltb-true c.args.visit.class (length slice) (sym c.in_ok-class.ensures.lookup.0)) c.in_ok-class.ensures.lookup.1 in
    let interfaces = c.as_slice-interfaces.ensures in
    sym (above_super class c.args.visit.place c.in-Some.parent (omega (arith, ap length interfaces, c.if-visit-interfaces.false, c.if-visit-interfaces-2.false)) c.in-Some.is)
    ∙ ap (λ xs. slice_get xs c.args.visit.place) (sym (above_there s c.args.visit.class class found))

pub returns-in-None-clause-next : goal.returns-in-None-clause-next
returns-in-None-clause-next c =
    let s = c.args.system.now in
    let slice = c.as_slice.result.now in
    let class = c.in_ok-class.class.now in
    let found : slice_get s.program.classes c.args.visit.class ≡ Some class =
    ap (λ ks. slice_get ks c.args.visit.class) (sym c.as_slice.ensures)
    ∙ slice_get_read slice (length slice) c.args.visit.class class refl (ltb-true c.args.visit.class (length slice) (sym c.in_ok-class.ensures.lookup.0)) c.in_ok-class.ensures.lookup.1 in
    let interfaces = c.as_slice-interfaces.ensures in
    sym (no_super class c.args.visit.place (omega (arith, ap length interfaces, c.if-visit-interfaces.false)) c.in-None.is)
    ∙ ap (λ xs. slice_get xs c.args.visit.place) (sym (above_there s c.args.visit.class class found))
