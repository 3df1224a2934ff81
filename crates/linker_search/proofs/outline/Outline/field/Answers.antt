use Rattle.std.proofs.Common.{◌∙◌, sym, arith}
use Rattle.link_model.specs.Linking.{own_field}
use Rattle.linker_names.specs.Names.{selector_of}
use Rattle.linker_search.proofs.Finding.{field_in_supers, found_at, found_later, found_nowhere}
use Rattle.linker_search.proofs.outline.Outline.field.Goals as goal

pub returns-in-Some : goal.returns-in-Some
returns-in-Some c =
    let own = own_field c.args.self.now (selector_of c.args.member) in
    sym (found_at own c.supers-above-items.result.now c.loop-above.above-index 0 c.in-Some.field (omega arith) (sym c.in-Some.ensures))
    ∙ sym c.loop-above.invariant ∙ field_in_supers c.args.self.now (selector_of c.args.member) c.args.class

pub loop-above-preserved : goal.loop-above-preserved
loop-above-preserved c =
    let own = own_field c.args.self.now (selector_of c.args.member) in
    c.loop-above.invariant
    ∙ found_later own c.supers-above-items.result.now c.loop-above.above-index 0 (omega arith) (sym c.in_default.ensures)

pub returns : goal.returns
returns c =
    let own = own_field c.args.self.now (selector_of c.args.member) in
    sym (found_nowhere own c.supers-above-items.result.now c.loop-above.above-index (omega arith))
    ∙ sym c.loop-above.invariant ∙ field_in_supers c.args.self.now (selector_of c.args.member) c.args.class
