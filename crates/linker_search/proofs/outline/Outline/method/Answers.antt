use Rattle.std.proofs.Common.{◌∙◌, ◌<◌, sym, ap, length}
use Rattle.std.specs.Option.{option_or}
use Rattle.jx_base.specs.Basics.{first_some}
use Rattle.link_model.specs.Linking.{own_method}
use Rattle.linker_names.specs.Names.{selector_of}
use Rattle.program_model.specs.Lookup.{chain_of, supers_of}
use Rattle.linker_search.proofs.Finding.{if_found, method_in_both, methods_within}
use Rattle.linker_search.proofs.outline.Outline.method.Goals as goal

pub returns-in-Some-clause-found : goal.returns-in-Some-clause-found
returns-in-Some-clause-found c =
    let s = c.args.self.now in
    let x = selector_of c.args.member in
    ap (λ o. option_or o (first_some (own_method s x) (supers_of s c.args.class))) c.in-Some.ensures
    ∙ method_in_both s x c.args.class

pub returns-in-Some-clause-within : goal.returns-in-Some-clause-within
returns-in-Some-clause-within c =
    methods_within c.args.self.now (selector_of c.args.member) (chain_of c.args.self.now c.args.class) c.in-Some.method (sym c.in-Some.ensures)

pub returns-in-None-clause-found : goal.returns-in-None-clause-found
returns-in-None-clause-found c =
    let s = c.args.self.now in
    let x = selector_of c.args.member in
    c.method_of_supers.ensures ∙ ap (λ o. option_or o (first_some (own_method s x) (supers_of s c.args.class))) c.in-None.ensures
    ∙ method_in_both s x c.args.class

pub returns-in-None-clause-within : goal.returns-in-None-clause-within
returns-in-None-clause-within c =
    let s = c.args.self.now in
    let x = selector_of c.args.member in
    if_found (λ m. m < length s.program.methods) c.method_of_supers.result
    (λ m e. methods_within s x (supers_of s c.args.class) m (sym c.method_of_supers.ensures ∙ e))
