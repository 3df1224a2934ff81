use Rattle.std.proofs.Common.{◌∙◌, ap, position}
use Rattle.std.specs.Str.{bytes_eq}
use Rattle.program_model.specs.Lookup.{class_named}
use Rattle.linker_search.proofs.Finding.{place_of_name}
use Rattle.linker_search.proofs.outline.Outline.class_named.Goals as goal

pub returns-clause-found : goal.returns-clause-found
returns-clause-found c =
    c.find.ensures ∙ ap (position (bytes_eq c.args.name.now)) c.self.invariant.names
    ∙ place_of_name c.args.name.now c.self.inside.system
    ∙ ap (λ s. class_named s c.args.name.now) c.self.view_is
