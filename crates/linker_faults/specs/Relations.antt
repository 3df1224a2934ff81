-- Interfaces of a template.
use Rattle.std.specs.Prelude.{ℕ, List, Bool, slice_get}
use Rattle.std.specs.Option.{option_and_then}
use Rattle.class_grammar.specs.Flags.{is_interface_flag}
use Rattle.jx_base.specs.Basics.{passes}
use Rattle.link_model.specs.LinkFaults.{listed_place}
use Rattle.linker_faults.specs.Hierarchies.{OfFiles}

-- whether the template lists an interface of that name
abbrev pub lists_interface : OfFiles → List ℕ → Bool
lists_interface h name = passes (λ f. is_interface_flag f.flags) (option_and_then (slice_get h.files) (listed_place h.plan h.template name))
