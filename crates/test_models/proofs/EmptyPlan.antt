-- The plan without domains.
use Rattle.std.specs.Prelude.{◌≡◌, refl, [], ◌∷◌, codes}
use Rattle.std.specs.Fmt.{digits}
use Rattle.jx_base.specs.declared.program.System.{System}
use Rattle.opened_models.specs.Opened.{opened_model}
use Rattle.test_models.proofs.TestSystems.{texts, audit_of, built_in}

-- a machine of one granule
abbrev pub empty_system : System
empty_system =
    record {
      plan = record { granules = 1; journal = 1048576; templates = []; classes = [] };
      program = record { classes = built_in; methods = []; selectors = [] };
    }

empty_run : audit_of empty_system
    ≡ texts (
    codes "jx audit 1"
    ∷ codes "1 0 0 quiet -> done"
    ∷ codes "console"
    ∷ codes "domains"
    ∷ codes "calls"
    ∷ codes "memory 0 of 1"
    ∷ codes "words 0 of 1048576"
    ∷ codes "end quiet"
    ∷ []
    )
unfolding digits opened_model
empty_run = refl
