-- The history with calls is admitted.
use Rattle.std.specs.Prelude.{◌≡◌, refl, List, codes, reverse}
use Rattle.std.proofs.Common.{arith, subst, sym}
use Rattle.jx_base.specs.declared.act.Entry.{Entry}
use Rattle.jx_base.specs.declared.program.System.{System}
use Rattle.jx_base.specs.Histories.{Past}
use Rattle.jx_model.specs.Legal.{IsAdmittedPast}
use Rattle.jx_model.specs.WellMade.{IsParcelIn}
use Rattle.program_model.specs.Ranges.{IsServiceName}
use Rattle.opened_models.specs.Opened.{opened_model}
use Rattle.test_audit_text.specs.HandMade.{small_template, plain_entry}
use Rattle.test_audit_text.specs.CallsMade.{ask, asked_class, asking_system, bare, served_entry, call_entry, take_entry, found_entry, calls_made}

bare_in : (past : Past) → IsParcelIn asking_system past bare
unfolding opened_model bare
bare_in past = record { few = omega arith; small = omega arith; classes = tt; cells = tt }

short_name : IsServiceName (codes "s")
unfolding opened_model
short_name = record { present = omega arith; short = omega arith; printable = ((omega arith, omega arith), tt) }

admitted : IsAdmittedPast asking_system (reverse calls_made)
unfolding opened_model small_template plain_entry ask asked_class asking_system bare served_entry call_entry take_entry found_entry calls_made
admitted = (
  record { thread = refl; well_made = (refl, bare_in _, omega arith); reply = refl },
  (
    record { thread = refl; well_made = short_name; reply = refl },
    (
      record { thread = refl; well_made = omega arith; reply = refl },
      (
        record { thread = refl; well_made = (refl, bare_in _, omega arith); reply = refl },
        (
          record { thread = refl; well_made = omega arith; reply = refl },
          (
            record { thread = refl; well_made = (bare_in _, omega arith); reply = refl },
            (
              record { thread = refl; well_made = omega arith; reply = refl },
              (
                record { thread = refl; well_made = (refl, bare_in _, omega arith); reply = refl },
                (
                  record { thread = refl; well_made = short_name; reply = refl },
                  (
                    record { thread = refl; well_made = tt; reply = refl },
                    (
                      record { thread = refl; well_made = (short_name, omega arith); reply = refl },
                      (
                        record { thread = refl; well_made = (refl, omega arith, omega arith); reply = refl },
                        (
                          record { thread = refl; well_made = refl; reply = refl },
                          (
                            record { thread = refl; well_made = refl; reply = refl },
                            (
                              record { thread = refl; well_made = refl; reply = refl },
                              tt,
                            ),
                          ),
                        ),
                      ),
                    ),
                  ),
                ),
              ),
            ),
          ),
        ),
      ),
    ),
  ),
)

pub is_admitted : (s : System) (entries : List Entry) → s ≡ asking_system → entries ≡ calls_made → IsAdmittedPast s (reverse entries)
is_admitted s entries p q =
    subst (λ (x : System). IsAdmittedPast x (reverse entries)) (sym p)
    (subst (λ (es : List Entry). IsAdmittedPast asking_system (reverse es)) (sym q) admitted)
