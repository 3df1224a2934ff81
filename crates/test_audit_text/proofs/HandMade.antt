-- The history that is made by hand is admitted.
use Rattle.std.specs.Prelude.{◌≡◌, refl, ◌<◌, ◌^◌, List}
use Rattle.std.specs.List.{AllByRecursion}
use Rattle.std.proofs.Common.{arith, subst, sym, inl}
use Rattle.jx_base.specs.declared.act.Entry.{Entry}
use Rattle.jx_base.specs.declared.act.History.{History}
use Rattle.jx_base.specs.declared.program.System.{System}
use Rattle.supported_acts.specs.SupportedActs.{HasSupportedActs, is_supported}
use Rattle.jx_model.specs.Legal.{IsAdmitted}
use Rattle.opened_models.specs.Opened.{opened_model}
use Rattle.test_audit_text.specs.HandMade.{small_template, small_system, plain_entry, odd_text, hand_made}

abbrev made : History
made = record { entries = hand_made }

all_small : AllByRecursion (λ u. u < 2 ^ 16) odd_text
unfolding odd_text
all_small =
    (omega arith, (omega arith, (omega arith, (omega arith, (omega arith, (omega arith, (omega arith, (omega arith, (omega arith, tt)))))))))

admitted : IsAdmitted small_system made
unfolding opened_model small_template small_system plain_entry odd_text hand_made
admitted = (
  record { thread = refl; well_made = tt; reply = refl },
  (
    record { thread = refl; well_made = inl refl; reply = refl },
    (
      record { thread = refl; well_made = omega arith; reply = refl },
      (
        record { thread = refl; well_made = omega arith; reply = refl },
        (
          record { thread = refl; well_made = tt; reply = refl },
          (
            record { thread = refl; well_made = record { short = omega arith; sixteen_bits = all_small }; reply = refl },
            (
              record { thread = refl; well_made = refl; reply = refl },
              (record { thread = refl; well_made = refl; reply = refl }, tt),
            ),
          ),
        ),
      ),
    ),
  ),
)

pub is_admitted : (s : System) (h : History) → s ≡ small_system → h.entries ≡ hand_made → IsAdmitted s h
is_admitted s h p q =
    subst (λ (x : System). IsAdmitted x h) (sym p)
    (subst (λ (entries : List Entry). IsAdmitted small_system (record { entries = entries })) (sym q) admitted)

supported : HasSupportedActs made
unfolding is_supported plain_entry hand_made
supported = (refl, (refl, (refl, (refl, (refl, (refl, (refl, (refl, tt))))))))

pub has_supported_acts : (h : History) → h.entries ≡ hand_made → HasSupportedActs h
has_supported_acts h q = subst (λ (entries : List Entry). HasSupportedActs (record { entries = entries })) (sym q) supported
