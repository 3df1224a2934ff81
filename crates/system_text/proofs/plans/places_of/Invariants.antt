use Rattle.std.proofs.Common.{◌≡◌, map, take}
use Rattle.system_text.specs.Description.{place_in}
use Rattle.system_text.specs.Scan.{capped, texts_at}
use Rattle.system_text.proofs.plans.places_of.Given as goal

abbrev pub invariant-loop-text : goal.invariant-loop-text
invariant-loop-text l = l.places.items ≡ map (λ name. capped (place_in (texts_at l.names.keys) name)) (texts_at (take l.text-index l.texts))
