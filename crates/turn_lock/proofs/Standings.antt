-- What callers learn of a turn in which an entry was made.
use Rattle.std.proofs.Common.{◌≡◌, ℕ, Bool, false, ◌&&◌, List, [], ◌∷◌, ◌++◌, length, drop, Some, ap, ◌∙◌, arith, length-append, ne_eqb}
use Rattle.std.proofs.Math.Seq.{drop-append_seam}
use Rattle.jx_base.specs.declared.act.Entry.{Entry}
use Rattle.jx_base.specs.Births.{answered_domain}
use Rattle.turn_lock.specs.Entries.{last_born}
use Rattle.turn_lock.specs.Standing.{Standing, IsGiven}
use Rattle.turn_lock.proofs.Entries.{last_born-push}

-- the entry that was added in the turn is the last one that the pass made
pub given_made : (before after : Standing) (es : List Entry) (e : Entry) → es ≡ before.seen ++ e ∷ [] → IsGiven before after es → after.made ≡ before.made ++ e ∷ []
given_made before after es e more given = given.made ∙ ap (λ (xs : List Entry). before.made ++ xs) (ap (drop (length before.seen)) more ∙ drop-append_seam before.seen (e ∷ []))

pub given_whole : (before after : Standing) (es : List Entry) (e : Entry) → es ≡ before.seen ++ e ∷ [] → IsGiven before after es → after.parted ≡ false
given_whole before after es e more given =
    let longer : length es ≡ length before.seen → ⊥ = λ same. omega (arith, same, ap length more, length-append before.seen (e ∷ [])) in
    given.parted ∙ ap (λ (b : Bool). b && before.parted) (ne_eqb (length es) (length before.seen) longer)

-- the domain that the entry made can be given a pass: the entry is the pass's last, and no pass was split since
pub born_now : (before after : Standing) (es : List Entry) (e : Entry) (n : ℕ) → es ≡ before.seen ++ e ∷ [] → answered_domain e ≡ Some n → IsGiven before after es → (last_born after.made ≡ Some n) × (after.parted ≡ false)
born_now before after es e n more born given = (ap last_born (given_made before after es e more given) ∙ (last_born-push before.made e ∙ born), given_whole before after es e more given)
