-- What an admitted history says of each of its entries, and what stays as it grows.
use Rattle.std.proofs.Common.{◌≡◌, refl, sym, ◌∙◌, ap, subst, ℕ, List, [], ◌∷◌, ◌++◌, length, reverse, Option, Some, None}
use Rattle.std.proofs.lemmas.List.{reverse-append}
use Rattle.std.specs.List.{AllByRecursion}
use Rattle.jx_base.specs.declared.act.Act.{Act}
use Rattle.jx_base.specs.declared.act.Act.TheVariants as act
use Rattle.jx_base.specs.declared.act.Entry.{Entry}
use Rattle.jx_base.specs.declared.act.History.{History}
use Rattle.jx_base.specs.declared.ids.ClassId.{ClassId}
use Rattle.jx_base.specs.declared.program.System.{System}
use Rattle.jx_base.specs.declared.value.Parcel.{Parcel}
use Rattle.jx_base.specs.declared.value.Word.{Word}
use Rattle.jx_base.specs.declared.value.Word.TheVariants as word
use Rattle.program_model.specs.ParcelParts.{parcel_cells}
use Rattle.jx_base.specs.Histories.{Past, past_of, nth_entry}
use Rattle.jx_model.specs.Moments.{IsMoment, BeginsWith, HasGrown}
use Rattle.jx_model.specs.Portals.{is_export, export_of, interface_of, exported_interface}
use Rattle.jx_model.specs.WellMade.{IsPortalIn, IsWellMade, IsWordIn, IsParcelIn}
use Rattle.jx_model.specs.Legal.{IsNext, IsAdmittedPast}
use Rattle.jx_base.proofs.NthEntries.{nth_stays}
use Rattle.std.specs.Option.{option_and_then}

-- ---- moments

next_at : (s : System) (e : Entry) (past later : Past) → IsAdmittedPast s (later ++ e ∷ past) → IsNext s past e
next_at s e past [] h = h.0
next_at s e past (x ∷ later) h = next_at s e past later h.1

-- each entry of an admitted past may come after what came before it
pub moment : (s : System) (whole : Past) (e : Entry) (past : Past) → IsAdmittedPast s whole → IsMoment whole e past → IsNext s past e
moment s whole e past h m = next_at s e past m.0 (subst (λ (p : Past). IsAdmittedPast s p) m.1 h)

-- what came before is admitted
pub start_admitted : (s : System) (later past : Past) → IsAdmittedPast s (later ++ past) → IsAdmittedPast s past
start_admitted s [] past h = h
start_admitted s (e ∷ later) past h = start_admitted s later past h.1

-- what came before an entry of an admitted past is admitted
pub before_admitted : (s : System) (whole : Past) (e : Entry) (past : Past) → IsAdmittedPast s whole → IsMoment whole e past → IsAdmittedPast s past
before_admitted s whole e past h m = (start_admitted s m.0 (e ∷ past) (subst (λ (p : Past). IsAdmittedPast s p) m.1 h)).1

-- a history that begins with another has grown from it
pub grown : (whole start : History) → BeginsWith whole start → HasGrown (past_of start) (past_of whole)
unfolding past_of
grown whole start b = (reverse b.0, ap reverse b.1 ∙ reverse-append start.entries b.0)

-- ---- what is well made stays so

pub interface_stays : (e : Entry) (past : Past) (k : ℕ) (c : ClassId) → interface_of past k ≡ Some c → interface_of (e ∷ past) k ≡ Some c
unfolding interface_of export_of
interface_stays e past k c h = by (nth_entry is_export past k) refl h
  where
    by : (o : Option Entry) → nth_entry is_export past k ≡ o → option_and_then (λ x. exported_interface x.act x.reply) o ≡ Some c →
        option_and_then (λ x. exported_interface x.act x.reply) (nth_entry is_export (e ∷ past) k) ≡ Some c
    by None q h = cc
    by (Some x) q h = ap (λ (o : Option Entry). option_and_then (λ x. exported_interface x.act x.reply) o) (nth_stays is_export e past k x q) ∙ h

-- a portal stays one
pub portal_stays : (e : Entry) (past : Past) (k : ℕ) (c : ClassId) → IsPortalIn past k c → IsPortalIn (e ∷ past) k c
portal_stays e past k c h = (h.0, interface_stays e past k c h.1)

word_stays : (e : Entry) (past : Past) (n : ℕ) (w : Word) → IsWordIn past n w → IsWordIn (e ∷ past) n w
word_stays e past n (word.Portal k c) h = portal_stays e past k.0 c h
word_stays e past n _ h = h

words_stay : (e : Entry) (past : Past) (n : ℕ) (ws : List Word) → AllByRecursion (IsWordIn past n) ws → AllByRecursion (IsWordIn (e ∷ past) n) ws
words_stay e past n [] h = h
words_stay e past n (w ∷ ws) h = (word_stays e past n w h.0, words_stay e past n ws h.1)

parcel_stays : (s : System) (e : Entry) (past : Past) (p : Parcel) → IsParcelIn s past p → IsParcelIn s (e ∷ past) p
parcel_stays s e past p h =
    record { few = h.few; small = h.small; classes = h.classes; cells = words_stay e past (length p.nodes) (parcel_cells p) h.cells }

act_stays : (s : System) (e : Entry) (past : Past) (a : Act) → IsWellMade s past a → IsWellMade s (e ∷ past) a
act_stays s e past (act.Call k m p) h = (h.0, parcel_stays s e past p h.1, h.2)
act_stays s e past (act.Return c p) h = (parcel_stays s e past p h.0, h.1)
act_stays s e past (act.Throw c p) h = (parcel_stays s e past p h.0, h.1)
act_stays s e past _ h = h

stays_after : (s : System) (past later : Past) (a : Act) → IsWellMade s past a → IsWellMade s (later ++ past) a
stays_after s past [] a h = h
stays_after s past (e ∷ later) a h = act_stays s e (later ++ past) a (stays_after s past later a h)

-- an act that is well made stays so as the past grows
pub stays_well_made : (s : System) (old new : Past) (a : Act) → HasGrown old new → IsWellMade s old a → IsWellMade s new a
stays_well_made s old new a g h = subst (λ (p : Past). IsWellMade s p a) (sym g.1) (stays_after s old g.0 a h)

portal_on : (past later : Past) (k : ℕ) (c : ClassId) → IsPortalIn past k c → IsPortalIn (later ++ past) k c
portal_on past [] k c h = h
portal_on past (e ∷ later) k c h = portal_stays e (later ++ past) k c (portal_on past later k c h)

-- a portal stays one as the past grows
pub portal_grows : (old new : Past) (k : ℕ) (c : ClassId) → HasGrown old new → IsPortalIn old k c → IsPortalIn new k c
portal_grows old new k c g h = subst (λ (p : Past). IsPortalIn p k c) (sym g.1) (portal_on old g.0 k c h)

-- what came before is admitted
pub grown_admitted : (s : System) (old new : Past) → HasGrown old new → IsAdmittedPast s new → IsAdmittedPast s old
grown_admitted s old new g h = start_admitted s g.0 old (subst (λ (p : Past). IsAdmittedPast s p) g.1 h)
