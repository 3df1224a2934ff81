use Rattle.asm_words.proofs.Texts.{goes_on, ends, is_done}
use Rattle.asm_words.proofs.quotes.up_to_quote.Goals as goal

pub loop-rest-preserved : goal.loop-rest-preserved
loop-rest-preserved c =
    rw c.in_ok-push-in-Some.ensures.items (goes_on c.loop-rest.units.items c.loop-rest.rest.now c.in-Some.unit c.in-Some.after.now _ (cc) c.in-Some.ensures.read c.loop-rest.invariant)

pub returns-in-None : goal.returns-in-None
returns-in-None c = ends c.loop-rest.units.items c.loop-rest.rest.now _ (cc) c.in-None.ensures.read c.loop-rest.invariant

pub returns : goal.returns
returns c = rw c.from_vec.ensures (is_done c.loop-rest.units.items c.loop-rest.rest.now _ (cc) c.loop-rest.invariant)
