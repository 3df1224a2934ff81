use Rattle.std.proofs.Common.{◌≡◌, ◌∙◌, subst, IfOk}
use Rattle.linker_search.proofs.supers.supers_of.Goals as goal

pub returns : goal.returns
returns c =
    subst (λ xs. IfOk c.from_slice.result (λ supers. supers ≡ xs)) (c.as_slice.ensures ∙ c.keys.ensures.rest ∙ c.in_ok-followed.ensures)
    c.from_slice.ensures
