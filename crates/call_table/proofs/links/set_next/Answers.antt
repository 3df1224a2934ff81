use Rattle.std.proofs.Common.{◌∙◌, ◌<◌, ℕ, sym, ap, subst, List, Option, None, length}
use Rattle.std.specs.Prelude.{IfSome}
use Rattle.std.proofs.lemmas.Option.{slice_get-get_or}
use Rattle.table_threads.proofs.Records.{set_changed}
use Rattle.call_table.specs.declared.links.Link.{Link}
use Rattle.call_table.specs.Links.{with_next}
use Rattle.call_table.proofs.links.set_next.Goals as goal

pub returns-in-Some : goal.returns-in-Some
returns-in-Some c =
    let links : List Link = c.args.links.now in
    let i = c.in-Some.number in
    let within : i < length links = subst (λ o. IfSome o (λ n. n < length links)) c.in-Some.is c.requires in
    set_changed i (λ l. record l { next = c.args.next }) links _ (slice_get-get_or links i (record { prev = None; next = None }) within)
    ∙ ap (λ (o : Option ℕ). with_next o c.args.next links) (sym c.in-Some.is)
