use Rattle.std.proofs.Common.{ap, sym, ◌∙◌, subst, List, [], ◌∷◌, ◌++◌, Some}
use Rattle.std.specs.Prelude as std
use Rattle.atomic_table.specs.Table.{opening}
use Rattle.turn_lock.specs.Views.{first_view}
use Rattle.turn_lock.specs.Rule.{IsRuled}
use Rattle.turn_lock.proofs.Steps.{opens_ruled}
use Rattle.turn_lock.proofs.turn.Turn.open.Goals as goal

pub new-requires : goal.new-requires
new-requires g c =
    let system = g.T.Chronicle.system in let entries = g.T.Chronicle.entries in
    let is = c.in_ok-push.ensures.items ∙ ap (λ (l : List (std.Option g.row.T.Denot)). l ++ Some c.args.value ∷ []) c.in_ok-slots.ensures.items in
    subst (λ (l : List (std.Option g.row.T.Denot)). IsRuled system entries c.args.system.now (opening (0 ∷ 0 ∷ []) l (first_view c.args.system.now))) (sym is) (opens_ruled system entries c.args.system.now c.args.value c.requires.system c.requires.empty)
