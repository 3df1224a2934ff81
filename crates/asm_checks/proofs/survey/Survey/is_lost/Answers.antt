use Rattle.std.proofs.Common.{◌∙◌, sym, ap}
use Rattle.std.specs.Prelude.{not}
use Rattle.std.specs.HashSet.{contains}
use Rattle.std.specs.Str.{bytes_eq}
use Rattle.asm_checks.specs.Faults.{is_lost, is_there, used_labels}
use Rattle.asm_checks.proofs.Following.{open_of, none_of, same_all, used_in, nowhere}
use Rattle.asm_checks.proofs.survey.Survey.is_lost.Goals as goal

pub returns-in-Some : goal.returns-in-Some
unfolding is_lost
returns-in-Some c past after f =
    let l = c.args.line.now in
    let o = open_of c.args.self.now.body c.in-Some.body past _ c.in-Some.is f.body in
    ap not (c.uses_only.ensures ∙ used_in c.in-Some.body past o.0 l after o.1 o.2)

pub returns-in-None : goal.returns-in-None
unfolding is_lost
returns-in-None c past after f =
    let l = c.args.line.now in
    let none = none_of c.args.self.now.body past _ c.in-None.is f.body in
    ap not (c.uses_only-in-None.ensures ∙ same_all (contains bytes_eq c.new.result) (is_there past after) (λ name. rw c.new.ensures.empty (sym (nowhere past after name none))) (used_labels l))
