use Rattle.std.proofs.Common.{◌≡◌, ◌∙◌, ℕ, List, [], ◌∷◌, ap, subst, sym, arith}
use Rattle.std.specs.Prelude.{reverse}
use Rattle.std.proofs.lemmas.List.{reverse-append}
use Rattle.interp_core.specs.Cores.{core_state}
use Rattle.interp_obj.proofs.Stepping.{if_ok_more}
use Rattle.machine_model.specs.MachineThreads.{after_begin}
use Rattle.machine_replies.specs.Leaving.{Comes}
use Rattle.machine_replies.specs.declared.stage.Stage.TheVariants as stage
use Rattle.domain_machine.specs.Works.{Finishes}
use Rattle.domain_machine.proofs.Finishing.{begun, ended}
use Rattle.domain_machine.proofs.working.finish.Goals as goal

pub returns-in_default : goal.returns-in_default
returns-in_default c =
    let s = c.args.system.now in let core = core_state c.args.core.now in
    let old : c.args.waiting.now.items ≡ [] = grind (arith, c.in_default.ensures.cases, c.args.waiting.now.ok) in
    let new : c.pop.new.self.items ≡ [] = grind (arith, c.in_default.ensures.cases, c.pop.new.self.ok) in
    subst (λ (ms : List ℕ). Finishes s core (reverse ms) c.args.value core (reverse c.pop.new.self.items) (stage.Returned c.args.value)) (sym old)
    (subst (λ (ms : List ℕ). Finishes s core [] c.args.value core (reverse ms) (stage.Returned c.args.value)) (sym new) (ended s core c.args.value c.requires))

pub returns : goal.returns
returns c =
    let s = c.args.system.now in let old = core_state c.args.core.now in let new = core_state c.begin_method.new.core in
    let m = c.in-Some.method in let more = reverse c.pop.new.self.items in
    let w : reverse c.args.waiting.now.items ≡ m ∷ more = ap reverse c.in-Some.ensures.items ∙ reverse-append c.pop.new.self.items (m ∷ []) in
    let a = c.as_slice.ensures.value ∙ c.in_ok-arguments.ensures in
    if_ok_more c.begin_method.result _ (Finishes s old (reverse c.args.waiting.now.items) c.args.value new more)
    (λ g f. subst (λ (ms : List ℕ). Finishes s old ms c.args.value new more g) (sym w) (begun s old new m more c.args.value g (subst (λ (xs : List _). Comes old new g (λ st t x. after_begin s st t x m xs)) a f)))
    c.begin_method.ensures
