use Rattle.std.proofs.Common.{◌∙◌, sym, ap, not, slice_get}
use Rattle.linker_faults.proofs.Noted.{none_of, note_none, noted_none}
use Rattle.linker_faults.proofs.repeats.Repeats.twice_fault.Goals as goal

pub returns-then-contains-clause-fault : goal.returns-then-contains-clause-fault
returns-then-contains-clause-fault c =
    let class = c.args.class.now in
    noted_none c.self.inside.files.now c.self.inside.none_in.keys class.place class.name class.file.now c.self.invariant (ap (λ fs. slice_get fs class.place) c.self.view_is ∙ c.requires) (sym c.contains.ensures ∙ c.if-contains.true)

pub invariant_of-self : goal.invariant_of-self
invariant_of-self c =
    let class = c.args.class.now in
    note_none c.self.inside.files.now c.self.inside.none_in.keys class.place class.name class.file.now c.self.invariant (ap (λ fs. slice_get fs class.place) c.self.view_is ∙ c.requires)
    (none_of c.in_ok-fault.fault (c.is_none.ensures ∙ ap not c.if-is_none.true) ∙ c.in_ok-fault.ensures) c.insert.new.self.keys c.in_ok-insert.ensures.keys
