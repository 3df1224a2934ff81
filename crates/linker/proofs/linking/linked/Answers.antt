use Rattle.std.proofs.Common.{◌∙◌, sym, ap, subst, length}
use Rattle.std.proofs.lemmas.Result.{err_from_is_err_and}
use Rattle.jx_base.specs.declared.program.System.{System}
use Rattle.linker_uses.proofs.Outlines.{outline_with_meanings}
use Rattle.linker_uses.specs.Systems.{with_all_meanings}
use Rattle.linker.proofs.Walks.{first_without}
use Rattle.linker.proofs.linking.linked.Goals as goal

pub returns-in-Some-clause-fault : goal.returns-in-Some-clause-fault
returns-in-Some-clause-fault c =
    record {
      has_files = c.requires.files;
      first =
          first_without c.args.plan c.args.files.now c.in_ok-whole.whole c.in_ok-whole.ensures.outline (length c.as_slice-count.result.now) c.in_ok-fault.field-0 c.in_ok-fault.ensures c.requires.early (ap length c.as_slice-count.ensures) ∙ c.in-Some.is;
    }

pub returns-in_ok-linked_system-in-None-clause-linked : goal.returns-in_ok-linked_system-in-None-clause-linked
returns-in_ok-linked_system-in-None-clause-linked c =
    record {
      has_files = c.requires.files;
      no_fault =
          first_without c.args.plan c.args.files.now c.in_ok-whole.whole c.in_ok-whole.ensures.outline (length c.as_slice-count.result.now) c.in_ok-fault.field-0 c.in_ok-fault.ensures c.requires.early (ap length c.as_slice-count.ensures) ∙ c.in-None.is;
      system = c.in_ok-linked_system-in-None.ensures ∙ ap (λ (s : System). with_all_meanings s c.args.files.now) c.in_ok-whole.ensures.outline ∙ outline_with_meanings c.args.plan c.args.files.now;
    }

pub returns-in_err-fault-clause-fault : goal.returns-in_err-fault-clause-fault
returns-in_err-fault-clause-fault c =
    let p = err_from_is_err_and c.from_residual-in_err-fault.result c.from_residual-in_err-fault.ensures.1 in rw (p.1, p.2) tt
