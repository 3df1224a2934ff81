use Rattle.std.proofs.Common.{◌≡◌, List, Some, subst}
use Rattle.jx_base.specs.declared.class_file.ClassFile.{ClassFile}
use Rattle.link_model.specs.LinkFaults.{first_link_fault}
use Rattle.linker.proofs.linking.link_read.Goals as goal

pub returns-in-Some-clause-fault : goal.returns-in-Some-clause-fault
returns-in-Some-clause-fault c =
    record {
      has_files = c.requires.files;
      first = subst (λ (files : List ClassFile). first_link_fault c.args.plan files ≡ Some c.in_ok-fault-in-Some.fault) c.deref-in-Some.ensures.value c.in_ok-fault-in-Some.ensures;
    }
