-- The files give a file word one system.
use Rattle.std.specs.Prelude.{◌≡◌, ℕ, List}
use Rattle.std.proofs.Common.{sym, ◌∙◌}
use Rattle.jx_base.specs.Files.{Files}
use Rattle.jx_base.specs.declared.program.System.{System}
use Rattle.link_model.specs.Linking.{linked_system}
use Rattle.jx_top.specs.Systems.{IsSystemOf}
use Rattle.jx_top.proofs.OneStop.{one_of_parts, parts_of_system}

pub one_system : (files : Files) (file : List ℕ) (a b : System) → IsSystemOf files file a → IsSystemOf files file b → a ≡ b
one_system files file a b p q =
    let same = one_of_parts linked_system files file p.plan q.plan p.classes q.classes
    (parts_of_system files file a p) (parts_of_system files file b q) in
    p.linked.system ∙ same ∙ sym q.linked.system
