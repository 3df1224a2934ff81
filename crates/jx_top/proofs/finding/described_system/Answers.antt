use Rattle.std.specs.Prelude.{Vec}
use Rattle.std.specs.declared.alloc.Global.{Global}
use Rattle.jx_base.specs.declared.class_file.ClassFile.{ClassFile}
use Rattle.jx_base.specs.Files.{Files}
use Rattle.std.proofs.lemmas.Result.{err_from_is_err_and}
use Rattle.jx_top.specs.Systems.{IsPlanOf, IsPlanRefused, HaveClasses, HasRefusedClass, IsSystemOf, IsStopped, at_plan}
use Rattle.jx_top.proofs.SearchSteps.{stops_so}
use Rattle.jx_top.proofs.SystemSteps.{links, classes_stop, plan_parts, was_linked}
use Rattle.jx_top.proofs.finding.described_system.Goals as goal

pub returns-in_err-plan-clause-system : goal.returns-in_err-plan-clause-system
returns-in_err-plan-clause-system g c =
    let p = err_from_is_err_and c.from_residual.result c.from_residual.ensures.1 in
    let file = c.args.file.now in
    rw (p.1, p.2)
    (stops_so (g.L.Shelf.state c.args.shelf.now).told (λ files plan. IsPlanOf files file plan) (λ files system. IsSystemOf files file system)
    (λ files o. IsPlanRefused files file o) (λ files o. IsStopped files file o) _ (λ files o t h. at_plan h) c.in_err-plan.ensures.plan)

pub returns-in_err-classes-clause-system : goal.returns-in_err-classes-clause-system
returns-in_err-classes-clause-system g c =
    let r = c.from_residual-in_err-classes in
    let p = err_from_is_err_and r.result r.ensures.1 in
    let file = c.args.file.now in
    let plan = c.in_ok-plan.plan in
    let held = rw (c.as_slice.ensures, c.in_ok-plan.ensures.same) at c.in_err-classes.ensures.classes in
    rw (p.1, p.2)
    (stops_so (g.L.Shelf.state c.args.shelf.now).told (λ (files : Files) (classes : Vec ClassFile Global). HaveClasses files plan.classes classes.items)
    (λ files system. IsSystemOf files file system) (λ files o. HasRefusedClass files plan.classes o) (λ files o. IsStopped files file o) _
    (λ files o t h. classes_stop files file plan o (c.in_ok-plan.ensures.plan files t) h) held)

pub returns-clause-system : goal.returns-clause-system
returns-clause-system g c =
    let told = (g.L.Shelf.state c.args.shelf.now).told in
    let file = c.args.file.now in
    let plan = c.in_ok-plan.plan in
    let have = rw (c.as_slice.ensures, c.in_ok-plan.ensures.same) at c.in_ok-classes.ensures.classes in
    links told file plan _ _ (plan_parts told file plan _ c.in_ok-plan.ensures.plan have) c.link_files.ensures

pub returns-clause-linked : goal.returns-clause-linked
returns-clause-linked g c = was_linked c.in_ok-plan.plan _ _ c.link_files.ensures
