use Rattle.std.specs.declared.alloc.Global.{Global}
use Rattle.jx_base.specs.declared.class_file.ClassFile.{ClassFile}
use Rattle.std.specs.Prelude.{ℕ, List, Option, Err, Vec}
use Rattle.std.proofs.Common.{arith, add-one, subst}
use Rattle.jx_base.specs.Files.{Files}
use Rattle.std.proofs.lemmas.Grind.{common_steps}
use Rattle.std.proofs.lemmas.List.{take_all}
use Rattle.std.proofs.lemmas.Result.{err_from_is_err_and}
use Rattle.class_grammar.specs.ReadFiles.{IsReadFile}
use Rattle.jx_top.specs.Systems.{HasClass, IsClassRefused, HaveClasses, HasRefusedClass}
use Rattle.jx_top.proofs.ReadMethods.{all_push}
use Rattle.jx_top.proofs.SearchSteps.{FindsClass, stops_so, have_more, refused_at}
use Rattle.jx_top.proofs.class_files.fetch_classes.Goals as goal

pub returns-in_err-fetch_class-clause-classes : goal.returns-in_err-fetch_class-clause-classes
returns-in_err-fetch_class-clause-classes g c =
    let p = err_from_is_err_and c.from_residual.result c.from_residual.ensures.1 in
    let names = c.args.names.now in
    let name = c.name-item.result in
    let e = c.in_err-fetch_class.field-0.0 in
    let named = subst (λ (n : List ℕ). FindsClass (g.L.Shelf.state c.loop-name.shelf).told n (Err e)) c.as_str.ensures c.in_err-fetch_class.ensures.class in
    let held = subst (λ (t : Option Files). FindsClass t name (Err e)) c.loop-name.invariant.same named in
    rw (p.1, p.2)
    (stops_so (g.L.Shelf.state c.args.shelf.now).told (λ files class. HasClass files name class)
    (λ (files : Files) (classes : Vec ClassFile Global). HaveClasses files names classes.items) (λ files o. IsClassRefused files name o) (λ files o. HasRefusedClass files names o) _
    (λ files o t h. refused_at files names c.loop-name.name-index name _ o c.name-item.is (omega arith) (c.loop-name.invariant.have files t) h) held)

pub loop-name-preserved : goal.loop-name-preserved
loop-name-preserved g c =
    let names = c.args.names.now in
    let name = c.name-item.result in
    let held = rw (c.as_str.ensures, c.loop-name.invariant.same) at c.in_ok-fetch_class.ensures.class in
    record {
      have = λ files t. rw (add-one, c.in_ok-push.ensures.items)
          (have_more files names c.loop-name.name-index name _ _ c.name-item.is (omega arith) (c.loop-name.invariant.have files t) (held files t));
      read = rw c.in_ok-push.ensures.items (all_push IsReadFile _ _ c.loop-name.invariant.read c.in_ok-fetch_class.ensures.file);
      count = grind (arith, common_steps);
      same = grind (arith, common_steps);
      later = omega (arith, c.loop-name.invariant.later, c.in_ok-fetch_class.ensures.later);
    }

pub returns-clause-classes : goal.returns-clause-classes
returns-clause-classes g c = λ files t.
    rw (take_all c.loop-name.name-index c.args.names.now c.loop-name-test.false) at (c.loop-name.invariant.have files t)
