use Rattle.jx_top.proofs.RunEnds.{lacks_main, main_read, main_there}
use Rattle.jx_top.proofs.run.main_class.Goals as goal

pub bounds-as_slice-template : goal.bounds-as_slice-template
bounds-as_slice-template c = rw c.as_slice.ensures (lacks_main c.args.system.now c.args.template c.requires.lacks c.requires.plan).below

pub bounds-as_slice-template-2 : goal.bounds-as_slice-template-2
bounds-as_slice-template-2 c = rw c.as_slice.ensures (lacks_main c.args.system.now c.args.template c.requires.lacks c.requires.plan).below

pub bounds-as_slice-main : goal.bounds-as_slice-main
bounds-as_slice-main c = rw (c.as_slice.ensures, c.as_slice-2.ensures) (main_there c.args.system.now c.args.template c.index-as_slice-template.result c.requires.lacks c.requires.plan)

pub returns : goal.returns
returns c =
    let is = rw (c.as_slice.ensures, c.as_slice-2.ensures) at c.index-as_slice-main.is in
    rw c.as_str.ensures
    (main_read c.args.system.now c.args.template c.index-as_slice-template.result c.index-as_slice-main.result c.requires.lacks c.requires.plan is)
