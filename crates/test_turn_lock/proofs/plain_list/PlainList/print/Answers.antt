use Rattle.std.proofs.Common.{◌∙◌, ap, refl, arith, [], ◌∷◌, ◌++◌}
use Rattle.jx_base.specs.declared.act.Entry.{Entry}
use Rattle.jx_base.specs.declared.act.Act.TheVariants.{Print}
use Rattle.jx_base.specs.declared.act.Reply.TheVariants.{Done}
use Rattle.jx_base.specs.Births.{domain_in, answered_domain}
use Rattle.test_turn_lock.specs.ListState.{ListState}
use Rattle.test_turn_lock.proofs.Numbering.{numbers_without}
use Rattle.test_turn_lock.proofs.plain_list.PlainList.print.Goals as goal

pub invariant_of-self-2 : goal.invariant_of-self-2
unfolding domain_in answered_domain
invariant_of-self-2 c =
    let e : Entry = record { domain = c.args.domain; thread = record { 0 = 0 }; act = Print c.from_vec.result; reply = Done } in
    rw c.in_ok-push-2.ensures.items (numbers_without c.self.inside.entries.items e c.self.inside.next c.self.invariant refl (omega (arith, c.if-len-ge-MOST.false, c.len.ensures)))

pub returns-clause-ok : goal.returns-clause-ok
unfolding domain_in answered_domain
returns-clause-ok c =
    let e : Entry = record { domain = c.args.domain; thread = record { 0 = 0 }; act = Print c.from_vec.result; reply = Done } in
    record {
      entry = e;
      system = ap (λ (l : ListState). l.system) c.self.view_is;
      entries = c.in_ok-push-2.ensures.items ∙ ap (λ (l : ListState). l.entries ++ e ∷ []) c.self.view_is;
      own = refl;
      makes = refl;
    }
