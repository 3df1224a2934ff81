use Rattle.std.proofs.Common.{◌∙◌, sym, ap, Some, arith}
use Rattle.link_model.specs.ClassFiles.{member_selector}
use Rattle.linker_names.specs.declared.names.NameAndType.{NameAndType}
use Rattle.linker_faults.proofs.Repeated.{none_repeated, repeated_here, seen_next, seen_none, was_new, was_seen}
use Rattle.linker_faults.proofs.repeats.first_repeated.Goals as goal

pub loop-member-init : goal.loop-member-init
loop-member-init c = seen_none c.args.members.now c.new-seen.result.keys c.new-seen.ensures.empty

pub returns-then-not-branch : goal.returns-then-not-branch
unfolding member_selector
returns-then-not-branch c =
    let m = c.member-item.result in
    let k : NameAndType = record { name = c.as_slice-name.result; descriptor = c.as_slice-descriptor.result } in
    ap Some c.as_slice-name.ensures
    ∙ repeated_here c.args.members.now c.loop-member.member-index m c.loop-member.seen.keys k (omega arith) c.member-item.is (cc) c.loop-member.invariant
    (was_seen _ (sym c.in_ok-insert.ensures.added ∙ c.if-not-branch.true))

pub loop-member-preserved : goal.loop-member-preserved
unfolding member_selector
loop-member-preserved c =
    let m = c.member-item.result in
    let k : NameAndType = record { name = c.as_slice-name.result; descriptor = c.as_slice-descriptor.result } in
    seen_next c.args.members.now c.loop-member.member-index m c.loop-member.seen.keys k (omega arith) c.member-item.is (cc) c.loop-member.invariant
    (was_new _ (sym c.in_ok-insert.ensures.added ∙ c.if-not-branch.false)) c.insert.new.self.keys c.in_ok-insert.ensures.keys

pub returns : goal.returns
returns c = none_repeated c.args.members.now c.loop-member.member-index c.loop-member.seen.keys (omega arith) c.loop-member.invariant
