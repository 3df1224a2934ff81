use Rattle.std.proofs.Common.{◌∙◌, List, refl, sym, ap, drop, Some}
use Rattle.jx_base.specs.declared.frame.Frame.{Frame}
use Rattle.jx_base.specs.declared.value.Value.TheVariants as value
use Rattle.program_model.specs.BuiltIn.{negative_size_exception}
use Rattle.machine_model.specs.NumericRows.{Stack}
use Rattle.machine_model.specs.ObjectRows.{Raised, leaves, with_result}
use Rattle.interp_core.specs.Cores.{core_state, running_stack, store_of}
use Rattle.interp_access.proofs.LengthLaws.{bad_lengths, negative_length, no_room, array_made}
use Rattle.interp_access.proofs.Tops.{gives_as, leaves_after, same_frames, same_running}
use Rattle.interp_access.proofs.nested.multi_array_row.Goals as goal

pub returns-then-not-are_ints : goal.returns-then-not-are_ints
returns-then-not-are_ints c =
    let core = core_state c.args.core.now in
    bad_lengths c.args.system.now core c.args.name.now c.args.dimensions (running_stack core) (sym c.if-not-are_ints.ensures)

pub returns-then-has_negative : goal.returns-then-has_negative
unfolding negative_size_exception
returns-then-has_negative c =
    let core = core_state c.args.core.now in
    (negative_length c.args.system.now core c.args.name.now c.args.dimensions (running_stack core) (sym c.if-not-are_ints.ensures) (sym c.if-has_negative.ensures), refl)

pub returns-in-Some : goal.returns-in-Some
returns-in-Some c =
    let s = c.args.system.now in let core = core_state c.args.core.now in let mid = core_state c.make_nested.new.core in
    let frames = same_frames c.args.core.now c.make_nested.new.core c.in-Some.ensures.frames in
    let stack = λ (k : Stack). with_result (Some (value.Ref c.in-Some.array)) (drop c.args.dimensions k) in
    gives_as c.leave.result core (core_state c.leave.new.core) _ _
    (array_made s core c.args.name.now c.args.dimensions (running_stack core) (store_of c.make_nested.new.core) c.in-Some.array (sym c.if-not-are_ints.ensures) (sym c.if-has_negative.ensures) c.in-Some.ensures.made
    ∙ sym (leaves_after s core mid (stack (running_stack core)) frames)
    ∙ ap (λ (k : Stack). leaves s mid mid.store (stack k)) (sym (same_running core mid frames)))
    c.leave.ensures.row

pub returns-in-None : goal.returns-in-None
returns-in-None c =
    let s = c.args.system.now in let core = core_state c.args.core.now in let new = store_of c.make_nested.new.core in
    no_room s core c.args.name.now c.args.dimensions (running_stack core) new (sym c.if-not-are_ints.ensures) (sym c.if-has_negative.ensures) c.in-None.ensures.made
    ∙ ap (λ (fs : List Frame). Raised 0 (record { frames = fs; store = new })) (sym (same_frames c.args.core.now c.make_nested.new.core c.in-None.ensures.frames))
