use Rattle.std.proofs.Common.{◌∙◌, sym, ap, Bool, [], Some, None}
use Rattle.std.specs.Prelude.{if◌then◌else◌}
use Rattle.std.specs.Option.{option_map}
use Rattle.jx_base.specs.Stacks.{StackState}
use Rattle.machine_model.specs.NumericRows.{Locals}
use Rattle.machine_model.specs.State.{frame_with, locals_with}
use Rattle.interp_obj.proofs.entering.frame_with.Goals as goal

pub returns : goal.returns
unfolding frame_with
returns c =
    let placed =
    ap (λ (ls : Locals). locals_with ls 0 c.args.arguments.now) (sym c.in_ok-locals.ensures) ∙ c.put_arguments.ensures
    ∙ ap (λ (b : Bool). if b then Some c.put_arguments.new.locals else None) c.if-not-put_arguments.false in
    ap (λ (k : StackState). Some record { method = c.args.method; pc = 0; locals = c.locals.inside.items.items; stack = k }) c.in_ok-with_room.ensures
    ∙ ap (λ (ls : Locals). Some record { method = c.args.method; pc = 0; locals = ls; stack = record { values = []; room = c.args.code.now.max_stack } }) c.locals.view_is
    ∙ sym (ap (option_map (frame_with c.args.method c.args.code.now)) placed)
