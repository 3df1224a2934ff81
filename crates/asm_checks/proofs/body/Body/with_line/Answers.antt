use Rattle.std.proofs.Common.{◌∙◌, ap, sym, ◌+◌}
use Rattle.std.specs.Prelude.{◌||◌, if◌then◌else◌}
use Rattle.asm_bodies.specs.Bodies.{is_label}
use Rattle.asm_bodies.specs.Lines.{is_catch}
use Rattle.asm_bodies.specs.Needs.{line_length}
use Rattle.asm_checks.proofs.Bodies.{pc_last, count_last, label_last, whole_stays}
use Rattle.asm_checks.proofs.body.Body.with_line.Goals as goal

pub returns : goal.returns
returns c lines after kept on =
    let l = c.args.line.now in
    record {
      pc =
          c.in_ok-pc.ensures
          ∙ (ap (λ n. c.args.self.pc + n) c.in_ok-line_length.ensures
          ∙ (ap (λ pc. pc + line_length pc l) kept.pc ∙ sym (pc_last 0 lines l)));
      catches =
          c.in_ok-catches.ensures
          ∙ (ap (λ b. c.args.self.catches + (if b then 1 else 0)) c.is_catch.ensures
          ∙ (ap (λ n. n + (if is_catch l then 1 else 0)) kept.catches ∙ sym (count_last is_catch lines l)));
      seen = λ name.
          c.in_ok-seen.ensures name ∙ (ap (λ b. b || is_label name l) (kept.seen name) ∙ sym (label_last name lines l));
      whole = λ name. kept.whole name ∙ sym (whole_stays name lines l after on);
    }
