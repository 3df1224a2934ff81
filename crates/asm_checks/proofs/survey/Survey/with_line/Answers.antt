use Rattle.std.proofs.Common.{◌∙◌, sym, ap, ◌+◌}
use Rattle.std.specs.Prelude.{if◌then◌else◌}
use Rattle.asm_bodies.specs.Lines.{is_implements, is_field, is_member}
use Rattle.asm_checks.proofs.Bodies.{count_first}
use Rattle.asm_checks.proofs.survey.Survey.with_line.Goals as goal

pub returns : goal.returns
returns c past f =
    let l = c.args.line.now in
    record {
      last = c.last_behind.ensures past f.last;
      interfaces =
          c.in_ok-interfaces.ensures
          ∙ (ap (λ b. c.args.self.interfaces + (if b then 1 else 0)) c.is_implements.ensures
          ∙ (ap (λ n. n + (if is_implements l then 1 else 0)) f.interfaces ∙ sym (count_first is_implements l past)));
      fields =
          c.in_ok-fields.ensures
          ∙ (ap (λ b. c.args.self.fields + (if b then 1 else 0)) c.is_field.ensures
          ∙ (ap (λ n. n + (if is_field l then 1 else 0)) f.fields ∙ sym (count_first is_field l past)));
      members =
          c.in_ok-members.ensures
          ∙ (ap (λ b. c.args.self.members + (if b then 1 else 0)) c.is_member.ensures
          ∙ (ap (λ n. n + (if is_member l then 1 else 0)) f.members ∙ sym (count_first is_member l past)));
      body = c.in_ok-body.ensures past f.body;
    }
