use Rattle.std.proofs.Common.{◌≡◌, ◌∙◌, ◌+◌, sym, ap, length, map, take, arith}
use Rattle.std.proofs.lemmas.List.{length-map, take_all}
use Rattle.jx_base.specs.declared.program.System.{System}
use Rattle.link_model.specs.Linking.{meanings_of, with_meanings}
use Rattle.linker_uses.specs.Systems.{with_constants}
use Rattle.linker_uses.proofs.Meanings.{given_more, left_are, no_files, within}
use Rattle.linker_uses.proofs.systems.linked_system.Goals as goal

pub loop-constants-init : goal.loop-constants-init
loop-constants-init c =
    let items = c.in_ok-meanings.meanings.items in
    let count : length items ≡ length c.args.files.now = ap length c.in_ok-meanings.ensures ∙ length-map c.args.files.now (meanings_of c.args.outline) in
    let all = take_all (length items) c.args.files.now (omega (arith, count)) in
    record {
      few = omega (arith, count);
      are = c.in_ok-meanings.ensures ∙ ap (map (meanings_of c.args.outline)) (sym all);
      given =
          ap (λ fs. with_meanings c.args.outline fs 0 c.into_vec-classes.result.items) all
          ∙ ap (with_meanings c.args.outline c.args.files.now 0) (c.into_vec-classes.ensures ∙ ap (λ (s : System). s.program.classes) c.into_system-plan.ensures);
    }

pub loop-constants-preserved : goal.loop-constants-preserved
loop-constants-preserved c =
    let old = c.loop-constants.meanings.items in
    let left = c.pop.new.self.items in
    let own = c.in-Some.constants in
    let classes = c.loop-constants.classes.items in
    let cut = c.in-Some.ensures.items in
    let number : c.len.result ≡ length left = omega arith in
    record {
      few = omega (arith, within c.args.outline c.args.files.now old left own classes cut c.loop-constants.invariant.are c.loop-constants.invariant.few);
      are = left_are c.args.outline c.args.files.now old left own classes cut c.loop-constants.invariant.are c.loop-constants.invariant.few;
      given =
          ap (with_meanings c.args.outline (take (length left) c.args.files.now) 0) (c.give.ensures ∙ ap (λ n. with_constants classes (27 + n) own) number)
          ∙ given_more c.args.outline c.args.files.now old left own classes cut c.loop-constants.invariant.are c.loop-constants.invariant.few
          ∙ c.loop-constants.invariant.given;
    }

pub returns : goal.returns
returns c =
    let classes = c.loop-constants.classes.items in
    let none : length c.loop-constants.meanings.items ≡ 0 = omega (arith, c.in_default.ensures.cases.0) in
    let whole = sym (no_files c.args.outline 0 classes) ∙ ap (λ n. with_meanings c.args.outline (take n c.args.files.now) 0 classes) (sym none) ∙ c.loop-constants.invariant.given in
    ap (λ (s : System). record { plan = s.plan; program = record { classes = c.from_vec.result; methods = s.program.methods; selectors = s.program.selectors } }) c.into_system-plan.ensures
    ∙ ap (λ ks. record { plan = c.args.outline.plan; program = record { classes = ks; methods = c.args.outline.program.methods; selectors = c.args.outline.program.selectors } }) (c.from_vec.ensures ∙ whole)
