use Rattle.std.proofs.Common.{◌∙◌, sym, ap, length, arith, List}
use Rattle.asm_lines.specs.Lines.{meanings}
use Rattle.asm_lines.specs.declared.line.Line.{Line}
use Rattle.asm_bytes.specs.Files.{file_with}
use Rattle.class_asm.proofs.Told.{faulty, sound, told, too_far, assembled}
use Rattle.class_asm.proofs.Within.{meanings_length, far_at, fault_at_place}
use Rattle.class_asm.proofs.assembler.assemble.Goals as goal

pub far_or-requires-clause-within : goal.far_or-requires-clause-within
far_or-requires-clause-within c =
    let lines = c.as_slice-in-Faulty.result.now in
    let same = c.as_slice.ensures.value ∙ sym c.as_slice-in-Faulty.ensures.value in
    fault_at_place lines c.in-Faulty.before c.in-Faulty.kind (faulty lines _ _ _ _ same c.in_ok-before.ensures c.in-Faulty.is)

pub far_or-requires-clause-few : goal.far_or-requires-clause-few
far_or-requires-clause-few c =
    omega (arith, c.requires, meanings_length c.args.text.now, ap length (c.as_slice-in-Faulty.ensures.value ∙ c.in_ok-lines.ensures))

pub returns-in-Faulty-clause-fault : goal.returns-in-Faulty-clause-fault
returns-in-Faulty-clause-fault c =
    let lines = meanings c.args.text.now in
    let seen = c.as_slice.ensures.value ∙ c.in_ok-lines.ensures in
    told lines _ _ _ _ (faulty lines _ _ _ _ seen c.in_ok-before.ensures c.in-Faulty.is) (c.as_slice-in-Faulty.ensures.value ∙ c.in_ok-lines.ensures) c.in_ok-fault-in-Faulty.ensures

pub asm_fault-requires : goal.asm_fault-requires
asm_fault-requires c =
    let seen = c.as_slice-in-Sound.ensures.value ∙ c.in_ok-lines.ensures in
    omega (arith, c.requires, meanings_length c.args.text.now, ap length seen, far_at c.as_slice-in-Sound.result.now _ c.in-Some.far c.in_ok-far-in-Sound.ensures c.in-Some.is)

pub returns-in-Some-clause-fault : goal.returns-in-Some-clause-fault
returns-in-Some-clause-fault c =
    let lines = meanings c.args.text.now in
    let s = sound lines _ _ _ (c.as_slice.ensures.value ∙ c.in_ok-lines.ensures) c.in_ok-before.ensures c.in-Sound.is in
    too_far lines _ _ _ _ s.0 (c.as_slice-in-Sound.ensures.value ∙ c.in_ok-lines.ensures) c.in_ok-far-in-Sound.ensures c.in-Some.is c.asm_fault.ensures

pub returns-clause-assembled : goal.returns-clause-assembled
returns-clause-assembled c =
    let lines = meanings c.args.text.now in
    let s = sound lines _ _ _ (c.as_slice.ensures.value ∙ c.in_ok-lines.ensures) c.in_ok-before.ensures c.in-Sound.is in
    assembled lines _ _ _ _ s (c.as_slice-in-Sound.ensures.value ∙ c.in_ok-lines.ensures) c.in_ok-far-in-Sound.ensures c.in-None.is
    (c.in_ok-file_bytes-in-None.ensures ∙ ap (λ (ls : List Line). file_with c.in-Sound.pool ls) (c.as_slice-in-None.ensures.value ∙ c.in_ok-lines.ensures))
