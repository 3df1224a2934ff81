use Rattle.std.proofs.Common.{◌≡◌, ◌∙◌, ap, subst, ◌++◌, List, ℕ}
use Rattle.std.specs.Prelude.{OnOk}
use Rattle.asm_constants.specs.declared.content.Content.TheVariants as content
use Rattle.asm_constants.specs.Pools.{index_of, two_bytes}
use Rattle.asm_bytes.specs.Files.{member_bytes}
use Rattle.asm_bytes.proofs.Appended.{three_parts}
use Rattle.asm_bytes.proofs.members.push_member.Goals as goal

pub returns : goal.returns
unfolding member_bytes
returns c =
    let old = c.args.bytes.now.items in
    let one = c.push_two.new.bytes.items in
    let two = c.push_text.new.bytes.items in
    let now = c.push_text-2.new.bytes.items in
    let member = c.args.member.now in
    let index : List ℕ → List ℕ = λ text. two_bytes (index_of c.args.pool.now (content.Utf8 text)) in
    three_parts c.push_text-2.result old one two now (two_bytes member.flags) (index member.name) (index member.descriptor)
    (c.in_ok-push_two.ensures ∙ ap (λ n. old ++ two_bytes n) c.from.ensures)
    (c.in_ok-push_text.ensures ∙ ap (λ text. one ++ index text) c.as_slice.ensures)
    (subst (λ text. OnOk c.push_text-2.result (now ≡ two ++ index text)) c.as_slice-2.ensures c.push_text-2.ensures)
