use Rattle.std.proofs.Common.{◌∙◌, sym, ap, ◌++◌, ◌∷◌, [], List, ℕ, append_assoc}
use Rattle.std.proofs.lemmas.Result.{on_ok_weaker}
use Rattle.asm_constants.specs.Entries.{bytes_behind_tag, content_tag}
use Rattle.asm_constants.proofs.Bytes.{tag_comes_first}
use Rattle.asm_constants.proofs.pool.Pool.push_constant.Goals as goal

pub returns : goal.returns
returns c =
    let before = c.args.bytes.now.items in
    let behind = bytes_behind_tag c.args.self.now c.args.content.now in
    on_ok_weaker c.push_parts.result (λ pushed.
    pushed
    ∙ (ap (λ (bytes : List ℕ). bytes ++ behind) (c.in_ok-push.ensures.items ∙ ap (λ tag. before ++ tag ∷ []) c.tag.ensures)
    ∙ (append_assoc before (content_tag c.args.content.now ∷ []) behind
    ∙ ap (λ (bytes : List ℕ). before ++ bytes) (sym (tag_comes_first c.args.self.now c.args.content.now)))))
    c.push_parts.ensures
