use Rattle.std.proofs.Common.{◌∙◌, ◌++◌, [], None, Some, sym, ap, append_assoc}
use Rattle.std.proofs.lemmas.List.{append-nil}
use Rattle.std.specs.List.{filter_map}
use Rattle.link_model.specs.ClassFiles.{used_by, uses_of_code, uses_of_member}
use Rattle.linker_names.specs.Bodies.{instructions_of_code}
use Rattle.linker_names.specs.Names.{catch_use}
use Rattle.linker_uses.proofs.UseLists.{code_uses}
use Rattle.linker_uses.proofs.file_uses.push_uses_of_member.Goals as goal

pub returns-in_ok-push_uses_of_catches : goal.returns-in_ok-push_uses_of_catches
unfolding uses_of_member
returns-in_ok-push_uses_of_catches c =
    let old = c.args.uses.now.items in
    let table = c.in-Some.code.table in
    c.in_ok-push_uses_of_catches.ensures
    ∙ ap (λ xs. c.push_uses_of_body.new.uses.items ++ filter_map catch_use xs) c.as_slice.ensures
    ∙ ap (λ xs. xs ++ filter_map catch_use table) c.in_ok-push_uses_of_body.ensures
    ∙ append_assoc old (filter_map used_by c.args.body.now) (filter_map catch_use table)
    ∙ ap (λ body. old ++ (filter_map used_by body ++ filter_map catch_use table)) (c.requires ∙ ap instructions_of_code c.in-Some.is)
    ∙ ap (λ xs. old ++ xs) (code_uses c.in-Some.code ∙ ap (λ o. elim o [ None ↦ [] | Some x ↦ uses_of_code x ]) (sym c.in-Some.is))

pub returns-in_default : goal.returns-in_default
unfolding uses_of_member
returns-in_default c = sym (append-nil c.args.uses.now.items) ∙ ap (λ o. c.args.uses.now.items ++ elim o [ None ↦ [] | Some x ↦ uses_of_code x ]) (sym c.in_default.is)
