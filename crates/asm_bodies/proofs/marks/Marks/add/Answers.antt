use Rattle.std.proofs.Common.{◌≡◌, ◌∙◌, sym, ap, is_some, true, false, [], ◌∷◌, ◌++◌, List}
use Rattle.std.specs.Str.{bytes_eq}
use Rattle.indexmap.specs.IndexMap.{insert_entry}
use Rattle.asm_bodies.specs.Bodies.{Mark, mark_of}
use Rattle.asm_bodies.proofs.MarkLaws.{mark, marks_in, mark_found, known_stays, new_comes_last}
use Rattle.asm_bodies.proofs.marks.Marks.add.Goals as goal

pub returns-then-contains_key : goal.returns-then-contains_key
returns-then-contains_key c =
    let name = c.args.name.now in
    let known : is_some (mark_of c.args.self.now name) ≡ true =
    sym (c.contains_key.ensures ∙ ap is_some (mark_found c.self.inside.pcs.entries name ∙ ap (λ marks. mark_of marks name) c.self.view_is)) ∙ c.if-contains_key.true in
    known_stays c.args.self.now (mark name c.args.pc) known

pub returns : goal.returns
returns c other =
    let name = c.args.name.now in
    let entries = c.self.inside.pcs.entries in
    let same : c.in_ok-name.name ≡ name = c.in_ok-name.ensures in
    let absent : is_some (mark_of (marks_in entries) name) ≡ false = sym (c.contains_key.ensures ∙ ap is_some (mark_found entries name)) ∙ c.if-contains_key.false in
    ap (λ marks. mark_of marks other)
    (ap marks_in (c.in_ok-insert.ensures.entries ∙ ap (λ name. insert_entry bytes_eq entries name c.args.pc) same)
    ∙ (new_comes_last entries name c.args.pc absent ∙ ap (λ (marks : List Mark). marks ++ mark name c.args.pc ∷ []) c.self.view_is))
