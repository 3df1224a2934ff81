use Rattle.std.proofs.Common.{◌∙◌, ℕ, List, slice_get}
use Rattle.table_threads.proofs.Numbered.{copied_there}
use Rattle.jx_base.proofs.BasicLaws.{ap2}
use Rattle.jx_model.specs.Permits.{next_boot}
use Rattle.nucleus_tables.proofs.tables.Tables.next_boot.Goals as goal

pub returns : goal.returns
unfolding next_boot
returns c =
    c.copied.ensures
    ∙ copied_there c.deref.result.now c.args.self.now.creates c.get.result c.get.ensures.lookup.0 c.get.ensures.lookup.1
    ∙ ap2 (λ (xs : List ℕ) (n : ℕ). slice_get xs n) (c.deref.ensures.value ∙ c.requires.boots) c.requires.stands.creates
