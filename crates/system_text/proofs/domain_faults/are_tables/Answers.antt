use Rattle.std.proofs.Common.{◌∙◌, sym, rules}
use Rattle.std.proofs.lemmas.Iterator.{YieldsList-from_slice}
use Rattle.std.proofs.lemmas.Iterator.Search.{all_from_yields_List}
use Rattle.std.proofs.lemmas.List.Folds.{list_all-map}
use Rattle.toml.specs.View.{view}
use Rattle.system_text.specs.Keys.{is_table}
use Rattle.system_text.proofs.domain_faults.are_tables.Goals as goal

pub returns : goal.returns
returns c =
    all_from_yields_List (λ v. is_table (view v)) _ _ _ c.all.ensures.ran (YieldsList-from_slice c.args.values.now cc) (λ x b q k. search rules)
    ∙ sym (list_all-map is_table view c.args.values.now)
