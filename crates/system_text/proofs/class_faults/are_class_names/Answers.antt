use Rattle.std.proofs.Common.{◌∙◌, sym, rules}
use Rattle.std.proofs.lemmas.Iterator.{YieldsList-from_slice}
use Rattle.std.proofs.lemmas.Iterator.Search.{all_from_yields_List}
use Rattle.std.proofs.lemmas.List.Folds.{list_all-map}
use Rattle.jx_base.specs.ClassNames.{is_class_name}
use Rattle.system_text.proofs.class_faults.are_class_names.Goals as goal

pub returns : goal.returns
returns c =
    all_from_yields_List (λ name. is_class_name name.now) _ _ _ c.all.ensures.ran (YieldsList-from_slice c.args.names.now cc) (λ x b q k. search rules)
    ∙ sym (list_all-map is_class_name (λ name. name.now) c.args.names.now)
