-- The names of a linked system differ, and are of units.
use Rattle.std.proofs.Common.{◌≡◌, ℕ, ◌<◌, true, ◌&&◌, List, [], ◌∷◌, map, Some, slice_get, sym, ap, ◌∙◌, subst, arith}
use Rattle.std.specs.Prelude.{nat_le}
use Rattle.std.specs.List.{AllByRecursion, list_all}
use Rattle.std.proofs.lemmas.Bool.Decides.{nat_tests}
use Rattle.std.proofs.lemmas.Option.{get_or_from_slice_get}
use Rattle.jx_base.specs.declared.class_file.ClassFile.{ClassFile}
use Rattle.jx_base.specs.declared.program.Class.{Class}
use Rattle.jx_base.specs.declared.program.Plan.{Plan}
use Rattle.jx_base.specs.declared.program.Selector.{Selector}
use Rattle.jx_base.specs.declared.program.System.{System}
use Rattle.jx_base.specs.declared.program.Template.{Template}
use Rattle.program_model.specs.DistinctNames.{AreUnits, HasDistinctNames}
use Rattle.link_model.specs.LinkFaults.{IsLinked}
use Rattle.link_model.specs.Linking.{linked_system, outline}
use Rattle.program_model.specs.Plans.{is_template_name, has_name_length}
use Rattle.jx_base.proofs.BasicLaws.{both}
use Rattle.class_grammar.specs.ReadFiles.{IsReadFile}
use Rattle.link_laws.proofs.Classes.{name_of, system_names, names_once, names_units}
use Rattle.link_laws.proofs.Files.{IsFile, is_file}
use Rattle.link_laws.proofs.Lists.{Among, IsOnce, of_each, of_all, one_place, at_map, among_at, among_map, below_length, texts_once}
use Rattle.link_laws.proofs.Sources.{selectors_of, selectors_once, selector_units}

-- files that were read are files
pub are_files : (files : List ClassFile) → AllByRecursion IsReadFile files → AllByRecursion IsFile files
are_files files read = of_all IsFile files (λ f h. let r = of_each IsReadFile files f read h in is_file r.bytes f r.file)

-- items whose names stand once have one place each
apart : {A : Type 0} (name : A → List ℕ) (xs : List A) → IsOnce (map name xs) → (i j : ℕ) (x y : A) → slice_get xs i ≡ Some x → slice_get xs j ≡ Some y → name x ≡ name y → i ≡ j
apart name xs once i j x y e f same = one_place (map name xs) once i j (name x) (at_map name xs i x e) (at_map name xs j y f ∙ ap Some (sym same))

-- the name of a template is of units
template_units : (name : List ℕ) → is_template_name name ≡ true → AreUnits name
unfolding is_template_name
template_units name h = small name (both (has_name_length name) (list_all (λ u. nat_le 0x21 u && nat_le u 0x7e) name) h).1
  where
    one : (u : ℕ) → (nat_le 0x21 u && nat_le u 0x7e) ≡ true → u < 65536
    one u e = grind (arith, nat_tests)

    small : (units : List ℕ) → list_all (λ u. nat_le 0x21 u && nat_le u 0x7e) units ≡ true → AreUnits units
    small [] e = tt
    small (u ∷ units) e = let k = both (nat_le 0x21 u && nat_le u 0x7e) (list_all (λ u. nat_le 0x21 u && nat_le u 0x7e) units) e in (one u k.0, small units k.1)

module _ (plan : Plan) (files : List ClassFile) (s : System) (from : IsLinked plan files s) where
  -- that the system is linked
  abbrev linked : IsLinked plan files s
  linked = from

  -- the plan is that of the system
  pub same_plan : s.plan ≡ plan
  unfolding linked_system outline
  same_plan = ap (λ (x : System). x.plan) linked.system

  -- the selectors are those of the methods
  pub same_selectors : s.program.selectors ≡ selectors_of files
  unfolding linked_system outline
  same_selectors = ap (λ (x : System). x.program.selectors) linked.system

  -- a template is in range
  template_named : (t : Template) → Among plan.templates t → is_template_name t.name ≡ true
  template_named t h = let r = among_at plan.templates t h in
      let k = linked.has_files.range.templates r.0 t (below_length plan.templates r.0 t r.1) in
      ap (λ (x : Template). is_template_name x.name) (sym (get_or_from_slice_get plan.templates r.0 t t r.1)) ∙ k.name

  -- names differ
  pub distinct_names : HasDistinctNames s
  distinct_names = record {
    class_units = of_all (λ (k : Class). AreUnits k.name) s.program.classes (λ k h. names_units plan files s linked (are_files files from.has_files.read) k.name
        (subst (λ xs. Among xs k.name) (system_names plan files s linked) (among_map name_of s.program.classes k h)));
    selector_units = of_all (λ (y : Selector). AreUnits y.name × AreUnits y.descriptor) s.program.selectors (λ y h. selector_units files (are_files files from.has_files.read) y
        (subst (λ xs. Among xs y) same_selectors h));
    template_units = of_all (λ (t : Template). AreUnits t.name) s.plan.templates (λ t h. template_units t.name (template_named t (subst (λ (x : Plan). Among x.templates t) same_plan h)));
    classes = apart name_of s.program.classes (subst IsOnce (sym (system_names plan files s linked)) (names_once plan files s linked));
    selectors = λ i j x y e f same. one_place s.program.selectors (subst IsOnce (sym same_selectors) (selectors_once files)) i j x e (f ∙ ap Some (sym same));
    templates = apart (λ (t : Template). t.name) s.plan.templates
        (subst (λ (x : Plan). IsOnce (map (λ (t : Template). t.name) x.templates)) (sym same_plan) (texts_once (map (λ t. t.name) plan.templates) linked.has_files.range.template_once));
  }
