-- The fault of a use, test by test.
use Rattle.std.proofs.Common.{◌≡◌, refl, ℕ, true, false, List, [], ◌∷◌, Option, Some, None}
use Rattle.std.specs.Fmt.{decimal}
use Rattle.jx_base.specs.Basics.{first_fault}
use Rattle.jx_base.specs.declared.class_file.ClassFile.{ClassFile}
use Rattle.jx_base.specs.declared.class_file.Constant.{Constant}
use Rattle.jx_base.specs.declared.class_file.Constant.TheVariants as constant
use Rattle.jx_base.specs.declared.program.Plan.{Plan}
use Rattle.jx_base.specs.declared.program.Selector.{Selector}
use Rattle.jx_base.specs.declared.program.System.{System}
use Rattle.jx_base.specs.declared.program.Template.{Template}
use Rattle.jx_base.specs.declared.row.Invocation.TheVariants as invocation
use Rattle.link_model.specs.ClassFiles.{class_of_constant, constant_in, member_of_constant}
use Rattle.link_model.specs.LinkFaults.{abstract_name, fault_if, has_member, has_shape_for, has_tag_for, is_known, member_fault, missing_kind, needs_abstract, use_fault}
use Rattle.link_model.specs.declared.fault.LinkKind.TheVariants.{Abstract, BadConstant, NoClass}
use Rattle.link_model.specs.declared.uses.Use.{Use}
use Rattle.link_model.specs.declared.uses.Use.TheVariants.{AsWord, AsLong, AsField, AsMethod, AsNew, AsClass, AsArray}
use Rattle.link_model.specs.declared.uses.Used.{Used}

-- the first of one fault
only : {F : Type 0} (o : Option F) → first_fault (o ∷ []) ≡ o
unfolding first_fault
only None = refl
only (Some x) = refl

module _ (s : System) (plan : Plan) (t : Template) (class : List ℕ) where
  module _ (u : Use) (name : List ℕ) (x : Selector) where
    -- a class that is not known
    pub unknown : is_known plan t name ≡ false → member_fault s plan t class u name x ≡ Some (record { class = class; kind = NoClass; name = name })
    unfolding member_fault first_fault fault_if
    unknown h = rw h refl

    module _ (known : is_known plan t name ≡ true) where
      -- a member that is missing
      pub missing : has_member s u name x ≡ false → member_fault s plan t class u name x ≡ Some (record { class = class; kind = missing_kind u; name = x.name })
      unfolding member_fault first_fault fault_if
      missing h = rw (known, h) refl

      -- one that is abstract
      pub abstract_one : has_member s u name x ≡ true → needs_abstract s u name x ≡ true → member_fault s plan t class u name x ≡ Some (record { class = class; kind = Abstract; name = abstract_name u name x })
      unfolding member_fault first_fault fault_if
      abstract_one h k = rw (known, h, k) refl

      -- one without a fault
      pub no_member_fault : has_member s u name x ≡ true → needs_abstract s u name x ≡ false → member_fault s plan t class u name x ≡ None
      unfolding member_fault first_fault fault_if
      no_member_fault h k = rw (known, h, k) refl

  module _ (f : ClassFile) (u : Used) (k : Constant) (is : constant_in f u.index ≡ k) where
    -- a constant of another tag
    pub other_tag : has_tag_for u.use_of k ≡ false → use_fault s plan t class f u ≡ Some (record { class = class; kind = BadConstant; name = decimal u.index })
    unfolding use_fault first_fault fault_if
    other_tag h = rw (is, h) refl

    module _ (tag : has_tag_for u.use_of k ≡ true) where
      -- one that names no class
      pub no_class : class_of_constant f k ≡ None → use_fault s plan t class f u ≡ None
      unfolding use_fault first_fault fault_if
      no_class h = rw (is, tag, h) refl

      -- a class of another shape
      pub other_shape : (name : List ℕ) → class_of_constant f k ≡ Some name → has_shape_for u.use_of name ≡ false → use_fault s plan t class f u ≡ Some (record { class = class; kind = BadConstant; name = decimal u.index })
      unfolding use_fault first_fault fault_if
      other_shape name h e = rw (is, tag, h, e) refl

      -- the class and the member that it names
      pub of_member : (name : List ℕ) → class_of_constant f k ≡ Some name → has_shape_for u.use_of name ≡ true → use_fault s plan t class f u ≡ member_fault s plan t class u.use_of name (member_of_constant f k)
      unfolding use_fault first_fault fault_if
      of_member name h e = rw (is, tag, h, e) (only (member_fault s plan t class u.use_of name (member_of_constant f k)))

-- no use can have what is no constant
pub unusable_has_no_tag : (u : Use) → has_tag_for u constant.Unusable ≡ false
unfolding has_tag_for
unusable_has_no_tag AsWord = refl
unusable_has_no_tag AsLong = refl
unusable_has_no_tag (AsField static) = refl
unusable_has_no_tag (AsMethod invocation.Interface) = refl
unusable_has_no_tag (AsMethod invocation.Virtual) = refl
unusable_has_no_tag (AsMethod invocation.Special) = refl
unusable_has_no_tag (AsMethod invocation.Static) = refl
unusable_has_no_tag AsNew = refl
unusable_has_no_tag AsClass = refl
unusable_has_no_tag (AsArray n) = refl
