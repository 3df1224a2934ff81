-- What the walks of linking find: each class of the plan stands in a template's list, and has no fault there.
use Rattle.std.proofs.Common.{◌≡◌, ℕ, ◌<◌, inl, inr, Bool, true, false, not, List, [], ◌∷◌, length, map, Option, Some, None, slice_get, refl, sym, ◌∙◌, subst, arith}
use Rattle.std.proofs.lemmas.List.{length-map}
use Rattle.std.specs.Prelude.{flat_map}
use Rattle.std.specs.List.{filter_map, find}
use Rattle.std.specs.Str.{bytes_eq}
use Rattle.jx_base.specs.declared.class_file.ClassFile.{ClassFile}
use Rattle.jx_base.specs.declared.program.Plan.{Plan}
use Rattle.jx_base.specs.declared.program.System.{System}
use Rattle.jx_base.specs.declared.program.Template.{Template}
use Rattle.jx_base.specs.Basics.{distinct}
use Rattle.link_model.specs.ClassFiles.{this_name, super_name, interface_names}
use Rattle.link_model.specs.Linking.{outline}
use Rattle.link_model.specs.declared.fault.LinkFault.{LinkFault}
use Rattle.link_model.specs.declared.fault.LinkKind.{LinkKind}
use Rattle.link_model.specs.declared.fault.LinkKind.TheVariants.{NoClass, SuperLoop, Twice, WrongName}
use Rattle.link_model.specs.LinkFaults.{fault_if, first_fault, named_fault, listed_name, listing_at, Listing, may_extend, may_implement, is_above_itself, repeated_name, class_fault, main_fault, uses_fault, template_fault, first_link_fault, IsLinked}
use Rattle.link_laws.proofs.Lists.{Among, none_given, among_given, at_below, from_flat, firsts_there, in_range, below_length, same_items, from_map_at, same_text, same_there}
use Rattle.std.specs.Option.{option_and_then, option_map}

-- ---- faults

-- where there is no first fault, none of the list is one
pub no_fault_of : (faults : List (Option LinkFault)) (fault : Option LinkFault) → first_fault faults ≡ None → Among faults fault → fault ≡ None
unfolding first_fault
no_fault_of [] fault h k = absurd k
no_fault_of (None ∷ faults) fault h (inl e) = sym e
no_fault_of (None ∷ faults) fault h (inr k) = no_fault_of faults fault h k
no_fault_of (Some f ∷ faults) fault h k = absurd cc

-- without a fault the test fails
pub test_fails : (test : Bool) (class : List ℕ) (kind : LinkKind) (name : List ℕ) → fault_if test class kind name ≡ None → test ≡ false
unfolding fault_if
test_fails true class kind name h = absurd cc
test_fails false class kind name h = refl

-- without a fault there is no name
pub name_fails : (class : List ℕ) (kind : LinkKind) (name : Option (List ℕ)) → named_fault class kind name ≡ None → name ≡ None
unfolding named_fault
name_fails class kind None h = refl
name_fails class kind (Some n) h = absurd cc

-- a test whose negation fails passes
pub unturned : (b : Bool) → not b ≡ false → b ≡ true
unturned true h = refl
unturned false h = absurd cc

-- ---- the classes of a template

-- a class of a template's list, with its name in the plan and its file
pub record IsListed (plan : Plan) (files : List ClassFile) (t : Template) (p : ℕ) (name : List ℕ) (f : ClassFile) : Type 0 where
  pub template : Among plan.templates t
  pub listed : Among t.classes p
  pub named : slice_get plan.classes p ≡ Some name
  pub file : slice_get files p ≡ Some f

-- what the first walk finds of a class
pub record IsSound (plan : Plan) (files : List ClassFile) (t : Template) (p : ℕ) (name : List ℕ) (f : ClassFile) : Type 0 where
  pub named : bytes_eq (this_name f) name ≡ true
  pub extends : may_extend plan t f (super_name f) ≡ true
  pub implements : find (λ n. not (may_implement plan files t n)) (interface_names f) ≡ None
  pub no_loop : is_above_itself plan files t p ≡ false
  pub fields : repeated_name f.fields ≡ None
  pub methods : repeated_name f.methods ≡ None

-- a class without a fault is sound
pub sound : (plan : Plan) (files : List ClassFile) (t : Template) (p : ℕ) (name : List ℕ) (f : ClassFile) → class_fault plan files t p name f ≡ None → IsSound plan files t p name f
unfolding class_fault
sound plan files t p name f h = record {
  named = unturned _ (test_fails _ name WrongName (this_name f) (no_fault_of _ _ h (inl refl)));
  extends = unturned _ (test_fails _ name NoClass (super_name f) (no_fault_of _ _ h (inr (inl refl))));
  implements = name_fails name NoClass _ (no_fault_of _ _ h (inr (inr (inl refl))));
  no_loop = test_fails _ name SuperLoop name (no_fault_of _ _ h (inr (inr (inr (inl refl)))));
  fields = name_fails name Twice _ (no_fault_of _ _ h (inr (inr (inr (inr (inl refl))))));
  methods = name_fails name Twice _ (no_fault_of _ _ h (inr (inr (inr (inr (inr (inl refl)))))));
}

-- the class as the walks list it
abbrev listing : ℕ → List ℕ → ClassFile → Listing
listing p name f = record { place = p; name = name; file = f }

-- a class of a template's list is listed
listing_there : (plan : Plan) (files : List ClassFile) (t : Template) (p : ℕ) (name : List ℕ) (f : ClassFile) → IsListed plan files t p name f →
    Among (filter_map (listing_at plan files) t.classes) (listing p name f)
unfolding listing_at listed_name
listing_there plan files t p name f h = among_given (listing_at plan files) t.classes p (listing p name f) h.listed (by (slice_get plan.classes p) (slice_get files p) h.named h.file)
  where
    by : (a : Option (List ℕ)) (b : Option ClassFile) → a ≡ Some name → b ≡ Some f → option_and_then (λ n. option_map (λ g. listing p n g) b) a ≡ Some (listing p name f)
    by None b e k = absurd cc
    by (Some n) None e k = absurd cc
    by (Some n) (Some g) e k = cc

module _ (plan : Plan) (files : List ClassFile) (s : System) (linked : IsLinked plan files s) where
  -- each place of the plan stands in a template's list
  pub template_of : (p : ℕ) → p < length plan.classes → (t : Template) × Among plan.templates t × Among t.classes p
  unfolding distinct
  template_of p h =
      let places : List ℕ = flat_map (λ t. t.classes) plan.templates in
      from_flat (λ t. t.classes) plan.templates p
      (firsts_there places [] p (subst (λ xs. Among xs p) (sym linked.has_files.range.class_order) (in_range 0 (length plan.classes) p (omega arith) (omega arith))))

  -- no template has a fault
  faultless : (t : Template) → Among plan.templates t → template_fault (outline plan files) plan files t ≡ None
  unfolding first_link_fault
  faultless t h = none_given (template_fault (outline plan files) plan files) plan.templates t linked.no_fault h

  module _ (t : Template) (p : ℕ) (name : List ℕ) (f : ClassFile) (h : IsListed plan files t p name f) where
    -- a listed class is sound
    pub listed_sound : IsSound plan files t p name f
    unfolding template_fault
    listed_sound = sound plan files t p name f
        (none_given (λ (x : Listing). class_fault plan files t x.place x.name x.file) _ (listing p name f) (no_fault_of _ _ (faultless t h.template) (inl refl)) (listing_there plan files t p name f h))

    -- and so are the uses of its constants
    pub listed_uses : uses_fault (outline plan files) plan t name f ≡ None
    unfolding template_fault
    listed_uses =
        none_given (λ (x : Listing). uses_fault (outline plan files) plan t x.name x.file) _ (listing p name f) (no_fault_of _ _ (faultless t h.template) (inr (inr (inl refl)))) (listing_there plan files t p name f h)

  -- the main class of a template has a main method
  pub listed_main : (t : Template) → Among plan.templates t → option_and_then (λ x. main_fault x.name x.file) (listing_at plan files t.main) ≡ None
  unfolding template_fault
  listed_main t h = no_fault_of _ _ (faultless t h) (inr (inl refl))

  -- a file of the plan is that of a class of a template
  pub file_listed : (p : ℕ) (f : ClassFile) → slice_get files p ≡ Some f → (t : Template) × (name : List ℕ) × IsListed plan files t p name f
  file_listed p f e =
      let small : p < length plan.classes = omega (arith, below_length files p f e, linked.has_files.count) in
      let t = template_of p small in
      let n = at_below plan.classes p small in
      (t.0, n.0, record { template = t.1; listed = t.2; named = n.1; file = e })

  -- each file has the name that the plan gives
  pub file_names : map this_name files ≡ plan.classes
  file_names = same_items (map this_name files) plan.classes (length-map files this_name ∙ linked.has_files.count) (λ i x y e k.
      let r = from_map_at this_name files i x e in
      let l = file_listed i r.0 r.1 in
      let sound = listed_sound l.0 i l.1 r.0 l.2 in
      sym r.2 ∙ same_text _ _ sound.named ∙ same_there _ _ (sym l.2.named ∙ k))
