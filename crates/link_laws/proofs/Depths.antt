-- The supers and superinterfaces of a class end.
use Rattle.std.proofs.Common.{◌≡◌, ℕ, zero, suc, ◌+◌, ◌-◌, ◌<◌, ◌≤◌, inl, inr, true, false, not, List, [], ◌∷◌, ◌++◌, length, map, codes, Option, Some, None, slice_get, refl, sym, ap, ◌∙◌, subst, length-append, arith}
use Rattle.std.specs.Prelude.{flat_map}
use Rattle.std.specs.List.{filter_map}
use Rattle.std.specs.List.{range_with_len}
use Rattle.std.proofs.lemmas.List.{length-map}
use Rattle.std.proofs.lemmas.List.FromFn.{length-range_with_len}
use Rattle.std.proofs.lemmas.Option.{get_or_from_slice_get}
use Rattle.class_grammar.specs.Flags.{is_interface_flag}
use Rattle.jx_base.specs.declared.class_file.ClassFile.{ClassFile}
use Rattle.jx_base.specs.declared.ids.ClassId.{ClassId}
use Rattle.jx_base.specs.declared.program.Class.{Class}
use Rattle.jx_base.specs.declared.program.Plan.{Plan}
use Rattle.jx_base.specs.declared.program.System.{System}
use Rattle.jx_base.specs.declared.program.Template.{Template}
use Rattle.program_model.specs.BuiltIn.{built_in_table, built_in_count, portal_class}
use Rattle.link_model.specs.ClassFiles.{super_name, interface_names}
use Rattle.link_model.specs.LinkFaults.{IsLinked, may_implement, listed_place, next_above, all_above, is_above_itself}
use Rattle.link_model.specs.Linking.{outline, class_number, class_id, class_of_file, array_names, named_arrays}
use Rattle.program_model.specs.Lookup.{class_at, class_count, supers_within, supers_of, parent_list}
use Rattle.jx_base.specs.Basics.{firsts}
use Rattle.jx_base.proofs.BasicLaws.{passed}
use Rattle.link_laws.specs.Supers.{right_above, InterfacesHold}
use Rattle.link_laws.proofs.Above.{no_longer, firsts_once, find_none, above_next, above_more, comes_back}
use Rattle.link_laws.proofs.Classes.{name_of, all_names, built_in_length, system_names}
use Rattle.link_laws.proofs.Climbs.{some_built_in, built_in_number, super_number, named_above, IsAbove, AboveBuiltIn, AboveListed}
use Rattle.link_laws.proofs.Hierarchy.{portal_named, portal_small, is_empty, built_in_plain, empty_is, array_plain, place_small}
use Rattle.link_laws.proofs.Lists.{Among, IsOnce, among_at, among_either, at_among, in_range, at_below, below_length, each_among, from_given, from_map, same_there, same_text, text_kept}
use Rattle.link_laws.proofs.Origins.{IsOutlined, IsBuiltIn, IsOfFile, IsOfArray, is_outlined, class_linked, class_outlined, meant_of, meant_alike, file_linked}
use Rattle.link_laws.proofs.Rises.{built_in_parent, built_in_outlined, array_parent}
use Rattle.link_laws.proofs.Templates.{IsListed, file_listed, listed_sound, unturned}
use Rattle.link_laws.proofs.Uses.{either_true, and_then_some, mapped_some}
use Rattle.std.specs.Option.{option_and_then, option_map}

-- flat maps of functions that agree on the items
same_flat : {A B : Type 0} (f g : A → List B) (xs : List A) → ((x : A) → Among xs x → f x ≡ g x) → flat_map f xs ≡ flat_map g xs
same_flat f g [] h = refl
same_flat f g (x ∷ xs) h = let a = h x (inl refl) in let b = same_flat f g xs (λ y m. h y (inr m)) in cc

module _ (plan : Plan) (files : List ClassFile) (s : System) (linked : IsLinked plan files s) where
  -- all ways up from class c end within so many classes
  abbrev pub Ends : ℕ → ℕ → Type 0
  Ends zero c = ⊥
  Ends (suc n) c = (k : Class) × (class_at s c ≡ Some k) × ((x : ℕ) → Among (right_above k) x → Ends n x)

  -- then they end within more
  ends_more : (n c : ℕ) → Ends n c → Ends (suc n) c
  ends_more zero c h = absurd h
  ends_more (suc n) c h = (h.0, h.1, λ x a. ends_more n x (h.2 x a))

  -- and within many more
  ends_within : (n j c : ℕ) → Ends n c → Ends (j + n) c
  ends_within n zero c h = subst (λ m. Ends m c) (omega arith) h
  ends_within n (suc j) c h = subst (λ m. Ends m c) (shift j n) (ends_more (j + n) c (ends_within n j c h))
    where
      shift : (j n : ℕ) → suc (j + n) ≡ suc j + n
      shift j n = omega arith

  -- what stands above a class of which one knows its parent, where it has no interfaces
  only_parent : (k : Class) (p : ClassId) (x : ℕ) → k.interfaces ≡ [] → k.parent ≡ Some p → Among (right_above k) x → p.0 ≡ x
  unfolding parent_list
  only_parent k p x e f a = elim (subst (λ (o : Option ClassId). Among (parent_list o) x) f (subst (λ (is : List ClassId). Among (map (λ (i : ClassId). i.0) is ++ parent_list k.parent) x) e a)) [ inl q ↦ q | inr q ↦ absurd q ]

  -- what stands above a class that has neither
  no_parent : (k : Class) (x : ℕ) → k.interfaces ≡ [] → k.parent ≡ None → Among (right_above k) x → ⊥
  unfolding parent_list
  no_parent k x e f a = subst (λ (o : Option ClassId). Among (parent_list o) x) f (subst (λ (is : List ClassId). Among (map (λ (i : ClassId). i.0) is ++ parent_list k.parent) x) e a)

  -- the ways up from a built-in class end
  built_in_ends : (b c : ℕ) → c < b → c < built_in_count → Ends b c
  built_in_ends zero c h small = absurd (omega (arith, h))
  built_in_ends (suc b) c h small =
      let k = at_below built_in_table c (omega (arith, built_in_length, small)) in
      let there = class_linked plan files s linked c k.0 (built_in_outlined plan files s linked c small ∙ k.1) in
      let alike = meant_alike (outline plan files) files c k.0 in
      let plain = alike.interfaces ∙ empty_is k.0.interfaces (each_among (λ (k : Class). is_empty k.interfaces) built_in_table k.0 built_in_plain (at_among built_in_table c k.0 k.1)) in (
        meant_of (outline plan files) files c k.0,
        there,
        λ x a. elim (built_in_parent c k.0 k.1) [
          | inl q ↦ absurd (no_parent (meant_of (outline plan files) files c k.0) x plain (alike.parent ∙ q.0) a)
          | inr q ↦
              let same = only_parent (meant_of (outline plan files) files c k.0) q.0 x plain (alike.parent ∙ q.1) a in
              built_in_ends b x (omega (arith, same, q.2, h)) (omega (arith, same, q.2, small))
        ],
      )

  -- ---- listed classes

  -- each interface of a listed class stands right above it, or is built in
  interface_above : (t : Template) (p : ℕ) (n : List ℕ) (f : ClassFile) → IsListed plan files t p n f → (i : ClassId) → Among (filter_map (class_id plan) (interface_names f)) i → IsAbove plan files s linked t p i.0
  unfolding class_id may_implement
  interface_above t p n f l i h =
      let r = from_given (class_id plan) (interface_names f) i h in
      let number = mapped_some (λ (c : ℕ). record { 0 = c }) (class_number plan r.0) i r.2 in
      let may = unturned (may_implement plan files t r.0) (find_none (λ n. not (may_implement plan files t n)) (interface_names f) r.0 (listed_sound plan files s linked t p n f l).implements r.1) in
      let here : number.0 ≡ i.0 = ap (λ (c : ClassId). c.0) number.2 in
      subst (IsAbove plan files s linked t p) here (elim (either_true _ _ may) [
        | inl q ↦ AboveBuiltIn (subst (λ n. n < built_in_count)
            (same_there portal_class number.0 (sym (built_in_number plan files s linked portal_class r.0 (portal_named ∙ ap Some (sym (same_text r.0 (codes "jx/Portal") q)))) ∙ number.1)) portal_small)
        | inr q ↦
            let g = passed (λ (f : ClassFile). is_interface_flag f.flags) (option_and_then (slice_get files) (listed_place plan t r.0)) q in
            let place = and_then_some (listed_place plan t r.0) (slice_get files) g.0 g.1 in
            let k = named_above plan files s linked t p f r.0 place.0 l.file (inr r.1) place.1 in
            subst (IsAbove plan files s linked t p) (same_there (built_in_count + place.0) number.0 (sym k.0 ∙ number.1)) k.1
      ])

  -- all that stands right above a listed class does so in the list, or is built in
  all_right_above : (t : Template) (p : ℕ) (n : List ℕ) (f : ClassFile) → IsListed plan files t p n f → (x : ℕ) → Among (right_above (class_of_file plan files (built_in_count + p) f)) x → IsAbove plan files s linked t p x
  unfolding class_of_file class_id parent_list
  all_right_above t p n f l x a =
      let q = super_number plan files s linked t p n f l in
      elim (among_either (map (λ (i : ClassId). i.0) (filter_map (class_id plan) (interface_names f))) (parent_list (class_id plan (super_name f))) x a) [
        | inl b ↦ let r = from_map (λ (i : ClassId). i.0) (filter_map (class_id plan) (interface_names f)) x b in subst (IsAbove plan files s linked t p) r.2 (interface_above t p n f l r.0 r.1)
        | inr b ↦ elim (subst (λ (o : Option ClassId). Among (parent_list o) x) (ap (option_map (λ (c : ℕ). record { 0 = c })) q.1) b) [ inl w ↦ subst (IsAbove plan files s linked t p) w q.2 | inr w ↦ absurd w ]
      ]

  -- how the ways up from a listed class end, behind those that were seen
  abbrev EndsOn : Template → ℕ → List ℕ → ℕ → Type 0
  EndsOn t m seen r = (g : ClassFile) → Among t.classes r → slice_get files r ≡ Some g → IsOnce (r ∷ seen) → ((x : ℕ) → Among seen x → Among t.classes x)
      → ((x : ℕ) → Among seen x → Among (all_above plan files t x (length seen)) r) → length t.classes ≤ m + length seen → Ends (suc (m + built_in_count)) (built_in_count + r)

  -- one step up from a listed class
  end_step : (t : Template) → Among plan.templates t → (n : ℕ) (seen : List ℕ) (p : ℕ) → ((m r : ℕ) → n ≡ suc m → EndsOn t m (p ∷ seen) r) → EndsOn t n seen p
  unfolding class_of_file
  end_step t h n seen p again f listed file once all ways room =
      let named = at_below plan.classes p (omega (arith, below_length files p f file, linked.has_files.count)) in
      (_, file_linked plan files s linked p f file, λ x a. by n x (all_right_above t p named.0 f (record { template = h; listed = listed; named = named.1; file = file }) x a) room again)
    where
      few : suc (length seen) ≤ length t.classes
      few = no_longer (p ∷ seen) t.classes once (λ x a. elim a [ inl q ↦ subst (Among t.classes) q listed | inr q ↦ all x q ])

      -- what stands right above leads to no class that was seen
      new : (r : ℕ) (g : ClassFile) → Among t.classes r → slice_get files r ≡ Some g → Among (next_above plan files t p) r → Among (p ∷ seen) r → ⊥
      new r g a b c d =
          let name = at_below plan.classes r (omega (arith, below_length files r g b, linked.has_files.count)) in
          clash (comes_back plan files t r (suc (length seen)) few (back d)) (listed_sound plan files s linked t r name.0 g (record { template = h; listed = a; named = name.1; file = b })).no_loop
        where
          clash : is_above_itself plan files t r ≡ true → is_above_itself plan files t r ≡ false → ⊥
          clash x y = cc

          back : Among (p ∷ seen) r → Among (all_above plan files t r (suc (length seen))) r
          back (inl q) = subst (λ x. Among (all_above plan files t x (suc (length seen))) r) q (above_next plan files t p (length seen) r c)
          back (inr q) = above_more plan files t r (length seen) p r (ways r q) c

      by : (n x : ℕ) → IsAbove plan files s linked t p x → length t.classes ≤ n + length seen → ((m r : ℕ) → n ≡ suc m → EndsOn t m (p ∷ seen) r) → Ends (n + built_in_count) x
      by n x (AboveBuiltIn small) room again = ends_within built_in_count n x (built_in_ends built_in_count x small small)
      by zero x (AboveListed r g i a b c) room again = absurd (omega (arith, few, room))
      by (suc n) x (AboveListed r g i a b c) room again =
          let k = again n r refl g a b ((λ d. new r g a b c d), once) (λ x d. elim d [ inl w ↦ subst (Among t.classes) w listed | inr w ↦ all x w ])
          (λ x d. elim d [
            | inl w ↦ subst (λ y. Among (all_above plan files t y (suc (length seen))) r) w (above_next plan files t p (length seen) r c)
            | inr w ↦ above_more plan files t x (length seen) p r (ways x w) c
          ]) (omega (arith, room)) in
          subst (λ m. Ends m x) (shift n) (subst (Ends (suc (n + built_in_count))) (sym i) k)
        where
          shift : (n : ℕ) → suc (n + built_in_count) ≡ suc n + built_in_count
          shift n = omega arith

  -- from a listed class
  ends_on : (t : Template) → Among plan.templates t → (n : ℕ) (seen : List ℕ) (p : ℕ) → EndsOn t n seen p
  ends_on t h zero seen p = end_step t h zero seen p (λ m r e. absurd (omega (arith, e)))
  ends_on t h (suc n) seen p = end_step t h (suc n) seen p (λ m r e g a b c d w room. lower m r e (ends_on t h n (p ∷ seen) r g a b c d w (omega (arith, e, room))))
    where
      lower : (m r : ℕ) → suc n ≡ suc m → Ends (suc (n + built_in_count)) (built_in_count + r) → Ends (suc (m + built_in_count)) (built_in_count + r)
      lower m r e k = subst (λ j. Ends (suc (j + built_in_count)) (built_in_count + r)) (omega (arith, e)) k

  -- ---- all classes

  -- there are no fewer classes than these
  classes_enough : built_in_count + length files + 1 ≤ class_count s
  unfolding class_count all_names array_names
  classes_enough =
      let names = ap length (system_names plan files s linked) in
      omega (
        arith,
        names,
        length-map s.program.classes name_of,
        length-append (map name_of built_in_table) (plan.classes ++ array_names plan files),
        length-append plan.classes (array_names plan files),
        length-map built_in_table name_of,
        built_in_length,
        linked.has_files.count,
        some (codes "[Ljava/lang/String;") (array_names plan files) (text_kept (codes "[Ljava/lang/String;" ∷ codes "[Ljx/Memory;" ∷ named_arrays plan files) (codes "[Ljava/lang/String;") (inl refl)),
      )
    where
      some : (x : List ℕ) (xs : List (List ℕ)) → Among xs x → 1 ≤ length xs
      some x [] h = absurd h
      some x (y ∷ xs) h = omega arith

  -- a template lists no more classes than there are files
  list_fits : (t : Template) → Among plan.templates t → length t.classes ≤ length files
  list_fits t h =
      let r = among_at plan.templates t h in
      let range = linked.has_files.range.templates r.0 t (below_length plan.templates r.0 t r.1) in
      let once = subst (λ (x : Template). firsts x.classes ≡ x.classes) (get_or_from_slice_get plan.templates r.0 t t r.1) range.class_once in
      omega (
        arith,
        length-range_with_len 0 (length files),
        no_longer t.classes (range_with_len 0 (length files)) (subst IsOnce once (firsts_once t.classes)) (λ x a. in_range 0 (length files) x (omega arith) (omega (arith, place_small plan files s linked t x h a, linked.has_files.count))),
      )

  -- all ways up end within the number of classes
  pub all_end : (c : ℕ) (k : Class) → class_at s c ≡ Some k → Ends (class_count s) c
  unfolding class_at outline
  all_end c k e = let r = class_outlined plan files s linked c k e in by r.0 r.2 (is_outlined plan files c r.0 r.1)
    where
      more : (n : ℕ) → n ≤ class_count s → Ends n c → Ends (class_count s) c
      more n le h = subst (λ m. Ends m c) (whole (class_count s) n le) (ends_within n (class_count s - n) c h)
        where
          whole : (m n : ℕ) → n ≤ m → (m - n) + n ≡ m
          whole m n le = omega arith

      by : (h : Class) → k ≡ meant_of (outline plan files) files c h → IsOutlined plan files c h → Ends (class_count s) c
      by h w (IsBuiltIn small i) = more built_in_count (omega (arith, classes_enough)) (built_in_ends built_in_count c small small)
      by h w (IsOfFile p f i g m) =
          let l = file_listed plan files s linked p f g in
          more (suc (length l.0.classes + built_in_count)) (omega (arith, classes_enough, list_fits l.0 l.2.template))
          (subst (Ends (suc (length l.0.classes + built_in_count))) (sym i)
          (ends_on l.0 l.2.template (length l.0.classes) [] p f l.2.listed g ((λ a. a), tt) (λ x a. absurd a) (λ x a. absurd a) (omega arith)))
      by h w (IsOfArray j name i g m) =
          let alike = meant_alike (outline plan files) files c h in
          let plain = ap (λ (x : Class). x.interfaces) w ∙ alike.interfaces ∙ ap (λ (x : Class). x.interfaces) m ∙ array_plain name in
          let parent = ap (λ (x : Class). x.parent) w ∙ alike.parent ∙ ap (λ (x : Class). x.parent) m ∙ array_parent name in
          more (suc built_in_count) (omega (arith, classes_enough)) (
            k,
            e,
            λ x a.
                let same : 0 ≡ x = only_parent k (record { 0 = 0 }) x plain parent a in subst (Ends built_in_count) same (built_in_ends built_in_count 0 some_built_in some_built_in),
          )

  -- ---- supers

  -- a step of the supers
  supers_step : (m c : ℕ) (k : Class) → class_at s c ≡ Some k → supers_within s (suc m) c ≡ c ∷ flat_map (supers_within s m) (right_above k)
  unfolding supers_within
  supers_step m c k e = by (class_at s c) e
    where
      by : (o : Option Class) → o ≡ Some k → (elim o as (λ _. List ℕ) [ None ↦ [] | Some x ↦ c ∷ flat_map (supers_within s m) (map (λ (i : ClassId). i.0) x.interfaces ++ parent_list x.parent) ]) ≡ c ∷ flat_map (supers_within s m) (right_above k)
      by None q = absurd cc
      by (Some x) q = ap (λ (y : Class). c ∷ flat_map (supers_within s m) (right_above y)) (same_there x k q)

  -- supers with steps enough have them with one more
  supers_stay : (n c : ℕ) → Ends n c → supers_within s (suc n) c ≡ supers_within s n c
  supers_stay zero c h = absurd h
  supers_stay (suc n) c h =
      supers_step (suc n) c h.0 h.1 ∙ ap (λ xs. c ∷ xs) (same_flat (supers_within s (suc n)) (supers_within s n) (right_above h.0) (λ x a. supers_stay n x (h.2 x a))) ∙ sym (supers_step n c h.0 h.1)

  -- the supers of a class are the class and those of all that stands right above it
  pub supers_grow : InterfacesHold s
  unfolding supers_of
  supers_grow c k e = by (class_count s) refl (all_end c k e)
    where
      by : (n : ℕ) → class_count s ≡ n → Ends n c → supers_within s n c ≡ c ∷ flat_map (supers_within s n) (right_above k)
      by zero q h = absurd h
      by (suc n) q h =
          let same : h.0 ≡ k = same_there h.0 k (sym h.1 ∙ e) in
          supers_step n c k e ∙ ap (λ xs. c ∷ xs) (same_flat (supers_within s n) (supers_within s (suc n)) (right_above k)
          (λ x a. sym (supers_stay n x (h.2 x (subst (λ (y : Class). Among (right_above y) x) (sym same) a)))))
