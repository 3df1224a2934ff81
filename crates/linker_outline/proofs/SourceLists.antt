-- The methods of classes, put together one class after the other.
use Rattle.std.proofs.Common.{◌≡◌, ◌∙◌, refl, sym, ap, ℕ, suc, ◌+◌, ◌<◌, List, [], ◌∷◌, ◌++◌, length, map, take, get_or, append_assoc, arith}
use Rattle.std.proofs.Math.Seq.{take-suc}
use Rattle.std.proofs.lemmas.List.{append-nil, map-append, length-take-le}
use Rattle.jx_base.specs.declared.class_file.ClassFile.{ClassFile}
use Rattle.jx_base.specs.declared.program.Class.{Class}
use Rattle.jx_base.specs.declared.program.Method.{Method}
use Rattle.jx_base.specs.declared.program.Plan.{Plan}
use Rattle.link_model.specs.Linking.{Source, built_in_sources_from, class_of_file, classes_from, file_sources, file_sources_from}
use Rattle.linker_outline.specs.Methods.{class_source, file_source}

-- one item more of a list
taken : {A : Type 0} (xs : List A) (i : ℕ) (x : A) → i < length xs → x ≡ get_or xs i x → take (i + 1) xs ≡ take i xs ++ x ∷ []
taken xs i x le is = ap (λ n. take n xs) (next i) ∙ take-suc xs i x le ∙ ap (λ z. take i xs ++ z ∷ []) (sym is)
  where
    next : (i : ℕ) → i + 1 ≡ suc i
    next i = omega arith

module _ {K : Type 0} (own : ℕ → K → List Source) (from : ℕ → List K → List Source) (none : (c : ℕ) → from c [] ≡ [])
    (more : (c : ℕ) (k : K) (ks : List K) → from c (k ∷ ks) ≡ own c k ++ from (c + 1) ks) where
  -- one class more
  last : (c : ℕ) (ks : List K) (k : K) → from c (ks ++ k ∷ []) ≡ from c ks ++ own (c + length ks) k
  last c [] k = more c k [] ∙ ap (λ xs. own c k ++ xs) (none (c + 1)) ∙ append-nil (own c k) ∙ ap (λ n. own n k) (sum c) ∙ ap (λ xs. xs ++ own (c + 0) k) (sym (none c))
    where
      sum : (c : ℕ) → c ≡ c + 0
      sum c = omega arith
  last c (j ∷ ks) k =
      more c j (ks ++ k ∷ []) ∙ ap (λ xs. own c j ++ xs) (last (c + 1) ks k)
      ∙ sym (append_assoc (own c j) (from (c + 1) ks) (own (c + 1 + length ks) k))
      ∙ ap (λ xs. xs ++ own (c + 1 + length ks) k) (sym (more c j ks)) ∙ ap (λ n. from c (j ∷ ks) ++ own n k) (sum c (length ks))
    where
      sum : (c n : ℕ) → c + 1 + n ≡ c + suc n
      sum c n = omega arith

  -- the methods of one class more, linked
  pub linked_next : (link : Source → Method) (front : List Source) (c : ℕ) (ks : List K) (i n : ℕ) (k : K) → i < length ks → k ≡ get_or ks i k → n ≡ c + i
      → map link (front ++ from c (take (i + 1) ks)) ≡ map link (front ++ from c (take i ks)) ++ map link (own n k)
  linked_next link front c ks i n k le is number =
      ap (λ zs. map link (front ++ from c zs)) (taken ks i k le is)
      ∙ ap (λ zs. map link (front ++ zs)) (last c (take i ks) k ∙ ap (λ m. from c (take i ks) ++ own m k) (ap (λ m. c + m) (length-take-le i ks (omega (arith, le))) ∙ sym number))
      ∙ ap (map link) (sym (append_assoc front (from c (take i ks)) (own n k)))
      ∙ map-append link (front ++ from c (take i ks)) (own n k)

-- the methods of a built-in class
abbrev pub of_class : ℕ → Class → List Source
of_class c k = map (class_source c) k.methods

-- there are none of no class
pub no_classes : (c : ℕ) → built_in_sources_from c [] ≡ []
unfolding built_in_sources_from
no_classes c = refl

-- those of one class more
pub more_classes : (c : ℕ) (k : Class) (ks : List Class) → built_in_sources_from c (k ∷ ks) ≡ of_class c k ++ built_in_sources_from (c + 1) ks
unfolding built_in_sources_from
more_classes c k ks = refl

-- the methods of a file
abbrev pub of_file : ℕ → ClassFile → List Source
of_file c f = map (file_source c) f.methods

-- there are none of no file
pub no_files : (c : ℕ) → file_sources_from c [] ≡ []
unfolding file_sources_from
no_files c = refl

-- those of one file more
pub more_files : (c : ℕ) (f : ClassFile) (fs : List ClassFile) → file_sources_from c (f ∷ fs) ≡ of_file c f ++ file_sources_from (c + 1) fs
unfolding file_sources_from file_sources
more_files c f fs = refl

-- ---- the classes of files

module _ (plan : Plan) (files : List ClassFile) where
  -- one class more
  last_class : (c : ℕ) (fs : List ClassFile) (f : ClassFile) → classes_from plan files c (fs ++ f ∷ []) ≡ classes_from plan files c fs ++ class_of_file plan files (c + length fs) f ∷ []
  unfolding classes_from
  last_class c [] f = ap (λ n. class_of_file plan files n f ∷ []) (sum c)
    where
      sum : (c : ℕ) → c ≡ c + 0
      sum c = omega arith
  last_class c (g ∷ fs) f = ap (λ ks. class_of_file plan files c g ∷ ks) (last_class (c + 1) fs f) ∙ ap (λ n. class_of_file plan files c g ∷ classes_from plan files (c + 1) fs ++ class_of_file plan files n f ∷ []) (sum c (length fs))
    where
      sum : (c n : ℕ) → c + 1 + n ≡ c + suc n
      sum c n = omega arith

  -- the class of one file more
  pub next_class : (c : ℕ) (fs : List ClassFile) (i : ℕ) (f : ClassFile) → i < length fs → f ≡ get_or fs i f
      → classes_from plan files c (take (i + 1) fs) ≡ classes_from plan files c (take i fs) ++ class_of_file plan files (c + i) f ∷ []
  next_class c fs i f le is =
      ap (classes_from plan files c) (taken fs i f le is) ∙ last_class c (take i fs) f
      ∙ ap (λ n. classes_from plan files c (take i fs) ++ class_of_file plan files (c + n) f ∷ []) (length-take-le i fs (omega (arith, le)))
