-- The code of class files of bytes is of bytes.
use Rattle.std.proofs.Common.{◌≡◌, ℕ, ◌<◌, zero, suc, inl, inr, Bool, true, false, not, ◌&&◌, List, [], ◌∷◌, ◌++◌, length, Option, Some, None, is_none, sym, subst}
use Rattle.std.specs.Prelude.{IfSome, IsTrue, MatchBool}
use Rattle.std.specs.List.{AllByRecursion}
use Rattle.std.specs.Int.{Width, w8, w16, w32, w64}
use Rattle.class_grammar.specs.ClassGrammar.{IsClassFile, class_file_part, version_part, pool_part, heading_part, interface_part, fields_part, methods_part}
use Rattle.class_grammar.specs.Constants.{constant_body, constant_part, constants_part, utf8_body, skipped_body, index_pair, is_double_width}
use Rattle.class_grammar.specs.Descriptors.{IsFieldDescriptor, field_type_of}
use Rattle.class_grammar.specs.Flags.{is_abstract}
use Rattle.class_grammar.specs.Members.{name_part, class_index, skipped_attribute, skipped_attributes, code_part, code_body, is_code_name, method_attributes, method_part, field_part}
use Rattle.class_grammar.specs.Parts.{Part, ◌>>=◌, either, repeated, done, demand, no_fault, known, meant, here, bytes_of, number}
use Rattle.jx_base.specs.declared.class_file.ClassFile.{ClassFile}
use Rattle.jx_base.specs.declared.class_file.Code.{Code}
use Rattle.jx_base.specs.declared.class_file.Constant.{Constant}
use Rattle.jx_base.specs.declared.class_file.Member.{Member}
use Rattle.jx_base.specs.declared.constant_tag.ConstantTag.{ConstantTag}
use Rattle.jx_base.specs.declared.constant_tag.ConstantTag.TheVariants as tag
use Rattle.jx_base.specs.declared.fault.ClassFault.{ClassFault}
use Rattle.link_laws.proofs.Lists.{among_either, of_each, of_all}
use Rattle.sound_laws.proofs.ByteCodes.{HaveByteCodes}
use Rattle.class_grammar.specs.ReadFiles.{AreBytes}
use Rattle.class_grammar.specs.ReadFiles.{IsReadFile}
use Rattle.sound_laws.proofs.Operands.{behind_bytes}

-- what stands in front is of bytes
front_bytes : (xs ys zs : List ℕ) → zs ≡ xs ++ ys → AreBytes zs → AreBytes xs
front_bytes [] ys zs e h = tt
front_bytes (x ∷ xs) ys [] e h = absurd cc
front_bytes (x ∷ xs) ys (z ∷ zs) e h = let same : zs ≡ xs ++ ys = cc in let one : z ≡ x = cc in (subst (λ (b : ℕ). b < 256) one h.0, front_bytes xs ys zs same h.1)

-- a part of bytes leaves bytes
pub record Keeps {A F : Type 0} (p : Part A F) : Type 0 where
  pub left : (text : List ℕ) (x : A) (rest : List ℕ) → p.spells text x rest → AreBytes text → AreBytes rest

k-bind : {A B F : Type 0} (p : Part A F) (q : A → Part B F) → Keeps p → ((x : A) → Keeps (q x)) → Keeps (p >>= q)
k-bind p q hp hq = record { left = λ text y rest h a. (hq h.0).left h.1 y rest h.3 (hp.left text h.0 h.1 h.2 a) }

k-done : {A F : Type 0} (x : A) → Keeps (done {F = F} x)
k-done x = record { left = λ text y rest h a. subst AreBytes (sym h.1) a }

k-demand : {F : Type 0} (test : Bool) (f : F) → Keeps (demand test f)
k-demand test f = record { left = λ text y rest h a. subst AreBytes (sym h.1) a }

k-no_fault : {F : Type 0} (fault : Option F) → Keeps (no_fault fault)
k-no_fault fault = record { left = λ text y rest h a. subst AreBytes (sym h.1) a }

k-known : {A F : Type 0} (value : Option A) (f : F) → Keeps (known value f)
k-known value f = record { left = λ text y rest h a. subst AreBytes (sym h.1) a }

k-meant : {A F : Type 0} (means : A → Type 0) (value : Option A) (f : F) → Keeps (meant means value f)
k-meant means value f = record { left = λ text y rest h a. subst AreBytes (sym h.1) a }

k-here : {F : Type 0} (size : ℕ) → Keeps (here {F = F} size)
k-here size = record { left = λ text y rest h a. subst AreBytes (sym h.1) a }

k-bytes_of : {F : Type 0} (f : F) (n : ℕ) → Keeps (bytes_of f n)
unfolding bytes_of
k-bytes_of f n = record { left = λ text bytes rest h a. behind_bytes bytes rest text h.1 a }

k-number : {F : Type 0} (f : F) (w : Width) → Keeps (number f w)
unfolding number
k-number f w = record { left = λ text n rest h a. behind_bytes h.0 rest text h.2 a }

left-repeated : {A F : Type 0} (n : ℕ) (p : Part (List A) F) → Keeps p → (text : List ℕ) (xs : List A) (rest : List ℕ) → (repeated n p).spells text xs rest → AreBytes text → AreBytes rest
unfolding repeated
left-repeated zero p hp text xs rest h a = subst AreBytes (sym h.1) a
left-repeated (suc n) p hp text zs rest h a = left-repeated n p hp h.2 h.1 rest h.4 (hp.left text h.0 h.2 h.3 a)

k-repeated : {A F : Type 0} (n : ℕ) (p : Part (List A) F) → Keeps p → Keeps (repeated n p)
k-repeated n p hp = record { left = left-repeated n p hp }

k-either : {A F : Type 0} (b : Bool) (p q : Part A F) → Keeps p → Keeps q → Keeps (either b p q)
k-either true p q hp hq = record { left = λ text x rest h a. hp.left text x rest h a }
k-either false p q hp hq = record { left = λ text x rest h a. hq.left text x rest h a }

-- ---- constants

k_pair : (size : ℕ) → Keeps (index_pair size)
unfolding index_pair
k_pair size = k-bind _ _ (k-number _ w16) (λ a. k-bind _ _ (k-number _ w16) (λ b. k-done _))

k_body : (size at : ℕ) (t : ConstantTag) → Keeps (constant_body size at t)
unfolding constant_body utf8_body skipped_body
k_body size at tag.Utf8 = k-bind _ _ (k-number _ w16) (λ n. k-bind _ _ (k-bytes_of _ n) (λ b. k-bind _ _ (k-meant _ _ _) (λ t. k-done _)))
k_body size at tag.Integer = k-bind _ _ (k-number _ w32) (λ n. k-done _)
k_body size at tag.Float = k-bind _ _ (k-bytes_of _ 4) (λ n. k-done _)
k_body size at tag.Long = k-bind _ _ (k-number _ w64) (λ n. k-done _)
k_body size at tag.Double = k-bind _ _ (k-bytes_of _ 8) (λ n. k-done _)
k_body size at tag.Class = k-bind _ _ (k-number _ w16) (λ n. k-done _)
k_body size at tag.Str = k-bind _ _ (k-number _ w16) (λ n. k-done _)
k_body size at tag.Field = k-bind _ _ (k_pair size) (λ n. k-done _)
k_body size at tag.Method = k-bind _ _ (k_pair size) (λ n. k-done _)
k_body size at tag.InterfaceMethod = k-bind _ _ (k_pair size) (λ n. k-done _)
k_body size at tag.NameAndType = k-bind _ _ (k_pair size) (λ n. k-done _)
k_body size at tag.MethodHandle = k-bind _ _ (k-bytes_of _ 3) (λ n. k-done _)
k_body size at tag.MethodType = k-bind _ _ (k-bytes_of _ 2) (λ n. k-done _)
k_body size at tag.InvokeDynamic = k-bind _ _ (k-bytes_of _ 4) (λ n. k-done _)

k_constant : (size : ℕ) → Keeps (constant_part size)
unfolding constant_part
k_constant size = k-bind _ _ (k-here size) (λ at. k-bind _ _ (k-number _ w8) (λ n. k-bind _ _ (k-known _ _) (λ t. k_body size at t)))

k_constants : (size n : ℕ) → Keeps (constants_part size n)
unfolding constants_part
k_constants size zero = k-done _
k_constants size (suc zero) = k-bind _ _ (k-here size) (λ at. k-bind _ _ (k_constant size) (λ c. k-bind _ _ (k-demand _ _) (λ u. k-done _)))
k_constants size (suc (suc n)) = k-bind _ _ (k_constant size) (λ c. k-either (is_double_width c) _ _
    (k-bind _ _ (k_constants size n) (λ cs. k-done _)) (k-bind _ _ (k_constants size (suc n)) (λ cs. k-done _)))

k_version : (size : ℕ) → Keeps (version_part size)
unfolding version_part
k_version size = k-bind _ _ (k-number _ w32) (λ m. k-bind _ _ (k-demand _ _) (λ u. k-bind _ _ (k-number _ w16) (λ a. k-bind _ _ (k-number _ w16) (λ b. k-bind _ _ (k-demand _ _) (λ u. k-done _)))))

k_pool : (size : ℕ) → Keeps (pool_part size)
unfolding pool_part
k_pool size = k-bind _ _ (k-number _ w16) (λ n. k-bind _ _ (k-demand _ _) (λ u. k-bind _ _ (k_constants size _) (λ cs. k-bind _ _ (k-no_fault _) (λ u. k-done _))))

-- ---- members

k_name : (size : ℕ) (cut : ClassFault) (cs : List Constant) → Keeps (name_part size cut cs)
unfolding name_part
k_name size cut cs = k-bind _ _ (k-here size) (λ at. k-bind _ _ (k-number _ w16) (λ i. k-known _ _))

k_class : (size : ℕ) (cs : List Constant) → Keeps (class_index size cs)
unfolding class_index
k_class size cs = k-bind _ _ (k-here size) (λ at. k-bind _ _ (k-number _ w16) (λ i. k-bind _ _ (k-demand _ _) (λ u. k-done _)))

k_skipped : (size : ℕ) (cut : ClassFault) (cs : List Constant) → Keeps (skipped_attributes size cut cs)
unfolding skipped_attributes skipped_attribute
k_skipped size cut cs = k-bind _ _ (k-number _ w16) (λ n. k-repeated n _ (k-bind _ _ (k_name size cut cs) (λ m. k-bind _ _ (k-number _ w32) (λ n. k-bind _ _ (k-bytes_of _ n) (λ b. k-done _)))))

k_heading : (size : ℕ) (cs : List Constant) → Keeps (heading_part size cs)
unfolding heading_part interface_part
k_heading size cs = k-bind _ _ (k-number _ w16) (λ f. k-bind _ _ (k_class size cs) (λ t. k-bind _ _ (k_class size cs) (λ u. k-bind _ _ (k-number _ w16) (λ n. k-bind _ _
    (k-repeated n _ (k-bind _ _ (k_class size cs) (λ i. k-done _))) (λ is. k-done _)))))

k_field : (size : ℕ) (cs : List Constant) → Keeps (field_part size cs)
unfolding field_part
k_field size cs = k-bind _ _ (k-here size) (λ at. k-bind _ _ (k-number _ w16) (λ f. k-bind _ _ (k_name size _ cs) (λ m. k-bind _ _ (k-here size) (λ d.
    k-bind _ _ (k_name size _ cs) (λ e. k-bind _ _ (k-meant (IsFieldDescriptor e) (field_type_of e) _) (λ t. k-bind _ _ (k-demand _ _) (λ u. k-bind _ _ (k_skipped size _ cs) (λ s. k-done _))))))))

k_fields : (size : ℕ) (cs : List Constant) → Keeps (fields_part size cs)
unfolding fields_part
k_fields size cs = k-bind _ _ (k-number _ w16) (λ n. k-repeated n _ (k_field size cs))

-- ---- code

-- code is of bytes, where there is code
abbrev pub OfBytes : Option Code → Type 0
OfBytes o = IfSome o (λ c. AreBytes c.code)

-- the code of a Code
code_bytes : (size : ℕ) (cut : ClassFault) (cs : List Constant) (bytes : List ℕ) (c : Code) (rest : List ℕ) → (code_part size cut cs).spells bytes c rest → AreBytes bytes → AreBytes c.code
unfolding code_part bytes_of
code_bytes size cut cs bytes c rest h a =
    let a1 = (k-number cut w16).left bytes h.0 h.1 h.2 a in
    let a2 = (k-number cut w16).left h.1 h.3.0 h.3.1 h.3.2 a1 in
    let a3 = (k-number cut w32).left h.3.1 h.3.3.0 h.3.3.1 h.3.3.2 a2 in
    let a4 = subst AreBytes (sym h.3.3.3.2.1) a3 in
    let a5 = subst AreBytes (sym h.3.3.3.3.2.1) a4 in
    subst (λ (x : Code). AreBytes x.code) (sym h.3.3.3.3.3.3.3.3.0) (front_bytes h.3.3.3.3.3.0 h.3.3.3.3.3.1 h.3.3.3.3.1 h.3.3.3.3.3.2.1 a5)

-- a code in its bounds
body_bytes : (size at : ℕ) (cs : List Constant) (n : ℕ) (bytes : List ℕ) (c : Code) (rest : List ℕ) → (code_body size at cs n).spells bytes c rest → AreBytes bytes → (AreBytes c.code) × (AreBytes rest)
unfolding code_body
body_bytes size at cs n bytes c rest h a =
    let b = subst AreBytes (sym h.2.1) a in
    (code_bytes _ _ cs h.3.0 c [] h.3.3 (front_bytes h.3.0 rest h.1 h.3.2 b), behind_bytes h.3.0 rest h.1 h.3.2 b)

-- what a method's attributes give
attributes_bytes : (size : ℕ) (cs : List Constant) (may_have : Bool) (n : ℕ) (code : Option Code) (bytes : List ℕ) (result : Option Code) (rest : List ℕ)
    → OfBytes code → (method_attributes size cs may_have n code).spells bytes result rest → AreBytes bytes → OfBytes result × AreBytes rest
unfolding method_attributes bytes_of
attributes_bytes size cs may_have zero code bytes result rest g h a = (subst OfBytes (sym h.0) g, subst AreBytes (sym h.1) a)
attributes_bytes size cs may_have (suc k) code bytes result rest g h a =
    let b1 = subst AreBytes (sym h.2.1) a in
    let b2 = (k_name size _ cs).left h.1 h.3.0 h.3.1 h.3.2 b1 in
    let b3 = (k-number _ w32).left h.3.1 h.3.3.0 h.3.3.1 h.3.3.2 b2 in
    let b4 = subst AreBytes (sym h.3.3.3.2.1) b3 in
    by (is_code_name h.3.0) h.3.3.3.3 b4 (λ c bs g. attributes_bytes size cs may_have k c bs result rest g)
  where
    by : (b : Bool)
        → MatchBool b
        ((u : Unit {0}) × (middle : List ℕ) × (IsTrue (may_have && is_none code) × (middle ≡ h.3.3.3.1))
        × ((found : Code) × (behind : List ℕ) × (code_body size h.0 cs h.3.3.0).spells middle found behind × (method_attributes size cs may_have k (Some found)).spells behind result rest))
        ((skipped : List ℕ) × (middle : List ℕ) × ((length skipped ≡ h.3.3.0) × (h.3.3.3.1 ≡ skipped ++ middle)) × (method_attributes size cs may_have k code).spells middle result rest)
        → AreBytes h.3.3.3.1
        → ((c : Option Code) (bs : List ℕ) → OfBytes c → (method_attributes size cs may_have k c).spells bs result rest → AreBytes bs → OfBytes result × AreBytes rest)
        → OfBytes result × AreBytes rest
    by true q z again =
        let body = body_bytes size h.0 cs h.3.3.0 q.1 q.3.0 q.3.1 q.3.2 (subst AreBytes (sym q.2.1) z) in
        again (Some q.3.0) q.3.1 body.0 q.3.3 body.1
    by false q z again = again code q.1 g q.3 (behind_bytes q.0 q.1 h.3.3.3.1 q.2.1 z)

-- the code of methods
abbrev pub AreOfBytes : List Member → Type 0
AreOfBytes ms = AllByRecursion (λ (m : Member). OfBytes m.code) ms

method_bytes : (size : ℕ) (cs : List Constant) (interface : Bool) (bytes : List ℕ) (ms : List Member) (rest : List ℕ) → (method_part size cs interface).spells bytes ms rest → AreBytes bytes → AreOfBytes ms × AreBytes rest
unfolding method_part
method_bytes size cs interface bytes ms rest h a =
    let b1 = subst AreBytes (sym h.2.1) a in
    let b2 = (k-number _ w16).left h.1 h.3.0 h.3.1 h.3.2 b1 in
    let b3 = (k_name size _ cs).left h.3.1 h.3.3.0 h.3.3.1 h.3.3.2 b2 in
    let b4 = subst AreBytes (sym h.3.3.3.2.1) b3 in
    let b5 = (k_name size _ cs).left h.3.3.3.1 h.3.3.3.3.0 h.3.3.3.3.1 h.3.3.3.3.2 b4 in
    let b6 = subst AreBytes (sym h.3.3.3.3.3.2.1) b5 in
    let b7 = subst AreBytes (sym h.3.3.3.3.3.3.2.1) b6 in
    let after = h.3.3.3.3.3.3.3 in
    let b8 = (k-number _ w16).left h.3.3.3.3.3.3.1 after.0 after.1 after.2 b7 in
    let given = attributes_bytes size cs (not (is_abstract h.3.0)) after.0 None after.1 after.3.0 after.3.1 tt after.3.2 b8 in
    let b9 = subst AreBytes (sym after.3.3.2.1) given.1 in
    (subst AreOfBytes (sym after.3.3.3.0) (given.0, tt), subst AreBytes (sym after.3.3.3.1) b9)

-- repeated ones
repeated_bytes : {F : Type 0} (p : Part (List Member) F) → ((bytes : List ℕ) (xs : List Member) (rest : List ℕ) → p.spells bytes xs rest → AreBytes bytes → AreOfBytes xs × AreBytes rest)
    → (n : ℕ) (bytes : List ℕ) (xs : List Member) (rest : List ℕ) → (repeated n p).spells bytes xs rest → AreBytes bytes → AreOfBytes xs
unfolding repeated
repeated_bytes p each zero bytes xs rest h a = subst AreOfBytes (sym h.0) tt
repeated_bytes p each (suc n) bytes xs rest h a =
    let one = each bytes h.0 h.2 h.3 a in
    let more = repeated_bytes p each n h.2 h.1 rest h.4 one.1 in
    subst AreOfBytes (sym h.5) (of_all (λ (m : Member). OfBytes m.code) (h.0 ++ h.1) (λ x b. elim (among_either h.0 h.1 x b) [ inl k ↦ of_each (λ (m : Member). OfBytes m.code) h.0 x one.0 k | inr k ↦ of_each (λ (m : Member). OfBytes m.code) h.1 x more k ]))

-- the code of the methods of a class file of bytes is of bytes
pub file_bytes : (bytes : List ℕ) (f : ClassFile) → IsClassFile bytes f → AreBytes bytes → AreOfBytes f.methods
unfolding class_file_part methods_part
file_bytes bytes f h a =
    let size : ℕ = length bytes in
    let b1 = (k_version size).left bytes h.0 h.1 h.2 a in
    let pool = h.3 in
    let b2 = (k_pool size).left h.1 pool.0 pool.1 pool.2 b1 in
    let heading = pool.3 in
    let b3 = (k_heading size pool.0).left pool.1 heading.0 heading.1 heading.2 b2 in
    let fields = heading.3 in
    let b4 = (k_fields size pool.0).left heading.1 fields.0 fields.1 fields.2 b3 in
    let methods = fields.3 in
    let b5 = (k-number _ w16).left fields.1 methods.2.0 methods.2.1 methods.2.2 b4 in
    subst (λ (x : ClassFile). AreOfBytes x.methods) (sym methods.3.3.3.3.0)
    (repeated_bytes _ (λ bs ms rest k z. method_bytes size pool.0 _ bs ms rest k z) methods.2.0 methods.2.1 methods.0 methods.1 methods.2.3 b5)

-- so is the code of files that were read
pub files_bytes : (files : List ClassFile) → AllByRecursion IsReadFile files → HaveByteCodes files
files_bytes files h =
    of_all (λ (f : ClassFile). AreOfBytes f.methods) files
    (λ f a. let r = of_each IsReadFile files f h a in file_bytes r.bytes f r.file r.are_bytes)
