-- The array classes that code names or makes.
use Rattle.std.proofs.Common.{◌≡◌, ℕ, ◌⊎◌, inl, inr, Bool, true, false, List, [], ◌∷◌, ◌++◌, codes, Option, Some, None, slice_get, refl, sym, ap, ◌∙◌, subst, arith}
use Rattle.std.specs.Prelude.{flat_map, if◌then◌else◌, ◌==◌}
use Rattle.std.specs.List.{AllByRecursion, filter_map}
use Rattle.class_grammar.specs.Opcodes.{row_at}
use Rattle.jx_base.specs.declared.class_file.ClassFile.{ClassFile}
use Rattle.jx_base.specs.declared.class_file.Code.{Code}
use Rattle.jx_base.specs.declared.class_file.Constant.{Constant}
use Rattle.jx_base.specs.declared.class_file.Constant.TheVariants as constant
use Rattle.jx_base.specs.declared.class_file.Instr.{Instr}
use Rattle.jx_base.specs.declared.class_file.Member.{Member}
use Rattle.jx_base.specs.declared.program.Plan.{Plan}
use Rattle.jx_base.specs.declared.row.Row.{Row}
use Rattle.jx_base.specs.declared.row.Row.TheVariants as row
use Rattle.link_model.specs.declared.uses.Use.{Use}
use Rattle.link_model.specs.declared.uses.Used.{Used}
use Rattle.link_model.specs.ClassFiles.{use_by, catch_uses, arrays_of_name, class_at_index, class_mentioned, arrays_of_instr, arrays_of_code, arrays_of_member, arrays_of, class_of_constant, constant_in, text_in, text_of_constant, class_name_in, name_of_constant}
use Rattle.program_model.specs.Instructions.{index_operand, instructions_of}
use Rattle.program_model.specs.DistinctNames.{AreUnits}
use Rattle.link_model.specs.Linking.{named_arrays, files_of}
use Rattle.program_model.specs.Lookup.{type_of_name}
use Rattle.program_model.specs.Types.{element_type}
use Rattle.jx_base.proofs.BasicLaws.{eq_of}
use Rattle.link_laws.proofs.Files.{HasUnits}
use Rattle.link_laws.proofs.Lists.{Among, among_either, from_flat, from_given, at_among, of_each}

-- the name of an array class
abbrev pub IsArrayName : List ℕ → Type 0
IsArrayName name = (component : List ℕ) × (name ≡ 91 ∷ component)

-- ---- names

-- an array class of a name is the name itself, or one of what stands behind its bracket
pub array_of_name : (u : ℕ) (units t : List ℕ) → Among (arrays_of_name (u ∷ units)) t → (u ≡ 91) × (Among (arrays_of_name units) t ⊎ ((u ∷ units) ≡ t))
unfolding arrays_of_name
array_of_name u units t h = by (u == 91) refl h
  where
    by : (b : Bool) → (u == 91) ≡ b → Among (elim b as (λ _. List (List ℕ)) [ true ↦ arrays_of_name units ++ (u ∷ units) ∷ [] | false ↦ [] ]) t
        → (u ≡ 91) × (Among (arrays_of_name units) t ⊎ ((u ∷ units) ≡ t))
    by false e k = absurd k
    by true e k = (eq_of u 91 e, elim (among_either (arrays_of_name units) ((u ∷ units) ∷ []) t k) [ inl q ↦ inl q | inr (inl q) ↦ inr q | inr (inr q) ↦ absurd q ])

-- each of them is an array's name
pub name_begins : (name t : List ℕ) → Among (arrays_of_name name) t → IsArrayName t
unfolding arrays_of_name
name_begins [] t h = absurd h
name_begins (u ∷ units) t h = let r = array_of_name u units t h in elim r.1 [
  | inl q ↦ name_begins units t q
  | inr q ↦ (units, sym q ∙ ap (λ x. x ∷ units) r.0)
]

-- and of units, where the name is
pub name_units : (name t : List ℕ) → AreUnits name → Among (arrays_of_name name) t → AreUnits t
unfolding arrays_of_name
name_units [] t k h = absurd h
name_units (u ∷ units) t k h = let r = array_of_name u units t h in elim r.1 [
  | inl q ↦ name_units units t k.1 q
  | inr q ↦ subst AreUnits q k
]

-- ---- files

-- how a file's code has to do with an array class: an instruction names or makes it, or a catch type names it
pub data IsMentioned (f : ClassFile) (t : List ℕ) : Type 0 where
  ByInstr : (m : Member) (c : Code) (i : Instr) → Among f.methods m → m.code ≡ Some c → Among (instructions_of c.code) i
      → Among (arrays_of_name (class_mentioned f (row_at i.opcode) i)) t → IsMentioned f t
  ByCatch : (m : Member) (c : Code) (u : Used) → Among f.methods m → m.code ≡ Some c → Among (catch_uses c) u
      → Among (arrays_of_name (class_at_index f u.index)) t → IsMentioned f t

-- an array class of a file is mentioned
pub file_mentions : (f : ClassFile) (t : List ℕ) → Among (arrays_of f) t → IsMentioned f t
unfolding arrays_of arrays_of_member arrays_of_code arrays_of_instr
file_mentions f t h =
    let r = from_flat (arrays_of_member f) f.methods t h in by r.0 r.1 r.0.code refl r.2
  where
    by : (m : Member) → Among f.methods m → (o : Option Code) → m.code ≡ o → Among (elim o as (λ _. List (List ℕ)) [ None ↦ [] | Some c ↦ arrays_of_code f c ]) t → IsMentioned f t
    by m a None e k = absurd k
    by m a (Some c) e k = elim (among_either (flat_map (arrays_of_instr f) (instructions_of c.code)) (flat_map (λ u. arrays_of_name (class_at_index f u.index)) (catch_uses c)) t k) [
      | inl q ↦ let r = from_flat (arrays_of_instr f) (instructions_of c.code) t q in ByInstr m c r.0 a e r.1 r.2
      | inr q ↦ let r = from_flat (λ u. arrays_of_name (class_at_index f u.index)) (catch_uses c) t q in ByCatch m c r.0 a e r.1 r.2
    ]

-- a named array class is of some file
pub named_by : (plan : Plan) (files : List ClassFile) (t : List ℕ) → Among (named_arrays plan files) t → (f : ClassFile) × Among files f × IsMentioned f t
unfolding named_arrays files_of
named_by plan files t h =
    let r = from_flat (λ t. flat_map arrays_of (filter_map (slice_get files) t.classes)) plan.templates t h in
    let q = from_flat arrays_of (filter_map (slice_get files) r.0.classes) t r.2 in
    let g = from_given (slice_get files) r.0.classes q.0 q.1 in
    (q.0, at_among files g.0 q.0 g.2, file_mentions q.0 t q.2)

-- so it is an array's name
pub named_begins : (plan : Plan) (files : List ClassFile) (t : List ℕ) → Among (named_arrays plan files) t → IsArrayName t
named_begins plan files t h = let r = named_by plan files t h in by r.0 r.2
  where
    by : (f : ClassFile) → IsMentioned f t → IsArrayName t
    by f (ByInstr m c i a e k q) = name_begins _ t q
    by f (ByCatch m c u a e k q) = name_begins _ t q

-- ---- units

-- the text at an index is of units
pub text_at_units : (f : ClassFile) (i : ℕ) → AllByRecursion HasUnits f.constants → AreUnits (text_in f i)
unfolding text_in constant_in text_of_constant
text_at_units f i units = by (slice_get f.constants i) refl
  where
    of : (c : Constant) → HasUnits c → AreUnits (text_of_constant c)
    of (constant.Utf8 t) h = h
    of c h = tt

    by : (o : Option Constant) → slice_get f.constants i ≡ o → AreUnits (text_of_constant (elim o as (λ _. Constant) [ None ↦ constant.Unusable | Some c ↦ c ]))
    by None e = tt
    by (Some c) e = of c (of_each HasUnits f.constants c units (at_among f.constants i c e))

-- the class at an index has a name of units
class_at_units : (f : ClassFile) (i : ℕ) → AllByRecursion HasUnits f.constants → AreUnits (class_at_index f i)
unfolding class_at_index class_of_constant class_name_in name_of_constant
class_at_units f i units = by (constant_in f i)
  where
    named : (c : Constant) → AreUnits (name_of_constant f c)
    named (constant.Class n) = text_at_units f n units
    named c = tt

    by : (c : Constant) → AreUnits (elim (class_of_constant f c) as (λ _. List ℕ) [ None ↦ [] | Some name ↦ name ])
    by (constant.Class n) = text_at_units f n units
    by (constant.Field k x) = named (constant_in f k)
    by (constant.Method k x) = named (constant_in f k)
    by (constant.InterfaceMethod k x) = named (constant_in f k)
    by c = tt

-- what is true of each number type is true of the type of an array's elements
pub of_element : (P : List ℕ → Type 0) → P (codes "Z") → P (codes "C") → P (codes "B") → P (codes "S") → P (codes "I") → P (codes "J") → (code : ℕ) → P (element_type code)
unfolding element_type
of_element P z c b s i j code = by (code == 4) (code == 5) (code == 8) (code == 9) (code == 10)
  where
    by : (v w x y q : Bool) → P (if v then codes "Z" else if w then codes "C" else if x then codes "B" else if y then codes "S" else if q then codes "I" else codes "J")
    by true w x y q = z
    by false true x y q = c
    by false false true y q = b
    by false false false true q = s
    by false false false false true = i
    by false false false false false = j

-- a class that an instruction names or makes has a name of units
mentioned_units : (f : ClassFile) (r : Row) (i : Instr) → AllByRecursion HasUnits f.constants → AreUnits (class_mentioned f r i)
unfolding class_mentioned type_of_name
mentioned_units f row.NewArray i units = (omega arith, of_element AreUnits (omega arith, tt) (omega arith, tt) (omega arith, tt) (omega arith, tt) (omega arith, tt) (omega arith, tt) (index_operand i 0))
mentioned_units f row.NewReferenceArray i units = (omega arith, typed (class_at_index f (index_operand i 0)) (class_at_units f (index_operand i 0) units))
  where
    joined : (a b : List ℕ) → AreUnits a → AreUnits b → AreUnits (a ++ b)
    joined [] b h k = k
    joined (u ∷ a) b h k = (h.0, joined a b h.1 k)

    typed : (name : List ℕ) → AreUnits name → AreUnits (type_of_name name)
    typed [] h = tt
    typed (u ∷ units) h = by (u == 91)
      where
        by : (b : Bool) → AreUnits (if b then u ∷ units else (76 ∷ u ∷ units ++ 59 ∷ []))
        by true = h
        by false = (omega arith, (h.0, joined units (59 ∷ []) h.1 (omega arith, tt)))
mentioned_units f r i units = by (use_by r i)
  where
    by : (o : Option Use) → AreUnits (elim o as (λ _. List ℕ) [ None ↦ [] | Some u ↦ class_at_index f (index_operand i 0) ])
    by None = tt
    by (Some u) = class_at_units f (index_operand i 0) units

-- a mentioned array class has a name of units
pub named_units : (f : ClassFile) (t : List ℕ) → AllByRecursion HasUnits f.constants → IsMentioned f t → AreUnits t
named_units f t units (ByInstr m c i a e k q) = name_units _ t (mentioned_units f (row_at i.opcode) i units) q
named_units f t units (ByCatch m c u a e k q) = name_units _ t (class_at_units f u.index units) q
