-- The constants that a pool gives a class file, and what makes a pool and lines fit to be read again.
use Rattle.std.specs.Prelude.{◌≡◌, ℕ, ◌<◌, ◌^◌, true, List, [], ◌∷◌, flat_map, FitsSigned}
use Rattle.std.specs.Int.{w32, w64}
use Rattle.std.specs.List.{list_all, AllByRecursion}
use Rattle.jx_base.specs.declared.class_file.Constant.{Constant}
use Rattle.jx_base.specs.declared.class_file.Constant.TheVariants as constant
use Rattle.asm_constants.specs.declared.content.Content.{Content}
use Rattle.asm_constants.specs.declared.content.Content.TheVariants as content
use Rattle.asm_constants.specs.declared.content.Reference.{Reference}
use Rattle.asm_constants.specs.declared.content.Reference.TheVariants as reference
use Rattle.asm_constants.specs.Contents.{needed}
use Rattle.asm_constants.specs.Pools.{has_content, index_of}

-- ---- what a class file has

unfoldable pub member_constant : Reference → ℕ → ℕ → Constant
member_constant reference.Field c n = constant.Field c n
member_constant reference.Method c n = constant.Method c n
member_constant reference.InterfaceMethod c n = constant.InterfaceMethod c n

-- a constant, with the indices of those that it names
unfoldable pub constant_of : List Content → Content → Constant
constant_of pool (content.Utf8 units) = constant.Utf8 units
constant_of pool (content.Integer z) = constant.Integer z
constant_of pool (content.Long z) = constant.Long z
constant_of pool (content.Class name) = constant.Class (index_of pool (content.Utf8 name))
constant_of pool (content.Str units) = constant.Str (index_of pool (content.Utf8 units))
constant_of pool (content.NameAndType name descriptor) = constant.NameAndType (index_of pool (content.Utf8 name)) (index_of pool (content.Utf8 descriptor))
constant_of pool (content.Member kind class name descriptor) =
    member_constant kind (index_of pool (content.Class class)) (index_of pool (content.NameAndType name descriptor))

-- the entries that a constant takes up: behind a long stands one that can't be used
unfoldable pub entries_of : List Content → Content → List Constant
entries_of pool (content.Long z) = constant.Long z ∷ constant.Unusable ∷ []
entries_of pool c = constant_of pool c ∷ []

-- the entries of some of the pool's constants
unfoldable pub entries_from : List Content → List Content → List Constant
entries_from pool contents = flat_map (entries_of pool) contents

-- all entries by their index; there is none to use at index 0
unfoldable pub table_of : List Content → List Constant
table_of pool = constant.Unusable ∷ entries_from pool pool

-- ---- what can be read again

abbrev pub AreUnits : List ℕ → Type 0
AreUnits units = AllByRecursion (λ u. u < 2 ^ 16) units

-- the numbers and texts of a constant are in range
abbrev pub IsRangedContent : Content → Type 0
IsRangedContent (content.Utf8 units) = AreUnits units
IsRangedContent (content.Integer z) = FitsSigned w32 z
IsRangedContent (content.Long z) = FitsSigned w64 z
IsRangedContent (content.Class name) = AreUnits name
IsRangedContent (content.Str units) = AreUnits units
IsRangedContent (content.NameAndType name descriptor) = AreUnits name × AreUnits descriptor
IsRangedContent (content.Member kind class name descriptor) = AreUnits class × AreUnits name × AreUnits descriptor

abbrev pub AreRangedContents : List Content → Type 0
AreRangedContents pool = AllByRecursion IsRangedContent pool

-- each constant's parts are in the pool
abbrev pub IsClosed : List Content → List Content → Type 0
IsClosed pool contents = AllByRecursion (λ c. list_all (has_content pool) (needed c) ≡ true) contents
