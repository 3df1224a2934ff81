-- Names of classes that a description may list.
use Rattle.std.specs.Prelude.{ℕ, ◌==◌, ◌&&◌, ◌||◌, Bool, not, List, [], ◌∷◌, ◌++◌, length, nat_eq, nat_le, codes}
use Rattle.std.specs.List.{list_any, list_all, zip, starts_with}

abbrev pub slash : ℕ
slash = 47

-- the byte lies between two others, or is one of them
abbrev pub is_between : ℕ → ℕ → ℕ → Bool
is_between low high b = nat_le low b && nat_le b high

-- a letter, a digit, `_`, `$` or `/`
unfoldable pub is_name_byte : ℕ → Bool
is_name_byte b =
    is_between 97 122 b || is_between 65 90 b || is_between 48 57 b || b == 95 || b == 36
    || b == slash

abbrev pub are_slashes : ℕ × ℕ → Bool
are_slashes pair = (pair.0 == slash) && (pair.1 == slash)

-- of this byte, the name behind it and a last slash, two slashes stand side by side
abbrev pub have_slashes_side_by_side : ℕ → List ℕ → Bool
have_slashes_side_by_side first name =
    list_any are_slashes (zip (first ∷ name) (name ++ slash ∷ []))

-- with a slash put before it and one behind it, no two slashes stand side by side
unfoldable pub has_filled_parts : List ℕ → Bool
has_filled_parts name = not (have_slashes_side_by_side slash name)

-- the name is of a built-in class, or of a package of such
unfoldable pub is_reserved : List ℕ → Bool
is_reserved name = starts_with nat_eq name (codes "java/") || starts_with nat_eq name (codes "jx/")

-- 1 to 255 bytes from letters, digits, `_`, `$` and `/`, with no empty part between slashes or at
-- an end
unfoldable pub is_class_name : List ℕ → Bool
is_class_name name =
    nat_le (length name) 255 && not (is_reserved name) && has_filled_parts name
    && list_all is_name_byte name
