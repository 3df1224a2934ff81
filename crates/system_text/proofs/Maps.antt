-- The keys of a table as its map has them.
use Rattle.std.proofs.Common.{◌≡◌, refl, sym, ap, ℕ, Bool, true, false, List, [], ◌∷◌, map, String, BTreeMap, Global, string_bytes, Some}
use Rattle.std.specs.Prelude.{find}
use Rattle.std.specs.Map.{keys_of}
use Rattle.std.specs.BTreeMap.{keys}
use Rattle.toml.specs.View.{table_view, members_view}
use Rattle.toml.specs.declared.value.Value.{Value}
use Rattle.system_text.specs.Keys.{keys_in}

keys_in-members : (es : List (String Global × Value)) → keys_in (members_view es) ≡ map string_bytes (keys_of es)
unfolding keys_in
keys_in-members [] = refl
keys_in-members (e ∷ es) = ap (λ ks. string_bytes e.0 ∷ ks) (keys_in-members es)

pub keys_in-table : (table : BTreeMap (String Global) Value) → map string_bytes (keys table) ≡ keys_in (table_view table)
keys_in-table table = sym (keys_in-members table.entries)

pub found_first : (test : List ℕ → Bool) (x : List ℕ) (xs : List (List ℕ)) → test x ≡ true → find test (x ∷ xs) ≡ Some x
found_first test x xs e = rw e refl

pub found_later : (test : List ℕ → Bool) (x : List ℕ) (xs : List (List ℕ)) → test x ≡ false → find test (x ∷ xs) ≡ find test xs
found_later test x xs e = rw e refl
