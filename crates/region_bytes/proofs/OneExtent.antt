-- One extent of many: what is there, and what changes.
use Rattle.std.proofs.Common.{◌≡◌, refl, sym, ◌∙◌, ap, subst, arith, ℕ, zero, suc, ◌+◌, ◌-◌, ◌<◌, ◌≤◌, List, [], ◌∷◌, length, set, get_or, slice_get, Option, Some, None, Vec, Global}
use Rattle.std.specs.Prelude.{IsSome, IsSomeAnd}
use Rattle.std.specs.Option.{option_map, option_flatten, unwrap_or}
use Rattle.std.specs.Vec.{with_items}
use Rattle.std.proofs.lemmas.List.{length-map, length-set, with_items_is}
use Rattle.std.proofs.lemmas.Option.{get_or_from_slice_get, slice_get_within, slice_get-map}
use Rattle.jx_base.specs.Basics.{numbered}
use Rattle.region_bytes.specs.Extents.{Extents, LieWithin, byte_from, bytes_of, extents_of}
use Rattle.table_extents.specs.ExtentChanges.{written}
use Rattle.table_threads.specs.Changes.{changed_at}
use Rattle.table_threads.proofs.Records.{set_changed}
use Rattle.region_bytes.proofs.Splices.{length_written}

-- ---- vectors

-- a vector that has the bytes of an extent
pub record IsFound (items : List (Option (Vec ℕ Global))) (x : ℕ) : Type 0 where
  pub first : 1 ≤ x
  pub below : x - 1 < length items
  pub bytes : Vec ℕ Global
  pub at : slice_get items (x - 1) ≡ Some (Some bytes)
  pub value : bytes_of (extents_of items) x ≡ Some bytes.items

-- an extent that has bytes has a vector
pub found : (items : List (Option (Vec ℕ Global))) (x : ℕ) → IsSome (bytes_of (extents_of items) x) → IsFound items x
unfolding numbered
found items zero h = absurd cc
found items (suc i) h = by (slice_get items i) refl (subst (λ (o : Option (Option (List ℕ))). IsSome (option_flatten o)) shown h)
  where
    shown : slice_get (extents_of items) i ≡ option_map (option_map (λ bytes. bytes.items)) (slice_get items i)
    shown = slice_get-map (option_map (λ bytes. bytes.items)) items i

    by : (o : Option (Option (Vec ℕ Global))) → slice_get items i ≡ o → IsSome (option_flatten (option_map (option_map (λ bytes. bytes.items)) o)) → IsFound items (suc i)
    by None q g = absurd cc
    by (Some None) q g = absurd cc
    by (Some (Some bytes)) q g =
        let n : suc i - 1 ≡ i = omega arith in
        let l : i < length items = slice_get_within items i (Some bytes) q in
        record {
          first = omega arith;
          below = omega (arith, l);
          bytes = bytes;
          at = ap (slice_get items) n ∙ q;
          value = ap option_flatten (shown ∙ ap (option_map (option_map (λ bytes. bytes.items))) q);
        }

-- what is read there is the vector
pub read_there : (items : List (Option (Vec ℕ Global))) (x : ℕ) (h : IsSome (bytes_of (extents_of items) x)) (o : Option (Vec ℕ Global))
    → o ≡ get_or items (x - 1) o → o ≡ Some (found items x h).bytes
read_there items x h o e = e ∙ get_or_from_slice_get items (x - 1) (Some (found items x h).bytes) o (found items x h).at

-- it has the bytes of the extent
pub bytes_there : (items : List (Option (Vec ℕ Global))) (x : ℕ) (bytes : Vec ℕ Global) → IsSome (bytes_of (extents_of items) x) → (o : Option (Vec ℕ Global))
    → o ≡ get_or items (x - 1) o → o ≡ Some bytes → bytes_of (extents_of items) x ≡ Some bytes.items
bytes_there items x bytes h o e q =
    let there : Some (found items x h).bytes ≡ Some bytes = sym (read_there items x h o e) ∙ q in
    let same : (found items x h).bytes ≡ bytes = cc in
    (found items x h).value ∙ ap (λ (b : Vec ℕ Global). Some b.items) same

-- ---- lists of bytes

-- an extent that has bytes
pub record IsThere (es : Extents) (x : ℕ) (bytes : List ℕ) : Type 0 where
  pub first : 1 ≤ x
  pub last : x ≤ length es
  pub at : slice_get es (x - 1) ≡ Some (Some bytes)

-- it stands at the place before its number
pub there : (es : Extents) (x : ℕ) (bytes : List ℕ) → bytes_of es x ≡ Some bytes → IsThere es x bytes
unfolding numbered
there es zero bytes e = cc
there es (suc i) bytes e =
    let at : slice_get es i ≡ Some (Some bytes) = read (slice_get es i) e in
    let n : suc i - 1 ≡ i = omega arith in
    let l : i < length es = slice_get_within es i (Some bytes) at in
    record {
      first = omega arith;
      last = omega (arith, l);
      at = ap (slice_get es) n ∙ at;
    }
  where
    read : (o : Option (Option (List ℕ))) → option_flatten o ≡ Some bytes → o ≡ Some (Some bytes)
    read None e = cc
    read (Some None) e = cc
    read (Some (Some bs)) e = ap (λ (y : Option (List ℕ)). Some y) e

-- an extent within which bytes lie has bytes
pub has_bytes : (es : Extents) (x at count : ℕ) → LieWithin es x at count → IsSome (bytes_of es x)
has_bytes es x at count h = by (bytes_of es x) h
  where
    by : (o : Option (List ℕ)) → IsSomeAnd o (λ bytes. at + count ≤ length bytes) → IsSome o
    by None g = absurd g
    by (Some bytes) g = refl

-- they are within those bytes
pub lie_within : (es : Extents) (x at count : ℕ) (bytes : List ℕ) → bytes_of es x ≡ Some bytes → LieWithin es x at count → at + count ≤ length bytes
lie_within es x at count bytes e h = subst (λ (o : Option (List ℕ)). IsSomeAnd o (λ bs. at + count ≤ length bs)) e h

-- to take an extent is to change it
pub taken : (es : Extents) (x : ℕ) (bytes : List ℕ) → bytes_of es x ≡ Some bytes → set es (x - 1) None ≡ changed_at (x - 1) (λ _. None) es
taken es x bytes e = set_changed (x - 1) (λ _. None) es (Some bytes) (there es x bytes e).at

-- the last of two that are set at a place stays
set_twice : {A : Type 0} (xs : List A) (i : ℕ) (x y : A) → set (set xs i x) i y ≡ set xs i y
set_twice [] i x y = refl
set_twice (z ∷ xs) zero x y = refl
set_twice {A} (z ∷ xs) (suc i) x y = ap (λ (zs : List A). z ∷ zs) (set_twice xs i x y)

-- to take an extent and put it back changed is to change it
pub put_back : (es : Extents) (x : ℕ) (bytes : List ℕ) (f : List ℕ → List ℕ) → bytes_of es x ≡ Some bytes
    → set (set es (x - 1) None) (x - 1) (Some (f bytes)) ≡ changed_at (x - 1) (option_map f) es
put_back es x bytes f e =
    set_twice es (x - 1) None (Some (f bytes))
    ∙ set_changed (x - 1) (option_map f) es (Some bytes) (there es x bytes e).at

-- the others are as they were
pub another : (es : Extents) (x y : ℕ) (o : Option (List ℕ)) → 1 ≤ y → (x ≡ y → ⊥) → bytes_of (set es (y - 1) o) x ≡ bytes_of es x
unfolding numbered
another es zero y o l d = refl
another es (suc i) zero o l d = absurd (omega (arith, l))
another es (suc i) (suc j) o l d =
    let n : suc j - 1 ≡ j = omega arith in
    ap (λ (k : ℕ). option_flatten (slice_get (set es k o) i)) n ∙ ap option_flatten (other es i j (λ e. d (ap suc e)))
  where
    other : (es : Extents) (i j : ℕ) → (i ≡ j → ⊥) → slice_get (set es j o) i ≡ slice_get es i
    other [] i j d = refl
    other (e ∷ es) zero zero d = absurd (d refl)
    other (e ∷ es) zero (suc j) d = refl
    other (e ∷ es) (suc i) zero d = refl
    other (e ∷ es) (suc i) (suc j) d = other es i j (λ q. d (ap suc q))

-- as many vectors as the extents that are left
pub still_last : (items : List (Option (Vec ℕ Global))) (es : Extents) (x : ℕ) (bytes : List ℕ) (o : Option (List ℕ)) → bytes_of es x ≡ Some bytes
    → extents_of items ≡ set es (x - 1) o → x ≤ length items
still_last items es x bytes o e h =
    omega (arith, (there es x bytes e).last, length-map items (option_map (λ bytes. bytes.items)), ap (λ (ys : Extents). length ys) h, length-set es (x - 1) o)

-- the extents of which one was taken and put back changed
pub rewritten : (es rest new : Extents) (x : ℕ) (bytes after : List ℕ) (f : List ℕ → List ℕ) → bytes_of es x ≡ Some bytes
    → rest ≡ set es (x - 1) None → new ≡ set rest (x - 1) (Some after) → after ≡ f bytes → new ≡ changed_at (x - 1) (option_map f) es
rewritten es rest new x bytes after f e r n a =
    n ∙ ap (λ (ys : Extents). set ys (x - 1) (Some after)) r ∙ ap (λ (bs : List ℕ). set (set es (x - 1) None) (x - 1) (Some bs)) a ∙ put_back es x bytes f e

-- the bytes that are copied from an extent
pub from_there : (es : Extents) (x at : ℕ) (bytes : List ℕ) → bytes_of es x ≡ Some bytes → byte_from es x at ≡ (λ k. get_or bytes (at + k) 0)
from_there es x at bytes e =
    let read : Option (List ℕ) → ℕ → ℕ = λ o k. unwrap_or (option_map (λ (bs : List ℕ). get_or bs (at + k) 0) o) 0 in
    ap read e

-- a vector in which bytes are written
pub put_whole : (v : Vec ℕ Global) (at count : ℕ) (f : ℕ → ℕ) (now bytes : List ℕ) → now ≡ v.items → bytes ≡ written 0 at count f now
    → (with_items v bytes).items ≡ written 0 at count f v.items
put_whole v at count f now bytes e h =
    let all : bytes ≡ written 0 at count f v.items = h ∙ ap (written 0 at count f) e in
    with_items_is v bytes (ap length all ∙ length_written at count f 0 v.items ∙ sym v.ok.0) ∙ all
