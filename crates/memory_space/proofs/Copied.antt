-- The reply to a copy, by what is known of both objects.
use Rattle.std.proofs.Common.{◌≡◌, refl, sym, ◌∙◌, ap, arith, ℕ, ◌+◌, Bool, true, false, not, ◌&&◌, List, Option, Some, None, Result, Ok, Err, if◌then◌else◌}
use Rattle.std.specs.Prelude.{ℤ}
use Rattle.jx_base.specs.declared.act.Refusal.{Refusal}
use Rattle.jx_base.specs.declared.act.Refusal.TheVariants as refusal
use Rattle.jx_base.specs.declared.act.Reply.{Reply}
use Rattle.jx_base.specs.declared.act.Reply.TheVariants as reply
use Rattle.jx_base.specs.Basics.{not_below_zero, numbered, passes}
use Rattle.jx_base.proofs.BasicLaws.{ap2, passed}
use Rattle.jx_laws.proofs.Lists.{numbered_there, numbered_within}
use Rattle.jx_model.specs.MemoryObjects.{Part}
use Rattle.jx_model.specs.Replies.{◌refuses◌else◌, is_within}
use Rattle.jx_model.specs.Tables.{ObjectRecord}
use Rattle.memory_objects.proofs.HeldParts.{IsHeld, is_held}
use Rattle.memory_objects.specs.ObjectLists.{ObjectsState, and_given, held_part, holds_in, part_or, part_size, place_within, valid_in}
use Rattle.memory_space.specs.Backing.{IsBacked, Shape}
use Rattle.memory_space.specs.SpaceLists.{SpaceState, copied_in, is_within_part}

-- the reply by its three tests
pub copied_by : (x : SpaceState) (d m : ℕ) (at : ℤ) (k : ℕ) (k_at count : ℤ) (h v w : Bool) → (holds_in x.objects d m && holds_in x.objects d k) ≡ h → (valid_in x.objects m && valid_in x.objects k) ≡ v →
    (is_within_part x m at count && is_within_part x k k_at count) ≡ w →
    (if not h then reply.Refused refusal.NotHeld else if not v then reply.Refused refusal.Revoked else if not w then reply.Refused refusal.Range else reply.Done) ≡ copied_in x d m at k k_at count
unfolding ◌refuses◌else◌
copied_by x d m at k k_at count h v w p q r =
    let third : Bool → Reply = λ c. if not c then reply.Refused refusal.Range else reply.Done in
    let within : Bool = is_within_part x m at count && is_within_part x k k_at count in
    ap (λ (c : Bool). if not h then reply.Refused refusal.NotHeld else if not v then reply.Refused refusal.Revoked else third c) (sym r)
    ∙ ap2 (λ (a b : Bool). if not a then reply.Refused refusal.NotHeld else if not b then reply.Refused refusal.Revoked else third within) (sym p) (sym q)

-- a held object whose size is refused is valid no more
pub record IsEnded (y : ObjectsState) (m : ℕ) (r : Refusal) : Type 0 where
  pub refused : r ≡ refusal.Revoked
  pub ended : valid_in y.records m ≡ false

pub size_refused : (y : ObjectsState) (shapes : List Shape) (flags : List Bool) (d m : ℕ) (r : Refusal) → IsBacked y shapes flags → holds_in y.records d m ≡ true → Err r ≡ and_given (held_part y d m) part_size → IsEnded y m r
size_refused y shapes flags d m r b held h =
    by (valid_in y.records m) (numbered y.parts m) refl refl (h ∙ ap (λ (a : Bool). and_given (if not a then Err refusal.NotHeld else if not (valid_in y.records m) then Err refusal.Revoked else part_or (numbered y.parts m) refusal.Revoked) part_size) held)
  where
    there : valid_in y.records m ≡ true → numbered y.parts m ≡ None → IsEnded y m r
    there v n =
        let f = passed (λ (z : ObjectRecord). z.valid) (numbered y.records m) v in
        let w = numbered_within y.records m f.0 f.1 in
        let p = numbered_there y.parts m w.0 (omega (arith, w.1, b.count)) in
        let c : None ≡ Some p.0 = sym n ∙ p.1 in cc

    by : (v : Bool) (o : Option Part) → valid_in y.records m ≡ v → numbered y.parts m ≡ o → Err r ≡ and_given (if not v then Err refusal.Revoked else part_or o refusal.Revoked) part_size → IsEnded y m r
    by false o p q g = record { refused = cc; ended = p }
    by true None p q g = there p q
    by true (Some o) p q g = cc

-- one whose size is told is held and valid
pub record IsSized (y : ObjectsState) (d m : ℕ) : Type 0 where
  pub part : Part
  pub held : IsHeld y d m part
  pub known : held_part y d m ≡ Ok part

pub size_told : (y : ObjectsState) (d m n : ℕ) → Ok n ≡ and_given (held_part y d m) part_size → IsSized y d m
size_told y d m n h = by (held_part y d m) refl h
  where
    by : (r : Result Part Refusal) → held_part y d m ≡ r → Ok n ≡ and_given r part_size → IsSized y d m
    by (Err q) e g = cc
    by (Ok o) e g = record { part = o; held = is_held y d m o (sym e); known = e }

-- bytes that lie within it or not
pub part_within_is : (x : SpaceState) (m : ℕ) (o : Part) (at count : ℤ) → numbered x.parts m ≡ Some o → is_within_part x m at count ≡ is_within at count o.size
unfolding passes
part_within_is x m o at count h = ap (passes (λ (z : Part). is_within at count z.size)) h

-- a place that is refused there is out of range
pub record IsOut (o : Part) (at count : ℤ) (r : Refusal) : Type 0 where
  pub refused : r ≡ refusal.Range
  pub out : is_within at count o.size ≡ false

pub place_refused : (y : ObjectsState) (d m : ℕ) (at count : ℤ) (r : Refusal) (s : IsSized y d m) → Err r ≡ and_given (held_part y d m) (place_within at count) → IsOut s.part at count r
place_refused y d m at count r s h = by (is_within at count s.part.size) refl (h ∙ ap (λ (z : Result Part Refusal). and_given z (place_within at count)) s.known)
  where
    place : Bool → Result (ℕ × ℕ) Refusal
    place b = if b then Ok (s.part.extent, s.part.from + not_below_zero at) else Err refusal.Range

    by : (b : Bool) → is_within at count s.part.size ≡ b → Err r ≡ place b → IsOut s.part at count r
    by true e g = cc
    by false e g = record { refused = cc; out = e }
