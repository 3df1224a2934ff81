-- The bytes of extents are bytes, and memory objects have sizes of 32 bits.
use Rattle.std.proofs.Common.{◌≡◌, refl, sym, subst, ℕ, zero, suc, ◌+◌, ◌<◌, ◌^◌, ◌/◌, ◌%◌, ℤ, pos, negsuc, Bool, true, false, List, [], ◌∷◌, Option, Some, None, arith, inl, inr, ◌==◌}
use Rattle.std.specs.Prelude.{FitsSigned, if◌then◌else◌}
use Rattle.std.specs.List.{AllByRecursion}
use Rattle.std.specs.Int.{w32, cast_signed, cast_unsigned}
use Rattle.jx_base.specs.declared.act.Act.{Act}
use Rattle.jx_base.specs.declared.act.Act.TheVariants as act
use Rattle.jx_base.specs.declared.act.Reply.{Reply}
use Rattle.jx_base.specs.declared.act.Reply.TheVariants as reply
use Rattle.jx_base.specs.declared.program.System.{System}
use Rattle.jx_base.specs.Basics.{numbered, not_below_zero, low_byte}
use Rattle.jx_model.specs.Bytes.{offset_in, object_byte, byte_after, byte_at, number_at}
use Rattle.jx_base.specs.Histories.{Past, is_done}
use Rattle.jx_model.specs.Legal.{IsAdmittedPast}
use Rattle.jx_model.specs.MemoryObjects.{Part, part_within, sides_at, made_of, new_parts, objects_of, object_part, extents_made}
use Rattle.jx_model.specs.Replies.{number_reply}
use Rattle.jx_model.specs.WellMade.{IsWellMade}
use Rattle.program_model.specs.Ranges.{IsInt, IsWidth}
use Rattle.machine_laws.specs.Handed.{IsReplyIn}
use Rattle.machine_laws.proofs.Lists.{all_append, all_get}
use Rattle.machine_laws.proofs.Ranges.{cast_fits}

-- ---- bytes

object_byte_in : (o : Option Part) (before : ℕ → ℕ → ℕ) (n : ℕ) → ((x i : ℕ) → before x i < 256) → object_byte o before n < 256
unfolding object_byte
object_byte_in None before n h = omega arith
object_byte_in (Some o) before n h = h o.extent (o.from + n)

-- what an act writes are bytes
byte_after_in : (s : System) (past : Past) (objects : List Part) (a : Act) (before : ℕ → ℕ → ℕ) (x i : ℕ) → IsWellMade s past a → ((x i : ℕ) → before x i < 256) → byte_after objects a before x i < 256
unfolding byte_after low_byte
byte_after_in s past objects (act.Set m at width v) before x i w h = by (offset_in (numbered objects m.0) (not_below_zero at) width x i)
  where
    by : (o : Option ℕ) → (elim o as (λ _. ℕ) [ Some k ↦ cast_unsigned w32 v / 256 ^ k % 256 | None ↦ before x i ]) < 256
    by None = h x i
    by (Some k) = omega arith
byte_after_in s past objects (act.Fill m at count b) before x i w h = by (offset_in (numbered objects m.0) (not_below_zero at) (not_below_zero count) x i)
  where
    by : (o : Option ℕ) → (elim o as (λ _. ℕ) [ Some k ↦ b | None ↦ before x i ]) < 256
    by None = h x i
    by (Some k) = w.2
byte_after_in s past objects (act.Copy m at target target_at count) before x i w h = by (offset_in (numbered objects target.0) (not_below_zero target_at) (not_below_zero count) x i)
  where
    copied : (o : Option Part) (n : ℕ) → object_byte o before n < 256
    copied o n = object_byte_in o before n h

    by : (o : Option ℕ) → (elim o as (λ _. ℕ) [ Some k ↦ object_byte (numbered objects m.0) before (not_below_zero at + k) | None ↦ before x i ]) < 256
    by None = h x i
    by (Some k) = copied (numbered objects m.0) (not_below_zero at + k)
byte_after_in s past objects _ before x i w h = h x i

-- each byte of an admitted past is one
byte_in : (s : System) (past : Past) (x i : ℕ) → IsAdmittedPast s past → byte_at past x i < 256
unfolding byte_at
byte_in s [] x i h = omega arith
byte_in s (e ∷ past) x i h = by (is_done e.reply) (λ y j. byte_in s past y j h.1)
  where
    by : (b : Bool) → ((y j : ℕ) → byte_at past y j < 256) → (elim b as (λ _. ℕ) [ true ↦ byte_after (objects_of past) e.act (byte_at past) x i | false ↦ byte_at past x i ]) < 256
    by true k = byte_after_in s past (objects_of past) e.act (byte_at past) x i h.0.well_made k
    by false k = k x i

-- one, two and four bytes as a number
number_one : (s : System) (past : Past) (x i : ℕ) → IsAdmittedPast s past → number_at past x i 1 < 256
unfolding number_at
number_one s past x i h = omega (arith, byte_in s past x i h)

number_two : (s : System) (past : Past) (x i : ℕ) → IsAdmittedPast s past → number_at past x i 2 < 65536
unfolding number_at
number_two s past x i h = omega (arith, byte_in s past x i h, byte_in s past x (i + 1) h)

number_four : (s : System) (past : Past) (x i : ℕ) → IsAdmittedPast s past → number_at past x i 4 < 2 ^ 32
unfolding number_at
number_four s past x i h = omega (arith, byte_in s past x i h, byte_in s past x (i + 1) h, byte_in s past x (i + 1 + 1) h, byte_in s past x (i + 1 + 1 + 1) h)

-- a number that is read is of 32 bits
pub number_reply_in : (s : System) (past new : Past) (x i width : ℕ) → IsWidth width → IsAdmittedPast s past → IsReplyIn s new (number_reply width (number_at past x i width))
unfolding number_reply
number_reply_in s past new x i width (inl e) h = subst (λ (w : ℕ). IsReplyIn s new (if w == 4 then reply.Number (cast_signed w32 (number_at past x i w)) else reply.Number (pos (number_at past x i w)))) (sym e) (record { sfits = omega (arith, number_one s past x i h) })
number_reply_in s past new x i width (inr (inl e)) h = subst (λ (w : ℕ). IsReplyIn s new (if w == 4 then reply.Number (cast_signed w32 (number_at past x i w)) else reply.Number (pos (number_at past x i w)))) (sym e) (record { sfits = omega (arith, number_two s past x i h) })
number_reply_in s past new x i width (inr (inr e)) h = subst (λ (w : ℕ). IsReplyIn s new (if w == 4 then reply.Number (cast_signed w32 (number_at past x i w)) else reply.Number (pos (number_at past x i w)))) (sym e) (cast_fits w32 (number_at past x i 4) (number_four s past x i h))

-- ---- sizes

-- a size of 31 bits
abbrev HasIntSize : Part → Type 0
HasIntSize o = o.size < 2 ^ 31

int_size : (n : ℤ) → IsInt n → not_below_zero n < 2 ^ 31
unfolding not_below_zero
int_size (pos n) h = omega (arith, h.sfits)
int_size (negsuc n) h = omega arith

made_in : (o : Option Part) (f : Part → List Part) → ((x : Part) → o ≡ Some x → AllByRecursion HasIntSize (f x)) → AllByRecursion HasIntSize (made_of o f)
unfolding made_of
made_in None f h = tt
made_in (Some x) f h = h x refl

number_in : (os : List Part) (m : ℕ) (x : Part) → AllByRecursion HasIntSize os → numbered os m ≡ Some x → HasIntSize x
unfolding numbered
number_in os zero x h e = cc
number_in os (suc m) x h e = all_get HasIntSize os m x e h

new_parts_in : (s : System) (past : Past) (olds : List Part) (x : ℕ) (a : Act) (r : Reply) → IsWellMade s past a → AllByRecursion HasIntSize olds → AllByRecursion HasIntSize (new_parts olds x a r)
unfolding new_parts part_within sides_at
new_parts_in s past olds x (act.Alloc n) (reply.Made m g) w h = (int_size n w, tt)
new_parts_in s past olds x (act.Sub m at count) (reply.Object new) w h = made_in (numbered olds m.0) _ (λ o e. (int_size count w.1, tt))
new_parts_in s past olds x (act.Split m at) (reply.Pair a b) w h = made_in (numbered olds m.0) _ (λ o e. (int_size at w.0, (omega (arith, number_in olds m.0 o h e), tt)))
new_parts_in s past olds x (act.Revoke m) (reply.Object new) w h = made_in (numbered olds m.0) _ (λ o e. (number_in olds m.0 o h e, tt))
new_parts_in s past olds x _ _ w h = tt

sizes_in : (s : System) (past : Past) → IsAdmittedPast s past → AllByRecursion HasIntSize (objects_of past)
unfolding objects_of
sizes_in s [] h = tt
sizes_in s (e ∷ past) h =
    let olds = sizes_in s past h.1 in
    all_append HasIntSize (objects_of past) (new_parts (objects_of past) (extents_made past + 1) e.act e.reply) olds (new_parts_in s past (objects_of past) (extents_made past + 1) e.act e.reply h.0.well_made olds)

-- the size of an object is of 32 bits
pub size_fits : (s : System) (past : Past) (m : ℕ) (o : Part) → IsAdmittedPast s past → object_part past m ≡ Some o → FitsSigned w32 (pos o.size)
unfolding object_part
size_fits s past m o h e = record { sfits = omega (arith, number_in (objects_of past) m o (sizes_in s past h) e) }
