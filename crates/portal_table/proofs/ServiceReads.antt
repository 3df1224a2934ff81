-- What the rows of services show.
use Rattle.std.proofs.Common.{◌≡◌, refl, sym, ◌∙◌, ap, ℕ, suc, zero, ◌-◌, ◌<◌, ◌≤◌, Bool, not, List, [], ◌∷◌, ◌++◌, length, map, Option, Some, None, is_some, slice_get, get_or, Bor, arith, if◌then◌else◌}
use Rattle.std.specs.Prelude.{IfSome, drop, nat_lt, slice_set, take}
use Rattle.std.specs.Option.{option_and_then, option_copied, option_map}
use Rattle.std.proofs.lemmas.Bool.Decides.{nat_tests}
use Rattle.std.proofs.lemmas.Option.{slice_get-map, slice_get_past, slice_get_read, slice_get_within}
use Rattle.jx_base.specs.Basics.{numbered, passes}
use Rattle.jx_model.specs.Tables.{ServiceRecord}
use Rattle.table_reads.specs.TableReads.{flag_at}
use Rattle.jx_base.specs.declared.ids.ClassId.{ClassId}
use Rattle.jx_base.proofs.BasicLaws.{ap2}
use Rattle.domain_flags.specs.FlagLists.{with_flag}
use Rattle.domain_flags.specs.declared.flags.DomainFlags.{DomainFlags}
use Rattle.table_threads.specs.Changes.{changed_at}
use Rattle.portal_table.specs.ServiceLists.{IsService, ServicesState, live_service}
use Rattle.portal_table.specs.ServicesInside.{record_of}
use Rattle.portal_table.specs.declared.services.Service.{Service}

-- a copy of what was read is what stands there
pub copied_place : {A B : Type 0} (f : A → B) (xs : List A) (i : ℕ) (o : Option (Bor A)) → is_some o ≡ nat_lt i (length xs) → IfSome o (λ x. x.now ≡ get_or xs i x.now) →
    option_map f (option_copied o) ≡ slice_get (map f xs) i
copied_place f xs i None e h =
    let l : length xs ≤ i = grind (arith, nat_tests) in sym (slice_get-map f xs i ∙ ap (option_map f) (slice_get_past xs i l))
copied_place f xs i (Some x) e h =
    let l : i < length xs = grind (arith, nat_tests) in sym (slice_get-map f xs i ∙ ap (option_map f) (slice_get_read xs (length xs) i x.now refl l h))

-- what has a number was made
pub numbered_made : {A : Type 0} (xs : List A) (k : ℕ) (x : A) → numbered xs k ≡ Some x → (1 ≤ k) × (k ≤ length xs)
unfolding numbered
numbered_made xs zero x q = cc
numbered_made xs (suc k) x q = let l : k < length xs = slice_get_within xs k x q in (omega arith, omega (arith, l))

-- ---- rows that change

-- the row with a flag set or not
pub held_row : (rows : List Service) (i d : ℕ) (flag : Bool) (a b : Service) (w : DomainFlags) → slice_get rows i ≡ Some a → slice_get rows i ≡ Some b → w.flags ≡ with_flag d flag a.holders.flags →
    map record_of (slice_set rows i (record { owner = b.owner; interface = b.interface; holders = w })) ≡ changed_at i (λ s. record s { holders = with_flag d flag s.holders }) (map record_of rows)
held_row [] i d flag a b w p q h = refl
held_row (row ∷ rows) zero d flag a b w p q h =
    let z : row ≡ a = cc in
    let y : row ≡ b = cc in
    ap2 (λ (c : Service) (flags : List Bool). let r : ServiceRecord = record { owner = c.owner.0; interface = Some c.interface; holders = flags } in r ∷ map record_of rows) (sym y)
    (h ∙ ap (λ (c : Service). with_flag d flag c.holders.flags) (sym z))
held_row (row ∷ rows) (suc i) d flag a b w p q h = ap (λ (xs : List ServiceRecord). record_of row ∷ xs) (held_row rows i d flag a b w p q h)

-- one more of the items is changed
pub swept : {A : Type 0} (f : A → A) (xs : List A) (i : ℕ) → changed_at i f (map f (take i xs) ++ drop i xs) ≡ map f (take (suc i) xs) ++ drop (suc i) xs
swept f [] zero = refl
swept f [] (suc i) = refl
swept f (x ∷ xs) zero = refl
swept {A} f (x ∷ xs) (suc i) = ap (λ (ys : List A). f x ∷ ys) (swept f xs i)

-- ---- live services

module _ (x : ServicesState) (k : ℕ) where
  pub live_found : (s : Service) (b : Bool) → numbered x.services k ≡ Some (record_of s) → flag_at x.ended s.owner.0 ≡ b → live_service x k ≡ (if not b then Some k else None)
  unfolding passes
  live_found s b q h =
      ap (λ (o : Option ServiceRecord). if passes (λ s. not (flag_at x.ended s.owner)) o then Some k else None) q ∙ ap (λ (e : Bool). if not e then Some k else None) h

  pub live_none : numbered x.services k ≡ None → live_service x k ≡ None
  unfolding passes
  live_none q = ap (λ (o : Option ServiceRecord). if passes (λ s. not (flag_at x.ended s.owner)) o then Some k else None) q

  -- a portal is to a service that was made
  pub portal_made : (c : ClassId) → option_and_then (λ s. s.interface) (numbered x.services k) ≡ Some c → IsService x k
  portal_made c q = by (numbered x.services k) refl q
    where
      by : (o : Option ServiceRecord) → numbered x.services k ≡ o → option_and_then (λ s. s.interface) o ≡ Some c → IsService x k
      by None p q = cc
      by (Some s) p q = numbered_made x.services k s p
