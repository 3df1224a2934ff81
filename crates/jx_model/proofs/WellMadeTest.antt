-- The test of what is well made says what is.
use Rattle.std.proofs.Common.{◌≡◌, refl, sym, ◌∙◌, ap, ℕ, ◌<◌, ◌≤◌, ◌^◌, ℤ, pos, negsuc, Bool, true, ◌&&◌, ◌||◌, ◌⊎◌, inl, inr, List, [], ◌∷◌, length, Option, Some, None, is_some, arith, ◌==◌}
use Rattle.std.specs.Prelude.{nat_lt, nat_le, IfSome, FitsSigned}
use Rattle.std.specs.Bool.{Decides}
use Rattle.std.specs.Int.{w32, w64}
use Rattle.std.specs.List.{AllByRecursion, list_all}
use Rattle.std.proofs.lemmas.Bool.Decides.{nat_tests, Decides-and, Decides-or, Decides-like, Decides-eqb, Decides-ltb}
use Rattle.jx_base.specs.declared.act.Act.{Act}
use Rattle.jx_base.specs.declared.act.Act.TheVariants as act
use Rattle.jx_base.specs.declared.act.Reason.{Reason}
use Rattle.jx_base.specs.declared.act.Reason.TheVariants as reason
use Rattle.jx_base.specs.declared.ids.ClassId.{ClassId}
use Rattle.jx_base.specs.declared.value.Parcel.{Parcel}
use Rattle.jx_base.specs.declared.value.Word.{Word}
use Rattle.jx_base.specs.declared.value.Word.TheVariants as word
use Rattle.jx_base.specs.declared.program.System.{System}
use Rattle.jx_base.specs.Basics.{is_number}
use Rattle.program_model.specs.Limits.{text_limit, name_limit, thread_limit, node_limit, parcel_limit}
use Rattle.program_model.specs.ParcelParts.{parcel_cells, parcel_words}
use Rattle.jx_base.specs.Histories.{Past}
use Rattle.jx_model.specs.Portals.{interface_of}
use Rattle.program_model.specs.Lookup.{class_at, selector_at, template_at}
use Rattle.program_model.specs.Ranges.{IsId, is_id, IsInt, IsText, IsNameUnit, IsServiceName, IsWidth, has_bits, is_int, is_text, is_name_unit, is_service_name, is_width}
use Rattle.jx_model.specs.WellMade.{IsPortalIn, is_portal_in, IsWordIn, IsClass, IsParcelIn, IsWellMadeTest, is_word_in, is_class, is_parcel_in, is_exception, is_end_reason, is_well_made}
use Rattle.jx_base.proofs.BasicLaws.{eq_of, same_number}
use Rattle.std.specs.Option.{option_map}

below : (a b : ℕ) → Decides (nat_lt a b) (a < b)
below a b = Decides-ltb a b

at_most : (a b : ℕ) → Decides (nat_le a b) (a ≤ b)
at_most a b = (λ h. of a b h, λ h. to a b h)
  where
    of : (a b : ℕ) → nat_le a b ≡ true → a ≤ b
    of a b h = grind (arith, nat_tests)

    to : (a b : ℕ) → a ≤ b → nat_le a b ≡ true
    to a b h = grind (arith, nat_tests)

itself : (b : Bool) → Decides b (b ≡ true)
itself b = (λ h. h, λ h. h)

always : Decides true (Unit {0})
always = (λ h. tt, λ h. refl)

-- each item, by a test of each
each : {X : Type 0} (p : X → Bool) (P : X → Type 0) → ((x : X) → Decides (p x) (P x)) → (xs : List X) → Decides (list_all p xs) (AllByRecursion P xs)
each p P f [] = (λ h. tt, λ h. refl)
each p P f (x ∷ xs) = Decides-and (p x) (list_all p xs) (f x) (each p P f xs)

bits_32 : (n : ℤ) → Decides (has_bits 31 n) (FitsSigned w32 n)
unfolding has_bits
bits_32 (pos n) = Decides-like (nat_lt n (2 ^ 31)) (λ h. record { sfits = h }) (λ h. h.sfits) (below n (2 ^ 31))
bits_32 (negsuc n) = Decides-like (nat_lt n (2 ^ 31)) (λ h. record { sfits = h }) (λ h. h.sfits) (below n (2 ^ 31))

bits_64 : (n : ℤ) → Decides (has_bits 63 n) (FitsSigned w64 n)
unfolding has_bits
bits_64 (pos n) = Decides-like (nat_lt n (2 ^ 63)) (λ h. record { sfits = h }) (λ h. h.sfits) (below n (2 ^ 63))
bits_64 (negsuc n) = Decides-like (nat_lt n (2 ^ 63)) (λ h. record { sfits = h }) (λ h. h.sfits) (below n (2 ^ 63))

ids : (n : ℕ) → Decides (is_id n) (IsId n)
unfolding is_id
ids n = below n (2 ^ 32)

ints : (n : ℤ) → Decides (is_int n) (IsInt n)
unfolding is_int
ints n = bits_32 n

texts : (units : List ℕ) → Decides (is_text units) (IsText units)
unfolding is_text
texts units =
    Decides-like _ (λ h. record { short = h.0; sixteen_bits = h.1 }) (λ h. (h.short, h.sixteen_bits))
    (Decides-and _ _ (at_most (length units) text_limit) (each _ _ (λ u. below u (2 ^ 16)) units))

name_units : (u : ℕ) → Decides (is_name_unit u) (IsNameUnit u)
unfolding is_name_unit
name_units u = Decides-and _ _ (at_most 33 u) (at_most u 126)

names : (units : List ℕ) → Decides (is_service_name units) (IsServiceName units)
unfolding is_service_name
names units =
    Decides-like _ (λ h. record { present = h.0.0; short = h.0.1; printable = h.1 }) (λ h. ((h.present, h.short), h.printable))
    (Decides-and _ _ (Decides-and _ _ (at_most 1 (length units)) (at_most (length units) name_limit)) (each _ _ name_units units))

widths : (w : ℕ) → Decides (is_width w) (IsWidth w)
unfolding is_width
widths w =
    Decides-like ((w == 1) || (w == 2) || (w == 4)) (λ h. to h) (λ h. back h)
    (Decides-or ((w == 1) || (w == 2)) (w == 4) (Decides-or (w == 1) (w == 2) (Decides-eqb w 1) (Decides-eqb w 2)) (Decides-eqb w 4))
  where
    to : ((w ≡ 1) ⊎ (w ≡ 2)) ⊎ (w ≡ 4) → IsWidth w
    to (inl (inl p)) = inl p
    to (inl (inr q)) = inr (inl q)
    to (inr r) = inr (inr r)

    back : IsWidth w → ((w ≡ 1) ⊎ (w ≡ 2)) ⊎ (w ≡ 4)
    back (inl p) = inl (inl p)
    back (inr (inl q)) = inl (inr q)
    back (inr (inr r)) = inr r

portals : (o : Option ClassId) (c : ClassId) → Decides (is_number (option_map (λ x. x.0) o) c.0) (o ≡ Some c)
unfolding is_number
portals None c = (λ h. cc, λ h. cc)
portals (Some k) c = (λ h. ap (λ (n : ℕ). let x : ClassId = record { 0 = n } in Some x) (eq_of k.0 c.0 h), λ h. let q : k ≡ c = cc in ap (λ (x : ClassId). k.0 == x.0) (sym q) ∙ same_number k.0)

portals_in : (past : Past) (k : ℕ) (c : ClassId) → Decides (is_portal_in past k c) (IsPortalIn past k c)
unfolding is_portal_in
portals_in past k c = Decides-and _ _ (ids k) (portals (interface_of past k) c)

words : (past : Past) (nodes : ℕ) (w : Word) → Decides (is_word_in past nodes w) (IsWordIn past nodes w)
unfolding is_word_in
words past nodes (word.Int n) = bits_32 n
words past nodes (word.Long n) = bits_64 n
words past nodes (word.Node k) = below k nodes
words past nodes (word.Portal k c) = portals_in past k.0 c
words past nodes (word.Mem m) = ids m.0
words past nodes _ = always

classes : (s : System) (c : ℕ) → Decides (is_class s c) (IsClass s c)
unfolding is_class
classes s c = itself (is_some (class_at s c))

parcels : (s : System) (past : Past) (p : Parcel) → Decides (is_parcel_in s past p) (IsParcelIn s past p)
unfolding is_parcel_in
parcels s past p =
    Decides-like _ (λ h. record { few = h.0.0.0; small = h.0.0.1; classes = h.0.1; cells = h.1 }) (λ h. (((h.few, h.small), h.classes), h.cells))
    (Decides-and _ _ (Decides-and _ _ (Decides-and _ _ (at_most (length p.nodes) node_limit) (at_most (parcel_words p) parcel_limit))
    (each _ _ (λ n. classes s n.class.0) p.nodes)) (each _ _ (words past (length p.nodes)) (parcel_cells p)))

exceptions : (s : System) (o : Option ClassId) → Decides (is_exception s o) (IfSome o (λ k. IsClass s k.0))
unfolding is_exception
exceptions s None = (λ h. tt, λ h. refl)
exceptions s (Some c) = classes s c.0

end_reasons : (r : Reason) → Decides (is_end_reason r) ((r ≡ reason.Fuel) ⊎ (r ≡ reason.BadCode))
unfolding is_end_reason
end_reasons reason.Fuel = (λ h. inl refl, λ h. refl)
end_reasons reason.BadCode = (λ h. inr refl, λ h. refl)
end_reasons (reason.Exit code) = (λ h. cc, λ h. elim h [ inl q ↦ cc | inr q ↦ cc ])
end_reasons reason.Killed = (λ h. cc, λ h. elim h [ inl q ↦ cc | inr q ↦ cc ])

three : {P Q R : Type 0} (x y z : Bool) → Decides x P → Decides y Q → Decides z R → Decides (x && y && z) (P × Q × R)
three x y z p q r = Decides-like (x && y && z) (λ h. (h.0.0, h.0.1, h.1)) (λ h. ((h.0, h.1), h.2)) (Decides-and (x && y) z (Decides-and x y p q) r)

four : {P Q R S : Type 0} (x y z w : Bool) → Decides x P → Decides y Q → Decides z R → Decides w S → Decides (x && y && z && w) (P × Q × R × S)
four x y z w p q r v =
    Decides-like (x && y && z && w) (λ h. (h.0.0, h.0.1, h.0.2, h.1)) (λ h. ((h.0, h.1, h.2), h.3))
    (Decides-and (x && y && z) w (three x y z p q r) v)

five : {P Q R S T : Type 0} (x y z w v : Bool) → Decides x P → Decides y Q → Decides z R → Decides w S → Decides v T →
    Decides (x && y && z && w && v) (P × Q × R × S × T)
five x y z w v p q r i j =
    Decides-like (x && y && z && w && v) (λ h. (h.0.0, h.0.1, h.0.2, h.0.3, h.1)) (λ h. ((h.0, h.1, h.2, h.3), h.4))
    (Decides-and (x && y && z && w) v (four x y z w p q r i) j)

-- the test says whether the act is well made
pub well_made_test : (s : System) (past : Past) (a : Act) → IsWellMadeTest s past a
unfolding is_well_made
well_made_test s past (act.Create t) = itself (is_some (template_at s t))
well_made_test s past (act.Print text) = texts text
well_made_test s past (act.Export iface k) = three _ _ _ (classes s iface.0) (at_most 1 k) (at_most k thread_limit)
well_made_test s past (act.Bind name service) = Decides-and _ _ (names name) (ids service.0)
well_made_test s past (act.Lookup name) = names name
well_made_test s past (act.Call service method parcel) = three _ _ _ (itself (is_some (selector_at s method.0))) (parcels s past parcel) (ids service.0)
well_made_test s past (act.Take c) = ids c.0
well_made_test s past (act.Return c parcel) = Decides-and _ _ (parcels s past parcel) (ids c.0)
well_made_test s past (act.Throw c parcel) = Decides-and _ _ (parcels s past parcel) (ids c.0)
well_made_test s past (act.Resume c) = ids c.0
well_made_test s past (act.Go t) = ids t.0
well_made_test s past (act.Alloc n) = ints n
well_made_test s past (act.Size m) = ids m.0
well_made_test s past (act.Get m at width) = three _ _ _ (widths width) (ints at) (ids m.0)
well_made_test s past (act.Set m at width v) = four _ _ _ _ (widths width) (ints at) (ints v) (ids m.0)
well_made_test s past (act.Fill m at count b) = four _ _ _ _ (ints at) (ints count) (below b 256) (ids m.0)
well_made_test s past (act.Copy m at k k_at count) = five _ _ _ _ _ (ints at) (ints k_at) (ints count) (ids m.0) (ids k.0)
well_made_test s past (act.Sub m at count) = three _ _ _ (ints at) (ints count) (ids m.0)
well_made_test s past (act.Split m at) = Decides-and _ _ (ints at) (ids m.0)
well_made_test s past (act.Revoke m) = ids m.0
well_made_test s past (act.Release m) = ids m.0
well_made_test s past (act.Spawn name) = texts name
well_made_test s past (act.Kill k) = ints k
well_made_test s past (act.Exit code) = ints code
well_made_test s past (act.EndThread c) = exceptions s c
well_made_test s past (act.End r) = end_reasons r
well_made_test s past _ = always
