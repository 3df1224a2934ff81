-- Parts of a text are lawful: reading tells just what their bytes spell and the first fault.
use Rattle.std.proofs.Common.{◌≡◌, ℕ, zero, suc, ◌-◌, ◌<◌, ◌≤◌, ◌⊎◌, inl, inr, Bool, true, false, cond, ltb, List, [], ◌∷◌, ◌++◌, length, take, drop, Option, Some, None, Result, Ok, Err, refl, sym, ap, ◌∙◌, arith}
use Rattle.std.specs.Prelude.{◌≢◌}
use Rattle.std.specs.Int.{Width, byte_len, from_be_bytes}
use Rattle.std.proofs.lemmas.Bool.{ltb-false, ltb-true, le-ltb, lt-ltb}
use Rattle.std.proofs.lemmas.List.{take_at, drop_at, take-append-drop, length-append, length-take}
use Rattle.class_grammar.specs.Parts.{Part, onward, to_the_end, ◌>>=◌, ◌>>◌, either, repeated, enclosed, done, refused, demand, no_fault, known, meant, room, at_end, here, bytes_of, number}

pub record IsLawful {A F : Type 0} (p : Part A F) : Type 0 where
  pub found : (text : List ℕ) (x : A) (rest : List ℕ) → p.reads text ≡ Ok (x, rest)
      → p.spells text x rest
  pub only : (text : List ℕ) (x : A) (rest : List ℕ) → p.spells text x rest
      → p.reads text ≡ Ok (x, rest)
  pub failed : (text : List ℕ) (f : F) → p.reads text ≡ Err f → p.fails text f
  pub fails_only : (text : List ℕ) (f : F) → p.fails text f → p.reads text ≡ Err f

-- ---- results

value_of : {A F : Type 0} → Result (A × List ℕ) F → Option A
value_of (Ok x) = Some x.0
value_of (Err f) = None

rest_of : {A F : Type 0} → Result (A × List ℕ) F → Option (List ℕ)
rest_of (Ok x) = Some x.1
rest_of (Err f) = None

some_is : {A : Type 0} (x y : A) → Some x ≡ Some y → x ≡ y
some_is x y e = cc

abbrev ok_of : {A F : Type 0} → A → List ℕ → Result (A × List ℕ) F
ok_of x rest = Ok (x, rest)

abbrev err_of : {A F : Type 0} → F → Result A F
err_of f = Err f

ok_value : {A F : Type 0} (x y : A) (a b : List ℕ) → ok_of {F = F} x a ≡ ok_of y b → x ≡ y
unfolding value_of
ok_value {F = F} x y a b e = some_is x y (ap (value_of {F = F}) e)

ok_rest : {A F : Type 0} (x y : A) (a b : List ℕ) → ok_of {F = F} x a ≡ ok_of y b → a ≡ b
unfolding rest_of
ok_rest {F = F} x y a b e = some_is a b (ap (rest_of {F = F}) e)

err_is : {A F : Type 0} (f g : F) → err_of {A = A} f ≡ err_of g → f ≡ g
err_is f g e = cc

not_err : {A F : Type 0} (x : A) (a : List ℕ) (f : F) → ok_of x a ≡ err_of f → ⊥
not_err x a f e = absurd cc

not_ok : {A F : Type 0} (x : A) (a : List ℕ) (f : F) → err_of f ≡ ok_of x a → ⊥
not_ok x a f e = absurd cc

-- ---- one behind the other

onward_ok : {A B F : Type 0} (r : Result (A × List ℕ) F) (next : A → List ℕ → Result B F) (y : B)
    → onward r next ≡ Ok y
    → (x : A) × (rest : List ℕ) × (r ≡ Ok (x, rest)) × (next x rest ≡ Ok y)
onward_ok (Ok x) next y e = (x.0, x.1, refl, e)
onward_ok (Err f) next y e = absurd cc

onward_err : {A B F : Type 0} (r : Result (A × List ℕ) F) (next : A → List ℕ → Result B F) (f : F)
    → onward r next ≡ Err f
    → (r ≡ Err f) ⊎ ((x : A) × (rest : List ℕ) × (r ≡ Ok (x, rest)) × (next x rest ≡ Err f))
onward_err (Ok x) next f e = inr (x.0, x.1, refl, e)
onward_err (Err g) next f e = inl cc

pub lawful-bind : {A B F : Type 0} (p : Part A F) (q : A → Part B F) → IsLawful p → ((x : A) → IsLawful (q x)) → IsLawful (p >>= q)
lawful-bind p q hp hq = record {
  found = λ text y rest e.
      let o = onward_ok (p.reads text) (λ x middle. (q x).reads middle) (y, rest) e in
      (o.0, o.1, hp.found text o.0 o.1 o.2, (hq o.0).found o.1 y rest o.3);
  only = λ text y rest h.
      ap (λ r. onward r (λ x middle. (q x).reads middle)) (hp.only text h.0 h.1 h.2) ∙ (hq h.0).only h.1 y rest h.3;
  failed = λ text f e. elim (onward_err (p.reads text) (λ x middle. (q x).reads middle) f e) [
    | inl h ↦ inl (hp.failed text f h)
    | inr h ↦ inr (h.0, h.1, hp.found text h.0 h.1 h.2, (hq h.0).failed h.1 f h.3)
  ];
  fails_only = λ text f h. elim h [
    | inl g ↦ ap (λ r. onward r (λ x middle. (q x).reads middle)) (hp.fails_only text f g)
    | inr g ↦ ap (λ r. onward r (λ x middle. (q x).reads middle)) (hp.only text g.0 g.1 g.2) ∙ (hq g.0).fails_only g.1 f g.3
  ];
}

pub lawful-then : {A B F : Type 0} (p : Part A F) (q : Part B F) → IsLawful p → IsLawful q
    → IsLawful (p >> q)
lawful-then p q hp hq = lawful-bind p (λ x. q) hp (λ x. hq)

pub lawful-either : {A F : Type 0} (test : Bool) (p q : Part A F) → IsLawful p → IsLawful q
    → IsLawful (either test p q)
lawful-either true p q hp hq = hp
lawful-either false p q hp hq = hq

-- ---- parts without bytes

pub lawful-done : {A F : Type 0} (x : A) → IsLawful (done {F = F} x)
lawful-done {F = F} x = record {
  found = λ text y rest e. (sym (ok_value {F = F} x y text rest e), sym (ok_rest {F = F} x y text rest e));
  only = λ text y rest h. cc;
  failed = λ text f e. not_err x text f e;
  fails_only = λ text f h. absurd h;
}

pub lawful-refused : {A F : Type 0} (f : F) → IsLawful (refused {A = A} f)
lawful-refused {A = A} f = record {
  found = λ text y rest e. not_ok y rest f e;
  only = λ text y rest h. absurd h;
  failed = λ text g e. sym (err_is {A = A × List ℕ} f g e);
  fails_only = λ text g h. ap (err_of {A = A × List ℕ}) (sym h);
}

pub lawful-demand : {F : Type 0} (test : Bool) (f : F) → IsLawful (demand test f)
lawful-demand true f = record {
  found = λ text y rest e. (refl, sym (ok_rest tt y text rest e));
  only = λ text y rest h. ap (λ (r : List ℕ). ok_of tt r) (sym h.1);
  failed = λ text g e. absurd (not_err tt text g e);
  fails_only = λ text g h. absurd (cc);
}
lawful-demand false f = record {
  found = λ text y rest e. absurd (not_ok y rest f e);
  only = λ text y rest h. absurd (cc);
  failed = λ text g e. (refl, sym (err_is {A = Unit {0} × List ℕ} f g e));
  fails_only = λ text g h. ap (err_of {A = Unit {0} × List ℕ}) (sym h.1);
}

pub lawful-no_fault : {F : Type 0} (fault : Option F) → IsLawful (no_fault fault)
lawful-no_fault None = record {
  found = λ text y rest e. (refl, sym (ok_rest tt y text rest e));
  only = λ text y rest h. ap (λ (r : List ℕ). ok_of tt r) (sym h.1);
  failed = λ text g e. absurd (not_err tt text g e);
  fails_only = λ text g h. absurd (cc);
}
lawful-no_fault (Some f) = record {
  found = λ text y rest e. absurd (not_ok y rest f e);
  only = λ text y rest h. let none : Some f ≡ None = h.0 in absurd (cc);
  failed = λ text g e. ap Some (err_is {A = Unit {0} × List ℕ} f g e);
  fails_only = λ text g h. ap (err_of {A = Unit {0} × List ℕ}) (some_is f g h);
}

pub lawful-known : {A F : Type 0} (value : Option A) (f : F) → IsLawful (known value f)
lawful-known {A = A} None f = record {
  found = λ text y rest e. absurd (not_ok y rest f e);
  only = λ text y rest h. let some : None ≡ Some y = h.0 in absurd (cc);
  failed = λ text g e. (refl, sym (err_is {A = A × List ℕ} f g e));
  fails_only = λ text g h. ap (err_of {A = A × List ℕ}) (sym h.1);
}
lawful-known {F = F} (Some x) f = record {
  found = λ text y rest e. (ap Some (ok_value {F = F} x y text rest e), sym (ok_rest {F = F} x y text rest e));
  only = λ text y rest h. let same : x ≡ y = some_is x y h.0 in let behind = h.1 in cc;
  failed = λ text g e. absurd (not_err x text g e);
  fails_only = λ text g h. let none : Some x ≡ None = h.0 in absurd (cc);
}

-- reading a text gives just what it means
pub record Tells {A : Type 0} (means : A → Type 0) (value : Option A) : Type 0 where
  pub told : (x : A) → value ≡ Some x → means x
  pub meant_only : (x : A) → means x → value ≡ Some x

pub lawful-meant : {A F : Type 0} (means : A → Type 0) (value : Option A) (f : F)
    → Tells means value → IsLawful (meant means value f)
lawful-meant {A = A} means None f tells = record {
  found = λ text y rest e. absurd (not_ok y rest f e);
  only = λ text y rest h. let some : None ≡ Some y = tells.meant_only y h.0 in absurd (cc);
  failed = λ text g e. ((λ x m. let some : None ≡ Some x = tells.meant_only x m in absurd (cc)), sym (err_is {A = A × List ℕ} f g e));
  fails_only = λ text g h. ap (err_of {A = A × List ℕ}) (sym h.1);
}
lawful-meant {F = F} means (Some x) f tells = record {
  found = λ text y rest e.
      (tells.told y (ap Some (ok_value {F = F} x y text rest e)), sym (ok_rest {F = F} x y text rest e));
  only = λ text y rest h. let same : x ≡ y = some_is x y (tells.meant_only y h.0) in let behind = h.1 in cc;
  failed = λ text g e. absurd (not_err x text g e);
  fails_only = λ text g h. absurd (h.0 x (tells.told x refl));
}

pub lawful-here : {F : Type 0} (size : ℕ) → IsLawful (here {F = F} size)
lawful-here {F = F} size = record {
  found = λ text y rest e. (sym (ok_value {F = F} (size - length text) y text rest e), sym (ok_rest {F = F} (size - length text) y text rest e));
  only = λ text y rest h. let place = h.0 in let behind = h.1 in cc;
  failed = λ text f e. not_err (size - length text) text f e;
  fails_only = λ text f h. absurd h;
}

pub lawful-at_end : {F : Type 0} (f : F) → IsLawful (at_end f)
lawful-at_end {F} f = record {
  found = λ text. found_at text;
  only = λ text y rest h. rw (h.1, h.0) refl;
  failed = λ text. failed_at text;
  fails_only = λ text. fails_at text;
} where
  found_at : (text : List ℕ) (y : Unit {0}) (rest : List ℕ) → (at_end f).reads text ≡ Ok (y, rest)
      → (at_end f).spells text y rest
  found_at [] y rest e = (refl, sym (ok_rest {F = F} tt y [] rest e))
  found_at (b ∷ text) y rest e = absurd (not_ok y rest f e)

  failed_at : (text : List ℕ) (g : F) → (at_end f).reads text ≡ Err g → (at_end f).fails text g
  failed_at [] g e = absurd (not_err tt [] g e)
  failed_at (b ∷ text) g e = ((λ h. absurd (cc)), sym (err_is {A = Unit {0} × List ℕ} f g e))

  fails_at : (text : List ℕ) (g : F) → (at_end f).fails text g → (at_end f).reads text ≡ Err g
  fails_at [] g h = absurd (h.0 refl)
  fails_at (b ∷ text) g h = ap (err_of {A = Unit {0} × List ℕ}) (sym h.1)

-- ---- bytes

-- a test that was made, and what follows
chosen : {X : Type 0} (b : Bool) (x y z : X) → cond b x y ≡ z
    → ((b ≡ true) × (x ≡ z)) ⊎ ((b ≡ false) × (y ≡ z))
chosen true x y z e = inl (refl, e)
chosen false x y z e = inr (refl, e)

-- a part that takes so many bytes off the front
module _ {A F : Type 0} (f : F) (n : ℕ) (value : List ℕ → A) where
  abbrev taking : List ℕ → Result (A × List ℕ) F
  taking text = cond (ltb (length text) n) (Err f) (Ok (value (take n text), drop n text))

  -- what was taken
  taking_found : (text : List ℕ) (x : A) (rest : List ℕ) → taking text ≡ Ok (x, rest)
      → (length (take n text) ≡ n) × (text ≡ take n text ++ rest) × (x ≡ value (take n text))
  taking_found text x rest e = elim (chosen (ltb (length text) n) (Err f) (Ok (value (take n text), drop n text)) (Ok (x, rest)) e) [
    | inl h ↦ absurd (not_ok x rest f h.1)
    | inr h ↦
        let long : n ≤ length text = ltb-false _ _ h.0 in
        let behind : drop n text ≡ rest = ok_rest {F = F} (value (take n text)) x (drop n text) rest h.1 in
        (omega (arith, length-take n text), sym (take-append-drop n text) ∙ ap (λ (r : List ℕ). take n text ++ r) behind, sym (ok_value {F = F} (value (take n text)) x (drop n text) rest h.1))
  ]

  taking_only : (bytes rest : List ℕ) → length bytes ≡ n
      → taking (bytes ++ rest) ≡ Ok (value bytes, rest)
  taking_only bytes rest len =
      let long : ltb (length (bytes ++ rest)) n ≡ false = le-ltb _ _ (omega (arith, length-append bytes rest)) in
      rw (long, take_at bytes rest n len, drop_at bytes rest n len) refl

  taking_failed : (text : List ℕ) (g : F) → taking text ≡ Err g → (length text < n) × (g ≡ f)
  taking_failed text g e = elim (chosen (ltb (length text) n) (Err f) (Ok (value (take n text), drop n text)) (Err g) e) [
    | inl h ↦ (ltb-true _ _ h.0, sym (err_is {A = A × List ℕ} f g h.1))
    | inr h ↦ absurd (not_err (value (take n text)) (drop n text) g h.1)
  ]

  taking_fails : (text : List ℕ) (g : F) → length text < n → g ≡ f → taking text ≡ Err g
  taking_fails text g short same = let s : ltb (length text) n ≡ true = lt-ltb _ _ short in rw s (ap (err_of {A = A × List ℕ}) (sym same))

pub lawful-bytes_of : {F : Type 0} (f : F) (n : ℕ) → IsLawful (bytes_of f n)
unfolding bytes_of
lawful-bytes_of f n = record {
  found = λ text x rest e.
      let t = taking_found f n (λ (bytes : List ℕ). bytes) text x rest e in
      (ap length t.2 ∙ t.0, t.1 ∙ ap (λ (front : List ℕ). front ++ rest) (sym t.2));
  only = λ text x rest h. rw h.1 (taking_only f n (λ (bytes : List ℕ). bytes) x rest h.0);
  failed = λ text g e. taking_failed f n (λ (bytes : List ℕ). bytes) text g e;
  fails_only = λ text g h. taking_fails f n (λ (bytes : List ℕ). bytes) text g h.0 h.1;
}

pub lawful-number : {F : Type 0} (f : F) (w : Width) → IsLawful (number f w)
unfolding number
lawful-number f w = record {
  found = λ text x rest e.
      let t = taking_found f (byte_len w) (from_be_bytes w) text x rest e in
      (take (byte_len w) text, t.0, t.1, t.2);
  only = λ text x rest h. rw (h.2, h.3) (taking_only f (byte_len w) (from_be_bytes w) h.0 rest h.1);
  failed = λ text g e. taking_failed f (byte_len w) (from_be_bytes w) text g e;
  fails_only = λ text g h. taking_fails f (byte_len w) (from_be_bytes w) text g h.0 h.1;
}

pub lawful-room : {F : Type 0} (n : ℕ) (f : F) → IsLawful (room n f)
lawful-room {F} n f = record {
  found = λ text y rest e. elim (chosen (ltb (length text) n) (Err f) (Ok (tt, text)) (Ok (y, rest)) e) [
    | inl h ↦ absurd (not_ok y rest f h.1)
    | inr h ↦ (ltb-false _ _ h.0, sym (ok_rest {F = F} tt y text rest h.1))
  ];
  only = λ text y rest h. let long : ltb (length text) n ≡ false = le-ltb _ _ h.0 in rw long (ap (λ (r : List ℕ). ok_of {F = F} tt r) (sym h.1));
  failed = λ text g e. elim (chosen (ltb (length text) n) (Err f) (Ok (tt, text)) (Err g) e) [
    | inl h ↦ (ltb-true _ _ h.0, sym (err_is {A = Unit {0} × List ℕ} f g h.1))
    | inr h ↦ absurd (not_err tt text g h.1)
  ];
  fails_only = λ text g h. let s : ltb (length text) n ≡ true = lt-ltb _ _ h.0 in rw s (ap (err_of {A = Unit {0} × List ℕ}) (sym h.1));
}

-- ---- repeated parts

lawful-none : {A F : Type 0} (p : Part (List A) F) → IsLawful (repeated zero p)
unfolding repeated
lawful-none {A} {F} p = record {
  found = λ text y rest e. (sym (ok_value {F = F} [] y text rest e), sym (ok_rest {F = F} [] y text rest e));
  only = λ text y rest h. cc;
  failed = λ text f e. not_err [] text f e;
  fails_only = λ text f h. absurd h;
}

pub lawful-repeated : {A F : Type 0} (n : ℕ) (p : Part (List A) F) → IsLawful p
    → IsLawful (repeated n p)
unfolding repeated
lawful-repeated zero p hp = lawful-none p
lawful-repeated {A} {F} (suc n) p hp =
    let more = lawful-repeated n p hp in
    let behind : List A → List ℕ → Result (List A × List ℕ) F = λ xs middle. onward ((repeated n p).reads middle) (λ ys rest. Ok (xs ++ ys, rest)) in
    record {
      found = λ text zs rest e.
          let o = onward_ok (p.reads text) behind (zs, rest) e in
          let m = onward_ok ((repeated n p).reads o.1) (λ ys after. Ok (o.0 ++ ys, after)) (zs, rest) o.3 in
          let same_rest : m.1 ≡ rest = ok_rest {F = F} (o.0 ++ m.0) zs m.1 rest m.3 in
          let same : o.0 ++ m.0 ≡ zs = ok_value {F = F} (o.0 ++ m.0) zs m.1 rest m.3 in
          (o.0, m.0, o.1, hp.found text o.0 o.1 o.2, more.found o.1 m.0 rest (m.2 ∙ ap (λ (r : List ℕ). ok_of {F = F} m.0 r) same_rest), sym same);
      only = λ text zs rest h.
          let one : (repeated (suc n) p).reads text ≡ behind h.0 h.2 = ap (λ r. onward r behind) (hp.only text h.0 h.2 h.3) in
          let two : behind h.0 h.2 ≡ Ok (h.0 ++ h.1, rest) = ap (λ r. onward r (λ ys after. Ok (h.0 ++ ys, after))) (more.only h.2 h.1 rest h.4) in
          one ∙ two ∙ ap (λ (zs : List A). ok_of {F = F} zs rest) (sym h.5);
      failed = λ text f e. elim (onward_err (p.reads text) behind f e) [
        | inl h ↦ inl (hp.failed text f h)
        | inr h ↦ elim (onward_err ((repeated n p).reads h.1) (λ ys after. Ok (h.0 ++ ys, after)) f h.3) [
          | inl g ↦ inr (h.0, h.1, hp.found text h.0 h.1 h.2, more.failed h.1 f g)
          | inr g ↦ absurd (not_err (h.0 ++ g.0) g.1 f g.3)
        ]
      ];
      fails_only = λ text f h. elim h [
        | inl g ↦ ap (λ r. onward r behind) (hp.fails_only text f g)
        | inr g ↦
            ap (λ r. onward r behind) (hp.only text g.0 g.1 g.2)
            ∙ ap (λ r. onward r (λ ys after. Ok (g.0 ++ ys, after))) (more.fails_only g.1 f g.3)
      ];
    }

-- ---- enclosed parts

module _ {A F : Type 0} (n : ℕ) (f : F) (p : Part A F) (hp : IsLawful p) where
  abbrev ending : List ℕ → A → List ℕ → Result (A × List ℕ) F
  ending text x more = onward (to_the_end (x, drop n text) more f) (λ x rest. Ok (x, rest))

  abbrev inner : List ℕ → Result (A × List ℕ) F
  inner text = onward (p.reads (take n text)) (ending text)

  ending_ok : (text : List ℕ) (x : A) (more : List ℕ) (y : A) (rest : List ℕ)
      → ending text x more ≡ Ok (y, rest) → (more ≡ []) × (x ≡ y) × (drop n text ≡ rest)
  ending_ok text x [] y rest e = (refl, ok_value {F = F} x y (drop n text) rest e, ok_rest {F = F} x y (drop n text) rest e)
  ending_ok text x (b ∷ more) y rest e = absurd (not_ok y rest f e)

  ending_err : (text : List ℕ) (x : A) (more : List ℕ) (g : F) → ending text x more ≡ Err g
      → (more ≢ []) × (g ≡ f)
  ending_err text x [] g e = absurd (not_err x (drop n text) g e)
  ending_err text x (b ∷ more) g e = ((λ h. absurd (cc)), sym (err_is {A = A × List ℕ} f g e))

  ending_fails : (text : List ℕ) (x : A) (more : List ℕ) (g : F) → more ≢ [] → g ≡ f
      → ending text x more ≡ Err g
  ending_fails text x [] g h same = absurd (h refl)
  ending_fails text x (b ∷ more) g h same = ap (err_of {A = A × List ℕ}) (sym same)

  pub lawful-enclosed : IsLawful (enclosed n f p)
  lawful-enclosed = record {
    found = λ text y rest e. elim (chosen (ltb (length text) n) (Err f) (inner text) (Ok (y, rest)) e) [
      | inl h ↦ absurd (not_ok y rest f h.1)
      | inr h ↦
          let long : n ≤ length text = ltb-false _ _ h.0 in
          let o = onward_ok (p.reads (take n text)) (ending text) (y, rest) h.1 in
          let d = ending_ok text o.0 o.1 y rest o.3 in
          let whole : p.reads (take n text) ≡ ok_of {F = F} y [] = o.2 ∙ ap (λ (m : List ℕ). ok_of {F = F} o.0 m) d.0 ∙ ap (λ (z : A). ok_of {F = F} z []) d.1 in
          (take n text, omega (arith, length-take n text), sym (take-append-drop n text) ∙ ap (λ (r : List ℕ). take n text ++ r) d.2, hp.found (take n text) y [] whole)
    ];
    only = λ text y rest h.
        let front = h.0 in
        let long : ltb (length (front ++ rest)) n ≡ false = le-ltb _ _ (omega (arith, length-append front rest, h.1)) in
        rw h.2 (rw (long, take_at front rest n h.1, drop_at front rest n h.1, hp.only front y [] h.3) refl);
    failed = λ text g e. elim (chosen (ltb (length text) n) (Err f) (inner text) (Err g) e) [
      | inl h ↦ inl (ltb-true _ _ h.0, sym (err_is {A = A × List ℕ} f g h.1))
      | inr h ↦
          let long : n ≤ length text = ltb-false _ _ h.0 in
          elim (onward_err (p.reads (take n text)) (ending text) g h.1) [
            | inl q ↦ inr (inl (long, hp.failed (take n text) g q))
            | inr q ↦ let d = ending_err text q.0 q.1 g q.3 in inr (inr (long, q.0, q.1, hp.found (take n text) q.0 q.1 q.2, d.0, d.1))
          ]
    ];
    fails_only = λ text g h. elim h [
      | inl q ↦ let s : ltb (length text) n ≡ true = lt-ltb _ _ q.0 in rw s (ap (err_of {A = A × List ℕ}) (sym q.1))
      | inr h ↦ elim h [
        | inl q ↦
            let long : ltb (length text) n ≡ false = le-ltb _ _ q.0 in
            rw long (ap (λ r. onward r (ending text)) (hp.fails_only (take n text) g q.1))
        | inr q ↦
            let long : ltb (length text) n ≡ false = le-ltb _ _ q.0 in
            rw long (ap (λ r. onward r (ending text)) (hp.only (take n text) q.1 q.2 q.3) ∙ ending_fails text q.1 q.2 g q.4 q.5)
      ]
    ];
  }

-- ---- what lawful parts have

-- a text begins with one meaning at most, has one first fault at most, and not both
pub one_meaning : {A F : Type 0} (p : Part A F) → IsLawful p
    → (text : List ℕ) (x y : A) (a b : List ℕ) → p.spells text x a → p.spells text y b → x ≡ y
one_meaning {F = F} p h text x y a b s t = ok_value {F = F} x y a b (sym (h.only text x a s) ∙ h.only text y b t)

pub one_fault : {A F : Type 0} (p : Part A F) → IsLawful p → (text : List ℕ) (f g : F)
    → p.fails text f → p.fails text g → f ≡ g
one_fault {A = A} p h text f g s t = err_is {A = A × List ℕ} f g (sym (h.fails_only text f s) ∙ h.fails_only text g t)

pub not_both : {A F : Type 0} (p : Part A F) → IsLawful p
    → (text : List ℕ) (x : A) (rest : List ℕ) (f : F) → p.spells text x rest → p.fails text f → ⊥
not_both p h text x rest f s t = not_err x rest f (sym (h.only text x rest s) ∙ h.fails_only text f t)
