-- One text after another.
use Rattle.std.specs.Prelude.{◌≡◌, ◌≤◌, ℕ, Bool, List, [], ◌∷◌, ◌++◌, Option, Some, None, Result, Ok, Err, refl}
use Rattle.std.proofs.Common.{ap, sym, subst, ◌∙◌, ◌<◌, ◌+◌, append_assoc, append-nil, add-one, arith, length, drop, get_or, drop-cons}
use Rattle.std.specs.List.{flat_map, list_all}
use Rattle.std.proofs.lemmas.List.{drop_all}
use Rattle.jx_base.specs.declared.sink.Failed.{Failed}
use Rattle.jx_base.specs.Puts.{Puts, SinkState, with_bytes}
use Rattle.jx_base.specs.Texts.{after_space, spaced}
use Rattle.page_text.specs.declared.pieces.Piece.{Piece}
use Rattle.page_text.specs.Pieces.{piece_text, spaced_piece, piece_texts}
use Rattle.jx_base.specs.Texts.{is_printable}
use Rattle.page_text.specs.Pieces.{shown, shown_unit}
use Rattle.page_text.specs.Writes.{Output, Writes}

with_bytes-append : (told : Option (List ℕ)) (a b : List ℕ) → with_bytes (with_bytes told a) b ≡ with_bytes told (a ++ b)
with_bytes-append None a b = refl
with_bytes-append (Some xs) a b = ap Some (append_assoc xs a b)

with_bytes-nil : (told : Option (List ℕ)) → with_bytes told [] ≡ told
with_bytes-nil None = refl
with_bytes-nil (Some xs) = ap Some (append-nil xs)

-- the parts of two texts that follow one another
joined : (page a b front page1 front1 rest : List ℕ) → page ++ a ≡ front ++ page1 → page1 ++ b ≡ front1 ++ rest → page ++ (a ++ b) ≡ (front ++ front1) ++ rest
joined page a b front page1 front1 rest p q =
    sym (append_assoc page a b) ∙ ap (λ x. x ++ b) p ∙ append_assoc front page1 b ∙ ap (λ x. front ++ x) q ∙ sym (append_assoc front front1 rest)

-- a whole text, and then what comes of the next
pub writes_then : {a b : List ℕ} {o0 o1 o2 : Output} {u : Unit {0}} {r : Result (Unit {0}) Failed} → Writes a o0 o1 (Ok u) → Writes b o1 o2 r → Writes (a ++ b) o0 o2 r
writes_then {a = a} {b = b} {o0 = o0} {o1 = o1} {o2 = o2} {r = Ok v} p q = record {
  whole = (
    p.whole.0 ++ q.whole.0,
    q.whole.1 ∙ ap (λ t. with_bytes t q.whole.0) p.whole.1 ∙ with_bytes-append o0.1.told p.whole.0 q.whole.0,
    joined o0.0 a b p.whole.0 o1.0 q.whole.0 o2.0 p.whole.2 q.whole.2,
  );
  prefix = tt;
  later = omega (arith, p.later, q.later);
  cause = tt;
}
writes_then {a = a} {b = b} {o0 = o0} {o1 = o1} {o2 = o2} {r = Err e} p q = record {
  whole = tt;
  prefix = (
    p.whole.0 ++ q.prefix.0,
    q.prefix.1,
    joined o0.0 a b p.whole.0 o1.0 q.prefix.0 q.prefix.1 p.whole.2 q.prefix.2,
    q.prefix.3 ∙ ap (λ t. with_bytes t q.prefix.0) p.whole.1 ∙ with_bytes-append o0.1.told p.whole.0 q.prefix.0,
  );
  later = omega (arith, p.later, q.later);
  cause = omega (arith, p.later, q.cause);
}

-- a text that was cut short, whatever was to come
pub writes_stop : (a b : List ℕ) {o0 o1 : Output} {e e2 : Failed} → Writes a o0 o1 (Err e) → Writes (a ++ b) o0 o1 (Err e2)
writes_stop a b {o0 = o0} p = record {
  whole = tt;
  prefix = (
    p.prefix.0,
    p.prefix.1 ++ b,
    sym (append_assoc o0.0 a b) ∙ ap (λ x. x ++ b) p.prefix.2 ∙ append_assoc p.prefix.0 p.prefix.1 b,
    p.prefix.3,
  );
  later = p.later;
  cause = p.cause;
}

-- the same text, told otherwise
pub writes_as : {a b : List ℕ} {o0 o1 : Output} {r : Result (Unit {0}) Failed} → a ≡ b → Writes b o0 o1 r → Writes a o0 o1 r
writes_as {o0 = o0} {o1 = o1} {r = r} same p = subst (λ (text : List ℕ). Writes text o0 o1 r) (sym same) p

-- nothing was written
pub writes_nothing : {o : Output} {u : Unit {0}} → Writes [] o o (Ok u)
writes_nothing {o = o} = record {
  whole = ([], sym (with_bytes-nil o.1.told), append-nil o.0);
  prefix = tt;
  later = omega arith;
  cause = tt;
}

-- What comes of the rest, comes of the whole.
abbrev pub Completes : List ℕ → List ℕ → Output → Output → Type 0
Completes rest whole o0 o = (o2 : Output) (r : Result (Unit {0}) Failed) → Writes rest o o2 r → Writes whole o0 o2 r

pub completes_more : (a rest more whole : List ℕ) {o0 o o1 : Output} {u : Unit {0}} → rest ≡ a ++ more → Completes rest whole o0 o → Writes a o o1 (Ok u) → Completes more whole o0 o1
completes_more a rest more whole is so_far p = λ o2 r q. so_far o2 r (rw is (writes_then p q))

pub completes_stop : (a rest more whole : List ℕ) {o0 o o1 : Output} {e e2 : Failed} → rest ≡ a ++ more → Completes rest whole o0 o → Writes a o o1 (Err e) → Writes whole o0 o1 (Err e2)
completes_stop a rest more whole is so_far p = so_far _ _ (rw is (writes_stop _ _ p))

pub completes_end : (rest whole : List ℕ) {o0 o : Output} {u : Unit {0}} → rest ≡ [] → Completes rest whole o0 o → Writes whole o0 o (Ok u)
completes_end rest whole is so_far = so_far _ _ (rw is writes_nothing)

-- Of a list of items, what comes of those from a place on, comes of all.
abbrev pub WritesRest : {A : Type 0} → (A → List ℕ) → List A → ℕ → Output → Output → Type 0
WritesRest each items place o0 o = Completes (flat_map each (drop place items)) (flat_map each items) o0 o

pub item_goes_on : {A : Type 0} (each : A → List ℕ) (items : List A) (place : ℕ) (x : A) {o0 o o1 : Output} {u : Unit {0}} → x ≡ get_or items place x → place < length items → WritesRest each items place o0 o → Writes (each x) o o1 (Ok u) → WritesRest each items (place + 1) o0 o1
item_goes_on each items place x is lt rest p = λ o2 r q.
    rest o2 r (rw (drop-cons items place x lt, ← is) (writes_then p (rw add-one at q)))

pub item_stops : {A : Type 0} (each : A → List ℕ) (items : List A) (place : ℕ) (x : A) {o0 o o1 : Output} {e e2 : Failed} → x ≡ get_or items place x → place < length items → WritesRest each items place o0 o → Writes (each x) o o1 (Err e) → Writes (flat_map each items) o0 o1 (Err e2)
item_stops each items place x is lt rest p =
    rest _ _ (rw (drop-cons items place x lt, ← is) (writes_stop _ _ p))

pub copy_goes_on : {A : Type 0} (each : A → List ℕ) (items : List A) (place : ℕ) (d : A) {o0 o o1 : Output} {u : Unit {0}} → place < length items → WritesRest each items place o0 o → Writes (each (get_or items place d)) o o1 (Ok u) → WritesRest each items (place + 1) o0 o1
copy_goes_on each items place d lt rest p = λ o2 r q.
    rest o2 r (rw (drop-cons items place d lt) (writes_then p (rw add-one at q)))

pub copy_stops : {A : Type 0} (each : A → List ℕ) (items : List A) (place : ℕ) (d : A) {o0 o o1 : Output} {e e2 : Failed} → place < length items → WritesRest each items place o0 o → Writes (each (get_or items place d)) o o1 (Err e) → Writes (flat_map each items) o0 o1 (Err e2)
copy_stops each items place d lt rest p =
    rest _ _ (rw (drop-cons items place d lt) (writes_stop _ _ p))

pub items_end : {A : Type 0} (each : A → List ℕ) (items : List A) (place : ℕ) {o0 o : Output} {u : Unit {0}} → length items ≤ place → WritesRest each items place o0 o → Writes (flat_map each items) o0 o (Ok u)
items_end each items place le rest = rest _ _ (rw (drop_all place items le) writes_nothing)

-- bytes for which the page has room
pub stays_on_page : (text : List ℕ) {page : List ℕ} {sink : SinkState} {u : Unit {0}}
    → Writes text (page, sink) (page ++ text, sink) (Ok u)
stays_on_page text {sink = sink} = record {
  whole = ([], sym (with_bytes-nil sink.told), refl);
  prefix = tt;
  later = omega arith;
  cause = tt;
}

-- the page went to the sink
pub page_put : {page : List ℕ} {s0 s1 : SinkState} {u : Unit {0}}
    → Puts page s0 s1 (Ok u) → Writes [] (page, s0) ([], s1) (Ok u)
page_put {page = page} p = record {
  whole = (page, p.whole, refl);
  prefix = tt;
  later = p.later;
  cause = tt;
}

-- the page didn't go to the sink
pub page_not_put : (text page1 : List ℕ) {page : List ℕ} {s0 s1 : SinkState} {e e2 : Failed}
    → Puts page s0 s1 (Err e) → Writes text (page, s0) (page1, s1) (Err e2)
page_not_put text page1 p = record {
  whole = tt;
  prefix = (
    p.prefix.0,
    p.prefix.1 ++ text,
    ap (λ x. x ++ text) p.prefix.2 ∙ append_assoc p.prefix.0 p.prefix.1 text,
    p.prefix.3,
  );
  later = p.later;
  cause = p.cause;
}

-- what was written on an empty page, once the page went to the sink
puts_page : {text page : List ℕ} {s0 s1 s2 : SinkState} {u : Unit {0}} {r : Result (Unit {0}) Failed}
    → Writes text ([], s0) (page, s1) (Ok u) → Puts page s1 s2 r → Puts text s0 s2 r
puts_page {page = page} {s0 = s0} {r = Ok v} p q = record {
  whole = q.whole
      ∙ ap (λ t. with_bytes t page) p.whole.1
      ∙ with_bytes-append s0.told p.whole.0 page
      ∙ ap (λ x. with_bytes s0.told x) (sym p.whole.2);
  prefix = tt;
  later = omega (arith, p.later, q.later);
  cause = tt;
}
puts_page {s0 = s0} {r = Err e} p q = record {
  whole = tt;
  prefix = (
    p.whole.0 ++ q.prefix.0,
    q.prefix.1,
    p.whole.2 ∙ ap (λ x. p.whole.0 ++ x) q.prefix.2 ∙ sym (append_assoc p.whole.0 q.prefix.0 q.prefix.1),
    q.prefix.3
        ∙ ap (λ t. with_bytes t q.prefix.0) p.whole.1
        ∙ with_bytes-append s0.told p.whole.0 q.prefix.0,
  );
  later = omega (arith, p.later, q.later);
  cause = omega (arith, p.later, q.cause);
}

-- a text that was cut short on the way
puts_stopped : {text page : List ℕ} {s0 s1 : SinkState} {e e2 : Failed}
    → Writes text ([], s0) (page, s1) (Err e) → Puts text s0 s1 (Err e2)
puts_stopped p = record { whole = tt; prefix = p.prefix; later = p.later; cause = p.cause }

pub puts_new_page : {start text page : List ℕ} {s0 s1 s2 : SinkState} {u : Unit {0}} {r : Result (Unit {0}) Failed}
    → start ≡ [] → Writes text (start, s0) (page, s1) (Ok u) → Puts page s1 s2 r → Puts text s0 s2 r
puts_new_page is p q = puts_page (rw is at p) q

pub puts_new_page_stopped : {start text page : List ℕ} {s0 s1 : SinkState} {e e2 : Failed}
    → start ≡ [] → Writes text (start, s0) (page, s1) (Err e) → Puts text s0 s1 (Err e2)
puts_new_page_stopped is p = puts_stopped (rw is at p)

pub byte_first : (bytes : List ℕ) (place : ℕ) → place < length bytes → drop place bytes ≡ (get_or bytes place 0 ∷ []) ++ drop (place + 1) bytes
byte_first bytes place lt = rw (add-one, drop-cons bytes place 0 lt) refl

-- what each item gives behind a space
pub flat_map-spaced : (pieces : List Piece) → flat_map spaced_piece pieces ≡ flat_map after_space (piece_texts pieces)
flat_map-spaced [] = refl
flat_map-spaced (piece ∷ pieces) = ap (λ x. spaced_piece piece ++ x) (flat_map-spaced pieces)

pub spaced-pieces : (pieces : List Piece) (first : Piece) (rest : List Piece) → pieces ≡ first ∷ rest → spaced (piece_texts pieces) ≡ piece_text first ++ flat_map spaced_piece rest
unfolding spaced
spaced-pieces pieces first rest is = rw is (ap (λ x. piece_text first ++ x) (sym (flat_map-spaced rest)))

pub spaced-none : (pieces : List Piece) → length pieces ≡ 0 → spaced (piece_texts pieces) ≡ []
unfolding spaced
spaced-none [] none = refl
spaced-none (piece ∷ pieces) none = absurd (omega arith)

pub completes_same : (rest more whole : List ℕ) {o0 o : Output} → rest ≡ more → Completes rest whole o0 o → Completes more whole o0 o
completes_same rest more whole is so_far = λ o2 r q. so_far o2 r (rw is q)

-- units written by whether all are printable are shown
pub shown_so : (units : List ℕ) (plain : Bool) (before now : Output) (r : Result (Unit {0}) Failed) → plain ≡ list_all is_printable units
    → Writes (flat_map (shown_unit plain) units) before now r → Writes (shown units) before now r
shown_so units plain before now r e h = subst (λ (p : Bool). Writes (flat_map (shown_unit p) units) before now r) e h
