-- Grammars: the parts of a text, one behind the other, and the first fault of a text that they do
-- not make up.
use Rattle.std.specs.Prelude.{◌≡◌, ◌≢◌, ℕ, zero, suc, ◌-◌, ◌<◌, ◌≤◌, ◌⊎◌, List, [], ◌∷◌, ◌++◌, length, take, drop, Option, Some, None, Result, Ok, Err, Bool, false, IsTrue, MatchBool, nat_lt, if◌then◌else◌}
use Rattle.std.specs.Int.{Width, byte_len, from_be_bytes}

-- A part of a text.
-- `spells text x rest`: the text begins with the part, which means x, and the rest stands behind.
-- `fails text f`: the text does not begin with the part, and f is the first fault.
-- `reads text`: what reading from left to right gives. By the laws of parts it says the same as
-- the two facts.
pub record Part (A F : Type 0) : Type 1 where
  pub spells : List ℕ → A → List ℕ → Type 0
  pub fails : List ℕ → F → Type 0
  pub reads : List ℕ → Result (A × List ℕ) F

-- what is read next, where reading has not failed
abbrev pub onward : {A B F : Type 0} → Result (A × List ℕ) F → (A → List ℕ → Result B F)
    → Result B F
onward (Ok x) next = next x.0 x.1
onward (Err f) next = Err f

-- what was read before, and what is read now
abbrev pub with_front : {A F : Type 0} → List A → Result (List A × List ℕ) F
    → Result (List A × List ℕ) F
with_front front reading = onward reading (λ xs rest. Ok (front ++ xs, rest))

-- what was read, where nothing is left
abbrev pub to_the_end : {A F : Type 0} → A → List ℕ → F → Result A F
to_the_end x [] f = Ok x
to_the_end x (b ∷ rest) f = Err f

-- ---- putting parts together

-- one part, and behind it one that may depend on what the first one means
infixl 10 ◌>>=◌
abbrev pub ◌>>=◌ : {A B F : Type 0} → Part A F → (A → Part B F) → Part B F
p >>= q = record {
  spells = λ text y rest. (x : _) × (middle : List ℕ) × p.spells text x middle
      × (q x).spells middle y rest;
  fails = λ text f.
      p.fails text f
      ⊎ ((x : _) × (middle : List ℕ) × p.spells text x middle × (q x).fails middle f);
  reads = λ text. onward (p.reads text) (λ x rest. (q x).reads rest);
}

-- one part, and behind it another
infixl 10 ◌>>◌
abbrev pub ◌>>◌ : {A B F : Type 0} → Part A F → Part B F → Part B F
p >> q = p >>= λ x. q

-- one of two parts
abbrev pub either : {A F : Type 0} → Bool → Part A F → Part A F → Part A F
either test p q = record {
  spells = λ text x rest. MatchBool test (p.spells text x rest) (q.spells text x rest);
  fails = λ text f. MatchBool test (p.fails text f) (q.fails text f);
  reads = λ text. if test then p.reads text else q.reads text;
}

-- so many parts; each means a list, and together they mean these lists joined
unfoldable pub repeated : {A F : Type 0} → ℕ → Part (List A) F → Part (List A) F
repeated zero p = record {
  spells = λ text xs rest. (xs ≡ []) × (rest ≡ text);
  fails = λ text f. ⊥;
  reads = λ text. Ok ([], text);
}
repeated (suc n) p = record {
  spells = λ text zs rest.
      (xs ys : List _) × (middle : List ℕ) × p.spells text xs middle
      × (repeated n p).spells middle ys rest × (zs ≡ xs ++ ys);
  fails = λ text f.
      p.fails text f
      ⊎ ((xs : List _) × (middle : List ℕ) × p.spells text xs middle × (repeated n p).fails middle f);
  reads = λ text. onward (p.reads text) (λ xs middle. with_front xs ((repeated n p).reads middle));
}

-- a part that takes up just n bytes
abbrev pub enclosed : {A F : Type 0} → ℕ → F → Part A F → Part A F
enclosed n f p = record {
  spells = λ text x rest. (front : List ℕ) × (length front ≡ n) × (text ≡ front ++ rest)
      × p.spells front x [];
  fails = λ text g.
      ((length text < n) × (g ≡ f))
      ⊎ ((n ≤ length text) × p.fails (take n text) g)
      ⊎ ((n ≤ length text) × (x : _) × (more : List ℕ) × p.spells (take n text) x more
      × (more ≢ []) × (g ≡ f));
  reads = λ text.
      if nat_lt (length text) n then Err f
      else onward (p.reads (take n text)) (λ x more.
      onward (to_the_end (x, drop n text) more f) (λ x rest. Ok (x, rest)));
}

-- ---- parts without bytes

-- nothing, which means x
abbrev pub done : {A F : Type 0} → A → Part A F
done x = record {
  spells = λ text y rest. (y ≡ x) × (rest ≡ text);
  fails = λ text f. ⊥;
  reads = λ text. Ok (x, text);
}

-- what cannot stand here
abbrev pub refused : {A F : Type 0} → F → Part A F
refused f = record {
  spells = λ text y rest. ⊥;
  fails = λ text g. g ≡ f;
  reads = λ text. Err f;
}

-- a demand, and the fault where it is not met
abbrev pub demand : {F : Type 0} → Bool → F → Part (Unit {0}) F
demand test f = record {
  spells = λ text y rest. IsTrue test × (rest ≡ text);
  fails = λ text g. (test ≡ false) × (g ≡ f);
  reads = λ text. if test then Ok (tt, text) else Err f;
}

-- the demand that there is no fault
abbrev pub no_fault : {F : Type 0} → Option F → Part (Unit {0}) F
no_fault fault = record {
  spells = λ text y rest. (fault ≡ None) × (rest ≡ text);
  fails = λ text g. fault ≡ Some g;
  reads = λ text. elim fault [ None ↦ Ok (tt, text) | Some g ↦ Err g ];
}

-- a value that has to be there
abbrev pub known : {A F : Type 0} → Option A → F → Part A F
known value f = record {
  spells = λ text x rest. (value ≡ Some x) × (rest ≡ text);
  fails = λ text g. (value ≡ None) × (g ≡ f);
  reads = λ text. elim value [ None ↦ Err f | Some x ↦ Ok (x, text) ];
}

-- what a text means, where it means something; beside the fact stands what reading it gives
abbrev pub meant : {A F : Type 0} → (A → Type 0) → Option A → F → Part A F
meant means value f = record {
  spells = λ text x rest. means x × (rest ≡ text);
  fails = λ text g. ((x : _) → means x → ⊥) × (g ≡ f);
  reads = λ text. elim value [ None ↦ Err f | Some x ↦ Ok (x, text) ];
}

-- the demand that so many bytes are left
abbrev pub room : {F : Type 0} → ℕ → F → Part (Unit {0}) F
room n f = record {
  spells = λ text y rest. (n ≤ length text) × (rest ≡ text);
  fails = λ text g. (length text < n) × (g ≡ f);
  reads = λ text. if nat_lt (length text) n then Err f else Ok (tt, text);
}

-- the demand that no byte is left
abbrev pub at_end : {F : Type 0} → F → Part (Unit {0}) F
at_end f = record {
  spells = λ text y rest. (text ≡ []) × (rest ≡ text);
  fails = λ text g. (text ≢ []) × (g ≡ f);
  reads = λ text. onward (to_the_end (tt, text) text f) (λ x rest. Ok (x, rest));
}

-- the place where we are, in a text of that size
abbrev pub here : {F : Type 0} → ℕ → Part ℕ F
here size = record {
  spells = λ text place rest. (place ≡ size - length text) × (rest ≡ text);
  fails = λ text f. ⊥;
  reads = λ text. Ok (size - length text, text);
}

-- ---- bytes

-- so many bytes, and the fault where fewer are left
unfoldable pub bytes_of : {F : Type 0} → F → ℕ → Part (List ℕ) F
bytes_of f n = record {
  spells = λ text bytes rest. (length bytes ≡ n) × (text ≡ bytes ++ rest);
  fails = λ text g. (length text < n) × (g ≡ f);
  reads = λ text. if nat_lt (length text) n then Err f else Ok (take n text, drop n text);
}

-- an unsigned number of that width, the highest byte first
unfoldable pub number : {F : Type 0} → F → Width → Part ℕ F
number f w = record {
  spells = λ text n rest. (bytes : List ℕ) × (length bytes ≡ byte_len w) × (text ≡ bytes ++ rest)
      × (n ≡ from_be_bytes w bytes);
  fails = λ text g. (length text < byte_len w) × (g ≡ f);
  reads = λ text.
      if nat_lt (length text) (byte_len w) then Err f
      else Ok (from_be_bytes w (take (byte_len w) text), drop (byte_len w) text);
}

-- what a computed case opens
unfoldable pub opened_parts : Unit {0}
unfolding repeated bytes_of number
opened_parts = tt
