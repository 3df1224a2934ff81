-- What lines without a fault are where they stand.
use Rattle.std.proofs.Common.{◌≡◌, ◌∙◌, refl, ap, ℕ, ◌+◌, ◌≤◌, ◌<◌, List, [], ◌∷◌, ◌++◌, Bool, true, false, Some, None, Option, length, reverse, append_assoc, arith}
use Rattle.std.specs.Prelude.{not, ◌||◌, is_some, nat_lt, filter, if◌then◌else◌}
use Rattle.std.proofs.lemmas.Bool.{ltb-true}
use Rattle.std.proofs.lemmas.List.{reverse-append}
use Rattle.asm_constants.specs.Pools.{fits}
use Rattle.asm_lines.specs.declared.line.AsmKind.{AsmKind}
use Rattle.asm_lines.specs.declared.line.AsmKind.TheVariants as kind
use Rattle.asm_lines.specs.declared.line.Line.{Line}
use Rattle.asm_lines.specs.declared.line.Line.TheVariants as line
use Rattle.asm_bodies.specs.Needs.{pool_of}
use Rattle.asm_bodies.specs.Lines.{count_of, is_implements, is_field, is_member, is_abstract, is_method}
use Rattle.asm_checks.specs.Faults.{own_fault, kind_at, is_in_place, is_over, is_lost, is_twice, has_index_over, is_too_much, counts_after, may_end, end_fault, fault_or, first_fault}
use Rattle.asm_laws.proofs.Counts.{count_first}

-- a line without a fault, behind those
pub record IsSoundLine (past : List Line) (l : Line) : Type 0 where
  pub own : own_fault l ≡ None
  pub placed : is_in_place past l ≡ true
  pub fitting : fits (pool_of (l ∷ past)) ≡ true
  pub within : is_too_much (counts_after past) l ≡ false

-- lines without a fault, behind those, where the text may end
abbrev pub AreSound : List Line → List Line → Type 0
AreSound past [] = may_end past ≡ true
AreSound past (l ∷ after) = IsSoundLine past l × AreSound (l ∷ past) after

-- ---- what no fault says

pub unless : {X : Type 0} (t : Bool) (k : X) (o : Option X) → (if t then Some k else o) ≡ None → (t ≡ false) × (o ≡ None)
unless true k o e = absurd (cc)
unless false k o e = (refl, e)

pub own_none : {X : Type 0} (o p : Option X) → (if is_some o then o else p) ≡ None → (o ≡ None) × (p ≡ None)
own_none None p e = (refl, e)
own_none (Some k) p e = absurd (cc)

pub is_so : (b : Bool) → not b ≡ false → b ≡ true
is_so true e = refl
is_so false e = absurd (cc)

pub neither : (a b : Bool) → (a || b) ≡ false → (a ≡ false) × (b ≡ false)
neither true b e = absurd (cc)
neither false b e = (refl, e)

pub sound_line : (past : List Line) (l : Line) (after : List Line) → kind_at past l after ≡ None → IsSoundLine past l
unfolding kind_at is_over
sound_line past l after e =
    let a = own_none (own_fault l) _ e in
    let b = unless (has_index_over (pool_of (l ∷ past)) l) kind.Operand _ a.1 in
    let c = unless (is_lost past l after) kind.Label _ b.1 in
    let d = unless (is_twice past l) kind.Twice _ c.1 in
    let p = unless (not (is_in_place past l)) kind.Place _ d.1 in
    let q = unless (not (fits (pool_of (l ∷ past))) || is_too_much (counts_after past) l) kind.Limit None p.1 in
    let r = neither (not (fits (pool_of (l ∷ past)))) (is_too_much (counts_after past) l) q.0 in
    record { own = a.0; placed = is_so (is_in_place past l) p.0; fitting = is_so (fits (pool_of (l ∷ past))) r.0; within = r.1 }

pub none_here : (n : ℕ) (o : Option AsmKind) (later : Option (ℕ × AsmKind)) → fault_or n o later ≡ None → (o ≡ None) × (later ≡ None)
unfolding fault_or
none_here n None later e = (refl, e)
none_here n (Some k) later e = absurd (cc)

ended : (b : Bool) (k : AsmKind) → (if b then None else Some k) ≡ None → b ≡ true
ended true k e = refl
ended false k e = absurd (cc)

pub no_fault : (past lines : List Line) → first_fault past lines ≡ None → AreSound past lines
unfolding first_fault end_fault
no_fault past [] e = ended (may_end past) kind.Place (none_here (length past) _ None e).0
no_fault past (l ∷ after) e =
    let k = none_here (length past) (kind_at past l after) (first_fault (l ∷ past) after) e in
    (sound_line past l after k.0, no_fault (l ∷ past) after k.1)

-- ---- limits

pub onto : (l : Line) (lines past : List Line) → reverse (l ∷ lines) ++ past ≡ reverse lines ++ (l ∷ past)
onto l lines past = ap (λ (front : List Line). front ++ past) (reverse-append (l ∷ []) lines) ∙ append_assoc (reverse lines) (l ∷ []) past

pub all_fit : (past lines : List Line) → fits (pool_of past) ≡ true → AreSound past lines → fits (pool_of (reverse lines ++ past)) ≡ true
all_fit past [] h sound = h
all_fit past (l ∷ lines) h sound = ap (λ (ls : List Line). fits (pool_of ls)) (onto l lines past) ∙ all_fit (l ∷ past) lines sound.0.fitting sound.1

-- a test of which a limit says how many lines may pass it
module _ (test : Line → Bool) (limit : (past : List Line) (l : Line) → IsSoundLine past l → test l ≡ true → count_of test past < 65535) where
  few : (past lines : List Line) → count_of test past ≤ 65535 → AreSound past lines → count_of test past + count_of test lines ≤ 65535
  unfolding count_of
  few past [] h sound = omega arith
  few past (l ∷ lines) h sound =
      let c = count_first test l past in
      elim (test l) as (λ b. test l ≡ b → count_of test (l ∷ past) ≡ count_of test past + (if b then 1 else 0) → count_of test past + length (if b then l ∷ filter test lines else filter test lines) ≤ 65535) [
        | true ↦ λ e k.
            let below = limit past l sound.0 e in
            let more = few (l ∷ past) lines (omega arith) sound.1 in omega arith
        | false ↦ λ e k. let more = few (l ∷ past) lines (omega arith) sound.1 in omega arith
      ] refl c

  few_in_all : (lines : List Line) → AreSound [] lines → count_of test lines ≤ 65535
  unfolding count_of
  few_in_all lines sound = let none : count_of test [] ≡ 0 = refl in let k = few [] lines (omega arith) sound in omega arith

fewer : (a b : ℕ) → not (nat_lt a b) ≡ false → a < b
fewer a b e = ltb-true a b (is_so (nat_lt a b) e)

interface_limit : (past : List Line) (l : Line) → IsSoundLine past l → is_implements l ≡ true → count_of is_implements past < 65535
unfolding is_implements is_too_much counts_after
interface_limit past (line.Implements name) s e = fewer _ _ s.within
interface_limit past _ s e = absurd (cc)

field_limit : (past : List Line) (l : Line) → IsSoundLine past l → is_field l ≡ true → count_of is_field past < 65535
unfolding is_field is_too_much counts_after
field_limit past (line.Field m) s e = fewer _ _ s.within
field_limit past _ s e = absurd (cc)

member_limit : (past : List Line) (l : Line) → IsSoundLine past l → is_member l ≡ true → count_of is_member past < 65535
unfolding is_member is_abstract is_method is_too_much counts_after
member_limit past (line.Abstract m) s e = fewer _ _ s.within
member_limit past (line.Method m max_stack max_locals) s e = fewer _ _ s.within
member_limit past _ s e = absurd (cc)

pub few_interfaces : (lines : List Line) → AreSound [] lines → count_of is_implements lines ≤ 65535
few_interfaces lines sound = few_in_all is_implements interface_limit lines sound

pub few_fields : (lines : List Line) → AreSound [] lines → count_of is_field lines ≤ 65535
few_fields lines sound = few_in_all is_field field_limit lines sound

pub few_members : (lines : List Line) → AreSound [] lines → count_of is_member lines ≤ 65535
few_members lines sound = few_in_all is_member member_limit lines sound
