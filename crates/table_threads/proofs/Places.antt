-- The places in the history of the entries that queued a call and that answered it: there they are read.
use Rattle.std.proofs.Common.{if◌then◌else◌, ◌≡◌, refl, sym, ◌∙◌, ap, ℕ, ◌+◌, ◌<◌, ◌≤◌, Bool, true, false, ◌&&◌, List, [], ◌∷◌, ◌++◌, length, reverse, Option, Some, None, is_some, arith, ◌==◌, slice_get}
use Rattle.std.proofs.lemmas.List.{length-reverse, reverse-append}
use Rattle.jx_base.specs.declared.act.Entry.{Entry}
use Rattle.jx_base.specs.Histories.{Past, nth_entry, count_where}
use Rattle.jx_model.specs.Calls.{Answer, answer_of, answered_by, call_entry, first_since}
use Rattle.jx_model.specs.Tables.{place_of, answered_at}
use Rattle.jx_base.proofs.BasicLaws.{ap2, get_left, get_right}
use Rattle.table_threads.proofs.Records.{is_that, not_that}
use Rattle.std.specs.Option.{option_and_then, option_map, option_or}

-- a place is one of the history's
pub place_within : (p : Entry → Bool) (past : Past) (n i : ℕ) → place_of p past n ≡ Some i → i < length past
unfolding place_of
place_within p [] n i h = cc
place_within p (e ∷ past) n i h = by (p e && (n == count_where p past + 1)) h (place_within p past n i)
  where
    by : (b : Bool) → (elim b as (λ _. Option ℕ) [ true ↦ Some (length past) | false ↦ place_of p past n ]) ≡ Some i → (place_of p past n ≡ Some i → i < length past) → i < length (e ∷ past)
    by true h again = let q : length past ≡ i = cc in omega (arith, q)
    by false h again = omega (arith, again h)

-- the entry at that place of the history is the n-th that passes
pub entry_at_place : (p : Entry → Bool) (past : Past) (n : ℕ) → nth_entry p past n ≡ option_and_then (λ i. slice_get (reverse past) i) (place_of p past n)
unfolding nth_entry place_of
entry_at_place p [] n = refl
entry_at_place p (e ∷ past) n =
    by (p e && (n == count_where p past + 1)) (entry_at_place p past n)
    ∙ ap (λ (xs : List Entry). option_and_then (λ i. slice_get xs i) (place_of p (e ∷ past) n)) (sym (reverse-append (e ∷ []) past))
  where
    last : Some e ≡ slice_get (reverse past ++ e ∷ []) (length past)
    last = sym (get_right (reverse past) (e ∷ []) 0 (length past) (omega (arith, length-reverse past)))

    earlier : (o : Option ℕ) → place_of p past n ≡ o → option_and_then (λ i. slice_get (reverse past) i) o ≡ option_and_then (λ i. slice_get (reverse past ++ e ∷ []) i) o
    earlier None q = refl
    earlier (Some i) q = sym (get_left (reverse past) (e ∷ []) i (omega (arith, length-reverse past, place_within p past n i q)))

    by : (b : Bool) → nth_entry p past n ≡ option_and_then (λ i. slice_get (reverse past) i) (place_of p past n) →
        (elim b as (λ _. Option Entry) [ true ↦ Some e | false ↦ nth_entry p past n ])
        ≡ option_and_then (λ i. slice_get (reverse past ++ e ∷ []) i) (elim b as (λ _. Option ℕ) [ true ↦ Some (length past) | false ↦ place_of p past n ])
    by true again = last
    by false again = again ∙ earlier (place_of p past n) refl

-- ---- places as the history grows

-- the place of an old entry stays
pub place_old : (p : Entry → Bool) (e : Entry) (past : Past) (n : ℕ) → n ≤ count_where p past → place_of p (e ∷ past) n ≡ place_of p past n
unfolding place_of
place_old p e past n l = by (p e) (count_where p past) l
  where
    by : (b : Bool) (k : ℕ) → n ≤ k → (elim (b && (n == k + 1)) as (λ _. Option ℕ) [ true ↦ Some (length past) | false ↦ place_of p past n ]) ≡ place_of p past n
    by false k l = refl
    by true k l = ap (λ (c : Bool). elim c as (λ _. Option ℕ) [ true ↦ Some (length past) | false ↦ place_of p past n ]) (not_that n (k + 1) (λ q. omega (arith, q, l)))

-- the place of the entry that is the next of them
pub place_new : (p : Entry → Bool) (e : Entry) (past : Past) → p e ≡ true → place_of p (e ∷ past) (count_where p past + 1) ≡ Some (length past)
unfolding place_of
place_new p e past h = ap2 (λ (b c : Bool). elim (b && c) as (λ _. Option ℕ) [ true ↦ Some (length past) | false ↦ place_of p past (count_where p past + 1) ]) h (is_that (count_where p past + 1) (count_where p past + 1) refl)

-- ---- the place of an answer

-- a call has a place of its answer exactly where it has an answer
pub answered_placed : (past : Past) (c : ℕ) → is_some (answered_at past c) ≡ is_some (answer_of past c)
unfolding answered_at answer_of first_since
answered_placed [] c = refl
answered_placed (e ∷ past) c = by (answer_of past c) (answered_at past c) (is_some (call_entry past c)) (answered_by past e c) (answered_placed past c)
  where
    by : (o : Option Answer) (w : Option ℕ) (m : Bool) (x : Option Answer) → is_some w ≡ is_some o →
        is_some (option_or w (if m then option_map (λ a. length past) x else None))
        ≡ is_some (option_or o (if m then x else None))
    by (Some a) (Some i) m x h = refl
    by (Some a) None m x h = cc
    by None (Some i) m x h = cc
    by None None false x h = refl
    by None None true None h = refl
    by None None true (Some a) h = refl

-- the entry at the place of a call's answer gives that answer
pub record AnsweredThere (past : Past) (c i : ℕ) : Type 0 where
  pub entry : Entry
  pub before : Past
  pub there : slice_get (reverse past) i ≡ Some entry
  pub within : i < length past
  pub answer : answer_of past c ≡ answered_by before entry c

placed_later : (e : Entry) (past : Past) (c i : ℕ) (a : Answer) → answer_of past c ≡ Some a → AnsweredThere past c i → AnsweredThere (e ∷ past) c i
unfolding answer_of first_since
placed_later e past c i a q h =
    record {
      entry = h.entry;
      before = h.before;
      there = ap (λ (xs : List Entry). slice_get xs i) (reverse-append (e ∷ []) past) ∙ get_left (reverse past) (e ∷ []) i (omega (arith, length-reverse past, h.within)) ∙ h.there;
      within = omega (arith, h.within);
      answer = ap (λ (o : Option Answer). option_or o (if is_some (call_entry past c) then answered_by past e c else None)) q ∙ sym q ∙ h.answer;
    }

-- a call's answer is read at its place
pub answer_at_place : (past : Past) (c i : ℕ) → answered_at past c ≡ Some i → AnsweredThere past c i
unfolding answered_at answer_of first_since
answer_at_place [] c i h = cc
answer_at_place (e ∷ past) c i h =
    by (answered_at past c) refl (answer_of past c) refl (is_some (call_entry past c)) refl (answered_by past e c) refl (answered_placed past c) h (answer_at_place past c)
  where
    same : (j : ℕ) → Some j ≡ Some i → j ≡ i
    same j q = cc

    by : (w : Option ℕ) → answered_at past c ≡ w → (o : Option Answer) → answer_of past c ≡ o → (m : Bool) → is_some (call_entry past c) ≡ m → (x : Option Answer) → answered_by past e c ≡ x →
        is_some (answered_at past c) ≡ is_some (answer_of past c) →
        (option_or w (if m then option_map (λ a. length past) x else None)) ≡ Some i →
        ((j : ℕ) → answered_at past c ≡ Some j → AnsweredThere past c j) → AnsweredThere (e ∷ past) c i
    by (Some j) wq (Some a) oq m mq x xq s h again = placed_later e past c i a oq (again i (wq ∙ h))
    by (Some j) wq None oq m mq x xq s h again = cc
    by None wq (Some a) oq m mq x xq s h again = cc
    by None wq None oq false mq x xq s h again = cc
    by None wq None oq true mq None xq s h again = cc
    by None wq None oq true mq (Some a) xq s h again =
        let q : length past ≡ i = same (length past) h in
        record {
          entry = e;
          before = past;
          there = ap (λ (xs : List Entry). slice_get xs i) (reverse-append (e ∷ []) past) ∙ get_right (reverse past) (e ∷ []) 0 i (omega (arith, length-reverse past, q));
          within = omega (arith, q);
          answer = ap2 (λ (o : Option Answer) (b : Bool). option_or o (if b then answered_by past e c else None)) oq mq;
        }
