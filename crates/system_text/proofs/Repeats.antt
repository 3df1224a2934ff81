-- Texts that stand twice.
use Rattle.std.proofs.Common.{◌≡◌, ◌∙◌, ◌<◌, ◌+◌, refl, sym, ap, ℕ, Bool, true, false, List, [], ◌∷◌, map, length, take, drop, get_or, Some, Bor}
use Rattle.std.specs.Prelude.{reverse}
use Rattle.std.specs.List.{list_any}
use Rattle.std.specs.Str.{bytes_eq}
use Rattle.std.proofs.lemmas.List.{take_more, drop_more, map-append, reverse-append}
use Rattle.std.proofs.lemmas.List.Sorted.{list_any-IsPermutation, IsPermutation-reverse}
use Rattle.system_text.specs.Keys.{has_text, repeated_after}
use Rattle.system_text.specs.Scan.{texts_at}

pub list_any-map : {X Y : Type 0} (p : X → Bool) (h : Y → X) (ys : List Y) → list_any p (map h ys) ≡ list_any (λ y. p (h y)) ys
list_any-map p h [] = refl
list_any-map p h (y ∷ ys) = rw (list_any-map p h ys)

pub has_text-reverse : (texts : List (List ℕ)) (text : List ℕ) → has_text (reverse texts) text ≡ has_text texts text
unfolding has_text
has_text-reverse texts text = sym (list_any-IsPermutation (bytes_eq text) texts (reverse texts) (IsPermutation-reverse texts))

pub seen_again : (seen : List (List ℕ)) (text : List ℕ) (texts : List (List ℕ)) → has_text seen text ≡ true → repeated_after seen (text ∷ texts) ≡ Some text
unfolding repeated_after
seen_again seen text texts e = rw (e) refl

pub not_seen : (seen : List (List ℕ)) (text : List ℕ) (texts : List (List ℕ)) → has_text seen text ≡ false
    → repeated_after seen (text ∷ texts) ≡ repeated_after (text ∷ seen) texts
unfolding repeated_after
not_seen seen text texts e = rw (e) refl

abbrev seen_before : List (Bor (List ℕ)) → ℕ → List (List ℕ)
seen_before texts i = reverse (texts_at (take i texts))

pub repeated_here : (texts : List (Bor (List ℕ))) (i : ℕ) (d : Bor (List ℕ)) → i < length texts
    → has_text (texts_at (take i texts)) (get_or texts i d).now ≡ true
    → repeated_after (seen_before texts i) (texts_at (drop i texts)) ≡ Some (get_or texts i d).now
repeated_here texts i d lt e =
    ap (λ ts. repeated_after (seen_before texts i) (texts_at ts)) (drop_more texts i d lt)
    ∙ seen_again _ _ _ (has_text-reverse (texts_at (take i texts)) _ ∙ e)

seen_more : (texts : List (Bor (List ℕ))) (i : ℕ) (d : Bor (List ℕ)) → i < length texts
    → seen_before texts (i + 1) ≡ (get_or texts i d).now ∷ seen_before texts i
seen_more texts i d lt =
    ap (λ ts. reverse (texts_at ts)) (take_more texts i d lt)
    ∙ (ap reverse (map-append (λ t. t.now) (take i texts) (get_or texts i d ∷ []))
    ∙ reverse-append (texts_at (take i texts)) ((get_or texts i d).now ∷ []))

pub repeated_later : (texts : List (Bor (List ℕ))) (i : ℕ) (d : Bor (List ℕ)) → i < length texts
    → has_text (texts_at (take i texts)) (get_or texts i d).now ≡ false
    → repeated_after (seen_before texts (i + 1)) (texts_at (drop (i + 1) texts)) ≡ repeated_after (seen_before texts i) (texts_at (drop i texts))
repeated_later texts i d lt e =
    ap (λ seen. repeated_after seen (texts_at (drop (i + 1) texts))) (seen_more texts i d lt)
    ∙ sym (
    ap (λ ts. repeated_after (seen_before texts i) (texts_at ts)) (drop_more texts i d lt)
    ∙ not_seen _ _ _ (has_text-reverse (texts_at (take i texts)) _ ∙ e)
    )
