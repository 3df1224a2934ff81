-- The n-th entry that passes, and how many there are, after an entry more.
use Rattle.std.proofs.Common.{◌≡◌, ◌≢◌, refl, ◌∙◌, ℕ, ◌+◌, ◌<◌, ◌≤◌, Bool, true, false, ◌&&◌, [], ◌∷◌, Some, None, is_some, arith, ◌==◌}
use Rattle.std.proofs.Common.{eq-eqb}
use Rattle.jx_base.specs.declared.act.Entry.{Entry}
use Rattle.jx_base.specs.Histories.{Past, nth_entry, count_where}
use Rattle.jx_base.proofs.BasicLaws.{pick_true, pick_false}

-- one that passes gets the next number
pub nth_new : (p : Entry → Bool) (e : Entry) (past : Past) (n : ℕ) → p e ≡ true
    → n ≡ count_where p past + 1 → nth_entry p (e ∷ past) n ≡ Some e
unfolding nth_entry
nth_new p e past n h i =
    pick_true (p e && (n == count_where p past + 1)) (Some e) (nth_entry p past n) (rw h (eq-eqb n (count_where p past + 1) i))

-- what has a number keeps it, and what has none above the next one
pub nth_old : (p : Entry → Bool) (e : Entry) (past : Past) (n : ℕ) → n ≢ count_where p past + 1
    → nth_entry p (e ∷ past) n ≡ nth_entry p past n
unfolding nth_entry
nth_old p e past n h = grind arith

-- one that doesn't pass changes no number
pub nth_same : (p : Entry → Bool) (e : Entry) (past : Past) (n : ℕ) → p e ≡ false
    → nth_entry p (e ∷ past) n ≡ nth_entry p past n
unfolding nth_entry
nth_same p e past n h = pick_false (p e && (n == count_where p past + 1)) (Some e) (nth_entry p past n) (rw h refl)

pub count_new : (p : Entry → Bool) (e : Entry) (past : Past) → p e ≡ true
    → count_where p (e ∷ past) ≡ count_where p past + 1
unfolding count_where
count_new p e past h = rw h refl

pub count_same : (p : Entry → Bool) (e : Entry) (past : Past) → p e ≡ false
    → count_where p (e ∷ past) ≡ count_where p past
unfolding count_where
count_same p e past h = rw h (omega arith)

pub count_grows : (p : Entry → Bool) (e : Entry) (past : Past)
    → count_where p past ≤ count_where p (e ∷ past)
unfolding count_where
count_grows p e past = omega arith

-- none above the last
pub nth_none : (p : Entry → Bool) (past : Past) (n : ℕ) → count_where p past < n
    → nth_entry p past n ≡ None
unfolding nth_entry count_where
nth_none p [] n h = refl
nth_none p (e ∷ past) n h = grind (arith, nth_none p past n)

pub nth_passes : (p : Entry → Bool) (past : Past) (n : ℕ) (e : Entry) → nth_entry p past n ≡ Some e
    → (p e ≡ true) × (1 ≤ n) × (n ≤ count_where p past)
unfolding nth_entry count_where
nth_passes p [] n e h = cc
nth_passes p (x ∷ past) n e h = grind (arith, nth_passes p past n e)

pub nth_there : (p : Entry → Bool) (past : Past) (n : ℕ) → 1 ≤ n → n ≤ count_where p past
    → is_some (nth_entry p past n) ≡ true
unfolding nth_entry count_where
nth_there p [] n l u = absurd (omega (arith, l, u))
nth_there p (x ∷ past) n l u = grind (arith, nth_there p past n)

-- what has a number keeps it
pub nth_stays : (p : Entry → Bool) (e : Entry) (past : Past) (n : ℕ) (x : Entry)
    → nth_entry p past n ≡ Some x → nth_entry p (e ∷ past) n ≡ Some x
nth_stays p e past n x h = let k = nth_passes p past n x h in nth_old p e past n (λ q. omega (arith, k.2, q)) ∙ h
