-- Walks that lead nowhere with fewer steps either.
use Rattle.std.proofs.Common.{◌≡◌, ◌≢◌, refl, sym, ◌∙◌, ap, ℕ, zero, suc, ◌-◌, ◌≤◌, Bool, true, false, ◌||◌, List, [], ◌∷◌, length, get_or, Option, Some, None, arith, map, min, nat_lt, replicate, set, slice_get, slice_set, ◌==◌, true≢false}
use Rattle.std.specs.List.{flat_map}
use Rattle.std.proofs.lemmas.Bool.{ltb-true, ltb-false}
use Rattle.std.proofs.lemmas.Bool.Decides.{nat_tests}
use Rattle.std.proofs.lemmas.List.{get_or-set_same, get_or-set_other, set_past}
use Rattle.jx_base.specs.declared.program.Class.{Class}
use Rattle.jx_base.specs.declared.program.System.{System}
use Rattle.jx_base.specs.Basics.{contains_number}
use Rattle.program_model.specs.Lookup.{supers_within, parent_list}
use Rattle.program_types.specs.Vain.{AreVain}
use Rattle.program_types.proofs.ClassSteps.{contains_append, one_reaches, reaches_by, reaches_none, reaches_nowhere}

-- ---- more steps

or_more : (a b c d : Bool) → (a ≡ true → b ≡ true) → (c ≡ true → d ≡ true) → (a || c) ≡ true → (b || d) ≡ true
or_more true b c d f g e = ap (λ (t : Bool). t || d) (f refl)
or_more false true c d f g e = refl
or_more false false c d f g e = g e

module _ (s : System) (above : ℕ) where
  -- whether so many steps lead to the class that is sought
  abbrev leads : ℕ → ℕ → Bool
  leads k c = contains_number (supers_within s k c) above

  one_more : (j k : ℕ) → ((d : ℕ) → leads j d ≡ true → leads k d ≡ true) → (cs : List ℕ) → one_reaches s j cs above ≡ true → one_reaches s k cs above ≡ true
  one_more j k more [] e = e
  one_more j k more (d ∷ cs) e =
      contains_append (supers_within s k d) (flat_map (supers_within s k) cs) above
      ∙ or_more (leads j d) (leads k d) (one_reaches s j cs above) (one_reaches s k cs above) (more d) (one_more j k more cs)
      (sym (contains_append (supers_within s j d) (flat_map (supers_within s j) cs) above) ∙ e)

  -- one step more at the front
  step_more : (j k c : ℕ) → ((d : ℕ) → leads j d ≡ true → leads k d ≡ true) → leads (suc j) c ≡ true → leads (suc k) c ≡ true
  step_more j k c more h = by (slice_get s.program.classes c) refl
    where
      one_less : (n : ℕ) → suc n - 1 ≡ n
      one_less n = omega arith

      further : (d : ℕ) → leads (suc j - 1) d ≡ true → leads (suc k - 1) d ≡ true
      further d g = ap (λ n. leads n d) (one_less k) ∙ more d (ap (λ n. leads n d) (sym (one_less j)) ∙ g)

      along : (cs : List ℕ) → one_reaches s (suc j - 1) cs above ≡ true → one_reaches s (suc k - 1) cs above ≡ true
      along cs = one_more (suc j - 1) (suc k - 1) further cs

      by : (o : Option Class) → slice_get s.program.classes c ≡ o → leads (suc k) c ≡ true
      by None e = absurd (true≢false (sym h ∙ reaches_nowhere s (suc j) c above e))
      by (Some x) e =
          let interfaces = map (λ i. i.0) x.interfaces in let parents = parent_list x.parent in
          reaches_by s (suc k) c above x (omega arith) e
          ∙ or_more (c == above) (c == above)
          (one_reaches s (suc j - 1) interfaces above || one_reaches s (suc j - 1) parents above) (one_reaches s (suc k - 1) interfaces above || one_reaches s (suc k - 1) parents above)
          (λ t. t)
          (or_more (one_reaches s (suc j - 1) interfaces above) (one_reaches s (suc k - 1) interfaces above) (one_reaches s (suc j - 1) parents above) (one_reaches s (suc k - 1) parents above)
          (along interfaces) (along parents))
          (sym (reaches_by s (suc j) c above x (omega arith) e) ∙ h)

  more_steps : (j k c : ℕ) → j ≤ k → leads j c ≡ true → leads k c ≡ true
  more_steps zero k c le h = absurd (true≢false (sym h ∙ reaches_none s zero c above refl))
  more_steps (suc j) zero c le h = absurd (omega (arith, le))
  more_steps (suc j) (suc k) c le h = step_more j k c (λ d g. more_steps j k d (omega (arith, le)) g) h

  fewer_steps : (j k c : ℕ) → j ≤ k → leads k c ≡ false → leads j c ≡ false
  fewer_steps j k c le h = by (leads j c) refl
    where
      by : (b : Bool) → leads j c ≡ b → leads j c ≡ false
      by true e = absurd (true≢false (sym (more_steps j k c le e) ∙ h))
      by false e = e

  -- ---- notes

  -- as few steps as are noted were in vain
  pub in_vain : (notes : List ℕ) (steps c : ℕ) → AreVain s above notes → steps ≤ get_or notes c 0 → leads steps c ≡ false
  in_vain notes steps c vain le = fewer_steps steps (get_or notes c 0) c le (vain c)

  -- steps in vain can be noted, or fewer
  pub noted_too : (notes : List ℕ) (steps c : ℕ) → AreVain s above notes → leads steps c ≡ false → AreVain s above (slice_set notes c (min steps 65535))
  noted_too notes steps c vain h d = by (nat_lt c (length notes)) refl (d == c) refl
    where
      fewer : min steps 65535 ≤ steps
      fewer = omega arith

      by : (b : Bool) → nat_lt c (length notes) ≡ b → (t : Bool) → (d == c) ≡ t → leads (get_or (slice_set notes c (min steps 65535)) d 0) d ≡ false
      by false p t q = ap (λ ns. leads (get_or ns d 0) d) (set_past notes c (min steps 65535) (ltb-false c (length notes) p)) ∙ vain d
      by true p true q =
          let same : d ≡ c = grind (arith, nat_tests) in
          let at : get_or (set notes c (min steps 65535)) d 0 ≡ min steps 65535 =
          ap (λ e. get_or (set notes c (min steps 65535)) e 0) same ∙ get_or-set_same notes c (min steps 65535) 0 (ltb-true c (length notes) p) in
          ap (λ n. leads n d) at ∙ ap (leads (min steps 65535)) same ∙ fewer_steps (min steps 65535) steps c fewer h
      by true p false q =
          let other : d ≢ c = λ e. absurd (grind (arith, nat_tests)) in
          ap (λ n. leads n d) (get_or-set_other notes c d (min steps 65535) 0 other) ∙ vain d

  all_alike : (n c x : ℕ) → get_or (replicate n x) c x ≡ x
  all_alike zero c x = refl
  all_alike (suc n) zero x = refl
  all_alike (suc n) (suc c) x = all_alike n c x

  -- where nothing is noted, nothing is wrong
  pub none_noted : (n : ℕ) → AreVain s above (replicate n 0)
  none_noted n c = reaches_none s (get_or (replicate n 0) c 0) c above (all_alike n c 0)
