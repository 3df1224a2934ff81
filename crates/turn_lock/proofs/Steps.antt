-- Each step on the table keeps the rule of the lock, and tells what it is to tell.
use Rattle.std.proofs.Common.{◌≡◌, ◌≢◌, ℕ, ◌+◌, ◌%◌, ◌<◌, ◌^◌, inl, inr, false, List, [], ◌∷◌, ◌++◌, Some, None, get_or, set, refl, ap, sym, subst, ◌∙◌, arith, unwrap_or}
use Rattle.std.specs.Prelude as std
use mathlib.Core.Option.{Option, none, some, some-ne-none}
use mathlib.Core.Logic.{dite}
use mathlib.Core.List.{IsPrefix}
use native.Mathlib.Decide.{ℕ_discrete}
use lib.ListN.{get_elem?}
use lib.Seq.{set-get_or}
use Rattle.std.proofs.Math.Nat.{mod-add-mod}
use Rattle.atomic_table.specs.Table.{State, Act, step, keeps, takes, gives, stepped, carried_after, homes_after, Valid, Allows, Splits, Joins, opening}
use Rattle.atomic_table.proofs.Lists.{set_else, set_again, at_longer, one_turn}
use Rattle.jx_base.specs.declared.act.Entry.{Entry}
use Rattle.jx_base.specs.declared.program.System.{System}
use Rattle.jx_base.specs.Births.{IsNumbered}
use Rattle.turn_lock.specs.declared.view.Page.{Page}
use Rattle.turn_lock.specs.declared.view.View.{View}
use Rattle.turn_lock.specs.declared.view.Stage.{Stage}
use Rattle.turn_lock.specs.declared.view.Stage.TheVariants.{Idle, Waiting, Served, Holding}
use Rattle.jx_base.specs.Histories.{is_own, own_entries}
use Rattle.turn_lock.specs.Entries.{last_born, IsMade, Extends}
use Rattle.turn_lock.specs.Views.{first_view, at_stage, served_view, passed_view, left_view, right_view, new_view, joined_view, spent_view}
use Rattle.turn_lock.specs.Steps.{word_modulus, Place, Draws, Looks, MovesOn, Puts, Fetches, PassesOn, Learns}
use Rattle.turn_lock.specs.Rule.{Phase, home, away, bare, PageFits, StageFits, HasTicket, TicketsFit, SlotFits, IsRuled}
use Rattle.turn_lock.proofs.Lists.{prefix_self, set_there}
use Rattle.turn_lock.proofs.Tickets.{seats_stay, seats_more, aside, drawn_by, drawn_by-below, drawn_by-here, after_draw, Held, held_set, one_ticket}
use Rattle.turn_lock.proofs.Pages.{Alike, pages_with, pages_passed, pages_split, pages_join, few}

same_page : (p : Page) → Alike p p
same_page p = (refl, refl, refl, refl)

module _ {T : Type 0} (system : T → System) (entries : T → List Entry) (key : System) where
  abbrev Rule : State (std.Option T) View → Type 0
  Rule = IsRuled system entries key

  -- no word changes where a word is read
  same_words : (s : State (std.Option T) View) (r : Rule s) (i : ℕ) → set s.words i (get_or s.words i 0) ≡ r.drawn % word_modulus ∷ r.served % word_modulus ∷ []
  same_words s r i = set-get_or s.words i 0 ∙ r.words

  -- a step that changes nothing
  unchanged : (s : State (std.Option T) View) (r : Rule s) (i id : ℕ) (v : View) (c : List (ℕ × std.Option T)) → get_elem? s.views id ≡ some v → Rule (stepped s i (get_or s.words i 0) id c v keeps)
  unchanged s r i id v c at = subst (λ (z : List ℕ × List View). Rule record { words = z.0; homes = s.homes; views = z.1 }) (λ k. (sym (set-get_or s.words i 0) k, sym (set_again s.views id v at) k)) r

  pub allows_draw : (slots id : ℕ) (me : Place T) → me.0.stage ≡ Idle → me.0.page.spent ≡ false → Allows Rule slots id me 0 (λ k. (k + 1) % word_modulus) (Draws (step slots 0 1 0 none) me)
  allows_draw slots id me idle live s r _ at _ =
      let w : View = at_stage me.0 (Waiting r.drawn) in let order = r.tickets.order in
      let owner' : ℕ → ℕ = drawn_by r.owner r.drawn id in
      let here : owner' r.drawn ≡ id = drawn_by-here r.owner r.drawn id in
      let waits' : (j : ℕ) (u : View) → get_elem? (set s.views id w) j ≡ some u → StageFits (r.drawn + 1) r.served owner' r.phase r.history j u.page u.stage =
      seats_stay (λ j u. StageFits (r.drawn + 1) r.served owner' r.phase r.history j u.page u.stage) s.views id w
      (here, live, order, omega arith, λ e. r.tickets.quiet e)
      (λ j u _ e. after_draw r.drawn r.served r.owner r.phase r.history id j u.page u.stage (r.tickets.stages j u e)) in
      let held' : Held (r.drawn + 1) r.served owner' (set s.views id w) = λ n le lt. dite (ℕ_discrete n r.drawn)
      (λ e. (w, ap (get_elem? (set s.views id w)) (ap owner' e ∙ here) ∙ set_there s.views id me.0 w at, sym e))
      (λ ne. let below : n < r.drawn = omega arith in
      let old = held_set r.drawn r.served r.served r.owner s.views id me.0 w at (omega arith) (λ m _ _ t. absurd (subst (HasTicket m) idle t)) r.tickets.held n le below in
      (old.0, ap (get_elem? (set s.views id w)) (drawn_by-below r.owner r.drawn id n below) ∙ old.1, old.2)) in (
        w,
        keeps,
        tt,
        record {
          drawn = r.drawn + 1;
          served = r.served;
          owner = owner';
          phase = r.phase;
          history = r.history;
          seat_of = r.seat_of;
          words = ap (λ (ws : List ℕ). set ws 0 ((get_or ws 0 0 + 1) % word_modulus)) r.words ∙ ap (λ (z : ℕ). z ∷ r.served % word_modulus ∷ []) (mod-add-mod r.drawn word_modulus 1);
          slot = r.slot;
          tickets = record { order = omega arith; quiet = λ e. absurd (omega arith); stages = waits'; held = held' };
          pages = pages_with key r.history r.seat_of s.views id me.0 w at (same_page me.0.page) (r.pages.fits id me.0 at live) r.pages;
        },
        (r.drawn, sym (ap (λ (ws : List ℕ). get_or ws 0 0) r.words), refl),
      )

  -- the seat that is served, or looks and is to be, changes its stage, and then the phase is another
  moved : (s : State (std.Option T) View) (r : Rule s) (id : ℕ) (v w : View) (phase : Phase) → get_elem? s.views id ≡ some v → r.owner r.served ≡ id → r.served < r.drawn
      → HasTicket r.served v.stage → HasTicket r.served w.stage → StageFits r.drawn r.served r.owner phase r.history id w.page w.stage
      → TicketsFit r.drawn r.served r.owner phase r.history (set s.views id w)
  moved s r id v w phase at here lt before ticket mine = record {
    order = r.tickets.order;
    quiet = λ e. absurd (omega arith);
    stages = seats_stay (λ j u. StageFits r.drawn r.served r.owner phase r.history j u.page u.stage) s.views id w mine
        (λ j u ne e. aside r.drawn r.served r.served r.owner r.phase phase r.history r.history j u.page (λ is. ne (sym is ∙ here)) (omega arith) (omega arith) (inl refl) u.stage (r.tickets.stages j u e));
    held = held_set r.drawn r.served r.served r.owner s.views id v w at (omega arith) (λ m _ _ t. subst (λ z. HasTicket z w.stage) (one_ticket r.served m v.stage before t) ticket) r.tickets.held;
  }

  -- what a seat knows of itself
  waits_now : (s : State (std.Option T) View) (r : Rule s) (id : ℕ) (v : View) (st : Stage) → get_elem? s.views id ≡ some v → v.stage ≡ st → StageFits r.drawn r.served r.owner r.phase r.history id v.page st
  waits_now s r id v st at is = subst (StageFits r.drawn r.served r.owner r.phase r.history id v.page) is (r.tickets.stages id v at)

  look_served : (slots id n : ℕ) (me : Place T) → me.1 ≡ [] → me.0.stage ≡ Waiting n → (s : State (std.Option T) View) (r : Rule s) → get_elem? s.views id ≡ some me.0 → n ≡ r.served
      → (w : View) × (a : Act (std.Option T)) × Valid s.homes me.1 a × Rule (stepped s 1 (get_or s.words 1 0) id me.1 w a) × Looks system entries (step slots 1 0 0 none) me (get_or s.words 1 0) (w, carried_after me.1 a)
  look_served slots id n me bare_hands waiting s r at now =
      let k = waits_now s r id me.0 (Waiting n) at waiting in
      let is_home : r.phase ≡ home = k.4 now in
      let slot : SlotFits system entries key s.homes r.history home = subst (SlotFits system entries key s.homes r.history) is_home r.slot in
      let x : T = slot.0 in
      let known : PageFits key r.history r.seat_of id me.0.page = r.pages.fits id me.0 at k.1 in
      let h : List Entry = r.history in
      let v : View = me.0 in
      let w : View = served_view v n h in
      let here : r.owner r.served ≡ id = ap r.owner (sym now) ∙ k.0 in
      let lt : r.served < r.drawn = let b = k.3 in omega arith in
      let told : IsPrefix v.page.seen (entries x) = subst (IsPrefix v.page.seen) (sym slot.3) known.seen in
      let mine : own_entries (entries x) v.page.domain ≡ v.page.made = ap (λ (es : List Entry). own_entries es v.page.domain) slot.3 ∙ known.made in
      let rule : Rule (stepped s 1 (get_or s.words 1 0) id me.1 w (takes 0 (Some x))) = record {
        drawn = r.drawn;
        served = r.served;
        owner = r.owner;
        phase = away;
        history = h;
        seat_of = r.seat_of;
        words = same_words s r 1;
        slot = ap (λ (hs : List (Option (std.Option T))). set hs 0 none) slot.1;
        tickets = moved s r id v w away at here lt (subst (HasTicket r.served) (sym waiting) now) now (k.0, refl, now, lt, refl, refl);
        pages = pages_with key h r.seat_of s.views id v w at (refl, refl, refl, sym k.1) record {
          about = known.about;
          seen = prefix_self h;
          made = known.made;
          own = known.made;
          alone = known.alone;
          small = known.small;
          born = known.born;
          join = record { before = prefix_self h; other = prefix_self h; other_own = known.made };
        } r.pages;
      } in
      let tells : Looks system entries (step slots 1 0 0 none) me (get_or s.words 1 0) (w, (0, Some x) ∷ me.1) = λ m is.
      let p : n ≡ m = cc (waiting, is) in let q : h ≡ entries x = sym slot.3 in (
        λ _. (
          x,
          record {
            seat = λ i. (served_view v (p i) (q i), (0, Some x) ∷ bare_hands i);
            about = slot.2 ∙ sym known.about;
            later = told;
            own = mine;
            made = subst (λ (es : List Entry). IsMade es v.page.domain) q known.born;
          },
        ),
        λ ne. absurd (ne (ap (λ (ws : List ℕ). get_or ws 1 0) r.words ∙ ap (λ (z : ℕ). z % word_modulus) (sym now ∙ p))),
      ) in
      (w, takes 0 (Some x), ap (λ (hs : List (Option (std.Option T))). get_elem? hs 0) slot.1, rule, tells)

  pub allows_look : (slots id n : ℕ) (me : Place T) → me.1 ≡ [] → me.0.stage ≡ Waiting n → Allows Rule slots id me 1 (λ k. k) (Looks system entries (step slots 1 0 0 none) me)
  allows_look slots id n me bare_hands waiting s r _ at _ =
      let k = waits_now s r id me.0 (Waiting n) at waiting in
      let found : get_or s.words 1 0 ≡ r.served % word_modulus = ap (λ (ws : List ℕ). get_or ws 1 0) r.words in
      dite (ℕ_discrete n r.served)
      (look_served slots id n me bare_hands waiting s r at)
      (λ ne. let apart : get_or s.words 1 0 ≢ n % word_modulus = λ e. ne (sym (one_turn r.served n word_modulus k.2 (let f = few key r.history r.seat_of r.drawn r.served r.owner r.phase s.views r.tickets r.pages in let lt = k.3 in omega arith) (sym found ∙ e))) in
      (me.0, keeps, tt, unchanged s r 1 id me.0 me.1 at, λ m is. (λ e. absurd (apart (e ∙ ap (λ (z : ℕ). z % word_modulus) (let p : m ≡ n = cc (waiting, is) in p))), λ _. refl)))

  -- the served seat gives the slot back without the value, or takes it again
  moves : (slots id n : ℕ) (v : View) (c c' : List (ℕ × std.Option T)) (a : Act (std.Option T)) (from to : ℕ → Stage) (phase : Phase)
      → v.stage ≡ from n
      → ((s : State (std.Option T) View) (r : Rule s) → StageFits r.drawn r.served r.owner r.phase r.history id v.page (from n) → (r.owner n ≡ id) × (v.page.spent ≡ false) × (n ≡ r.served) × (r.served < r.drawn)
      × HasTicket r.served v.stage × HasTicket r.served (to n) × StageFits r.drawn r.served r.owner phase r.history id v.page (to n)
      × Valid s.homes c a × SlotFits system entries key (homes_after s.homes c a) r.history phase)
      → carried_after c a ≡ c' → ((m : ℕ) → from n ≡ from m → n ≡ m)
      → Allows Rule slots id (v, c) 1 (λ k. k) (λ _ m'. MovesOn from to c' (v, c) m')
  moves slots id n v c c' a from to phase is know then one s r _ at _ =
      let k = know s r (waits_now s r id v (from n) at is) in
      let w : View = at_stage v (to n) in
      let rule : Rule (stepped s 1 (get_or s.words 1 0) id c w a) = record {
        drawn = r.drawn;
        served = r.served;
        owner = r.owner;
        phase = phase;
        history = r.history;
        seat_of = r.seat_of;
        words = same_words s r 1;
        slot = k.8;
        tickets = moved s r id v w phase at (ap r.owner (sym k.2) ∙ k.0) k.3 k.4 k.5 k.6;
        pages = pages_with key r.history r.seat_of s.views id v w at (same_page v.page) (r.pages.fits id v at k.1) r.pages;
      } in
      (w, a, k.7, rule, λ m here. let p : n ≡ m = one m (sym is ∙ here) in λ i. (at_stage v (to (p i)), then i))

  pub allows_put : (slots id n : ℕ) (me : Place T) → me.1 ≡ (0, None) ∷ [] → me.0.stage ≡ Served n → Allows Rule slots id me 1 (λ k. k) (Puts (step slots 1 0 0 none) me)
  allows_put slots id n me has is =
      subst (λ (c : List (ℕ × std.Option T)). Allows Rule slots id (me.0, c) 1 (λ k. k) (Puts (step slots 1 0 0 none) (me.0, c))) (sym has)
      (moves slots id n me.0 ((0, None) ∷ []) [] gives Served Holding bare is (λ s r k.
      let out : s.homes ≡ none ∷ [] = subst (SlotFits system entries key s.homes r.history) k.4 r.slot in
      (k.0, k.1, k.2, k.3, subst (HasTicket r.served) (sym is) k.2, k.2, (k.0, k.1, k.2, k.3, refl, k.5), tt, ap (λ (hs : List (Option (std.Option T))). set hs 0 (some None)) out)) refl (λ m e. cc e))

  pub allows_fetch : (slots id n : ℕ) (me : Place T) → me.1 ≡ [] → me.0.stage ≡ Holding n → Allows Rule slots id me 1 (λ k. k) (Fetches (step slots 1 0 0 none) me)
  allows_fetch slots id n me has is =
      subst (λ (c : List (ℕ × std.Option T)). Allows Rule slots id (me.0, c) 1 (λ k. k) (Fetches (step slots 1 0 0 none) (me.0, c))) (sym has)
      (moves slots id n me.0 [] ((0, None) ∷ []) (takes 0 None) Holding Served away is (λ s r k.
      let in_place : s.homes ≡ some None ∷ [] = subst (SlotFits system entries key s.homes r.history) k.4 r.slot in
      (k.0, k.1, k.2, k.3, subst (HasTicket r.served) (sym is) k.2, k.2, (k.0, k.1, k.2, k.3, refl, k.5), ap (λ (hs : List (Option (std.Option T))). get_elem? hs 0) in_place, ap (λ (hs : List (Option (std.Option T))). set hs 0 none) in_place)) refl (λ m e. cc e))

  pass_on_with : (slots id n : ℕ) (v : View) (x : T) → v.stage ≡ Served n → system x ≡ v.page.system → Extends v.page.seen (entries x) v.page.domain → IsNumbered (entries x)
      → Allows Rule slots id (v, (0, Some x) ∷ []) 1 (λ k. (k + 1) % word_modulus) (PassesOn entries (step slots 1 1 0 none) (v, (0, Some x) ∷ []))
  pass_on_with slots id n v x is sys more num s r _ at _ =
      let k = waits_now s r id v (Served n) at is in
      let w : View = passed_view v (entries x) in
      let known : PageFits key r.history r.seat_of id v.page = r.pages.fits id v at k.1 in
      let here : r.owner r.served ≡ id = ap r.owner (sym k.2) ∙ k.0 in
      let lt : r.served < r.drawn = k.3 in
      let out : s.homes ≡ none ∷ [] = subst (SlotFits system entries key s.homes r.history) k.4 r.slot in
      let ticket : HasTicket r.served v.stage = subst (HasTicket r.served) (sym is) k.2 in
      let rule : Rule (stepped s 1 ((get_or s.words 1 0 + 1) % word_modulus) id ((0, Some x) ∷ []) w gives) = record {
        drawn = r.drawn;
        served = r.served + 1;
        owner = r.owner;
        phase = home;
        history = entries x;
        seat_of = r.seat_of;
        words = ap (λ (ws : List ℕ). set ws 1 ((get_or ws 1 0 + 1) % word_modulus)) r.words ∙ ap (λ (z : ℕ). r.drawn % word_modulus ∷ z ∷ []) (mod-add-mod r.served word_modulus 1);
        slot = (x, ap (λ (hs : List (Option (std.Option T))). set hs 0 (some (Some x))) out, sys ∙ known.about, refl);
        tickets = record {
          order = omega arith;
          quiet = λ _. refl;
          stages = seats_stay (λ j u. StageFits r.drawn (r.served + 1) r.owner home (entries x) j u.page u.stage) s.views id w tt
              (λ j u ne e. aside r.drawn r.served (r.served + 1) r.owner r.phase home r.history (entries x) j u.page (λ same. ne (sym same ∙ here)) (omega arith) (omega arith) (inr refl) u.stage (r.tickets.stages j u e));
          held = held_set r.drawn r.served (r.served + 1) r.owner s.views id v w at (omega arith) (λ m le _ t. let same = one_ticket r.served m v.stage ticket t in absurd (omega arith)) r.tickets.held;
        };
        pages = pages_passed key r.history r.seat_of s.views id v (entries x) at k.1 k.5 more num r.pages;
      } in
      (w, gives, tt, rule, λ y e. let p : x ≡ y = cc e in ap (λ (z : T). (passed_view v (entries z), [])) p)

  pub allows_pass_on : (slots id n : ℕ) (me : Place T) (x : T) → me.1 ≡ (0, Some x) ∷ [] → me.0.stage ≡ Served n → system x ≡ me.0.page.system → Extends me.0.page.seen (entries x) me.0.page.domain → IsNumbered (entries x)
      → Allows Rule slots id me 1 (λ k. (k + 1) % word_modulus) (PassesOn entries (step slots 1 1 0 none) me)
  allows_pass_on slots id n me x has is sys more num =
      subst (λ (c : List (ℕ × std.Option T)). Allows Rule slots id (me.0, c) 1 (λ k. (k + 1) % word_modulus) (PassesOn entries (step slots 1 1 0 none) (me.0, c))) (sym has) (pass_on_with slots id n me.0 x is sys more num)

  -- seats that hold no ticket change nothing in the queue
  held_idle : (s : State (std.Option T) View) (drawn served : ℕ) (owner : ℕ → ℕ) (vs : List View) (id : ℕ) (v w : View) → get_elem? vs id ≡ some v → v.stage ≡ Idle → Held drawn served owner vs → Held drawn served owner (set vs id w)
  held_idle s drawn served owner vs id v w at idle held = held_set drawn served served owner vs id v w at (omega arith) (λ m _ _ t. absurd (subst (HasTicket m) idle t)) held

  pub splits_pass : (id d : ℕ) (v : View) → v.stage ≡ Idle → v.page.spent ≡ false → v.page.parted ≡ false → last_born v.page.made ≡ Some d → d < 2 ^ 32 → Splits Rule id v (left_view v) (right_view v)
  splits_pass id d v idle live un last small s r at =
      let l : View = left_view v in
      let n : View = new_view v.page d in
      let is : n ≡ right_view v = ap (λ (o : std.Option ℕ). new_view v.page (unwrap_or o 0)) (sym last) in
      let P : View → Type 0 = λ (u : View). Rule record { words = s.words; homes = s.homes; views = set s.views id l ++ u ∷ [] } in
      let waits : ℕ → View → Type 0 = λ j u. StageFits r.drawn r.served r.owner r.phase r.history j u.page u.stage in
      let held = held_idle s r.drawn r.served r.owner s.views id v l at idle r.tickets.held in
      let pages = pages_split key r.history r.seat_of s.views id d v at live un last small r.pages in
      subst P is record {
        drawn = r.drawn;
        served = r.served;
        owner = r.owner;
        phase = r.phase;
        history = r.history;
        seat_of = pages.0;
        words = r.words;
        slot = r.slot;
        tickets = record {
          order = r.tickets.order;
          quiet = r.tickets.quiet;
          stages = seats_more waits (set s.views id l) n tt (seats_stay waits s.views id l (subst (StageFits r.drawn r.served r.owner r.phase r.history id l.page) (sym idle) tt) (λ j u _ g. r.tickets.stages j u g));
          held = λ k le lt. let o = held k le lt in (o.0, at_longer (set s.views id l) (n ∷ []) (r.owner k) o.0 o.1, o.2);
        };
        pages = pages.1;
      }

  pub joins_passes : (id other : ℕ) (v w : View) → v.stage ≡ Idle → w.stage ≡ Idle → v.page.spent ≡ false → w.page.spent ≡ false → Joins Rule id v other w (joined_view v w) spent_view
  joins_passes id other v w idle idle' live live' s r at ne at' =
      let there : get_elem? s.views other ≡ some w = sym (set_else s.views id other (joined_view v w) ne) ∙ at' in
      let waits : ℕ → View → Type 0 = λ j u. StageFits r.drawn r.served r.owner r.phase r.history j u.page u.stage in
      let one : View = joined_view v w in
      record {
        drawn = r.drawn;
        served = r.served;
        owner = r.owner;
        phase = r.phase;
        history = r.history;
        seat_of = r.seat_of;
        words = r.words;
        slot = r.slot;
        tickets = record {
          order = r.tickets.order;
          quiet = r.tickets.quiet;
          stages = seats_stay waits (set s.views id one) other spent_view tt (λ j u _ g. seats_stay waits s.views id one (subst (StageFits r.drawn r.served r.owner r.phase r.history id one.page) (sym idle) tt) (λ j u _ g. r.tickets.stages j u g) j u g);
          held = held_idle s r.drawn r.served r.owner (set s.views id one) other w spent_view at' idle' (held_idle s r.drawn r.served r.owner s.views id v one at idle r.tickets.held);
        };
        pages = pages_join key r.history r.seat_of s.views id other v w at there live live' r.pages;
      }

  pub allows_learn : (slots id : ℕ) (me : Place T) → me.0.page.spent ≡ false → Allows Rule slots id me 0 (λ k. k) (Learns (step slots 0 0 0 none) me)
  allows_learn slots id me live s r _ at _ = let k = r.pages.fits id me.0 at live in (me.0, keeps, tt, unchanged s r 0 id me.0 me.1 at, (refl, k.join, k.own))

  pub opens_ruled : (x : T) → system x ≡ key → entries x ≡ [] → Rule (opening (0 ∷ 0 ∷ []) (Some x ∷ []) (first_view key))
  unfolding own_entries is_own
  opens_ruled x sys none_yet =
      let first : View = first_view key in
      let only : (P : ℕ → View → Type 0) → P 0 first → (j : ℕ) (v : View) → get_elem? (first ∷ []) j ≡ some v → P j v = λ P p j v e. seats_more P [] first p (λ j v e. absurd (some-ne-none v (sym e))) j v e in
      record {
        drawn = 0;
        served = 0;
        owner = λ _. 0;
        phase = home;
        history = [];
        seat_of = λ _. 0;
        words = refl;
        slot = (x, refl, sys, none_yet);
        tickets = record {
          order = omega arith;
          quiet = λ _. refl;
          stages = only (λ j v. StageFits 0 0 (λ _. 0) home [] j v.page v.stage) tt;
          held = λ n le lt. absurd (omega arith);
        };
        pages = record {
          fits = only (λ j v. v.page.spent ≡ false → PageFits key [] (λ _. 0) j v.page) (λ _. record {
            about = refl;
            seen = prefix_self [];
            made = refl;
            own = refl;
            alone = refl;
            small = omega arith;
            born = record { either = inl refl };
            join = record { before = prefix_self []; other = prefix_self []; other_own = refl };
          });
          fresh = λ _ _ _ _ _ _ _. refl;
          apart = λ i j u v g g' l l' un. only (λ i u. last_born u.page.made ≡ Some v.page.domain → ⊥) (λ e. absurd (cc e)) i u g;
          numbered = record { once = λ _ _ _ _ within. absurd (omega arith); never = λ _ _ within. absurd (omega arith) };
          rooted = λ _ _ e. absurd (cc (e));
        };
      }
