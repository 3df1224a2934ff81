-- The queue of tickets, and what a step leaves of it.
use Rattle.std.proofs.Common.{◌≡◌, ◌≢◌, ℕ, ◌+◌, ◌<◌, ◌≤◌, ◌⊎◌, ⊎_elim, false, cond, eqb, List, [], ◌∷◌, ◌++◌, length, set, refl, ap, sym, subst, ◌∙◌, arith, eq-eqb, ne_eqb}
use mathlib.Core.Option.{some}
use mathlib.Core.Logic.{dite}
use native.Mathlib.Decide.{ℕ_discrete}
use lib.ListN.{get_elem?}
use Rattle.atomic_table.proofs.Lists.{at_set, set_else}
use Rattle.jx_base.specs.declared.act.Entry.{Entry}
use Rattle.turn_lock.specs.declared.view.Page.{Page}
use Rattle.turn_lock.specs.declared.view.View.{View}
use Rattle.turn_lock.specs.declared.view.Stage.{Stage}
use Rattle.turn_lock.specs.declared.view.Stage.TheVariants.{Idle, Waiting, Served, Holding}
use Rattle.turn_lock.specs.Rule.{Phase, home, StageFits, HasTicket}
use Rattle.turn_lock.proofs.Lists.{set_there, one_there, at_push_cases}

-- what holds of each seat after the seat `me` got the view w
pub seats_stay : (P : ℕ → View → Type 0) (vs : List View) (me : ℕ) (w : View) → P me w → ((j : ℕ) (u : View) → j ≢ me → get_elem? vs j ≡ some u → P j u)
    → (j : ℕ) (u : View) → get_elem? (set vs me w) j ≡ some u → P j u
seats_stay P vs me w mine others j u e = ⊎_elim (λ (t : (j ≡ me) × (w ≡ u)). subst (λ (x : ℕ × View). P x.0 x.1) (λ i. (sym t.0 i, t.1 i)) mine)
    (λ (t : (j ≢ me) × (get_elem? vs j ≡ some u)). others j u t.0 t.1) (at_set vs me j w u e)

-- what holds of each seat, where the seat w is new
pub seats_more : (P : ℕ → View → Type 0) (vs : List View) (w : View) → P (length vs) w → ((j : ℕ) (u : View) → get_elem? vs j ≡ some u → P j u)
    → (j : ℕ) (u : View) → get_elem? (vs ++ w ∷ []) j ≡ some u → P j u
seats_more P vs w mine others j u e = ⊎_elim (λ (t : get_elem? vs j ≡ some u). others j u t)
    (λ (t : (j ≡ length vs) × (w ≡ u)). subst (λ (x : ℕ × View). P x.0 x.1) (λ i. (sym t.0 i, t.1 i)) mine) (at_push_cases vs w u j e)

-- another seat, where the one to be served is not it
pub aside : (drawn served served' : ℕ) (owner : ℕ → ℕ) (phase phase' : Phase) (h h' : List Entry) (j : ℕ) (p : Page) → owner served ≢ j → served ≤ served' → served' ≤ served + 1 → (served' ≡ served) ⊎ (phase' ≡ home)
    → (st : Stage) → StageFits drawn served owner phase h j p st → StageFits drawn served' owner phase' h' j p st
aside drawn served served' owner phase phase' h h' j p other le ge either Idle k = tt
aside drawn served served' owner phase phase' h h' j p other le ge either (Waiting n) k =
    let ne : n ≢ served = λ e. other (ap owner (sym e) ∙ k.0) in let a = k.2 in
    (k.0, k.1, omega arith, k.3, λ now. ⊎_elim (λ (t : served' ≡ served). absurd (ne (now ∙ t))) (λ (t : phase' ≡ home). t) either)
aside drawn served served' owner phase phase' h h' j p other le ge either (Served n) k = absurd (other (ap owner (sym k.2) ∙ k.0))
aside drawn served served' owner phase phase' h h' j p other le ge either (Holding n) k = absurd (other (ap owner (sym k.2) ∙ k.0))

pub drawn_by : (ℕ → ℕ) → ℕ → ℕ → ℕ → ℕ
drawn_by owner drawn id n = cond (eqb n drawn) id (owner n)

pub drawn_by-below : (owner : ℕ → ℕ) (drawn id n : ℕ) → n < drawn → drawn_by owner drawn id n ≡ owner n
unfolding drawn_by
drawn_by-below owner drawn id n lt = let ne : n ≢ drawn = λ e. omega arith in ap (λ b. cond b id (owner n)) (ne_eqb n drawn ne)

pub drawn_by-here : (owner : ℕ → ℕ) (drawn id : ℕ) → drawn_by owner drawn id drawn ≡ id
unfolding drawn_by
drawn_by-here owner drawn id = ap (λ b. cond b id (owner drawn)) (eq-eqb drawn drawn refl)

-- a ticket is drawn, by the seat `id`
pub after_draw : (drawn served : ℕ) (owner : ℕ → ℕ) (phase : Phase) (h : List Entry) (id j : ℕ) (p : Page) (st : Stage) → StageFits drawn served owner phase h j p st → StageFits (drawn + 1) served (drawn_by owner drawn id) phase h j p st
after_draw drawn served owner phase h id j p Idle k = tt
after_draw drawn served owner phase h id j p (Waiting n) k = let a = k.3 in (drawn_by-below owner drawn id n k.3 ∙ k.0, k.1, k.2, omega arith, k.4)
after_draw drawn served owner phase h id j p (Served n) k = let a = k.3 in let b = k.2 in (drawn_by-below owner drawn id n (omega arith) ∙ k.0, k.1, k.2, omega arith, k.4, k.5)
after_draw drawn served owner phase h id j p (Holding n) k = let a = k.3 in let b = k.2 in (drawn_by-below owner drawn id n (omega arith) ∙ k.0, k.1, k.2, omega arith, k.4, k.5)

-- each ticket that is out is held by its owner
abbrev pub Held : ℕ → ℕ → (ℕ → ℕ) → List View → Type 0
Held drawn served owner views = (n : ℕ) → served ≤ n → n < drawn → (v : View) × (get_elem? views (owner n) ≡ some v) × HasTicket n v.stage

pub held_set : (drawn served served' : ℕ) (owner : ℕ → ℕ) (vs : List View) (id : ℕ) (v w : View) → get_elem? vs id ≡ some v → served ≤ served' → ((n : ℕ) → served' ≤ n → n < drawn → HasTicket n v.stage → HasTicket n w.stage)
    → Held drawn served owner vs → Held drawn served' owner (set vs id w)
held_set drawn served served' owner vs id v w at less keep held n le lt = let r = held n (omega arith) lt in
    dite (ℕ_discrete (owner n) id)
    (λ e. (w, ap (get_elem? (set vs id w)) e ∙ set_there vs id v w at, keep n le lt (subst (λ (u : View). HasTicket n u.stage) (one_there vs id r.0 v (ap (get_elem? vs) (sym e) ∙ r.1) at) r.2)))
    (λ ne. (r.0, set_else vs id (owner n) w ne ∙ r.1, r.2))

pub one_ticket : (n m : ℕ) (st : Stage) → HasTicket n st → HasTicket m st → n ≡ m
one_ticket n m Idle a b = absurd a
one_ticket n m (Waiting k) a b = sym a ∙ b
one_ticket n m (Served k) a b = sym a ∙ b
one_ticket n m (Holding k) a b = sym a ∙ b

pub ticket_live : (drawn served : ℕ) (owner : ℕ → ℕ) (phase : Phase) (h : List Entry) (j n : ℕ) (p : Page) (st : Stage) → StageFits drawn served owner phase h j p st → HasTicket n st → p.spent ≡ false
ticket_live drawn served owner phase h j n p Idle k t = absurd t
ticket_live drawn served owner phase h j n p (Waiting m) k t = k.1
ticket_live drawn served owner phase h j n p (Served m) k t = k.1
ticket_live drawn served owner phase h j n p (Holding m) k t = k.1
