-- The pages of the passes, and what a step leaves of them.
use Rattle.std.proofs.Common.{◌≡◌, ◌≢◌, ℕ, ◌+◌, ◌-◌, ◌<◌, ◌≤◌, ◌^◌, inr, ⊎_elim, Bool, false, ◌&&◌, cond, eqb, true≢false, List, [], ◌∷◌, ◌++◌, length, Some, set, refl, ap, sym, subst, ◌∙◌, arith, eq-eqb, ne_eqb, length-set}
use mathlib.Core.Option.{Option, none, some}
use lib.ListN.{get_elem?}
use Rattle.std_collections.proofs.IndexTableLemmas.Probe.{pigeonhole}
use Rattle.jx_base.specs.declared.act.Entry.{Entry}
use Rattle.jx_base.specs.declared.program.System.{System}
use Rattle.jx_base.specs.Births.{answered_domain, IsNumbered}
use Rattle.turn_lock.specs.declared.view.Page.{Page}
use Rattle.turn_lock.specs.declared.view.View.{View}
use Rattle.jx_base.specs.Histories.{own_entries}
use Rattle.turn_lock.specs.Entries.{last_born, IsMade, Extends}
use Rattle.turn_lock.specs.Views.{left_view, new_view, passed_view, joined_view, spent_view, longer}
use Rattle.turn_lock.specs.Rule.{Phase, PageFits, PagesFit, HasTicket, TicketsFit}
use Rattle.turn_lock.proofs.Lists.{prefix_self, prefix_more, one_there}
use Rattle.turn_lock.proofs.Entries.{own_other, own_mine, own_between, own_none_before, longer_of, last_born-push, last_made, IsMade-more, IsRooted-push, unmade, own_unmade, own_made, one_maker}
use Rattle.turn_lock.proofs.Tickets.{seats_stay, seats_more, one_ticket, ticket_live}

-- two pages of one domain, with the same own entries
abbrev pub Alike : Page → Page → Type 0
Alike p q = (p.domain ≡ q.domain) × (p.made ≡ q.made) × (p.parted ≡ q.parted) × (p.spent ≡ q.spent)

module _ (key : System) (h : List Entry) (seat_of : ℕ → ℕ) where
  -- the seat `id` has another view, of the same domain, with the same own entries
  pub pages_with : (vs : List View) (id : ℕ) (v w : View) → get_elem? vs id ≡ some v → Alike w.page v.page → PageFits key h seat_of id w.page → PagesFit key h seat_of vs → PagesFit key h seat_of (set vs id w)
  pages_with vs id v w at alike mine b =
      let from : (j : ℕ) (u : View) → get_elem? (set vs id w) j ≡ some u → (o : View) × (get_elem? vs j ≡ some o) × Alike u.page o.page =
      seats_stay (λ j u. (o : View) × (get_elem? vs j ≡ some o) × Alike u.page o.page) vs id w (v, at, alike) (λ j u _ e. (u, e, (refl, refl, refl, refl))) in
      record {
        fits = seats_stay (λ j u. u.page.spent ≡ false → PageFits key h seat_of j u.page) vs id w (λ _. mine) (λ j u _. b.fits j u);
        fresh = λ j u d e live un last. let f = from j u e in b.fresh j f.0 d f.1 (sym f.2.3 ∙ live) (sym f.2.2 ∙ un) (ap last_born (sym f.2.1) ∙ last);
        apart = λ i j u w e g live live' un last. let f = from i u e in let k = from j w g in
            b.apart i j f.0 k.0 f.1 k.1 (sym f.2.3 ∙ live) (sym k.2.3 ∙ live') (sym f.2.2 ∙ un) (ap last_born (sym f.2.1) ∙ (last ∙ ap Some k.2.0));
        numbered = b.numbered;
        rooted = b.rooted;
      }

-- ---- an entry is added to the history

pub pages_more : (key : System) (h : List Entry) (seat_of : ℕ → ℕ) (vs : List View) (id : ℕ) (v : View) (e : Entry) → get_elem? vs id ≡ some v → v.page.spent ≡ false → v.page.seen ≡ h → e.domain.0 ≡ v.page.domain → IsNumbered (h ++ e ∷ [])
    → PagesFit key h seat_of vs → PagesFit key (h ++ e ∷ []) seat_of (set vs id (passed_view v (h ++ e ∷ [])))
pages_more key h seat_of vs id v e at live seen mine num b =
    let h' : List Entry = h ++ e ∷ [] in
    let w : View = passed_view v h' in
    let known : PageFits key h seat_of id v.page = b.fits id v at live in
    let d : ℕ = v.page.domain in
    let grown : own_entries h' d ≡ own_entries h d ++ e ∷ [] = own_mine d h e mine in
    let born_last : last_born w.page.made ≡ answered_domain e = ap last_born grown ∙ last_born-push (own_entries h d) e in
    let other_domain : (j : ℕ) (u : View) → j ≢ id → get_elem? vs j ≡ some u → u.page.spent ≡ false → e.domain.0 ≢ u.page.domain = λ j u ne g l same. ne (sym ((b.fits j u g l).alone) ∙ (ap seat_of (sym same ∙ mine) ∙ known.alone)) in
    let not_made : (c : ℕ) → answered_domain e ≡ Some c → IsMade h c → ⊥ = λ c born made. unmade h e c c num born made refl in
    record {
      fits = seats_stay (λ j u. u.page.spent ≡ false → PageFits key h' seat_of j u.page) vs id w
          (λ _. record {
            about = known.about;
            seen = prefix_self h';
            made = refl;
            own = refl;
            alone = known.alone;
            small = known.small;
            born = IsMade-more h (e ∷ []) d known.born;
            join = record { before = prefix_self h'; other = prefix_self h'; other_own = refl };
          })
          (λ j u ne g l. let k = b.fits j u g l in record {
            about = k.about;
            seen = prefix_more u.page.seen h (e ∷ []) k.seen;
            made = own_other u.page.domain h e (other_domain j u ne g l) ∙ k.made;
            own = k.own;
            alone = k.alone;
            small = k.small;
            born = IsMade-more h (e ∷ []) u.page.domain k.born;
            join = k.join;
          });
      fresh = λ j u c g l un last. seats_stay (λ j u. (c : ℕ) → u.page.spent ≡ false → u.page.parted ≡ false → last_born u.page.made ≡ Some c → own_entries h' c ≡ []) vs id w
          (λ c _ _ last. let born : answered_domain e ≡ Some c = sym born_last ∙ last in
          own_other c h e (λ is. not_made c born (subst (IsMade h) (sym mine ∙ is) known.born)) ∙ own_unmade h c b.rooted (not_made c born))
          (λ j u ne g c l un last. own_other c h e (λ is. b.apart j id u v g at l live un (last ∙ ap Some (sym is ∙ mine))) ∙ b.fresh j u c g l un last) j u g c l un last;
      apart = λ i j u z g g' l l' un last. seats_stay (λ i u. (j : ℕ) (z : View) → get_elem? (set vs id w) j ≡ some z → u.page.spent ≡ false → z.page.spent ≡ false → u.page.parted ≡ false → last_born u.page.made ≡ Some z.page.domain → ⊥) vs id w
          (λ j z g' _ l' _ last. seats_stay (λ j z. z.page.spent ≡ false → last_born w.page.made ≡ Some z.page.domain → ⊥) vs id w
          (λ _ last. not_made d (sym born_last ∙ last) known.born)
          (λ j z _ g' l' last. not_made z.page.domain (sym born_last ∙ last) (b.fits j z g' l').born) j z g' l' last)
          (λ i u _ g j z g' l l' un last. seats_stay (λ j z. z.page.spent ≡ false → last_born u.page.made ≡ Some z.page.domain → ⊥) vs id w
          (λ _ last. b.apart i id u v g at l live un last)
          (λ j z _ g' l' last. b.apart i j u z g g' l l' un last) j z g' l' last)
          i u g j z g' l l' un last;
      numbered = num;
      rooted = IsRooted-push h e b.rooted (subst (IsMade h) (sym mine) known.born);
    }

-- the view `v` passes the list `es` on
pub pages_passed : (key : System) (h : List Entry) (seat_of : ℕ → ℕ) (vs : List View) (id : ℕ) (v : View) (es : List Entry) → get_elem? vs id ≡ some v → v.page.spent ≡ false → v.page.seen ≡ h → Extends v.page.seen es v.page.domain → IsNumbered es
    → PagesFit key h seat_of vs → PagesFit key es seat_of (set vs id (passed_view v es))
pages_passed key h seat_of vs id v es at live seen more num b =
    let P : List Entry → Type 0 = λ (l : List Entry). PagesFit key l seat_of (set vs id (passed_view v l)) in
    let known : PageFits key h seat_of id v.page = b.fits id v at live in
    ⊎_elim
    (λ (e : es ≡ v.page.seen). subst P (sym (e ∙ seen)) (pages_with key h seat_of vs id v (passed_view v h) at
    (refl, known.made, ap (λ (t : Bool). t && v.page.parted) (eq-eqb (length h) (length v.page.seen) (ap length (sym seen))), sym live)
    record {
      about = known.about;
      seen = prefix_self h;
      made = refl;
      own = refl;
      alone = known.alone;
      small = known.small;
      born = known.born;
      join = record { before = prefix_self h; other = prefix_self h; other_own = refl };
    } b))
    (λ (t : (e : Entry) × (es ≡ v.page.seen ++ e ∷ []) × (e.domain.0 ≡ v.page.domain)).
    let is : es ≡ h ++ t.0 ∷ [] = t.1 ∙ ap (λ l. l ++ t.0 ∷ []) seen in
    subst P (sym is) (pages_more key h seat_of vs id v t.0 at live seen t.2 (subst IsNumbered is num) b))
    more

-- ---- a pass is split off

-- two passes did not make one domain
made_once : (key : System) (h : List Entry) (seat_of : ℕ → ℕ) (i j d : ℕ) (p q : Page) → PageFits key h seat_of i p → PageFits key h seat_of j q → IsNumbered h → last_born p.made ≡ Some d → last_born q.made ≡ Some d → i ≡ j
made_once key h seat_of i j d p q kp kq num lp lq =
    let mp = last_made (own_entries h p.domain) d (ap last_born kp.made ∙ lp) in
    let mq = last_made (own_entries h q.domain) d (ap last_born kq.made ∙ lq) in
    sym kp.alone ∙ (ap seat_of (one_maker h p.domain q.domain d num.once mp mq) ∙ kq.alone)

seat_with : (ℕ → ℕ) → ℕ → ℕ → ℕ → ℕ
seat_with seat_of d n c = cond (eqb c d) n (seat_of c)

seat_with-other : (seat_of : ℕ → ℕ) (d n c : ℕ) → c ≢ d → seat_with seat_of d n c ≡ seat_of c
unfolding seat_with
seat_with-other seat_of d n c ne = ap (λ b. cond b n (seat_of c)) (ne_eqb c d ne)

seat_with-here : (seat_of : ℕ → ℕ) (d n : ℕ) → seat_with seat_of d n d ≡ n
unfolding seat_with
seat_with-here seat_of d n = ap (λ b. cond b n (seat_of d)) (eq-eqb d d refl)

pub pages_split : (key : System) (h : List Entry) (seat_of : ℕ → ℕ) (vs : List View) (id d : ℕ) (v : View) → get_elem? vs id ≡ some v → v.page.spent ≡ false → v.page.parted ≡ false → last_born v.page.made ≡ Some d → d < 2 ^ 32
    → PagesFit key h seat_of vs → (seat_of' : ℕ → ℕ) × PagesFit key h seat_of' (set vs id (left_view v) ++ new_view v.page d ∷ [])
pages_split key h seat_of vs id d v at live un last small b =
    let known : PageFits key h seat_of id v.page = b.fits id v at live in
    let l : View = left_view v in
    let n : View = new_view v.page d in
    let us : List View = set vs id l in
    let count : length us ≡ length vs = length-set vs id l in
    let seat_of' : ℕ → ℕ = seat_with seat_of d (length vs) in
    let no_view : (j : ℕ) (u : View) → get_elem? vs j ≡ some u → u.page.spent ≡ false → u.page.domain ≢ d = λ j u g lu e. b.apart id j v u at g live lu un (last ∙ ap Some (sym e)) in
    let none_of : own_entries h d ≡ [] = b.fresh id v d at live un last in
    let none_seen : own_entries v.page.seen d ≡ [] = own_none_before d v.page.seen h known.seen none_of in
    let made_it : IsMade h d = record { either = inr (own_made h v.page.domain d (last_made (own_entries h v.page.domain) d (ap last_born known.made ∙ last))) } in
    let kept : (j : ℕ) (p : Page) → p.domain ≢ d → PageFits key h seat_of j p → PageFits key h seat_of' j p = λ j p ne k. record {
      about = k.about;
      seen = k.seen;
      made = k.made;
      own = k.own;
      alone = seat_with-other seat_of d (length vs) p.domain ne ∙ k.alone;
      small = k.small;
      born = k.born;
      join = k.join;
    } in (
      seat_of',
      record {
        fits = seats_more (λ j u. u.page.spent ≡ false → PageFits key h seat_of' j u.page) us n
            (λ _. record {
              about = known.about;
              seen = known.seen;
              made = none_of;
              own = none_seen;
              alone = seat_with-here seat_of d (length vs) ∙ sym count;
              small = small;
              born = made_it;
              join = record { before = prefix_self v.page.seen; other = prefix_self v.page.seen; other_own = none_seen };
            })
            (seats_stay (λ j u. u.page.spent ≡ false → PageFits key h seat_of' j u.page) vs id l
            (λ _. kept id l.page (no_view id v at live) record {
              about = known.about;
              seen = known.seen;
              made = known.made;
              own = known.own;
              alone = known.alone;
              small = known.small;
              born = known.born;
              join = record { before = prefix_self v.page.seen; other = prefix_self v.page.seen; other_own = known.own };
            })
            (λ j u _ g lu. kept j u.page (no_view j u g lu) (b.fits j u g lu)));
        fresh = λ j u c g. seats_more (λ j u. u.page.spent ≡ false → u.page.parted ≡ false → last_born u.page.made ≡ Some c → own_entries h c ≡ []) us n
            (λ _ _ e. absurd (cc e))
            (seats_stay (λ j u. u.page.spent ≡ false → u.page.parted ≡ false → last_born u.page.made ≡ Some c → own_entries h c ≡ []) vs id l (λ _ e. absurd (true≢false e)) (λ j u _ g. b.fresh j u c g)) j u g;
        apart = λ i j u z g g'. seats_more (λ i u. (j : ℕ) (z : View) → get_elem? (us ++ n ∷ []) j ≡ some z → u.page.spent ≡ false → z.page.spent ≡ false → u.page.parted ≡ false → last_born u.page.made ≡ Some z.page.domain → ⊥) us n
            (λ _ _ _ _ _ _ e. absurd (cc e))
            (seats_stay (λ i u. (j : ℕ) (z : View) → get_elem? (us ++ n ∷ []) j ≡ some z → u.page.spent ≡ false → z.page.spent ≡ false → u.page.parted ≡ false → last_born u.page.made ≡ Some z.page.domain → ⊥) vs id l
            (λ _ _ _ _ _ e. absurd (true≢false e))
            (λ i u ne g j z g' lu lz unu lastu. seats_more (λ j z. z.page.spent ≡ false → last_born u.page.made ≡ Some z.page.domain → ⊥) us n
            (λ _ e. ne (made_once key h seat_of i id d u.page v.page (b.fits i u g lu) known b.numbered e last))
            (seats_stay (λ j z. z.page.spent ≡ false → last_born u.page.made ≡ Some z.page.domain → ⊥) vs id l (λ _ e. b.apart i id u v g at lu live unu e) (λ j z _ g' lz e. b.apart i j u z g g' lu lz unu e)) j z g' lz lastu))
            i u g j z g';
        numbered = b.numbered;
        rooted = b.rooted;
      },
    )

-- ---- a pass is joined into another

pages_spent : (key : System) (h : List Entry) (seat_of : ℕ → ℕ) (vs : List View) (id : ℕ) → PagesFit key h seat_of vs → PagesFit key h seat_of (set vs id spent_view)
pages_spent key h seat_of vs id b =
    let from : (j : ℕ) (u : View) → get_elem? (set vs id spent_view) j ≡ some u → u.page.spent ≡ false → get_elem? vs j ≡ some u =
    seats_stay (λ j u. u.page.spent ≡ false → get_elem? vs j ≡ some u) vs id spent_view (λ e. absurd (true≢false e)) (λ j u _ g _. g) in
    record {
      fits = λ j u g l. b.fits j u (from j u g l) l;
      fresh = λ j u c g l. b.fresh j u c (from j u g l) l;
      apart = λ i j u z g g' l l'. b.apart i j u z (from i u g l) (from j z g' l') l l';
      numbered = b.numbered;
      rooted = b.rooted;
    }

pub pages_join : (key : System) (h : List Entry) (seat_of : ℕ → ℕ) (vs : List View) (id other : ℕ) (v w : View) → get_elem? vs id ≡ some v → get_elem? vs other ≡ some w → v.page.spent ≡ false → w.page.spent ≡ false
    → PagesFit key h seat_of vs → PagesFit key h seat_of (set (set vs id (joined_view v w)) other spent_view)
pages_join key h seat_of vs id other v w at there live live' b =
    let k = b.fits id v at live in let m = b.fits other w there live' in
    let both = longer_of v.page.seen w.page.seen h k.seen m.seen in
    let mine : own_entries (longer v.page.seen w.page.seen) v.page.domain ≡ v.page.made = own_between v.page.domain v.page.seen (longer v.page.seen w.page.seen) h both.0 both.2 (k.own ∙ sym k.made) ∙ k.own in
    let its : own_entries (longer v.page.seen w.page.seen) w.page.domain ≡ w.page.made = own_between w.page.domain w.page.seen (longer v.page.seen w.page.seen) h both.1 both.2 (m.own ∙ sym m.made) ∙ m.own in
    pages_spent key h seat_of (set vs id (joined_view v w)) other (pages_with key h seat_of vs id v (joined_view v w) at (refl, refl, refl, sym live) record {
      about = k.about;
      seen = both.2;
      made = k.made;
      own = mine;
      alone = k.alone;
      small = k.small;
      born = k.born;
      join = record { before = both.0; other = both.1; other_own = its };
    } b)

-- ---- how many tickets can be out

domain_of : Option View → ℕ
domain_of none = 0
domain_of (some v) = v.page.domain

-- no more tickets are out than there are domains
pub few : (key : System) (h : List Entry) (seat_of : ℕ → ℕ) (drawn served : ℕ) (owner : ℕ → ℕ) (phase : Phase) (vs : List View) → TicketsFit drawn served owner phase h vs → PagesFit key h seat_of vs → drawn ≤ served + 4294967296
unfolding domain_of
few key h seat_of drawn served owner phase vs q b =
    let count : ℕ = drawn - served in
    let order = q.order in
    let f : ℕ → ℕ = λ k. domain_of (get_elem? vs (owner (served + k))) in
    let at : (k : ℕ) → k < count → (v : View) × (get_elem? vs (owner (served + k)) ≡ some v) × HasTicket (served + k) v.stage = λ k lt. q.held (served + k) (omega arith) (omega arith) in
    let is : (k : ℕ) (lt : k < count) → f k ≡ (at k lt).0.page.domain = λ k lt. ap domain_of (at k lt).1 in
    let live : (k : ℕ) (lt : k < count) → (at k lt).0.page.spent ≡ false = λ k lt. let r = at k lt in ticket_live drawn served owner phase h (owner (served + k)) (served + k) r.0.page r.0.stage (q.stages (owner (served + k)) r.0 r.1) r.2 in
    let known : (k : ℕ) (lt : k < count) → PageFits key h seat_of (owner (served + k)) (at k lt).0.page = λ k lt. let r = at k lt in b.fits (owner (served + k)) r.0 r.1 (live k lt) in
    let into : (k : ℕ) → k < count → f k < 4294967296 = λ k lt. subst (λ z. z < 4294967296) (sym (is k lt)) ((known k lt).small) in
    let one : (i j : ℕ) → i < count → j < count → f i ≡ f j → i ≡ j = λ i j p q' e.
    let seats : owner (served + i) ≡ owner (served + j) = sym ((known i p).alone) ∙ (ap seat_of (sym (is i p) ∙ (e ∙ is j q')) ∙ (known j q').alone) in
    let same : (at i p).0 ≡ (at j q').0 = one_there vs (owner (served + j)) (at i p).0 (at j q').0 (ap (get_elem? vs) (sym seats) ∙ (at i p).1) (at j q').1 in
    let tickets : served + i ≡ served + j = one_ticket (served + i) (served + j) (at j q').0.stage (subst (λ (u : View). HasTicket (served + i) u.stage) same (at i p).2) (at j q').2 in
    omega arith in
    let le : count ≤ 4294967296 = pigeonhole count 4294967296 f into one in
    omega arith
