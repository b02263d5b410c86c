-- One seat takes in all, from the last lane to the first, and what the lock then closes with.
use Rattle.std.proofs.Common.{◌≡◌, ℕ, zero, suc, ◌<◌, ◌≤◌, ◌≢◌, Bool, true, false, ◌||◌, ◌==◌, if◌then◌else◌, List, [], ◌∷◌, ◌++◌, length, slice_get, Some, None, refl, sym, ap, ◌∙◌, subst, length-append, append_assoc, append-nil, eqb→eq, T, ne_eqb, arith}
use mathlib.Core.Logic.{dite}
use mathlib.Core.Option.{some}
use native.Mathlib.Decide.{ℕ_discrete}
use lib.ListN.{get_elem?}
use Rattle.atomic_table.specs.Seated.{TableId}
use Rattle.atomic_table.proofs.Lists.{at_longer, at_last}
use Rattle.machine_model.specs.Histories.{History, Meaning, of_lane, BeginsWith}
use Rattle.machine_model.proofs.HistoryLaws.{of_lane-append}
use Rattle.lane_lock.specs.Rules.{Opening, has}
use Rattle.lane_lock.specs.Steps.{Sitter, joined}
use Rattle.lane_lock.specs.Seats.{SeatView}
use Rattle.lane_lock.specs.Gathering.{Ended, IsPlaceOf, InOrder, Gathered, Closes}
use Rattle.lane_lock.proofs.Lists.{has-append}
use Rattle.lane_lock.proofs.Acting.{has_one}

module _ {X : Type 0} where
  -- what stands between two parts of a list
  pub get_between : (front rest : List X) (x : X) → slice_get (front ++ x ∷ rest) (length front) ≡ Some x
  get_between [] rest x = refl
  get_between (y ∷ ys) rest x = get_between ys rest x

  get_inside : (xs : List X) (k : ℕ) (x : X) → slice_get xs k ≡ Some x → k < length xs
  get_inside [] k x e = absurd (let a : None ≡ Some x = e in cc)
  get_inside (y ∷ ys) zero x e = omega arith
  get_inside (y ∷ ys) (suc k) x e = let a = get_inside ys k x e in omega arith

  -- in a longer list the same stands there
  pub met_longer : (P : X → Type 0) (xs ys : List X) → ((k : ℕ) (x : X) → get_elem? (xs ++ ys) k ≡ some x → P x) → (k : ℕ) (x : X)
      → get_elem? xs k ≡ some x → P x
  met_longer P xs ys all k x there = all k x (at_longer xs ys k x there)

  pub met_at : (P : X → Type 0) (xs ys : List X) (y : X) → ((k : ℕ) (x : X) → get_elem? (xs ++ y ∷ ys) k ≡ some x → P x) → P y
  met_at P xs ys y all = all (length xs) y
      (subst (λ (z : List X). get_elem? z (length xs) ≡ some y) (append_assoc xs (y ∷ []) ys)
      (at_longer (xs ++ y ∷ []) ys (length xs) y (at_last xs y (length xs) refl)))

module _ {S A : Type 0} (lane : S → ℕ) where
  -- the events of one lane have none of another
  pub of_two : (l k : ℕ) (es : History S A) → l ≢ k → of_lane lane l (of_lane lane k es) ≡ []
  of_two l k [] other = refl
  of_two l k (e ∷ es) other = at (lane e.step == k) refl (of_two l k es other)
    where
      at : (b : Bool) → (lane e.step == k) ≡ b → of_lane lane l (of_lane lane k es) ≡ []
          → of_lane lane l (if b then e ∷ of_lane lane k es else of_lane lane k es) ≡ []
      at true is so_far = let here : lane e.step ≡ k = eqb→eq (lane e.step) k (subst T (sym is) tt) in
          ap (λ (b : Bool). if b then e ∷ of_lane lane l (of_lane lane k es) else of_lane lane l (of_lane lane k es))
          (ne_eqb (lane e.step) l (λ same. other (sym same ∙ here))) ∙ so_far
      at false is so_far = so_far

module _ {M B S A : Type 0} (t : Meaning M B S A) (all : List (SeatView M S A)) where
  -- a seat has no event of another lane
  none_else : (l : ℕ) (seat : SeatView M S A) (id : TableId) (m : Sitter M S A) → IsPlaceOf t seat id m → l ≢ seat.lane
      → of_lane t.lane l m.0.own ≡ []
  none_else l seat id m p other = ap (of_lane t.lane l) (sym p.rest.own) ∙ of_two t.lane l seat.lane m.0.own other

  has_right : (l : ℕ) (xs ys : List ℕ) → has l ys ≡ true → has l (xs ++ ys) ≡ true
  has_right l xs ys h = has-append l xs ys ∙ at (has l xs)
    where
      at : (b : Bool) → (b || has l ys) ≡ true
      at true = refl
      at false = h

  has_left : (l : ℕ) (xs ys : List ℕ) → has l xs ≡ true → has l (xs ++ ys) ≡ true
  has_left l xs ys h = has-append l xs ys ∙ ap (λ (b : Bool). b || has l ys) h

  -- the last lane's seat begins
  pub gathers_last : (k : ℕ) (seat : SeatView M S A) (id : TableId) (m : Sitter M S A) → length all ≡ suc k → slice_get all k ≡ Some seat
      → seat.lane ≡ k → IsPlaceOf t seat id m → Gathered t all k m
  gathers_last k seat id m long there lane p =
      let only : (i : ℕ) (s : SeatView M S A) → k ≤ i → slice_get all i ≡ Some s → (i ≡ k) × (s ≡ seat) = λ i s h at.
      let inside = get_inside all i s at in let same : i ≡ k = omega arith in
      (same, let a = sym at ∙ (ap (slice_get all) same ∙ there) in cc) in
      let rest = p.rest in record {
        idle = rest.stage;
        hand = rest.hand;
        some_lane = let a = ap (λ (z : List ℕ). length z) rest.lanes in omega arith;
        lanes = λ i h less. has_one i seat.lane m.0.lanes rest.lanes (omega arith);
        seen = λ i s h at log begins met. subst (BeginsWith log)
            (p.seen ∙ ap (λ (z : SeatView M S A). z.seen) (sym (only i s h at).1)) begins;
        own = λ i s h at. let is = only i s h at in ap (λ (z : ℕ). of_lane t.lane z m.0.own) (is.0 ∙ sym lane)
            ∙ (rest.own ∙ (p.own ∙ ap (λ (z : SeatView M S A). z.own) (sym is.1)));
        below = λ l less. none_else l seat id m p (λ e. omega arith);
      }

  -- and takes in the one before
  pub gathers_more : (k : ℕ) (seat : SeatView M S A) (id : TableId) (m other : Sitter M S A) → Gathered t all (suc k) m
      → slice_get all k ≡ Some seat → seat.lane ≡ k → IsPlaceOf t seat id other
      → Gathered t all k (joined m.0 other.0, m.1)
  gathers_more k seat id m other g there lane p =
      let rest = p.rest in let first : (s : SeatView M S A) → slice_get all k ≡ Some s → s ≡ seat = λ s at. let a = sym at ∙ there in cc in
      record {
        idle = g.idle;
        hand = g.hand;
        some_lane = let a = length-append m.0.lanes other.0.lanes in let b = g.some_lane in
            let h : 0 < length (m.0.lanes ++ other.0.lanes) = omega arith in h;
        lanes = λ i h less. dite (ℕ_discrete i k)
            (λ e. has_right i m.0.lanes other.0.lanes (has_one i seat.lane other.0.lanes rest.lanes (e ∙ sym lane)))
            (λ ne. has_left i m.0.lanes other.0.lanes (g.lanes i (omega arith) less));
        seen = λ i s h at log begins met. dite (ℕ_discrete i k)
            (λ e. let is = first s (subst (λ (z : ℕ). slice_get all z ≡ Some s) e at) in
            subst (BeginsWith log) (p.seen ∙ ap (λ (z : SeatView M S A). z.seen) (sym is))
            (met_at (BeginsWith log) m.0.met other.0.met other.0.seen met))
            (λ ne. g.seen i s (omega arith) at log begins (met_longer (BeginsWith log) m.0.met (other.0.seen ∷ other.0.met) met));
        own = λ i s h at. of_lane-append t.lane i m.0.own other.0.own ∙ dite (ℕ_discrete i k)
            (λ e. let is = first s (subst (λ (z : ℕ). slice_get all z ≡ Some s) e at) in
            ap (λ (z : History S A). z ++ of_lane t.lane i other.0.own) (g.below i (omega arith))
            ∙ (ap (λ (z : ℕ). of_lane t.lane z other.0.own) (e ∙ sym lane)
            ∙ (rest.own ∙ (p.own ∙ ap (λ (z : SeatView M S A). z.own) (sym is)))))
            (λ ne. ap (λ (z : History S A). of_lane t.lane i m.0.own ++ z) (none_else i seat id other p (λ e. ne (e ∙ lane)))
            ∙ (append-nil (of_lane t.lane i m.0.own) ∙ g.own i s (omega arith) at));
        below = λ l less. of_lane-append t.lane l m.0.own other.0.own
            ∙ (ap (λ (z : History S A). z ++ of_lane t.lane l other.0.own) (g.below l (omega arith))
            ∙ none_else l seat id other p (λ e. omega arith));
      }

  -- the lists so far: the seats that are left, and the next one to be taken in
  first_there : (front : List (SeatView M S A)) (seat : SeatView M S A) → BeginsWith all (front ++ seat ∷ [])
      → slice_get all (length front) ≡ Some seat
  first_there front seat begins = subst (λ (z : List (SeatView M S A)). slice_get z (length front) ≡ Some seat)
      (sym (begins.1 ∙ append_assoc front (seat ∷ []) begins.0)) (get_between front begins.0 seat)

  begins_shorter : (front : List (SeatView M S A)) (seat : SeatView M S A) → BeginsWith all (front ++ seat ∷ []) → BeginsWith all front
  begins_shorter front seat begins = (seat ∷ begins.0, begins.1 ∙ append_assoc front (seat ∷ []) begins.0)

  abbrev IsSoFar : TableId → TableId → List (SeatView M S A) → Sitter M S A → Type 0
  IsSoFar id place front m = (place ≡ id) × BeginsWith all front × Gathered t all (length front) m

  -- the last seat is taken first
  pub gathering_begins : (id place : TableId) (front : List (SeatView M S A)) (seat : SeatView M S A) (m : Sitter M S A)
      → InOrder id all → all ≡ front ++ seat ∷ [] → IsPlaceOf t seat place m → IsSoFar id place front m
  gathering_begins id place front seat m order is p =
      let begins : BeginsWith all (front ++ seat ∷ []) = ([], is ∙ sym (append-nil (front ++ seat ∷ []))) in
      let there = first_there front seat begins in let is_ours = order (length front) seat there in
      let long : length all ≡ suc (length front) = let a = ap (λ (z : List (SeatView M S A)). length z) is in
      let b = length-append front (seat ∷ []) in omega arith in
      (p.same ∙ is_ours.0, begins_shorter front seat begins, gathers_last (length front) seat place m long there is_ours.1 p)

  -- a seat that is taken in is of this lock too
  pub is_of_lock : (id place : TableId) (items front : List (SeatView M S A)) (seat : SeatView M S A) (m : Sitter M S A)
      → InOrder id all → BeginsWith all items → items ≡ front ++ seat ∷ [] → IsPlaceOf t seat place m → place ≡ id
  is_of_lock id place items front seat m order begins is p =
      p.same ∙ (order (length front) seat (first_there front seat (subst (BeginsWith all) is begins))).0

  pub gathering_goes_on : (id place own : TableId) (items front : List (SeatView M S A)) (seat : SeatView M S A) (m other m' : Sitter M S A)
      → InOrder id all → IsSoFar id own items m → items ≡ front ++ seat ∷ [] → IsPlaceOf t seat place other → m' ≡ (joined m.0 other.0, m.1)
      → IsSoFar id own front m'
  gathering_goes_on id place own items front seat m other m' order so_far is p after =
      let begins = subst (BeginsWith all) is so_far.1 in let there = first_there front seat begins in
      let long : length items ≡ suc (length front) = let a = ap (λ (z : List (SeatView M S A)). length z) is in
      let b = length-append front (seat ∷ []) in omega arith in
      let g = subst (λ (k : ℕ). Gathered t all k m) long so_far.2 in (
        so_far.0,
        begins_shorter front seat begins,
        subst (Gathered t all (length front)) (sym after)
            (gathers_more (length front) seat place m other g there (order (length front) seat there).1 p),
      )

  -- what the machine then tells of each seat
  pub closes : (o : Opening M) (m : Sitter M S A) (machine : M) → Gathered t all 0 m → Ended t o m.0 machine
      → (k : ℕ) (seat : SeatView M S A) → slice_get all k ≡ Some seat → Closes t machine k seat
  closes o m machine g e k seat there = record {
    seen = g.seen k seat (omega arith) there (t.history machine) e.seen e.met;
    own = sym (e.own k (g.lanes k (omega arith) (get_inside all k seat there))) ∙ g.own k seat (omega arith) there;
  }
