-- A turn with one step: what it needs at each of its steps, and what it tells at its end.
use Rattle.std.proofs.Common.{◌≡◌, ℕ, zero, suc, ◌+◌, ◌<◌, ◌≤◌, ◌≢◌, Bool, true, false, ◌||◌, if◌then◌else◌, List, [], ◌∷◌, ◌++◌, length, drop, sum, slice_index, Some, refl, sym, ap, ◌∙◌, subst, true≢false, eq-eqb, ne_eqb, arith}
use mathlib.Core.Logic.{dite}
use native.Mathlib.Decide.{ℕ_discrete}
use Rattle.atomic_table.specs.Seated.{TableId}
use Rattle.machine_model.specs.declared.machine.Event.{Event}
use Rattle.machine_model.specs.Histories.{History, Meaning, of_lane, kept_of, AreBelow, IsLegal}
use Rattle.machine_model.proofs.HistoryLaws.{drop_front, of_lane-append}
use Rattle.lane_lock.specs.declared.view.Stage.TheVariants.{Idle, Turn}
use Rattle.lane_lock.specs.Rules.{has}
use Rattle.lane_lock.specs.Steps.{Sitter, holding, IsInHand, HasTurn, HasApplied, Applied, passed, CanPass}
use Rattle.lane_lock.specs.Seats.{seat_view, IsAtRest, Answers}
use Rattle.lane_lock.proofs.Steps.{machine_in, origin_in}

pub has_one : (l lane : ℕ) (lanes : List ℕ) → lanes ≡ lane ∷ [] → l ≡ lane → has l lanes ≡ true
has_one l lane lanes one is = ap (has l) one ∙ ap (λ (b : Bool). b || false) (eq-eqb lane l (sym is))

pub one_of : (l lane : ℕ) (lanes : List ℕ) → lanes ≡ lane ∷ [] → has l lanes ≡ true → l ≡ lane
one_of l lane lanes one h = dite (ℕ_discrete lane l) (λ e. sym e)
    (λ ne. absurd (true≢false (sym h ∙ (ap (has l) one ∙ ap (λ (b : Bool). b || false) (ne_eqb lane l ne)))))

none_but : (l lane : ℕ) (lanes : List ℕ) → lanes ≡ lane ∷ [] → has l lanes ≡ false → l ≢ lane
none_but l lane lanes one h is = true≢false (sym (has_one l lane lanes one is) ∙ h)

share_inside : (shares : List ℕ) (l n : ℕ) → n < slice_index shares l → l < length shares
share_inside [] l n less = absurd (omega arith)
share_inside (x ∷ xs) zero n less = omega arith
share_inside (x ∷ xs) (suc l) n less = let h = share_inside xs l n less in omega arith

module _ {M B S A : Type 0} (t : Meaning M B S A) where
  kept_is_own : (step : S) (answer : A) → of_lane t.lane (t.lane step) (kept_of t.keeps step answer) ≡ kept_of t.keeps step answer
  kept_is_own step answer = at (t.keeps step answer)
    where
      at : (b : Bool) → of_lane t.lane (t.lane step)
          (if b then record { step = step; answer = answer } ∷ [] else []) ≡ (if b then record {
            step = step;
            answer = answer;
          } ∷ [] else [])
      at true = ap (λ (b : Bool). if b then record { step = step; answer = answer } ∷ [] else []) (eq-eqb (t.lane step) (t.lane step) refl)
      at false = refl

  kept_of_no_other : (l : ℕ) (step : S) (answer : A) → l ≢ t.lane step → of_lane t.lane l (kept_of t.keeps step answer) ≡ []
  kept_of_no_other l step answer other = at (t.keeps step answer)
    where
      at : (b : Bool) → of_lane t.lane l (if b then record { step = step; answer = answer } ∷ [] else []) ≡ []
      at true = ap (λ (b : Bool). if b then record { step = step; answer = answer } ∷ [] else [])
          (ne_eqb (t.lane step) l (λ e. other (sym e)))
      at false = refl

  one_at_most : (b : Bool) (e : Event S A) → length (if b then e ∷ [] else []) ≤ 1
  one_at_most true e = omega arith
  one_at_most false e = omega arith

  pub kept_is_one : (step : S) (answer : A) → length (kept_of t.keeps step answer) ≤ 1
  kept_is_one step answer = one_at_most (t.keeps step answer) record { step = step; answer = answer }

  kept_is_legal : (b : B) (before : History S A) (step : S) (answer : A) → t.fits b step → answer ≡ t.reply b before step
      → IsLegal t.fits t.reply b before (kept_of t.keeps step answer)
  kept_is_legal b before step answer fits replied = at (t.keeps step answer)
    where
      at : (k : Bool) → IsLegal t.fits t.reply b before (if k then record { step = step; answer = answer } ∷ [] else [])
      at true = (fits, replied, tt)
      at false = tt

  kept_is_below : (n : ℕ) (step : S) (answer : A) → t.lane step < n → AreBelow t.lane n (kept_of t.keeps step answer)
  kept_is_below n step answer below = at (t.keeps step answer)
    where
      at : (k : Bool) → AreBelow t.lane n (if k then record { step = step; answer = answer } ∷ [] else [])
      at true = (below, tt)
      at false = tt

-- a step, its answer, and what the lock was opened with
pub record Asked (M S A : Type 0) : Type 0 where
  pub first : M
  pub step : S
  pub answer : A

-- a seat m that may act, with its turn m1, and m2 after the step
pub record IsActing {M B S A : Type 0} (t : Meaning M B S A) (q : Asked M S A) (m m1 m2 : Sitter M S A) : Type 0 where
  pub rest : IsAtRest t (t.lane q.step) m
  pub told : m.0.origin ≡ Some q.first
  pub fits : t.fits (t.base q.first) q.step
  pub room : length m.0.own < slice_index m.0.shares (t.lane q.step)
  pub turn : HasTurn t m.0 m1
  pub applied : HasApplied t q.step q.answer m1 m2

-- the same with the machine before the step and after it
record Turned {M B S A : Type 0} (t : Meaning M B S A) (q : Asked M S A) (m m2 : Sitter M S A) : Type 0 where
  now : M
  after : M
  hand : IsInHand t m.0 q.first now
  did : Applied t now q.step q.answer after
  is : m2 ≡ (record m.0 { stage = Turn; seen = t.history now }, holding after)

module _ {M B S A : Type 0} (t : Meaning M B S A) (q : Asked M S A) where
  abbrev kept : History S A
  kept = kept_of t.keeps q.step q.answer

  abbrev lane : ℕ
  lane = t.lane q.step

  turned : (m m1 m2 : Sitter M S A) → IsActing t q m m1 m2 → Turned t q m m2
  turned m m1 m2 a = let turn = a.turn in let did = a.applied in
      let first : turn.0 ≡ q.first = ap (origin_in q.first) (sym turn.2 ∙ a.told) in
      let same : did.0 ≡ turn.1 = ap (machine_in turn.1) (sym did.2 ∙ ap (λ (x : Sitter M S A). x.1) turn.4) in record {
        now = turn.1;
        after = did.1;
        hand = subst (λ (z : M). IsInHand t m.0 z turn.1) first turn.3;
        did = subst (λ (z : M). Applied t z q.step q.answer did.1) same did.4;
        is = did.3 ∙ ap (λ (x : Sitter M S A). (x.0, holding did.1)) turn.4;
      }

  few_own : (m : Sitter M S A) → IsAtRest t lane m → length (of_lane t.lane lane m.0.own) ≡ length m.0.own
  few_own m rest = ap (λ (z : History S A). length z) rest.own

  pub may_pass : (m m1 m2 : Sitter M S A) → IsActing t q m m1 m2 → CanPass t m2
  may_pass m m1 m2 a = let r = turned m m1 m2 a in let hand = r.hand in let did = r.did in let rest = a.rest in let room = a.room in
      subst (CanPass t) (sym r.is) record {
        machine = q.first;
        now = r.after;
        news = kept;
        turn = refl;
        told = a.told;
        hand = refl;
        base = did.base ∙ hand.base;
        history = did.history;
        wide = let x = did.spare in let y = hand.wide in let g : sum m.0.shares ≤ t.spare r.after + length
            (t.history r.after) = omega arith in
            g;
        fit = record {
          legal = kept_is_legal t (t.base q.first) (t.history r.now) q.step q.answer a.fits
              (did.gives ∙ ap (λ (z : B). t.reply z (t.history r.now) q.step) hand.base);
          mine = λ l h. kept_of_no_other t l q.step q.answer (none_but l lane m.0.lanes rest.lanes h);
          below = kept_is_below t (length m.0.shares) q.step q.answer (share_inside m.0.shares lane (length m.0.own) room);
          within = λ l h. subst (λ (z : ℕ). length (of_lane t.lane z m.0.own) + length (of_lane t.lane z kept) ≤ slice_index m.0.shares z)
              (sym (one_of l lane m.0.lanes rest.lanes h))
              (let x = few_own m rest in let y = ap (λ (z : History S A). length z) (kept_is_own t q.step q.answer) in
              let z = kept_is_one t q.step q.answer in omega arith);
        };
      }

  -- the seat after its turn
  ended : (m m1 m2 m3 : Sitter M S A) (a : IsActing t q m m1 m2) → passed t m2 m3
      → m3 ≡ (record m.0 { stage = Idle; seen = t.history (turned m m1 m2 a).now ++ kept; own = m.0.own ++ kept }, [])
  ended m m1 m2 m3 a pass = let r = turned m m1 m2 a in let before : History S A = t.history r.now in
      pass r.after (ap (λ (x : Sitter M S A). x.1) r.is)
      ∙ (ap (λ (x : Sitter M S A). (
        record x.0 {
          stage = Idle;
          seen = t.history r.after;
          own = x.0.own ++ drop (length x.0.seen) (t.history r.after);
        },
        [],
      )) r.is
      ∙ (ap (λ (h : History S A). (record m.0 { stage = Idle; seen = h; own = m.0.own ++ drop (length before) h }, [])) r.did.history
      ∙ ap (λ (h : History S A). (record m.0 { stage = Idle; seen = before ++ kept; own = m.0.own ++ h }, [])) (drop_front before kept)))

  pub rests : (m m1 m2 m3 : Sitter M S A) → IsActing t q m m1 m2 → passed t m2 m3 → IsAtRest t lane m3
  rests m m1 m2 m3 a pass = let rest = a.rest in subst (IsAtRest t lane) (sym (ended m m1 m2 m3 a pass)) record {
    lanes = rest.lanes;
    stage = refl;
    hand = refl;
    met = rest.met;
    own = of_lane-append t.lane lane m.0.own kept
        ∙ (ap (λ (z : History S A). z ++ of_lane t.lane lane kept) rest.own
        ∙ ap (λ (z : History S A). m.0.own ++ z) (kept_is_own t q.step q.answer));
  }

  pub answers : (z z' : TableId) (m m1 m2 m3 : Sitter M S A) → IsActing t q m m1 m2 → passed t m2 m3
      → Answers t (t.base q.first) (seat_view z lane m) (seat_view z' lane m3) q.step q.answer
  answers z z' m m1 m2 m3 a pass = let r = turned m m1 m2 a in let rest = a.rest in let end = ended m m1 m2 m3 a pass in
      let hand = r.hand in record {
        before = t.history r.now;
        later = hand.later;
        legal = hand.legal;
        mine = sym (hand.own lane (has_one lane lane m.0.lanes rest.lanes refl)) ∙ rest.own;
        replied = r.did.gives ∙ ap (λ (b : B). t.reply b (t.history r.now) q.step) hand.base;
        seen = ap (λ (x : Sitter M S A). x.0.seen) end;
        own = ap (λ (x : Sitter M S A). x.0.own) end;
      }
