-- The lock at its two ends: it opens under its rule, seats are cut off and taken in again, and what it closes with.
use Rattle.std.proofs.Common.{◌≡◌, ℕ, zero, suc, ◌+◌, ◌<◌, ◌≤◌, ◌≢◌, Bool, true, false, ◌||◌, ◌==◌, if◌then◌else◌, List, [], ◌∷◌, ◌++◌, length, take, drop, set, sum, sum_by, Option, Some, refl, sym, ap, ◌∙◌, subst, ⊎_elim, true≢false, T, eqb→eq, length-append, length-set, eq-eqb, ne_eqb, append-nil, arith}
use Rattle.std.proofs.lemmas.List.Sums.{sum_by_push}
use mathlib.Core.Option.{some, some-ne-none}
use lib.ListN.{get_elem?}
use Rattle.atomic_table.specs.Table.{State, Splits, Joins, opening, Final, Seen}
use Rattle.atomic_table.proofs.Lists.{set_else}
use Rattle.machine_model.specs.Histories.{History, Meaning, of_lane, AreBelow, IsLegal, BeginsWith}
use Rattle.machine_model.proofs.HistoryLaws.{of_lane-append}
use Rattle.lane_lock.specs.declared.view.Stage.{Stage}
use Rattle.lane_lock.specs.declared.view.Stage.TheVariants.{Idle, Waits, Turn}
use Rattle.lane_lock.specs.declared.view.View.{View}
use Rattle.lane_lock.specs.Rules.{Opening, Moment, has, tickets, Stands, Knows, Ruled, opening_of, lanes_from, newcomer}
use Rattle.lane_lock.specs.Steps.{keeping, given, joined, spent}
use Rattle.lane_lock.specs.Gathering.{Ended}
use Rattle.lane_lock.proofs.Lists.{each_set, at_end, one_there, each_append, each_cons, sum_set, sum_nothing, has-append}
use Rattle.lane_lock.proofs.Steps.{not_busy, home_if_free, origin_in}
use Rattle.lane_lock.proofs.Acting.{one_of}

-- lanes from one on are no others
pub from_below : (l from n : ℕ) → has l (lanes_from from n) ≡ true → (from ≤ l) × (l < from + n)
from_below l from zero h = absurd (true≢false (sym h))
from_below l from (suc n) h = at (from == l) refl h (from_below l (from + 1) n)
  where
    at : (b : Bool) → (from == l) ≡ b → (b || has l (lanes_from (from + 1) n)) ≡ true
        → (has l (lanes_from (from + 1) n) ≡ true → (from + 1 ≤ l) × (l < from + 1 + n)) → (from ≤ l) × (l < from + suc n)
    at true is h next = let e : from ≡ l = eqb→eq from l (subst T (sym is) tt) in (omega arith, omega arith)
    at false is h next = let a = next h in let b = a.0 in let c = a.1 in (omega arith, omega arith)

length-lanes_from : (from n : ℕ) → length (lanes_from from n) ≡ n
length-lanes_from from zero = refl
length-lanes_from from (suc n) = ap suc (length-lanes_from (from + 1) n)

module _ {S A : Type 0} where
  abbrev with_keeper : Moment S A → (ℕ → ℕ) → Moment S A
  with_keeper now keeper = record now { keeper = keeper }

  stands_kept : (now : Moment S A) (keeper : ℕ → ℕ) (seat : ℕ) (lanes : List ℕ) (seen : History S A) (stage : Stage)
      → Stands now seat lanes seen stage → Stands (with_keeper now keeper) seat lanes seen stage
  stands_kept now keeper seat lanes seen Idle h = tt
  stands_kept now keeper seat lanes seen (Waits n) h = h
  stands_kept now keeper seat lanes seen Turn h = h

  no_events : (lane : S → ℕ) (l : ℕ) (own : History S A) → own ≡ [] → of_lane lane l own ≡ []
  no_events lane l own nothing = ap (of_lane lane l) nothing

module _ {M B S A : Type 0} (t : Meaning M B S A) (o : Opening M) where
  abbrev V : Type 0
  V = View M S A

  abbrev Rule : State (Option M) V → Type 0
  Rule = Ruled t o

  -- a view whose lanes have the same keeper as before
  knows_kept : (now : Moment S A) (keeper : ℕ → ℕ) (j : ℕ) (v : V) → Knows t o now j v
      → ((l : ℕ) → has l v.lanes ≡ true → keeper l ≡ now.keeper l) → Knows t o (with_keeper now keeper) j v
  knows_kept now keeper j v k same = record {
    told = k.told;
    kept = λ l h. (same l h ∙ (k.kept l h).0, (k.kept l h).1);
    seen = k.seen;
    met = k.met;
    own = k.own;
    others = k.others;
    stage = stands_kept now keeper j v.lanes v.seen v.stage k.stage;
  }

  abbrev start : Moment S A
  start = record { log = []; line = []; served = 0; busy = false; keeper = λ _. 0 }

  first_knows : Knows t o start 0 (newcomer o)
  first_knows = record {
    told = λ _. (refl, refl);
    kept = λ l h. (refl, let a = (from_below l 0 (length o.shares) h).1 in omega arith);
    seen = ([], refl);
    met = λ k x there. absurd (some-ne-none x (sym there));
    own = λ l h. refl;
    others = λ l h. refl;
    stage = tt;
  }

  -- the lock opens under its rule
  pub opens : t.history o.machine ≡ [] → sum o.shares ≤ t.spare o.machine → length o.shares ≤ 16
      → Rule (opening (0 ∷ 0 ∷ []) (Some o.machine ∷ []) (newcomer o))
  opens fresh enough few = record {
    now = start;
    words = record { wide = refl; next = refl; serves = refl };
    few = few;
    lanes = let a = length-lanes_from 0 (length o.shares) in
        let g : 0 + length (lanes_from 0 (length o.shares)) ≤ length o.shares = omega arith in g;
    waiting = refl;
    occupied = λ b. absurd (true≢false (sym b));
    home = (
      o.machine,
      refl,
      record { base = refl; history = fresh; room = let g : sum o.shares ≤ t.spare o.machine + 0 = omega arith in g },
    );
    lawful = record { legal = tt; below = tt; shared = λ l h. omega arith };
    each = λ j v there. ⊎_elim
        (λ (h : get_elem? [] j ≡ some v). absurd (some-ne-none v (sym h)))
        (λ (h : (j ≡ 0) × (newcomer o ≡ v)). subst (λ (z : ℕ × V). Knows t o start z.0 z.1) (λ i. (sym h.0 i, h.1 i)) first_knows)
        (at_end [] (newcomer o) j v there);
  }

  -- after a split a new seat keeps the lane
  abbrev handed : (ℕ → ℕ) → ℕ → ℕ → ℕ → ℕ
  handed keeper lane seat l = if lane == l then seat else keeper l

  handed_here : (keeper : ℕ → ℕ) (lane seat l : ℕ) → lane ≡ l → handed keeper lane seat l ≡ seat
  handed_here keeper lane seat l is = ap (λ b. if b then seat else keeper l) (eq-eqb lane l is)

  handed_else : (keeper : ℕ → ℕ) (lane seat l : ℕ) → lane ≢ l → handed keeper lane seat l ≡ keeper l
  handed_else keeper lane seat l other = ap (λ b. if b then seat else keeper l) (ne_eqb lane l other)

  pub has_first : (l lane : ℕ) (lanes : List ℕ) → lane ≡ l → has l (lane ∷ lanes) ≡ true
  has_first l lane lanes is = ap (λ (b : Bool). b || has l lanes) (eq-eqb lane l is)

  has_later : (l lane : ℕ) (lanes : List ℕ) → has l lanes ≡ true → has l (lane ∷ lanes) ≡ true
  has_later l lane lanes h = at (lane == l)
    where
      at : (b : Bool) → (b || has l lanes) ≡ true
      at true = refl
      at false = h

  -- what the seat keeps that gives a lane away
  knows_keeping : (now : Moment S A) (id seat : ℕ) (v : V) (lane : ℕ) (rest : List ℕ) → v.lanes ≡ lane ∷ rest → has lane rest ≡ false
      → v.own ≡ [] → v.stage ≡ Idle → Knows t o now id v → Knows t o (with_keeper now (handed now.keeper lane seat)) id (keeping v)
  knows_keeping now id seat v lane rest lanes once nothing idle k =
      let fewer : (l : ℕ) → has l (drop 1 v.lanes) ≡ true → has l rest ≡ true = λ l h. sym (ap (λ (z : List ℕ). has l (drop 1 z)) lanes)
      ∙ h in
      let among : (l : ℕ) → has l (drop 1 v.lanes) ≡ true → has l v.lanes ≡ true = λ l h. ap (has l) lanes
      ∙ has_later l lane rest (fewer l h) in
      record {
        told = λ h. k.told (let a = ap (λ (z : List ℕ). length z) lanes in let b = ap (λ (z : List ℕ). length (drop 1 z)) lanes in
            omega arith);
        kept = λ l h. (
          handed_else now.keeper lane seat l (λ is. true≢false (sym (fewer l h) ∙ (ap (λ (z : ℕ). has z rest) (sym is) ∙ once)))
              ∙ (k.kept l (among l h)).0,
          (k.kept l (among l h)).1,
        );
        seen = k.seen;
        met = k.met;
        own = λ l h. k.own l (among l h);
        others = λ l h. no_events t.lane l v.own nothing;
        stage = subst (Stands (with_keeper now (handed now.keeper lane seat)) id (drop 1 v.lanes) v.seen) (sym idle) tt;
      }

  -- and the one that gets it
  knows_given : (now : Moment S A) (id seat : ℕ) (v : V) (lane : ℕ) (rest : List ℕ) → v.lanes ≡ lane ∷ rest → v.own ≡ []
      → Knows t o now id v
      → Knows t o (with_keeper now (handed now.keeper lane seat)) seat (given v)
  knows_given now id seat v lane rest lanes nothing k =
      let one : take 1 v.lanes ≡ lane ∷ [] = ap (take 1) lanes in
      let same : (l : ℕ) → has l (take 1 v.lanes) ≡ true → lane ≡ l = λ l h. sym (one_of l lane (take 1 v.lanes) one h) in
      let among : (l : ℕ) → has l (take 1 v.lanes) ≡ true → has l v.lanes ≡ true = λ l h. ap (has l) lanes
      ∙ has_first l lane rest (same l h) in
      record {
        told = λ h. k.told (let a = ap (λ (z : List ℕ). length z) lanes in omega arith);
        kept = λ l h. (handed_here now.keeper lane seat l (same l h), (k.kept l (among l h)).1);
        seen = k.seen;
        met = λ i x there. absurd (some-ne-none x (sym there));
        own = λ l h. sym (no_events t.lane l v.own nothing) ∙ k.own l (among l h);
        others = λ l h. refl;
        stage = tt;
      }

  pub splits : (id : ℕ) (v : V) (lane : ℕ) (rest : List ℕ) → v.lanes ≡ lane ∷ rest → has lane rest ≡ false → v.own ≡ [] → v.stage ≡ Idle
      → Splits Rule id v (keeping v) (given v)
  splits id v lane rest lanes once nothing idle s r at =
      let now : Moment S A = r.now in let k = r.each id v at in let seat : ℕ = length s.views in
      let after : Moment S A = with_keeper now (handed now.keeper lane seat) in let views : List V = set s.views id (keeping v) in
      let gave : length (drop 1 v.lanes) + length (take 1 v.lanes) ≡ length v.lanes =
      subst (λ (z : List ℕ). length (drop 1 z) + length (take 1 z) ≡ length z) (sym lanes)
      (let g : length rest + 1 ≡ suc (length rest) = omega arith in g) in
      let long = length-set s.views id (keeping v) in
      let keeps_lane = (k.kept lane (ap (has lane) lanes ∙ has_first lane lane rest refl)).0 in record {
        now = after;
        words = r.words;
        few = r.few;
        lanes = let a = sum_set (λ (u : V). length u.lanes) s.views id v (keeping v) at in let b = r.lanes in
            let c = sum_by_push (λ (u : V). length u.lanes) views (given v) in
            let g : sum_by (λ (u : V). length u.lanes) (views ++ given v ∷ []) ≤ length o.shares = omega arith in g;
        waiting = let a = sum_set (λ (u : V). tickets u.stage) s.views id v (keeping v) at in let b = r.waiting in
            let c = sum_by_push (λ (u : V). tickets u.stage) views (given v) in
            let g : sum_by (λ (u : V). tickets u.stage) (views ++ given v ∷ []) ≡ length now.line = omega arith in g;
        occupied = r.occupied;
        home = r.home;
        lawful = r.lawful;
        each = λ j u there. ⊎_elim
            (λ (h : get_elem? views j ≡ some u). each_set (Knows t o after) s.views id (keeping v)
            (knows_keeping now id seat v lane rest lanes once nothing idle k)
            (λ i x other at_i. let x_knows = r.each i x at_i in knows_kept now (handed now.keeper lane seat) i x x_knows
            (λ l h. handed_else now.keeper lane seat l (λ is. other (sym (x_knows.kept l h).0 ∙ (ap now.keeper (sym is) ∙ keeps_lane))))) j
            u h)
            (λ (h : (j ≡ length views) × (given v ≡ u)). subst (λ (z : ℕ × V). Knows t o after z.0 z.1) (λ i. (sym (h.0 ∙ long) i, h.1 i))
            (knows_given now id seat v lane rest lanes nothing k))
            (at_end views (given v) j u there);
      }

  -- after a join the seat keeps the other's lanes too
  abbrev taken_in : (ℕ → ℕ) → List ℕ → ℕ → ℕ → ℕ
  taken_in keeper lanes seat l = if has l lanes then seat else keeper l

  taken_here : (keeper : ℕ → ℕ) (lanes : List ℕ) (seat l : ℕ) → has l lanes ≡ true → taken_in keeper lanes seat l ≡ seat
  taken_here keeper lanes seat l is = ap (λ b. if b then seat else keeper l) is

  taken_else : (keeper : ℕ → ℕ) (lanes : List ℕ) (seat l : ℕ) → has l lanes ≡ false → taken_in keeper lanes seat l ≡ keeper l
  taken_else keeper lanes seat l is = ap (λ b. if b then seat else keeper l) is

  neither : (a b : Bool) → (a || b) ≡ false → (a ≡ false) × (b ≡ false)
  neither true b h = absurd (true≢false h)
  neither false b h = (refl, h)

  either_one : (a b : Bool) → (a || b) ≡ true → a ≡ false → b ≡ true
  either_one true b h none_left = absurd (true≢false none_left)
  either_one false b h none_left = h

  -- what the seat knows that takes another in
  knows_joined : (now : Moment S A) (id other : ℕ) (v u : V) → 0 < length v.lanes → v.stage ≡ Idle → other ≢ id → Knows t o now id v
      → Knows t o now other u
      → Knows t o (with_keeper now (taken_in now.keeper u.lanes id)) id (joined v u)
  knows_joined now id other v u some_lane idle apart k h = record {
    told = λ _. k.told some_lane;
    kept = λ l is. kept_by l (has l u.lanes) refl (sym (has-append l v.lanes u.lanes) ∙ is);
    seen = k.seen;
    met = each_append (λ x. BeginsWith now.log x) v.met (u.seen ∷ u.met) k.met
        (each_cons (λ x. BeginsWith now.log x) u.seen u.met h.seen h.met);
    own = λ l is. own_of l (has l v.lanes) refl (sym (has-append l v.lanes u.lanes) ∙ is);
    others = λ l is. let both = neither (has l v.lanes) (has l u.lanes) (sym (has-append l v.lanes u.lanes) ∙ is) in
        of_lane-append t.lane l v.own u.own
        ∙ (ap (λ (z : History S A). z ++ of_lane t.lane l u.own) (k.others l both.0) ∙ h.others l both.1);
    stage = subst (Stands (with_keeper now (taken_in now.keeper u.lanes id)) id (v.lanes ++ u.lanes) v.seen) (sym idle) tt;
  }
    where
      kept_by : (l : ℕ) (b : Bool) → has l u.lanes ≡ b → (has l v.lanes || has l u.lanes) ≡ true → (taken_in now.keeper u.lanes id l ≡ id)
          × (l < length o.shares)
      kept_by l true there is = (taken_here now.keeper u.lanes id l there, (h.kept l there).1)
      kept_by l false there is = let mine : has l v.lanes ≡ true = first_one (has l v.lanes) (has l u.lanes) is there in
          (taken_else now.keeper u.lanes id l there ∙ (k.kept l mine).0, (k.kept l mine).1)
        where
          first_one : (a b : Bool) → (a || b) ≡ true → b ≡ false → a ≡ true
          first_one true b e f = refl
          first_one false b e f = absurd (true≢false (sym e ∙ f))

      own_of : (l : ℕ) (b : Bool) → has l v.lanes ≡ b → (has l v.lanes || has l u.lanes) ≡ true
          → of_lane t.lane l (v.own ++ u.own) ≡ of_lane t.lane l now.log
      own_of l true mine is = let theirs : has l u.lanes ≡ false = not_busy (has l u.lanes)
          (λ there. apart (sym (h.kept l there).0 ∙ (k.kept l mine).0)) in
          of_lane-append t.lane l v.own u.own
          ∙ (ap (λ (z : History S A). of_lane t.lane l v.own ++ z) (h.others l theirs)
          ∙ (append-nil (of_lane t.lane l v.own) ∙ k.own l mine))
      own_of l false mine is = of_lane-append t.lane l v.own u.own
          ∙ (ap (λ (z : History S A). z ++ of_lane t.lane l u.own) (k.others l mine)
          ∙ h.own l (either_one (has l v.lanes) (has l u.lanes) is mine))

  -- a spent seat knows nothing
  knows_nothing : (now : Moment S A) (j : ℕ) → Knows t o now j spent
  knows_nothing now j = record {
    told = λ h. absurd (omega arith);
    kept = λ l h. absurd (true≢false (sym h));
    seen = (now.log, refl);
    met = λ i x there. absurd (some-ne-none x (sym there));
    own = λ l h. absurd (true≢false (sym h));
    others = λ l h. refl;
    stage = tt;
  }

  pub joins : (id : ℕ) (v : V) (other : ℕ) (u : V) → 0 < length v.lanes → v.stage ≡ Idle → u.stage ≡ Idle
      → Joins Rule id v other u (joined v u) spent
  joins id v other u some_lane idle idle_too s r at apart there =
      let now : Moment S A = r.now in let k = r.each id v at in let views : List V = set s.views id (joined v u) in
      let there_before : get_elem? s.views other ≡ some u = sym (set_else s.views id other (joined v u) apart) ∙ there in
      let h = r.each other u there_before in
      let after : Moment S A = with_keeper now (taken_in now.keeper u.lanes id) in let together = length-append v.lanes u.lanes in
      let at_rest : tickets v.stage ≡ 0 = ap tickets idle in let at_rest_too : tickets u.stage ≡ 0 = ap tickets idle_too in record {
        now = after;
        words = r.words;
        few = r.few;
        lanes = let a = sum_set (λ (x : V). length x.lanes) s.views id v (joined v u) at in
            let b = sum_set (λ (x : V). length x.lanes) views other u spent there in let c = r.lanes in
            let g : sum_by (λ (x : V). length x.lanes) (set views other spent) ≤ length o.shares = omega arith in g;
        waiting = let a = sum_set (λ (x : V). tickets x.stage) s.views id v (joined v u) at in
            let b = sum_set (λ (x : V). tickets x.stage) views other u spent there in
            let c = r.waiting in let g : sum_by (λ (x : V). tickets x.stage) (set views other spent) ≡ length now.line = omega arith in g;
        occupied = r.occupied;
        home = r.home;
        lawful = r.lawful;
        each = each_set (Knows t o after) views other spent (knows_nothing after other)
            (λ j x not_other at_j. each_set (λ i y. i ≢ other → Knows t o after i y) s.views id (joined v u)
            (λ _. knows_joined now id other v u some_lane idle apart k h)
            (λ i y not_id at_i not_that. let y_knows = r.each i y at_i in knows_kept now (taken_in now.keeper u.lanes id) i y y_knows
            (λ l is. taken_else now.keeper u.lanes id l
            (not_busy (has l u.lanes) (λ theirs. not_that (sym (y_knows.kept l is).0 ∙ (h.kept l theirs).0))))) j x at_j not_other);
      }

  -- a seat that keeps all lanes leaves no ticket to any other
  no_ticket : (now : Moment S A) (id j : ℕ) (v u : V) → Knows t o now id v → ((l : ℕ) → l < length o.shares → has l v.lanes ≡ true)
      → tickets v.stage ≡ 0 → (j ≡ id → u ≡ v)
      → Knows t o now j u → tickets u.stage ≡ 0
  no_ticket now id j v u k all idle same h = at u.stage u.lanes h.stage h.kept refl
    where
      mine : (lanes : List ℕ) → 0 < length lanes → ((l : ℕ) → has l lanes ≡ true → (now.keeper l ≡ j) × (l < length o.shares)) → j ≡ id
      mine [] h keeps_them = absurd (omega arith)
      mine (l ∷ ls) h keeps_them = let a = keeps_them l (has_first l l ls refl) in sym a.0 ∙ (k.kept l (all l a.1)).0

      at : (stage : Stage) (lanes : List ℕ) → Stands now j lanes u.seen stage
          → ((l : ℕ) → has l lanes ≡ true → (now.keeper l ≡ j) × (l < length o.shares)) → u.stage ≡ stage
          → tickets stage ≡ 0
      at Idle lanes st keeps_them is = refl
      at (Waits n) lanes st keeps_them is = sym (ap tickets is)
          ∙ (ap (λ (x : V). tickets x.stage) (same (mine lanes st.0 keeps_them)) ∙ idle)
      at Turn lanes st keeps_them is = sym (ap tickets is) ∙ (ap (λ (x : V). tickets x.stage) (same (mine lanes st.0 keeps_them)) ∙ idle)

  -- what the table closes with, to a seat that keeps all lanes
  pub out_of : (id : ℕ) (v : V) (ws : List ℕ) (xs : List (Option M)) → v.stage ≡ Idle
      → ((l : ℕ) → l < length o.shares → has l v.lanes ≡ true) → Final (Seen Rule id v) ws xs
      → (machine : M) × (get_elem? xs 0 ≡ some (Some machine)) × Ended t o v machine
  out_of id v ws xs idle all f =
      let s = f.0 in let r : Rule s = f.1.0 in let at : get_elem? s.views id ≡ some v = f.1.1 in let now : Moment S A = r.now in
      let k = r.each id v at in
      let quiet = sum_nothing (λ (u : V). tickets u.stage) s.views (λ j u there. no_ticket now id j v u k all (ap tickets idle)
      (λ is. one_there s.views id u v (subst (λ (z : ℕ). get_elem? s.views z ≡ some u) is there) at) (r.each j u there)) in
      let free : now.busy ≡ false = not_busy now.busy (λ b. let a = r.occupied b in let c = r.waiting in absurd (omega arith)) in
      let home = home_if_free now.busy _ _ free r.home in let machine : M = home.0 in
      let is : now.log ≡ t.history machine = sym home.2.history in (
        machine,
        f.4 0 (Some machine) (ap (λ (hs : List _). get_elem? hs 0) home.1),
        record {
          base = home.2.base;
          legal = subst (λ (z : History S A). IsLegal t.fits t.reply (t.base o.machine) [] z) is r.lawful.legal;
          below = subst (λ (z : History S A). AreBelow t.lane (length o.shares) z) is r.lawful.below;
          seen = subst (λ (z : History S A). BeginsWith z v.seen) is k.seen;
          met = λ i x there. subst (λ (z : History S A). BeginsWith z x) is (k.met i x there);
          own = λ l h. k.own l h ∙ ap (of_lane t.lane l) is;
        },
      )

  -- the slot that the table closes with has a machine
  pub ends_with : (id : ℕ) (v : V) (ws : List ℕ) (xs : List (Option M)) → v.stage ≡ Idle
      → ((l : ℕ) → l < length o.shares → has l v.lanes ≡ true)
      → Final (Seen Rule id v) ws xs → (found : Option M) → get_elem? xs 0 ≡ some found → (machine : M) × (found ≡ Some machine)
      × Ended t o v machine
  ends_with id v ws xs idle all f found there = let out = out_of id v ws xs idle all f in
      (out.0, one_there xs 0 found (Some out.0) there out.1, out.2)

  pub ended_in : (id : ℕ) (v : V) (ws : List ℕ) (xs : List (Option M)) → v.stage ≡ Idle
      → ((l : ℕ) → l < length o.shares → has l v.lanes ≡ true)
      → Final (Seen Rule id v) ws xs → (found : Option M) → get_elem? xs 0 ≡ some found → (machine : M) → found ≡ Some machine
      → Ended t o v machine
  ended_in id v ws xs idle all f found there machine is = let end = ends_with id v ws xs idle all f found there in
      subst (Ended t o v) (ap (origin_in machine) (sym end.1 ∙ is)) end.2

module _ {M B S A : Type 0} (t : Meaning M B S A) where
  -- the same opening, told by copies of the machine and the shares
  pub opens_as : (machine copy : M) (shares copies : List ℕ) (slots : List (Option M)) → copy ≡ machine → copies ≡ shares
      → slots ≡ Some machine ∷ []
      → t.history machine ≡ [] → sum shares ≤ t.spare machine → length shares ≤ 16
      → Ruled t (opening_of copy copies) (opening (0 ∷ 0 ∷ []) slots (newcomer (opening_of copy copies)))
  opens_as machine copy shares copies slots same same_shares home fresh enough few =
      subst (λ (z : M × List ℕ × List (Option M)). Ruled t (opening_of z.0 z.1) (opening (0 ∷ 0 ∷ []) z.2 (newcomer (opening_of z.0 z.1))))
      (λ i. (sym same i, sym same_shares i, sym home i)) (opens t (opening_of machine shares) fresh enough few)
