-- Each step of an act keeps the rule: a ticket is drawn, the ticket served is looked at, the turn is passed on.
use Rattle.std.proofs.Common.{◌≡◌, ℕ, zero, suc, ◌+◌, ◌%◌, ◌^◌, ◌<◌, ◌≤◌, ◌≢◌, Bool, true, false, List, [], ◌∷◌, ◌++◌, length, drop, set, get_or, sum, sum_by, slice_index, MatchBool, ◌==◌, Option, Some, None, refl, sym, ap, ◌∙◌, subst, true≢false, length-set, length-append, length-drop, get_or-set_same, get_or-set_other, eq-eqb, ne_eqb, append-nil, arith}
use Rattle.std.proofs.Math.Nat.{mod-add-mod}
use mathlib.Core.Logic.{dite}
use mathlib.Core.Option.{some, none, some-ne-none}
use native.Mathlib.Decide.{ℕ_discrete}
use lib.ListN.{get_elem?}
use lib.Seq.{set-get_or}
use Rattle.atomic_table.specs.Table.{State, Act, keeps, takes, gives, Valid, carried_after, stepped, Allows}
use Rattle.atomic_table.proofs.Lists.{set_again, at_longer, at_last, one_turn}
use Rattle.machine_model.specs.Histories.{History, Meaning, of_lane, AreBelow, IsLegal, BeginsWith}
use Rattle.machine_model.proofs.HistoryLaws.{begins_longer, begins_itself, drop_front, of_lane-append, below-append, legal-append, fewer}
use Rattle.lane_lock.specs.declared.view.Stage.{Stage}
use Rattle.lane_lock.specs.declared.view.Stage.TheVariants.{Idle, Waits, Turn}
use Rattle.lane_lock.specs.declared.view.View.{View}
use Rattle.lane_lock.specs.Rules.{Opening, Moment, has, tickets, Stands, Knows, IsLawful, IsAt, AreTickets, Ruled}
use Rattle.lane_lock.specs.Steps.{Sitter, ticket_of, drew, IsInHand, HasTurn, looked, passed, AreNews, CanPass}
use Rattle.lane_lock.proofs.Lists.{each_set, inside, one_there, sum_set, sum_at_most}

pub not_busy : (b : Bool) → ¬ (b ≡ true) → b ≡ false
not_busy true h = absurd (h refl)
not_busy false h = refl

pub home_if_free : (b : Bool) (P Q : Type 0) → b ≡ false → MatchBool b P Q → Q
home_if_free true P Q e h = absurd (true≢false e)
home_if_free false P Q e h = h

pub out_if_busy : (b : Bool) (P Q : Type 0) → b ≡ true → MatchBool b P Q → P
out_if_busy true P Q e h = h
out_if_busy false P Q e h = absurd (true≢false (sym e))

module _ {S A : Type 0} where
  -- a line with one more at its end
  abbrev longer_line : Moment S A → ℕ → Moment S A
  longer_line now id = record now { line = now.line ++ id ∷ [] }

  stands_in_longer : (now : Moment S A) (id seat : ℕ) (lanes : List ℕ) (seen : History S A) (stage : Stage)
      → Stands now seat lanes seen stage → Stands (longer_line now id) seat lanes seen stage
  stands_in_longer now id seat lanes seen Idle h = tt
  stands_in_longer now id seat lanes seen (Waits n) h = (h.0, (h.1.0, at_longer now.line (id ∷ []) h.1.0 seat h.1.1, h.1.2, h.1.3))
  stands_in_longer now id seat lanes seen Turn h = (h.0, h.1, at_longer now.line (id ∷ []) 0 seat h.2, h.3)

module _ {M : Type 0} where
  -- the machine in a hand, and the one of an opening
  abbrev pub machine_in : M → List (ℕ × Option M) → M
  machine_in m ((k, Some x) ∷ cs) = x
  machine_in m _ = m

  abbrev pub origin_in : M → Option M → M
  origin_in m (Some x) = x
  origin_in m None = m

module _ {M B S A : Type 0} (t : Meaning M B S A) (o : Opening M) where
  abbrev V : Type 0
  V = View M S A

  abbrev Rule : State (Option M) V → Type 0
  Rule = Ruled t o

  abbrev words : List ℕ → ℕ → ℕ
  words ws i = get_or ws i 0

  -- the same view at a moment with the same history and keepers
  knows_at : (now : Moment S A) (line : List ℕ) (served : ℕ) (busy : Bool) (j : ℕ) (v : V) → Knows t o now j v
      → Stands record { log = now.log; line = line; served = served; busy = busy; keeper = now.keeper } j v.lanes v.seen v.stage
      → Knows t o record { log = now.log; line = line; served = served; busy = busy; keeper = now.keeper } j v
  knows_at now line served busy j v k st = record {
    told = k.told;
    kept = k.kept;
    seen = k.seen;
    met = k.met;
    own = k.own;
    others = k.others;
    stage = st;
  }

  -- a view with another stage
  knows_in : (now : Moment S A) (j : ℕ) (v : V) (stage : Stage) → Knows t o now j v → Stands now j v.lanes v.seen stage
      → Knows t o now j record v { stage = stage }
  knows_in now j v stage k st = record {
    told = k.told;
    kept = k.kept;
    seen = k.seen;
    met = k.met;
    own = k.own;
    others = k.others;
    stage = st;
  }

  pub draws : (slots id : ℕ) (me : Sitter M S A) → me.0.stage ≡ Idle → 0 < length me.0.lanes
      → Allows Rule slots id me 0 (λ n. (n + 1) % 2 ^ 64) (drew me)
  draws slots id me idle some_lane s r _ at _ =
      let v : V = me.0 in let x : ℕ = words s.words 0 in let now : Moment S A = r.now in let w : V = record v { stage = Waits x } in
      let now' : Moment S A = longer_line now id in
      let wide = r.words.wide in let long = length-append now.line (id ∷ []) in let none_before : tickets v.stage ≡ 0 = ap tickets idle in (
        w,
        keeps,
        tt,
        record {
          now = now';
          words = record {
            wide = length-set s.words 0 ((x + 1) % 2 ^ 64) ∙ wide;
            next = get_or-set_same s.words 0 ((x + 1) % 2 ^ 64) 0 (omega arith) ∙ (ap (λ (z : ℕ). (z + 1) % 2 ^ 64) r.words.next
                ∙ (mod-add-mod (now.served + length now.line) (2 ^ 64) 1
                ∙ ap (λ (z : ℕ). z % 2 ^ 64) (let e : now.served + length now.line + 1 ≡ now.served + length (now.line ++ id ∷ []) =
                omega arith in e)));
            serves = get_or-set_other s.words 0 1 ((x + 1) % 2 ^ 64) 0 (λ e. omega arith) ∙ r.words.serves;
          };
          few = r.few;
          lanes = let a = sum_set (λ (u : V). length u.lanes) s.views id v w at in let b = r.lanes in
              let g : sum_by (λ (u : V). length u.lanes) (set s.views id w) ≤ length o.shares = omega arith in g;
          waiting = let a = sum_set (λ (u : V). tickets u.stage) s.views id v w at in let b = r.waiting in
              let g : sum_by (λ (u : V). tickets u.stage) (set s.views id w) ≡ length (now.line ++ id ∷ []) = omega arith in g;
          occupied = λ _. let g : 0 < length (now.line ++ id ∷ []) = omega arith in g;
          home = r.home;
          lawful = r.lawful;
          each = each_set (Knows t o now') s.views id w
              (knows_in now' id v (Waits x) (knows_at now now'.line now.served now.busy id v (r.each id v at)
              (stands_in_longer now id id v.lanes v.seen v.stage (r.each id v at).stage))
              (some_lane, (length now.line, at_last now.line id (length now.line) refl, r.words.next, r.occupied)))
              (λ j u other there. let k = r.each j u there in
              knows_at now now'.line now.served now.busy j u k (stands_in_longer now id j u.lanes u.seen u.stage k.stage));
        },
        refl,
      )

  -- nothing has changed
  stays : (s : State (Option M) V) (id : ℕ) (me : Sitter M S A) → Rule s → get_elem? s.views id ≡ some me.0
      → Rule (stepped s 1 (words s.words 1) id me.1 me.0 keeps)
  stays s id me r at = subst (λ (z : List ℕ × List V). Rule record { words = z.0; homes = s.homes; views = z.1 })
      (λ k. (sym (set-get_or s.words 1 0) k, sym (set_again s.views id me.0 at) k)) r

  -- a ticket needs a lane
  ticket_has_lane : (now : Moment S A) (seat : ℕ) (v : V) (stage : Stage) → Stands now seat v.lanes v.seen stage
      → tickets stage ≤ length v.lanes
  ticket_has_lane now seat v Idle h = omega arith
  ticket_has_lane now seat v (Waits n) h = let a : 0 < length v.lanes = h.0 in omega arith
  ticket_has_lane now seat v Turn h = let a : 0 < length v.lanes = h.0 in omega arith

  -- so no more tickets are out than there are lanes
  few_wait : (s : State (Option M) V) (r : Rule s) → length r.now.line ≤ 16
  few_wait s r = let a = sum_at_most (λ (u : V). tickets u.stage) (λ (u : V). length u.lanes) s.views
      (λ j u there. ticket_has_lane r.now j u u.stage (r.each j u there).stage) in
      let b = r.lanes in let c = r.waiting in let d = r.few in omega arith

  -- the ticket that is served is the first of the line, and nobody has the machine in hand
  first_in_line : (s : State (Option M) V) (r : Rule s) (id n p : ℕ) → get_elem? r.now.line p ≡ some id → n ≡ (r.now.served + p) % 2 ^ 64
      → words s.words 1 ≡ n → p ≡ 0
  first_in_line s r id n p there is served = let a = inside r.now.line p id there in let b = few_wait s r in
      let same : r.now.served ≡ r.now.served + p = one_turn r.now.served (r.now.served + p) (2 ^ 64) (omega arith) (omega arith)
      (sym r.words.serves ∙ (served ∙ is)) in omega arith

  -- the moment at which the head of the line has the machine
  abbrev taken : Moment S A → Moment S A
  taken now = record now { busy = true }

  -- who stands behind the head of the line still does
  stands_behind : (now : Moment S A) (id j : ℕ) (lanes : List ℕ) (seen : History S A) (stage : Stage) → get_elem? now.line 0 ≡ some id
      → j ≢ id → Stands now j lanes seen stage → Stands (taken now) j lanes seen stage
  stands_behind now id j lanes seen Idle first other h = tt
  stands_behind now id j lanes seen (Waits n) first other h = (
    h.0,
    (
      h.1.0,
      h.1.1,
      h.1.2,
      λ _. dite (ℕ_discrete h.1.0 0) (λ e. absurd
          (other (one_there now.line 0 j id (subst (λ (z : ℕ). get_elem? now.line z ≡ some j) e h.1.1) first))) (λ ne. omega arith),
    ),
  )
  stands_behind now id j lanes seen Turn first other h = (h.0, refl, h.2, h.3)

  -- what a seat knows of the machine that it takes
  in_hand : (now : Moment S A) (id : ℕ) (v : V) (machine : M) → Knows t o now id v → IsLawful t o now.log → IsAt t o now.log machine
      → 0 < length v.lanes → IsInHand t v o.machine machine
  in_hand now id v machine k lawful at some_lane = let told = k.told some_lane in record {
    base = at.base;
    later = subst (λ (z : History S A). BeginsWith z v.seen) (sym at.history) k.seen;
    legal = subst (λ (z : History S A). IsLegal t.fits t.reply (t.base o.machine) [] z) (sym at.history) lawful.legal;
    own = λ l h. k.own l h ∙ ap (of_lane t.lane l) (sym at.history);
    wide = let a = at.room in let b = ap (λ (z : List ℕ). sum z) told.1 in let c = ap (λ (z : History S A). length z) at.history in
        omega arith;
    room = λ l h less. let a = fewer t.lane o.shares now.log l lawful.below lawful.shared (k.kept l h).1
        (let b = ap (λ (z : List ℕ). slice_index z l) told.1 in let c = ap (λ (z : History S A). length z) (k.own l h) in omega arith) in
        let d = at.room in omega arith;
  }

  -- the slot is home, and the seat takes the machine out of it
  takes_turn : (s : State (Option M) V) (r : Rule s) (id n : ℕ) (v : V) → get_elem? s.views id ≡ some v → v.stage ≡ Waits n
      → words s.words 1 ≡ n
      → (w : V) × (a : Act (Option M)) × Valid s.homes [] a × Rule (stepped s 1 (words s.words 1) id [] w a)
      × HasTurn t v (w, carried_after [] a)
  takes_turn s r id n v at waits served =
      let now : Moment S A = r.now in let k = r.each id v at in let st = subst (Stands now id v.lanes v.seen) waits k.stage in
      let p : ℕ = st.1.0 in
      let first : p ≡ 0 = first_in_line s r id n p st.1.1 st.1.2 served in
      let head : get_elem? now.line 0 ≡ some id = subst (λ (z : ℕ). get_elem? now.line z ≡ some id) first st.1.1 in
      let free : now.busy ≡ false = not_busy now.busy (λ b. let h = st.1.3 b in omega arith) in
      let home = home_if_free now.busy _ _ free r.home in let machine : M = home.0 in
      let w : V = record v { stage = Turn; seen = t.history machine } in let one_before : tickets v.stage ≡ 1 = ap tickets waits in
      let there = inside now.line 0 id head in (
        w,
        takes 0 (Some machine),
        ap (λ (hs : List _). get_elem? hs 0) home.1,
        record {
          now = taken now;
          words = subst (λ (ws : List ℕ). AreTickets ws now.served (length now.line)) (sym (set-get_or s.words 1 0)) r.words;
          few = r.few;
          lanes = let a = sum_set (λ (u : V). length u.lanes) s.views id v w at in let b = r.lanes in
              let g : sum_by (λ (u : V). length u.lanes) (set s.views id w) ≤ length o.shares = omega arith in g;
          waiting = let a = sum_set (λ (u : V). tickets u.stage) s.views id v w at in let b = r.waiting in
              let g : sum_by (λ (u : V). tickets u.stage) (set s.views id w) ≡ length now.line = omega arith in g;
          occupied = λ _. there;
          home = ap (λ (hs : List _). set hs 0 none) home.1;
          lawful = r.lawful;
          each = each_set (Knows t o (taken now)) s.views id w
              record {
                told = k.told;
                kept = k.kept;
                seen = subst (λ (z : History S A). BeginsWith z (t.history machine)) home.2.history (begins_itself (t.history machine));
                met = k.met;
                own = k.own;
                others = k.others;
                stage = (st.0, refl, head, home.2.history);
              }
              (λ j u other at_j. let u_knows = r.each j u at_j in
              knows_at now now.line now.served true j u u_knows
              (stands_behind now id j u.lanes u.seen u.stage head other u_knows.stage));
        },
        (o.machine, machine, (k.told st.0).0, in_hand now id v machine k r.lawful home.2 st.0, refl),
      )

  -- what a look tells, by whether the ticket is served
  abbrev Told : V → List (ℕ × Option M) → Bool → Sitter M S A → Type 0
  Told v cs b m = MatchBool b (HasTurn t v m) (m ≡ (v, cs))

  pub looks : (slots id n : ℕ) (me : Sitter M S A) → me.0.stage ≡ Waits n → me.1 ≡ [] → Allows Rule slots id me 1 (λ x. x) (looked t me)
  looks slots id n me waits empty s r _ at _ =
      let v : V = me.0 in let x : ℕ = words s.words 1 in let ticket : ticket_of v.stage ≡ n = ap ticket_of waits in
      dite (ℕ_discrete x n)
      (λ hit. subst
      (λ (cs : List (ℕ × Option M)). (w : V) × (a : Act (Option M)) × Valid s.homes cs a × Rule (stepped s 1 x id cs w a)
      × Told v cs (x == ticket_of v.stage) (w, carried_after cs a))
      (sym empty)
      (let h = takes_turn s r id n v at waits hit in (
        h.0,
        h.1,
        h.2,
        h.3,
        subst (λ b. Told v [] b (h.0, carried_after [] h.1))
            (sym (eq-eqb x (ticket_of v.stage) (hit ∙ sym ticket))) h.4,
      )))
      (λ miss. (
        v,
        keeps,
        tt,
        stays s id me r at,
        subst (λ b. Told v me.1 b me) (sym (ne_eqb x (ticket_of v.stage) (λ e. miss (e ∙ ticket)))) refl,
      ))

  -- the moment after the head of the line has passed the turn on
  abbrev left : Moment S A → History S A → Moment S A
  left now news = record now { log = now.log ++ news; line = drop 1 now.line; served = now.served + 1; busy = false }

  dropped : (xs : List ℕ) (p j : ℕ) → get_elem? xs p ≡ some j → 0 < p → (q : ℕ) × (p ≡ q + 1) × (get_elem? (drop 1 xs) q ≡ some j)
  dropped [] p j there behind = absurd (some-ne-none j (sym there))
  dropped (x ∷ xs) zero j there behind = absurd (omega arith)
  dropped (x ∷ xs) (suc q) j there behind = (q, omega arith, there)

  -- who stands behind moves up
  moves_up : (now : Moment S A) (news : History S A) (id j : ℕ) (lanes : List ℕ) (seen : History S A) (stage : Stage) → now.busy ≡ true
      → get_elem? now.line 0 ≡ some id → j ≢ id
      → Stands now j lanes seen stage → Stands (left now news) j lanes seen stage
  moves_up now news id j lanes seen Idle busy first other h = tt
  moves_up now news id j lanes seen (Waits n) busy first other h = let d = dropped now.line h.1.0 j h.1.1 (h.1.3 busy) in
      (h.0, (d.0, d.2, h.1.2 ∙ ap (λ (z : ℕ). z % 2 ^ 64) (let e = d.1 in omega arith), λ b. absurd (true≢false (sym b))))
  moves_up now news id j lanes seen Turn busy first other h = absurd (other (one_there now.line 0 j id h.2 first))

  -- the events of a lane, where what is new has none of it
  none_new : (l : ℕ) (xs news : History S A) → of_lane t.lane l news ≡ [] → of_lane t.lane l (xs ++ news) ≡ of_lane t.lane l xs
  none_new l xs news nothing = of_lane-append t.lane l xs news
      ∙ (ap (λ (z : History S A). of_lane t.lane l xs ++ z) nothing ∙ append-nil (of_lane t.lane l xs))

  -- the history with what is new
  lawful_with : (now : Moment S A) (id : ℕ) (v : V) (news : History S A) → IsLawful t o now.log → Knows t o now id v → v.seen ≡ now.log
      → v.shares ≡ o.shares → AreNews t v o.machine news → IsLawful t o (now.log ++ news)
  lawful_with now id v news r k seen shares fit = record {
    legal = legal-append t.fits t.reply (t.base o.machine) [] now.log news r.legal
        (subst (λ (z : History S A). IsLegal t.fits t.reply (t.base o.machine) z news) seen fit.legal);
    below = below-append t.lane (length o.shares) now.log news r.below
        (subst (λ (z : List ℕ). AreBelow t.lane (length z) news) shares fit.below);
    shared = λ l h. by_keeping l h (has l v.lanes) refl;
  }
    where
      by_keeping : (l : ℕ) → l < length o.shares → (b : Bool) → has l v.lanes ≡ b
          → length (of_lane t.lane l (now.log ++ news)) ≤ slice_index o.shares l
      by_keeping l h true mine = let a = fit.within l mine in let b = ap (λ (z : History S A). length z) (k.own l mine) in
          let c = ap (λ (z : List ℕ). slice_index z l) shares in
          let d = ap (λ (z : History S A). length z) (of_lane-append t.lane l now.log news) in
          let e = length-append (of_lane t.lane l now.log) (of_lane t.lane l news) in omega arith
      by_keeping l h false other = let a = ap (λ (z : History S A). length z) (none_new l now.log news (fit.mine l other)) in
          let b = r.shared l h in omega arith

  -- what the seat knows that passes the turn on
  knows_left : (now : Moment S A) (id : ℕ) (v : V) (news all : History S A) → Knows t o now id v → v.seen ≡ now.log → all ≡ v.seen ++ news
      → ((l : ℕ) → has l v.lanes ≡ false → of_lane t.lane l news ≡ [])
      → Knows t o (left now news) id record v { stage = Idle; seen = all; own = v.own ++ drop (length v.seen) all }
  knows_left now id v news all k seen is mine =
      let behind : drop (length v.seen) all ≡ news = ap (λ (z : History S A). drop (length v.seen) z) is ∙ drop_front v.seen news in
      let whole : all ≡ now.log ++ news = is ∙ ap (λ (z : History S A). z ++ news) seen in record {
        told = k.told;
        kept = k.kept;
        seen = subst (λ (z : History S A). BeginsWith z all) whole (begins_itself all);
        met = λ i x there. begins_longer now.log x news (k.met i x there);
        own = λ l h. ap (λ (z : History S A). of_lane t.lane l (v.own ++ z)) behind ∙ (of_lane-append t.lane l v.own news
            ∙ (ap (λ (z : History S A). z ++ of_lane t.lane l news) (k.own l h) ∙ sym (of_lane-append t.lane l now.log news)));
        others = λ l h. ap (λ (z : History S A). of_lane t.lane l (v.own ++ z)) behind ∙ (none_new l v.own news (mine l h) ∙ k.others l h);
        stage = tt;
      }

  -- and what another seat knows
  knows_still : (now : Moment S A) (id j : ℕ) (v u : V) (news : History S A) → Knows t o now id v → Knows t o now j u → now.busy ≡ true
      → get_elem? now.line 0 ≡ some id → j ≢ id
      → ((l : ℕ) → has l v.lanes ≡ false → of_lane t.lane l news ≡ []) → Knows t o (left now news) j u
  knows_still now id j v u news k u_knows busy first other mine = record {
    told = u_knows.told;
    kept = u_knows.kept;
    seen = begins_longer now.log u.seen news u_knows.seen;
    met = λ i x there. begins_longer now.log x news (u_knows.met i x there);
    own = λ l h. u_knows.own l h ∙ sym
        (none_new l now.log news (mine l (not_busy (has l v.lanes) (λ is. other (sym (u_knows.kept l h).0 ∙ (k.kept l is).0)))));
    others = u_knows.others;
    stage = moves_up now news id j u.lanes u.seen u.stage busy first other u_knows.stage;
  }

  pub leaves : (slots id : ℕ) (me : Sitter M S A) → CanPass t me → Allows Rule slots id me 1 (λ n. (n + 1) % 2 ^ 64) (λ _. passed t me)
  leaves slots id me can s r _ at _ =
      let v : V = me.0 in let x : ℕ = words s.words 1 in let now : Moment S A = r.now in let k = r.each id v at in
      let st = subst (Stands now id v.lanes v.seen) can.turn k.stage in
      let told = k.told st.0 in let one : can.machine ≡ o.machine = ap (origin_in can.machine) (sym can.told ∙ told.0) in
      let news : History S A = can.news in let m : M = can.now in
      let fit = subst (λ (z : M). AreNews t v z news) one can.fit in let out = out_if_busy now.busy _ _ st.1 r.home in
      let all : History S A = t.history m in
      let whole : all ≡ now.log ++ news = can.history ∙ ap (λ (z : History S A). z ++ news) st.3 in
      let w : V = record v { stage = Idle; seen = all; own = v.own ++ drop (length v.seen) all } in
      let one_before : tickets v.stage ≡ 1 = ap tickets can.turn in let there = inside now.line 0 id st.2 in let wide = r.words.wide in
      let shorter = length-drop 1 now.line in
      subst
      (λ (cs : List (ℕ × Option M)). (w : V) × (a : Act (Option M)) × Valid s.homes cs a × Rule (stepped s 1 ((x + 1) % 2 ^ 64) id cs w a)
      × passed t (v, cs) (w, carried_after cs a))
      (sym can.hand) (
        w,
        gives,
        tt,
        record {
          now = left now news;
          words = record {
            wide = length-set s.words 1 ((x + 1) % 2 ^ 64) ∙ wide;
            next = get_or-set_other s.words 1 0 ((x + 1) % 2 ^ 64) 0 (λ e. omega arith)
                ∙ (r.words.next ∙ ap (λ (z : ℕ). z % 2 ^ 64)
                (let e : now.served + length now.line ≡ now.served + 1 + length (drop 1 now.line) = omega arith in e));
            serves = get_or-set_same s.words 1 ((x + 1) % 2 ^ 64) 0 (omega arith)
                ∙ (ap (λ (z : ℕ). (z + 1) % 2 ^ 64) r.words.serves ∙ mod-add-mod now.served (2 ^ 64) 1);
          };
          few = r.few;
          lanes = let a = sum_set (λ (u : V). length u.lanes) s.views id v w at in let b = r.lanes in
              let g : sum_by (λ (u : V). length u.lanes) (set s.views id w) ≤ length o.shares = omega arith in g;
          waiting = let a = sum_set (λ (u : V). tickets u.stage) s.views id v w at in let b = r.waiting in
              let g : sum_by (λ (u : V). tickets u.stage) (set s.views id w) ≡ length (drop 1 now.line) = omega arith in g;
          occupied = λ b. absurd (true≢false (sym b));
          home = (
            m,
            ap (λ (hs : List _). set hs 0 (some (Some m))) out,
            record {
              base = can.base ∙ ap t.base one;
              history = whole;
              room = let a = can.wide in let b = ap (λ (z : List ℕ). sum z) told.1 in let c = ap (λ (z : History S A). length z) whole in
                  let g : sum o.shares ≤ t.spare m + length (now.log ++ news) = omega arith in g;
            },
          );
          lawful = lawful_with now id v news r.lawful k st.3 told.1 fit;
          each = each_set (Knows t o (left now news)) s.views id w (knows_left now id v news all k st.3 can.history fit.mine)
              (λ j u other at_j. knows_still now id j v u news k (r.each j u at_j) st.1 st.2 other fit.mine);
        },
        (λ m' e. ap (λ (z : M). (record v { stage = Idle; seen = t.history z; own = v.own ++ drop (length v.seen) (t.history z) }, []))
            (ap (machine_in m) e)),
      )
