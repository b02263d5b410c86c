-- What is kept when pointers are taken out: a home whose last pointer goes begins to wait.
use Rattle.std.proofs.Common.{◌≡◌, ℕ, Bool, true, false, cond, not, ◌&&◌, List, [], ◌∷◌, length, filter, Option, Some, None, refl, sym, ap, ◌∙◌, arith}
use Rattle.std.specs.List.{AllByRecursion, find}
use Rattle.std.proofs.lemmas.Bool.Decides.{nat_tests}
use Rattle.ddt_entry.specs.declared.key.Key.{Key}
use Rattle.ddt_entry.specs.declared.entry.Home.{Home}
use Rattle.ddt_entry.specs.Keys.{key_eq}
use Rattle.ddt_entry.proofs.KeyLaws.{key_eq-symm}
use Rattle.pool_model.specs.Pool.{Pointer, Pairwise, IsApart, GoTogether, SharesHome, LiesWithin, run_length, is_tracked, is_at, tracks, comes_before}
use Rattle.pool_model.specs.Table.{counted, IsApartFrom}
use Rattle.pool_model.specs.Command.{home_at}
use Rattle.pool_model.proofs.Pointers.{all_fail, first_has, apart_turned, tracks-key}
use Rattle.pool_model.proofs.Homes.{left_after, home_now}
use Rattle.pool_model.proofs.Keeping.{Waits, IsOpen, HomeWithin, IsKept}
use Rattle.pool_model.proofs.Joining.{Beside, first_beside}
use Rattle.pool_model.proofs.Lists.{all_filter, pairs_filter, filter_whole, all_from, all_from_both}

-- a home that a key has: one that waits, or that of its first counted pointer
pub data HasHome (ps : List Pointer) (left : Key → Option Home) (key : Key) (home : Home) : Type 0 where
  waiting_home : Waits ps left key home → HasHome ps left key home
  pointers_home : (q : Pointer) (rest : List Pointer) → filter (tracks key) ps ≡ q ∷ rest → home.place ≡ q.place → home.birth ≡ q.birth
      → HasHome ps left key home

-- the home of a key is one of these
pub has_now : (ps : List Pointer) (left : Key → Option Home) (key : Key) (home : Home)
    → home_now (left key) (filter (tracks key) ps) ≡ Some home → HasHome ps left key home
has_now ps left key home is = by_list (filter (tracks key) ps) refl is
  where
    by_list : (counts : List Pointer) → filter (tracks key) ps ≡ counts → home_now (left key) counts ≡ Some home
        → HasHome ps left key home
    by_list [] e now = waiting_home (record { none = e; left_is = now })
    by_list (q ∷ rest) e now = pointers_home q rest e (sym (cc now)) (sym (cc now))

-- where such homes lie
pub has_within : (sectors number : ℕ) (unnamed : (place length : ℕ) → Type 0) (given : List (ℕ × ℕ)) (ps : List Pointer)
    (left : Key → Option Home) → IsKept sectors number unnamed given ps left
    → (key : Key) (home : Home) → HasHome ps left key home → HomeWithin sectors number key home
has_within sectors number unnamed given ps left kept key home (waiting_home waits) = kept.homes_within key home waits
has_within sectors number unnamed given ps left kept key home (pointers_home q rest first place birth) =
    let lies = first_has (LiesWithin sectors number) (tracks key) ps q rest first kept.within in
    let key_is : q.key ≡ key = (tracks-key key q lies.1).1 in
    record { start = rw place (lies.0.start); end = rw (place, sym key_is) (lies.0.end); birth = rw birth (lies.0.birth) }

-- an open run is apart from them
pub has_open : (ps : List Pointer) (left : Key → Option Home) (place length : ℕ) → IsOpen ps left place length → (key : Key) (home : Home)
    → HasHome ps left key home → IsApart place length home.place (run_length key)
has_open ps left place length opens key home (waiting_home waits) = opens.homes key home waits
has_open ps left place length opens key home (pointers_home q rest first at_place birth) =
    let here = first_has (λ r. IsApart place length r.place (run_length r.key)) (tracks key) ps q rest first opens.pointers in
    let key_is : q.key ≡ key = (tracks-key key q here.1).1 in
    rw (at_place, sym key_is) (here.0)

waiting_pointers : (sectors number : ℕ) (unnamed : (place length : ℕ) → Type 0) (given : List (ℕ × ℕ)) (ps : List Pointer)
    (left : Key → Option Home) → IsKept sectors number unnamed given ps left
    → (key other : Key) (home second : Home) → Waits ps left key home → (q : Pointer) (rest : List Pointer)
    → filter (tracks other) ps ≡ q ∷ rest → second.place ≡ q.place
    → IsApart home.place (run_length key) second.place (run_length other)
waiting_pointers sectors number unnamed given ps left kept key other home second waits q rest first place =
    let here = first_has (IsApartFrom (record { key = key; home = home })) (tracks other) ps q rest first (kept.waiting key home waits) in
    let other_is : q.key ≡ other = (tracks-key other q here.1).1 in
    rw (place, sym other_is) (here.0)

differs_tracks : (key other : Key) (q : Pointer) → key_eq key other ≡ false → q.key ≡ other → tracks key q ≡ false
differs_tracks key other q differ same =
    let off : key_eq q.key key ≡ false = ap (λ (k : Key). key_eq k key) same ∙ key_eq-symm other key ∙ differ in
    elim (is_tracked q.mark) as (λ b. (b && key_eq q.key key) ≡ false) [ true ↦ off | false ↦ refl ]

-- the homes of two keys are apart
pub has_apart : (sectors number : ℕ) (unnamed : (place length : ℕ) → Type 0) (given : List (ℕ × ℕ)) (ps : List Pointer)
    (left : Key → Option Home) → IsKept sectors number unnamed given ps left
    → (key other : Key) (home second : Home) → key_eq key other ≡ false → HasHome ps left key home → HasHome ps left other second
    → IsApart home.place (run_length key) second.place (run_length other)
has_apart sectors number unnamed given ps left kept key other home second differ (waiting_home waits) (waiting_home waits_too) =
    kept.apart key other home second differ waits waits_too
has_apart sectors number unnamed given ps left kept key other home second differ (waiting_home waits)
    (pointers_home q rest first place birth) =
    waiting_pointers sectors number unnamed given ps left kept key other home second waits q rest first place
has_apart sectors number unnamed given ps left kept key other home second differ (pointers_home q rest first place birth)
    (waiting_home waits) =
    apart_turned second.place (run_length other) home.place (run_length key)
    (waiting_pointers sectors number unnamed given ps left kept other key second home waits q rest first place)
has_apart sectors number unnamed given ps left kept key other home second differ (pointers_home q rest first place birth)
    (pointers_home r more first_too place_too birth_too) =
    let here = first_has (Beside key q) (tracks other) ps r more first_too (first_beside key ps q rest kept.pairs first) in
    let other_is : r.key ≡ other = (tracks-key other r here.1).1 in
    let key_is : q.key ≡ key = (tracks-key key q (first_has (LiesWithin sectors number) (tracks key) ps q rest first kept.within).1).1 in
    rw (place, place_too, sym key_is, sym other_is) (here.0.two_blocks (differs_tracks key other r differ other_is))

-- a home that is the same but for its count and its moment
pub record SameHome (known : Option Home) (home : Home) : Type 0 where
  pub was : Home
  pub is : known ≡ Some was
  pub place : home.place ≡ was.place
  pub birth : home.birth ≡ was.birth

module _ (test : Pointer → Bool) (ps : List Pointer) (left later : Key → Option Home)
    (as_left : (key : Key) → later key ≡ left_after (left key) (filter (tracks key) ps)) where
  -- a home that waits afterwards was there before
  pub waited_or_lost : (key : Key) (home : Home) → Waits (filter test ps) later key home → HasHome ps left key home
  waited_or_lost key home waits = by_list (filter (tracks key) ps) refl
    where
      by_list : (counts : List Pointer) → filter (tracks key) ps ≡ counts → HasHome ps left key home
      by_list [] e = waiting_home (record { none = e; left_is = sym (as_left key ∙ ap (left_after (left key)) e) ∙ waits.left_is })
      by_list (q ∷ rest) e =
          let same : Some (home_at q 0) ≡ Some home = sym (as_left key ∙ ap (left_after (left key)) e) ∙ waits.left_is in
          pointers_home q rest e (sym (cc same)) (sym (cc same))

  pub taken_kept : (sectors number : ℕ) (unnamed : (place length : ℕ) → Type 0) (given : List (ℕ × ℕ))
      → IsKept sectors number unnamed given ps left → IsKept sectors number unnamed given (filter test ps) later
  taken_kept sectors number unnamed given kept = record {
    rising = pairs_filter (λ p q. comes_before p q ≡ true) test ps kept.rising;
    pairs = pairs_filter GoTogether test ps kept.pairs;
    within = all_filter (LiesWithin sectors number) test ps kept.within;
    uncounted = λ key none. uncounted_by key (filter (tracks key) ps) refl;
    homes_within = λ key home waits. has_within sectors number unnamed given ps left kept key home (waited_or_lost key home waits);
    waiting = λ key home waits. waiting_by key home waits.none (waited_or_lost key home waits);
    apart = λ key other home second differ waits waits_too.
        has_apart sectors number unnamed given ps left kept key other home second differ (waited_or_lost key home waits)
        (waited_or_lost other second waits_too);
    opens = λ place length is ungiven. let was = kept.opens place length is ungiven in record {
      pointers = all_filter (λ q. IsApart place length q.place (run_length q.key)) test ps was.pointers;
      homes = λ key home waits. has_open ps left place length was key home (waited_or_lost key home waits);
    };
  }
    where
      uncounted_by : (key : Key) (counts : List Pointer) → filter (tracks key) ps ≡ counts → counted (later key) ≡ None
      uncounted_by key [] e = ap counted (as_left key ∙ ap (left_after (left key)) e) ∙ kept.uncounted key e
      uncounted_by key (q ∷ rest) e = ap counted (as_left key ∙ ap (left_after (left key)) e)

      waiting_by : (key : Key) (home : Home) → filter (tracks key) (filter test ps) ≡ [] → HasHome ps left key home
          → AllByRecursion (IsApartFrom (record { key = key; home = home })) (filter test ps)
      waiting_by key home none (waiting_home waits) =
          all_filter (IsApartFrom (record { key = key; home = home })) test ps (kept.waiting key home waits)
      waiting_by key home none (pointers_home q rest first place birth) =
          let key_is : q.key ≡ key =
          (tracks-key key q (first_has (LiesWithin sectors number) (tracks key) ps q rest first kept.within).1).1 in
          all_from_both (Beside key q) (λ r. tracks key r ≡ false) (IsApartFrom (record { key = key; home = home }))
          (λ r beside other. rw (place, sym key_is) (beside.two_blocks other)) (filter test ps)
          (all_filter (Beside key q) test ps (first_beside key ps q rest kept.pairs first)) (all_fail (tracks key) (filter test ps) none)

  -- a key has the home that it had
  pub taken_same : Pairwise GoTogether ps → (key : Key) (home : Home)
      → home_now (later key) (filter (tracks key) (filter test ps)) ≡ Some home
      → SameHome (home_now (left key) (filter (tracks key) ps)) home
  taken_same pairs key home is = by_lists (filter (tracks key) ps) refl (filter (tracks key) (filter test ps)) refl is
    where
      by_lists : (counts : List Pointer) → filter (tracks key) ps ≡ counts → (fewer : List Pointer)
          → filter (tracks key) (filter test ps) ≡ fewer → home_now (later key) fewer ≡ Some home
          → SameHome (home_now (left key) counts) home
      by_lists [] e [] f now = record {
        was = home;
        is = sym (as_left key ∙ ap (left_after (left key)) e) ∙ now;
        place = refl;
        birth =
            refl;
      }
      by_lists [] e (r ∷ more) f now =
          let here = first_has (λ q. tracks key q ≡ false) (tracks key) (filter test ps) r more f
          (all_filter (λ q. tracks key q ≡ false) test ps (all_fail (tracks key) ps e)) in
          absurd (cc (here.0, here.1))
      by_lists (q ∷ rest) e [] f now =
          let same : Some (home_at q 0) ≡ Some home = sym (as_left key ∙ ap (left_after (left key)) e) ∙ now in
          record { was = home_at q (length (q ∷ rest)); is = refl; place = sym (cc same); birth = sym (cc same) }
      by_lists (q ∷ rest) e (r ∷ more) f now =
          let here = first_has (Beside key q) (tracks key) (filter test ps) r more f
          (all_filter (Beside key q) test ps (first_beside key ps q rest pairs e)) in
          let shares : SharesHome q r = here.0.one_home here.1 in
          let at_place : r.place ≡ home.place = cc now in
          let at_birth : r.birth ≡ home.birth = cc now in
          record {
            was = home_at q (length (q ∷ rest));
            is = refl;
            place = sym (shares.place ∙ at_place);
            birth =
                sym (shares.birth ∙ at_birth);
          }

elsewhere : (lane slot : ℕ) (p q : Pointer) → is_at lane slot p ≡ true → is_at p.lane p.slot q ≡ false → is_at lane slot q ≡ false
elsewhere lane slot p q here apart = grind (arith, nat_tests, here, apart)

-- where the pointer that a slot holds isn't counted under a key, those that are stay
pub taken_others : (key : Key) (lane slot : ℕ) (ps : List Pointer) (p : Pointer) → Pairwise GoTogether ps
    → find (is_at lane slot) ps ≡ Some p → tracks key p ≡ false
    → filter (tracks key) (filter (λ q. not (is_at lane slot q)) ps) ≡ filter (tracks key) ps
taken_others key lane slot [] p pairs there other = refl
taken_others key lane slot (q ∷ qs) p pairs there other =
    elim (is_at lane slot q) as (λ b. (is_at lane slot q ≡ b) → cond b (Some q) (find (is_at lane slot) qs) ≡ Some p
    → filter (tracks key) (cond (not b) (q ∷ filter (λ r. not (is_at lane slot r)) qs) (filter (λ r. not (is_at lane slot r)) qs))
    ≡ filter (tracks key) (q ∷ qs)) [
      | true ↦ λ here e.
          let same : q ≡ p = cc e in
          let fails : tracks key q ≡ false = ap (tracks key) same ∙ other in
          ap (filter (tracks key)) (filter_whole (λ r. not (is_at lane slot r)) qs
          (all_from (GoTogether q) (λ r. not (is_at lane slot r) ≡ true)
          (λ r together. ap not (elsewhere lane slot q r here together.slots)) qs pairs.0))
          ∙ sym (ap (λ b. cond b (q ∷ filter (tracks key) qs) (filter (tracks key) qs)) fails)
      | false ↦ λ apart e. ap (λ l. cond (tracks key q) (q ∷ l) l) (taken_others key lane slot qs p pairs.1 e other)
    ] refl there
