-- What every turn of a course keeps, of any pointers, homes and runs: and that it is kept when a pointer is put into a slot.
use Rattle.std.proofs.Common.{◌≡◌, ℕ, ◌+◌, ◌≤◌, true, false, List, [], length, filter, Option, Some, None, sym, ap, ◌∙◌}
use Rattle.std.specs.List.{AllByRecursion}
use Rattle.ddt_entry.specs.declared.key.Key.{Key}
use Rattle.ddt_entry.specs.declared.entry.Home.{Home}
use Rattle.ddt_entry.specs.Keys.{key_eq}
use Rattle.pool_model.specs.Pool.{Pointer, Pairwise, IsApart, GoTogether, LiesWithin, run_length, tracks, is_at, comes_before, insert_pointer}
use Rattle.pool_model.specs.Table.{counted, IsApartFrom}
use Rattle.pool_model.proofs.Pointers.{all_insert, pairs_insert, rising_insert, none_insert, together_turned}
use Rattle.pool_model.proofs.Homes.{left_after}
use Rattle.pool_model.proofs.Lists.{all_from}

-- a home that waits: no pointer of its key is counted, and it is left
pub record Waits (ps : List Pointer) (left : Key → Option Home) (key : Key) (home : Home) : Type 0 where
  pub none : filter (tracks key) ps ≡ []
  pub left_is : left key ≡ Some home

-- the run shares no sector with a run that was given out
abbrev pub IsUngiven : List (ℕ × ℕ) → (place length : ℕ) → Type 0
IsUngiven given place length = AllByRecursion (λ run. IsApart run.0 run.1 place length) given

-- nor with any pointer's, nor with a waiting home's
pub record IsOpen (ps : List Pointer) (left : Key → Option Home) (place length : ℕ) : Type 0 where
  pub pointers : AllByRecursion (λ q. IsApart place length q.place (run_length q.key)) ps
  pub homes : (key : Key) (home : Home) → Waits ps left key home → IsApart place length home.place (run_length key)

-- a waiting home's run and birth
pub record HomeWithin (sectors number : ℕ) (key : Key) (home : Home) : Type 0 where
  pub start : 32 ≤ home.place
  pub end : home.place + run_length key ≤ sectors
  pub birth : home.birth ≤ number

-- what each turn keeps
pub record IsKept (sectors number : ℕ) (unnamed : (place length : ℕ) → Type 0) (given : List (ℕ × ℕ)) (ps : List Pointer)
    (left : Key → Option Home) : Type 0 where
  pub rising : Pairwise (λ p q. comes_before p q ≡ true) ps
  pub pairs : Pairwise GoTogether ps
  pub within : AllByRecursion (LiesWithin sectors number) ps
  pub uncounted : (key : Key) → filter (tracks key) ps ≡ [] → counted (left key) ≡ None
  pub homes_within : (key : Key) (home : Home) → Waits ps left key home → HomeWithin sectors number key home
  pub waiting : (key : Key) (home : Home) → Waits ps left key home → AllByRecursion (IsApartFrom (record { key = key; home = home })) ps
  pub apart : (key other : Key) (home second : Home) → key_eq key other ≡ false → Waits ps left key home → Waits ps left other second
      → IsApart home.place (run_length key) second.place (run_length other)
  pub opens : (place length : ℕ) → unnamed place length → IsUngiven given place length → IsOpen ps left place length

-- a pointer that can be put into a slot, when these runs are given out
pub record CanJoin (sectors number : ℕ) (unnamed : (place length : ℕ) → Type 0) (given : List (ℕ × ℕ)) (ps : List Pointer)
    (left : Key → Option Home) (p : Pointer) : Type 0 where
  pub together : AllByRecursion (GoTogether p) ps
  pub within : LiesWithin sectors number p
  pub apart : (key : Key) (home : Home) → Waits ps left key home → tracks key p ≡ false
      → IsApart home.place (run_length key) p.place (run_length p.key)
  pub opens : (place length : ℕ) → unnamed place length → IsUngiven given place length → IsApart place length p.place (run_length p.key)

module _ (p : Pointer) (ps : List Pointer) (left later : Key → Option Home)
    (as_left : (key : Key) → later key ≡ left_after (left key) (filter (tracks key) ps)) where
  -- what is left of a key without counted pointers was left before
  left_before : (key : Key) → filter (tracks key) (insert_pointer p ps) ≡ []
      → (tracks key p ≡ false) × (filter (tracks key) ps ≡ []) × (left key ≡ later key)
  left_before key none =
      let both = none_insert (tracks key) p ps none in
      (both.0, both.1, sym (as_left key ∙ ap (left_after (left key)) both.1))

  -- a home that waits did so before
  pub waited : (key : Key) (home : Home) → Waits (insert_pointer p ps) later key home → (tracks key p ≡ false) × Waits ps left key home
  waited key home waits =
      let before = left_before key waits.none in
      (before.0, record { none = before.1; left_is = before.2 ∙ waits.left_is })

  pub put_kept : (sectors number : ℕ) (unnamed : (place length : ℕ) → Type 0) (given more : List (ℕ × ℕ))
      → ((place length : ℕ) → IsUngiven more place length → IsUngiven given place length)
      → IsKept sectors number unnamed given ps left → CanJoin sectors number unnamed more ps left p
      → IsKept sectors number unnamed more (insert_pointer p ps) later
  put_kept sectors number unnamed given more longer kept joins = record {
    rising = rising_insert p ps
        (all_from (GoTogether p) (λ q. is_at p.lane p.slot q ≡ false) (λ q together. together.slots) ps joins.together)
        kept.rising;
    pairs = pairs_insert GoTogether together_turned p ps joins.together kept.pairs;
    within = all_insert (LiesWithin sectors number) p ps joins.within kept.within;
    uncounted = λ key none. let before = left_before key none in sym (ap counted before.2) ∙ kept.uncounted key before.1;
    homes_within = λ key home waits. kept.homes_within key home (waited key home waits).1;
    waiting = λ key home waits. let before = waited key home waits in
        all_insert (IsApartFrom (record { key = key; home = home })) p ps (joins.apart key home before.1 before.0)
        (kept.waiting key home before.1);
    apart = λ key other home second differ waits waits_too. kept.apart key other home second differ (waited key home waits).1
        (waited other second waits_too).1;
    opens = λ place length is ungiven. let was = kept.opens place length is (longer place length ungiven) in record {
      pointers = all_insert (λ q. IsApart place length q.place (run_length q.key)) p ps
          (joins.opens place length is ungiven) was.pointers;
      homes = λ key home waits. was.homes key home (waited key home waits).1;
    };
  }
