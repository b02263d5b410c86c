-- What a whole course keeps, from the opening on, turn by turn.
use Rattle.std.proofs.Common.{◌≡◌, ℕ, ◌+◌, ◌≤◌, Bool, true, false, nat_lt, List, [], ◌∷◌, ◌++◌, length, filter, Option, None, refl, sym, ap, subst, ◌∙◌, arith}
use Rattle.std.specs.List.{AllByRecursion}
use Rattle.ddt_entry.specs.declared.key.Key.{Key}
use Rattle.ddt_entry.specs.declared.entry.Home.{Home}
use Rattle.pool_model.specs.Pool.{Pool, Pointer, IsApart, LiesWithin, IsWellFormed, run_length, since_of, is_shared, tracks, insert_pointer}
use Rattle.pool_model.specs.Table.{counted, home_of_pointers, found}
use Rattle.pool_model.specs.Command.{Opening, Course, last_tracked}
use Rattle.pool_model.specs.ByKey.{MatchesByKey, IsUnnamedByKey, AreFreshByKey, is_touched}
use Rattle.pool_model.proofs.Pointers.{none_insert, filter_insert}
use Rattle.pool_model.proofs.Homes.{left_by, left_after, home_now, left_by-later, home_now-later, left_now, first_now, none_now, uncounted_zero}
use Rattle.pool_model.proofs.Keeping.{Waits, IsUngiven, IsKept, CanJoin, put_kept}
use Rattle.pool_model.proofs.Joining.{given_longer, fresh_joins, plain_alone, first_alone, waiting_joins, shared_joins}
use Rattle.pool_model.proofs.Putting.{left_of, home_of, IsPut, IsAlone, uncounted, unshared, IsAtHome, Step, stood, put_fresh, put_home}
use Rattle.pool_model.proofs.Lists.{all_from}

-- of runs of which none shares a sector with another, the last one doesn't, nor do the others
pub fresh_last : (unnamed : (place length : ℕ) → Type 0) (given : List (ℕ × ℕ)) (place length : ℕ)
    → AreFreshByKey unnamed (given ++ (place, length) ∷ [])
    → AreFreshByKey unnamed given × unnamed place length × IsUngiven given place length
fresh_last unnamed [] place length fresh = (record { unnamed = tt; apart = tt }, fresh.unnamed.0, tt)
fresh_last unnamed (g ∷ given) place length fresh =
    let rest = fresh_last unnamed given place length (record { unnamed = fresh.unnamed.1; apart = fresh.apart.1 }) in
    let others = split given fresh.apart.0 in
    (record { unnamed = (fresh.unnamed.0, rest.0.unnamed); apart = (others.0, rest.0.apart) }, rest.1, (others.1, rest.2))
  where
    split : (runs : List (ℕ × ℕ)) → AllByRecursion (λ run. IsApart g.0 g.1 run.0 run.1) (runs ++ (place, length) ∷ [])
        → AllByRecursion (λ run. IsApart g.0 g.1 run.0 run.1) runs × IsApart g.0 g.1 place length
    split [] all = (tt, all.0)
    split (r ∷ runs) all = let more = split runs all.1 in ((all.0, more.0), more.1)

module _ (sectors : ℕ) (unnamed : (place length : ℕ) → Type 0)
    (inside : (place length : ℕ) → unnamed place length → (32 ≤ place) × (place + length ≤ sectors)) (opening : Opening) where
  -- what a course's turns keep, of its runs, its pointers and the pools before
  abbrev pub KeptIn : List (ℕ × ℕ) → List Pointer → List Pool → Type 0
  KeptIn given ps earlier =
      IsKept sectors opening.number unnamed given ps (λ key. left_by (found opening.table key) (last_tracked key earlier))

  abbrev pub KeptAt : Course → Type 0
  KeptAt course = KeptIn course.given course.pool.pointers course.earlier

  pub same_kept : (given more : List (ℕ × ℕ)) (ps qs : List Pointer) (earlier later : List Pool) → more ≡ given → qs ≡ ps
      → later ≡ earlier → KeptIn given ps earlier → KeptIn more qs later
  same_kept given more ps qs earlier later runs pointers pools kept =
      subst (λ (x : List (ℕ × ℕ)). KeptIn x qs later) (sym runs)
      (subst (λ (x : List Pointer). KeptIn given x later) (sym pointers)
      (subst (λ (x : List Pool). KeptIn given ps x) (sym pools) kept))

  -- a pointer that can be put there was put there
  put_at : (course later : Course) (p : Pointer) (more : List (ℕ × ℕ)) → later.given ≡ more
      → ((place length : ℕ) → IsUngiven more place length → IsUngiven course.given place length)
      → IsPut course later p → KeptAt course → CanJoin sectors opening.number unnamed more course.pool.pointers (left_of opening course) p
      → KeptAt later
  put_at course later p more runs longer is kept joins =
      same_kept more later.given (insert_pointer p course.pool.pointers) later.pool.pointers
      (course.pool ∷ course.earlier) later.earlier runs is.pool is.earlier
      (put_kept p course.pool.pointers (left_of opening course)
      (λ key. left_by (found opening.table key) (last_tracked key (course.pool ∷ course.earlier)))
      (λ key. left_by-later (found opening.table key) (last_tracked key course.earlier) (filter (tracks key) course.pool.pointers))
      sectors opening.number unnamed course.given more longer kept joins)

  fresh_step : (course later : Course) (p : Pointer) → IsPut course later p
      → later.given ≡ course.given ++ (p.place, run_length p.key) ∷ [] → p.birth ≡ opening.number
      → IsAlone (home_of opening course p.key) p
      → AreFreshByKey unnamed later.given → KeptAt course → KeptAt later
  fresh_step course later p is runs birth alone fresh kept =
      let parts = fresh_last unnamed course.given p.place (run_length p.key) (subst (AreFreshByKey unnamed) runs fresh) in
      put_at course later p (course.given ++ (p.place, run_length p.key) ∷ []) runs
      (given_longer course.given p.place (run_length p.key)) is kept
      (fresh_joins sectors opening.number unnamed course.given course.pool.pointers (left_of opening course) p inside kept is.empty
      (lone alone) (omega (arith, birth)) parts.1 parts.2)
    where
      lone : IsAlone (home_of opening course p.key) p → AllByRecursion (λ q. is_shared p q ≡ false) course.pool.pointers
      lone (uncounted uncounts) = plain_alone p course.pool.pointers uncounts
      lone (unshared counts none) =
          first_alone p course.pool.pointers counts
          (none_now (left_of opening course p.key) (filter (tracks p.key) course.pool.pointers) none)

  home_step : (course later : Course) (p : Pointer) (home : Home) → IsPut course later p → later.given ≡ course.given
      → IsAtHome (home_of opening course p.key) p home → KeptAt course → KeptAt later
  home_step course later p home is runs at kept =
      put_at course later p course.given runs (λ place length ungiven. ungiven) is kept (by_count (nat_lt 0 home.count) refl)
    where
      by_count : (b : Bool) → nat_lt 0 home.count ≡ b
          → CanJoin sectors opening.number unnamed course.given course.pool.pointers (left_of opening course) p
      by_count true some =
          let first = first_now (left_of opening course p.key) (filter (tracks p.key) course.pool.pointers) home at.is some
          (kept.uncounted p.key) in
          shared_joins sectors opening.number unnamed course.given course.pool.pointers
          (left_of opening course) p first.0 first.1 kept is.empty at.counts first.2
          (record { place = at.place ∙ first.3; birth = at.birth ∙ first.4; since = ap since_of (at.shares some) ∙ first.5 })
      by_count false none =
          let waits = left_now (left_of opening course p.key) (filter (tracks p.key) course.pool.pointers) home at.is none in
          waiting_joins sectors opening.number unnamed course.given course.pool.pointers
          (left_of opening course) p home kept is.empty at.counts at.place at.birth (record { none = waits.0; left_is = waits.1 })

  -- a turn keeps it
  pub kept_step : (course later : Course) → Step opening course later → AreFreshByKey unnamed later.given → KeptAt course → KeptAt later
  kept_step course later (stood pool earlier runs touched) fresh kept =
      same_kept course.given later.given course.pool.pointers later.pool.pointers course.earlier later.earlier runs
      (ap (λ (x : Pool). x.pointers) pool) earlier kept
  kept_step course later (put_fresh p is runs birth alone) fresh kept = fresh_step course later p is runs birth alone fresh kept
  kept_step course later (put_home p home is runs at) fresh kept = home_step course later p home is runs at kept

  -- the runs that were given out before it were fresh too
  pub given_step : (course later : Course) → Step opening course later → AreFreshByKey unnamed later.given
      → AreFreshByKey unnamed course.given
  given_step course later (stood pool earlier runs touched) fresh = subst (AreFreshByKey unnamed) runs fresh
  given_step course later (put_fresh p is runs birth alone) fresh =
      (fresh_last unnamed course.given p.place (run_length p.key) (subst (AreFreshByKey unnamed) runs fresh)).0
  given_step course later (put_home p home is runs at) fresh = subst (AreFreshByKey unnamed) runs fresh

-- a key that wasn't named has the home that the table found
abbrev pub IsTouching : Opening → Course → Type 0
IsTouching opening course = (key : Key) → is_touched key course ≡ false → home_of opening course key ≡ found opening.table key

put_untouched : (opening : Opening) (course later : Course) (p : Pointer) → IsPut course later p → IsTouching opening course
    → IsTouching opening later
put_untouched opening course later p is touching key none =
    let was = is.touched key none in
    (λ i. home_now (left_by (found opening.table key) (last_tracked key (is.earlier i))) (filter (tracks key) (is.pool i)))
    ∙ ap (λ (l : List Pointer). home_now (left_by (found opening.table key) (last_tracked key (course.pool ∷ course.earlier))) l)
    (filter_insert (tracks key) p course.pool.pointers was.1)
    ∙ ap (λ (o : Option Home). home_now o (filter (tracks key) course.pool.pointers))
    (left_by-later (found opening.table key) (last_tracked key course.earlier) (filter (tracks key) course.pool.pointers))
    ∙ home_now-later (left_of opening course key) (filter (tracks key) course.pool.pointers)
    ∙ touching key was.0

pub touching_step : (opening : Opening) (course later : Course) → Step opening course later → IsTouching opening course
    → IsTouching opening later
touching_step opening course later (stood pool earlier runs touched) touching = λ key none.
    (λ i. home_now (left_by (found opening.table key) (last_tracked key (earlier i))) (filter (tracks key) ((pool i).pointers)))
    ∙ touching key (touched key none)
touching_step opening course later (put_fresh p is runs birth alone) touching = put_untouched opening course later p is touching
touching_step opening course later (put_home p home is runs at) touching = put_untouched opening course later p is touching

-- a home that is left without a counted pointer is the one that the table found
abbrev pub IsWriting : Opening → Course → Type 0
IsWriting opening course = (key : Key) → filter (tracks key) course.pool.pointers ≡ []
    → left_of opening course key ≡ found opening.table key

put_writing : (opening : Opening) (course later : Course) (p : Pointer) → IsPut course later p → IsWriting opening course
    → IsWriting opening later
put_writing opening course later p is writing key none =
    let was : filter (tracks key) course.pool.pointers ≡ [] =
    (none_insert (tracks key) p course.pool.pointers (sym (ap (filter (tracks key)) is.pool) ∙ none)).1 in
    (λ i. left_by (found opening.table key) (last_tracked key (is.earlier i)))
    ∙ left_by-later (found opening.table key) (last_tracked key course.earlier) (filter (tracks key) course.pool.pointers)
    ∙ ap (left_after (left_of opening course key)) was
    ∙ writing key was

pub writing_step : (opening : Opening) (course later : Course) → Step opening course later → IsWriting opening course
    → IsWriting opening later
writing_step opening course later (stood pool earlier runs touched) writing = λ key none.
    (λ i. left_by (found opening.table key) (last_tracked key (earlier i))) ∙ writing key
    (sym (ap (λ (x : Pool). filter (tracks key) x.pointers) pool) ∙ none)
writing_step opening course later (put_fresh p is runs birth alone) writing = put_writing opening course later p is writing
writing_step opening course later (put_home p home is runs at) writing = put_writing opening course later p is writing

-- at the opening
pub kept_opened : (sectors number : ℕ) (pool : Pool) (before : Key → Option Home) → pool.group ≤ number → IsWellFormed sectors pool
    → MatchesByKey sectors pool before
    → IsKept sectors number (IsUnnamedByKey sectors pool before) [] pool.pointers before
kept_opened sectors number pool before later formed matched = record {
  rising = formed.rising;
  pairs = formed.together;
  within = all_from (LiesWithin sectors pool.group) (LiesWithin sectors number)
      (λ p lies. record { start = lies.start; end = lies.end; birth = omega (arith, lies.birth, later) }) pool.pointers formed.within;
  uncounted = none_counted;
  homes_within = λ key home waits. let zero = zero_of key home waits in record {
    start = matched.start key home waits.left_is zero;
    end = matched.end key home waits.left_is zero;
    birth = omega (arith, matched.births key home waits.left_is zero, later);
  };
  waiting = λ key home waits. matched.waiting key home waits.left_is (zero_of key home waits);
  apart = λ key other home second differ waits waits_too. matched.apart key other home second differ waits.left_is
      (zero_of key home waits) waits_too.left_is (zero_of other second waits_too);
  opens = λ place length is ungiven. record {
    pointers = is.no_pointer;
    homes = λ key home waits. is.not_waiting key home waits.left_is (zero_of key home waits);
  };
}
  where
    none_counted : (key : Key) → filter (tracks key) pool.pointers ≡ [] → counted (before key) ≡ None
    none_counted key none = matched.homes key ∙ ap home_of_pointers none

    zero_of : (key : Key) (home : Home) → Waits pool.pointers before key home → home.count ≡ 0
    zero_of key home waits = uncounted_zero home (sym (ap counted waits.left_is) ∙ none_counted key waits.none)
