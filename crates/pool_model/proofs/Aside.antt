-- Homes of the table that a group sets aside for one that it makes: their runs stay open, since they may come back.
use Rattle.std.proofs.Common.{◌≡◌, ℕ, ◌+◌, ◌≤◌, ◌<◌, Bool, true, false, cond, List, [], ◌∷◌, length, filter, Option, Some, None, inl, inr, refl, sym, ap, subst, ◌∙◌, arith}
use Rattle.std.specs.Prelude.{◌⊎◌}
use Rattle.std.specs.List.{AllByRecursion}
use Rattle.ddt_entry.specs.declared.key.Key.{Key}
use Rattle.ddt_entry.specs.declared.entry.Home.{Home}
use Rattle.ddt_entry.specs.Keys.{key_eq}
use Rattle.ddt_entry.proofs.KeyLaws.{key_eq-true}
use Rattle.pool_model.specs.Pool.{Pool, Pointer, Pairwise, IsApart, GoTogether, SharesHome, IsWellFormed, run_length, is_tracked, tracks, comes_before, insert_pointer}
use Rattle.pool_model.specs.ByKey.{MatchesByKey, IsUnnamedByKey}
use Rattle.pool_model.proofs.Pointers.{all_insert, none_insert, filter_insert, apart_turned, tracks-key}
use Rattle.pool_model.proofs.Homes.{left_after, home_now, home_now-later, matched_home}
use Rattle.pool_model.proofs.Keeping.{Waits, IsOpen, IsKept, waited}
use Rattle.pool_model.proofs.Joining.{Beside, first_beside}
use Rattle.pool_model.proofs.Removing.{HasHome, has_now, has_within, has_open, has_apart, SameHome, taken_same, waited_or_lost}
use Rattle.pool_model.proofs.Courses.{kept_opened}
use Rattle.pool_model.proofs.Lists.{all_filter}

-- the homes that a group finds: made by groups before it, apart from each other, and from what it may give out
pub record AreBefore (sectors number : ℕ) (unnamed : (place length : ℕ) → Type 0) (before : Key → Option Home) : Type 0 where
  pub start : (key : Key) (home : Home) → before key ≡ Some home → 32 ≤ home.place
  pub end : (key : Key) (home : Home) → before key ≡ Some home → home.place + run_length key ≤ sectors
  pub birth : (key : Key) (home : Home) → before key ≡ Some home → home.birth < number
  pub apart : (key other : Key) (home second : Home) → key_eq key other ≡ false → before key ≡ Some home → before other ≡ Some second
      → IsApart home.place (run_length key) second.place (run_length other)
  pub unnamed_apart : (place length : ℕ) → unnamed place length → (key : Key) (home : Home) → before key ≡ Some home
      → IsApart place length home.place (run_length key)

-- the homes that a group knows: of its own making, or the table's; and while one of its own stands, the table's run is open
pub record IsAside (number : ℕ) (before : Key → Option Home) (ps : List Pointer) (left : Key → Option Home) : Type 0 where
  pub stays : (key : Key) (home : Home) → home_now (left key) (filter (tracks key) ps) ≡ Some home
      → (home.birth ≡ number) ⊎ SameHome (before key) home
  pub aside : (key : Key) (was home : Home) → before key ≡ Some was → home_now (left key) (filter (tracks key) ps) ≡ Some home
      → home.birth ≡ number → IsOpen ps left was.place (run_length key)

-- a home that is the same as one that is the same
same_through : (number : ℕ) (before known : Option Home) (home : Home) → SameHome known home
    → ((was : Home) → known ≡ Some was → (was.birth ≡ number) ⊎ SameHome before was) → (home.birth ≡ number) ⊎ SameHome before home
same_through number before known home same stays = elim (stays same.was same.is) [
  | inl own ↦ inl (same.birth ∙ own)
  | inr table ↦ inr (record { was = table.was; is = table.is; place = same.place ∙ table.place; birth = same.birth ∙ table.birth })
]

-- pointers taken out
module _ (test : Pointer → Bool) (ps : List Pointer) (left later : Key → Option Home)
    (as_left : (key : Key) → later key ≡ left_after (left key) (filter (tracks key) ps)) where
  pub taken_aside : (number : ℕ) (before : Key → Option Home) → Pairwise GoTogether ps → IsAside number before ps left
      → IsAside number before (filter test ps) later
  taken_aside number before pairs was = record {
    stays = λ key home is. same_through number (before key) (home_now (left key) (filter (tracks key) ps)) home
        (taken_same test ps left later as_left pairs key home is) (was.stays key);
    aside = λ key table home is_table is own.
        let same = taken_same test ps left later as_left pairs key home is in
        let opens = was.aside key table same.was is_table same.is (sym same.birth ∙ own) in
        record {
          pointers = all_filter (λ q. IsApart table.place (run_length key) q.place (run_length q.key)) test ps opens.pointers;
          homes = λ other second waits. has_open ps left table.place (run_length key) opens other second
              (waited_or_lost test ps left later as_left other second waits);
        };
  }

-- what each pointer of the longer list has, the inserted one has
inserted : (P : Pointer → Type 0) (p : Pointer) (ps : List Pointer) → AllByRecursion P (insert_pointer p ps) → P p
inserted P p [] all = all.0
inserted P p (q ∷ qs) all =
    elim (comes_before p q) as (λ b. AllByRecursion P (cond b (p ∷ q ∷ qs) (q ∷ insert_pointer p qs)) → P p)
    [ true ↦ λ each. each.0 | false ↦ λ each. inserted P p qs each.1 ] all

module _ (p : Pointer) (ps : List Pointer) (left later : Key → Option Home)
    (as_left : (key : Key) → later key ≡ left_after (left key) (filter (tracks key) ps)) where
  -- a key under which it isn't counted keeps its home
  put_other : (key : Key) → tracks key p ≡ false
      → home_now (later key) (filter (tracks key) (insert_pointer p ps)) ≡ home_now (left key) (filter (tracks key) ps)
  put_other key other =
      ap (home_now (later key)) (filter_insert (tracks key) p ps other)
      ∙ ap (λ (o : Option Home). home_now o (filter (tracks key) ps)) (as_left key)
      ∙ home_now-later (left key) (filter (tracks key) ps)

  -- one under which it is has its home
  put_own : Pairwise GoTogether (insert_pointer p ps) → (key : Key) (home : Home) → tracks key p ≡ true
      → home_now (later key) (filter (tracks key) (insert_pointer p ps)) ≡ Some home
      → (home.place ≡ p.place) × (home.birth ≡ p.birth)
  put_own pairs key home counts is = by_list (filter (tracks key) (insert_pointer p ps)) refl is
    where
      by_list : (counted_there : List Pointer) → filter (tracks key) (insert_pointer p ps) ≡ counted_there
          → home_now (later key) counted_there ≡ Some home → (home.place ≡ p.place) × (home.birth ≡ p.birth)
      by_list [] e now = let none = none_insert (tracks key) p ps e in absurd (cc (none.0, counts))
      by_list (q ∷ rest) e now =
          let beside = inserted (Beside key q) p ps (first_beside key (insert_pointer p ps) q rest pairs e) in
          let shares : SharesHome q p = beside.one_home counts in
          let at_place : q.place ≡ home.place = cc now in
          let at_birth : q.birth ≡ home.birth = cc now in
          (sym at_place ∙ shares.place, sym at_birth ∙ shares.birth)

  -- a run that is apart from it stays open
  put_open : (place length : ℕ) → IsOpen ps left place length → IsApart place length p.place (run_length p.key)
      → IsOpen (insert_pointer p ps) later place length
  put_open place length opens apart = record {
    pointers = all_insert (λ q. IsApart place length q.place (run_length q.key)) p ps apart opens.pointers;
    homes = λ key home waits. opens.homes key home (waited p ps left later as_left key home waits).1;
  }

  own_key : (key : Key) → tracks key p ≡ true → key ≡ p.key
  own_key key counts = sym (tracks-key key p counts).1

  -- a pointer at the home of its key
  pub home_aside : (number : ℕ) (before : Key → Option Home) (at : Home) → Pairwise GoTogether (insert_pointer p ps)
      → home_now (left p.key) (filter (tracks p.key) ps) ≡ Some at → p.place ≡ at.place → p.birth ≡ at.birth
      → IsAside number before ps left → IsAside number before (insert_pointer p ps) later
  home_aside number before at pairs at_is place birth was = record {
    stays = λ key home is. stays_by key home (tracks key p) refl is;
    aside = λ key table home is_table is own. let opens = aside_by key table home is_table (tracks key p) refl is own in
        put_open table.place (run_length key) opens (apart_from table.place (run_length key) opens);
  }
    where
      apart_from : (place length : ℕ) → IsOpen ps left place length → IsApart place length p.place (run_length p.key)
      apart_from a n opens = rw place (has_open ps left a n opens p.key at (has_now ps left p.key at at_is))

      same_own : (key : Key) (home : Home) → tracks key p ≡ true
          → home_now (later key) (filter (tracks key) (insert_pointer p ps)) ≡ Some home
          → SameHome (home_now (left key) (filter (tracks key) ps)) home
      same_own key home counts is =
          let own = put_own pairs key home counts is in
          record {
            was = at;
            is = ap (λ (k : Key). home_now (left k) (filter (tracks k) ps)) (own_key key counts) ∙ at_is;
            place = own.0 ∙ place;
            birth = own.1 ∙ birth;
          }

      stays_by : (key : Key) (home : Home) (b : Bool) → tracks key p ≡ b
          → home_now (later key) (filter (tracks key) (insert_pointer p ps)) ≡ Some home
          → (home.birth ≡ number) ⊎ SameHome (before key) home
      stays_by key home true counts is =
          same_through number (before key) (home_now (left key) (filter (tracks key) ps)) home (same_own key home counts is)
          (was.stays key)
      stays_by key home false other is = was.stays key home (sym (put_other key other) ∙ is)

      aside_by : (key : Key) (table home : Home) → before key ≡ Some table → (b : Bool) → tracks key p ≡ b
          → home_now (later key) (filter (tracks key) (insert_pointer p ps)) ≡ Some home → home.birth ≡ number
          → IsOpen ps left table.place (run_length key)
      aside_by key table home is_table true counts is own = let same = same_own key home counts is in
          was.aside key table same.was is_table same.is (sym same.birth ∙ own)
      aside_by key table home is_table false other is own = was.aside key table home is_table (sym (put_other key other) ∙ is) own

  -- a pointer at a fresh place
  pub fresh_aside : (sectors number : ℕ) (unnamed : (place length : ℕ) → Type 0) (given : List (ℕ × ℕ)) (before : Key → Option Home)
      → AreBefore sectors number unnamed before → ((key : Key) → left key ≡ None → before key ≡ None)
      → IsKept sectors number unnamed given ps left → Pairwise GoTogether (insert_pointer p ps) → p.birth ≡ number
      → unnamed p.place (run_length p.key) → (is_tracked p.mark ≡ true → filter (tracks p.key) ps ≡ [])
      → IsAside number before ps left → IsAside number before (insert_pointer p ps) later
  fresh_aside sectors number unnamed given before table_homes gone kept pairs birth named first was = record {
    stays = λ key home is. stays_by key home (tracks key p) refl is;
    aside = λ key table home is_table is own. aside_by key table home is_table (tracks key p) refl is own;
  }
    where
      apart_from : (key : Key) (table : Home) → before key ≡ Some table → IsApart table.place (run_length key) p.place (run_length p.key)
      apart_from key table is_table =
          apart_turned p.place (run_length p.key) table.place (run_length key)
          (table_homes.unnamed_apart p.place (run_length p.key) named key table is_table)

      stays_by : (key : Key) (home : Home) (b : Bool) → tracks key p ≡ b
          → home_now (later key) (filter (tracks key) (insert_pointer p ps)) ≡ Some home
          → (home.birth ≡ number) ⊎ SameHome (before key) home
      stays_by key home true counts is = inl ((put_own pairs key home counts is).1 ∙ birth)
      stays_by key home false other is = was.stays key home (sym (put_other key other) ∙ is)

      -- the run of the table's home, once it waited and its key has a new one
      given_up : (key : Key) (table waits_at : Home) → before key ≡ Some table → tracks key p ≡ true → Waits ps left key waits_at
          → table.place ≡ waits_at.place → IsOpen (insert_pointer p ps) later table.place (run_length key)
      given_up key table waits_at is_table counts waits same = record {
        pointers = all_insert (λ q. IsApart table.place (run_length key) q.place (run_length q.key)) p ps (apart_from key table is_table)
            (subst (λ (place : ℕ). AllByRecursion (λ q. IsApart place (run_length key) q.place (run_length q.key)) ps) (sym same)
            (kept.waiting key waits_at waits));
        homes = λ other second waits_too. let before_too = waited p ps left later as_left other second waits_too in
            subst (λ (place : ℕ). IsApart place (run_length key) second.place (run_length other)) (sym same)
            (kept.apart key other waits_at second (unkeyed other before_too.0) waits before_too.1);
      }
        where
          unkeyed : (other : Key) → tracks other p ≡ false → key_eq key other ≡ false
          unkeyed other differs = elim (key_eq key other) as (λ b. (key_eq key other ≡ b) → b ≡ false) [
            | true ↦ λ one. let not_own : tracks key p ≡ false =
                subst (λ (k : Key). tracks k p ≡ false) (sym (key_eq-true key other one)) differs in absurd (cc (counts, not_own))
            | false ↦ λ _. refl
          ] refl

      aside_by : (key : Key) (table home : Home) → before key ≡ Some table → (b : Bool) → tracks key p ≡ b
          → home_now (later key) (filter (tracks key) (insert_pointer p ps)) ≡ Some home → home.birth ≡ number
          → IsOpen (insert_pointer p ps) later table.place (run_length key)
      aside_by key table home is_table false other is own =
          put_open table.place (run_length key) (was.aside key table home is_table (sym (put_other key other) ∙ is) own)
          (apart_from key table is_table)
      aside_by key table home is_table true counts is own = by_left (left key) refl
        where
          none : filter (tracks key) ps ≡ []
          none = ap (λ (k : Key). filter (tracks k) ps) (own_key key counts) ∙ first (tracks-key key p counts).0

          by_left : (o : Option Home) → left key ≡ o → IsOpen (insert_pointer p ps) later table.place (run_length key)
          by_left None left_is = let nothing : None ≡ Some table = sym (gone key left_is) ∙ is_table in absurd (cc nothing)
          by_left (Some waits_at) left_is =
              let now : home_now (left key) (filter (tracks key) ps) ≡ Some waits_at = ap (home_now (left key)) none ∙ left_is in
              elim (was.stays key waits_at now) [
                | inl made ↦ put_open table.place (run_length key) (was.aside key table waits_at is_table now made)
                    (apart_from key table is_table)
                | inr same ↦ let one : Some same.was ≡ Some table = sym same.is ∙ is_table in
                    let at_place : same.was.place ≡ table.place = cc one in
                    given_up key table waits_at is_table counts (record { none = none; left_is = left_is })
                    (sym at_place ∙ sym same.place)
              ]

-- the homes of a table that matches its pool
table_has : (sectors : ℕ) (pool : Pool) (before : Key → Option Home) → MatchesByKey sectors pool before → (key : Key) (home : Home)
    → before key ≡ Some home → HasHome pool.pointers before key home
table_has sectors pool before matched key home is =
    has_now pool.pointers before key home (matched_home (before key) (filter (tracks key) pool.pointers) (matched.homes key) ∙ is)

-- they are homes as a group finds them
pub before_opened : (sectors : ℕ) (pool : Pool) (before : Key → Option Home) → IsWellFormed sectors pool
    → MatchesByKey sectors pool before → AreBefore sectors (pool.group + 1) (IsUnnamedByKey sectors pool before) before
before_opened sectors pool before formed matched =
    let kept = kept_opened sectors pool.group pool before (omega arith) formed matched in
    let within = λ (key : Key) (home : Home) (is : before key ≡ Some home). has_within sectors pool.group
    (IsUnnamedByKey sectors pool before) [] pool.pointers before kept key home (table_has sectors pool before matched key home is) in
    record {
      start = λ key home is. (within key home is).start;
      end = λ key home is. (within key home is).end;
      birth = λ key home is. omega (arith, (within key home is).birth);
      apart = λ key other home second differ is is_too.
          has_apart sectors pool.group (IsUnnamedByKey sectors pool before) [] pool.pointers before kept key other home second differ
          (table_has sectors pool before matched key home is) (table_has sectors pool before matched other second is_too);
      unnamed_apart = λ place length named key home is. has_open pool.pointers before place length
          (kept.opens place length named tt) key home (table_has sectors pool before matched key home is);
    }

pub aside_opened : (sectors number : ℕ) (pool : Pool) (before : Key → Option Home) → number ≡ pool.group + 1 → IsWellFormed sectors pool
    → MatchesByKey sectors pool before → IsAside number before pool.pointers before
aside_opened sectors number pool before later formed matched = record {
  stays = λ key home is. inr (record { was = home; is = sym (whole key) ∙ is; place = refl; birth = refl });
  aside = λ key was home is_was is own.
      absurd (omega (arith, own, later, (before_opened sectors pool before formed matched).birth key home (sym (whole key) ∙ is)));
}
  where
    whole : (key : Key) → home_now (before key) (filter (tracks key) pool.pointers) ≡ before key
    whole key = matched_home (before key) (filter (tracks key) pool.pointers) (matched.homes key)
