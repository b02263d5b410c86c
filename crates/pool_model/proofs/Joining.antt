-- The pointers that can be put into a slot: at a fresh place, at a home that is counted, and at one that waits.
use Rattle.std.proofs.Common.{◌≡◌, ℕ, ◌+◌, ◌≤◌, true, false, cond, ◌&&◌, List, [], ◌∷◌, ◌++◌, length, filter, Option, None, refl, sym, ap, subst, ◌∙◌}
use Rattle.std.specs.List.{AllByRecursion, find}
use Rattle.ddt_entry.specs.declared.key.Key.{Key}
use Rattle.ddt_entry.specs.declared.entry.Home.{Home}
use Rattle.ddt_entry.specs.Keys.{key_eq}
use Rattle.ddt_entry.proofs.KeyLaws.{key_eq-true, key_eq-same}
use Rattle.pool_model.specs.Pool.{Pointer, Pairwise, IsApart, GoTogether, SharesHome, LiesWithin, run_length, is_tracked, is_shared, is_at, tracks}
use Rattle.pool_model.specs.Table.{IsApartFrom}
use Rattle.pool_model.proofs.Pointers.{all_fail, first_has, apart_turned, shared_tracks, tracks-key, is_shared-symm}
use Rattle.pool_model.proofs.Keeping.{Waits, IsUngiven, IsKept, CanJoin}
use Rattle.pool_model.proofs.Lists.{all_from, all_from_both, all_missed}

-- the last run that was given out
last_given : (given : List (ℕ × ℕ)) (place length a n : ℕ) → IsUngiven (given ++ (place, length) ∷ []) a n
    → IsUngiven given a n × IsApart place length a n
last_given [] place length a n ungiven = (tt, ungiven.0)
last_given (g ∷ given) place length a n ungiven = let rest = last_given given place length a n ungiven.1 in ((ungiven.0, rest.0), rest.1)

pub given_longer : (given : List (ℕ × ℕ)) (place length : ℕ) → (a n : ℕ) → IsUngiven (given ++ (place, length) ∷ []) a n
    → IsUngiven given a n
given_longer given place length a n ungiven = (last_given given place length a n ungiven).0

-- a pointer and another one that shares nothing with it go together where their slots and blocks are apart
alone_together : (p q : Pointer) → is_at p.lane p.slot q ≡ false → is_shared p q ≡ false
    → IsApart p.place (run_length p.key) q.place (run_length q.key) → GoTogether p q
alone_together p q slots unshared apart = record {
  slots = slots;
  one_home = λ shared. absurd (cc (shared, unshared));
  two_blocks = λ _. apart;
}

-- a pointer at a fresh place, of a key of which none is counted, or itself not counted
pub fresh_joins : (sectors number : ℕ) (unnamed : (place length : ℕ) → Type 0) (given : List (ℕ × ℕ)) (ps : List Pointer)
    (left : Key → Option Home) (p : Pointer)
    → ((place length : ℕ) → unnamed place length → (32 ≤ place) × (place + length ≤ sectors))
    → IsKept sectors number unnamed given ps left
    → find (is_at p.lane p.slot) ps ≡ None → AllByRecursion (λ q. is_shared p q ≡ false) ps → p.birth ≤ number
    → unnamed p.place (run_length p.key) → IsUngiven given p.place (run_length p.key)
    → CanJoin sectors number unnamed (given ++ (p.place, run_length p.key) ∷ []) ps left p
fresh_joins sectors number unnamed given ps left p inside kept empty alone born is ungiven =
    let opens = kept.opens p.place (run_length p.key) is ungiven in
    let ends = inside p.place (run_length p.key) is in
    let slots_alone : AllByRecursion (λ q. (is_at p.lane p.slot q ≡ false) × (is_shared p q ≡ false)) ps =
    all_from_both (λ q. is_at p.lane p.slot q ≡ false) (λ q. is_shared p q ≡ false)
    (λ q. (is_at p.lane p.slot q ≡ false) × (is_shared p q ≡ false)) (λ q a b. (a, b)) ps
    (all_missed (is_at p.lane p.slot) ps empty) alone in
    record {
      together = all_from_both (λ q. (is_at p.lane p.slot q ≡ false) × (is_shared p q ≡ false))
          (λ q. IsApart p.place (run_length p.key) q.place (run_length q.key)) (GoTogether p)
          (λ q both apart. alone_together p q both.0 both.1 apart) ps slots_alone opens.pointers;
      within = record { start = ends.0; end = ends.1; birth = born };
      apart = λ key home waits other. apart_turned p.place (run_length p.key) home.place (run_length key) (opens.homes key home waits);
      opens = λ place length named ungiven_too. apart_turned p.place (run_length p.key) place length
          (last_given given p.place (run_length p.key) place length ungiven_too).1;
    }

-- a pointer that isn't counted shares nothing, nor does one whose key has none that is
pub plain_alone : (p : Pointer) (ps : List Pointer) → is_tracked p.mark ≡ false → AllByRecursion (λ q. is_shared p q ≡ false) ps
plain_alone p [] uncounted = tt
plain_alone p (q ∷ qs) uncounted = (ap (λ b. b && is_tracked q.mark && key_eq p.key q.key) uncounted, plain_alone p qs uncounted)

pub first_alone : (p : Pointer) (ps : List Pointer) → is_tracked p.mark ≡ true → filter (tracks p.key) ps ≡ []
    → AllByRecursion (λ q. is_shared p q ≡ false) ps
first_alone p ps counts none =
    all_from (λ q. tracks p.key q ≡ false) (λ q. is_shared p q ≡ false) (λ q other. shared_tracks p.key p q counts refl ∙ other) ps
    (all_fail (tracks p.key) ps none)

-- a pointer at the home that waits for its key
pub waiting_joins : (sectors number : ℕ) (unnamed : (place length : ℕ) → Type 0) (given : List (ℕ × ℕ)) (ps : List Pointer)
    (left : Key → Option Home) (p : Pointer) (home : Home)
    → IsKept sectors number unnamed given ps left
    → find (is_at p.lane p.slot) ps ≡ None → is_tracked p.mark ≡ true → p.place ≡ home.place → p.birth ≡ home.birth
    → Waits ps left p.key home
    → CanJoin sectors number unnamed given ps left p
waiting_joins sectors number unnamed given ps left p home kept empty counts place birth waits =
    let inside = kept.homes_within p.key home waits in
    let slots_alone : AllByRecursion (λ q. (is_at p.lane p.slot q ≡ false) × (is_shared p q ≡ false)) ps =
    all_from_both (λ q. is_at p.lane p.slot q ≡ false) (λ q. is_shared p q ≡ false)
    (λ q. (is_at p.lane p.slot q ≡ false) × (is_shared p q ≡ false)) (λ q a b. (a, b)) ps (all_missed (is_at p.lane p.slot) ps empty)
    (first_alone p ps counts waits.none) in
    record {
      together = all_from_both (λ q. (is_at p.lane p.slot q ≡ false) × (is_shared p q ≡ false))
          (IsApartFrom (record { key = p.key; home = home })) (GoTogether p)
          (λ q both apart. alone_together p q both.0 both.1 (rw place apart)) ps slots_alone (kept.waiting p.key home waits);
      within = record { start = rw place inside.start; end = rw place inside.end; birth = rw birth inside.birth };
      apart = λ key other waits_too differs. rw place (kept.apart key p.key other home (unkeyed key differs) waits_too waits);
      opens = λ a n named ungiven. rw place ((kept.opens a n named ungiven).homes p.key home waits);
    }
  where
    unkeyed : (key : Key) → tracks key p ≡ false → key_eq key p.key ≡ false
    unkeyed key differs = elim (key_eq key p.key) as (λ b. (key_eq key p.key ≡ b) → b ≡ false) [
      | true ↦ λ same. let one : key ≡ p.key = key_eq-true key p.key same in
          let own : tracks p.key p ≡ true = ap (λ b. b && key_eq p.key p.key) counts ∙ key_eq-same p.key in
          let not_own : tracks p.key p ≡ false = subst (λ (k : Key). tracks k p ≡ false) one differs in
          absurd (cc (own, not_own))
      | false ↦ λ other. refl
    ] refl

-- how a counted pointer of a key stands to another pointer of the pool
pub record Beside (key : Key) (q r : Pointer) : Type 0 where
  pub one_home : tracks key r ≡ true → SharesHome q r
  pub two_blocks : tracks key r ≡ false → IsApart q.place (run_length q.key) r.place (run_length r.key)

beside_later : (key : Key) (q r : Pointer) → tracks key q ≡ true → GoTogether q r → Beside key q r
beside_later key q r counts together =
    let own = tracks-key key q counts in
    let same : is_shared q r ≡ tracks key r = shared_tracks key q r own.0 own.1 in
    record { one_home = λ shares. together.one_home (same ∙ shares); two_blocks = λ other. together.two_blocks (same ∙ other) }

beside_itself : (key : Key) (q : Pointer) → tracks key q ≡ true → Beside key q q
beside_itself key q counts = record {
  one_home = λ _. record { place = refl; birth = refl; since = refl };
  two_blocks = λ other. absurd (cc (counts, other));
}

beside_former : (key : Key) (q r : Pointer) → tracks key q ≡ true → tracks key r ≡ false → GoTogether r q → Beside key q r
beside_former key q r counts other together =
    let own = tracks-key key q counts in
    let unshared : is_shared r q ≡ false = is_shared-symm r q ∙ shared_tracks key q r own.0 own.1 ∙ other in
    record {
      one_home = λ shares. absurd (cc (shares, other));
      two_blocks = λ _. apart_turned r.place (run_length r.key) q.place (run_length q.key) (together.two_blocks unshared);
    }

-- the first counted pointer of a key shares its home with the others of its key, and its block with no other pointer
pub first_beside : (key : Key) (ps : List Pointer) (q : Pointer) (rest : List Pointer) → Pairwise GoTogether ps
    → filter (tracks key) ps ≡ q ∷ rest → AllByRecursion (Beside key q) ps
first_beside key [] q rest pairs first = tt
first_beside key (r ∷ rs) q rest pairs first =
    elim (tracks key r) as (λ b. (tracks key r ≡ b) → cond b (r ∷ filter (tracks key) rs) (filter (tracks key) rs) ≡ q ∷ rest
    → AllByRecursion (Beside key q) (r ∷ rs)) [
      | true ↦ λ counts e. let same : r ≡ q = cc e in
          subst (λ (x : Pointer). AllByRecursion (Beside key x) (r ∷ rs)) same (
            beside_itself key r counts,
            all_from (GoTogether r) (Beside key r)
                (λ x together. beside_later key r x counts together) rs pairs.0,
          )
      | false ↦ λ other e. let here = first_has (GoTogether r) (tracks key) rs q rest e pairs.0 in
          (beside_former key q r here.1 other here.0, first_beside key rs q rest pairs.1 e)
    ] refl first

-- a pointer that shares a home that is counted
pub shared_joins : (sectors number : ℕ) (unnamed : (place length : ℕ) → Type 0) (given : List (ℕ × ℕ)) (ps : List Pointer)
    (left : Key → Option Home) (p q : Pointer) (rest : List Pointer)
    → IsKept sectors number unnamed given ps left
    → find (is_at p.lane p.slot) ps ≡ None → is_tracked p.mark ≡ true → filter (tracks p.key) ps ≡ q ∷ rest → SharesHome p q
    → CanJoin sectors number unnamed given ps left p
shared_joins sectors number unnamed given ps left p q rest kept empty counts first shares =
    let inside = (first_has (LiesWithin sectors number) (tracks p.key) ps q rest first kept.within) in
    let key_is : q.key ≡ p.key = (tracks-key p.key q inside.1).1 in
    record {
      together = all_from_both (λ r. is_at p.lane p.slot r ≡ false) (Beside p.key q) (GoTogether p)
          (λ r slots beside. joined r key_is slots beside) ps (all_missed (is_at p.lane p.slot) ps empty)
          (first_beside p.key ps q rest kept.pairs first);
      within = record {
        start = rw shares.place (inside.0.start);
        end = rw (shares.place, sym key_is) (inside.0.end);
        birth =
            rw shares.birth (inside.0.birth);
      };
      apart = λ key home waits differs. rw (shares.place, sym key_is)
          ((first_has (IsApartFrom (record { key = key; home = home })) (tracks p.key) ps q rest first (kept.waiting key home waits)).0);
      opens = λ a n named ungiven. rw (shares.place, sym key_is)
          ((first_has (λ r. IsApart a n r.place (run_length r.key)) (tracks p.key) ps q rest first
          (kept.opens a n named ungiven).pointers).0);
    }
  where
    joined : (r : Pointer) → q.key ≡ p.key → is_at p.lane p.slot r ≡ false → Beside p.key q r → GoTogether p r
    joined r key_is slots beside =
        let same : is_shared p r ≡ tracks p.key r = shared_tracks p.key p r counts refl in
        record {
          slots = slots;
          one_home = λ shared. let home = beside.one_home (sym same ∙ shared) in
              record { place = shares.place ∙ home.place; birth = shares.birth ∙ home.birth; since = shares.since ∙ home.since };
          two_blocks = λ unshared. rw (shares.place, sym key_is) (beside.two_blocks (sym same ∙ unshared));
        }
