-- Lists of pointers: what an insertion in order keeps, and what a filter tells of the elements.
use Rattle.std.proofs.Common.{◌≡◌, ℕ, Bool, true, false, cond, ◌&&◌, ◌||◌, ◌==◌, nat_lt, List, [], ◌∷◌, filter, inl, inr, refl, sym, ap, subst, ◌∙◌, arith}
use Rattle.std.specs.List.{AllByRecursion}
use Rattle.std.proofs.lemmas.Bool.Decides.{nat_tests}
use Rattle.ddt_entry.specs.declared.key.Key.{Key}
use Rattle.ddt_entry.specs.Keys.{key_eq}
use Rattle.ddt_entry.proofs.KeyLaws.{key_eq-symm, key_eq-true}
use Rattle.pool_model.specs.Pool.{Pointer, Pairwise, IsApart, GoTogether, SharesHome, run_length, is_tracked, is_shared, tracks, is_at, comes_before, insert_pointer}
use Rattle.pool_model.proofs.Lists.{all_from}
use Rattle.std.proofs.lemmas.Bool.{and_parts}

-- what each pointer has, an inserted one too, each pointer of the longer list has
pub all_insert : (P : Pointer → Type 0) (p : Pointer) (ps : List Pointer) → P p → AllByRecursion P ps
    → AllByRecursion P (insert_pointer p ps)
all_insert P p [] here all = (here, tt)
all_insert P p (q ∷ qs) here all =
    elim (comes_before p q) as (λ b. AllByRecursion P (cond b (p ∷ q ∷ qs) (q ∷ insert_pointer p qs))) [
      | true ↦ (here, all)
      | false ↦ (all.0, all_insert P p qs here all.1)
    ]

pub pairs_insert : (R : Pointer → Pointer → Type 0) → ((a b : Pointer) → R a b → R b a) → (p : Pointer) (ps : List Pointer)
    → AllByRecursion (R p) ps → Pairwise R ps → Pairwise R (insert_pointer p ps)
pairs_insert R turned p [] with_all pairs = (tt, tt)
pairs_insert R turned p (q ∷ qs) with_all pairs =
    elim (comes_before p q) as (λ b. Pairwise R (cond b (p ∷ q ∷ qs) (q ∷ insert_pointer p qs))) [
      | true ↦ (with_all, pairs)
      | false ↦ (all_insert (R q) p qs (turned p q with_all.0) pairs.0, pairs_insert R turned p qs with_all.1 pairs.1)
    ]

-- pointers in order stay so when another one is put at its place, of a slot that none of them has
abbrev Before : Pointer → Pointer → Type 0
Before p q = comes_before p q ≡ true

pub order_through : (a b c d e f : ℕ) → (nat_lt a c || ((a == c) && nat_lt b d)) ≡ true → (nat_lt c e || ((c == e) && nat_lt d f)) ≡ true
    → (nat_lt a e || ((a == e) && nat_lt b f)) ≡ true
order_through a b c d e f one other = grind (arith, nat_tests, one, other)

order_turned : (a b c d : ℕ) → ((c == a) && (d == b)) ≡ false → (nat_lt a c || ((a == c) && nat_lt b d)) ≡ false
    → (nat_lt c a || ((c == a) && nat_lt d b)) ≡ true
order_turned a b c d apart not_before = grind (arith, nat_tests, apart, not_before)

pub rising_insert : (p : Pointer) (ps : List Pointer) → AllByRecursion (λ q. is_at p.lane p.slot q ≡ false) ps
    → Pairwise (λ a b. comes_before a b ≡ true) ps → Pairwise (λ a b. comes_before a b ≡ true) (insert_pointer p ps)
rising_insert p [] apart rising = (tt, tt)
rising_insert p (q ∷ qs) apart rising = by_order (comes_before p q) refl (rising_insert p qs apart.1 rising.1)
  where
    by_order : (b : Bool) → comes_before p q ≡ b → Pairwise Before (insert_pointer p qs)
        → Pairwise Before (cond b (p ∷ q ∷ qs) (q ∷ insert_pointer p qs))
    by_order true before rest = (
      (before, all_from (Before q) (Before p) (λ r after. order_through p.lane p.slot q.lane q.slot r.lane r.slot before after) qs rising.0),
      rising,
    )
    by_order false behind rest =
        (all_insert (Before q) p qs (order_turned p.lane p.slot q.lane q.slot apart.0 behind) rising.0, rest)

-- a pointer that doesn't pass leaves those that do
pub filter_insert : (test : Pointer → Bool) (p : Pointer) (ps : List Pointer) → test p ≡ false
    → filter test (insert_pointer p ps) ≡ filter test ps
filter_insert test p [] fails = ap (λ b. cond b (p ∷ []) []) fails
filter_insert test p (q ∷ qs) fails =
    elim (comes_before p q) as (λ b. filter test (cond b (p ∷ q ∷ qs) (q ∷ insert_pointer p qs)) ≡ filter test (q ∷ qs)) [
      | true ↦ ap (λ b. cond b (p ∷ filter test (q ∷ qs)) (filter test (q ∷ qs))) fails
      | false ↦ ap (λ l. cond (test q) (q ∷ l) l) (filter_insert test p qs fails)
    ]

-- where nothing of the longer list passes, the pointer doesn't, and nothing of the shorter does
pub none_insert : (test : Pointer → Bool) (p : Pointer) (ps : List Pointer) → filter test (insert_pointer p ps) ≡ []
    → (test p ≡ false) × (filter test ps ≡ [])
none_insert test p [] none = alone (test p) none
  where
    alone : (b : Bool) → cond b (p ∷ []) [] ≡ [] → (b ≡ false) × (filter test [] ≡ [])
    alone true e = absurd (cc e)
    alone false e = (refl, refl)
none_insert test p (q ∷ qs) none = by_order (comes_before p q) (none_insert test p qs) none
  where
    first : (b : Bool) → cond b (p ∷ filter test (q ∷ qs)) (filter test (q ∷ qs)) ≡ [] → (b ≡ false) × (filter test (q ∷ qs) ≡ [])
    first true e = absurd (cc e)
    first false e = (refl, e)

    later : (b : Bool) → (filter test (insert_pointer p qs) ≡ [] → (test p ≡ false) × (filter test qs ≡ []))
        → cond b (q ∷ filter test (insert_pointer p qs)) (filter test (insert_pointer p qs)) ≡ []
        → (test p ≡ false) × (cond b (q ∷ filter test qs) (filter test qs) ≡ [])
    later true rest e = absurd (cc e)
    later false rest e = rest e

    by_order : (b : Bool) → (filter test (insert_pointer p qs) ≡ [] → (test p ≡ false) × (filter test qs ≡ []))
        → filter test (cond b (p ∷ q ∷ qs) (q ∷ insert_pointer p qs)) ≡ [] → (test p ≡ false) × (filter test (q ∷ qs) ≡ [])
    by_order true rest e = first (test p) e
    by_order false rest e = later (test q) rest e

-- none passes a test where the filter leaves nothing, or nothing is found
pub all_fail : (test : Pointer → Bool) (ps : List Pointer) → filter test ps ≡ [] → AllByRecursion (λ q. test q ≡ false) ps
all_fail test [] none = tt
all_fail test (q ∷ qs) none = by_test (test q) (all_fail test qs) none
  where
    by_test : (b : Bool) → (filter test qs ≡ [] → AllByRecursion (λ r. test r ≡ false) qs)
        → cond b (q ∷ filter test qs) (filter test qs) ≡ []
        → (b ≡ false) × AllByRecursion (λ r. test r ≡ false) qs
    by_test true rest e = absurd (cc e)
    by_test false rest e = (refl, rest e)

-- the first that passes has what each has
pub first_has : (P : Pointer → Type 0) (test : Pointer → Bool) (ps : List Pointer) (q : Pointer) (rest : List Pointer)
    → filter test ps ≡ q ∷ rest → AllByRecursion P ps → P q × (test q ≡ true)
first_has P test [] q rest first all = absurd (cc first)
first_has P test (p ∷ ps) q rest first all =
    elim (test p) as (λ b. (test p ≡ b) → cond b (p ∷ filter test ps) (filter test ps) ≡ q ∷ rest → P q × (test q ≡ true)) [
      | true ↦ λ passes e. let same : p ≡ q = cc e in (subst P same all.0, subst (λ (r : Pointer). test r ≡ true) same passes)
      | false ↦ λ fails e. first_has P test ps q rest e all.1
    ] refl first

-- runs are apart both ways
pub apart_turned : (a n b m : ℕ) → IsApart a n b m → IsApart b m a n
apart_turned a n b m apart = elim apart [ inl before ↦ inr before | inr behind ↦ inl behind ]

shared_turned : (a b e f : Bool) → e ≡ f → (a && b && e) ≡ (b && a && f)
shared_turned true true e f same = same
shared_turned true false e f same = refl
shared_turned false true e f same = refl
shared_turned false false e f same = refl

pub is_shared-symm : (p q : Pointer) → is_shared p q ≡ is_shared q p
is_shared-symm p q = shared_turned (is_tracked p.mark) (is_tracked q.mark) (key_eq p.key q.key) (key_eq q.key p.key)
    (key_eq-symm p.key q.key)

at_turned : (a b c d : ℕ) → ((a == b) && (c == d)) ≡ false → ((b == a) && (d == c)) ≡ false
at_turned a b c d apart = grind (arith, nat_tests, apart)

pub shares_turned : (p q : Pointer) → SharesHome p q → SharesHome q p
shares_turned p q shares = record { place = sym shares.place; birth = sym shares.birth; since = sym shares.since }

pub together_turned : (p q : Pointer) → GoTogether p q → GoTogether q p
together_turned p q together = record {
  slots = at_turned q.lane p.lane q.slot p.slot together.slots;
  one_home = λ shared. shares_turned p q (together.one_home (is_shared-symm p q ∙ shared));
  two_blocks = λ unshared. apart_turned p.place (run_length p.key) q.place (run_length q.key)
      (together.two_blocks (is_shared-symm p q ∙ unshared));
}

-- a pointer that is counted under a key has it
pub tracks-key : (key : Key) (p : Pointer) → tracks key p ≡ true → (is_tracked p.mark ≡ true) × (p.key ≡ key)
tracks-key key p counts = let both = and_parts (is_tracked p.mark) (key_eq p.key key) counts in (both.0, key_eq-true p.key key both.1)

-- one that is counted under a key shares with exactly those that are counted under it
pub shared_tracks : (key : Key) (p q : Pointer) → is_tracked p.mark ≡ true → p.key ≡ key → is_shared p q ≡ tracks key q
shared_tracks key p q counted same =
    ap (λ b. b && is_tracked q.mark && key_eq p.key q.key) counted
    ∙ ap (λ (k : Key). is_tracked q.mark && key_eq k q.key) same
    ∙ ap (λ b. is_tracked q.mark && b) (key_eq-symm key q.key)
