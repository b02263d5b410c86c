-- The owners of sectors tell whether each two slots lie apart, unless they share a home.
use Rattle.std.proofs.Common.{◌≡◌, ℕ, zero, suc, ◌+◌, ◌-◌, ◌<◌, Bool, true, false, not, ◌&&◌, ◌||◌, ◌==◌, ◌⊎◌, inl, inr, List, [], ◌∷◌, ◌++◌, length, get_or, set, Some, refl, sym, ap, subst, ⊎_elim, ◌∙◌, arith, append_assoc, eq-eqb}
use Rattle.std.specs.Prelude.{slice_get, slice_index, slice_set, replicate, if◌then◌else◌}
use Rattle.std.specs.List.{AllByRecursion}
use Rattle.std.proofs.lemmas.Bool.{false≢true}
use Rattle.std.proofs.lemmas.Bool.Decides.{eqb_tells}
use Rattle.std.proofs.lemmas.List.{append-nil, length-append, length-set, get_or-set_same, get_or-set_other, length-replicate, get_or-replicate}
use Rattle.ddt_entry.specs.Keys.{key_eq}
use Rattle.ddt_entry.specs.declared.key.Key.{Key}
use Rattle.ddt_entry.proofs.KeyLaws.{key_eq-true, key_eq-same}
use Rattle.pool_model.specs.Pool.{Pairwise}
use Rattle.pool_model.proofs.Lists.{all_from}
use Rattle.pool_import.specs.Marks.{are_shared, go_apart, shares_with, are_owned}
use Rattle.pool_import.specs.declared.marks.Spot.{Spot}
use Rattle.pool_import.proofs.JudgingLists.{every_at, pairs_before, pairs_push}
use Rattle.pool_model.proofs.Loops.{all_push}

-- ---- Sharing

-- what two that share a home are
record Shared (a b : Spot) : Type 0 where
  first : a.tracked ≡ true
  second : b.tracked ≡ true
  key : a.key ≡ b.key

-- three tests that hold
and_of : (x y z : Bool) → x && y && z ≡ true → (x ≡ true) × (y ≡ true) × (z ≡ true)
and_of true true true all = (refl, refl, refl)
and_of true true false all = absurd (cc all)
and_of true false z all = absurd (cc all)
and_of false y z all = absurd (cc all)

-- what the test of sharing says
shared_of : (a b : Spot) → are_shared a b ≡ true → Shared a b
shared_of a b shared =
    let parts = and_of a.tracked b.tracked (key_eq a.key b.key) shared in
    record { first = parts.0; second = parts.1; key = key_eq-true a.key b.key parts.2 }

-- and back
shared_from : (a b : Spot) → Shared a b → are_shared a b ≡ true
shared_from a b shared =
    ap (λ x. x && b.tracked && key_eq a.key b.key) shared.first
    ∙ ap (λ x. x && key_eq a.key b.key) shared.second
    ∙ ap (λ (k : Key). key_eq k b.key) shared.key
    ∙ key_eq-same b.key

-- two that share with a third share with each other
shared_both : (o a b : Spot) → are_shared o a ≡ true → are_shared o b ≡ true → are_shared a b ≡ true
shared_both o a b first second =
    let one = shared_of o a first in
    let other = shared_of o b second in
    shared_from a b (record { first = one.second; second = other.second; key = sym one.key ∙ other.key })

-- ---- Owners

-- what a sector's owner says of the slots that were looked at: none lies there, or it does, and shares with all that lie there
abbrev Lies : ℕ → Spot → Type 0
Lies s y = (y.place == s) ≡ true

-- one that lies at a sector is its owner, or shares with it
abbrev IsOf : ℕ → Spot → Spot → Type 0
IsOf s o y = (y.place == s) ≡ true → (y ≡ o) ⊎ (are_shared o y ≡ true)

-- the owner of a sector, by its number
data Owner (done : List Spot) (s : ℕ) : ℕ → Type 0 where
  none : AllByRecursion (λ (y : Spot). (y.place == s) ≡ false) done → Owner done s 0
  some : (i : ℕ) (o : Spot) → slice_get done i ≡ Some o → Lies s o → AllByRecursion (IsOf s o) done → Owner done s (i + 1)

-- an element of a front
slice_get-front : {X : Type 0} (xs ys : List X) (i : ℕ) (x : X) → slice_get xs i ≡ Some x → slice_get (xs ++ ys) i ≡ Some x
slice_get-front [] ys i x there = absurd (cc there)
slice_get-front (z ∷ xs) ys zero x there = there
slice_get-front (z ∷ xs) ys (suc i) x there = slice_get-front xs ys i x there

-- the element at the end
slice_get-last : {X : Type 0} (xs : List X) (x : X) → slice_get (xs ++ x ∷ []) (length xs) ≡ Some x
slice_get-last [] x = refl
slice_get-last (z ∷ xs) x = slice_get-last xs x

-- one more that lies elsewhere
owner_past : (done : List Spot) (s n : ℕ) (x : Spot) → (x.place == s) ≡ false → Owner done s n → Owner (done ++ x ∷ []) s n
owner_past done s n x elsewhere (none each) = none (all_push (λ (y : Spot). (y.place == s) ≡ false) done x each elsewhere)
owner_past done s n x elsewhere (some i o there lies each) =
    some i o (slice_get-front done (x ∷ []) i o there) lies
    (all_push (IsOf s o) done x each (λ here. absurd (false≢true (sym elsewhere ∙ here))))

-- one more that shares with the owner
owner_shared : (done : List Spot) (s i : ℕ) (o x : Spot) → slice_get done i ≡ Some o → Lies s o → AllByRecursion (IsOf s o) done
    → are_shared o x ≡ true → Owner (done ++ x ∷ []) s (i + 1)
owner_shared done s i o x there lies each shared =
    some i o (slice_get-front done (x ∷ []) i o there) lies (all_push (IsOf s o) done x each (λ _. inr shared))

-- one more that becomes the owner
owner_new : (done : List Spot) (s : ℕ) (x : Spot) → Lies s x → AllByRecursion (λ (y : Spot). (y.place == s) ≡ false) done
    → Owner (done ++ x ∷ []) s (length done + 1)
owner_new done s x lies each =
    some (length done) x (slice_get-last done x) lies
    (all_push (IsOf s x) done x
    (all_from (λ (y : Spot). (y.place == s) ≡ false) (IsOf s x) (λ y elsewhere here. absurd (false≢true (sym elsewhere ∙ here))) done each)
    (λ _. inl refl))

-- each sector has its owner
record Owners (done : List Spot) (owners : List ℕ) : Type 0 where
  each : (s : ℕ) → s < length owners → Owner done s (get_or owners s 0)

-- one goes with another
abbrev IsApartFrom : Spot → Spot → Type 0
IsApartFrom x y = go_apart y x ≡ true

-- ---- One step

-- one that lies elsewhere goes with it
elsewhere_apart : (s : ℕ) (x y : Spot) → x.place ≡ s → (y.place == s) ≡ false → go_apart y x ≡ true
elsewhere_apart s x y here elsewhere =
    let differ : (y.place == x.place) ≡ false = ap (λ n. y.place == n) here ∙ elsewhere in
    ap (λ b. are_shared y x || not b) differ ∙ or_true (are_shared y x)
  where
    or_true : (b : Bool) → (b || true) ≡ true
    or_true true = refl
    or_true false = refl

-- one test of two
apart_by : (b c : Bool) → b ≡ true → (b || c) ≡ true
apart_by b c is = ap (λ x. x || c) is

-- one that shares with the owner goes with all that lie there
shared_apart : (s : ℕ) (o x y : Spot) → x.place ≡ s → are_shared o x ≡ true → IsOf s o y → go_apart y x ≡ true
shared_apart s o x y here shared of =
    by_place (y.place == s) refl
  where
    by_place : (b : Bool) → (y.place == s) ≡ b → go_apart y x ≡ true
    by_place false elsewhere = elsewhere_apart s x y here elsewhere
    by_place true lies =
        ⊎_elim
        (λ same. apart_by _ _ (ap (λ (z : Spot). are_shared z x) same ∙ shared))
        (λ other. apart_by _ _ (shared_both o y x other shared))
        (of lies)

-- one that doesn't share with the owner goes not with it
not_apart : (s : ℕ) (o x : Spot) → x.place ≡ s → Lies s o → are_shared o x ≡ false → go_apart o x ≡ true → ⊥
not_apart s o x here lies alone apart =
    let same : (o.place == x.place) ≡ true = ap (λ n. o.place == n) here ∙ lies in
    let never : go_apart o x ≡ false = ap (λ b. b || not (o.place == x.place)) alone ∙ ap not same in
    false≢true (sym never ∙ apart)

-- what a step of the recursion comes to
data Step (all done : List Spot) (at : ℕ) (owners : List ℕ) (x : Spot) (xs : List Spot) : Type 0 where
  goes : (next : List ℕ) → are_owned all at owners (x ∷ xs) ≡ are_owned all (at + 1) next xs → length next ≡ length owners
      → Owners (done ++ x ∷ []) next → AllByRecursion (IsApartFrom x) done → Step all done at owners x xs
  stops : are_owned all at owners (x ∷ xs) ≡ false → (AllByRecursion (IsApartFrom x) done → ⊥) → Step all done at owners x xs

-- no owner
is_zero : (n : ℕ) → n ≡ 0 → (n == 0) ≡ true
is_zero n zero_is = eq-eqb n 0 zero_is

-- an owner
isnt_zero : (n i : ℕ) → n ≡ i + 1 → (n == 0) ≡ false
isnt_zero n i more =
    ⊎_elim (λ here. absurd (omega (arith, here.1))) (λ other. other.0) (eqb_tells n 0)

-- one step of the recursion
step : (all done : List Spot) (at : ℕ) (owners : List ℕ) (x : Spot) (xs : List Spot) → all ≡ done ++ x ∷ xs → at ≡ length done
    → x.place < length owners → Owners done owners → Step all done at owners x xs
step all done at owners x xs split here within inv = by_owner (get_or owners x.place 0) refl (inv.each x.place within)
  where
    further : ℕ → Bool
    further n = shares_with (slice_get all (n - 1)) x && are_owned all (at + 1) owners xs

    fresh : Bool
    fresh = are_owned all (at + 1) (slice_set owners x.place (at + 1)) xs

    lies : Lies x.place x
    lies = eq-eqb x.place x.place refl

    -- a sector's owner after x became the owner of its own
    renewed : AllByRecursion (λ (y : Spot). (y.place == x.place) ≡ false) done → (s : ℕ) → s < length (set owners x.place (at + 1))
        → Owner (done ++ x ∷ []) s (get_or (set owners x.place (at + 1)) s 0)
    renewed each s lt =
        ⊎_elim
        (λ same. subst (Owner (done ++ x ∷ []) s)
        (ap (λ n. n + 1) (sym here)
        ∙ sym (ap (λ n. get_or (set owners x.place (at + 1)) n 0) (sym same.1) ∙ get_or-set_same owners x.place (at + 1) 0 within))
        (subst (λ n. Owner (done ++ x ∷ []) n (length done + 1)) same.1 (owner_new done x.place x lies each)))
        (λ other. subst (Owner (done ++ x ∷ []) s)
        (sym (get_or-set_other owners x.place s (at + 1) 0 (λ e. other.1 (sym e))))
        (owner_past done s (get_or owners s 0) x other.0 (inv.each s (omega (arith, length-set owners x.place (at + 1))))))
        (eqb_tells x.place s)

    kept : (i : ℕ) (o : Spot) → get_or owners x.place 0 ≡ i + 1 → slice_get done i ≡ Some o → Lies x.place o
        → AllByRecursion (IsOf x.place o) done → are_shared o x ≡ true → (s : ℕ) → s < length owners
        → Owner (done ++ x ∷ []) s (get_or owners s 0)
    kept i o is there on each shared s lt =
        ⊎_elim
        (λ same. subst (λ n. Owner (done ++ x ∷ []) n (get_or owners n 0)) same.1
        (subst (Owner (done ++ x ∷ []) x.place) (sym is) (owner_shared done x.place i o x there on each shared)))
        (λ other. owner_past done s (get_or owners s 0) x other.0 (inv.each s lt))
        (eqb_tells x.place s)

    by_shared : (i : ℕ) (o : Spot) → get_or owners x.place 0 ≡ i + 1 → slice_get done i ≡ Some o → Lies x.place o
        → AllByRecursion (IsOf x.place o) done
        → are_owned all at owners (x ∷ xs) ≡ (are_shared o x && are_owned all (at + 1) owners xs) → (b : Bool) → are_shared o x ≡ b
        → Step all done at owners x xs
    by_shared i o is there on each comes true shared =
        goes owners (comes ∙ ap (λ b. b && are_owned all (at + 1) owners xs) shared) refl
        (record { each = kept i o is there on each shared })
        (all_from (IsOf x.place o) (IsApartFrom x) (λ y of. shared_apart x.place o x y refl shared of) done each)
    by_shared i o is there on each comes false alone =
        stops (comes ∙ ap (λ b. b && are_owned all (at + 1) owners xs) alone)
        (λ apart. not_apart x.place o x refl on alone (every_at (IsApartFrom x) done i o apart there))

    by_owner : (n : ℕ) → get_or owners x.place 0 ≡ n → Owner done x.place n → Step all done at owners x xs
    by_owner n is (none each) =
        goes (set owners x.place (at + 1))
        (ap (λ b. if b then fresh else further (slice_index owners x.place)) (is_zero (slice_index owners x.place) is))
        (length-set owners x.place (at + 1))
        (record { each = renewed each })
        (all_from (λ (y : Spot). (y.place == x.place) ≡ false) (IsApartFrom x)
        (λ y elsewhere. elsewhere_apart x.place x y refl elsewhere) done each)
    by_owner n is (some i o there on each) =
        let found : slice_get all i ≡ Some o = ap (λ (l : List Spot). slice_get l i) split ∙ slice_get-front done (x ∷ xs) i o there in
        let index : slice_index owners x.place - 1 ≡ i = omega (arith, is) in
        by_shared i o is there on each
        (ap (λ b. if b then fresh else further (slice_index owners x.place)) (isnt_zero (slice_index owners x.place) i is)
        ∙ ap (λ n. shares_with (slice_get all n) x && are_owned all (at + 1) owners xs) index
        ∙ ap (λ o. shares_with o x && are_owned all (at + 1) owners xs) found)
        (are_shared o x) refl

-- ---- The whole

-- each two go together
abbrev AreApart : List Spot → Type 0
AreApart spots = Pairwise (λ a b. go_apart a b ≡ true) spots

-- where what is left to look at begins
record At (all done rest : List Spot) (at : ℕ) (owners : List ℕ) : Type 0 where
  split : all ≡ done ++ rest
  number : at ≡ length done
  within : AllByRecursion (λ (y : Spot). y.place < length owners) rest
  owners_are : Owners done owners
  apart : AreApart done

-- where what is left begins after a step
next_at : (all done : List Spot) (x : Spot) (xs : List Spot) (at : ℕ) (owners next : List ℕ) → At all done (x ∷ xs) at owners
    → length next ≡ length owners → Owners (done ++ x ∷ []) next → AllByRecursion (IsApartFrom x) done
    → At all (done ++ x ∷ []) xs (at + 1) next
next_at all done x xs at owners next now same inv apart = record {
  split = now.split ∙ sym (append_assoc done (x ∷ []) xs);
  number = ap (λ n. n + 1) now.number ∙ sym (length-append done (x ∷ []));
  within = subst (λ n. AllByRecursion (λ (y : Spot). y.place < n) xs) (sym same) now.within.1;
  owners_are = inv;
  apart = pairs_push (λ a b. go_apart a b ≡ true) done x now.apart apart;
}

-- a test that passes says that each two go together
sound : (rest all done : List Spot) (at : ℕ) (owners : List ℕ) → At all done rest at owners → are_owned all at owners rest ≡ true
    → AreApart all
sound [] all done at owners now passed = subst AreApart (sym (now.split ∙ append-nil done)) now.apart
sound (x ∷ xs) all done at owners now passed =
    by_step (λ next there rest. sound xs all (done ++ x ∷ []) (at + 1) next there rest)
    (step all done at owners x xs now.split now.number now.within.0 now.owners_are)
  where
    by_step : ((next : List ℕ) → At all (done ++ x ∷ []) xs (at + 1) next → are_owned all (at + 1) next xs ≡ true → AreApart all)
        → Step all done at owners x xs → AreApart all
    by_step again (goes next comes same inv apart) = again next (next_at all done x xs at owners next now same inv apart)
        (sym comes ∙ passed)
    by_step again (stops comes not_apart) = absurd (false≢true (sym comes ∙ passed))

-- and where they do, it passes
complete : (rest all done : List Spot) (at : ℕ) (owners : List ℕ) → At all done rest at owners → AreApart all
    → are_owned all at owners rest ≡ true
complete [] all done at owners now pairs = refl
complete (x ∷ xs) all done at owners now pairs =
    by_step (λ next there. complete xs all (done ++ x ∷ []) (at + 1) next there pairs)
    (step all done at owners x xs now.split now.number now.within.0 now.owners_are)
  where
    by_step : ((next : List ℕ) → At all (done ++ x ∷ []) xs (at + 1) next → are_owned all (at + 1) next xs ≡ true)
        → Step all done at owners x xs → are_owned all at owners (x ∷ xs) ≡ true
    by_step again (goes next comes same inv apart) = comes ∙ again next (next_at all done x xs at owners next now same inv apart)
    by_step again (stops comes not_apart) = absurd
        (not_apart (pairs_before (λ a b. go_apart a b ≡ true) done x xs (subst AreApart now.split pairs)))

-- at first no sector has an owner
first_at : (all : List Spot) (n : ℕ) → AllByRecursion (λ (y : Spot). y.place < n) all → At all [] all 0 (replicate n 0)
first_at all n within = record {
  split = refl;
  number = refl;
  within = subst (λ m. AllByRecursion (λ (y : Spot). y.place < m) all) (sym (length-replicate {A = ℕ} n 0)) within;
  owners_are = record { each = λ s lt. subst (Owner [] s) (sym (get_or-replicate n s 0 0 (omega (arith, lt, length-replicate {A = ℕ} n 0)))) (none tt) };
  apart = tt;
}

-- the owners tell it
pub apart_if_owned : (all : List Spot) (n : ℕ) → AllByRecursion (λ (y : Spot). y.place < n) all → are_owned all 0 (replicate n 0) all ≡ true
    → AreApart all
apart_if_owned all n within passed = sound all all [] 0 (replicate n 0) (first_at all n within) passed

-- and are told by it
pub owned_if_apart : (all : List Spot) (n : ℕ) → AllByRecursion (λ (y : Spot). y.place < n) all → AreApart all
    → are_owned all 0 (replicate n 0) all ≡ true
owned_if_apart all n within pairs = complete all all [] 0 (replicate n 0) (first_at all n within) pairs
