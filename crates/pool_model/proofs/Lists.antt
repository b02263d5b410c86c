-- What holds of each element of a list, or between any two, holds of what a filter, a take or a drop leaves of it.
use Rattle.std.proofs.Common.{◌≡◌, ℕ, ◌+◌, ◌≤◌, Bool, true, false, cond, List, [], ◌∷◌, ◌++◌, length, filter, find, fold, take, drop, take-append-drop, Some, None, inl, inr, ⊎_elim, refl, sym, ap, subst, ◌∙◌, arith}
use Rattle.std.specs.List.{AllByRecursion}
use Rattle.pool_model.specs.Pool.{Pairwise}
use Rattle.pool_model.specs.Waiting.{IsIn, AreAmong}

module _ {X : Type 0} where
  -- a property that follows from another
  pub all_from : (P Q : X → Type 0) → ((x : X) → P x → Q x) → (xs : List X) → AllByRecursion P xs → AllByRecursion Q xs
  all_from P Q from [] all = tt
  all_from P Q from (x ∷ xs) all = (from x all.0, all_from P Q from xs all.1)

  -- a property that follows from two others
  pub all_from_both : (P Q R : X → Type 0) → ((x : X) → P x → Q x → R x) → (xs : List X) → AllByRecursion P xs → AllByRecursion Q xs
      → AllByRecursion R xs
  all_from_both P Q R from [] all more = tt
  all_from_both P Q R from (x ∷ xs) all more = (from x all.0 more.0, all_from_both P Q R from xs all.1 more.1)

  -- a property of everything
  pub all_each : (P : X → Type 0) → ((x : X) → P x) → (xs : List X) → AllByRecursion P xs
  all_each P each [] = tt
  all_each P each (x ∷ xs) = (each x, all_each P each xs)

  kept : (P : X → Type 0) (b : Bool) (x : X) (rest : List X) → P x → AllByRecursion P rest → AllByRecursion P (cond b (x ∷ rest) rest)
  kept P true x rest here all = (here, all)
  kept P false x rest here all = all

  pub all_filter : (P : X → Type 0) (test : X → Bool) (xs : List X) → AllByRecursion P xs → AllByRecursion P (filter test xs)
  all_filter P test [] all = tt
  all_filter P test (x ∷ xs) all = kept P (test x) x (filter test xs) all.0 (all_filter P test xs all.1)

  passed : (P : X → Type 0) (b : Bool) (x : X) (rest : List X) → (b ≡ true → P x) → AllByRecursion P rest
      → AllByRecursion P (cond b (x ∷ rest) rest)
  passed P true x rest here all = (here refl, all)
  passed P false x rest here all = all

  -- what a test tells holds of each element that passes it
  pub all_passed : (P Q : X → Type 0) (test : X → Bool) → ((x : X) → test x ≡ true → P x → Q x) → (xs : List X) → AllByRecursion P xs
      → AllByRecursion Q (filter test xs)
  all_passed P Q test from [] all = tt
  all_passed P Q test from (x ∷ xs) all = passed Q (test x) x (filter test xs) (λ e. from x e all.0) (all_passed P Q test from xs all.1)

  pub all_tested : (Q : X → Type 0) (test : X → Bool) → ((x : X) → test x ≡ true → Q x) → (xs : List X)
      → AllByRecursion Q (filter test xs)
  all_tested Q test from [] = tt
  all_tested Q test from (x ∷ xs) = passed Q (test x) x (filter test xs) (from x) (all_tested Q test from xs)

  -- a filter that every element passes
  pub filter_whole : (test : X → Bool) (xs : List X) → AllByRecursion (λ x. test x ≡ true) xs → filter test xs ≡ xs
  filter_whole test [] all = refl
  filter_whole test (x ∷ xs) all =
      ap (λ b. cond b (x ∷ filter test xs) (filter test xs)) all.0 ∙ ap (λ (ys : List X). x ∷ ys) (filter_whole test xs all.1)

  kept_pairs : (R : X → X → Type 0) (b : Bool) (x : X) (rest : List X) → AllByRecursion (R x) rest → Pairwise R rest
      → Pairwise R (cond b (x ∷ rest) rest)
  kept_pairs R true x rest here pairs = (here, pairs)
  kept_pairs R false x rest here pairs = pairs

  pub pairs_filter : (R : X → X → Type 0) (test : X → Bool) (xs : List X) → Pairwise R xs → Pairwise R (filter test xs)
  pairs_filter R test [] pairs = tt
  pairs_filter R test (x ∷ xs) pairs =
      kept_pairs R (test x) x (filter test xs) (all_filter (R x) test xs pairs.0) (pairs_filter R test xs pairs.1)

  pub pairs_from : (R S : X → X → Type 0) → ((x y : X) → R x y → S x y) → (xs : List X) → Pairwise R xs → Pairwise S xs
  pairs_from R S from [] pairs = tt
  pairs_from R S from (x ∷ xs) pairs = (all_from (R x) (S x) (from x) xs pairs.0, pairs_from R S from xs pairs.1)

  -- what holds between any two holds between those of one class and those of another
  pub classes_apart : (R : X → X → Type 0) → ((x y : X) → R x y → R y x) → (one more : X → Bool) (xs : List X)
      → AllByRecursion (λ x. one x ≡ true → more x ≡ true → ⊥) xs → Pairwise R xs
      → AllByRecursion (λ x. AllByRecursion (R x) (filter more xs)) (filter one xs)
  classes_apart R back one more [] apart pairs = tt
  classes_apart R back one more (x ∷ xs) apart pairs =
      by_tests (classes_apart R back one more xs apart.1 pairs.1) (one x) (more x) refl refl
    where
      by_tests : AllByRecursion (λ y. AllByRecursion (R y) (filter more xs)) (filter one xs) → (b d : Bool) → one x ≡ b → more x ≡ d
          → AllByRecursion (λ y. AllByRecursion (R y) (cond d (x ∷ filter more xs) (filter more xs)))
          (cond b (x ∷ filter one xs) (filter one xs))
      by_tests rest true true first second = absurd (apart.0 first second)
      by_tests rest true false first second = (all_filter (R x) more xs pairs.0, rest)
      by_tests rest false true first second =
          all_from_both (λ y. R x y) (λ y. AllByRecursion (R y) (filter more xs)) (λ y. R y x × AllByRecursion (R y) (filter more xs))
          (λ y r all. (back x y r, all)) (filter one xs) (all_filter (R x) one xs pairs.0) rest
      by_tests rest false false first second = rest

  -- what holds of two lists, one behind the other, holds of each, and the other way round
  pub all_front : (P : X → Type 0) (xs ys : List X) → AllByRecursion P (xs ++ ys) → AllByRecursion P xs
  all_front P [] ys all = tt
  all_front P (x ∷ xs) ys all = (all.0, all_front P xs ys all.1)

  pub all_back : (P : X → Type 0) (xs ys : List X) → AllByRecursion P (xs ++ ys) → AllByRecursion P ys
  all_back P [] ys all = all
  all_back P (x ∷ xs) ys all = all_back P xs ys all.1

  pub all_both : (P : X → Type 0) (xs ys : List X) → AllByRecursion P xs → AllByRecursion P ys → AllByRecursion P (xs ++ ys)
  all_both P [] ys all more = more
  all_both P (x ∷ xs) ys all more = (all.0, all_both P xs ys all.1 more)

  pub pairs_front : (R : X → X → Type 0) (xs ys : List X) → Pairwise R (xs ++ ys) → Pairwise R xs
  pairs_front R [] ys pairs = tt
  pairs_front R (x ∷ xs) ys pairs = (all_front (R x) xs ys pairs.0, pairs_front R xs ys pairs.1)

  pub pairs_back : (R : X → X → Type 0) (xs ys : List X) → Pairwise R (xs ++ ys) → Pairwise R ys
  pairs_back R [] ys pairs = pairs
  pairs_back R (x ∷ xs) ys pairs = pairs_back R xs ys pairs.1

  -- each of the second list comes behind each of the first
  pub all_behind : (R : X → X → Type 0) (xs ys : List X) → Pairwise R (xs ++ ys) → AllByRecursion (λ x. AllByRecursion (R x) ys) xs
  all_behind R [] ys pairs = tt
  all_behind R (x ∷ xs) ys pairs = (all_back (R x) xs ys pairs.0, all_behind R xs ys pairs.1)

  pub all_take : (P : X → Type 0) (n : ℕ) (xs : List X) → AllByRecursion P xs → AllByRecursion P (take n xs)
  all_take P n xs all = all_front P (take n xs) (drop n xs) (subst (AllByRecursion P) (sym (take-append-drop n xs)) all)

  pub all_drop : (P : X → Type 0) (n : ℕ) (xs : List X) → AllByRecursion P xs → AllByRecursion P (drop n xs)
  all_drop P n xs all = all_back P (take n xs) (drop n xs) (subst (AllByRecursion P) (sym (take-append-drop n xs)) all)

  pub pairs_drop : (R : X → X → Type 0) (n : ℕ) (xs : List X) → Pairwise R xs → Pairwise R (drop n xs)
  pairs_drop R n xs pairs = pairs_back R (take n xs) (drop n xs) (subst (Pairwise R) (sym (take-append-drop n xs)) pairs)

  -- where nothing is found, each element fails the test, and the other way round
  pub all_missed : (test : X → Bool) (xs : List X) → find test xs ≡ None → AllByRecursion (λ x. test x ≡ false) xs
  all_missed test [] none = tt
  all_missed test (x ∷ xs) none = by_test (all_missed test xs) (test x) refl none
    where
      by_test : (find test xs ≡ None → AllByRecursion (λ y. test y ≡ false) xs) → (b : Bool) → test x ≡ b
          → cond b (Some x) (find test xs) ≡ None → (test x ≡ false) × AllByRecursion (λ y. test y ≡ false) xs
      by_test rest true here found = absurd (cc found)
      by_test rest false here found = (here, rest found)

  pub none_found : (test : X → Bool) (xs : List X) → AllByRecursion (λ x. test x ≡ false) xs → find test xs ≡ None
  none_found test [] all = refl
  none_found test (x ∷ xs) all = ap (λ b. cond b (Some x) (find test xs)) all.0 ∙ none_found test xs all.1

  -- one element more, or none
  pub length-cond : (b : Bool) (x : X) (xs : List X)
      → (length xs ≤ length (cond b (x ∷ xs) xs)) × (length (cond b (x ∷ xs) xs) ≤ length xs + 1)
  length-cond true x xs = (omega arith, omega arith)
  length-cond false x xs = (omega arith, omega arith)

  -- what is added in front of two lists leaves one as much longer as it was
  pub length-cond_both : (b : Bool) (x : X) (xs ys : List X) → length xs ≤ length ys + 1
      → length (cond b (x ∷ xs) xs) ≤ length (cond b (x ∷ ys) ys) + 1
  length-cond_both true x xs ys longer = omega arith
  length-cond_both false x xs ys longer = longer

  -- a filter leaves no more
  pub length-filter-le : (test : X → Bool) (xs : List X) → length (filter test xs) ≤ length xs
  length-filter-le test [] = omega arith
  length-filter-le test (x ∷ xs) = omega (arith, length-filter-le test xs, (length-cond (test x) x (filter test xs)).1)

  -- nor does it of those that pass another test
  pub passing_filter : (test other : X → Bool) (xs : List X) → length (filter test (filter other xs)) ≤ length (filter test xs)
  passing_filter test other [] = omega arith
  passing_filter test other (x ∷ xs) = by_test (passing_filter test other xs) (other x)
    where
      by_test : length (filter test (filter other xs)) ≤ length (filter test xs) → (b : Bool)
          → length (filter test (cond b (x ∷ filter other xs) (filter other xs))) ≤ length (filter test (x ∷ xs))
      by_test less true = in_front (test x)
        where
          in_front : (b : Bool) → length (cond b (x ∷ filter test (filter other xs)) (filter test (filter other xs))) ≤ length
              (cond b (x ∷ filter test xs) (filter test xs))
          in_front true = omega (arith, less)
          in_front false = less
      by_test less false = omega (arith, less, (length-cond (test x) x (filter test xs)).0)

  -- a fold keeps what each of its steps keeps
  pub fold_keeps : {S : Type 0} (Q : S → Type 0) (P : X → Type 0) (step : S → X → S)
      → ((state : S) (x : X) → Q state → P x → Q (step state x)) → (xs : List X) (state : S) → Q state → AllByRecursion P xs
      → Q (fold step state xs)
  fold_keeps Q P step keeps [] state now all = now
  fold_keeps Q P step keeps (x ∷ xs) state now all = fold_keeps Q P step keeps xs (step state x) (keeps state x now all.0) all.1

  -- what holds of each element holds of one of them
  pub all_at : (P : X → Type 0) (x : X) (ys : List X) → IsIn x ys → AllByRecursion P ys → P x
  all_at P x [] is all = absurd is
  all_at P x (y ∷ ys) is all = ⊎_elim (λ here. subst P (sym here) all.0) (λ later. all_at P x ys later all.1) is

  -- each element is one of all
  pub all_in : (xs : List X) → AreAmong xs xs
  all_in [] = tt
  all_in (x ∷ xs) = (inl refl, all_from (λ (y : X). IsIn y xs) (λ (y : X). IsIn y (x ∷ xs)) (λ y is. inr is) xs (all_in xs))

  -- what holds of all holds of those that are among them
  pub among_all : (P : X → Type 0) (some all : List X) → AreAmong some all → AllByRecursion P all → AllByRecursion P some
  among_all P some all among each = all_from (λ (x : X). IsIn x all) P (λ x is. all_at P x all is each) some among

  -- and the other way around
  pub among_by : (some all : List X) → ((P : X → Type 0) → AllByRecursion P all → AllByRecursion P some) → AreAmong some all
  among_by some all from = from (λ x. IsIn x all) (all_in all)
