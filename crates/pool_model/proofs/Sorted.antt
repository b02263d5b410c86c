-- Lists that are sorted by key, each key once: what putting an element in its key's place makes of them, and that such a
-- list comes back when its elements are put in anew.
use Rattle.std.proofs.Common.{◌≡◌, ℕ, ◌+◌, ◌≤◌, Bool, true, false, cond, not, List, [], ◌∷◌, length, filter, fold, refl, sym, ap, subst, subst₂, ◌∙◌, arith}
use Rattle.std.specs.Prelude.{if◌then◌else◌}
use Rattle.std.specs.List.{AllByRecursion}
use Rattle.std.specs.Cmp.{IsTotalOrder}
use Rattle.std.specs.Ordering.{is_eq, is_lt, ordering_reverse}
use Rattle.std.specs.declared.cmp.Ordering.{Ordering}
use Rattle.std.specs.declared.cmp.Ordering.TheVariants.{Less, Equal, Greater}
use Rattle.pool_model.specs.Pool.{Pairwise}
use Rattle.pool_model.proofs.Lists.{all_from, all_each, all_filter, filter_whole, length-cond, length-cond_both}

-- an element is put in its key's place, by a total order in which only a key itself ties with it
pub record IsPut {K X : Type 0} (order : K → K → Ordering) (key_of : X → K) (put : X → List X → List X) : Type 0 where
  pub total : IsTotalOrder order
  pub exact : (a b : K) → order a b ≡ Equal → a ≡ b
  pub alone : (x : X) → put x [] ≡ x ∷ []
  pub step : (x y : X) (ys : List X)
      → put x (y ∷ ys) ≡ (if is_lt (order (key_of x) (key_of y)) then x ∷ y ∷ ys else
      (if is_eq (order (key_of x) (key_of y)) then x ∷ ys else y ∷ put x ys))

-- an order that says less
pub less_of : (o : Ordering) → is_lt o ≡ true → o ≡ Less
less_of Less e = refl
less_of Equal e = absurd (cc e)
less_of Greater e = absurd (cc e)

module _ {K X : Type 0} {order : K → K → Ordering} {key_of : X → K} {put : X → List X → List X} (is : IsPut order key_of put) where
  abbrev Below : X → X → Type 0
  Below x y = is_lt (order (key_of x) (key_of y)) ≡ true

  abbrev Rising : List X → Type 0
  Rising xs = Pairwise Below xs

  below_than : (x y z : X) → Below x y → Below y z → Below x z
  below_than x y z one other =
      ap is_lt (is.total.trans (key_of x) (key_of y) (key_of z) (less_of (order (key_of x) (key_of y)) one)
      (less_of (order (key_of y) (key_of z)) other))

  -- what holds of an element and of a list holds of the list with the element in its place
  pub all_put : (P : X → Type 0) (x : X) (xs : List X) → P x → AllByRecursion P xs → AllByRecursion P (put x xs)
  all_put P x [] here all = subst (AllByRecursion P) (sym (is.alone x)) (here, tt)
  all_put P x (y ∷ ys) here all =
      subst (AllByRecursion P) (sym (is.step x y ys)) (by_order (all_put P x ys here all.1) (order (key_of x) (key_of y)))
    where
      by_order : AllByRecursion P (put x ys) → (o : Ordering)
          → AllByRecursion P (if is_lt o then x ∷ y ∷ ys else (if is_eq o then x ∷ ys else y ∷ put x ys))
      by_order rest Less = (here, all)
      by_order rest Equal = (here, all.1)
      by_order rest Greater = (all.0, rest)

  pub rising_put : (x : X) (xs : List X) → Rising xs → Rising (put x xs)
  rising_put x [] rising = subst Rising (sym (is.alone x)) (tt, tt)
  rising_put x (y ∷ ys) rising =
      subst Rising (sym (is.step x y ys)) (by_order (rising_put x ys rising.1) (order (key_of x) (key_of y)) refl)
    where
      by_order : Rising (put x ys) → (o : Ordering) → order (key_of x) (key_of y) ≡ o
          → Rising (if is_lt o then x ∷ y ∷ ys else (if is_eq o then x ∷ ys else y ∷ put x ys))
      by_order rest Less said =
          ((ap is_lt said, all_from (Below y) (Below x) (λ z above. below_than x y z (ap is_lt said) above) ys rising.0), rising)
      by_order rest Equal said = (
        subst (λ (k : K). AllByRecursion (λ z. is_lt (order k (key_of z)) ≡ true) ys)
            (sym (is.exact (key_of x) (key_of y) said)) rising.0,
        rising.1,
      )
      by_order rest Greater said =
          (all_put (Below y) x ys (ap is_lt (is.total.antisymm (key_of y) (key_of x) ∙ ap ordering_reverse said)) rising.0, rest)

  pub rising_fold : (xs sorted : List X) → Rising sorted → Rising (fold (λ ys x. put x ys) sorted xs)
  rising_fold [] sorted rising = rising
  rising_fold (x ∷ xs) sorted rising = rising_fold xs (put x sorted) (rising_put x sorted rising)

  pub all_fold : (P : X → Type 0) (xs sorted : List X) → AllByRecursion P xs → AllByRecursion P sorted
      → AllByRecursion P (fold (λ ys x. put x ys) sorted xs)
  all_fold P [] sorted all now = now
  all_fold P (x ∷ xs) sorted all now = all_fold P xs (put x sorted) all.1 (all_put P x sorted all.0 now)

  -- an element that is below all others comes first
  put_first : (x : X) (xs : List X) → AllByRecursion (Below x) xs → put x xs ≡ x ∷ xs
  put_first x [] below = is.alone x
  put_first x (y ∷ ys) below =
      is.step x y ys ∙ ap (λ (o : Ordering). if is_lt o then x ∷ y ∷ ys else (if is_eq o then x ∷ ys else y ∷ put x ys))
      (less_of (order (key_of x) (key_of y)) below.0)

  -- an element that is above the first is put behind it
  put_behind : (x y : X) (ys : List X) → Below y x → put x (y ∷ ys) ≡ y ∷ put x ys
  put_behind x y ys above =
      is.step x y ys
      ∙ ap (λ (o : Ordering). if is_lt o then x ∷ y ∷ ys else (if is_eq o then x ∷ ys else y ∷ put x ys))
      (is.total.antisymm (key_of x) (key_of y) ∙ ap ordering_reverse (less_of (order (key_of y) (key_of x)) above))

  fold_behind : (y : X) (xs ys : List X) → AllByRecursion (Below y) xs
      → fold (λ zs x. put x zs) (y ∷ ys) xs ≡ y ∷ fold (λ zs x. put x zs) ys xs
  fold_behind y [] ys above = refl
  fold_behind y (x ∷ xs) ys above =
      ap (λ (zs : List X). fold (λ sorted z. put z sorted) zs xs) (put_behind x y ys above.0) ∙ fold_behind y xs (put x ys) above.1

  -- a sorted list comes back when its elements are put in one by one
  pub fold_back : (xs : List X) → Rising xs → fold (λ ys x. put x ys) [] xs ≡ xs
  fold_back [] rising = refl
  fold_back (x ∷ xs) rising =
      ap (λ (ys : List X). fold (λ zs z. put z zs) ys xs) (is.alone x) ∙ fold_behind x xs [] rising.0 ∙ ap (λ (ys : List X). x ∷ ys)
      (fold_back xs rising.1)

  -- and when those that pass a test are put in between those that fail it
  pub split_back : (one more : X → Bool) (xs : List X) → AllByRecursion (λ x. more x ≡ not (one x)) xs → Rising xs
      → fold (λ ys x. put x ys) (filter one xs) (filter more xs) ≡ xs
  split_back one more [] other rising = refl
  split_back one more (x ∷ xs) other rising =
      ap (λ b. fold (λ ys z. put z ys) (cond (one x) (x ∷ filter one xs) (filter one xs))
      (cond b (x ∷ filter more xs) (filter more xs))) other.0
      ∙ by_test (one x) ∙ ap (λ (ys : List X). x ∷ ys) (split_back one more xs other.1 rising.1)
    where
      by_test : (b : Bool) → fold (λ ys z. put z ys) (cond b (x ∷ filter one xs) (filter one xs))
          (cond (not b) (x ∷ filter more xs) (filter more xs)) ≡ x ∷ fold (λ ys z. put z ys) (filter one xs) (filter more xs)
      by_test true = fold_behind x (filter more xs) (filter one xs) (all_filter (Below x) more xs rising.0)
      by_test false =
          ap (λ (ys : List X). fold (λ zs z. put z zs) ys (filter more xs))
          (put_first x (filter one xs) (all_filter (Below x) one xs rising.0))
          ∙ fold_behind x (filter more xs) (filter one xs) (all_filter (Below x) more xs rising.0)

  -- an element that is put in adds at most one to those that pass a test
  pub passing_put : (test : X → Bool) (x : X) (xs : List X) → length (filter test (put x xs)) ≤ length (filter test xs) + 1
  passing_put test x [] = subst (λ (ys : List X). length (filter test ys) ≤ 1) (sym (is.alone x)) (length-cond (test x) x []).1
  passing_put test x (y ∷ ys) =
      subst (λ (zs : List X). length (filter test zs) ≤ length (filter test (y ∷ ys)) + 1) (sym (is.step x y ys))
      (by_order (passing_put test x ys) (order (key_of x) (key_of y)))
    where
      by_order : length (filter test (put x ys)) ≤ length (filter test ys) + 1 → (o : Ordering)
          → length (filter test (if is_lt o then x ∷ y ∷ ys else (if is_eq o then x ∷ ys else y ∷ put x ys))) ≤ length
          (filter test (y ∷ ys)) + 1
      by_order rest Less = (length-cond (test x) x (filter test (y ∷ ys))).1
      by_order rest Equal = omega (arith, (length-cond (test x) x (filter test ys)).1, (length-cond (test y) y (filter test ys)).0)
      by_order rest Greater = length-cond_both (test y) y (filter test (put x ys)) (filter test ys) rest

  -- and to all
  pub length-put : (x : X) (xs : List X) → length (put x xs) ≤ length xs + 1
  length-put x xs = subst₂ (λ (n m : ℕ). n ≤ m + 1) (whole (put x xs)) (whole xs) (passing_put (λ y. true) x xs)
    where
      whole : (ys : List X) → length (filter (λ y. true) ys) ≡ length ys
      whole ys = ap length (filter_whole (λ y. true) ys (all_each (λ y. true ≡ true) (λ y. refl) ys))
