-- Stable sorts: a sorted list is told by its elements of each rank in their order, and inserting elements one by one keeps that order.
use Rattle.std.proofs.Common.{◌≡◌, ◌+◌, ◌<◌, ◌≤◌, ℕ, suc, Bool, true, false, cond, not, ◌&&◌, List, [], ◌∷◌, ◌++◌, length, filter, fold, refl, sym, ap, subst, ◌∙◌, arith}
use Rattle.std.specs.Prelude.{if◌then◌else◌, slice_index_or}
use Rattle.std.specs.Cmp.{IsStrictWeakOrder}
use Rattle.std.specs.List.{AllByRecursion}
use Rattle.std.specs.List.Sorted.{ties, IsSortedBy}
use Rattle.std.proofs.lemmas.Bool.{false≢true}
use Rattle.std.proofs.lemmas.List.{append_assoc, append-nil}
use Rattle.std.proofs.lemmas.List.Elements.{recursion_from_All}
use Rattle.std.proofs.lemmas.List.Sorted.{sorted_far}
use Rattle.pool_model.specs.Pool.{Pairwise}
use Rattle.pool_model.proofs.Lists.{all_from, all_filter}
use Rattle.pool_model.proofs.Loops.{filter-none}

-- an element is inserted before the first one that comes behind it
pub record IsInserted {X : Type 0} (lt : X → X → Bool) (insert : X → List X → List X) : Type 0 where
  pub order : IsStrictWeakOrder lt
  pub alone : (x : X) → insert x [] ≡ x ∷ []
  pub step : (x y : X) (ys : List X) → insert x (y ∷ ys) ≡ (if lt x y then x ∷ y ∷ ys else y ∷ insert x ys)

module _ {X : Type 0} where
  pub filter-kept : (test : X → Bool) (x : X) (xs : List X) → test x ≡ true → filter test (x ∷ xs) ≡ x ∷ filter test xs
  filter-kept test x xs passes = ap (λ b. cond b (x ∷ filter test xs) (filter test xs)) passes

  pub filter-left : (test : X → Bool) (x : X) (xs : List X) → test x ≡ false → filter test (x ∷ xs) ≡ filter test xs
  filter-left test x xs fails = ap (λ b. cond b (x ∷ filter test xs) (filter test xs)) fails

  never_both : {P : Type 0} (xs : List X) (y : X) (ys : List X) → xs ≡ [] → xs ≡ y ∷ ys → P
  never_both xs y ys none some = absurd (cc (none, some))

-- ---- What tells a sorted list

module _ {X : Type 0} {lt : X → X → Bool} (order : IsStrictWeakOrder lt) where
  -- the second isn't below the first
  abbrev NotAbove : X → X → Type 0
  NotAbove x y = lt y x ≡ false

  abbrev pub Sorted : List X → Type 0
  Sorted xs = Pairwise NotAbove xs

  never_below : (x : X) → lt x x ≡ false
  never_below x = by_test (lt x x) refl
    where
      by_test : (b : Bool) → lt x x ≡ b → lt x x ≡ false
      by_test true said = order.one_way x x said
      by_test false said = said

  tie : (x y : X) → lt x y ≡ false → lt y x ≡ false → ties lt x y ≡ true
  tie x y one other = ap (λ b. not b && not (lt y x)) one ∙ ap not other

  ties-same : (x : X) → ties lt x x ≡ true
  ties-same x = tie x x (never_below x) (never_below x)

  -- an element that is the first of those of a rank isn't below the first of all
  first_above : (x y : X) (ys rest : List X) → Sorted (y ∷ ys) → filter (ties lt x) (y ∷ ys) ≡ x ∷ rest → lt x y ≡ false
  first_above x y ys rest sorted same =
      (subst (AllByRecursion (NotAbove y)) same (all_filter (NotAbove y) (ties lt x) (y ∷ ys) (never_below y, sorted.0))).0

  -- those that tie with one are of one rank
  pub one_rank : (x y z : X) → ties lt z x ≡ true → ties lt z y ≡ true → lt x y ≡ false
  one_rank x y z one other = order.chain x z y (second (lt z x) (lt x z) one) (first (lt z y) (lt y z) other)
    where
      first : (a b : Bool) → not a && not b ≡ true → a ≡ false
      first true b both = absurd (false≢true both)
      first false b both = refl

      second : (a b : Bool) → not a && not b ≡ true → b ≡ false
      second true b both = absurd (false≢true both)
      second false true both = absurd (false≢true both)
      second false false both = refl

  rest_same : (test : X → Bool) (x y : X) (xs ys : List X) (b : Bool) → test x ≡ b → x ≡ y → filter test (x ∷ xs) ≡ filter test (y ∷ ys)
      → filter test xs ≡ filter test ys
  rest_same test x y xs ys true passes one both =
      let whole : x ∷ filter test xs ≡ y ∷ filter test ys = sym (filter-kept test x xs passes) ∙ both ∙ filter-kept test y ys
      (ap test (sym one) ∙ passes) in
      cc whole
  rest_same test x y xs ys false fails one both =
      sym (filter-left test x xs fails) ∙ both ∙ filter-left test y ys (ap test (sym one) ∙ fails)

  pub same_from_ties : (xs ys : List X) → Sorted xs → Sorted ys → ((z : X) → filter (ties lt z) xs ≡ filter (ties lt z) ys)
      → xs ≡ ys
  same_from_ties [] [] one other same = refl
  same_from_ties [] (y ∷ ys) one other same =
      never_both (filter (ties lt y) (y ∷ ys)) y (filter (ties lt y) ys) (sym (same y)) (filter-kept (ties lt y) y ys (ties-same y))
  same_from_ties (x ∷ xs) [] one other same =
      never_both (filter (ties lt x) (x ∷ xs)) x (filter (ties lt x) xs) (same x) (filter-kept (ties lt x) x xs (ties-same x))
  same_from_ties (x ∷ xs) (y ∷ ys) one other same =
      let at_x : filter (ties lt x) (y ∷ ys) ≡ x ∷ filter (ties lt x) xs =
      sym (same x) ∙ filter-kept (ties lt x) x xs (ties-same x) in
      let at_y : filter (ties lt y) (x ∷ xs) ≡ y ∷ filter (ties lt y) ys = same y ∙ filter-kept (ties lt y) y ys (ties-same y) in
      let tied : ties lt x y ≡ true = tie x y (first_above x y ys (filter (ties lt x) xs) other at_x)
      (first_above y x xs (filter (ties lt y) ys) one at_y) in
      let heads : x ∷ filter (ties lt x) xs ≡ y ∷ filter (ties lt x) ys = sym at_x ∙ filter-kept (ties lt x) y ys tied in
      let first : x ≡ y = cc heads in
      ap (λ (z : X). z ∷ xs) first
      ∙ ap (λ (zs : List X). y ∷ zs)
      (same_from_ties xs ys one.1 other.1 (λ z. rest_same (ties lt z) x y xs ys (ties lt z x) refl first (same z)))

  pairs_of : (xs : List X)
      → ((i j : ℕ) (d : X) → i ≤ j → j < length xs → lt (slice_index_or xs j d) (slice_index_or xs i d) ≡ false) → Sorted xs
  pairs_of [] rises = tt
  pairs_of (x ∷ xs) rises = (
    recursion_from_All (NotAbove x) xs (λ k d within. rises 0 (suc k) d (omega arith) (omega arith)),
    pairs_of xs (λ i j d below within. rises (suc i) (suc j) d (omega arith) (omega arith)),
  )

  -- what a sort ensures of neighbours, of each two
  pub sorted_pairs : (xs : List X) → IsSortedBy lt xs → Sorted xs
  sorted_pairs xs sorted = pairs_of xs (sorted_far lt order xs sorted)

-- ---- Inserting one by one

module _ {X : Type 0} {lt : X → X → Bool} {insert : X → List X → List X} (is : IsInserted lt insert) where
  pub all_inserted : (P : X → Type 0) (x : X) (xs : List X) → P x → AllByRecursion P xs → AllByRecursion P (insert x xs)
  all_inserted P x [] here all = subst (AllByRecursion P) (sym (is.alone x)) (here, tt)
  all_inserted P x (y ∷ ys) here all =
      subst (AllByRecursion P) (sym (is.step x y ys)) (by_test (all_inserted P x ys here all.1) (lt x y))
    where
      by_test : AllByRecursion P (insert x ys) → (b : Bool) → AllByRecursion P (if b then x ∷ y ∷ ys else y ∷ insert x ys)
      by_test rest true = (here, all)
      by_test rest false = (all.0, rest)

  sorted_insert : (x : X) (xs : List X) → Sorted is.order xs → Sorted is.order (insert x xs)
  sorted_insert x [] sorted = subst (Sorted is.order) (sym (is.alone x)) (tt, tt)
  sorted_insert x (y ∷ ys) sorted =
      subst (Sorted is.order) (sym (is.step x y ys)) (by_test (sorted_insert x ys sorted.1) (lt x y) refl)
    where
      by_test : Sorted is.order (insert x ys) → (b : Bool) → lt x y ≡ b
          → Sorted is.order (if b then x ∷ y ∷ ys else y ∷ insert x ys)
      by_test rest true below =
          let above : lt y x ≡ false = is.order.one_way x y below in (
            (above, all_from (λ z. lt z y ≡ false) (λ z. lt z x ≡ false) (λ z one. is.order.chain z y x one above) ys sorted.0),
            sorted,
          )
      by_test rest false above = (all_inserted (λ z. lt z y ≡ false) x ys above sorted.0, rest)

  pub sorted_fold : (xs sorted : List X) → Sorted is.order sorted → Sorted is.order (fold (λ ys x. insert x ys) sorted xs)
  sorted_fold [] sorted rises = rises
  sorted_fold (x ∷ xs) sorted rises = sorted_fold xs (insert x sorted) (sorted_insert x sorted rises)

  length-insert : (x : X) (xs : List X) → length (insert x xs) ≡ length xs + 1
  length-insert x [] = ap (λ (ys : List X). length ys) (is.alone x) ∙ omega arith
  length-insert x (y ∷ ys) = ap (λ (zs : List X). length zs) (is.step x y ys) ∙ by_test (length-insert x ys) (lt x y)
    where
      by_test : length (insert x ys) ≡ length ys + 1 → (b : Bool)
          → length (if b then x ∷ y ∷ ys else y ∷ insert x ys) ≡ length (y ∷ ys) + 1
      by_test rest true = omega arith
      by_test rest false = omega (arith, rest)

  pub length-fold : (xs sorted : List X) → length (fold (λ ys x. insert x ys) sorted xs) ≡ length sorted + length xs
  length-fold [] sorted = omega arith
  length-fold (x ∷ xs) sorted = omega (arith, length-fold xs (insert x sorted), length-insert x sorted)

  -- a test that only elements of one rank pass
  module _ (test : X → Bool) (alike : (x y : X) → test x ≡ true → test y ≡ true → lt x y ≡ false) where
    none_behind : (x y : X) (ys : List X) → Sorted is.order (y ∷ ys) → lt x y ≡ true → test x ≡ true → filter test (y ∷ ys) ≡ []
    none_behind x y ys sorted below passes =
        filter-none test (y ∷ ys)
        (fails y (never_below is.order y), all_from (λ z. lt z y ≡ false) (λ z. test z ≡ false) fails ys sorted.0)
      where
        by_test : (z : X) → lt z y ≡ false → (b : Bool) → test z ≡ b → test z ≡ false
        by_test z above true said = absurd (false≢true (sym (is.order.chain x z y (alike x z passes said) above) ∙ below))
        by_test z above false said = said

        fails : (z : X) → lt z y ≡ false → test z ≡ false
        fails z above = by_test z above (test z) refl

    insert-failing : (x : X) (xs : List X) → test x ≡ false → filter test (insert x xs) ≡ filter test xs
    insert-failing x [] fails = ap (filter test) (is.alone x) ∙ filter-left test x [] fails
    insert-failing x (y ∷ ys) fails = ap (filter test) (is.step x y ys) ∙ by_test (insert-failing x ys fails) (lt x y)
      where
        by_test : filter test (insert x ys) ≡ filter test ys → (b : Bool)
            → filter test (if b then x ∷ y ∷ ys else y ∷ insert x ys) ≡ filter test (y ∷ ys)
        by_test rest true = filter-left test x (y ∷ ys) fails
        by_test rest false = ap (λ (zs : List X). cond (test y) (y ∷ zs) zs) rest

    insert-passing : (x : X) (xs : List X) → Sorted is.order xs → test x ≡ true
        → filter test (insert x xs) ≡ filter test xs ++ x ∷ []
    insert-passing x [] sorted passes = ap (filter test) (is.alone x) ∙ filter-kept test x [] passes
    insert-passing x (y ∷ ys) sorted passes =
        ap (filter test) (is.step x y ys) ∙ by_test (insert-passing x ys sorted.1 passes) (lt x y) refl
      where
        behind : (b : Bool) → cond b (y ∷ (filter test ys ++ x ∷ [])) (filter test ys ++ x ∷ [])
            ≡ cond b (y ∷ filter test ys) (filter test ys) ++ x ∷ []
        behind true = refl
        behind false = refl

        by_test : filter test (insert x ys) ≡ filter test ys ++ x ∷ [] → (b : Bool) → lt x y ≡ b
            → filter test (if b then x ∷ y ∷ ys else y ∷ insert x ys) ≡ filter test (y ∷ ys) ++ x ∷ []
        by_test rest true below =
            let none : filter test (y ∷ ys) ≡ [] = none_behind x y ys sorted below passes in
            filter-kept test x (y ∷ ys) passes ∙ ap (λ (zs : List X). x ∷ zs) none ∙ ap (λ (zs : List X). zs ++ x ∷ []) (sym none)
        by_test rest false above = ap (λ (zs : List X). cond (test y) (y ∷ zs) zs) rest ∙ behind (test y)

    insert-either : (x : X) (xs : List X) → Sorted is.order xs → filter test (insert x xs) ≡ filter test xs ++ filter test (x ∷ [])
    insert-either x xs sorted = by_test (test x) refl
      where
        by_test : (b : Bool) → test x ≡ b → filter test (insert x xs) ≡ filter test xs ++ filter test (x ∷ [])
        by_test true passes =
            insert-passing x xs sorted passes ∙ ap (λ (ys : List X). filter test xs ++ ys) (sym (filter-kept test x [] passes))
        by_test false fails =
            insert-failing x xs fails
            ∙ sym (append-nil (filter test xs))
            ∙ ap (λ (ys : List X). filter test xs ++ ys) (sym (filter-left test x [] fails))

    in_front : (x : X) (xs : List X) → filter test (x ∷ []) ++ filter test xs ≡ filter test (x ∷ xs)
    in_front x xs = by_test (test x)
      where
        by_test : (b : Bool) → cond b (x ∷ []) [] ++ filter test xs ≡ cond b (x ∷ filter test xs) (filter test xs)
        by_test true = refl
        by_test false = refl

    fold-ranks : (xs sorted : List X) → Sorted is.order sorted
        → filter test (fold (λ ys x. insert x ys) sorted xs) ≡ filter test sorted ++ filter test xs
    fold-ranks [] sorted rises = sym (append-nil (filter test sorted))
    fold-ranks (x ∷ xs) sorted rises =
        fold-ranks xs (insert x sorted) (sorted_insert x sorted rises)
        ∙ ap (λ (ys : List X). ys ++ filter test xs) (insert-either x sorted rises)
        ∙ append_assoc (filter test sorted) (filter test (x ∷ [])) (filter test xs)
        ∙ ap (λ (ys : List X). filter test sorted ++ ys) (in_front x xs)

    -- elements of one rank come in the order that they had
    pub ranks_kept : (xs : List X) → filter test (fold (λ ys x. insert x ys) [] xs) ≡ filter test xs
    ranks_kept xs = fold-ranks xs [] tt

  -- a stable sort gives what inserting one by one does
  pub sorted_as : (xs ys : List X) → IsSortedBy lt ys → ((z : X) → filter (ties lt z) ys ≡ filter (ties lt z) xs)
      → ys ≡ fold (λ zs x. insert x zs) [] xs
  sorted_as xs ys sorted stable =
      same_from_ties is.order ys (fold (λ zs x. insert x zs) [] xs) (sorted_pairs is.order ys sorted) (sorted_fold xs [] tt)
      (λ z. stable z ∙ sym (ranks_kept (ties lt z) (λ x y one other. one_rank is.order x y z one other) xs))
