-- What is found of a key in a list, once an element is put in its key's place or a key's element is taken out.
use Rattle.std.proofs.Common.{◌≡◌, Bool, true, false, cond, not, ◌||◌, List, [], ◌∷◌, filter, find, Option, Some, None, refl, sym, ap, subst, ◌∙◌}
use Rattle.std.specs.Prelude.{if◌then◌else◌}
use Rattle.std.specs.List.{AllByRecursion, list_any}
use Rattle.std.specs.Ordering.{is_eq, is_lt}
use Rattle.std.specs.declared.cmp.Ordering.{Ordering}
use Rattle.std.specs.declared.cmp.Ordering.TheVariants.{Less, Equal, Greater}
use Rattle.std.proofs.lemmas.Bool.{false≢true}
use Rattle.pool_model.specs.Pool.{Pairwise}
use Rattle.pool_model.proofs.Lists.{all_from, all_from_both, none_found}
use Rattle.pool_model.proofs.Sorted.{IsPut, less_of}

-- a test that tells whether two keys are one, as their order does
pub record IsSame {K : Type 0} (order : K → K → Ordering) (same : K → K → Bool) : Type 0 where
  pub tells : (a b : K) → is_eq (order a b) ≡ same a b
  pub exact : (a b : K) → same a b ≡ true → a ≡ b
  pub itself : (a : K) → same a a ≡ true
  pub back : (a b : K) → same a b ≡ same b a

module _ {K X : Type 0} {order : K → K → Ordering} {same : K → K → Bool} {key_of : X → K} {put : X → List X → List X}
    (one : IsSame order same) (is : IsPut order key_of put) where
  abbrev Below : X → X → Type 0
  Below x y = is_lt (order (key_of x) (key_of y)) ≡ true

  abbrev at : K → List X → Option X
  at key xs = find (λ x. same (key_of x) key) xs

  -- what is found once an element was put in
  pub at-put : (key : K) (x : X) (xs : List X) → at key (put x xs) ≡ cond (same (key_of x) key) (Some x) (at key xs)
  at-put key x [] = ap (at key) (is.alone x)
  at-put key x (y ∷ ys) = ap (at key) (is.step x y ys) ∙ by_order (at-put key x ys) (order (key_of x) (key_of y)) refl
    where
      replaced : (b c : Bool) → b ≡ c → cond b (Some x) (at key ys) ≡ cond b (Some x) (cond c (Some y) (at key ys))
      replaced true c equal = refl
      replaced false true equal = absurd (false≢true equal)
      replaced false false equal = refl

      behind : (b c : Bool) → same (key_of x) key ≡ b → same (key_of y) key ≡ c → same (key_of x) (key_of y) ≡ false
          → cond c (Some y) (cond b (Some x) (at key ys)) ≡ cond b (Some x) (cond c (Some y) (at key ys))
      behind true true first second apart =
          absurd (false≢true (sym apart ∙ ap (same (key_of x)) (one.exact (key_of y) key second) ∙ first))
      behind true false first second apart = refl
      behind false c first second apart = refl

      by_order : at key (put x ys) ≡ cond (same (key_of x) key) (Some x) (at key ys) → (o : Ordering) → order (key_of x) (key_of y) ≡ o
          → at key (if is_lt o then x ∷ y ∷ ys else (if is_eq o then x ∷ ys else y ∷ put x ys)) ≡ cond (same (key_of x) key) (Some x)
          (cond (same (key_of y) key) (Some y) (at key ys))
      by_order rest Less said = refl
      by_order rest Equal said =
          replaced (same (key_of x) key) (same (key_of y) key) (ap (λ k. same k key) (is.exact (key_of x) (key_of y) said))
      by_order rest Greater said =
          ap (cond (same (key_of y) key) (Some y)) rest
          ∙ behind (same (key_of x) key) (same (key_of y) key) refl refl (sym (one.tells (key_of x) (key_of y)) ∙ ap is_eq said)

  -- whether a key is there once an element was put in
  pub any-put : (key : K) (x : X) (xs : List X)
      → list_any (λ y. same (key_of y) key) (put x xs) ≡ (same (key_of x) key || list_any (λ y. same (key_of y) key) xs)
  any-put key x [] = ap (list_any (λ y. same (key_of y) key)) (is.alone x)
  any-put key x (y ∷ ys) = ap any (is.step x y ys) ∙ by_order (any-put key x ys) (order (key_of x) (key_of y)) refl
    where
      any : List X → Bool
      any xs = list_any (λ z. same (key_of z) key) xs

      replaced : (b c d : Bool) → b ≡ c → (b || d) ≡ (b || (c || d))
      replaced true c d equal = refl
      replaced false true d equal = absurd (false≢true equal)
      replaced false false d equal = refl

      behind : (b c d : Bool) → (c || (b || d)) ≡ (b || (c || d))
      behind true true d = refl
      behind true false d = refl
      behind false true d = refl
      behind false false d = refl

      by_order : any (put x ys) ≡ (same (key_of x) key || any ys) → (o : Ordering) → order (key_of x) (key_of y) ≡ o
          → any (if is_lt o then x ∷ y ∷ ys else (if is_eq o then x ∷ ys else y ∷ put x ys))
          ≡ (same (key_of x) key || (same (key_of y) key || any ys))
      by_order rest Less said = refl
      by_order rest Equal said =
          replaced (same (key_of x) key) (same (key_of y) key) (any ys) (ap (λ k. same k key) (is.exact (key_of x) (key_of y) said))
      by_order rest Greater said = ap (λ d. same (key_of y) key || d) rest ∙ behind (same (key_of x) key) (same (key_of y) key) (any ys)

  -- what is found once a key was taken out
  pub at-dropped : (key gone : K) (xs : List X)
      → at key (filter (λ y. not (same (key_of y) gone)) xs) ≡ cond (same gone key) None (at key xs)
  at-dropped key gone [] = nothing (same gone key)
    where
      none : Option X
      none = None

      nothing : (b : Bool) → none ≡ cond b none none
      nothing true = refl
      nothing false = refl
  at-dropped key gone (y ∷ ys) = by_test (at-dropped key gone ys) (same (key_of y) gone) refl
    where
      left : List X
      left = filter (λ z. not (same (key_of z) gone)) ys

      taken : (b c : Bool) → b ≡ c → cond b None (at key ys) ≡ cond b None (cond c (Some y) (at key ys))
      taken true c equal = refl
      taken false true equal = absurd (false≢true equal)
      taken false false equal = refl

      stays : (b c : Bool) → same gone key ≡ b → same (key_of y) key ≡ c → same (key_of y) gone ≡ false
          → cond c (Some y) (cond b None (at key ys)) ≡ cond b None (cond c (Some y) (at key ys))
      stays true true first second apart = absurd (false≢true (sym apart ∙ ap (same (key_of y)) (one.exact gone key first) ∙ second))
      stays true false first second apart = refl
      stays false c first second apart = refl

      by_test : at key (filter (λ z. not (same (key_of z) gone)) ys) ≡ cond (same gone key) None (at key ys) → (b : Bool)
          → same (key_of y) gone ≡ b
          → at key (cond (not b) (y ∷ filter (λ z. not (same (key_of z) gone)) ys) (filter (λ z. not (same (key_of z) gone)) ys)) ≡ cond
          (same gone key) None (cond (same (key_of y) key) (Some y) (at key ys))
      by_test rest true tied = rest ∙ taken (same gone key) (same (key_of y) key)
          (ap (λ k. same k key) (sym (one.exact (key_of y) gone tied)))
      by_test rest false apart =
          ap (cond (same (key_of y) key) (Some y)) rest ∙ stays (same gone key) (same (key_of y) key) refl refl apart

  -- keys of which one is below the other differ
  pub apart_below : (x y : X) → Below x y → same (key_of x) (key_of y) ≡ false
  apart_below x y below = sym (one.tells (key_of x) (key_of y)) ∙ ap is_eq (less_of (order (key_of x) (key_of y)) below)

  -- a key is not found above itself
  pub at-above : (key : K) (x : X) (xs : List X) → same (key_of x) key ≡ true → AllByRecursion (Below x) xs → at key xs ≡ None
  at-above key x xs here above =
      none_found (λ y. same (key_of y) key) xs
      (all_from (Below x) (λ y. same (key_of y) key ≡ false)
      (λ y later. one.back (key_of y) key ∙ ap (λ k. same k (key_of y)) (sym (one.exact (key_of x) key here))
      ∙ apart_below x y later) xs above)

  -- in a rising list each element is what is found of its key
  pub each_at : (xs : List X) → Pairwise Below xs → AllByRecursion (λ x. at (key_of x) xs ≡ Some x) xs
  each_at [] rising = tt
  each_at (x ∷ xs) rising = (
    ap (λ b. cond b (Some x) (at (key_of x) xs)) (one.itself (key_of x)),
    all_from_both (Below x) (λ y. at (key_of y) xs ≡ Some y) (λ y. at (key_of y) (x ∷ xs) ≡ Some y)
        (λ y later there. ap (λ b. cond b (Some x) (at (key_of y) xs)) (apart_below x y later) ∙ there) xs rising.0 (each_at xs rising.1),
  )

-- ---- What is found, of any test

module _ {X : Type 0} where
  -- it passes the test, and has what each element has
  pub found_has : (P : X → Type 0) (test : X → Bool) (xs : List X) (x : X) → find test xs ≡ Some x → AllByRecursion P xs
      → (test x ≡ true) × P x
  found_has P test [] x there all = absurd (cc there)
  found_has P test (y ∷ ys) x there all = by_test (λ later. found_has P test ys x later all.1) (test y) refl there
    where
      by_test : (find test ys ≡ Some x → (test x ≡ true) × P x) → (b : Bool) → test y ≡ b → cond b (Some y) (find test ys) ≡ Some x
          → (test x ≡ true) × P x
      by_test rest true passed is = let same : y ≡ x = cc in (ap test (sym same) ∙ passed, subst P same all.0)
      by_test rest false passed is = rest is

  -- it is found in what another test leaves, which it passes
  pub find-filter : (test other : X → Bool) (xs : List X) (x : X) → find test xs ≡ Some x → other x ≡ true
      → find test (filter other xs) ≡ Some x
  find-filter test other [] x there passes = absurd (cc there)
  find-filter test other (y ∷ ys) x there passes = by_test (λ later. find-filter test other ys x later passes) (test y) refl there
    where
      first : (b : Bool) → test y ≡ true → y ≡ x → other y ≡ b → find test (cond b (y ∷ filter other ys) (filter other ys)) ≡ Some x
      first true passed same kept = ap (λ d. cond d (Some y) (find test (filter other ys))) passed ∙ ap (λ (z : X). Some z) same
      first false passed same kept = absurd (false≢true (sym kept ∙ ap other same ∙ passes))

      behind : (b : Bool) → test y ≡ false → find test (filter other ys) ≡ Some x
          → find test (cond b (y ∷ filter other ys) (filter other ys)) ≡ Some x
      behind true failed rest = ap (λ d. cond d (Some y) (find test (filter other ys))) failed ∙ rest
      behind false failed rest = rest

      by_test : (find test ys ≡ Some x → find test (filter other ys) ≡ Some x) → (b : Bool) → test y ≡ b
          → cond b (Some y) (find test ys) ≡ Some x → find test (cond (other y) (y ∷ filter other ys) (filter other ys)) ≡ Some x
      by_test rest true passed is = let same : y ≡ x = cc in first (other y) passed same refl
      by_test rest false passed is = behind (other y) passed (rest is)
