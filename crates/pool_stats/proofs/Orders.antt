-- Keys in rising order, each once: such a list is told by which keys it has.
use Rattle.std.proofs.Common.{◌≡◌, Bool, true, false, List, [], ◌∷◌, fold, refl, sym, ap, subst, ◌∙◌, ◌||◌, if◌then◌else◌}
use Rattle.std.specs.List.{AllByRecursion, list_any}
use Rattle.std.specs.List.Sorted.{IsStrictlySortedBy}
use Rattle.std.specs.Ordering.{is_lt, is_eq, ordering_reverse}
use Rattle.std.specs.declared.cmp.Ordering.TheVariants.{Less, Equal, Greater}
use Rattle.ddt_entry.specs.declared.key.Key.{Key}
use Rattle.ddt_entry.specs.Keys.{key_cmp, key_eq}
use Rattle.ddt_entry.proofs.KeyLaws.{key_cmp_total, exact_keys, is_eq-key_cmp, key_eq-true, key_eq-same, key_eq-symm}
use Rattle.pool_model.specs.Pool.{with_key}
use Rattle.pool_stats.specs.Counts.{sorted_keys}
use Rattle.pool_model.proofs.Lists.{all_from}

-- whether a key is among keys
abbrev pub has : List Key → Key → Bool
has keys key = list_any (λ k. key_eq k key) keys

-- keys rise, and each stands once
abbrev pub AreRising : List Key → Type 0
AreRising keys = IsStrictlySortedBy key_cmp keys

-- each of these keys comes behind this one
abbrev pub AreBehind : Key → List Key → Type 0
AreBehind key keys = AllByRecursion (λ k. key_cmp key k ≡ Less) keys

turned : (a b : Key) → key_cmp a b ≡ Greater → key_cmp b a ≡ Less
turned a b h = key_cmp_total.antisymm b a ∙ ap ordering_reverse h

-- a key that comes before another isn't that one
pub differ : (a b : Key) → key_cmp a b ≡ Less → key_eq b a ≡ false
differ a b less = key_eq-symm b a ∙ sym (is_eq-key_cmp a b) ∙ ap is_eq less

pub rising-cons : (key : Key) (keys : List Key) → AreBehind key keys → AreRising keys → AreRising (key ∷ keys)
unfolding IsStrictlySortedBy
rising-cons key keys behind rising = (behind, rising)

pub rising-behind : (key : Key) (keys : List Key) → AreRising (key ∷ keys) → AreBehind key keys
unfolding IsStrictlySortedBy
rising-behind key keys rising = rising.0

pub rising-tail : (key : Key) (keys : List Key) → AreRising (key ∷ keys) → AreRising keys
unfolding IsStrictlySortedBy
rising-tail key keys rising = rising.1

rising-nil : AreRising []
unfolding IsStrictlySortedBy
rising-nil = tt

-- what comes behind a later key comes behind an earlier one
behind_before : (a b : Key) (keys : List Key) → key_cmp a b ≡ Less → AreBehind b keys → AreBehind a keys
behind_before a b keys less behind = all_from (λ k. key_cmp b k ≡ Less) (λ k. key_cmp a k ≡ Less)
    (λ k h. key_cmp_total.trans a b k less h) keys behind

-- a key isn't among those behind it
pub has-behind : (key : Key) (keys : List Key) → AreBehind key keys → has keys key ≡ false
has-behind key [] behind = refl
has-behind key (k ∷ ks) behind = ap (λ b. b || has ks key) (differ key k behind.0) ∙ has-behind key ks behind.1

-- what holds of a key and of keys holds of them with it
pub All-with_key : (P : Key → Type 0) (key : Key) (keys : List Key) → P key → AllByRecursion P keys → AllByRecursion P (with_key key keys)
All-with_key P key [] here all = (here, tt)
All-with_key P key (k ∷ ks) here all =
    elim (key_cmp key k) as (λ o. AllByRecursion P (if is_lt o then key ∷ k ∷ ks else (if is_eq o then k ∷ ks else k ∷ with_key key ks)))
    [ Less ↦ (here, all) | Equal ↦ all | Greater ↦ (all.0, All-with_key P key ks here all.1) ]

rising-with_key : (key : Key) (keys : List Key) → AreRising keys → AreRising (with_key key keys)
rising-with_key key [] rising = rising-cons key [] tt rising-nil
rising-with_key key (k ∷ ks) rising =
    (elim (key_cmp key k) as
    (λ o. key_cmp key k ≡ o → AreRising (if is_lt o then key ∷ k ∷ ks else (if is_eq o then k ∷ ks else k ∷ with_key key ks))) [
      | Less ↦ λ e. rising-cons key (k ∷ ks) (e, behind_before key k ks e (rising-behind k ks rising)) rising
      | Equal ↦ λ e. rising
      | Greater ↦ λ e. rising-cons k (with_key key ks)
          (All-with_key (λ q. key_cmp k q ≡ Less) key ks (turned key k e) (rising-behind k ks rising))
          (rising-with_key key ks (rising-tail k ks rising))
    ])
    refl

rising-fold : (keys more : List Key) → AreRising keys → AreRising (fold (λ sorted key. with_key key sorted) keys more)
rising-fold keys [] rising = rising
rising-fold keys (k ∷ ks) rising = rising-fold (with_key k keys) ks (rising-with_key k keys rising)

-- sorted keys rise
pub rising-sorted_keys : (keys : List Key) → AreRising (sorted_keys keys)
rising-sorted_keys keys = rising-fold [] keys rising-nil

twice : (a b : Bool) → (a || b) ≡ (a || (a || b))
twice true b = refl
twice false b = refl

swapped : (a b c : Bool) → (b || (a || c)) ≡ (a || (b || c))
swapped true true c = refl
swapped true false c = refl
swapped false true c = refl
swapped false false c = refl

has-with_key : (key : Key) (keys : List Key) (q : Key) → has (with_key key keys) q ≡ (key_eq key q || has keys q)
has-with_key key [] q = refl
has-with_key key (k ∷ ks) q =
    (elim (key_cmp key k) as
    (λ o. key_cmp key k ≡ o
    → has (if is_lt o then key ∷ k ∷ ks else (if is_eq o then k ∷ ks else k ∷ with_key key ks))
    q ≡ (key_eq key q || (key_eq k q || has ks q))) [
      | Less ↦ λ e. refl
      | Equal ↦ λ e. twice (key_eq k q) (has ks q) ∙ ap (λ (x : Key). key_eq x q || (key_eq k q || has ks q)) (sym (exact_keys key k e))
      | Greater ↦ λ e. ap (λ b. key_eq k q || b) (has-with_key key ks q) ∙ swapped (key_eq key q) (key_eq k q) (has ks q)
    ])
    refl

has-fold : (keys more : List Key) (q : Key) → has (fold (λ sorted key. with_key key sorted) keys more) q ≡ (has more q || has keys q)
has-fold keys [] q = refl
has-fold keys (k ∷ ks) q =
    has-fold (with_key k keys) ks q
    ∙ ap (λ b. has ks q || b) (has-with_key k keys q)
    ∙ moved (key_eq k q) (has ks q) (has keys q)
  where
    moved : (a b c : Bool) → (b || (a || c)) ≡ ((a || b) || c)
    moved true true c = refl
    moved true false c = refl
    moved false true c = refl
    moved false false c = refl

or_false : (b : Bool) → (b || false) ≡ b
or_false true = refl
or_false false = refl

-- sorting keeps which keys there are
pub has-sorted_keys : (keys : List Key) (q : Key) → has (sorted_keys keys) q ≡ has keys q
has-sorted_keys keys q = has-fold [] keys q ∙ or_false (has keys q)

-- the first key is among its list
has-first : (key : Key) (keys : List Key) → has (key ∷ keys) key ≡ true
has-first key keys = ap (λ b. b || has keys key) (key_eq-same key)

-- a key that comes before all of a rising list isn't among it
has-before : (key k : Key) (ks : List Key) → key_cmp key k ≡ Less → AreRising (k ∷ ks) → has (k ∷ ks) key ≡ false
has-before key k ks less rising = has-behind key (k ∷ ks) (less, behind_before key k ks less (rising-behind k ks rising))

-- behind an equal first key, the rest has the same
same_rest : (a : Key) (xs ys : List Key) → AreBehind a xs → AreBehind a ys → ((q : Key) → has (a ∷ xs) q ≡ has (a ∷ ys) q) → (q : Key)
    → has xs q ≡ has ys q
same_rest a xs ys before_xs before_ys same q =
    (elim (key_eq a q) as (λ b. key_eq a q ≡ b → (b || has xs q) ≡ (b || has ys q) → has xs q ≡ has ys q) [
      | true ↦ λ e h. let P : Key
          → Type 0 = λ k. has xs k ≡ has ys k in subst P (key_eq-true a q e) (has-behind a xs before_xs ∙ sym (has-behind a ys before_ys))
      | false ↦ λ e h. h
    ])
    refl (same q)

-- two rising lists with the same keys are one
pub rising_one : (xs ys : List Key) → AreRising xs → AreRising ys → ((q : Key) → has xs q ≡ has ys q) → xs ≡ ys
rising_one [] [] rising_xs rising_ys same = refl
rising_one [] (y ∷ ys) rising_xs rising_ys same = let there = has-first y ys in let none = same y in cc
rising_one (x ∷ xs) [] rising_xs rising_ys same = let there = has-first x xs in let none = same x in cc
rising_one (x ∷ xs) (y ∷ ys) rising_xs rising_ys same =
    (elim (key_cmp x y) as (λ o. key_cmp x y ≡ o → x ∷ xs ≡ y ∷ ys) [
      | Less ↦ λ e. let there = has-first x xs in let none = has-before x y ys e rising_ys in let both = same x in cc
      | Equal ↦ λ e.
          let one : x ≡ y = exact_keys x y e in
          let P : Key → Type 0 = λ k. AreBehind k ys × ((q : Key) → has (x ∷ xs) q ≡ has (k ∷ ys) q) in
          let here : P x = subst P (sym one) (rising-behind y ys rising_ys, same) in
          ap (λ k. k ∷ xs) one
          ∙ ap (λ l. y ∷ l) (rising_one xs ys (rising-tail x xs rising_xs) (rising-tail y ys rising_ys)
          (same_rest x xs ys (rising-behind x xs rising_xs) here.0 here.1))
      | Greater ↦ λ e. let there = has-first y ys in let none = has-before y x xs (turned x y e) rising_xs in let both = same y in cc
    ])
    refl
