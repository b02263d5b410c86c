-- What a group's change makes of the home that the table found.
use Rattle.std.proofs.Common.{◌≡◌, ℕ, true, false, cond, ◌&&◌, ◌==◌, nat_lt, Option, Some, None, inl, inr, refl, sym, ap, ◌∙◌, arith}
use Rattle.std.specs.Prelude.{◌⊎◌}
use Rattle.std.proofs.lemmas.Bool.Decides.{nat_tests}
use Rattle.ddt_entry.specs.declared.key.Key.{Key}
use Rattle.ddt_entry.specs.declared.entry.Home.{Home}
use Rattle.pool_model.specs.Table.{counted, found_over}
use Rattle.pool_model.specs.Group.{emptied, settled, home_eq, change_from}

equal_by_tests : (a b c d e f g h : ℕ) → ((a == b) && (c == d) && (e == f) && (g == h)) ≡ true → (a ≡ b) × (c ≡ d) × (e ≡ f) × (g ≡ h)
equal_by_tests a b c d e f g h same =
    (grind (arith, nat_tests, same), grind (arith, nat_tests, same), grind (arith, nat_tests, same), grind (arith, nat_tests, same))

-- homes that are taken for one are one
pub home_eq-true : (a b : Home) → home_eq a b ≡ true → a ≡ b
home_eq-true a b same =
    let parts = equal_by_tests a.place b.place a.birth b.birth a.since b.since a.count b.count same in
    λ i. record { place = parts.0 i; birth = parts.1 i; since = parts.2 i; count = parts.3 i }

-- a change to a home leads to that home
over_some : (key : Key) (before : Option Home) (home : Home) → found_over before (change_from key before (Some home)) ≡ Some home
over_some key None home = refl
over_some key (Some was) home =
    elim (home_eq was home) as (λ b. (home_eq was home ≡ b)
    → found_over (Some was) (cond b None (change_from key None (Some home))) ≡ Some home)
    [ true ↦ λ same. ap Some (home_eq-true was home same) | false ↦ λ differ. refl ] refl

-- so the change of a key leads to what the group leaves of it
pub over_settled : (number : ℕ) (key : Key) (before now : Option Home)
    → found_over before (change_from key before (settled number before now)) ≡ settled number before now
over_settled number key before None = by_before before
  where
    by_before : (o : Option Home) → found_over o (change_from key o o) ≡ o
    by_before None = refl
    by_before (Some home) = over_some key (Some home) home
over_settled number key before (Some home) =
    elim ((home.count == 0) && (home.birth == number)) as (λ b. found_over before
    (change_from key before (cond b (emptied before) (Some home))) ≡ cond b (emptied before) (Some home))
    [ true ↦ by_emptied before | false ↦ over_some key before home ]
  where
    by_emptied : (o : Option Home) → found_over o (change_from key o (emptied o)) ≡ emptied o
    by_emptied None = refl
    by_emptied (Some was) = over_some key (Some was) (record was { count = 0 })

count_zero : (a b number : ℕ) → ((a == 0) && (b == number)) ≡ true → (a ≡ 0) × (b ≡ number)
count_zero a b number both = (grind (arith, nat_tests, both), grind (arith, nat_tests, both))

-- a home that stands as it stood stays
pub settled-same : (number : ℕ) (before : Option Home) → settled number before before ≡ before
settled-same number None = refl
settled-same number (Some home) =
    elim ((home.count == 0) && (home.birth == number)) as (λ b. (((home.count == 0) && (home.birth == number)) ≡ b)
    → cond b (emptied (Some home)) (Some home) ≡ Some home) [
      | true ↦ λ both. let zero : home.count ≡ 0 = (count_zero home.count home.birth number both).0 in
          ap (λ (n : ℕ). Some (record { place = home.place; birth = home.birth; since = home.since; count = n }))
          (sym zero)
      | false ↦ λ other. refl
    ] refl

counted_emptied : (before : Option Home) → counted (emptied before) ≡ None
counted_emptied None = refl
counted_emptied (Some home) = refl

-- what is counted of it is what was counted
pub counted_settled : (number : ℕ) (before now : Option Home) → (now ≡ None → before ≡ None)
    → counted (settled number before now) ≡ counted now
counted_settled number before None gone = ap counted (gone refl)
counted_settled number before (Some home) gone =
    elim ((home.count == 0) && (home.birth == number)) as (λ b. (((home.count == 0) && (home.birth == number)) ≡ b)
    → counted (cond b (emptied before) (Some home)) ≡ counted (Some home)) [
      | true ↦ λ both. let zero : home.count ≡ 0 = (count_zero home.count home.birth number both).0 in
          let uncounted : nat_lt 0 home.count ≡ false = grind (arith, nat_tests, zero) in
          counted_emptied before ∙ sym (ap (λ b. cond b (Some home) None) uncounted)
      | false ↦ λ other. refl
    ] refl

-- a home that isn't counted in the end is one that wasn't counted, or the table's where the group had made it and lost it again
pub settled_uncounted : (number : ℕ) (before now : Option Home) (home : Home) → (now ≡ None → before ≡ None)
    → settled number before now ≡ Some home → home.count ≡ 0
    → (now ≡ Some home) ⊎ ((made : Home) × (was : Home) × (now ≡ Some made) × (made.count ≡ 0) × (made.birth ≡ number)
    × (before ≡ Some was) × (home.place ≡ was.place) × (home.birth ≡ was.birth) × (home.since ≡ was.since))
settled_uncounted number before None home gone is zero = absurd (cc (gone refl, is))
settled_uncounted number before (Some made) home gone is zero =
    elim ((made.count == 0) && (made.birth == number)) as (λ b. (((made.count == 0) && (made.birth == number)) ≡ b)
    → cond b (emptied before) (Some made) ≡ Some home
    → (Some made ≡ Some home) ⊎
    ((made' : Home) × (was : Home) × (Some made ≡ Some made') × (made'.count ≡ 0) × (made'.birth ≡ number) × (before ≡ Some was)
    × (home.place ≡ was.place) × (home.birth ≡ was.birth) × (home.since ≡ was.since))) [
      | true ↦ λ both e. let zeroes = count_zero made.count made.birth number both in
          by_before before e zeroes.0 zeroes.1
      | false ↦ λ other e. inl e
    ] refl is
  where
    by_before : (o : Option Home) → emptied o ≡ Some home → made.count ≡ 0 → made.birth ≡ number
        → (Some made ≡ Some home) ⊎
        ((made' : Home) × (was : Home) × (Some made ≡ Some made') × (made'.count ≡ 0) × (made'.birth ≡ number) × (o ≡ Some was)
        × (home.place ≡ was.place) × (home.birth ≡ was.birth) × (home.since ≡ was.since))
    by_before None e none born = absurd (cc e)
    by_before (Some was) e none born = inr (made, was, refl, none, born, refl, sym (cc e), sym (cc e), sym (cc e))
