-- Where a write may put its pointer, by the home that its key has.
use Rattle.std.proofs.Common.{◌≡◌, ℕ, Bool, true, false, cond, not, nat_lt, List, Option, Some, None, refl, ap}
use Rattle.std.specs.Option.{option_map}
use Rattle.std.specs.Str.{bytes_eq}
use Rattle.ddt_entry.specs.declared.key.Key.{Key}
use Rattle.ddt_entry.specs.declared.entry.Home.{Home}
use Rattle.ddt_entry.specs.Keys.{key_eq}
use Rattle.pool_model.specs.declared.commands.Mode.{Mode}
use Rattle.pool_model.specs.declared.commands.Mode.TheVariants.{Off, On, Verify}
use Rattle.pool_model.specs.declared.answers.WriteAnswer.TheVariants as written
use Rattle.pool_model.specs.Pool.{Mark, plain, tracked, is_tracked}
use Rattle.pool_model.specs.Table.{counted}
use Rattle.pool_model.specs.Command.{Opening, Known, Spot, nowhere, at_home, at_fresh, row, new_row, home_row, table_row, verify_row, mode_row, uses_table}

-- a spot that suits the home of the key: by a lane that uses the table or not
pub record FitsHome (now : Option Home) (uses : Bool) (home : Home) (mark : Mark) : Type 0 where
  pub used : uses ≡ true
  pub is : now ≡ Some home
  pub counts : is_tracked mark ≡ true
  pub shares : nat_lt 0 home.count ≡ true → mark ≡ tracked home.since

pub data FitsFresh (now : Option Home) (uses : Bool) (mark : Mark) : Type 0 where
  outside : is_tracked mark ≡ false → FitsFresh now uses mark
  first : uses ≡ true → counted now ≡ None → is_tracked mark ≡ true → FitsFresh now uses mark

abbrev pub SpotFits : (now : Option Home) (uses : Bool) → Spot → Type 0
SpotFits now uses nowhere = Unit {0}
SpotFits now uses (at_home home mark) = FitsHome now uses home mark
SpotFits now uses (at_fresh mark) = FitsFresh now uses mark

new_fits : (allowed : Bool) (moment : ℕ) → SpotFits None true (new_row allowed moment).spot
new_fits true moment = first refl refl refl
new_fits false moment = outside refl

home_fits : (home : Home) (same allowed : Bool) (moment : ℕ) → SpotFits (Some home) true (home_row home same allowed moment).spot
home_fits home same allowed moment =
    elim (nat_lt 0 home.count) as (λ b. (nat_lt 0 home.count ≡ b)
    → SpotFits (Some home) true
    (cond b (cond same (row written.Hit (at_home home (tracked home.since))) (row written.Clash (at_fresh plain)))
    (cond (not allowed) (row written.Quota (at_fresh plain))
    (cond same (row written.New (at_home home (tracked moment))) (row written.New (at_fresh (tracked moment)))))).spot)
    [ true ↦ λ some. counted_fits same | false ↦ λ none. waiting_fits none same allowed ] refl
  where
    counted_fits : (same : Bool)
        → SpotFits (Some home) true
        (cond same (row written.Hit (at_home home (tracked home.since))) (row written.Clash (at_fresh plain))).spot
    counted_fits true = record { used = refl; is = refl; counts = refl; shares = λ _. refl }
    counted_fits false = outside refl

    waiting_fits : nat_lt 0 home.count ≡ false → (same allowed : Bool)
        → SpotFits (Some home) true
        (cond (not allowed) (row written.Quota (at_fresh plain))
        (cond same (row written.New (at_home home (tracked moment))) (row written.New (at_fresh (tracked moment))))).spot
    waiting_fits none same false = outside refl
    waiting_fits none true true = record { used = refl; is = refl; counts = refl; shares = λ some. absurd (cc (some, none)) }
    waiting_fits none false true = first refl (ap (λ b. cond b (Some home) None) none) refl

table_fits : (known : Option Known) (allowed : Bool) (moment : ℕ)
    → SpotFits (option_map (λ known. known.home) known) true (table_row known allowed moment).spot
table_fits None allowed moment = new_fits allowed moment
table_fits (Some known) allowed moment = home_fits known.home true allowed moment

verify_fits : (key_of : List ℕ → Key) (known : Option Known) (content : List ℕ) (allowed : Bool) (moment : ℕ)
    → SpotFits (option_map (λ known. known.home) known) true (verify_row key_of known content allowed moment).spot
verify_fits key_of None content allowed moment = new_fits allowed moment
verify_fits key_of (Some known) content allowed moment =
    elim (key_eq (key_of known.block) (key_of content)) as (λ b. SpotFits (Some known.home) true
    (cond b (home_row known.home (bytes_eq known.block content) allowed moment)
    (row (written.Damaged known.home.place) nowhere)).spot)
    [ true ↦ home_fits known.home (bytes_eq known.block content) allowed moment | false ↦ tt ]

-- the spot of a write suits the home that the course knows
pub row_fits : (mode : Mode) (opening : Opening) (known : Option Known) (content : List ℕ) (failed allowed : Bool)
    → SpotFits (option_map (λ known. known.home) known) (uses_table mode) (mode_row mode opening known content failed allowed).spot
row_fits Off opening known content failed allowed = outside refl
row_fits On opening known content true allowed = tt
row_fits On opening known content false allowed = table_fits known allowed opening.moment
row_fits Verify opening known content true allowed = tt
row_fits Verify opening known content false allowed = verify_fits opening.key_of known content allowed opening.moment
