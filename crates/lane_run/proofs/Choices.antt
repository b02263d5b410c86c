-- The row of a write by its rules: the table's rows are no faults, and put a pointer at the key's home alone.
use Rattle.std.proofs.Common.{◌≡◌, ℕ, ◌+◌, ◌≤◌, Bool, true, false, cond, not, nat_lt, List, [], ◌∷◌, Option, Some, None}
use Rattle.std.proofs.Common.{refl, sym, ap, subst, ◌∙◌, arith, inl, inr}
use Rattle.std.specs.List.{count_by}
use Rattle.std.specs.Option.{option_map}
use Rattle.std.specs.Str.{bytes_eq}
use Rattle.ddt_entry.specs.declared.key.Key.{Key}
use Rattle.ddt_entry.specs.declared.entry.Home.{Home}
use Rattle.ddt_entry.specs.Keys.{key_eq}
use Rattle.pool_model.specs.declared.answers.WriteAnswer.{WriteAnswer}
use Rattle.pool_model.specs.declared.answers.WriteAnswer.TheVariants as written
use Rattle.pool_model.specs.Pool.{plain, tracked}
use Rattle.pool_model.specs.Plain.{to_write}
use Rattle.pool_model.specs.Command.{Known, nowhere, at_home, at_fresh, Row, row, is_fault, new_row, home_row, table_row, verify_row}
use Rattle.lane_run.specs.Live.{CountsFault, IsHomeOf, IsSince}

-- a row that is no fault, and puts a pointer at no other home than this, counted since no moment that is later than the home's or this one
pub record IsQuiet (now : Option Home) (moment : ℕ) (chosen : Row) : Type 0 where
  pub no_fault : is_fault (to_write chosen.answer) ≡ false
  pub home_is : IsHomeOf now chosen.spot
  pub since : IsSince moment chosen.spot

new_quiet : (now : Option Home) (allowed : Bool) (moment : ℕ) → IsQuiet now moment (new_row allowed moment)
new_quiet now true moment = record { no_fault = refl; home_is = tt; since = omega arith }
new_quiet now false moment = record { no_fault = refl; home_is = tt; since = omega arith }

home_quiet : (home : Home) (same allowed : Bool) (moment : ℕ) → IsQuiet (Some home) moment (home_row home same allowed moment)
home_quiet home same allowed moment =
    elim (nat_lt 0 home.count) as (λ b. IsQuiet (Some home) moment
    (cond b (cond same (row written.Hit (at_home home (tracked home.since))) (row written.Clash (at_fresh plain)))
    (cond (not allowed) (row written.Quota (at_fresh plain))
    (cond same (row written.New (at_home home (tracked moment))) (row written.New (at_fresh (tracked moment)))))))
    [ true ↦ counted_quiet same | false ↦ waiting_quiet same allowed ]
  where
    counted_quiet : (same : Bool)
        → IsQuiet (Some home) moment (cond same (row written.Hit (at_home home (tracked home.since))) (row written.Clash (at_fresh plain)))
    counted_quiet true = record { no_fault = refl; home_is = refl; since = inr refl }
    counted_quiet false = record { no_fault = refl; home_is = tt; since = omega arith }

    waiting_quiet : (same allowed : Bool)
        → IsQuiet (Some home) moment
        (cond (not allowed) (row written.Quota (at_fresh plain))
        (cond same (row written.New (at_home home (tracked moment))) (row written.New (at_fresh (tracked moment)))))
    waiting_quiet same false = record { no_fault = refl; home_is = tt; since = omega arith }
    waiting_quiet true true = record { no_fault = refl; home_is = refl; since = inl refl }
    waiting_quiet false true = record { no_fault = refl; home_is = tt; since = omega arith }

pub table_quiet : (known : Option Known) (allowed : Bool) (moment : ℕ)
    → IsQuiet (option_map (λ known. known.home) known) moment (table_row known allowed moment)
table_quiet None allowed moment = new_quiet None allowed moment
table_quiet (Some known) allowed moment = home_quiet known.home true allowed moment

pub verify_quiet : (key_of : List ℕ → Key) (known : Option Known) (content : List ℕ) (allowed : Bool) (moment : ℕ)
    → IsQuiet (option_map (λ known. known.home) known) moment (verify_row key_of known content allowed moment)
verify_quiet key_of None content allowed moment = new_quiet None allowed moment
verify_quiet key_of (Some known) content allowed moment =
    elim (key_eq (key_of known.block) (key_of content)) as (λ b. IsQuiet (Some known.home) moment
    (cond b (home_row known.home (bytes_eq known.block content) allowed moment) (row (written.Damaged known.home.place) nowhere))) [
      | true ↦ home_quiet known.home (bytes_eq known.block content) allowed moment
      | false ↦ record { no_fault = refl; home_is = tt; since = tt }
    ]

-- a row that is no fault is the row of the test on the fault
pub quiet_test : {X : Type 0} (answer : WriteAnswer) (fault other : X) → is_fault (to_write answer) ≡ false
    → cond (is_fault (to_write answer)) fault other ≡ other
quiet_test answer fault other quiet = ap (λ b. cond b fault other) quiet

-- an answer that is no fault needs no count
pub quiet_counts : (before now : ℕ) (answer : WriteAnswer) → before ≤ now → is_fault (to_write answer) ≡ false
    → CountsFault before now answer
quiet_counts before now answer later quiet =
    let none : count_by is_fault (to_write answer ∷ []) ≡ 0 = ap (λ b. 0 + cond b 1 0) quiet in
    omega (arith, later, none)

-- what a verified row tells
module _ (key_of : List ℕ → Key) (content : List ℕ) (allowed : Bool) (moment : ℕ) (home : Option Home) (known : Option Known) (chosen : Row)
    (known_is : option_map (λ k. k.home) known ≡ home) (is : chosen ≡ verify_row key_of known content allowed moment) where
  quiet : IsQuiet home moment chosen
  quiet =
      subst (λ (o : Option Home). IsQuiet o moment chosen) known_is
      (subst (IsQuiet (option_map (λ k. k.home) known) moment) (sym is) (verify_quiet key_of known content allowed moment))

  pub verified_home : IsHomeOf home chosen.spot
  verified_home = quiet.home_is

  pub verified_since : IsSince moment chosen.spot
  verified_since = quiet.since

  pub verified_counts : (before now : ℕ) → before ≤ now → CountsFault before now chosen.answer
  verified_counts before now later = quiet_counts before now chosen.answer later quiet.no_fault

  pub verified_is : chosen ≡ cond (is_fault (to_write chosen.answer)) (row written.Fault nowhere)
      (verify_row key_of known content allowed moment)
  verified_is =
      is ∙ sym (quiet_test chosen.answer (row written.Fault nowhere) (verify_row key_of known content allowed moment) quiet.no_fault)

-- and what a row by the key alone tells
module _ (allowed : Bool) (moment : ℕ) (home : Option Home) (chosen : Row)
    (is : (known : Option Known) → option_map (λ k. k.home) known ≡ home → chosen ≡ table_row known allowed moment) where
  with_any : (o : Option Home) → o ≡ home → IsQuiet o moment chosen
  with_any None same = subst (IsQuiet None moment) (sym (is None same)) (table_quiet None allowed moment)
  with_any (Some h) same =
      let known : Option Known = Some (record { home = h; block = [] }) in
      subst (IsQuiet (Some h) moment) (sym (is known same)) (table_quiet known allowed moment)

  pub table_home : IsHomeOf home chosen.spot
  table_home = (with_any home refl).home_is

  pub table_since : IsSince moment chosen.spot
  table_since = (with_any home refl).since

  pub table_counts : (before : ℕ) → CountsFault before before chosen.answer
  table_counts before = quiet_counts before before chosen.answer (omega arith) (with_any home refl).no_fault
