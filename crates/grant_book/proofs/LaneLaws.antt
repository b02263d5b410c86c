-- Laws of the slots that a lane's commands name.
use Rattle.std.proofs.Common.{◌≡◌, ℕ, ◌+◌, ◌<◌, Bool, true, false, ◌||◌, ◌==◌, cond, List, length, drop, get_or, Option, Some, None, refl, ap, ◌∙◌, arith}
use Rattle.std.specs.Prelude.{is_some}
use Rattle.std.specs.Option.{option_flatten}
use Rattle.std.specs.List.{list_any}
use Rattle.std.specs.Ordering.{nat_cmp}
use Rattle.std.specs.BTreeMap.{is_at}
use Rattle.std.proofs.lemmas.Bool.Decides.{nat_tests}
use Rattle.std.proofs.lemmas.List.{at_drop_more}
use Rattle.grant_book.specs.declared.lane_slots.SlotView.{SlotView}

tells : (x y : ℕ) → is_at (nat_cmp x) y ≡ (y == x)
tells x y = grind (arith, nat_tests)

-- one slot more is named
pub named_more : (slot asked : ℕ) (old new : Option (Option SlotView)) (rest : Bool)
    → new ≡ cond (is_at (nat_cmp slot) asked) (Some None) old
    → (is_some new || rest) ≡ (is_some old || ((asked == slot) || rest))
named_more slot asked old new rest said =
    ap (λ (o : Option (Option SlotView)). is_some o || rest) said
    ∙ ap (λ b. is_some (cond b (Some None) old) || rest) (tells slot asked) ∙ by_tests (asked == slot) old
  where
    by_tests : (b : Bool) (o : Option (Option SlotView)) → (is_some (cond b (Some None) o) || rest) ≡ (is_some o || (b || rest))
    by_tests true None = refl
    by_tests true (Some view) = refl
    by_tests false o = refl

pub any_next : (asked : ℕ) (slots : List ℕ) (at : ℕ) → at < length slots
    → list_any (λ named. asked == named) (drop at slots)
    ≡ ((asked == get_or slots at 0) || list_any (λ named. asked == named) (drop (at + 1) slots))
any_next asked slots at within = ap (list_any (λ named. asked == named)) (at_drop_more (λ l. l) slots at 0 within)

-- and holds nothing
pub empty_more : (slot asked : ℕ) (old new : Option (Option SlotView)) → new ≡ cond (is_at (nat_cmp slot) asked) (Some None) old
    → option_flatten old ≡ None → option_flatten new ≡ None
empty_more slot asked old new said empty = ap option_flatten said ∙ by_test (is_at (nat_cmp slot) asked)
  where
    by_test : (b : Bool) → option_flatten (cond b (Some None) old) ≡ None
    by_test true = refl
    by_test false = empty
