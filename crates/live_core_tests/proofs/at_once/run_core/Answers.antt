use Rattle.std.proofs.Common.{◌≡◌, ◌∙◌, sym, ap, ℕ, ◌<◌, List, length, subst}
use Rattle.lane_lock.proofs.Seating.{first_is_of}
use Rattle.live_core.specs.Views.{CoreView}
use Rattle.live_core_tests.specs.Groups.{IsOfGroup}
use Rattle.live_core_tests.proofs.at_once.run_core.Goals as goal

pub run_in_scope-requires-clause-ours : goal.run_in_scope-requires-clause-ours
run_in_scope-requires-clause-ours g c κs within = first_is_of _ _ c.in_ok-opened.ensures.seats

pub close-requires-clause-all : goal.close-requires-clause-all
close-requires-clause-all g c κs = let long = ap (λ (xs : List ℕ). length xs) c.in_ok-opened.ensures.lock.1 in (
  c.in_ok-back.ensures.all ∙ c.in_ok-opened.ensures.count ∙ sym long,
  subst (λ n. 0 < n) (sym long) c.requires.few.0,
)
