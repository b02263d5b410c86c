use Rattle.std.proofs.Common.{◌≡◌, ℕ, ◌+◌, drop, sum, arith, refl, rules}
use Rattle.std.proofs.lemmas.List.Sums.{sum_by-drop_more}
use Rattle.lane_lock_tests.proofs.lanes.total.Goals as goal

pub add-preserved : goal.add-preserved
add-preserved c = let more = sum_by-drop_more (λ (x : ℕ). x) c.args.shares.now c.add.at 0 (search rules) in grind (rules, arith)
