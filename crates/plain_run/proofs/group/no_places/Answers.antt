use Rattle.std.proofs.Common.{◌≡◌, ℕ, List, [], replicate, ap, ◌∙◌, arith}
use Rattle.plain_run.proofs.group.no_places.Goals as goal

pub returns : goal.returns
returns c =
    let all : c.loop-lane._lane ≡ 16 = omega (arith, c.loop-lane-test.false, c.loop-lane.auto._lane-end) in
    let P : ℕ → List (List ℕ) = λ n. replicate n [] in
    c.loop-lane.invariant ∙ ap P all
