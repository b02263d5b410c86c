use Rattle.std.proofs.Common.{◌≡◌, ◌≤◌, ◌-◌, ◌∙◌, ap, length, ◌++◌, ◌∷◌, [], ℕ, List, arith}
use Rattle.ddt_entry.specs.Bytes.{zeros}
use Rattle.ddt_entry.proofs.Bytes.{zeros_none, zeros_more}
use Rattle.page_tree.proofs.front.pad_to.Goals as goal

pub zeros-init : goal.zeros-init
zeros-init g c =
    let front = c.args.front.now.items in
    let same : length front ≡ c.len-counter.result = omega arith in
    (zeros_none front (length front) ∙ ap (λ (n : ℕ). front ++ zeros (n - length front)) same, same)

pub zeros-preserved : goal.zeros-preserved
zeros-preserved g c =
    let front = c.args.front.now.items in
    let below : length front ≤ c.zeros.counter = omega arith in (
      c.push.ensures.items ∙ ap (λ (xs : List ℕ). xs ++ 0 ∷ []) c.zeros.invariant.0
          ∙ zeros_more front c.zeros.counter (length front) below,
      omega (arith, c.push.ensures.len, c.zeros.invariant.1),
    )
