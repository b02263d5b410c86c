use Rattle.std.proofs.Common.{◌≡◌, ◌==◌, ℕ, ◌+◌, ◌<◌, Bool, true, false, List, ◌∷◌, ◌++◌, length, get_or, take, drop, sym, ap, ◌∙◌, arith, rules, take-append-drop}
use Rattle.std.specs.List.{All, slice_split}
use Rattle.std.proofs.lemmas.List.{drop_more, take_rest, get_or-take, length-take-le}
use Rattle.std.proofs.lemmas.List.Elements.{All-from_get_or}
use Rattle.std.proofs.lemmas.List.Splits.{slice_split_at, slice_split_none}
use Rattle.cmd_file.proofs.cuts.cut.Goals as goal

-- a list is cut at the first place that passes
slice_split_first : (cuts : ℕ → Bool) (xs : List ℕ) (i : ℕ) → i < length xs → cuts (get_or xs i 0) ≡ true
    → ((k : ℕ) → k < i → cuts (get_or xs k 0) ≡ false)
    → slice_split cuts xs ≡ take i xs ∷ slice_split cuts (drop (i + 1) xs)
slice_split_first cuts xs i inside here before =
    let parts : xs ≡ take i xs ++ get_or xs i 0 ∷ drop (i + 1) xs = sym (take-append-drop i xs)
    ∙ ap (λ l. take i xs ++ l) (drop_more xs i 0 inside) in
    let front : All (λ x. cuts x ≡ false) (take i xs) =
    All-from_get_or (λ x. cuts x ≡ false) (take i xs) 0
    (λ k within. let below : k < i = omega (arith, length-take-le i xs (omega arith)) in rw (get_or-take i xs k 0 below)
    (before k below)) in
    ap (slice_split cuts) parts ∙ slice_split_at cuts (take i xs) _ _ front here

pub returns-in-Some-clause-pieces : goal.returns-in-Some-clause-pieces
returns-in-Some-clause-pieces c =
    rw take_rest (slice_split_first (λ byte. byte == c.args.at) c.args.bytes.now c.in-Some.i (search rules) (search rules) (search rules))

pub returns-in-None-clause-pieces : goal.returns-in-None-clause-pieces
returns-in-None-clause-pieces c = slice_split_none _ _ (search rules)
