use Rattle.std.proofs.Common.{◌≡◌, ◌∙◌, ℕ, ◌+◌, ◌<◌, List, [], ◌∷◌, ◌++◌, Option, Some, None, length, take, get_or, refl, sym, ap}
use Rattle.std.specs.List.{last_or}
use Rattle.std.specs.Option.{option_map}
use Rattle.std.proofs.lemmas.List.{take_more}
use Rattle.ddt_entry.specs.Changes.{key_in}
use Rattle.ddt_entry.specs.declared.entry.Change.{Change}
use Rattle.ddt_entry.specs.declared.key.Key.{Key}
use Rattle.plain_table.proofs.sync.last_key.Goals as goal

last_or-push : {X : Type 0} (o : Option X) (xs : List X) (x : X) → last_or o (xs ++ x ∷ []) ≡ Some x
last_or-push o [] x = refl
last_or-push o (y ∷ ys) x = last_or-push (Some y) ys x

-- one more change: its key is the last
last_more : (changes : List Change) (i : ℕ) (d : Change) (key : Key) → i < length changes → key ≡ key_in (get_or changes i d)
    → Some key ≡ option_map key_in (last_or None (take (i + 1) changes))
last_more changes i d key within here =
    ap (λ k. Some k) here
    ∙ sym (ap (λ l. option_map key_in (last_or None l)) (take_more changes i d within)
    ∙ ap (option_map key_in) (last_or-push None (take i changes) (get_or changes i d)))

pub loop-change-preserved : goal.loop-change-preserved
loop-change-preserved c = last_more c.args.changes.now c.loop-change.change-index _ _ c.loop-change-test.true c.key_of.ensures
