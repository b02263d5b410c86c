-- The newest pool that has a tracked pointer of a key.
use Rattle.std.proofs.Common.{◌≡◌, ℕ, ◌+◌, ◌<◌, Bool, true, false, cond, List, [], ◌∷◌, length, get_or, drop, filter, Option, Some, None, refl, sym, ap, ◌∙◌}
use Rattle.std.specs.List.{find}
use Rattle.std.proofs.lemmas.List.{at_drop_more}
use Rattle.ddt_entry.specs.declared.key.Key.{Key}
use Rattle.pool_model.specs.Pool.{Pool, Pointer, tracks}
use Rattle.pool_model.specs.Command.{or_in, last_tracked}

pub or_in-Some : (test : Pointer → Bool) (rest : Option Pointer) (ps : List Pointer) (p : Pointer) → find test ps ≡ Some p
    → or_in rest (filter test ps) ≡ Some p
or_in-Some test rest [] p found = cc
or_in-Some test rest (q ∷ qs) p found =
    elim (test q) as (λ b. cond b (Some q) (find test qs) ≡ Some p → or_in rest (cond b (q ∷ filter test qs) (filter test qs)) ≡ Some p)
    [ true ↦ λ e. e | false ↦ λ e. or_in-Some test rest qs p e ] found

pub or_in-None : (test : Pointer → Bool) (rest : Option Pointer) (ps : List Pointer) → find test ps ≡ None
    → or_in rest (filter test ps) ≡ rest
or_in-None test rest [] none = refl
or_in-None test rest (q ∷ qs) none =
    elim (test q) as (λ b. cond b (Some q) (find test qs) ≡ None → or_in rest (cond b (q ∷ filter test qs) (filter test qs)) ≡ rest)
    [ true ↦ λ e. cc | false ↦ λ e. or_in-None test rest qs e ] none

-- the first of these pools has one
pub last_tracked-here : (key : Key) (pools : List Pool) (i : ℕ) (pool : Pool) (p : Pointer) → i < length pools → pool ≡ get_or pools i pool
    → find (tracks key) pool.pointers ≡ Some p → last_tracked key (drop i pools) ≡ Some p
last_tracked-here key pools i pool p within here found =
    at_drop_more (last_tracked key) pools i pool within
    ∙ ap (λ (q : Pool). last_tracked key (q ∷ drop (i + 1) pools)) (sym here)
    ∙ or_in-Some (tracks key) (last_tracked key (drop (i + 1) pools)) pool.pointers p found

-- the first of these pools has none
pub last_tracked-later : (key : Key) (pools : List Pool) (i : ℕ) (pool : Pool) → i < length pools → pool ≡ get_or pools i pool
    → find (tracks key) pool.pointers ≡ None → last_tracked key (drop i pools) ≡ last_tracked key (drop (i + 1) pools)
last_tracked-later key pools i pool within here none =
    at_drop_more (last_tracked key) pools i pool within
    ∙ ap (λ (q : Pool). last_tracked key (q ∷ drop (i + 1) pools)) (sym here)
    ∙ or_in-None (tracks key) (last_tracked key (drop (i + 1) pools)) pool.pointers none
