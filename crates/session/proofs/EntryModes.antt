-- Where no item sets a mode, the premise on clashes goes by the modes with which the items begin.
use Rattle.std.proofs.Common.{◌≡◌, ℕ, List, [], ◌∷◌, ◌++◌, sym, subst}
use Rattle.std.specs.List.{AllByRecursion, flat_map}
use Rattle.pool_model.specs.Plain.{Part}
use Rattle.pool_model.specs.Clash.{HasNoOther, contents, part_trusted}
use Rattle.pool_model.specs.Group.{Standing, Rules}
use Rattle.pool_model.specs.Run.{HasFlatRoom, last_standing, parts_of}
use Rattle.pool_model.proofs.Clashes.{trusted_by_modes}
use Rattle.pool_model.proofs.Lists.{all_back, all_front}
use Rattle.pool_model.proofs.Settings.{SetsNoMode, modes_stay}
use Rattle.session.specs.Entries.{HasNoClashFrom}

trusted_item : (P : List ℕ → Type 0) (s : Standing) (done rest : List Part) (part : Part)
    → AllByRecursion P (flat_map (part_trusted s.pool) (done ++ part ∷ rest)) → AllByRecursion P (part_trusted s.pool part)
trusted_item P s [] rest part all = all_front P (part_trusted s.pool part) (flat_map (part_trusted s.pool) rest) all
trusted_item P s (d ∷ done) rest part all =
    trusted_item P s done rest part (all_back P (part_trusted s.pool d) (flat_map (part_trusted s.pool) (done ++ part ∷ rest)) all)

pub by_entry : (rules : Rules) (s : Standing) (parts : List Part) → AllByRecursion SetsNoMode parts
    → AllByRecursion (HasNoOther rules.keying.key_of s (contents parts)) (flat_map (part_trusted s.pool) parts) → HasNoClashFrom rules s parts
by_entry rules s parts keep all steps part rest run split =
    let P : List ℕ → Type 0 = HasNoOther rules.keying.key_of s (contents parts) in
    let modes : (last_standing s steps).pool.modes ≡ s.pool.modes =
    modes_stay HasFlatRoom rules s steps run
    (all_front SetsNoMode (parts_of steps) (part ∷ rest) (subst (AllByRecursion SetsNoMode) split keep)) in
    subst (AllByRecursion P) (sym (trusted_by_modes s (last_standing s steps) modes part))
    (trusted_item P s (parts_of steps) rest part
    (subst (λ (ps : List Part). AllByRecursion P (flat_map (part_trusted s.pool) ps)) split all))
