-- The premise on clashes of one item of a run.
use Rattle.std.proofs.Common.{◌≡◌, ℕ, List, ◌∷◌, ◌++◌, refl, ap, subst}
use Rattle.std.specs.List.{AllByRecursion}
use Rattle.std.proofs.lemmas.Grind.{flat_map-append}
use Rattle.ddt_entry.specs.declared.key.Key.{Key}
use Rattle.pool_model.specs.Plain.{GroupItem, lanes, prune, quota, set_mode, Part, create, of_group, stat, «import»}
use Rattle.pool_model.specs.Group.{Standing}
use Rattle.pool_model.specs.Clash.{NoOther, HasNoOther, contents, part_contents, group_trusted, part_trusted}
use Rattle.pool_model.specs.Waiting.{AreAmong}
use Rattle.pool_model.proofs.Lists.{all_front, all_back, among_all, among_by}

-- a content without another among all contents has none among some of them
pub no_other_among : (key_of : List ℕ → Key) (s : Standing) (some all : List (List ℕ)) (x : List ℕ) → AreAmong some all
    → HasNoOther key_of s all x → HasNoOther key_of s some x
no_other_among key_of s some all x among none = record {
  writes = among_all (NoOther key_of x) some all among none.writes;
  pointers = none.pointers;
  waiting = none.waiting;
}

-- what holds of each content of the items holds of those of one item
pub all_of_item : (P : List ℕ → Type 0) (done rest : List Part) (part : Part) → AllByRecursion P (contents (done ++ part ∷ rest))
    → AllByRecursion P (part_contents part)
all_of_item P done rest part all =
    all_front P (part_contents part) (contents rest)
    (all_back P (contents done) (contents (part ∷ rest))
    (subst (AllByRecursion P) (flat_map-append part_contents done (part ∷ rest)) all))

-- the contents of one item are among those of all
pub contents_of_item : (done rest : List Part) (part : Part) → AreAmong (part_contents part) (contents (done ++ part ∷ rest))
contents_of_item done rest part =
    among_by (part_contents part) (contents (done ++ part ∷ rest)) (λ P. all_of_item P done rest part)

-- which contents are trusted hangs on the modes alone
pub trusted_by_modes : (s at : Standing) → at.pool.modes ≡ s.pool.modes → (part : Part)
    → part_trusted at.pool part ≡ part_trusted s.pool part
trusted_by_modes s at e (of_group item) = of_item item
  where
    of_item : (item : GroupItem) → group_trusted at.pool item ≡ group_trusted s.pool item
    of_item (lanes moment tasks) = ap (λ modes. group_trusted (record s.pool { modes = modes }) (lanes moment tasks)) e
    of_item (prune moment rule) = refl
    of_item (quota limit) = refl
    of_item (set_mode lane mode) = refl
trusted_by_modes s at e create = refl
trusted_by_modes s at e stat = refl
trusted_by_modes s at e «import» = refl
