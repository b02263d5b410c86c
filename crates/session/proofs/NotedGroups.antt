-- A group's note once its outcome is known: what a run says of it goes by its lanes alone. And what a sealed group leaves, kind by kind.
use Rattle.std.proofs.Common.{◌≡◌, ℕ, true, List, [], length, refl, sym, ap, subst, ◌∙◌}
use Rattle.std.proofs.lemmas.Bool.{eq-eqb}
use Rattle.std.proofs.lemmas.List.{length-map}
use Rattle.ddt_entry.specs.Keys.{Keying}
use Rattle.pool_model.specs.declared.notes.Outcome.{Outcome}
use Rattle.pool_model.specs.Plain.{GroupItem, lanes, prune, quota, set_mode, LaneTold, Told}
use Rattle.pool_model.specs.Group.{Standing, Rules, AreFresh, IsFree, lanes_in_turn, lanes_of}
use Rattle.pool_model.specs.Run.{AnswersGroup, given_by, sealed_standing}
use Rattle.pool_model.specs.Crash.{has_its_lanes}

-- the note with this outcome, of a group that took so many homes
abbrev pub noted_as : Told → Outcome → (taken : ℕ) → Told
noted_as told outcome taken = record told { outcome = outcome; taken = taken }

module _ (keying : Keying) (s : Standing) (told : Told) where
  abbrev rules : Rules
  rules = lanes_in_turn keying

  -- what stands after the group, in an image with these pages
  abbrev pub after_group : GroupItem → (pages : List ℕ) → Standing
  after_group item pages = record (sealed_standing (lanes_in_turn keying) s item told []) { pages = pages }

  pub after_sectors : (item : GroupItem) → (sealed_standing rules s item told []).sectors ≡ s.sectors
  after_sectors (lanes moment tasks) = refl
  after_sectors (prune moment rule) = refl
  after_sectors (quota limit) = refl
  after_sectors (set_mode lane mode) = refl

  -- a group that noted no lane gave nothing out
  pub none_given : (item : GroupItem) → told.lanes ≡ [] → AreFresh (IsFree s) (given_by rules s item told)
  none_given (lanes moment tasks) none =
      subst (λ (ls : List LaneTold). AreFresh (IsFree s) (given_by rules s (lanes moment tasks) (record told { lanes = ls }))) (sym none)
      (record { free = tt; apart = tt })
  none_given (prune moment rule) none = record { free = tt; apart = tt }
  none_given (quota limit) none = record { free = tt; apart = tt }
  none_given (set_mode lane mode) none = record { free = tt; apart = tt }

  module _ (outcome : Outcome) (taken : ℕ) where
    pub noted_standing : (item : GroupItem) (pages : List ℕ)
        → after_group item pages ≡ sealed_standing rules s item (noted_as told outcome taken) pages
    noted_standing (lanes moment tasks) pages = refl
    noted_standing (prune moment rule) pages = refl
    noted_standing (quota limit) pages = refl
    noted_standing (set_mode lane mode) pages = refl

    pub noted_given : (item : GroupItem) → given_by rules s item told ≡ given_by rules s item (noted_as told outcome taken)
    noted_given (lanes moment tasks) = refl
    noted_given (prune moment rule) = refl
    noted_given (quota limit) = refl
    noted_given (set_mode lane mode) = refl

    pub noted_answers : (item : GroupItem) → AnswersGroup rules s item told → AnswersGroup rules s item (noted_as told outcome taken)
    noted_answers (lanes moment tasks) answers = record { lanes = answers.lanes; agrees = answers.agrees }
    noted_answers (prune moment rule) answers = answers
    noted_answers (quota limit) answers = answers
    noted_answers (set_mode lane mode) answers = answers

    -- each of its lanes is noted
    pub noted_lanes : (item : GroupItem) → AnswersGroup rules s item told → has_its_lanes item (noted_as told outcome taken) ≡ true
    noted_lanes (lanes moment tasks) answers =
        eq-eqb (length told.lanes) (length (lanes_of tasks))
        (sym (length-map told.lanes (λ (lane : LaneTold). lane.lane)) ∙ ap (λ (ls : List ℕ). length ls) answers.lanes.lanes)
    noted_lanes (prune moment rule) answers = refl
    noted_lanes (quota limit) answers = refl
    noted_lanes (set_mode lane mode) answers = refl
