-- A run of some steps and then of others, and the standings that it began.
use Rattle.std.proofs.Common.{◌≡◌, cond, List, [], ◌∷◌, ◌++◌, Option, Some, None, refl, sym, ap, subst}
use Rattle.std.proofs.lemmas.List.{map-append}
use Rattle.std.proofs.lemmas.List.Elements.{filter_map-append}
use Rattle.std.proofs.lemmas.Grind.{flat_map-append}
use Rattle.pool_model.specs.declared.notes.Outcome.{Outcome}
use Rattle.pool_model.specs.declared.notes.Outcome.TheVariants.{Sealed, NoSpace, Cut}
use Rattle.pool_model.specs.Plain.{GroupItem, Part, create, of_group, stat, «import», Told}
use Rattle.pool_model.specs.Group.{Standing, Rules}
use Rattle.pool_model.specs.Run.{Room, DidGroup, RunStep, EndsItem, HasEnded, IsRun, last_standing, sealed_standing, standing_by, stands_after, outcome_of, parts_of, notes_of}
use Rattle.pool_model.specs.Crash.{is_begun, is_begun_by, begun_by, begun}

-- what stands after some steps and then others is what stands after the others from there
pub last_standing-append : (s : Standing) (xs ys : List RunStep) → last_standing s (xs ++ ys) ≡ last_standing (last_standing s xs) ys
last_standing-append s [] ys = refl
last_standing-append s (x ∷ xs) ys = last_standing-append (stands_after x) xs ys

pub parts_of-append : (xs ys : List RunStep) → parts_of (xs ++ ys) ≡ parts_of xs ++ parts_of ys
parts_of-append xs ys = map-append (λ step. step.part) xs ys

pub notes_of-append : (xs ys : List RunStep) → notes_of (xs ++ ys) ≡ notes_of xs ++ notes_of ys
notes_of-append xs ys = filter_map-append (λ step. step.note) xs ys

pub begun-append : (xs ys : List RunStep) → begun (xs ++ ys) ≡ begun xs ++ begun ys
begun-append xs ys = flat_map-append begun_by xs ys

-- a list that ends with this standing
abbrev pub EndsAt : List Standing → Standing → Type 0
EndsAt stands s = (front : List Standing) × (stands ≡ front ++ s ∷ [])

module _ (room : Room) (rules : Rules) where
  -- a run with a run of others behind it is a run of both, and the other way around
  pub run-append : (s : Standing) (xs ys : List RunStep) → IsRun room rules s xs → IsRun room rules (last_standing s xs) ys
      → IsRun room rules s (xs ++ ys)
  run-append s [] ys run more = more
  run-append s (x ∷ xs) ys run more = (run.0, run.1, run-append (stands_after x) xs ys run.2 more)

  -- what was begun from here, behind what stands here
  abbrev EndsOf : Standing → List RunStep → Type 0
  EndsOf s steps = EndsAt (s ∷ begun steps) (last_standing s steps)

  by_outcome : (item : GroupItem) (told : Told) (before after : Standing) (steps : List RunStep) (outcome : Outcome)
      → DidGroup outcome rules before item told after → EndsOf (standing_by (Some outcome) before after) steps
      → EndsAt (before ∷ cond (is_begun_by outcome item told) (after ∷ []) [] ++ begun steps)
      (last_standing (standing_by (Some outcome) before after) steps)
  by_outcome item told before after steps Sealed did rest = (before ∷ rest.0, ap (λ xs. before ∷ xs) rest.1)
  by_outcome item told before after steps (NoSpace need left) did rest = rest
  by_outcome item told before after steps Cut did rest = absurd did

  by_part : (part : Part) (note : Option Told) (before after : Standing) (steps : List RunStep)
      → EndsItem room rules part before note after → EndsOf (standing_by (outcome_of note) before after) steps
      → EndsAt (before ∷ cond (is_begun part note) (after ∷ []) [] ++ begun steps)
      (last_standing (standing_by (outcome_of note) before after) steps)
  by_part (of_group item) (Some told) before after steps ended rest = by_outcome item told before after steps told.outcome ended.did rest
  by_part (of_group item) None before after steps ended rest = absurd ended
  by_part create (Some told) before after steps ended rest = absurd (cc ended.0)
  by_part create None before after steps ended rest = rest
  by_part stat (Some told) before after steps ended rest = absurd (cc ended.0)
  by_part stat None before after steps ended rest = rest
  by_part «import» (Some told) before after steps ended rest = absurd (cc ended.0)
  by_part «import» None before after steps ended rest = rest

  -- the last that a run began, or else what stood at first, is what stands at its end
  pub ends_at : (s : Standing) (steps : List RunStep) → IsRun room rules s steps → EndsOf s steps
  ends_at s [] run = ([], refl)
  ends_at s (step ∷ steps) run =
      subst (λ (at : Standing). EndsAt (at ∷ begun (step ∷ steps)) (last_standing s (step ∷ steps))) run.0
      (by_part step.part step.note step.before step.after steps run.1 (ends_at (stands_after step) steps run.2))

  -- what holds before a step holds after it, where it does after a sealed group
  given_by_outcome : (item : GroupItem) (told : Told) (before after : Standing) (outcome : Outcome) (P : Standing → Type 0)
      → DidGroup outcome rules before item told after → P before
      → (after ≡ sealed_standing rules before item told after.pages → P after) → P (standing_by (Some outcome) before after)
  given_by_outcome item told before after Sealed P did here then = then did.2
  given_by_outcome item told before after (NoSpace need left) P did here then = here
  given_by_outcome item told before after Cut P did here then = here

  given_by_part : (part : Part) (note : Option Told) (before after : Standing) (P : Standing → Type 0)
      → EndsItem room rules part before note after → P before
      → ((item : GroupItem) (told : Told) → part ≡ of_group item → after ≡ sealed_standing rules before item told after.pages → P after)
      → P (standing_by (outcome_of note) before after)
  given_by_part (of_group item) (Some told) before after P ended here then =
      given_by_outcome item told before after told.outcome P ended.did here (then item told refl)
  given_by_part (of_group item) None before after P ended here then = here
  given_by_part create note before after P ended here then =
      subst (λ (n : Option Told). P (standing_by (outcome_of n) before after)) (sym ended.0) here
  given_by_part stat note before after P ended here then =
      subst (λ (n : Option Told). P (standing_by (outcome_of n) before after)) (sym ended.0) here
  given_by_part «import» note before after P ended here then =
      subst (λ (n : Option Told). P (standing_by (outcome_of n) before after)) (sym ended.0) here

  pub run_step : (s : Standing) (step : RunStep) → step.before ≡ s → HasEnded room rules step → (P : Standing → Type 0) → P s
      → ((item : GroupItem) (told : Told) → step.part ≡ of_group item → step.after ≡ sealed_standing rules s item told step.after.pages
      → P step.after)
      → P (stands_after step)
  run_step s step from ended P here then =
      given_by_part step.part step.note step.before step.after P ended (subst P (sym from) here)
      (λ item told is sealed. then item told is
      (subst (λ (t : Standing). step.after ≡ sealed_standing rules t item told step.after.pages) from sealed))
