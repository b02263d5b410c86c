-- What an image holds while a group is synced, before its gate may be open.
use Rattle.std.proofs.Common.{◌≡◌, ℕ, ◌<◌, ◌≤◌, Bool, true, false, ◌||◌, ◌==◌, List, [], ◌∷◌, refl, sym, ap, ◌∙◌, ⊎_elim, arith}
use Rattle.std.specs.Prelude.{slice_index_or}
use Rattle.std.specs.List.{AllByRecursion, list_any}
use Rattle.std.proofs.lemmas.Bool.Decides.{eqb_tells}
use Rattle.std.proofs.lemmas.List.Folds.{list_any-append}
use Rattle.disk_model.specs.Images.{Image, sector_at}
use Rattle.pool_model.specs.Group.{Standing}
use Rattle.pool_model.specs.Mirrors.{Stored}
use Rattle.table_state.specs.Closing.{PlainClosed, CanSync, block_places}
use Rattle.table_state.specs.Holding.{Holds}
use Rattle.table_state.specs.Over.{StandsOver}
use Rattle.table_state.specs.Pools.{Held}
use Rattle.table_state.specs.Sound.{IsSound}
use Rattle.table_state.specs.Sealed.{ChainPart, places_in}
use Rattle.txg_sync.specs.Writing.{group_places, IsUnsealed}
use Rattle.table_state.proofs.NamedStays.{holds_still}

-- what is used isn't one of the places that aren't
pub apart_from_unused : (used : List Bool) (places : List ℕ) (at : ℕ)
    → AllByRecursion (λ place. slice_index_or used place true ≡ false) places → slice_index_or used at true ≡ true
    → list_any (λ place. place == at) places ≡ false
apart_from_unused used [] at unused here = refl
apart_from_unused used (place ∷ places) at unused here =
    ⊎_elim
    (λ same. absurd (clash (sym here ∙ ap (λ p. slice_index_or used p true) (sym same.1) ∙ unused.0)))
    (λ other. ap (λ b. b || list_any (λ p. p == at) places) other.0 ∙ apart_from_unused used places at unused.1 here)
    (eqb_tells place at)
  where
    clash : true ≡ false → ⊥
    clash e = cc e

places_unused : (used : List Bool) (contents : List Stored)
    → AllByRecursion (λ stored. slice_index_or used stored.place true ≡ false) contents
    → AllByRecursion (λ place. slice_index_or used place true ≡ false) (block_places contents)
places_unused used [] all = tt
places_unused used (stored ∷ contents) all = (all.0, places_unused used contents all.1)

module _ (image : Image) (held : Held) (closed : PlainClosed) (can : CanSync image held closed) (sound : IsSound held)
    (parts : List ChainPart) (unused : AllByRecursion (λ place. slice_index_or held.used place true ≡ false) (places_in parts)) where
  -- a sector behind the ring that is used isn't written
  pub not_written : (at : ℕ) → slice_index_or held.used at true ≡ true
      → list_any (λ place. place == at) (group_places closed.contents parts) ≡ false
  not_written at here =
      list_any-append (λ place. place == at) (block_places closed.contents) (places_in parts)
      ∙ ap (λ b. b || list_any (λ place. place == at) (places_in parts))
      (apart_from_unused held.used (block_places closed.contents) at (places_unused held.used closed.contents can.fresh) here)
      ∙ apart_from_unused held.used (places_in parts) at unused here

  -- before the gate may be open the image holds what stood
  pub holds_before_gate : (s : Standing) → StandsOver image held s → (slot : ℕ) (c : Image) → slot < 16
      → IsUnsealed slot (group_places closed.contents parts) image c → Holds held.tag c s
  holds_before_gate s over slot c within unsealed = holds_still image held s sound over c stays unsealed.only.count unsealed.counts
    where
      stays : (at : ℕ) → 32 ≤ at → slice_index_or held.used at true ≡ true → sector_at c at ≡ sector_at image at
      stays at past here =
          unsealed.only.others at (λ e. omega (arith, e, past, within)) (λ e. omega (arith, e, past, within)) (not_written at here)
