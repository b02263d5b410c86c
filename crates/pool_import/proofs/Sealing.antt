-- What the image stands for, by the seal that counts and the parts that were read.
use Rattle.std.proofs.Common.{◌≡◌, ◌∙◌, ℕ, Option, Some, None, length, refl, sym, ap, subst, subst₂}
use Rattle.std.specs.Prelude.{IfOk, IfSome, IfNone, Result, Ok, Err, unwrap_or, sum_by}
use Rattle.std.specs.List.{AllByRecursion}
use Rattle.disk_model.specs.DiskLaws.{Stays}
use Rattle.disk_model.specs.Images.{Image}
use Rattle.uber_ring.specs.Ring.{newest}
use Rattle.uber_ring.specs.declared.seal.Seal.{Seal}
use Rattle.pool_model.specs.Pool.{Pool, IsWellFormed}
use Rattle.pool_model.specs.Table.{TableState, Matches, waiting_in, counted_homes}
use Rattle.table_state.specs.Flat.{Flat, IsRead, HoldTogether, StandsFor, IsDamaged, IsClear, image_version, table_in, pool_in}
use Rattle.table_state.specs.Pools.{Held, IsHeld}
use Rattle.table_state.proofs.FlatLaws.{one_flat}
use Rattle.pool_import.specs.Whole.{IsWhole}
use Rattle.page_tree.specs.declared.fault.PageFault.{PageFault}
use Rattle.pool_model.specs.declared.faults.SyncFault.{SyncFault}
use Rattle.pool_import.specs.Faults.{told_of}
use Rattle.pool_import.specs.Imports.{IsStanding, IsMade, IsMadeOf, held_of}

-- ---- A pool that was found

module _ (tag : ℕ) (image : Image) (seal : Seal) (flat : Flat) (counts : newest image_version image ≡ Some seal)
    (standing : IsStanding tag image seal flat) where
  abbrev stands : StandsFor tag image (pool_in image seal flat) (table_in seal flat)
  stands = record {
    seal = seal;
    flat = flat;
    counts = counts;
    formed = standing.formed;
    read = standing.read;
    whole = standing.together;
    table_is = refl;
    pool_is = refl;
    well_formed = standing.whole.well_formed;
    matches = standing.whole.matches;
    homes = standing.whole.homes;
    references = standing.whole.references;
    pages = standing.whole.pages;
    pointers_clear = standing.whole.pointers_clear;
    waiting_clear = standing.whole.waiting_clear;
  }

-- the pool in memory is of what the image stands for
pub is_held : (tag : ℕ) (image : Image) (seal : Seal) (held : Held) → newest image_version image ≡ Some seal → IsMadeOf tag image seal held
    → (pool : Pool) × (table : TableState) × IsHeld image held pool table
is_held tag image seal held counts made_of =
    let flat : Flat = made_of.flat in
    let made : IsMade tag seal flat held = made_of.made in
    let kept : IsHeld image (held_of tag seal flat made.used) (pool_in image seal flat) (table_in seal flat) = record {
      stands = stands tag image seal flat counts
          (record { formed = made_of.formed; read = made_of.read; together = made.together; whole = made.whole image });
      slots_are = refl;
      table_is = refl;
      logs_are = refl;
      pages_are = refl;
      keys_are = (made.whole image).homes;
      keys_few = made.few;
      totals_are = refl;
      used_are = made.used_are image;
      settled = refl;
      modes_are = refl;
      quota_is = refl;
      group_is = refl;
      sectors_are = refl;
    } in
    (pool_in image seal flat, table_in seal flat, subst (λ (h : Held). IsHeld image h (pool_in image seal flat) (table_in seal flat)) (sym made.held_is) kept)

-- contents that stay stand for the same pool
pub as_before : (old new : Option Image) (held : Held) → Stays old new
    → IfSome new (λ image. (pool : Pool) × (table : TableState) × IsHeld image held pool table)
    → IfSome old (λ image. (pool : Pool) × (table : TableState) × IsHeld image held pool table)
as_before None new held stays is = tt
as_before (Some image) new held stays is =
    subst (λ (told : Option Image). IfSome told (λ at. (pool : Pool) × (table : TableState) × IsHeld at held pool table)) stays is

module _ (tag : ℕ) (old new : Option Image) where
  abbrev Found : Option Image → Held → Type 0
  Found told held = IfSome told (λ image. (pool : Pool) × (table : TableState) × IsHeld image held pool table)

  both : (answer : Result (Option Held) PageFault) → Stays old new → IfOk answer (λ found. IfSome found (λ held. held.tag ≡ tag))
      → IfOk answer (λ found. IfSome found (Found new))
      → IfOk (told_of answer) (λ found. IfSome found (λ held. (held.tag ≡ tag) × Found old held))
  both (Err fault) stays tagged is = tt
  both (Ok None) stays tagged is = tt
  both (Ok (Some held)) stays tagged is = (tagged, as_before old new held stays is)

-- what an import tells, of contents that stay
pub told_held : (tag : ℕ) (old new : Option Image) (answer : Result (Option Held) PageFault) → Stays old new
    → IfOk answer (λ found. IfSome found (λ held. held.tag ≡ tag))
    → IfOk answer (λ found. IfSome found (λ held. IfSome new (λ image. (pool : Pool) × (table : TableState) × IsHeld image held pool table)))
    → (told : Result (Option Held) SyncFault) → told ≡ told_of answer
    → IfOk told (λ found. IfSome found (λ held. (held.tag ≡ tag) × IfSome old (λ image. (pool : Pool) × (table : TableState) × IsHeld image held pool table)))
told_held tag old new answer stays tagged is told told_is =
    subst (λ (x : Result (Option Held) SyncFault). IfOk x (λ found. IfSome found (λ held.
    (held.tag ≡ tag) × IfSome old (λ image. (pool : Pool) × (table : TableState) × IsHeld image held pool table))))
    (sym told_is) (both tag old new answer stays tagged is)

-- ---- A pool that was not found

same_some : {X : Type 0} (a b : X) → Some a ≡ Some b → a ≡ b
same_some a b same = ap (λ o. unwrap_or o a) same

-- what an image stands for stands under the seal that counts
standing_of : (tag : ℕ) (image : Image) (seal : Seal) (pool : Pool) (table : TableState) → newest image_version image ≡ Some seal
    → (state : StandsFor tag image pool table) → IsStanding tag image seal state.flat
standing_of tag image seal pool table counts state =
    subst (λ (s : Seal). IsStanding tag image s state.flat) (same_some state.seal seal (sym state.counts ∙ counts))
    (record {
      formed = state.formed;
      read = state.read;
      together = state.whole;
      whole = record {
        well_formed = subst (λ (p : Pool). IsWellFormed state.seal.sectors p) state.pool_is state.well_formed;
        matches = subst₂ (λ (p : Pool) (t : TableState). Matches p t) state.pool_is state.table_is state.matches;
        homes = subst (λ (t : TableState). state.seal.homes ≡ length (counted_homes t)) state.table_is state.homes;
        references = subst (λ (t : TableState). state.seal.counts ≡ sum_by (λ entry. entry.home.count) (counted_homes t)) state.table_is
            state.references;
        pages = state.pages;
        pointers_clear = subst
            (λ (p : Pool). AllByRecursion (λ pointer. IsClear state.flat.named pointer.place) p.pointers) state.pool_is
            state.pointers_clear;
        waiting_clear = subst
            (λ (t : TableState). AllByRecursion (λ entry. IsClear state.flat.named entry.home.place) (waiting_in t)) state.table_is
            state.waiting_clear;
      };
    })

-- so where nothing stands under it, the image is damaged
pub is_damaged : (tag : ℕ) (image : Image) (seal : Seal) → newest image_version image ≡ Some seal
    → ((flat : Flat) → IsStanding tag image seal flat → ⊥) → IsDamaged tag image
is_damaged tag image seal counts none = record {
  sealed = λ no_seal. clash (sym no_seal ∙ counts);
  no_pool = λ pool table state. none state.flat (standing_of tag image seal pool table counts state);
}
  where
    clash : None ≡ Some seal → ⊥
    clash same = cc same

-- ---- What the calls tell

module _ (tag : ℕ) (seal : Seal) where
  -- where no parts can be read, nothing stands
  pub unread : (told : Option Image) → IfSome told (λ image. (flat : Flat) → IsRead image seal flat → ⊥)
      → IfSome told (λ image. (flat : Flat) → IsStanding tag image seal flat → ⊥)
  unread None none = tt
  unread (Some image) none = λ flat standing. none flat standing.read

  -- nor where the parts that were read break a rule
  pub broken : (told : Option Image) (flat : Flat) (found : Option Held) → IfSome told (λ image. IsRead image seal flat) → found ≡ None
      → IfNone found (HoldTogether seal flat → (image : Image) → IsWhole image seal flat → ⊥)
      → IfSome told (λ image. (other : Flat) → IsStanding tag image seal other → ⊥)
  broken None flat found read none judged = tt
  broken (Some image) flat found read none judged = λ other standing.
      let same : other ≡ flat = one_flat image seal other flat standing.read read in
      let breaks : HoldTogether seal flat → (image : Image) → IsWhole image seal flat
      → ⊥ = subst (λ (o : Option Held). IfNone o (HoldTogether seal flat → (image : Image) → IsWhole image seal flat → ⊥)) none judged in
      breaks (subst (λ (f : Flat). HoldTogether seal f) same standing.together) image
      (subst (λ (f : Flat). IsWhole image seal f) same standing.whole)

  -- so the image is damaged, where this is the seal that counts
  pub damaged_by : (told : Option Image) (found : Option Seal) → IfSome told (λ image. found ≡ newest image_version image)
      → found ≡ Some seal → IfSome told (λ image. (flat : Flat) → IsStanding tag image seal flat → ⊥) → IfSome told (IsDamaged tag)
  damaged_by None found counts is none = tt
  damaged_by (Some image) found counts is none = is_damaged tag image seal (sym counts ∙ is) none

  -- and else it stands for the pool that was made
  pub held_by : (told : Option Image) (found : Option Seal) (held : Held) → IfSome told (λ image. found ≡ newest image_version image)
      → found ≡ Some seal → IfSome told (λ image. IsMadeOf tag image seal held)
      → IfSome told (λ image. (pool : Pool) × (table : TableState) × IsHeld image held pool table)
  held_by None found held counts is made = tt
  held_by (Some image) found held counts is made = is_held tag image seal held (sym counts ∙ is) made
