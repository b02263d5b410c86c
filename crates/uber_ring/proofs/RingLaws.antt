-- What a torn sector of one slot leaves of the ring.
use Rattle.std.proofs.Common.{◌≡◌, ◌≢◌, ◌⊎◌, ℕ, zero, suc, ◌<◌, Bool, true, false, Option, None, length, refl, ◌∙◌, ap, inl, inr, ⊎_elim, arith}
use Rattle.std.specs.Prelude.{List, nat_le, if◌then◌else◌}
use Rattle.std.proofs.lemmas.Bool.Decides.{nat_tests}
use Rattle.disk_model.specs.Images.{Image, sector_at}
use Rattle.disk_model.specs.DiskLaws.{IsImage, Torn}
use Rattle.disk_model.proofs.Sectors.{Torn-same}
use Rattle.uber_ring.specs.Seals.{is_open, body_seal}
use Rattle.uber_ring.specs.Ring.{slot_count, fewest_sectors, gate_sector, body_sector, gate_is_open, behind, seal_at, higher, highest, newest}
use Rattle.uber_ring.specs.RingWrites.{SameElsewhere, GateTorn, BodyTorn}
use Rattle.uber_ring.specs.declared.seal.Seal.{Seal}

-- what stands behind a gate hangs on the body alone
pub behind-same : (version slot : ℕ) (old new : Image) → length new ≡ length old
    → sector_at new (body_sector slot) ≡ sector_at old (body_sector slot) → behind version new slot ≡ behind version old slot
unfolding behind
behind-same version slot old new count body =
    ap (λ n. if nat_le fewest_sectors n then body_seal version slot (sector_at new (body_sector slot)) else None) count
    ∙ ap (λ (bytes : List ℕ). if nat_le fewest_sectors (length old) then body_seal version slot bytes else None) body

-- a slot's seal hangs on its two sectors alone
pub seal_at-same : (version slot : ℕ) (old new : Image) → length new ≡ length old
    → sector_at new (gate_sector slot) ≡ sector_at old (gate_sector slot)
    → sector_at new (body_sector slot) ≡ sector_at old (body_sector slot)
    → seal_at version new slot ≡ seal_at version old slot
unfolding seal_at
seal_at-same version slot old new count gate body =
    ap (λ (bytes : List ℕ). if is_open bytes then behind version new slot else None) gate
    ∙ ap (λ (seal : Option Seal). if gate_is_open old slot then seal else None) (behind-same version slot old new count body)

-- a closed gate hides what is behind it
pub seal_at-closed : (version slot : ℕ) (image : Image) → gate_is_open image slot ≡ false → seal_at version image slot ≡ None
unfolding seal_at
seal_at-closed version slot image closed = ap (λ shown. if shown then behind version image slot else None) closed

-- an open one shows it
pub seal_at-open : (version slot : ℕ) (image : Image) → gate_is_open image slot ≡ true
    → seal_at version image slot ≡ behind version image slot
unfolding seal_at
seal_at-open version slot image shown = ap (λ s. if s then behind version image slot else None) shown

-- nor behind a gate, where the disk is too small for a pool
small_behind : (version slot : ℕ) (image : Image) → length image < fewest_sectors → behind version image slot ≡ None
unfolding behind
small_behind version slot image small =
    ap (λ enough. if enough then body_seal version slot (sector_at image (body_sector slot)) else None) (lt-leb small)
  where
    lt-leb : length image < fewest_sectors → nat_le fewest_sectors (length image) ≡ false
    lt-leb less = grind (arith, nat_tests, less)

small_seal : (version slot : ℕ) (image : Image) → length image < fewest_sectors → seal_at version image slot ≡ None
unfolding seal_at
small_seal version slot image small = either_way (gate_is_open image slot) (behind version image slot)
    (small_behind version slot image small)
  where
    either_way : (b : Bool) (seal : Option Seal) → seal ≡ None → (if b then seal else None) ≡ None
    either_way true seal none = none
    either_way false seal none = refl

either : (b : Bool) → (b ≡ true) ⊎ (b ≡ false)
either true = inl refl
either false = inr refl

module _ (slot : ℕ) (old new : Image) where
  elsewhere : (at : ℕ) → Torn at old new → ((other : ℕ) → other ≢ slot → (gate_sector other ≢ at) × (body_sector other ≢ at))
      → SameElsewhere slot old new
  elsewhere at torn apart version other differs =
      seal_at-same version other old new torn.count (torn.others (gate_sector other) (apart other differs).0)
      (torn.others (body_sector other) (apart other differs).1)

  pub torn_gate : Torn (gate_sector slot) old new → GateTorn slot old new
  torn_gate torn = record {
    torn = torn;
    elsewhere = elsewhere (gate_sector slot) torn (λ other differs. ((λ same. differs (omega (arith, same))), λ same. omega (arith, same)));
    own = λ version. ⊎_elim
        (λ (shown : gate_is_open new slot ≡ true). inr (seal_at-open version slot new shown ∙ same_behind version))
        (λ (closed : gate_is_open new slot ≡ false). inl (seal_at-closed version slot new closed))
        (either (gate_is_open new slot));
    hidden = same_behind;
  }
    where
      same_behind : (version : ℕ) → behind version new slot ≡ behind version old slot
      same_behind version = behind-same version slot old new torn.count (torn.others (body_sector slot) (λ same. omega (arith, same)))

  pub torn_body : Torn (body_sector slot) old new → BodyTorn slot old new
  torn_body torn = record {
    torn = torn;
    elsewhere = elsewhere (body_sector slot) torn (λ other differs. ((λ same. omega (arith, same)), λ same. differs (omega (arith, same))));
    own = λ closed version. seal_at-closed version slot new
        (ap is_open (torn.others (gate_sector slot) (λ same. omega (arith, same))) ∙ closed);
  }

-- nothing is torn where nothing was written
pub still_gate : (sectors slot : ℕ) (image : Image) → IsImage sectors image → GateTorn slot image image
still_gate sectors slot image is = torn_gate slot image image (Torn-same sectors image (gate_sector slot) is)

pub still_body : (sectors slot : ℕ) (image : Image) → IsImage sectors image → BodyTorn slot image image
still_body sectors slot image is = torn_body slot image image (Torn-same sectors image (body_sector slot) is)

-- where no slot has a seal, none counts
pub highest_none : (seals : ℕ → Option Seal) (count : ℕ) → ((slot : ℕ) → seals slot ≡ None) → highest seals count ≡ None
highest_none seals zero none = refl
highest_none seals (suc count) none =
    ap (λ (best : Option Seal). higher best (seals count)) (highest_none seals count none) ∙ none count

-- a disk that is too small for a pool has no valid seal
pub newest_small : (version sectors : ℕ) (image : Image) → IsImage sectors image → sectors < fewest_sectors → newest version image ≡ None
unfolding newest
newest_small version sectors image is small = highest_none (seal_at version image) slot_count none
  where
    none : (slot : ℕ) → seal_at version image slot ≡ None
    none slot = small_seal version slot image (omega (arith, small, is.count))
