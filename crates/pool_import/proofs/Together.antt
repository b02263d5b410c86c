-- The tests tell exactly which parts keep the rules together.
use Rattle.std.proofs.Common.{◌≡◌, ℕ, ◌<◌, ◌≤◌, Bool, true, ◌==◌, List, [], ◌∷◌, Option, Some, None, length, refl}
use Rattle.std.specs.Prelude.{nat_le, nat_lt, is_none}
use Rattle.std.specs.List.{AllByRecursion, list_all}
use Rattle.std.specs.Bool.{Decides}
use Rattle.std.proofs.lemmas.Bool.{leb-true, le-leb}
use Rattle.std.proofs.lemmas.Bool.Decides.{Decides-and, Decides-ltb, Decides-eqb, Decides-like}
use Rattle.ddt_entry.specs.declared.entry.Entry.{Entry}
use Rattle.ddt_entry.specs.declared.entry.Change.{Change}
use Rattle.ddt_entry.specs.declared.entry.Change.TheVariants as changes
use Rattle.uber_ring.specs.declared.seal.Seal.{Seal}
use Rattle.pool_model.specs.Pool.{Pairwise}
use Rattle.pool_model.specs.Table.{entry_at, AreRising}
use Rattle.slot_table.specs.Slots.{stands_before}
use Rattle.table_state.specs.Flat.{Flat, IsWithin, IsChangeWithin, HoldTogether}
use Rattle.pool_import.proofs.JudgingFound.{earlier_yet}
use Rattle.pool_import.specs.Together.{is_within, is_change_within, rises, has_lower_key, is_elsewhere, are_within, are_sorted, are_classes, are_counted, hold_together}
use Rattle.slot_table.proofs.SlotLaws.{stands_through}

-- a test of each item
all_decided : {X : Type 0} (p : X → Bool) (P : X → Type 0) → ((x : X) → Decides (p x) (P x)) → (xs : List X)
    → Decides (list_all p xs) (AllByRecursion P xs)
all_decided p P each [] = (λ e. tt, λ e. refl)
all_decided p P each (x ∷ xs) = Decides-and (p x) (list_all p xs) (each x) (all_decided p P each xs)

Decides-leb : (a b : ℕ) → Decides (nat_le a b) (a ≤ b)
Decides-leb a b = (leb-true a b, le-leb a b)

is_within-Decides : (sectors group : ℕ) (entry : Entry) → Decides (is_within sectors group entry) (IsWithin sectors group entry)
is_within-Decides sectors group entry =
    Decides-like (is_within sectors group entry)
    (λ h. record { place = h.0.0.0.0.0; on_disk = h.0.0.0.0.1; born = h.0.0.0.1; birth = h.0.0.1; since = h.0.1; count = h.1 })
    (λ h. (((((h.place, h.on_disk), h.born), h.birth), h.since), h.count))
    (Decides-and _ _ (Decides-and _ _
    (Decides-and _ _ (Decides-and _ _ (Decides-and _ _ (Decides-leb 32 entry.home.place) (Decides-ltb entry.home.place sectors))
    (Decides-leb 1 entry.home.birth)) (Decides-leb entry.home.birth group)) (Decides-ltb entry.home.since 1099511627776))
    (Decides-leb entry.home.count 1048576))

is_change_within-Decides : (sectors group : ℕ) (change : Change)
    → Decides (is_change_within sectors group change) (IsChangeWithin sectors group change)
is_change_within-Decides sectors group (changes.Entry entry) = is_within-Decides sectors group entry
is_change_within-Decides sectors group (changes.Gone key) = (λ e. tt, λ e. refl)

-- ---- Rising lists

itself : (b : Bool) → Decides b (b ≡ true)
itself b = (λ e. e, λ e. e)

module _ {X : Type 0} (before : X → X → Bool) (onward : (x y z : X) → before x y ≡ true → before y z ≡ true → before x z ≡ true) where
  abbrev Before : X → X → Type 0
  Before x y = before x y ≡ true

  all_onward : (x y : X) → Before x y → (xs : List X) → AllByRecursion (Before y) xs → AllByRecursion (Before x) xs
  all_onward x y first [] all = tt
  all_onward x y first (z ∷ zs) all = (onward x y z first all.0, all_onward x y first zs all.1)

  -- where each item stands before the next one, each stands before all that follow
  rises-Pairwise : (x : X) (xs : List X) → Decides (rises before (Some x) xs) (Pairwise Before (x ∷ xs))
  rises-Pairwise x [] = (λ e. (tt, tt), λ e. refl)
  rises-Pairwise x (y ∷ ys) =
      Decides-like (rises before (Some x) (y ∷ ys))
      (λ h. ((h.0, all_onward x y h.0 ys h.1.0), h.1))
      (λ h. (h.0.0, h.1))
      (Decides-and (before x y) (rises before (Some y) ys) (itself (before x y)) (rises-Pairwise y ys))

  rises-Decides : (xs : List X) → Decides (rises before None xs) (Pairwise Before xs)
  rises-Decides [] = (λ e. tt, λ e. refl)
  rises-Decides (x ∷ xs) = rises-Pairwise x xs

keys_onward : (a b c : Entry) → has_lower_key a b ≡ true → has_lower_key b c ≡ true → has_lower_key a c ≡ true
keys_onward a b c one other = earlier_yet a.key b.key c.key one other

-- ---- The rules

is_none-Decides : {X : Type 0} (o : Option X) → Decides (is_none o) (o ≡ None)
is_none-Decides None = (λ e. refl, λ e. refl)
is_none-Decides (Some x) = (λ e. absurd (cc e), λ e. absurd (cc e))

-- what is sorted
pub are_sorted-Decides : (flat : Flat)
    → Decides (are_sorted flat) ((Pairwise (λ a b. stands_before a b ≡ true) flat.slots × AreRising flat.unique) × AreRising flat.duplicate)
are_sorted-Decides flat = Decides-and _ _
    (Decides-and _ _ (rises-Decides stands_before stands_through flat.slots) (rises-Decides has_lower_key keys_onward flat.unique))
    (rises-Decides has_lower_key keys_onward flat.duplicate)

-- the tests as one
pub hold_together-Decides : (seal : Seal) (flat : Flat) → Decides (hold_together seal flat) (HoldTogether seal flat)
hold_together-Decides seal flat =
    Decides-like (hold_together seal flat)
    (λ h. record {
      pages_within = h.0.0.0.0.0.0.0;
      slots_rising = h.0.0.1.0.0;
      unique_within = h.0.0.0.0.0.0.1;
      duplicate_within = h.0.0.0.0.0.1;
      active_within = h.0.0.0.0.1;
      flushing_within = h.0.0.0.1;
      unique_rising = h.0.0.1.0.1;
      duplicate_rising = h.0.0.1.1;
      counted_once = h.0.1.0.0;
      counted_more = h.0.1.0.1;
      one_class = h.0.1.1;
      active_changes = h.1.0;
      flushing_changes = h.1.1;
    })
    (λ h. (((((((h.pages_within, h.unique_within), h.duplicate_within), h.active_within), h.flushing_within), ((h.slots_rising, h.unique_rising), h.duplicate_rising)), ((h.counted_once, h.counted_more), h.one_class)), (h.active_changes, h.flushing_changes)))
    (Decides-and _ _ (Decides-and _ _ (Decides-and _ _ within (are_sorted-Decides flat)) classes) counted)
  where
    entries_within : (entries : List Entry)
        → Decides (list_all (is_within seal.sectors seal.group) entries) (AllByRecursion (IsWithin seal.sectors seal.group) entries)
    entries_within entries = all_decided (is_within seal.sectors seal.group) (IsWithin seal.sectors seal.group)
        (is_within-Decides seal.sectors seal.group) entries

    log_within : (log : List Change)
        → Decides (list_all (is_change_within seal.sectors seal.group) log) (AllByRecursion (IsChangeWithin seal.sectors seal.group) log)
    log_within log = all_decided (is_change_within seal.sectors seal.group) (IsChangeWithin seal.sectors seal.group)
        (is_change_within-Decides seal.sectors seal.group) log

    within : Decides (are_within seal flat)
        ((((AllByRecursion (λ sector. sector < seal.sectors) flat.named × AllByRecursion (IsWithin seal.sectors seal.group) flat.unique)
        × AllByRecursion (IsWithin seal.sectors seal.group) flat.duplicate)
        × AllByRecursion (IsChangeWithin seal.sectors seal.group) flat.active)
        × AllByRecursion (IsChangeWithin seal.sectors seal.group) flat.flushing)
    within =
        Decides-and _ _ (Decides-and _ _ (Decides-and _ _ (Decides-and _ _
        (all_decided (λ sector. nat_lt sector seal.sectors) (λ sector. sector < seal.sectors)
        (λ sector. Decides-ltb sector seal.sectors) flat.named)
        (entries_within flat.unique)) (entries_within flat.duplicate)) (log_within flat.active)) (log_within flat.flushing)

    classes : Decides (are_classes flat)
        ((AllByRecursion (λ (entry : Entry). entry.home.count ≡ 1) flat.unique
        × AllByRecursion (λ (entry : Entry). 1 < entry.home.count) flat.duplicate)
        × AllByRecursion (λ (entry : Entry). entry_at entry.key flat.duplicate ≡ None) flat.unique)
    classes =
        Decides-and _ _ (Decides-and _ _
        (all_decided (λ (entry : Entry). entry.home.count == 1) (λ entry. entry.home.count ≡ 1)
        (λ entry. Decides-eqb entry.home.count 1) flat.unique)
        (all_decided (λ (entry : Entry). nat_lt 1 entry.home.count) (λ entry. 1 < entry.home.count)
        (λ entry. Decides-ltb 1 entry.home.count) flat.duplicate))
        (all_decided (is_elsewhere flat.duplicate) (λ entry. entry_at entry.key flat.duplicate ≡ None)
        (λ entry. is_none-Decides (entry_at entry.key flat.duplicate)) flat.unique)

    counted : Decides (are_counted seal flat) ((seal.active_changes ≡ length flat.active) × (seal.flushing_changes ≡ length flat.flushing))
    counted = Decides-and _ _ (Decides-eqb seal.active_changes (length flat.active))
        (Decides-eqb seal.flushing_changes (length flat.flushing))
