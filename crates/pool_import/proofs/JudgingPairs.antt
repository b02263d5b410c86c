-- Each two pointers of an image's pool go together exactly where they lie apart or share a home.
use Rattle.std.proofs.Common.{◌≡◌, ◌≢◌, ℕ, ◌<◌, ◌≤◌, Bool, true, false, not, ◌&&◌, ◌||◌, ◌==◌, inl, inr, List, [], ◌∷◌, map, refl, sym, ap, ⊎_elim, ◌∙◌, arith, eq-eqb}
use Rattle.std.specs.Prelude.{nat_lt}
use Rattle.std.specs.List.{AllByRecursion}
use Rattle.std.proofs.lemmas.Bool.{false≢true, and_parts, ltb-true}
use Rattle.std.proofs.lemmas.Bool.Decides.{nat_tests, eqb_tells}
use Rattle.ddt_entry.specs.Keys.{key_eq}
use Rattle.ddt_entry.specs.declared.entry.Home.{Home}
use Rattle.ddt_entry.proofs.KeyLaws.{key_eq-true}
use Rattle.disk_model.specs.Images.{Image}
use Rattle.pool_model.specs.Pool.{Pointer, Pairwise, IsApart, run_length, is_at, is_shared, is_tracked, SharesHome, GoTogether, LiesWithin}
use Rattle.pool_model.specs.Table.{TableState, found}
use Rattle.slot_table.specs.Slots.{stands_before}
use Rattle.table_state.specs.Flat.{pointer_of}
use Rattle.table_state.specs.SlotRecords.{is_slot}
use Rattle.slot_table.specs.declared.slot.SlotRecord.{SlotRecord}
use Rattle.table_state.proofs.SlotLaws.{is_slot-from}
use Rattle.table_state.proofs.UsedLaws.{one_sector}
use Rattle.pool_import.specs.Marks.{spot_in, go_apart}
use Rattle.pool_import.proofs.JudgingLists.{pairs_map, pairs_unmap, pairs_weaker, pairs_both}
use Rattle.pool_import.proofs.JudgingHomes.{same_option, IsKnown}

-- ---- Runs

-- two runs of one sector are apart exactly where they are two
pub apart_if : (place other n m : ℕ) → n ≡ 1 → m ≡ 1 → place ≢ other → IsApart place n other m
apart_if place other n m one two differ = by_order (nat_lt place other) refl
  where
    by_order : (b : Bool) → nat_lt place other ≡ b → IsApart place n other m
    by_order true before = let lt : place < other = ltb-true place other before in inl (omega arith)
    by_order false behind = let ge : other ≤ place = grind (arith, nat_tests) in inr (omega arith)

-- runs that are apart are two
pub differ_if : (place other n m : ℕ) → n ≡ 1 → m ≡ 1 → IsApart place n other m → (place == other) ≡ false
differ_if place other n m one two apart =
    ⊎_elim (λ here. absurd (⊎_elim {C = ⊥} (λ before. omega (arith, here.1)) (λ behind. omega (arith, here.1)) apart)) (λ differ. differ.0)
    (eqb_tells place other)

-- ---- A slot's ranges

-- what is asked of a pointer beside its content
pub record IsRanged (sectors group : ℕ) (p : Pointer) : Type 0 where
  pub start : 32 ≤ p.place
  pub on_disk : p.place < sectors
  pub group_is : p.birth ≤ group
  pub run : run_length p.key ≡ 1

-- a slot in its ranges makes such a pointer
pub ranged_of : (sectors group : ℕ) (image : Image) (table : TableState) (slot : SlotRecord) → is_slot sectors group slot ≡ true
    → IsRanged sectors group (pointer_of image table slot)
ranged_of sectors group image table slot is =
    let ranges = is_slot-from sectors group slot is in
    record { start = ranges.place.0; on_disk = ranges.place.1; group_is = ranges.birth.1; run = one_sector slot.pointer.key ranges.len }

-- such a pointer lies within the disk
pub within_of : (sectors group : ℕ) (p : Pointer) → IsRanged sectors group p → LiesWithin sectors group p
within_of sectors group p ranged = record
    { start = ranged.start; end = let run = ranged.run in let on = ranged.on_disk in omega (arith, run, on); birth = ranged.group_is }

-- ---- Two pointers

-- slots that rise aren't one
slots_apart : (lane slot lane' slot' : ℕ) → (nat_lt lane lane' || ((lane == lane') && nat_lt slot slot')) ≡ true
    → ((lane' == lane) && (slot' == slot)) ≡ false
slots_apart lane slot lane' slot' before = grind (arith, nat_tests)

-- what the test of sharing says
shared_parts : (p q : Pointer) → is_shared p q ≡ true → (is_tracked p.mark ≡ true) × (is_tracked q.mark ≡ true) × (p.key ≡ q.key)
shared_parts p q shared =
    let outer = and_parts (is_tracked p.mark && is_tracked q.mark) (key_eq p.key q.key) shared in
    let inner = and_parts (is_tracked p.mark) (is_tracked q.mark) outer.0 in
    (inner.0, inner.1, key_eq-true p.key q.key outer.1)

-- two that the table counts under one key share its home
shares_home : (table : TableState) (p q : Pointer) → IsKnown table p → IsKnown table q → is_shared p q ≡ true → SharesHome p q
shares_home table p q known other shared =
    let parts = shared_parts p q shared in
    let one = known.of_tracked parts.0 in
    let two = other.of_tracked parts.1 in
    let same : one.home ≡ two.home = same_option one.home two.home (sym one.is_found ∙ ap (found table) parts.2 ∙ two.is_found) in
    record {
      place = one.place ∙ ap (λ (h : Home). h.place) same ∙ sym two.place;
      birth = one.birth ∙ ap (λ (h : Home). h.birth) same ∙ sym two.birth;
      since = one.since ∙ ap (λ (h : Home). h.since) same ∙ sym two.since;
    }

-- what is known of each: its numbers are in their ranges, and its mark is what the table makes of it
pub record IsInOrder (table : TableState) (sectors group : ℕ) (p : Pointer) : Type 0 where
  pub ranged : IsRanged sectors group p
  pub known : IsKnown table p

module _ (table : TableState) (sectors group : ℕ) (p q : Pointer) (one : IsInOrder table sectors group p)
    (other : IsInOrder table sectors group q) where
  two_blocks : go_apart (spot_in p) (spot_in q) ≡ true → is_shared p q ≡ false
      → IsApart p.place (run_length p.key) q.place (run_length q.key)
  two_blocks apart alone =
      apart_if p.place q.place (run_length p.key) (run_length q.key) one.ranged.run other.ranged.run
      (λ same. false≢true (sym (ap (λ b. b || not (p.place == q.place)) alone ∙ ap not (eq-eqb p.place q.place same)) ∙ apart))

  together : is_at p.lane p.slot q ≡ false → go_apart (spot_in p) (spot_in q) ≡ true → GoTogether p q
  together slots apart = record { slots = slots; one_home = shares_home table p q one.known other.known; two_blocks = two_blocks apart }

  apart : GoTogether p q → go_apart (spot_in p) (spot_in q) ≡ true
  apart go = by_shared (is_shared p q) refl
    where
      by_shared : (b : Bool) → is_shared p q ≡ b → (b || not (p.place == q.place)) ≡ true
      by_shared true shared = refl
      by_shared false alone = ap not
          (differ_if p.place q.place (run_length p.key) (run_length q.key) one.ranged.run other.ranged.run (go.two_blocks alone))

-- ---- All pointers

-- slots that rise are each another
pub slots_differ : (image : Image) (table : TableState) (slots : List SlotRecord) → Pairwise (λ a b. stands_before a b ≡ true) slots
    → Pairwise (λ (p q : Pointer). is_at p.lane p.slot q ≡ false) (map (pointer_of image table) slots)
slots_differ image table slots rising =
    pairs_map (λ (p q : Pointer). is_at p.lane p.slot q ≡ false) (pointer_of image table) slots
    (pairs_weaker (λ (s : SlotRecord). Unit {0}) (λ a b. stands_before a b ≡ true)
    (λ (a b : SlotRecord). is_at a.lane a.slot (pointer_of image table b) ≡ false)
    (λ a b _ _ before. slots_apart a.lane a.slot b.lane b.slot before) slots (any slots) rising)
  where
    any : (xs : List SlotRecord) → AllByRecursion (λ (s : SlotRecord). Unit {0}) xs
    any [] = tt
    any (x ∷ xs) = (tt, any xs)

-- pointers in other slots, each two of which lie apart or share, go together
pub together_if_apart : (table : TableState) (sectors group : ℕ) (ps : List Pointer) → AllByRecursion (IsInOrder table sectors group) ps
    → Pairwise (λ (p q : Pointer). is_at p.lane p.slot q ≡ false) ps
    → Pairwise (λ a b. go_apart a b ≡ true) (map spot_in ps) → Pairwise GoTogether ps
together_if_apart table sectors group ps sound slots apart_all =
    pairs_weaker (IsInOrder table sectors group)
    (λ (p q : Pointer). (is_at p.lane p.slot q ≡ false) × (go_apart (spot_in p) (spot_in q) ≡ true)) GoTogether
    (λ p q one other both. together table sectors group p q one other both.0 both.1) ps sound
    (pairs_both (λ (p q : Pointer). is_at p.lane p.slot q ≡ false) (λ (p q : Pointer). go_apart (spot_in p) (spot_in q) ≡ true)
    (λ (p q : Pointer). (is_at p.lane p.slot q ≡ false) × (go_apart (spot_in p) (spot_in q) ≡ true))
    (λ p q one other. (one, other)) ps slots (pairs_unmap (λ a b. go_apart a b ≡ true) spot_in ps apart_all))

-- and back
pub apart_if_together : (table : TableState) (sectors group : ℕ) (ps : List Pointer) → AllByRecursion (IsInOrder table sectors group) ps
    → Pairwise GoTogether ps → Pairwise (λ a b. go_apart a b ≡ true) (map spot_in ps)
apart_if_together table sectors group ps sound pairs =
    pairs_map (λ a b. go_apart a b ≡ true) spot_in ps
    (pairs_weaker (IsInOrder table sectors group) GoTogether (λ (p q : Pointer). go_apart (spot_in p) (spot_in q) ≡ true)
    (λ p q one other go. apart table sectors group p q one other go) ps sound pairs)
