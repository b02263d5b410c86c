-- An image that holds a group's chains, its seal and its blocks stands for the pool of the group.
use Rattle.std.proofs.Common.{◌≡◌, ℕ, ◌<◌, ◌≤◌, ◌^◌, List, [], ◌∷◌, ◌++◌, Option, Some, map, length, get_or, refl, sym, ap, subst, ◌∙◌, append_assoc, arith, None}
use Rattle.std.specs.List.{AllByRecursion}
use Rattle.std.proofs.lemmas.List.{append-nil}
use Rattle.ddt_entry.specs.Spelling.{record_bytes, IsKeyLength, Fits as ChangeFits}
use Rattle.ddt_entry.specs.declared.entry.Change.TheVariants as changes
use Rattle.disk_model.specs.Images.{Image}
use Rattle.page_tree.specs.ChainWrites.{pages_for, AreOpen}
use Rattle.uber_ring.specs.declared.seal.Seal.{Seal}
use Rattle.pool_model.specs.declared.commands.Mode.{Mode}
use Rattle.pool_model.specs.Pool.{Pool, Pointer}
use Rattle.pool_model.specs.Mirrors.{Stored}
use Rattle.pool_model.specs.Table.{TableState}
use Rattle.table_state.specs.Spelling.{slot_bytes}
use Rattle.table_state.specs.Flat.{Flat, IsRead, HoldTogether, StandsFor, IsWithin, table_in, pool_in, pointer_of}
use Rattle.table_state.specs.Tables.{unique_in, duplicate_in}
use Rattle.table_state.specs.Pools.{with_blocks, pool_after}
use Rattle.table_state.specs.Sealed.{ChainPart, places_in, roots_of, HoldsParts, entry_bytes, records_in, flat_of, seal_of, CanBeKept, CanStand, AreParts, SameBlocks, IsSealedImage}
use Rattle.slot_table.specs.declared.slot.SlotRecord.{SlotRecord}
use Rattle.page_tree.proofs.ChainBack.{chain_is_read_back}
use Rattle.page_tree.proofs.OpenPlaces.{is_open-parts, is_open-from, open_places-below, open_places-parts}
use Rattle.table_state.proofs.Kept.{pointers_kept}
use Rattle.table_state.proofs.SealBack.{seal_modes_back, seal_quota_back, seal_checkpoint_back, seal_is_formed}
use Rattle.table_state.proofs.TableBack.{table_back, unique_rises, duplicate_rises, unique_counted, duplicate_counted, unique_keeps, duplicate_keeps, one_class}
use Rattle.table_state.proofs.Spelled.{slots_spelled, slots_long, entries_spelled, entries_long, changes_spelled, changes_long}
use Rattle.pool_model.specs.Logs.{left_in, last_changes}
use Rattle.pool_model.specs.Replaying.{LoggedTable}

-- places that are open on a disk are open on a longer one
pub open_wider : (sectors longer : ℕ) → sectors ≤ longer → (named places : List ℕ) → AreOpen sectors named places
    → AreOpen longer named places
open_wider sectors longer le named [] all = tt
open_wider sectors longer le named (place ∷ places) all =
    let here = is_open-parts sectors named place all.0 in
    (is_open-from longer named place (record { from = here.from; below = omega (arith, here.below, le); fresh = here.fresh }), open_wider sectors longer le (named ++ place ∷ []) places all.1)

-- ---- The five parts

abbrev part_of : List ℕ → List (List ℕ) → ChainPart
part_of places records = record { places = places; records = records }

-- five chains at these places
record FiveParts (parts : List ChainPart) (a b c d e : List (List ℕ)) : Type 0 where
  pub at_a : List ℕ
  pub at_b : List ℕ
  pub at_c : List ℕ
  pub at_d : List ℕ
  pub at_e : List ℕ
  pub are : parts ≡ part_of at_a a ∷ part_of at_b b ∷ part_of at_c c ∷ part_of at_d d ∷ part_of at_e e ∷ []

same_parts : (p p' q q' r r' s s' t t' : ChainPart) → p ≡ p' → q ≡ q' → r ≡ r' → s ≡ s' → t ≡ t'
    → p ∷ q ∷ r ∷ s ∷ t ∷ [] ≡ p' ∷ q' ∷ r' ∷ s' ∷ t' ∷ []
same_parts p p' q q' r r' s s' t t' ep eq er es et = cc

-- parts with five lists of records are five
five_parts : (parts : List ChainPart) (a b c d e : List (List ℕ)) → map (λ part. part.records) parts ≡ a ∷ b ∷ c ∷ d ∷ e ∷ []
    → FiveParts parts a b c d e
five_parts [] a b c d e same = absurd (cc same)
five_parts (p ∷ []) a b c d e same = absurd (cc same)
five_parts (p ∷ q ∷ []) a b c d e same = absurd (cc same)
five_parts (p ∷ q ∷ r ∷ []) a b c d e same = absurd (cc same)
five_parts (p ∷ q ∷ r ∷ s ∷ []) a b c d e same = absurd (cc same)
five_parts (p ∷ q ∷ r ∷ s ∷ t ∷ []) a b c d e same = record {
  at_a = p.places;
  at_b = q.places;
  at_c = r.places;
  at_d = s.places;
  at_e = t.places;
  are = same_parts p _ q _ r _ s _ t _ (ap (part_of p.places) (nth 0)) (ap (part_of q.places) (nth 1)) (ap (part_of r.places) (nth 2))
      (ap (part_of s.places) (nth 3)) (ap (part_of t.places) (nth 4));
}
  where
    nth : (i : ℕ) → get_or (p.records ∷ q.records ∷ r.records ∷ s.records ∷ t.records ∷ []) i [] ≡ get_or (a ∷ b ∷ c ∷ d ∷ e ∷ []) i []
    nth i = ap (λ (l : List (List (List ℕ))). get_or l i []) same
five_parts (p ∷ q ∷ r ∷ s ∷ t ∷ u ∷ more) a b c d e same = absurd (cc same)

-- the chains of these parts are in an image, each page at an open place
record AreHeld (c : Image) (parts : List ChainPart) : Type 0 where
  pub pages : AllByRecursion (λ part. length part.places ≡ pages_for (length part.records)) parts
  pub places_open : AreOpen (length c) [] (places_in parts)
  pub some : 0 < length c
  pub held : HoldsParts c parts

joined : (a b c d e : List ℕ) → (((a ++ b) ++ c) ++ d) ++ e ≡ a ++ (b ++ (c ++ (d ++ (e ++ []))))
joined a b c d e = simp (append_assoc, append-nil)

-- ---- The law

abbrev pool_made : List Pointer → List Mode → Option ℕ → ℕ → Pool
pool_made pointers modes quota group = record { pointers = pointers; modes = modes; quota = quota; group = group }

same_pool : (p p' : List Pointer) (m m' : List Mode) (q q' : Option ℕ) (group : ℕ) → p ≡ p' → m ≡ m' → q ≡ q'
    → pool_made p m q group ≡ pool_made p' m' q' group
same_pool p p' m m' q q' group ep em eq = cc

module _ (tag sectors group : ℕ) (slots : List SlotRecord) (kept : LoggedTable) (modes : List Mode) (quota : Option ℕ)
    (can : CanBeKept sectors group slots kept) where
  abbrev seal_with : List ChainPart → Seal
  seal_with parts = seal_of tag sectors group modes quota kept (roots_of parts) (length (places_in parts))

  abbrev flat_with : List ChainPart → Flat
  flat_with parts = flat_of slots kept (places_in parts)

  unique_fits : AllByRecursion (λ entry. ChangeFits (changes.Entry entry)) (unique_in kept.table.zap)
  unique_fits = unique_keeps (λ entry. ChangeFits (changes.Entry entry)) kept.table.zap can.zap_fits

  duplicate_fits : AllByRecursion (λ entry. ChangeFits (changes.Entry entry)) (duplicate_in kept.table.zap)
  duplicate_fits = duplicate_keeps (λ entry. ChangeFits (changes.Entry entry)) kept.table.zap can.zap_fits

  unique_lengths : AllByRecursion (λ entry. IsKeyLength entry.key.len) (unique_in kept.table.zap)
  unique_lengths = unique_keeps (λ entry. IsKeyLength entry.key.len) kept.table.zap can.zap_lengths

  duplicate_lengths : AllByRecursion (λ entry. IsKeyLength entry.key.len) (duplicate_in kept.table.zap)
  duplicate_lengths = duplicate_keeps (λ entry. IsKeyLength entry.key.len) kept.table.zap can.zap_lengths

  -- the five chains are read one behind the other
  read_five : (c : Image) (p q r s t : List ℕ) → length c ≤ 2 ^ 64
      → let parts : List ChainPart = part_of p (map slot_bytes slots) ∷ part_of q (map entry_bytes (unique_in kept.table.zap)) ∷ part_of r
      (map entry_bytes (duplicate_in kept.table.zap)) ∷ part_of s (map record_bytes kept.logs.active) ∷ part_of t
      (map record_bytes kept.logs.flushing) ∷ [] in
      AreHeld c parts → IsRead c (seal_with parts) (flat_with parts)
  read_five c p q r s t small are =
      let at_p = open_places-parts (length c) [] p (q ++ (r ++ (s ++ (t ++ [])))) are.places_open in
      let at_q = open_places-parts (length c) p q (r ++ (s ++ (t ++ []))) at_p.1 in
      let at_r = open_places-parts (length c) (p ++ q) r (s ++ (t ++ [])) at_q.1 in
      let at_s = open_places-parts (length c) ((p ++ q) ++ r) s (t ++ []) at_r.1 in
      let at_t = open_places-parts (length c) (((p ++ q) ++ r) ++ s) t [] at_s.1 in
      record {
        after_slots = p;
        after_unique = p ++ q;
        after_duplicate = (p ++ q) ++ r;
        after_active = ((p ++ q) ++ r) ++ s;
        slots = map slot_bytes slots;
        unique = map entry_bytes (unique_in kept.table.zap);
        duplicate = map entry_bytes (duplicate_in kept.table.zap);
        active = map record_bytes kept.logs.active;
        flushing = map record_bytes kept.logs.flushing;
        first = chain_is_read_back c (length c) [] p (map slot_bytes slots) are.some are.pages.0
            (slots_long slots can.slots_fit) at_p.0 small are.held.0;
        second = chain_is_read_back c (length c) p q (map entry_bytes (unique_in kept.table.zap)) are.some are.pages.1.0
            (entries_long (unique_in kept.table.zap) unique_fits) at_q.0 small are.held.1.0;
        third = chain_is_read_back c (length c) (p ++ q) r (map entry_bytes (duplicate_in kept.table.zap)) are.some are.pages.1.1.0
            (entries_long (duplicate_in kept.table.zap) duplicate_fits) at_r.0 small are.held.1.1.0;
        fourth = chain_is_read_back c (length c) ((p ++ q) ++ r) s (map record_bytes kept.logs.active) are.some are.pages.1.1.1.0
            (changes_long kept.logs.active can.active_fits) at_s.0 small are.held.1.1.1.0;
        fifth =
            chain_is_read_back c (length c) (((p ++ q) ++ r) ++ s) t (map record_bytes kept.logs.flushing) are.some are.pages.1.1.1.1.0
            (changes_long kept.logs.flushing can.flushing_fits) at_t.0 small are.held.1.1.1.1.0
            ∙ ap (λ (named : List ℕ). Some (record { named = named; records = map record_bytes kept.logs.flushing })) (joined p q r s t);
        slots_spelled = slots_spelled sectors group slots can.slots_within can.slots_fit;
        unique_spelled = entries_spelled (unique_in kept.table.zap) unique_fits unique_lengths;
        duplicate_spelled = entries_spelled (duplicate_in kept.table.zap) duplicate_fits duplicate_lengths;
        active_spelled = changes_spelled kept.logs.active can.active_fits can.log_lengths.active;
        flushing_spelled = changes_spelled kept.logs.flushing can.flushing_fits can.log_lengths.flushing;
      }

  read_parts : (c : Image) (parts : List ChainPart) → length c ≤ 2 ^ 64 → map (λ part. part.records) parts ≡ records_in slots kept
      → AreHeld c parts → IsRead c (seal_with parts) (flat_with parts)
  read_parts c parts small spelled =
      let five = five_parts parts (map slot_bytes slots) (map entry_bytes (unique_in kept.table.zap)) (map entry_bytes (duplicate_in kept.table.zap))
      (map record_bytes kept.logs.active) (map record_bytes kept.logs.flushing) spelled in
      subst (λ (ps : List ChainPart). AreHeld c ps → IsRead c (seal_with ps) (flat_with ps)) (sym five.are)
      (read_five c five.at_a five.at_b five.at_c five.at_d five.at_e small)

  -- what is read keeps the rules together
  whole_with : (parts : List ChainPart) → AreOpen sectors [] (places_in parts) → HoldTogether (seal_with parts) (flat_with parts)
  whole_with parts places_open = record {
    pages_within = open_places-below sectors sectors [] (places_in parts) (omega arith) places_open;
    slots_rising = can.slots_rising;
    unique_within = unique_keeps (IsWithin sectors group) kept.table.zap can.zap_within;
    duplicate_within = duplicate_keeps (IsWithin sectors group) kept.table.zap can.zap_within;
    active_within = can.logs_within.active;
    flushing_within = can.logs_within.flushing;
    unique_rising = unique_rises kept.table.zap can.sorted.zap_rising;
    duplicate_rising = duplicate_rises kept.table.zap can.sorted.zap_rising;
    counted_once = unique_counted kept.table.zap;
    counted_more = duplicate_counted kept.table.zap;
    one_class = one_class kept.table.zap can.sorted.zap_rising;
    active_changes = refl;
    flushing_changes = refl;
  }

  table_again : (parts : List ChainPart) → table_in (seal_with parts) (flat_with parts) ≡ kept.table
  table_again parts =
      table_back kept (seal_with parts) (flat_with parts) can.sorted can.replays refl refl refl refl
      (seal_checkpoint_back tag sectors group modes quota kept (roots_of parts) (length (places_in parts)))

  pool_again : (image c : Image) (contents : List Stored) (parts : List ChainPart) → SameBlocks (with_blocks contents image) c slots
      → pool_after image contents slots kept.table modes quota group ≡ pool_in c (seal_with parts) (flat_with parts)
  pool_again image c contents parts blocks =
      same_pool _ _ _ _ _ _ group
      (pointers_kept (with_blocks contents image) c kept.table slots blocks
      ∙ ap (λ (t : TableState). map (pointer_of c t) slots) (sym (table_again parts)))
      (sym (seal_modes_back tag sectors group modes quota kept (roots_of parts) (length (places_in parts))))
      (sym (seal_quota_back tag sectors group modes quota kept (roots_of parts) (length (places_in parts))))

  -- where nothing was appended nothing is left to flush
  beside : kept.logs.flushing ≡ [] → kept.table.checkpoint ≡ None
  beside none = can.checkpoint (can.replays.flush ∙ ap (left_in kept.table.checkpoint (last_changes kept.logs.active)) none)

  -- an image with the group's seal, chains and blocks stands for the pool of the group
  pub sealed_stands : (image c : Image) (contents : List Stored) (parts : List ChainPart) → AreParts sectors slots kept parts
      → CanStand sectors (places_in parts) (pool_after image contents slots kept.table modes quota group) kept.table
      → length c ≤ 2 ^ 64 → IsSealedImage tag sectors group image c slots kept modes quota contents parts
      → StandsFor tag c (pool_after image contents slots kept.table modes quota group) kept.table
  sealed_stands image c contents parts are stand small sealed = record {
    seal = seal_with parts;
    flat = flat_with parts;
    counts = sealed.counts;
    formed =
        seal_is_formed tag sectors group modes quota kept (roots_of parts) (length (places_in parts)) (length c)
        (record { enough = can.enough; few = can.few; there = sealed.there; first = can.first; last = can.last; beside = beside });
    read = read_parts c parts small are.spelled
        (record { pages = are.pages; places_open = open_wider sectors (length c) sealed.there [] (places_in parts) are.places_open; some = omega (arith, can.enough, sealed.there); held = sealed.held });
    whole = whole_with parts are.places_open;
    table_is = sym (table_again parts);
    pool_is = pool_again image c contents parts sealed.blocks;
    well_formed = stand.well_formed;
    matches = stand.matches;
    homes = refl;
    references = refl;
    pages = refl;
    pointers_clear = stand.pointers_clear;
    waiting_clear = stand.waiting_clear;
  }

  module _ (image c : Image) (contents : List Stored) (parts : List ChainPart) (are : AreParts sectors slots kept parts)
      (stand : CanStand sectors (places_in parts) (pool_after image contents slots kept.table modes quota group) kept.table)
      (small : length c ≤ 2 ^ 64) (sealed : IsSealedImage tag sectors group image c slots kept modes quota contents parts)
    where
      -- by this seal
      pub sealed_by : (sealed_stands image c contents parts are stand small sealed).seal ≡ seal_of tag sectors group modes quota kept
          (roots_of parts) (length (places_in parts))
      unfolding sealed_stands
      sealed_by = refl

      -- with what the image keeps
      pub sealed_keeps : (sealed_stands image c contents parts are stand small sealed).flat ≡ flat_of slots kept (places_in parts)
      unfolding sealed_stands
      sealed_keeps = refl
