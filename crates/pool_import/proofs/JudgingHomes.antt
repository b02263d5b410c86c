-- The counts of the homes tell whether each home counts exactly its pointers.
use Rattle.std.proofs.Common.{◌≡◌, ℕ, ◌<◌, Bool, true, false, cond, ◌&&◌, ◌==◌, List, [], ◌∷◌, length, map, Option, Some, None, refl, sym, ap, ◌∙◌, arith, eq-eqb}
use Rattle.std.specs.Prelude.{filter, count_by, nat_lt, if◌then◌else◌}
use Rattle.std.specs.List.{AllByRecursion, list_all}
use Rattle.std.proofs.lemmas.Bool.{false≢true, and_parts, eqb-true, ltb-true}
use Rattle.std.proofs.lemmas.List.Sums.{length-filter}
use Rattle.ddt_entry.specs.Keys.{key_eq}
use Rattle.ddt_entry.specs.declared.key.Key.{Key}
use Rattle.ddt_entry.specs.declared.entry.Home.{Home}
use Rattle.ddt_entry.specs.declared.entry.Entry.{Entry}
use Rattle.ddt_entry.specs.declared.entry.SlotKind.{SlotKind}
use Rattle.ddt_entry.specs.declared.entry.SlotKind.TheVariants.{Plain, Flagged}
use Rattle.ddt_entry.proofs.KeyLaws.{key_eq-true}
use Rattle.disk_model.specs.Images.{Image}
use Rattle.pool_model.specs.Pool.{Pool, Pointer, Mark, tracked, loose, is_tracked, since_of, tracks, tracked_at}
use Rattle.pool_model.specs.Table.{TableState, entry_at, entries_found, found, counted, home_of_pointers, counted_homes, IsTable}
use Rattle.table_state.specs.Flat.{pointer_of, mark_by, mark_of}
use Rattle.slot_table.specs.declared.slot.SlotRecord.{SlotRecord}
use Rattle.pool_model.proofs.Lists.{all_filter, all_from, all_from_both, all_tested}
use Rattle.pool_import.specs.Marks.{spot_in, counts_for, is_counted}
use Rattle.pool_import.specs.declared.marks.Spot.{Spot}
use Rattle.pool_import.proofs.JudgingLists.{every_unfilter, list_all-each, each-list_all}
use Rattle.pool_model.proofs.Finding.{found-is, rising_found}
use Rattle.pool_import.proofs.JudgingFound.{each_found, of_found}
use Rattle.pool_model.proofs.Loops.{filter-none}

-- ---- Pointers as the table knows them

-- a pointer that is counted has its key's home
pub record HasHome (table : TableState) (p : Pointer) : Type 0 where
  pub home : Home
  pub is_found : found table p.key ≡ Some home
  pub is_counted : nat_lt 0 home.count ≡ true
  pub place : p.place ≡ home.place
  pub birth : p.birth ≡ home.birth
  pub since : since_of p.mark ≡ home.since

-- if it is counted, it has
pub record IsKnown (table : TableState) (p : Pointer) : Type 0 where
  pub of_tracked : is_tracked p.mark ≡ true → HasHome table p

-- what a mark says of a home
record IsMarkOf (home : Home) (place birth : ℕ) (mark : Mark) : Type 0 where
  count : nat_lt 0 home.count ≡ true
  place_is : place ≡ home.place
  birth_is : birth ≡ home.birth
  since_is : since_of mark ≡ home.since

-- a tracked mark says a home that counts
marked_by : (home : Home) (place birth : ℕ) → is_tracked (mark_by (Some home) place birth) ≡ true
    → IsMarkOf home place birth (mark_by (Some home) place birth)
marked_by home place birth is = by_test (nat_lt 0 home.count && (home.place == place) && (home.birth == birth)) refl is
  where
    by_test : (b : Bool) → (nat_lt 0 home.count && (home.place == place) && (home.birth == birth)) ≡ b
        → is_tracked (if b then tracked home.since else loose) ≡ true → IsMarkOf home place birth (if b then tracked home.since else loose)
    by_test true all is =
        let outer = and_parts (nat_lt 0 home.count && (home.place == place)) (home.birth == birth) all in
        let inner = and_parts (nat_lt 0 home.count) (home.place == place) outer.0 in
        record { count = inner.0; place_is = sym (eqb-true home.place place inner.1); birth_is = sym (eqb-true home.birth birth outer.1); since_is = refl }
    by_test false all is = absurd (false≢true is)

-- each pointer of an image's pool is known so
pub known_of : (image : Image) (table : TableState) (slot : SlotRecord) → IsKnown table (pointer_of image table slot)
known_of image table slot = record { of_tracked = λ is. by_kind slot.pointer.kind refl is }
  where
    of_home : (kind : SlotKind) (o : Option Home) → slot.pointer.kind ≡ kind → found table slot.pointer.key ≡ o
        → is_tracked (mark_of kind o slot.pointer.place slot.pointer.birth) ≡ true → HasHome table (pointer_of image table slot)
    of_home Plain o kind_is found_is is = absurd (false≢true is)
    of_home Flagged None kind_is found_is is = absurd (false≢true is)
    of_home Flagged (Some home) kind_is found_is is =
        let marked = marked_by home slot.pointer.place slot.pointer.birth is in
        record {
          home = home;
          is_found = found_is;
          is_counted = marked.count;
          place = marked.place_is;
          birth = marked.birth_is;
          since = ap (λ (k : SlotKind). since_of (mark_of k (found table slot.pointer.key) slot.pointer.place slot.pointer.birth)) kind_is
              ∙ ap (λ (o : Option Home). since_of (mark_by o slot.pointer.place slot.pointer.birth)) found_is ∙ marked.since_is;
        }

    by_kind : (kind : SlotKind) → slot.pointer.kind ≡ kind
        → is_tracked (mark_of slot.pointer.kind (found table slot.pointer.key) slot.pointer.place slot.pointer.birth) ≡ true
        → HasHome table (pointer_of image table slot)
    by_kind kind kind_is is =
        of_home kind (found table slot.pointer.key) kind_is refl
        (ap (λ (k : SlotKind). is_tracked (mark_of k (found table slot.pointer.key) slot.pointer.place slot.pointer.birth)) (sym kind_is)
        ∙ is)

-- ---- Counts

-- as many slots are counted under a key as pointers are tracked at it
count_spots : (key : Key) (ps : List Pointer) → length (filter (counts_for key) (map spot_in ps)) ≡ length (filter (tracks key) ps)
count_spots key [] = refl
count_spots key (p ∷ ps) =
    let rest = count_spots key ps in
    elim (tracks key p) as
    (λ b. length (cond b (spot_in p ∷ filter (counts_for key) (map spot_in ps)) (filter (counts_for key) (map spot_in ps))) ≡ length
    (cond b (p ∷ filter (tracks key) ps) (filter (tracks key) ps)))
    [ true ↦ omega (arith, rest) | false ↦ rest ]

-- the same by a count
count_at-is : (key : Key) (ps : List Pointer) → count_by (counts_for key) (map spot_in ps) ≡ length (filter (tracks key) ps)
count_at-is key ps = sym (length-filter (counts_for key) (map spot_in ps)) ∙ count_spots key ps

-- a pointer that is tracked at a key has the key's home
home_at : (table : TableState) (key : Key) (p : Pointer) → IsKnown table p → tracks key p ≡ true
    → (known : HasHome table p) × (found table key ≡ Some known.home)
home_at table key p known is =
    let parts = and_parts (is_tracked p.mark) (key_eq p.key key) is in
    let has = known.of_tracked parts.0 in
    (has, ap (found table) (sym (key_eq-true p.key key parts.1)) ∙ has.is_found)

-- none is tracked at a key with no counted home
none_at : (table : TableState) (key : Key) (ps : List Pointer) → AllByRecursion (IsKnown table) ps
    → ((home : Home) → found table key ≡ Some home → nat_lt 0 home.count ≡ true → ⊥) → filter (tracks key) ps ≡ []
none_at table key ps known never =
    filter-none (tracks key) ps (all_from (IsKnown table) (λ p. tracks key p ≡ false) (λ p is. by_test p is (tracks key p) refl) ps known)
  where
    by_test : (p : Pointer) → IsKnown table p → (b : Bool) → tracks key p ≡ b → tracks key p ≡ false
    by_test p is false tracked_is = tracked_is
    by_test p is true tracked_is = let at = home_at table key p is tracked_is in absurd (never at.0.home at.1 at.0.is_counted)

-- a home of these fields
abbrev home_by : (place birth since count : ℕ) → Home
home_by place birth since count = record { place = place; birth = birth; since = since; count = count }

-- homes of equal fields are one
same_fields : (p p' b b' s s' c c' : ℕ) → p ≡ p' → b ≡ b' → s ≡ s' → c ≡ c' → Some (home_by p' b' s' c') ≡ Some (home_by p b s c)
same_fields p p' b b' s s' c c' is_place is_birth is_since is_count = cc

-- a home has its fields
same_home : (home : Home) (place birth since count : ℕ) → place ≡ home.place → birth ≡ home.birth → since ≡ home.since → count ≡ home.count
    → Some home ≡ Some (home_by place birth since count)
same_home home place birth since count is_place is_birth is_since is_count = same_fields place home.place birth home.birth since home.since
    count home.count is_place is_birth is_since is_count

-- what pointers that all have a home share
record Shares (home : Home) (p : Pointer) : Type 0 where
  place : p.place ≡ home.place
  birth : p.birth ≡ home.birth
  since : since_of p.mark ≡ home.since

-- pointers that share a home, as many as it counts, give it
home_of-all : (home : Home) (ps : List Pointer) → AllByRecursion (Shares home) ps → length ps ≡ home.count → 0 < home.count
    → Some home ≡ home_of_pointers ps
home_of-all home [] each count some = absurd (omega arith)
home_of-all home (p ∷ ps) each count some = same_home home p.place p.birth (since_of p.mark)
    (length (p ∷ ps)) each.0.place each.0.birth each.0.since count

-- equal homes
pub same_option : (a b : Home) → Some a ≡ Some b → a ≡ b
same_option a b same = cc

module _ (pool : Pool) (table : TableState) (is : IsTable table) (known : AllByRecursion (IsKnown table) pool.pointers) where
  abbrev spots : List Spot
  spots = map spot_in pool.pointers

  -- what each pointer at a key shares, once the key's home is known
  all_share : (key : Key) (home : Home) → found table key ≡ Some home → AllByRecursion (Shares home) (tracked_at pool key)
  all_share key home found_is =
      all_from_both (λ p. tracks key p ≡ true) (IsKnown table) (Shares home) shares (tracked_at pool key)
      (all_tested (λ p. tracks key p ≡ true) (tracks key) (λ p passed. passed) pool.pointers)
      (all_filter (IsKnown table) (tracks key) pool.pointers known)
    where
      shares : (p : Pointer) → tracks key p ≡ true → IsKnown table p → Shares home p
      shares p tracked_is of =
          let at = home_at table key p of tracked_is in
          let one : at.0.home ≡ home = same_option at.0.home home (sym at.1 ∙ found_is) in
          record {
            place = at.0.place ∙ ap (λ (h : Home). h.place) one;
            birth = at.0.birth ∙ ap (λ (h : Home). h.birth) one;
            since = at.0.since ∙ ap (λ (h : Home). h.since) one;
          }

  -- the count of a key's home is right, where each counted home's is
  count_right : list_all (is_counted spots) (counted_homes table) ≡ true → (key : Key) (home : Home) → found table key ≡ Some home
      → nat_lt 0 home.count ≡ true → length (tracked_at pool key) ≡ home.count
  count_right passed key home found_is some =
      sym (count_at-is key pool.pointers)
      ∙ eqb-true (count_by (counts_for key) spots) home.count
      (of_found (λ h. nat_lt 0 h.count ≡ true → (count_by (counts_for key) spots == h.count) ≡ true) key home (entries_found table)
      (all_from (λ (e : Entry). nat_lt 0 e.home.count ≡ true → is_counted spots e ≡ true)
      (λ (e : Entry). key_eq e.key key ≡ true → nat_lt 0 e.home.count ≡ true → (count_by (counts_for key) spots == e.home.count) ≡ true)
      (λ e right at counts. ap (λ (k : Key). count_by (counts_for k) spots == e.home.count) (sym (key_eq-true e.key key at)) ∙ right counts)
      (entries_found table)
      (every_unfilter (λ (e : Entry). is_counted spots e ≡ true) (λ (e : Entry). nat_lt 0 e.home.count) (entries_found table)
      (list_all-each (is_counted spots) (counted_homes table) passed)))
      (sym (found-is table key is) ∙ found_is) some)

  -- right counts match
  pub homes_if_counted : list_all (is_counted spots) (counted_homes table) ≡ true → (key : Key)
      → counted (found table key) ≡ home_of_pointers (tracked_at pool key)
  homes_if_counted passed key = by_home (found table key) refl
    where
      empty : ((home : Home) → found table key ≡ Some home → nat_lt 0 home.count ≡ true → ⊥) → None ≡ home_of_pointers (tracked_at pool key)
      empty never = sym (ap home_of_pointers (none_at table key pool.pointers known never))

      by_count : (home : Home) → found table key ≡ Some home → (b : Bool) → nat_lt 0 home.count ≡ b
          → (if b then Some home else None) ≡ home_of_pointers (tracked_at pool key)
      by_count home found_is true some =
          home_of-all home (tracked_at pool key) (all_share key home found_is) (count_right passed key home found_is some)
          (ltb-true 0 home.count some)
      by_count home found_is false none =
          empty (λ other is_found counts. absurd
          (false≢true (sym none ∙ ap (λ (h : Home). nat_lt 0 h.count) (same_option home other (sym found_is ∙ is_found)) ∙ counts)))

      by_home : (o : Option Home) → found table key ≡ o → counted o ≡ home_of_pointers (tracked_at pool key)
      by_home None found_is = empty (λ home is_found counts. absurd (cc (found_is, is_found)))
      by_home (Some home) found_is = by_count home found_is (nat_lt 0 home.count) refl

  -- what matches is counted right
  pub counted_if_homes : ((key : Key) → counted (found table key) ≡ home_of_pointers (tracked_at pool key))
      → list_all (is_counted spots) (counted_homes table) ≡ true
  counted_if_homes homes =
      each-list_all (is_counted spots) (counted_homes table)
      (all_from_both (λ (e : Entry). nat_lt 0 e.home.count ≡ true) (λ (e : Entry). entry_at e.key (entries_found table) ≡ Some e.home)
      (λ (e : Entry). is_counted spots e ≡ true) right
      (counted_homes table)
      (all_tested (λ (e : Entry). nat_lt 0 e.home.count ≡ true) (λ e. nat_lt 0 e.home.count) (λ e passed. passed) (entries_found table))
      (all_filter (λ (e : Entry). entry_at e.key (entries_found table) ≡ Some e.home) (λ (e : Entry). nat_lt 0 e.home.count)
      (entries_found table) (each_found (entries_found table) (rising_found table is))))
    where
      as_many : (home : Home) (ps : List Pointer) → Some home ≡ home_of_pointers ps → length ps ≡ home.count
      as_many home [] same = absurd (cc same)
      as_many home (p ∷ ps) same = sym (ap (λ (h : Home). h.count) (same_option home _ same))

      right : (e : Entry) → nat_lt 0 e.home.count ≡ true → entry_at e.key (entries_found table) ≡ Some e.home → is_counted spots e ≡ true
      right e counts there =
          eq-eqb (count_by (counts_for e.key) spots) e.home.count
          (count_at-is e.key pool.pointers
          ∙ as_many e.home (tracked_at pool e.key)
          (sym (ap counted (found-is table e.key is ∙ there) ∙ ap (λ b. if b then Some e.home else None) counts) ∙ homes e.key))
