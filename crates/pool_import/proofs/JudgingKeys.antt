-- The search for a key among entries that rise by key, and how a count is kept for each of them.
use Rattle.std.proofs.Common.{◌≡◌, ℕ, zero, suc, ◌+◌, ◌<◌, ◌≤◌, Bool, true, false, cond, ◌&&◌, List, [], ◌∷◌, length, get_or, set, take, drop, map, replicate, Option, Some, None, refl, sym, ap, subst, ◌∙◌, arith}
use Rattle.std.specs.Prelude.{slice_get, count_by}
use Rattle.std.specs.List.{AllByRecursion, find}
use Rattle.std.specs.Option.{option_map}
use Rattle.std.specs.Ordering.{is_eq, is_lt, ordering_reverse}
use Rattle.std.specs.declared.cmp.Ordering.TheVariants.{Less, Equal, Greater}
use Rattle.std.proofs.lemmas.Option.{get_or_from_slice_get, slice_get-get_or}
use Rattle.std.proofs.lemmas.List.{take_more, at_drop_more, length-take, get_or_read}
use Rattle.std.proofs.lemmas.List.Sums.{count_by_more_yes, count_by_more_no, count_by-le-length}
use Rattle.ddt_entry.specs.Keys.{key_cmp, key_eq}
use Rattle.ddt_entry.specs.declared.key.Key.{Key}
use Rattle.ddt_entry.specs.declared.entry.Home.{Home}
use Rattle.ddt_entry.specs.declared.entry.Entry.{Entry}
use Rattle.ddt_entry.proofs.KeyLaws.{key_cmp_total, is_eq-key_cmp, key_eq-true, key_eq-symm}
use Rattle.pool_model.specs.Table.{TableState, entry_at, entries_found, AreRising, IsTable}
use Rattle.pool_model.specs.Pool.{is_tracked}
use Rattle.table_state.specs.Flat.{mark_of}
use Rattle.slot_table.specs.declared.slot.SlotRecord.{SlotRecord}
use Rattle.pool_model.proofs.Lists.{all_each, all_from}
use Rattle.pool_model.proofs.TablePuts.{apart_by_order}
use Rattle.pool_import.specs.Marks.{counts_for, spot_among, spot_of}
use Rattle.pool_import.specs.declared.marks.Spot.{Spot}
use Rattle.pool_import.proofs.JudgingLists.{every_at}
use Rattle.pool_model.proofs.Finding.{found-is}
use Rattle.pool_import.proofs.JudgingFound.{IsBefore, earlier_yet}
use Rattle.pool_model.proofs.Loops.{all_push, map-same}

-- what holds of each holds of the one at a place
every_get : {X : Type 0} (P : X → Type 0) (xs : List X) (i : ℕ) (d : X) → AllByRecursion P xs → i < length xs → P (get_or xs i d)
every_get P [] i d each within = absurd (omega arith)
every_get P (x ∷ xs) zero d each within = each.0
every_get P (x ∷ xs) (suc i) d each within = every_get P xs i d each.1 (omega arith)

-- the entries before one are of earlier keys, and those behind it of later ones
before_at : (es : List Entry) (at : ℕ) (d : Entry) → AreRising es → at < length es
    → AllByRecursion (λ x. IsBefore x (get_or es at d)) (take at es)
before_at [] at d rising within = absurd (omega arith)
before_at (f ∷ fs) zero d rising within = tt
before_at (f ∷ fs) (suc at) d rising
    within = (every_get (IsBefore f) fs at d rising.0 (omega arith), before_at fs at d rising.1 (omega arith))

-- and those behind it of later ones
behind_at : (es : List Entry) (at : ℕ) (d : Entry) → AreRising es → at < length es
    → AllByRecursion (IsBefore (get_or es at d)) (drop (suc at) es)
behind_at [] at d rising within = absurd (omega arith)
behind_at (f ∷ fs) zero d rising within = rising.0
behind_at (f ∷ fs) (suc at) d rising within = behind_at fs at d rising.1 (omega arith)

-- an entry of an earlier key
abbrev IsBelow : Key → Entry → Type 0
IsBelow key e = is_lt (key_cmp e.key key) ≡ true

-- an entry of a later key
abbrev IsAbove : Key → Entry → Type 0
IsAbove key e = is_lt (key_cmp key e.key) ≡ true

-- the entry at a place is below: all up to it are
pub all_below : (es : List Entry) (at : ℕ) (d : Entry) (key : Key) → AreRising es → at < length es → key_cmp (get_or es at d).key key ≡ Less
    → AllByRecursion (IsBelow key) (take (at + 1) es)
all_below es at d key rising within less =
    let last : IsBelow key (get_or es at d) = ap is_lt less in
    subst (AllByRecursion (IsBelow key)) (sym (take_more es at d within))
    (all_push (IsBelow key) (take at es) (get_or es at d)
    (all_from (λ x. IsBefore x (get_or es at d)) (IsBelow key) (λ x earlier. earlier_yet x.key (get_or es at d).key key earlier last)
    (take at es) (before_at es at d rising within)) last)

-- the entry at a place is above: all from it on are
pub all_above : (es : List Entry) (at : ℕ) (d : Entry) (key : Key) → AreRising es → at < length es
    → key_cmp (get_or es at d).key key ≡ Greater → AllByRecursion (IsAbove key) (drop at es)
all_above es at d key rising within greater =
    let first : IsAbove key (get_or es at d) = ap is_lt (key_cmp_total.antisymm key (get_or es at d).key ∙ ap ordering_reverse greater) in
    let next : suc at ≡ at + 1 = omega arith in
    subst (AllByRecursion (IsAbove key)) (sym (at_drop_more (λ l. l) es at d within)) (
      first,
      subst (λ n. AllByRecursion (IsAbove key) (drop n es)) next
          (all_from (IsBefore (get_or es at d)) (IsAbove key) (λ x later. earlier_yet key (get_or es at d).key x.key first later)
          (drop (suc at) es) (behind_at es at d rising within)),
    )

-- what holds of each of the front and of the rest holds of each
every_joined : {X : Type 0} (P : X → Type 0) (n : ℕ) (xs : List X) → AllByRecursion P (take n xs) → AllByRecursion P (drop n xs)
    → AllByRecursion P xs
every_joined P n [] front back = tt
every_joined P zero (x ∷ xs) front back = back
every_joined P (suc n) (x ∷ xs) front back = (front.0, every_joined P n xs front.1 back)

-- where the halves meet no entry is of the key
pub none_of_key : (es : List Entry) (low high : ℕ) (key : Key) → low ≡ high → AllByRecursion (IsBelow key) (take low es)
    → AllByRecursion (IsAbove key) (drop high es) → AllByRecursion (λ e. key_eq e.key key ≡ false) es
none_of_key es low high key met below above =
    every_joined (λ e. key_eq e.key key ≡ false) low es
    (all_from (IsBelow key) (λ e. key_eq e.key key ≡ false) (λ e less. apart_by_order e.key key less) (take low es) below)
    (subst (λ n. AllByRecursion (λ (e : Entry). key_eq e.key key ≡ false) (drop n es)) (sym met)
    (all_from (IsAbove key) (λ e. key_eq e.key key ≡ false) (λ e more. key_eq-symm e.key key ∙ apart_by_order key e.key more)
    (drop high es) above))

-- an entry of the key was met
pub met_at : (es : List Entry) (at : ℕ) (d : Entry) (key : Key) → at < length es → key_cmp (get_or es at d).key key ≡ Equal
    → (entry : Entry) × (slice_get es at ≡ Some entry) × (key_eq entry.key key ≡ true)
met_at es at d key within
    tied = (get_or es at d, slice_get-get_or es at d within, sym (is_eq-key_cmp (get_or es at d).key key) ∙ ap is_eq tied)

-- ---- What is found

-- nothing is found of a key that no entry has
pub found_none : (es : List Entry) (key : Key) → AllByRecursion (λ e. key_eq e.key key ≡ false) es → entry_at key es ≡ None
found_none [] key each = refl
found_none (f ∷ fs) key each = ap
    (λ b. option_map (λ (x : Entry). x.home) (cond b (Some f) (find (λ (x : Entry). key_eq x.key key) fs))) each.0
    ∙ found_none fs key each.1

-- the home of the entry of a key is found
pub found_some : (es : List Entry) (at : ℕ) (e : Entry) (key : Key) → AreRising es → slice_get es at ≡ Some e → key_eq e.key key ≡ true
    → entry_at key es ≡ Some e.home
found_some [] at e key rising there same = absurd (cc there)
found_some (f ∷ fs) zero e key rising there same =
    let one : f ≡ e = cc in
    ap (λ b. option_map (λ (x : Entry). x.home) (cond b (Some f) (find (λ (x : Entry). key_eq x.key key) fs)))
    (ap (λ (x : Entry). key_eq x.key key) one ∙ same) ∙ ap (λ (x : Entry). Some x.home) one
found_some (f ∷ fs) (suc at) e key rising there same =
    ap (λ b. option_map (λ (x : Entry). x.home) (cond b (Some f) (find (λ (x : Entry). key_eq x.key key) fs)))
    (ap (key_eq f.key) (sym (key_eq-true e.key key same)) ∙ apart_by_order f.key e.key (every_at (IsBefore f) fs at e rising.0 there))
    ∙ found_some fs at e key rising.1 there same

-- the home at the index of a key
pub home_there : (es : List Entry) (at : ℕ) (d : Entry) (key : Key) → AreRising es
    → ((entry : Entry) × (slice_get es at ≡ Some entry) × (key_eq entry.key key ≡ true)) → Some (get_or es at d).home ≡ entry_at key es
home_there es at d key rising there =
    ap (λ (e : Entry). Some e.home) (get_or_from_slice_get es at there.0 d there.1)
    ∙ sym (found_some es at there.0 key rising there.1 there.2)

-- ---- A count for each

-- one more at one place is one more for that entry alone
bumped : (f g : Entry → ℕ) (es : List Entry) (at : ℕ) (e : Entry) → AreRising es → slice_get es at ≡ Some e → g e ≡ f e + 1
    → ((x : Entry) → key_eq e.key x.key ≡ false → g x ≡ f x) → set (map f es) at (get_or (map f es) at 0 + 1) ≡ map g es
bumped f g [] at e rising there more others = absurd (cc there)
bumped f g (x ∷ xs) zero e rising there more others =
    let one : x ≡ e = cc in
    let here : f x + 1 ≡ g x = ap (λ (y : Entry). f y + 1) one ∙ sym more ∙ ap g (sym one) in
    ap (λ n. n ∷ map f xs) here
    ∙ ap (λ l. g x ∷ l) (map-same f g xs
    (all_from (IsBefore x) (λ y. f y ≡ g y)
    (λ y later. sym (others y (ap (λ (z : Entry). key_eq z.key y.key) (sym one) ∙ apart_by_order x.key y.key later))) xs rising.0))
bumped f g (x ∷ xs) (suc at) e rising there more others =
    ap (λ n. n ∷ set (map f xs) at (get_or (map f xs) at 0 + 1))
    (sym (others x (key_eq-symm e.key x.key ∙ apart_by_order x.key e.key (every_at (IsBefore x) xs at e rising.0 there))))
    ∙ ap (λ l. g x ∷ l) (bumped f g xs at e rising.1 there more others)

-- how many slots are counted under the key of a home
abbrev tally : List Spot → Entry → ℕ
tally spots entry = count_by (counts_for entry.key) spots

-- what one slot more adds
tally_more : (spots : List Spot) (i : ℕ) (d : Spot) (e : Entry) → i < length spots
    → tally (take (i + 1) spots) e ≡ tally (take i spots) e + cond (counts_for e.key (get_or spots i d)) 1 0
tally_more spots i d e within = by_test (counts_for e.key (get_or spots i d)) refl
  where
    by_test : (b : Bool) → counts_for e.key (get_or spots i d) ≡ b → tally (take (i + 1) spots) e ≡ tally (take i spots) e + cond b 1 0
    by_test true is = let more = count_by_more_yes (counts_for e.key) spots i d within is in omega (arith, more)
    by_test false is = let same = count_by_more_no (counts_for e.key) spots i d within is in omega (arith, same)

-- a test that fails adds nothing
adds_none : (n : ℕ) (b : Bool) → b ≡ false → n + cond b 1 0 ≡ n
adds_none n b none = ap (λ x. n + cond x 1 0) none ∙ omega arith

-- a test that fails with another
and_none : (a b : Bool) → b ≡ false → (a && b) ≡ false
and_none true b none = none
and_none false b none = refl

-- a slot of a key that no home has adds nothing
pub tallies_absent : (homes : List Entry) (spots : List Spot) (i : ℕ) (d : Spot) → i < length spots
    → AllByRecursion (λ e. key_eq e.key (get_or spots i d).key ≡ false) homes
    → map (tally (take i spots)) homes ≡ map (tally (take (i + 1) spots)) homes
tallies_absent homes spots i d within absent =
    let spot = get_or spots i d in
    map-same (tally (take i spots)) (tally (take (i + 1) spots)) homes
    (all_from (λ (e : Entry). key_eq e.key spot.key ≡ false) (λ e. tally (take i spots) e ≡ tally (take (i + 1) spots) e)
    (λ e other. sym (tally_more spots i d e within
    ∙ adds_none (tally (take i spots) e) (counts_for e.key spot)
    (and_none spot.tracked (key_eq spot.key e.key) (key_eq-symm spot.key e.key ∙ other)))) homes absent)

-- a slot of a home's key is one more for that home
tallies_bumped : (homes : List Entry) (spots : List Spot) (i : ℕ) (d : Spot) (at : ℕ) → AreRising homes → i < length spots
    → (get_or spots i d).tracked ≡ true
    → ((entry : Entry) × (slice_get homes at ≡ Some entry) × (key_eq entry.key (get_or spots i d).key ≡ true))
    → set (map (tally (take i spots)) homes) at (get_or (map (tally (take i spots)) homes) at 0 + 1) ≡ map
    (tally (take (i + 1) spots)) homes
tallies_bumped homes spots i d at rising within tracked there =
    let spot = get_or spots i d in
    bumped (tally (take i spots)) (tally (take (i + 1) spots)) homes at there.0 rising there.1
    (tally_more spots i d there.0 within
    ∙ ap (λ b. tally (take i spots) there.0 + cond b 1 0)
    (ap (λ b. b && key_eq spot.key there.0.key) tracked ∙ key_eq-symm spot.key there.0.key ∙ there.2))
    (λ x other. tally_more spots i d x within
    ∙ adds_none (tally (take i spots) x) (counts_for x.key spot)
    (and_none spot.tracked (key_eq spot.key x.key)
    (ap (λ (k : Key). key_eq k x.key) (sym (key_eq-true there.0.key spot.key there.2)) ∙ other)))

-- a count is no more than the slots that were looked at
tally-le : (homes : List Entry) (spots : List Spot) (i at : ℕ) (entry : Entry) → slice_get homes at ≡ Some entry → i ≤ length spots
    → get_or (map (tally (take i spots)) homes) at 0 ≤ i
tally-le [] spots i at entry there within = absurd (cc there)
tally-le (x ∷ xs) spots i zero entry there within = omega (arith, count_by-le-length (counts_for x.key) (take i spots), length-take i spots)
tally-le (x ∷ xs) spots i (suc at) entry there within = tally-le xs spots i at entry there within

-- a list of tallies is as long as the homes
tallies_within : (homes : List Entry) (spots : List Spot) (at : ℕ) (entry : Entry) → slice_get homes at ≡ Some entry
    → at < length (map (tally spots) homes)
tallies_within [] spots at entry there = absurd (cc there)
tallies_within (x ∷ xs) spots zero entry there = omega arith
tallies_within (x ∷ xs) spots (suc at) entry there = let rest = tallies_within xs spots at entry there in omega arith

-- the tally of a key's home is there
pub tally_there : (homes : List Entry) (spots : List Spot) (tallies : List ℕ) (at : ℕ) (key : Key) → tallies ≡ map (tally spots) homes
    → ((entry : Entry) × (slice_get homes at ≡ Some entry) × (key_eq entry.key key ≡ true)) → at < length tallies
tally_there homes spots tallies at key are there = subst (λ (l : List ℕ). at < length l) (sym are)
    (tallies_within homes spots at there.0 there.1)

-- it is no more than the slots that were looked at
pub tally_small : (homes : List Entry) (spots : List Spot) (i : ℕ) (tallies : List ℕ) (at n : ℕ) (key : Key)
    → tallies ≡ map (tally (take i spots)) homes → ((entry : Entry) × (slice_get homes at ≡ Some entry) × (key_eq entry.key key ≡ true))
    → n ≡ get_or tallies at n → i ≤ length spots → n ≤ i
tally_small homes spots i tallies at n key are there here within =
    let inside = tally_there homes (take i spots) tallies at key are there in
    let read : n ≡ get_or tallies at 0 = get_or_read tallies at n inside here 0 in
    let same : get_or tallies at 0 ≡ get_or (map (tally (take i spots)) homes) at 0 = ap (λ (l : List ℕ). get_or l at 0) are in
    let small = tally-le homes spots i at there.0 there.1 within in
    omega arith

-- a slot of a home's key is counted
pub tallied : (homes : List Entry) (spots : List Spot) (i : ℕ) (d : Spot) (tallies : List ℕ) (at n : ℕ) → AreRising homes → i < length spots
    → (get_or spots i d).tracked ≡ true → tallies ≡ map (tally (take i spots)) homes
    → ((entry : Entry) × (slice_get homes at ≡ Some entry) × (key_eq entry.key (get_or spots i d).key ≡ true)) → n ≡ get_or tallies at n
    → set tallies at (n + 1) ≡ map (tally (take (i + 1) spots)) homes
tallied homes spots i d tallies at n rising within tracked are there here =
    let inside = tally_there homes (take i spots) tallies at (get_or spots i d).key are there in
    ap (λ m. set tallies at (m + 1)) (get_or_read tallies at n inside here 0)
    ∙ ap (λ (l : List ℕ). set l at (get_or l at 0 + 1)) are
    ∙ tallies_bumped homes spots i d at rising within tracked there

-- at first each tally is 0
pub no_tallies : (homes : List Entry) (spots : List Spot) → replicate (length homes) 0 ≡ map (tally (take 0 spots)) homes
no_tallies [] spots = refl
no_tallies (x ∷ xs) spots = ap (λ l. 0 ∷ l) (no_tallies xs spots)

-- ---- Spots

-- the homes that a table finds tell what its search tells
pub spots_among : (table : TableState) (slots : List SlotRecord) → IsTable table
    → map (spot_among (entries_found table)) slots ≡ map (spot_of table) slots
spots_among table slots is =
    map-same (spot_among (entries_found table)) (spot_of table) slots
    (all_each (λ slot. spot_among (entries_found table) slot ≡ spot_of table slot)
    (λ slot. ap (λ (o : Option Home). record
    { key = slot.pointer.key; place = slot.pointer.place; tracked = is_tracked (mark_of slot.pointer.kind o slot.pointer.place slot.pointer.birth) }) (sym (found-is table slot.pointer.key is))) slots)
