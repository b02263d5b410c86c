-- The pages that an image names are enough for the slots and the table that are read from it.
use Rattle.std.proofs.Common.{◌≡◌, ℕ, ◌+◌, ◌<◌, ◌≤◌, Bool, true, false, cond, List, [], ◌∷◌, length, filter, fold, map, Option, sym, ap, subst, ◌∙◌, arith}
use Rattle.std.specs.Prelude.{nat_lt, ◌==◌, if◌then◌else◌}
use Rattle.std.specs.List.{AllByRecursion}
use Rattle.std.specs.Ordering.{is_eq, is_lt}
use Rattle.std.specs.declared.cmp.Ordering.{Ordering}
use Rattle.std.specs.declared.cmp.Ordering.TheVariants.{Less, Equal, Greater}
use Rattle.std.proofs.lemmas.Bool.Decides.{nat_tests}
use Rattle.std.proofs.lemmas.List.{length-map}
use Rattle.ddt_entry.specs.Changes.{key_in}
use Rattle.disk_model.specs.Images.{Image}
use Rattle.page_tree.specs.ChainWrites.{pages_for}
use Rattle.page_tree.specs.declared.pointer.PagePtr.{PagePtr}
use Rattle.page_tree.proofs.ChainPages.{chain_pages}
use Rattle.uber_ring.specs.declared.seal.Seal.{Seal}
use Rattle.pool_model.specs.Table.{TableState}
use Rattle.pool_model.specs.Logs.{last_changes, Logs, is_left}
use Rattle.pool_model.specs.Replaying.{Replays}
use Rattle.table_state.specs.SealForms.{slots_root, unique_root, duplicate_root, active_root, flushing_root}
use Rattle.table_state.specs.Flat.{Flat, IsRead, Reads, HoldTogether, table_in, logs_in}
use Rattle.table_state.specs.Tables.{unique_in, duplicate_in, table_pages}
use Rattle.pool_model.proofs.Lists.{all_from, length-cond, length-filter-le}
use Rattle.pool_model.proofs.Sorted.{IsPut, passing_put, length-put}
use Rattle.pool_model.proofs.TablePuts.{entries_put, changes_put}
use Rattle.ddt_entry.specs.declared.entry.Change.{Change}

-- ---- The pages of the chains

-- lists that say the same have one length
same_length : {X Y Z : Type 0} (f : X → Z) (g : Y → Z) (xs : List X) (ys : List Y) → map f xs ≡ map g ys → length xs ≡ length ys
same_length f g xs ys same = sym (length-map xs f) ∙ ap length same ∙ length-map ys g

-- a chain that was read named as many sectors as so many records take pages
one_chain : (image : Image) (before : List ℕ) (root : Option PagePtr) (after : List ℕ) (records : List (List ℕ)) (count : ℕ)
    → Reads image before root after records → length records ≡ count → length after ≡ length before + pages_for count
one_chain image before root after records count read same = chain_pages image (length image) before root
    (record { named = after; records = records }) read ∙ ap (λ n. length before + pages_for n) same

five_sums : (a b c d e p q r s t : ℕ) → a ≡ 0 + p → b ≡ a + q → c ≡ b + r → d ≡ c + s → e ≡ d + t → e ≡ p + (q + r + s + t)
five_sums a b c d e p q r s t ea eb ec ed ee = omega arith

-- an image names a sector for each page of its five chains
pub pages_named : (image : Image) (seal : Seal) (flat : Flat) → IsRead image seal flat
    → length flat.named ≡ pages_for
    (length flat.slots) + (pages_for (length flat.unique) + pages_for (length flat.duplicate) + pages_for (length flat.active) + pages_for
    (length flat.flushing))
pages_named image seal flat read =
    five_sums (length read.after_slots) (length read.after_unique) (length read.after_duplicate) (length read.after_active)
    (length flat.named) _ _ _ _ _
    (one_chain image [] (slots_root seal) read.after_slots read.slots (length flat.slots) read.first
    (same_length _ _ read.slots flat.slots read.slots_spelled))
    (one_chain image read.after_slots (unique_root seal) read.after_unique read.unique (length flat.unique) read.second
    (same_length _ _ read.unique flat.unique read.unique_spelled))
    (one_chain image read.after_unique (duplicate_root seal) read.after_duplicate read.duplicate (length flat.duplicate) read.third
    (same_length _ _ read.duplicate flat.duplicate read.duplicate_spelled))
    (one_chain image read.after_duplicate (active_root seal) read.after_active read.active (length flat.active) read.fourth
    (same_length _ _ read.active flat.active read.active_spelled))
    (one_chain image read.after_active (flushing_root seal) flat.named read.flushing (length flat.flushing) read.fifth
    (same_length _ _ read.flushing flat.flushing read.flushing_spelled))

-- ---- How many elements pass a test

module _ {X : Type 0} (test : X → Bool) where
  -- an element that fails the test adds nothing in front
  length-missed : (b : Bool) (x : X) (xs : List X) → b ≡ false → length (cond b (x ∷ xs) xs) ≤ length xs
  length-missed true x xs missed = absurd (cc missed)
  length-missed false x xs missed = omega arith

  -- an element in front of two lists leaves the one no longer than the other
  both_in_front : (b : Bool) (x : X) (xs ys : List X) → length xs ≤ length ys → length (cond b (x ∷ xs) xs) ≤ length (cond b (x ∷ ys) ys)
  both_in_front true x xs ys shorter = omega arith
  both_in_front false x xs ys shorter = shorter

  -- where each fails the test none is left
  none_passing : (xs : List X) → AllByRecursion (λ x. test x ≡ false) xs → length (filter test xs) ≤ 0
  none_passing [] missed = omega arith
  none_passing (x ∷ xs) missed = omega (arith, length-missed (test x) x (filter test xs) missed.0, none_passing xs missed.1)

module _ {K X : Type 0} {order : K → K → Ordering} {key_of : X → K} {put : X → List X → List X} (is : IsPut order key_of put) where
  -- an element that fails a test adds none to those that pass it
  missed_put : (test : X → Bool) (x : X) (xs : List X) → test x ≡ false → length (filter test (put x xs)) ≤ length (filter test xs)
  missed_put test x [] missed = subst (λ (ys : List X). length (filter test ys) ≤ 0) (sym (is.alone x))
      (length-missed test (test x) x [] missed)
  missed_put test x (y ∷ ys) missed = subst (λ (zs : List X). length (filter test zs) ≤ length (filter test (y ∷ ys)))
      (sym (is.step x y ys)) (by_order (missed_put test x ys missed) (order (key_of x) (key_of y)))
    where
      by_order : length (filter test (put x ys)) ≤ length (filter test ys) → (o : Ordering)
          → length (filter test (if is_lt o then x ∷ y ∷ ys else (if is_eq o then x ∷ ys else y ∷ put x ys))) ≤ length
          (filter test (y ∷ ys))
      by_order rest Less = length-missed test (test x) x (filter test (y ∷ ys)) missed
      by_order rest Equal = omega
          (arith, length-missed test (test x) x (filter test ys) missed, (length-cond (test y) y (filter test ys)).0)
      by_order rest Greater = both_in_front test (test y) y (filter test (put x ys)) (filter test ys) rest

  missed_fold : (test : X → Bool) (xs sorted : List X) → AllByRecursion (λ x. test x ≡ false) xs
      → length (filter test (fold (λ ys x. put x ys) sorted xs)) ≤ length (filter test sorted)
  missed_fold test [] sorted missed = omega arith
  missed_fold test (x ∷ xs) sorted missed = omega (arith, missed_fold test xs (put x sorted) missed.1, missed_put test x sorted missed.0)

  -- elements that are put in add at most their number to those that pass a test
  passing_fold : (test : X → Bool) (xs sorted : List X)
      → length (filter test (fold (λ ys x. put x ys) sorted xs)) ≤ length (filter test sorted) + length xs
  passing_fold test [] sorted = omega arith
  passing_fold test (x ∷ xs) sorted = omega (arith, passing_fold test xs (put x sorted), passing_put is test x sorted)

  -- and to all
  length-fold : (xs sorted : List X) → length (fold (λ ys x. put x ys) sorted xs) ≤ length sorted + length xs
  length-fold [] sorted = omega arith
  length-fold (x ∷ xs) sorted = omega (arith, length-fold xs (put x sorted), length-put is x sorted)

-- the lists of a table have no more changes than its logs
pub listed_fewer : (table : TableState) (logs : Logs) → Replays table logs
    → (length table.active ≤ length logs.active) × (length table.flush ≤ length logs.flushing)
listed_fewer table logs is = (
  omega (arith, ap (λ (l : List Change). length l) is.active, length-fold changes_put logs.active []),
  omega (
    arith,
    ap (λ (l : List Change). length l) is.flush,
    length-filter-le (λ change. is_left table.checkpoint (last_changes logs.active) (key_in change)) (last_changes logs.flushing),
    length-fold changes_put logs.flushing [],
  ),
)

-- ---- The table that is read

not_once : (count : ℕ) → 1 < count → (count == 1) ≡ false
not_once count more = grind (arith, nat_tests)

not_more : (count : ℕ) → count ≡ 1 → nat_lt 1 count ≡ false
not_more count once = grind (arith, nat_tests)

fewer_pages : (n m : ℕ) → n ≤ m → pages_for n ≤ pages_for m
fewer_pages n m fewer = omega arith

module _ (seal : Seal) (flat : Flat) (whole : HoldTogether seal flat) where
  fewer_unique : length (unique_in (table_in seal flat).zap) ≤ length flat.unique
  fewer_unique =
      omega (
        arith,
        missed_fold entries_put (λ entry. entry.home.count == 1) flat.duplicate flat.unique
            (all_from (λ entry. 1 < entry.home.count) (λ entry. (entry.home.count == 1) ≡ false)
            (λ entry. not_once entry.home.count) flat.duplicate whole.counted_more),
        length-filter-le (λ entry. entry.home.count == 1) flat.unique,
      )

  fewer_duplicate : length (duplicate_in (table_in seal flat).zap) ≤ length flat.duplicate
  fewer_duplicate =
      omega (
        arith,
        passing_fold entries_put (λ entry. nat_lt 1 entry.home.count) flat.duplicate flat.unique,
        none_passing (λ entry. nat_lt 1 entry.home.count) flat.unique
            (all_from (λ entry. entry.home.count ≡ 1) (λ entry. nat_lt 1 entry.home.count ≡ false)
            (λ entry. not_more entry.home.count) flat.unique whole.counted_once),
      )

  -- the two classes of the table and its logs take no more pages than those that were read
  pub table_in_pages : table_pages (record { table = table_in seal flat; logs = logs_in flat }) ≤ pages_for (length flat.unique) + pages_for (length flat.duplicate) + pages_for
      (length flat.active) + pages_for (length flat.flushing)
  table_in_pages =
      four_sums _ _ (pages_for (length flat.active)) (pages_for (length flat.flushing)) _ _
      (fewer_pages _ (length flat.unique) fewer_unique) (fewer_pages _ (length flat.duplicate) fewer_duplicate)
    where
      four_sums : (u d a f u' d' : ℕ) → u ≤ u' → d ≤ d' → u + d + a + f ≤ u' + d' + a + f
      four_sums u d a f u' d' eu ed = omega arith

  -- the slots and the table take no more pages than the image names
  pub pages_within_named : (image : Image) → IsRead image seal flat
      → pages_for (length flat.slots) + table_pages (record { table = table_in seal flat; logs = logs_in flat }) ≤ length flat.named
  pages_within_named image read = in_all _ _ _ _ table_in_pages (pages_named image seal flat read)
    where
      in_all : (slots table lists named : ℕ) → table ≤ lists → named ≡ slots + lists → slots + table ≤ named
      in_all slots table lists named within all = omega arith
