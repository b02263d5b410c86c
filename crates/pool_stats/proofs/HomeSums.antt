-- What a change makes of the sums over the counted homes: its key's share goes, and the one of its new count comes.
use Rattle.std.proofs.Common.{◌≡◌, ℕ, ◌+◌, ◌*◌, Bool, true, false, cond, not, List, [], ◌∷◌, ◌++◌, find, map, Option, Some, None, sum_by, zero, refl, sym, ap, ◌∙◌, arith}
use Rattle.std.proofs.lemmas.List.Sums.{sum_by-cons, sum_by_push}
use Rattle.std.specs.Prelude.{nat_lt, if◌then◌else◌}
use Rattle.std.specs.List.{AllByRecursion, range_with_len}
use Rattle.std.proofs.lemmas.Bool.Decides.{nat_tests}
use Rattle.std.specs.Option.{option_map}
use Rattle.std.specs.Ordering.{is_eq, is_lt}
use Rattle.std.specs.declared.cmp.Ordering.{Ordering}
use Rattle.std.specs.declared.cmp.Ordering.TheVariants.{Less, Equal, Greater}
use Rattle.ddt_entry.specs.Keys.{key_cmp, key_eq}
use Rattle.ddt_entry.specs.Changes.{key_in}
use Rattle.ddt_entry.specs.declared.key.Key.{Key}
use Rattle.ddt_entry.specs.declared.entry.Home.{Home}
use Rattle.ddt_entry.specs.declared.entry.Entry.{Entry}
use Rattle.ddt_entry.specs.declared.entry.Change.{Change}
use Rattle.ddt_entry.specs.declared.entry.Change.TheVariants as changes
use Rattle.ddt_entry.proofs.KeyLaws.{exact_keys, key_eq-true, key_eq-same, is_eq-key_cmp}
use Rattle.pool_model.specs.Stats.{is_in_bucket}
use Rattle.pool_model.specs.Table.{TableState, IsTable, found, counted_homes, log_change, home_in, entry_at, set_entry, drop_entry, flush_entry, counted, AreRising}
use Rattle.pool_model.proofs.Lists.{all_from}
use Rattle.pool_model.proofs.TablePuts.{entries_put}
use Rattle.pool_model.proofs.Lookups.{at-above}
use Rattle.pool_model.proofs.Finding.{keys_same}
use Rattle.pool_model.proofs.Counted.{below_than, counted_at, rising_counted, counted-log_change}
use Rattle.pool_stats.specs.Totals.{wrapped, one_of, key_sum, totals_in, moved, sum_moved, totals_moved, count_in}

abbrev EntryBelow : Entry → Entry → Type 0
EntryBelow a b = is_lt (key_cmp a.key b.key) ≡ true

abbrev count_at : Key → List Entry → ℕ
count_at key homes = count_in (entry_at key homes)

none_above : (key : Key) (x : Entry) (xs : List Entry) → key_eq x.key key ≡ true → AllByRecursion (EntryBelow x) xs → count_at key xs ≡ 0
none_above key x xs here above =
    ap (λ o. count_in (option_map (λ (e : Entry). e.home) o)) (at-above keys_same entries_put key x xs here above)

-- ---- A sum over keys with their counts, where a key that isn't counted has no share

module _ (share : (len count : ℕ) → ℕ) (none : (len : ℕ) → share len 0 ≡ 0) where
  abbrev pub total : List Entry → ℕ
  total homes = sum_by (λ e. share e.key.len e.home.count) homes

  total-cons : (e : Entry) (es : List Entry) → total (e ∷ es) ≡ share e.key.len e.home.count + total es
  total-cons e es = sum_by-cons (λ (x : Entry). share x.key.len x.home.count) e es

  dropped : (key : Key) (homes : List Entry) → AreRising homes
      → total (drop_entry key homes) + share key.len (count_at key homes) ≡ total homes
  dropped key [] rising = omega (arith, none key.len)
  dropped key (e ∷ es) rising = by_test (dropped key es rising.1) (key_eq e.key key) refl
    where
      by_test : total (drop_entry key es) + share key.len (count_at key es) ≡ total es → (b : Bool) → key_eq e.key key ≡ b
          → total (cond (not b) (e ∷ drop_entry key es) (drop_entry key es))
          + share key.len (count_in (option_map (λ (x : Entry). x.home) (cond b (Some e) (find (λ (x : Entry). key_eq x.key key) es))))
          ≡ total (e ∷ es)
      by_test rest true here =
          let gone : share key.len (count_at key es) ≡ 0 = ap (share key.len) (none_above key e es here rising.0) ∙ none key.len in
          let same : share key.len e.home.count ≡ share e.key.len e.home.count =
          ap (λ (k : Key). share k.len e.home.count) (sym (key_eq-true e.key key here)) in
          omega (arith, rest, gone, same, total-cons e es)
      by_test rest false here = omega (arith, rest, total-cons e es, total-cons e (drop_entry key es))

  put : (entry : Entry) (homes : List Entry) → AreRising homes
      → total (set_entry entry homes) + share entry.key.len (count_at entry.key homes) ≡ total homes + share entry.key.len entry.home.count
  put entry [] rising = omega (arith, none entry.key.len, total-cons entry [])
  put entry (e ∷ es) rising = by_order (put entry es rising.1) (key_cmp entry.key e.key) refl (key_eq e.key entry.key) refl
    where
      found_by : Bool → ℕ
      found_by b = count_in (option_map (λ (x : Entry). x.home) (cond b (Some e) (find (λ (x : Entry). key_eq x.key entry.key) es)))

      first : ℕ
      first = share entry.key.len entry.home.count

      by_order : total (set_entry entry es) + share entry.key.len (count_at entry.key es) ≡ total es + first
          → (o : Ordering) → key_cmp entry.key e.key ≡ o → (b : Bool) → key_eq e.key entry.key ≡ b
          → total (if is_lt o then entry ∷ e ∷ es else (if is_eq o then entry ∷ es else e ∷ set_entry entry es))
          + share entry.key.len (found_by b) ≡ total (e ∷ es) + first
      by_order rest Less said b there =
          let above : AllByRecursion (EntryBelow entry) (e ∷ es) =
          (ap is_lt said, all_from (EntryBelow e) (EntryBelow entry) (λ z later. below_than entry e z (ap is_lt said) later) es rising.0) in
          let gone : share entry.key.len (found_by b) ≡ 0 =
          ap (λ d. share entry.key.len (found_by d)) (sym there)
          ∙ ap (share entry.key.len) (none_above entry.key entry (e ∷ es) (key_eq-same entry.key) above) ∙ none entry.key.len in
          omega (arith, gone, total-cons entry (e ∷ es))
      by_order rest Equal said b there =
          let keys : entry.key ≡ e.key = exact_keys entry.key e.key said in
          let here : b ≡ true = sym there ∙ ap (λ k. key_eq k entry.key) (sym keys) ∙ key_eq-same entry.key in
          let gone : share entry.key.len (found_by b) ≡ share e.key.len e.home.count =
          ap (λ d. share entry.key.len (found_by d)) here ∙ ap (λ (k : Key). share k.len e.home.count) keys in
          omega (arith, gone, total-cons entry es, total-cons e es)
      by_order rest Greater said b there =
          let apart : b ≡ false =
          sym there ∙ keys_same.back e.key entry.key ∙ sym (is_eq-key_cmp entry.key e.key) ∙ ap is_eq said in
          let gone : share entry.key.len (found_by b) ≡ share entry.key.len (count_at entry.key es) =
          ap (λ d. share entry.key.len (found_by d)) apart in
          omega (arith, rest, gone, total-cons e es, total-cons e (set_entry entry es))

  -- a change that comes to the counted homes
  pub changed : (homes : List Entry) (change : Change) → AreRising homes
      → total (flush_entry homes change) + share (key_in change).len (count_at (key_in change) homes)
      ≡ total homes + share (key_in change).len (count_in (counted (home_in change)))
  changed homes (changes.Gone key) rising = omega (arith, dropped key homes rising, none key.len)
  changed homes (changes.Entry entry) rising = by_count (nat_lt 0 entry.home.count)
    where
      by_count : (b : Bool) → total (if b then set_entry entry homes else drop_entry entry.key homes)
          + share entry.key.len (count_at entry.key homes)
          ≡ total homes + share entry.key.len (count_in (if b then Some entry.home else None))
      by_count true = put entry homes rising
      by_count false = omega (arith, dropped entry.key homes rising, none entry.key.len)

-- ---- Modulo 2^64

-- a sum without one share and with another, as it is kept
pub moved_by : (sum gone come next : ℕ) → next + gone ≡ sum + come
    → wrapped next ≡ moved (wrapped sum) (wrapped gone) (wrapped come)
moved_by sum gone come next same = omega (arith, same)

-- ---- All sums

one_small : (count : ℕ) → wrapped (one_of count) ≡ one_of count
one_small count = by_test (nat_lt 0 count)
  where
    by_test : (b : Bool) → wrapped (if b then 1 else 0) ≡ (if b then 1 else 0)
    by_test true = refl
    by_test false = refl

module _ (passes : ℕ → Bool) where
  abbrev seen : ℕ → ℕ
  seen count = if passes count then count else 0

  seen_none : seen 0 ≡ 0
  seen_none = by_test (passes 0)
    where
      by_test : (b : Bool) → cond b zero zero ≡ zero
      by_test true = refl
      by_test false = refl

  sum_changed : (homes : List Entry) (change : Change) → AreRising homes
      → key_sum seen (flush_entry homes change)
      ≡ sum_moved (key_in change).len (seen (count_at (key_in change) homes)) (seen (count_in (counted (home_in change))))
      (key_sum seen homes)
  sum_changed homes change rising = λ i. record { keys = keys i; allocated = once i; referenced = whole i }
    where
      len : ℕ
      len = (key_in change).len

      one_share : (l count : ℕ) → ℕ
      one_share l count = one_of (seen count)

      once_share : (l count : ℕ) → ℕ
      once_share l count = one_of (seen count) * l

      whole_share : (l count : ℕ) → ℕ
      whole_share l count = seen count * l

      once_none : (l : ℕ) → once_share l 0 ≡ 0
      once_none l = ap (λ n. one_of n * l) seen_none ∙ omega arith

      whole_none : (l : ℕ) → whole_share l 0 ≡ 0
      whole_none l = ap (λ n. n * l) seen_none ∙ omega arith

      before : ℕ
      before = seen (count_at (key_in change) homes)

      now : ℕ
      now = seen (count_in (counted (home_in change)))

      keys : wrapped (total one_share (λ l. ap one_of seen_none) (flush_entry homes change))
          ≡ moved (key_sum seen homes).keys (one_of before) (one_of now)
      keys =
          moved_by (total one_share (λ l. ap one_of seen_none) homes) (one_of before) (one_of now)
          (total one_share (λ l. ap one_of seen_none) (flush_entry homes change))
          (changed one_share (λ l. ap one_of seen_none) homes change rising)
          ∙ ap (λ n. moved (key_sum seen homes).keys n (wrapped (one_of now))) (one_small before)
          ∙ ap (moved (key_sum seen homes).keys (one_of before)) (one_small now)

      once : (key_sum seen (flush_entry homes change)).allocated
          ≡ moved (key_sum seen homes).allocated (wrapped (one_of before * len)) (wrapped (one_of now * len))
      once =
          moved_by (total once_share once_none homes) (one_of before * len) (one_of now * len)
          (total once_share once_none (flush_entry homes change))
          (changed once_share once_none homes change rising)

      whole : (key_sum seen (flush_entry homes change)).referenced
          ≡ moved (key_sum seen homes).referenced (wrapped (before * len)) (wrapped (now * len))
      whole =
          moved_by (total whole_share whole_none homes) (before * len) (now * len)
          (total whole_share whole_none (flush_entry homes change))
          (changed whole_share whole_none homes change rising)

abbrev everyone : ℕ → Bool
everyone count = true

refs_changed : (homes : List Entry) (change : Change) → AreRising homes
    → (totals_in (flush_entry homes change)).refs
    ≡ moved (totals_in homes).refs (wrapped (count_at (key_in change) homes)) (wrapped (count_in (counted (home_in change))))
refs_changed homes change rising =
    moved_by (total (λ len count. count) (λ l. refl) homes) (count_at (key_in change) homes) (count_in (counted (home_in change)))
    (total (λ len count. count) (λ l. refl) (flush_entry homes change)) (changed (λ len count. count) (λ l. refl) homes change rising)

totals_changed : (homes : List Entry) (change : Change) → AreRising homes
    → totals_in (flush_entry homes change)
    ≡ totals_moved (key_in change).len (count_at (key_in change) homes) (count_in (counted (home_in change))) (totals_in homes)
totals_changed homes change rising = λ i. record {
  all = sum_changed everyone homes change rising i;
  refs = refs_changed homes change rising i;
  buckets = map (λ b. sum_changed (is_in_bucket b) homes change rising i) (range_with_len 0 21);
}

-- a home that isn't counted has no pointers
count_counted : (o : Option Home) → count_in (counted o) ≡ count_in o
count_counted None = refl
count_counted (Some home) = by_test (nat_lt 0 home.count) refl
  where
    by_test : (b : Bool) → nat_lt 0 home.count ≡ b → count_in (if b then Some home else None) ≡ home.count
    by_test true some = refl
    by_test false none = grind (arith, nat_tests)

-- what a change that is logged makes of the sums over the counted homes
pub totals_logged : (table : TableState) (change : Change) → IsTable table
    → totals_in (counted_homes (log_change table change))
    ≡ totals_moved (key_in change).len (count_in (found table (key_in change))) (count_in (home_in change))
    (totals_in (counted_homes table))
totals_logged table change is =
    ap totals_in (counted-log_change table change is)
    ∙ totals_changed (counted_homes table) change (rising_counted table is)
    ∙ ap (λ n. totals_moved (key_in change).len n (count_in (counted (home_in change))) (totals_in (counted_homes table)))
    (ap count_in (counted_at table (key_in change) is) ∙ count_counted (found table (key_in change)))
    ∙ ap (λ n. totals_moved (key_in change).len (count_in (found table (key_in change))) n (totals_in (counted_homes table)))
    (count_counted (home_in change))

-- ---- One home more

module _ (passes : ℕ → Bool) where
  sum_pushed : (homes : List Entry) (e : Entry)
      → key_sum (seen passes) (homes ++ e ∷ [])
      ≡ sum_moved e.key.len (seen passes 0) (seen passes e.home.count) (key_sum (seen passes) homes)
  sum_pushed homes e = λ i. record { keys = keys i; allocated = once i; referenced = whole i }
    where
      at : (share : Entry → ℕ) (gone : ℕ) → gone ≡ 0
          → wrapped (sum_by share (homes ++ e ∷ [])) ≡ moved (wrapped (sum_by share homes)) (wrapped gone) (wrapped (share e))
      at share gone none =
          moved_by (sum_by share homes) gone (share e) (sum_by share (homes ++ e ∷ [])) (omega (arith, none, sum_by_push share homes e))

      none_of : one_of (seen passes 0) ≡ 0
      none_of = ap one_of (seen_none passes)

      keys : (key_sum (seen passes) (homes ++ e ∷ [])).keys
          ≡ moved (key_sum (seen passes) homes).keys (one_of (seen passes 0)) (one_of (seen passes e.home.count))
      keys =
          at (λ x. one_of (seen passes x.home.count)) (one_of (seen passes 0)) none_of
          ∙ ap (λ n. moved (key_sum (seen passes) homes).keys n (wrapped (one_of (seen passes e.home.count)))) (one_small (seen passes 0))
          ∙ ap (moved (key_sum (seen passes) homes).keys (one_of (seen passes 0))) (one_small (seen passes e.home.count))

      once : (key_sum (seen passes) (homes ++ e ∷ [])).allocated
          ≡ moved (key_sum (seen passes) homes).allocated (wrapped (one_of (seen passes 0) * e.key.len))
          (wrapped (one_of (seen passes e.home.count) * e.key.len))
      once =
          at (λ x. one_of (seen passes x.home.count) * x.key.len) (one_of (seen passes 0) * e.key.len)
          (ap (λ n. n * e.key.len) none_of ∙ omega arith)

      whole : (key_sum (seen passes) (homes ++ e ∷ [])).referenced
          ≡ moved (key_sum (seen passes) homes).referenced (wrapped (seen passes 0 * e.key.len))
          (wrapped (seen passes e.home.count * e.key.len))
      whole =
          at (λ x. seen passes x.home.count * x.key.len) (seen passes 0 * e.key.len)
          (ap (λ n. n * e.key.len) (seen_none passes) ∙ omega arith)

pub totals_pushed : (homes : List Entry) (e : Entry)
    → totals_in (homes ++ e ∷ []) ≡ totals_moved e.key.len 0 e.home.count (totals_in homes)
totals_pushed homes e = λ i. record {
  all = sum_pushed everyone homes e i;
  refs = moved_by (sum_by (λ (x : Entry). x.home.count) homes) 0 e.home.count (sum_by (λ (x : Entry). x.home.count) (homes ++ e ∷ []))
      (omega (arith, sum_by_push (λ (x : Entry). x.home.count) homes e)) i;
  buckets = map (λ b. sum_pushed (is_in_bucket b) homes e i) (range_with_len 0 21);
}
