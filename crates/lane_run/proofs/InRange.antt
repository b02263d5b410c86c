-- What a group leaves is in its ranges, whatever the disk tells, and no home counts more pointers than there are slots.
use Rattle.std.proofs.Common.{◌≡◌, ℕ, ◌+◌, ◌≤◌, ◌==◌, ◌&&◌, Bool, true, false, cond, List, [], ◌∷◌, fold, length, Some, None, Option, refl}
use Rattle.std.proofs.Common.{sym, ap, subst, arith}
use Rattle.std.specs.Prelude.{if◌then◌else◌}
use Rattle.std.specs.List.{AllByRecursion, filter_map, cons_option}
use Rattle.std.specs.Ordering.{is_eq, is_lt}
use Rattle.ddt_entry.specs.Keys.{key_cmp, key_eq}
use Rattle.ddt_entry.specs.Changes.{key_in}
use Rattle.ddt_entry.specs.Spelling.{IsKeyLength}
use Rattle.ddt_entry.specs.declared.key.Key.{Key}
use Rattle.ddt_entry.specs.declared.entry.Home.{Home}
use Rattle.ddt_entry.specs.declared.entry.Change.{Change}
use Rattle.ddt_entry.specs.declared.entry.Change.TheVariants as changes
use Rattle.pool_model.specs.Pool.{with_key}
use Rattle.pool_model.specs.Table.{AreChangesRising, found, found_over, change_at, home_in, sync_table}
use Rattle.pool_model.specs.Group.{emptied, settled, home_eq, change_from}
use Rattle.pool_model.specs.Homes.{GivesOwnChanges, found_with}
use Rattle.pool_model.proofs.Lists.{all_from}
use Rattle.pool_model.proofs.Named.{named_rising}
use Rattle.pool_model.proofs.Synced.{found-synced, there_stays}
use Rattle.table_state.specs.Closing.{IsInRange}
use Rattle.table_state.specs.Flat.{IsChangeWithin}
use Rattle.table_state.specs.Pools.{Held}
use Rattle.table_state.specs.Sound.{IsSound}
use Rattle.lane_run.specs.Live.{Live, home_here, change_here, changes_here, group_here}
use Rattle.lane_run.proofs.Ranges.{IsRanged, IsCounted, slots_now, slots_bound, table_counted, home_counted}
use Rattle.lane_run.proofs.Stored.{found_has}
use Rattle.table_state.specs.Tables.{HasLength}

-- ---- The change of a key

-- a change sets a home of which this holds
abbrev Sets : (Home → Type 0) → Change → Type 0
Sets P (changes.Entry entry) = P entry.home
Sets P (changes.Gone key) = ⊥

-- a change of a key is of that key
pub own_from : (key : Key) (before now : Option Home) (change : Change) → change_from key before now ≡ Some change → key_in change ≡ key
own_from key before None change is = absurd (cc is)
own_from key None (Some home) change is = ap key_or (sym is)
  where
    key_or : Option Change → Key
    key_or None = key
    key_or (Some c) = key_in c
own_from key (Some was) (Some home) change is = by_test (home_eq was home) is
  where
    key_or : Option Change → Key
    key_or None = key
    key_or (Some c) = key_in c

    by_test : (b : Bool) → cond b None (Some (changes.Entry (record { key = key; home = home }))) ≡ Some change → key_in change ≡ key
    by_test true gives = absurd (cc gives)
    by_test false gives = ap key_or (sym gives)

-- it sets the home that the key has now
sets_now : (P : Home → Type 0) (key : Key) (before now : Option Home) (change : Change) → ((home : Home) → now ≡ Some home → P home)
    → change_from key before now ≡ Some change → Sets P change
sets_now P key before None change each is = absurd (cc is)
sets_now P key None (Some home) change each is = one is
  where
    one : Some (changes.Entry (record { key = key; home = home })) ≡ Some change → Sets P change
    one same = let equal : changes.Entry (record { key = key; home = home }) ≡ change = cc same in subst (Sets P) equal (each home refl)
sets_now P key (Some was) (Some home) change each is = by_test (home_eq was home) is
  where
    by_test : (b : Bool) → cond b None (Some (changes.Entry (record { key = key; home = home }))) ≡ Some change → Sets P change
    by_test true gives = absurd (cc gives)
    by_test false gives =
        let equal : changes.Entry (record { key = key; home = home }) ≡ change = cc gives in
        subst (Sets P) equal (each home refl)

-- what holds of the homes before and now holds of what a group leaves of the key, where it holds without pointers too
settled_has : (P : Home → Type 0) (number : ℕ) (before now : Option Home) (home : Home) → ((h : Home) → P h → P (record h { count = 0 }))
    → ((h : Home) → before ≡ Some h → P h) → ((h : Home) → now ≡ Some h → P h) → settled number before now ≡ Some home → P home
settled_has P number before None home empty was is gives = was home gives
settled_has P number before (Some now) home empty was is gives = by_test ((now.count == 0) && (now.birth == number)) gives
  where
    by_before : (o : Option Home) → ((h : Home) → o ≡ Some h → P h) → emptied o ≡ Some home → P home
    by_before None each same = absurd (cc same)
    by_before (Some h) each same = let equal : record h { count = 0 } ≡ home = cc same in subst P equal (empty h (each h refl))

    by_test : (b : Bool) → (if b then emptied before else Some now) ≡ Some home → P home
    by_test true same = by_before before was same
    by_test false same = is home same

-- ---- All changes

-- what a function gives each of a list's elements
all_given : {X Y : Type 0} (Q : X → Type 0) (P : Y → Type 0) (f : X → Option Y) (xs : List X) → ((x : X) (y : Y) → Q x → f x ≡ Some y → P y)
    → AllByRecursion Q xs → AllByRecursion P (filter_map f xs)
all_given Q P f [] each all = tt
all_given {X} {Y} Q P f (x ∷ xs) each all = by_item (f x) refl (all_given Q P f xs each all.1)
  where
    by_item : (o : Option Y) → f x ≡ o → AllByRecursion P (filter_map f xs) → AllByRecursion P (cons_option o (filter_map f xs))
    by_item None is rest = rest
    by_item (Some y) is rest = (each x y all.0 is, rest)

module _ (P : Key → Type 0) where
  all_with : (key : Key) (keys : List Key) → P key → AllByRecursion P keys → AllByRecursion P (with_key key keys)
  all_with key [] here all = (here, tt)
  all_with key (k ∷ ks) here all = by_order (is_lt (key_cmp key k)) (is_eq (key_cmp key k)) (all_with key ks here all.1)
    where
      by_order : (less same : Bool) → AllByRecursion P (with_key key ks)
          → AllByRecursion P (if less then key ∷ k ∷ ks else (if same then k ∷ ks else k ∷ with_key key ks))
      by_order true same rest = (here, all)
      by_order false true rest = all
      by_order false false rest = (all.0, rest)

  -- what holds of each key that was named holds of each in their sorted list
  all_sorted : (named keys : List Key) → AllByRecursion P named → AllByRecursion P keys
      → AllByRecursion P (fold (λ ks key. with_key key ks) keys named)
  all_sorted [] keys each all = all
  all_sorted (key ∷ named) keys each all = all_sorted named (with_key key keys) each.1 (all_with key keys each.0 all)

module _ (held : Held) (places : List ℕ) (start i : ℕ) (live : Live) (sound : IsSound held)
    (ranged : IsRanged held places start i live) where
  abbrev most : ℕ
  most = length (slots_now held live)

  abbrev Counted : Home → Type 0
  Counted home = IsCounted held.sectors (held.group + 1) most home

  few : most ≤ 1048576
  few = slots_bound held places start i live sound ranged.brought

  own : GivesOwnChanges (change_here held live)
  own key change is =
      own_from key (found held.table key) (settled (held.group + 1) (found held.table key) (home_here held.table live.homes key)) change is

  rising : AreChangesRising (changes_here held live)
  rising = named_rising (change_here held live) own live.named

  change_counted : (key : Key) (change : Change) → change_here held live key ≡ Some change → Sets Counted change
  change_counted key change is =
      sets_now Counted key (found held.table key)
      (settled (held.group + 1) (found held.table key) (home_here held.table live.homes key)) change
      (λ home left. settled_has Counted (held.group + 1) (found held.table key) (home_here held.table live.homes key) home
      (λ h was. record { start = was.start; end = was.end; born = was.born; birth = was.birth; since = was.since; count = omega arith })
      (λ h before. table_counted held most sound ranged.brought.slots_more key h before)
      (λ h now. home_counted held places start i live sound ranged.brought key h now) left) is

  abbrev Fits : Change → Type 0
  Fits change = Sets Counted change × HasLength change

  all_fit : AllByRecursion Fits (changes_here held live)
  all_fit =
      all_given (λ (key : Key). IsKeyLength key.len) Fits (change_here held live) (fold (λ ks key. with_key key ks) [] live.named)
      (λ key change long is. (change_counted key change is, subst (λ (k : Key). IsKeyLength k.len) (sym (own key change is)) long))
      (all_sorted (λ key. IsKeyLength key.len) live.named [] ranged.named tt)

  within_one : (change : Change) → Sets Counted change → IsChangeWithin held.sectors (held.group + 1) change
  within_one (changes.Entry entry) has = record {
    place = has.start;
    on_disk = has.end;
    born = has.born;
    birth = has.birth;
    since = has.since;
    count = omega (arith, has.count, few);
  }
  within_one (changes.Gone key) has = absurd has

  counts_one : (change : Change) (home : Home) → Sets Counted change → home_in change ≡ Some home → home.count ≤ most
  counts_one (changes.Entry entry) home has is = let same : entry.home ≡ home = cc is in subst (λ (h : Home). h.count ≤ most) same has.count
  counts_one (changes.Gone key) home has is = absurd has

  -- a home that is found with the group's changes
  counts_with : (key : Key) (home : Home) → found_with (changes_here held live) held.table key ≡ Some home → home.count ≤ most
  counts_with key home is = by_change (change_at key (changes_here held live)) refl is
    where
      by_change : (o : Option Change) → change_at key (changes_here held live) ≡ o → found_over (found held.table key) o ≡ Some home
          → home.count ≤ most
      by_change None there gives = omega (arith, sound.counts key home gives, ranged.brought.slots_more)
      by_change (Some change) there gives =
          counts_one change home
          (found_has Fits (λ (c : Change). key_eq (key_in c) key) (changes_here held live) change there all_fit).0 gives

  pub in_range : IsInRange held (group_here held live)
  in_range = record {
    changes =
        all_from Fits (IsChangeWithin held.sectors (held.group + 1)) (λ change fits. within_one change fits.0)
        (changes_here held live) all_fit;
    lengths = all_from Fits HasLength (λ change fits. fits.1) (changes_here held live) all_fit;
    slots = ranged.brought.slots_within;
    counts = λ key home is.
        counts_with key home
        (there_stays (found_with (changes_here held live) held.table key) (found (sync_table (changes_here held live) held.table) key) home
        (found-synced (changes_here held live) held.table key sound.sorted rising) is);
    behind = ranged.brought.behind;
    on_disk = ranged.brought.on_disk;
    blocks = ranged.brought.blocks;
  }
