-- The two classes of a stored table stay its classes when a home is put or taken out.
use Rattle.std.proofs.Common.{◌≡◌, ℕ, ◌+◌, ◌-◌, ◌^◌, ◌<◌, ◌≤◌, Bool, true, false, not, ◌==◌, List, length, Option, refl, sym, ap, subst, ◌∙◌, arith}
use Rattle.std.specs.Prelude.{nat_lt}
use Rattle.std.specs.List.{AllByRecursion}
use Rattle.std.specs.Option.{option_or}
use Rattle.std.proofs.lemmas.Bool.Decides.{nat_tests}
use Rattle.ddt_entry.specs.Keys.{key_eq}
use Rattle.ddt_entry.specs.declared.key.Key.{Key}
use Rattle.ddt_entry.specs.declared.entry.Home.{Home}
use Rattle.ddt_entry.specs.declared.entry.Entry.{Entry}
use Rattle.pool_model.specs.Table.{AreRising, entry_at, set_entry, drop_entry}
use Rattle.pool_model.proofs.Lists.{all_from, all_filter, pairs_filter}
use Rattle.pool_model.proofs.Sorted.{all_put, rising_put}
use Rattle.pool_model.proofs.TablePuts.{entries_put}
use Rattle.ddt_class.specs.Classes.{is_unique, is_duplicate, unique_in, duplicate_in, count_of, merged, put_in, home_before, IsStored, IsClassed}
use Rattle.plain_table.proofs.HomeLists.{Below}
use Rattle.ddt_class.proofs.Splits.{merged-split, length-split, at-split, filter_set, filter_unset, filter_swaps}
use Rattle.ddt_class.proofs.Totals.{counts-set, counts-drop, counts-bound}

-- a home that is counted is in one class alone
one_class : (count : ℕ) → 0 < count → nat_lt 1 count ≡ not (count == 1)
one_class count counted = grind (arith, nat_tests)

other_class : (count : ℕ) → 0 < count → (count == 1) ≡ not (nat_lt 1 count)
other_class count counted = grind (arith, nat_tests)

in_one : (zap : List Entry) → AllByRecursion IsStored zap → AllByRecursion (λ e. is_duplicate e ≡ not (is_unique e)) zap
in_one zap stored = all_from IsStored (λ e. is_duplicate e ≡ not (is_unique e)) (λ e is. one_class e.home.count is.counted) zap stored

in_other : (zap : List Entry) → AllByRecursion IsStored zap → AllByRecursion (λ e. is_unique e ≡ not (is_duplicate e)) zap
in_other zap stored = all_from IsStored (λ e. is_unique e ≡ not (is_duplicate e)) (λ e is. other_class e.home.count is.counted) zap stored

-- ---- The classes of a table in which a home is set, or a key dropped

pub unique_in-set : (entry : Entry) (zap : List Entry) → AreRising zap
    → unique_in (set_entry entry zap) ≡ put_in (is_unique entry) entry (unique_in zap)
unique_in-set entry zap rising = by_test (is_unique entry) refl
  where
    by_test : (b : Bool) → is_unique entry ≡ b → unique_in (set_entry entry zap) ≡ put_in b entry (unique_in zap)
    by_test true said = filter_set is_unique entry zap said rising
    by_test false said = filter_unset is_unique entry zap said rising

pub duplicate_in-set : (entry : Entry) (zap : List Entry) → 0 < entry.home.count → AreRising zap
    → duplicate_in (set_entry entry zap) ≡ put_in (not (is_unique entry)) entry (duplicate_in zap)
duplicate_in-set entry zap counted rising = by_test (not (is_unique entry)) (one_class entry.home.count counted)
  where
    by_test : (b : Bool) → is_duplicate entry ≡ b → duplicate_in (set_entry entry zap) ≡ put_in b entry (duplicate_in zap)
    by_test true said = filter_set is_duplicate entry zap said rising
    by_test false said = filter_unset is_duplicate entry zap said rising

pub unique_in-drop : (key : Key) (zap : List Entry) → unique_in (drop_entry key zap) ≡ drop_entry key (unique_in zap)
unique_in-drop key zap = filter_swaps is_unique (λ e. not (key_eq e.key key)) zap

pub duplicate_in-drop : (key : Key) (zap : List Entry) → duplicate_in (drop_entry key zap) ≡ drop_entry key (duplicate_in zap)
duplicate_in-drop key zap = filter_swaps is_duplicate (λ e. not (key_eq e.key key)) zap

-- a home was put into the classes: what they are then, what it counted before, and what it counts
pub record IsPutIn (unique duplicate : List Entry) (entry : Entry) (own other : List Entry) (old new : ℕ) : Type 0 where
  pub unique_is : own ≡ put_in (entry.home.count == 1) entry unique
  pub duplicate_is : other ≡ put_in (not (entry.home.count == 1)) entry duplicate
  pub old_is : old ≡ count_of (home_before (entry.home.count == 1) (entry_at entry.key unique) (entry_at entry.key duplicate))
  pub new_is : new ≡ entry.home.count

-- a key was taken out of them, and this is what its home counted
pub record IsOut (unique duplicate : List Entry) (key : Key) (own other : List Entry) (old : ℕ) : Type 0 where
  pub unique_is : own ≡ drop_entry key unique
  pub duplicate_is : other ≡ drop_entry key duplicate
  pub old_is : old ≡ count_of (option_or (entry_at key unique) (entry_at key duplicate))

-- of two homes that are looked up, the first that there is
pub or_found : {one other here there : Option Home} → one ≡ here → other ≡ there → option_or one other ≡ option_or here there
or_found {one} {other} {here} {there} first second = ap (λ (o : Option Home). option_or o other) first ∙ ap (option_or here) second

-- ---- What the classes of a table say

module _ (unique duplicate zap : List Entry) (counts : ℕ) (is : IsClassed unique duplicate zap counts) where
  pub classes_merged : merged unique duplicate ≡ zap
  classes_merged =
      ap (λ (es : List Entry). merged es duplicate) is.unique_are ∙ ap (merged (unique_in zap)) is.duplicate_are
      ∙ merged-split is_unique is_duplicate zap (in_one zap is.stored) is.rising

  pub classed_anew : IsClassed unique duplicate (merged unique duplicate) counts
  classed_anew = subst (λ (es : List Entry). IsClassed unique duplicate es counts) (sym classes_merged) is

  pub classes_length : length unique + length duplicate ≡ length zap
  classes_length =
      ap (λ (es : List Entry). length es + length duplicate) is.unique_are
      ∙ ap (λ (es : List Entry). length (unique_in zap) + length es) is.duplicate_are
      ∙ length-split is_unique is_duplicate zap (in_one zap is.stored)

  pub found_first : (key : Key) → option_or (entry_at key unique) (entry_at key duplicate) ≡ entry_at key zap
  found_first key =
      ap (λ (es : List Entry). option_or (entry_at key es) (entry_at key duplicate)) is.unique_are
      ∙ ap (λ (es : List Entry). option_or (entry_at key (unique_in zap)) (entry_at key es)) is.duplicate_are
      ∙ at-split key is_unique is_duplicate zap (in_one zap is.stored) is.rising

  pub found_last : (key : Key) → option_or (entry_at key duplicate) (entry_at key unique) ≡ entry_at key zap
  found_last key =
      ap (λ (es : List Entry). option_or (entry_at key duplicate) (entry_at key es)) is.unique_are
      ∙ ap (λ (es : List Entry). option_or (entry_at key es) (entry_at key (unique_in zap))) is.duplicate_are
      ∙ at-split key is_duplicate is_unique zap (in_other zap is.stored) is.rising

  pub found_before : (key : Key) (is_own : Bool) → home_before is_own (entry_at key unique) (entry_at key duplicate) ≡ entry_at key zap
  found_before key true = found_first key
  found_before key false = found_last key

  -- what the homes count together is far from 2^128 where there are so few
  pub counts_small : length unique < 2 ^ 63 → length duplicate < 2 ^ 63 → counts + 2 ^ 64 < 2 ^ 128
  counts_small few more = omega (arith, few, more, classes_length, is.counts_are, counts-bound zap is.stored)

  pub count_within : (key : Key) → count_of (entry_at key zap) ≤ counts
  count_within key = omega (arith, counts-drop key zap is.rising, is.counts_are)

  -- ---- What putting a home makes of them

  pub classed_put : (entry : Entry) → IsStored entry
      → IsClassed (put_in (entry.home.count == 1) entry unique) (put_in (not (entry.home.count == 1)) entry duplicate)
      (set_entry entry zap) (counts - count_of (entry_at entry.key zap) + entry.home.count)
  classed_put entry entry_is = record {
    unique_are = ap (put_in (is_unique entry) entry) is.unique_are ∙ sym (unique_in-set entry zap is.rising);
    duplicate_are =
        ap (put_in (not (is_unique entry)) entry) is.duplicate_are ∙ sym (duplicate_in-set entry zap entry_is.counted is.rising);
    rising = rising_put entries_put entry zap is.rising;
    stored = all_put entries_put IsStored entry zap entry_is is.stored;
    counts_are = omega (arith, counts-set entry zap is.rising, is.counts_are, count_within entry.key);
  }

  -- ---- What taking a key out makes of them

  pub classed_drop : (key : Key)
      → IsClassed (drop_entry key unique) (drop_entry key duplicate) (drop_entry key zap) (counts - count_of (entry_at key zap))
  classed_drop key = record {
    unique_are = ap (drop_entry key) is.unique_are ∙ sym (unique_in-drop key zap);
    duplicate_are = ap (drop_entry key) is.duplicate_are ∙ sym (duplicate_in-drop key zap);
    rising = pairs_filter Below (λ e. not (key_eq e.key key)) zap is.rising;
    stored = all_filter IsStored (λ e. not (key_eq e.key key)) zap is.stored;
    counts_are = omega (arith, counts-drop key zap is.rising, is.counts_are);
  }

  -- ---- After the calls that do so

  module _ (entry : Entry) (own other : List Entry) (old new : ℕ) (put : IsPutIn unique duplicate entry own other old new) where
    pub old_put : old ≡ count_of (entry_at entry.key zap)
    old_put = put.old_is ∙ ap count_of (found_before entry.key (entry.home.count == 1))

    pub was_put : IsStored entry → IsClassed own other (set_entry entry zap) (counts - old + new)
    was_put entry_is = rw (put.unique_is, put.duplicate_is, old_put, put.new_is) (classed_put entry entry_is)

    pub put_subtracts : old ≤ counts
    put_subtracts = omega (arith, old_put, count_within entry.key)

  module _ (key : Key) (own other : List Entry) (old : ℕ) (out : IsOut unique duplicate key own other old) where
    pub old_out : old ≡ count_of (entry_at key zap)
    old_out = out.old_is ∙ ap count_of (found_first key)

    pub was_out : IsClassed own other (drop_entry key zap) (counts - old)
    was_out = rw (out.unique_is, out.duplicate_is, old_out) (classed_drop key)

    pub out_subtracts : old ≤ counts
    out_subtracts = omega (arith, old_out, count_within key)
