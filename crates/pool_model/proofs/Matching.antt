-- A table matches a pool exactly where the homes that it finds do, and after a sync where the homes with the group's changes do.
use Rattle.std.proofs.Common.{◌≡◌, false, true, List, [], ◌∷◌, Option, Some, inl, inr, ⊎_elim, sym, ◌∙◌}
use Rattle.std.specs.List.{AllByRecursion}
use Rattle.std.specs.Ordering.{is_lt}
use Rattle.std.proofs.lemmas.Bool.{false≢true}
use Rattle.ddt_entry.specs.Keys.{key_cmp, key_eq}
use Rattle.ddt_entry.specs.declared.key.Key.{Key}
use Rattle.ddt_entry.specs.declared.entry.Home.{Home}
use Rattle.ddt_entry.specs.declared.entry.Entry.{Entry}
use Rattle.ddt_entry.specs.declared.entry.Change.{Change}
use Rattle.ddt_entry.proofs.KeyLaws.{key_eq-same}
use Rattle.pool_model.specs.Pool.{Pool, Pairwise, IsApart, run_length}
use Rattle.pool_model.specs.Table.{TableState, found, sync_table, waiting_in, Matches, IsApartFrom, AreRising, IsTable, AreChangesRising}
use Rattle.pool_model.proofs.Lists.{all_from, all_from_both}
use Rattle.pool_model.proofs.TablePuts.{apart_by_order}
use Rattle.pool_model.specs.Homes.{found_with, HomesMatch}
use Rattle.pool_model.proofs.Synced.{found-synced, counted_stays}
use Rattle.pool_model.proofs.Waiting.{entry_of, waiting_rising, waiting_has, waiting_synced}
use Rattle.pool_model.proofs.Syncing.{sync_keeps}

-- ---- Two of a list

-- a fact of each element and a relation of each two say another relation of each two
pairs_with : {X : Type 0} (P : X → Type 0) (R S : X → X → Type 0) → ((x y : X) → P x → P y → R x y → S x y) → (xs : List X)
    → AllByRecursion P xs → Pairwise R xs → Pairwise S xs
pairs_with P R S with [] all pairs = tt
pairs_with P R S with (x ∷ xs) all pairs = (
  all_from_both P (R x) (S x)
      (λ y holds related. with x y all.0 holds related) xs all.1 pairs.0,
  pairs_with P R S with xs all.1 pairs.1,
)

-- what holds between an earlier and a later one, either way, holds between any two that differ
any_two : {X : Type 0} (R D : X → X → Type 0) → ((x y : X) → R x y → R y x) → ((x : X) → D x x → ⊥) → (xs : List X) → Pairwise R xs
    → AllByRecursion (λ x. AllByRecursion (λ y. D x y → R x y) xs) xs
any_two R D back never [] pairs = tt
any_two R D back never (x ∷ xs) pairs = (
  ((λ differ. absurd (never x differ)), all_from (R x) (λ y. D x y → R x y) (λ y related differ. related) xs pairs.0),
  all_from_both (R x) (λ y. AllByRecursion (λ z. D y z → R y z) xs) (λ y. AllByRecursion (λ z. D y z → R y z) (x ∷ xs))
      (λ y related rest. ((λ differ. back x y related), rest)) xs pairs.0 (any_two R D back never xs pairs.1),
)

-- ---- Places

abbrev EntriesApart : Entry → Entry → Type 0
EntriesApart a b = IsApart a.home.place (run_length a.key) b.home.place (run_length b.key)

abbrev KeysDiffer : Entry → Entry → Type 0
KeysDiffer a b = key_eq a.key b.key ≡ false

apart_back : (a b : Entry) → EntriesApart a b → EntriesApart b a
apart_back a b apart = ⊎_elim (λ first. inr first) (λ second. inl second) apart

-- ---- Matching

-- a list of waiting homes, of rising keys, that are those of a function which matches the pool
waiting_match : (pool : Pool) (home_at : Key → Option Home) (waiting : List Entry) → HomesMatch pool home_at
    → AllByRecursion (λ e. (home_at e.key ≡ Some e.home) × (e.home.count ≡ 0)) waiting → AreRising waiting
    → AllByRecursion (λ e. AllByRecursion (IsApartFrom e) pool.pointers) waiting × Pairwise EntriesApart waiting
waiting_match pool home_at waiting match all rising = (
  all_from (λ e. (home_at e.key ≡ Some e.home) × (e.home.count ≡ 0)) (λ e. AllByRecursion (IsApartFrom e) pool.pointers)
      (λ e waits. match.waiting e.key e.home waits.0 waits.1) waiting all,
  pairs_with (λ e. (home_at e.key ≡ Some e.home) × (e.home.count ≡ 0)) (λ (a b : Entry). is_lt (key_cmp a.key b.key) ≡ true) EntriesApart
      (λ a b first second below. match.apart a.key b.key a.home b.home
      (apart_by_order a.key b.key below) first.0 first.1 second.0 second.1) waiting all rising,
)

-- after a sync
pub matches_synced : (pool : Pool) (changes : List Change) (table : TableState) → IsTable table → AreChangesRising changes
    → HomesMatch pool (found_with changes table) → Matches pool (sync_table changes table)
matches_synced pool changes table is rising match =
    let synced = sync_table changes table in
    let waiting = waiting_match pool (found_with changes table) (waiting_in synced) match (waiting_synced changes table is rising)
    (waiting_rising synced (sync_keeps changes table is)) in
    record {
      sorted = sync_keeps changes table is;
      homes = λ key. counted_stays (found_with changes table key) (found synced key) (found-synced changes table key is rising)
          ∙ match.homes key;
      waiting = waiting.0;
      apart = waiting.1;
    }

-- a table that matches as it stands does by its homes
pub matches_read : (pool : Pool) (table : TableState) → Matches pool table → HomesMatch pool (found table)
matches_read pool table match = record {
  homes = match.homes;
  waiting = λ key home there none. waiting_has
      (λ e. AllByRecursion (IsApartFrom e) pool.pointers) table key home match.sorted there none match.waiting;
  apart = λ key other home second differ there none found_other none_other.
      waiting_has (λ e. KeysDiffer (entry_of key home) e
      → EntriesApart (entry_of key home) e) table other second match.sorted found_other none_other
      (waiting_has (λ e. AllByRecursion (λ y. KeysDiffer e y → EntriesApart e y)
      (waiting_in table)) table key home match.sorted there none two) differ;
}
  where
    never : (e : Entry) → KeysDiffer e e → ⊥
    never e differ = false≢true (sym differ ∙ key_eq-same e.key)

    two : AllByRecursion (λ e. AllByRecursion (λ y. KeysDiffer e y → EntriesApart e y) (waiting_in table)) (waiting_in table)
    two = any_two EntriesApart KeysDiffer apart_back never (waiting_in table) match.apart
