-- A change that was set in a sorted list, and is taken back.
use Rattle.std.proofs.Common.{rules, ◌≡◌, Bool, true, false, cond, not, List, [], ◌∷◌, Option, Some, None, refl, sym, ap, ◌∙◌}
use Rattle.std.specs.Prelude.{if◌then◌else◌, IsSome}
use Rattle.std.specs.List.{AllByRecursion}
use Rattle.std.specs.Ordering.{is_eq, is_lt}
use Rattle.std.specs.declared.cmp.Ordering.{Ordering}
use Rattle.std.specs.declared.cmp.Ordering.TheVariants.{Less, Equal, Greater}
use Rattle.std.proofs.lemmas.Bool.{false≢true}
use Rattle.std.proofs.lemmas.Cmp.{tied_itself}
use Rattle.ddt_entry.specs.Keys.{key_cmp, key_eq}
use Rattle.ddt_entry.specs.Changes.{key_in}
use Rattle.ddt_entry.specs.declared.key.Key.{Key}
use Rattle.ddt_entry.specs.declared.entry.Change.{Change}
use Rattle.ddt_entry.proofs.KeyLaws.{key_cmp_total, is_eq-key_cmp, key_eq-true, key_eq-same, key_eq-symm}
use Rattle.pool_model.specs.Table.{change_at, set_change, drop_change, AreChangesRising}
use Rattle.pool_model.proofs.Lists.{all_each, all_from, all_missed, filter_whole, none_found}
use Rattle.pool_model.proofs.Sorted.{less_of}
use Rattle.pool_model.proofs.Lookups.{found_has}
use Rattle.pool_model.proofs.Finding.{change_at-set}
use Rattle.plain_table.specs.Keyed.{WasSet}

-- where the key wasn't there, dropping it gives the list back
pub taken_back : (change : Change) (log : List Change) → change_at (key_in change) log ≡ None
    → drop_change (key_in change) (set_change change log) ≡ log
taken_back change log none = drops log (all_missed (λ c. key_eq (key_in c) (key_in change)) log none)
  where
    stays : (log : List Change) → AllByRecursion (λ c. key_eq (key_in c) (key_in change) ≡ false) log
        → drop_change (key_in change) log ≡ log
    stays log others =
        filter_whole (λ c. not (key_eq (key_in c) (key_in change))) log
        (all_from (λ c. key_eq (key_in c) (key_in change) ≡ false) (λ c. not (key_eq (key_in c) (key_in change)) ≡ true)
        (λ c other. ap not other) log others)

    goes : (log : List Change) → drop_change (key_in change) (change ∷ log) ≡ drop_change (key_in change) log
    goes log = ap (λ b. cond (not b) (change ∷ drop_change (key_in change) log) (drop_change (key_in change) log))
        (key_eq-same (key_in change))

    drops : (log : List Change) → AllByRecursion (λ c. key_eq (key_in c) (key_in change) ≡ false) log
        → drop_change (key_in change) (set_change change log) ≡ log
    drops [] others = goes []
    drops (c ∷ log) others = by_order (drops log others.1) (key_cmp (key_in change) (key_in c)) refl
      where
        by_order : drop_change (key_in change) (set_change change log) ≡ log → (o : Ordering) → key_cmp (key_in change) (key_in c) ≡ o
            → drop_change (key_in change) (if is_lt o then change ∷ c ∷ log else
            (if is_eq o then change ∷ log else c ∷ set_change change log)) ≡ c ∷ log
        by_order rest Less said = goes (c ∷ log) ∙ stays (c ∷ log) others
        by_order rest Equal said =
            absurd (false≢true (sym others.0 ∙ key_eq-symm (key_in c) (key_in change) ∙ sym (is_eq-key_cmp (key_in change) (key_in c))
            ∙ ap is_eq said))
        by_order rest Greater said =
            ap (λ b. cond (not b) (c ∷ drop_change (key_in change) (set_change change log))
            (drop_change (key_in change) (set_change change log))) others.0 ∙ ap (λ (ys : List Change). c ∷ ys) rest

-- what is found of a key is of that key
same_key : (change before : Change) (log : List Change) → change_at (key_in change) log ≡ Some before → key_in before ≡ key_in change
same_key change before log there =
    key_eq-true (key_in before) (key_in change)
    (found_has (λ x. Unit {0}) (λ x. key_eq (key_in x) (key_in change)) log before there (all_each (λ x. Unit {0}) (λ x. tt) log)).0

-- where another change of the key was there, setting that one does
pub set_back : (change before : Change) (log : List Change) → AreChangesRising log → change_at (key_in change) log ≡ Some before
    → set_change before (set_change change log) ≡ log
set_back change before [] rising there = absurd (cc there)
set_back change before (c ∷ log) rising there =
    by_order (λ later. set_back change before log rising.1 later) (key_cmp (key_in change) (key_in c)) refl
  where
    same : key_in before ≡ key_in change
    same = same_key change before (c ∷ log) there

    put : Change → List Change → Ordering → List Change
    put x ys o = if is_lt o then before ∷ x ∷ ys else (if is_eq o then before ∷ ys else x ∷ set_change before ys)

    by_own : (b : Bool) → key_eq (key_in c) (key_in change) ≡ b → b ≡ true → c ≡ before
    by_own b is own =
        let found : cond (key_eq (key_in c) (key_in change)) (Some c) (change_at (key_in change) log) ≡ Some before = there in
        let here : Some c ≡ Some before =
        ap (λ d. cond d (Some c) (change_at (key_in change) log)) (sym (is ∙ own)) ∙ found in cc here

    later_found : key_eq (key_in c) (key_in change) ≡ false → change_at (key_in change) log ≡ Some before
    later_found other = ap (λ d. cond d (Some c) (change_at (key_in change) log)) (sym other) ∙ there

    by_order : (change_at (key_in change) log ≡ Some before → set_change before (set_change change log) ≡ log) → (o : Ordering)
        → key_cmp (key_in change) (key_in c) ≡ o
        → set_change before (if is_lt o then change ∷ c ∷ log else (if is_eq o then change ∷ log else c ∷ set_change change log))
        ≡ c ∷ log
    by_order rest Less said = absurd (none_there (change_at (key_in change) (c ∷ log)) refl)
      where
        above : AllByRecursion (λ x. key_eq (key_in x) (key_in change) ≡ false) (c ∷ log)
        above = (
          key_eq-symm (key_in c) (key_in change) ∙ sym (is_eq-key_cmp (key_in change) (key_in c)) ∙ ap is_eq said,
          all_from (λ x. is_lt (key_cmp (key_in c) (key_in x)) ≡ true) (λ x. key_eq (key_in x) (key_in change) ≡ false)
              (λ x below. key_eq-symm (key_in x) (key_in change) ∙ sym (is_eq-key_cmp (key_in change) (key_in x))
              ∙ ap is_eq (key_cmp_total.trans (key_in change) (key_in c) (key_in x) said (less_of (key_cmp (key_in c) (key_in x)) below)))
              log rising.0,
        )

        none_there : (o : Option Change) → change_at (key_in change) (c ∷ log) ≡ o → ⊥
        none_there o is =
            let none : change_at (key_in change) (c ∷ log) ≡ None =
            none_found (λ x. key_eq (key_in x) (key_in change)) (c ∷ log) above in
            let two : Some before ≡ None = sym there ∙ none in cc two
    by_order rest Equal said =
        ap (put change log) (ap (λ k. key_cmp k (key_in change)) same ∙ tied_itself key_cmp_total (key_in change))
        ∙ ap (λ (x : Change). x ∷ log) (sym (by_own (key_eq (key_in c) (key_in change)) refl
        (key_eq-symm (key_in c) (key_in change) ∙ sym (is_eq-key_cmp (key_in change) (key_in c)) ∙ ap is_eq said)))
    by_order rest Greater said =
        ap (put c (set_change change log)) (ap (λ k. key_cmp k (key_in c)) same ∙ said)
        ∙ ap (λ (ys : List Change). c ∷ ys)
        (rest (later_found (key_eq-symm (key_in c) (key_in change) ∙ sym (is_eq-key_cmp (key_in change) (key_in c)) ∙ ap is_eq said)))

-- a set is taken back
module _ {change : Change} {before : Option Change} {first now new : List Change} (was : WasSet change before first now) where
  pub is_taken_back : {key : Key} → key ≡ key_in change → before ≡ None → new ≡ drop_change key now → new ≡ first
  is_taken_back own none is =
      is ∙ ap (λ k. drop_change k now) own ∙ ap (drop_change (key_in change)) was.set ∙ taken_back change first (sym was.stood ∙ none)

  pub is_set_back : (old : Change) → before ≡ Some old → (IsSome (change_at (key_in old) now) → new ≡ set_change old now) → new ≡ first
  is_set_back old there given =
      given (some (change_at (key_in old) now) has) ∙ ap (set_change old) was.set ∙ set_back change old first was.rising found
    where
      found : change_at (key_in change) first ≡ Some old
      found = sym was.stood ∙ there

      some : (o : Option Change) → o ≡ Some change → IsSome o
      some None e = absurd (cc e)
      some (Some c) e = search rules

      has : change_at (key_in old) now ≡ Some change
      has =
          ap (λ k. change_at k now) (same_key change old first found)
          ∙ ap (change_at (key_in change)) was.set
          ∙ change_at-set (key_in change) change first
          ∙ ap (λ b. cond b (Some change) (change_at (key_in change) first)) (key_eq-same (key_in change))
