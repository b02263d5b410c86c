-- Each sector that a pool names is marked as used: those of its pages, of its pointers and of the homes that wait.
use Rattle.std.proofs.Common.{◌≡◌, ℕ, ◌+◌, Bool, true, false, ◌||◌, ◌==◌, List, [], ◌∷◌, refl, ap, ◌∙◌, eq-eqb, arith}
use Rattle.std.specs.Prelude.{nat_lt, slice_index_or}
use Rattle.std.specs.List.{AllByRecursion, list_any}
use Rattle.std.proofs.lemmas.Bool.{and_from, lt-ltb, le-leb, ltb-true, ltb-false}
use Rattle.std.proofs.lemmas.List.{get_or_past}
use Rattle.std.proofs.lemmas.List.FromFn.{get_or-map-range_with_len}
use Rattle.ddt_entry.specs.declared.entry.Entry.{Entry}
use Rattle.pool_model.specs.Pool.{Pool, Pointer, run_length}
use Rattle.pool_model.specs.Space.{is_used, lies_in, used_sectors}
use Rattle.pool_model.specs.Table.{TableState, waiting_in}
use Rattle.pool_model.proofs.Lists.{all_from}
use Rattle.table_state.proofs.UsedLaws.{length-used_sectors}

or_behind : (a b : Bool) → b ≡ true → (a || b) ≡ true
or_behind true b found = refl
or_behind false b found = found

-- where each passes its own test, each passes that of one of the list
own_test : {X : Type 0} (test : X → X → Bool) (xs : List X) → AllByRecursion (λ x. test x x ≡ true) xs
    → AllByRecursion (λ x. list_any (test x) xs ≡ true) xs
own_test test [] all = tt
own_test test (x ∷ xs) all = (
  ap (λ b. b || list_any (test x) xs) all.0,
  all_from (λ y. list_any (test y) xs ≡ true) (λ y. list_any (test y) (x ∷ xs) ≡ true) (λ y found. or_behind (test y x) _ found) xs
      (own_test test xs all.1),
)

-- the first sector of a run lies in it
in_own_run : (place len : ℕ) → len ≡ 1 → lies_in place place len ≡ true
in_own_run place len one = and_from _ _ (le-leb place place (omega arith)) (lt-ltb place (place + len) (omega (arith, one)))

third : (a b c d : Bool) → c ≡ true → (a || b || c || d) ≡ true
third true b c d e = refl
third false true c d e = refl
third false false true d e = refl
third false false false d e = absurd (cc e)

second : (a b c d : Bool) → b ≡ true → (a || b || c || d) ≡ true
second true b c d e = refl
second false true c d e = refl
second false false c d e = absurd (cc e)

fourth : (a b c d : Bool) → d ≡ true → (a || b || c || d) ≡ true
fourth a b c d e = or_behind (a || b || c) d e

module _ (used : List Bool) (sectors : ℕ) (pages : List ℕ) (pool : Pool) (table : TableState)
    (are : used ≡ used_sectors sectors pages pool table) where
  -- what is named is used, and so is what lies past the end
  used_if : (at : ℕ) → is_used pages pool table at ≡ true → slice_index_or used at true ≡ true
  used_if at named = ap (λ (u : List Bool). slice_index_or u at true) are ∙ by_order (nat_lt at sectors) refl
    where
      by_order : (b : Bool) → nat_lt at sectors ≡ b → slice_index_or (used_sectors sectors pages pool table) at true ≡ true
      by_order true within =
          get_or-map-range_with_len (is_used pages pool table) 0 sectors at at true (ltb-true at sectors within) (omega arith) ∙ named
      by_order false past =
          get_or_past (used_sectors sectors pages pool table) at true
          (omega (arith, ltb-false at sectors past, length-used_sectors sectors pages pool table))

  abbrev pointed : ℕ → Bool
  pointed at = list_any (λ (p : Pointer). lies_in at p.place (run_length p.key)) pool.pointers

  abbrev waited : ℕ → Bool
  waited at = list_any (λ (entry : Entry). lies_in at entry.home.place (run_length entry.key)) (waiting_in table)

  abbrev paged : ℕ → Bool
  paged at = list_any (λ page. page == at) pages

  pub pages_used : AllByRecursion (λ at. slice_index_or used at true ≡ true) pages
  pages_used =
      all_from (λ at. paged at ≡ true) (λ at. slice_index_or used at true ≡ true)
      (λ at named. used_if at (second (nat_lt at 32) (paged at) (pointed at) (waited at) named)) pages
      (own_test (λ at page. page == at) pages (each_self pages))
    where
      each_self : (ps : List ℕ) → AllByRecursion (λ page. (page == page) ≡ true) ps
      each_self [] = tt
      each_self (page ∷ ps) = (eq-eqb page page refl, each_self ps)

  pub pointers_used : AllByRecursion (λ p. run_length p.key ≡ 1) pool.pointers
      → AllByRecursion (λ p. slice_index_or used p.place true ≡ true) pool.pointers
  pointers_used runs =
      all_from (λ (p : Pointer). pointed p.place ≡ true) (λ (p : Pointer). slice_index_or used p.place true ≡ true)
      (λ p named. used_if p.place (third (nat_lt p.place 32) (paged p.place) (pointed p.place) (waited p.place) named)) pool.pointers
      (own_test (λ (p q : Pointer). lies_in p.place q.place (run_length q.key)) pool.pointers
      (all_from (λ (p : Pointer). run_length p.key ≡ 1) (λ (p : Pointer). lies_in p.place p.place (run_length p.key) ≡ true)
      (λ p one. in_own_run p.place (run_length p.key) one) pool.pointers runs))

  pub waiting_used : AllByRecursion (λ entry. run_length entry.key ≡ 1) (waiting_in table)
      → AllByRecursion (λ entry. slice_index_or used entry.home.place true ≡ true) (waiting_in table)
  waiting_used runs =
      all_from (λ (e : Entry). waited e.home.place ≡ true) (λ (e : Entry). slice_index_or used e.home.place true ≡ true)
      (λ e named. used_if e.home.place
      (fourth (nat_lt e.home.place 32) (paged e.home.place) (pointed e.home.place) (waited e.home.place) named))
      (waiting_in table)
      (own_test (λ (e f : Entry). lies_in e.home.place f.home.place (run_length f.key)) (waiting_in table)
      (all_from (λ (e : Entry). run_length e.key ≡ 1) (λ (e : Entry). lies_in e.home.place e.home.place (run_length e.key) ≡ true)
      (λ e one. in_own_run e.home.place (run_length e.key) one) (waiting_in table) runs))
