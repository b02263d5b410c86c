-- A group of writes as the definitions run it, beside what the code has of it; and what the definitions' pointer of a write makes of both.
use Rattle.std.proofs.Common.{◌≡◌, ℕ, ◌+◌, ◌&&◌, ◌||◌, Bool, true, false, cond, nat_lt, List, [], ◌∷◌, ◌++◌, length, filter, Some, Option}
use Rattle.std.proofs.Common.{refl, sym, ap, suc, ◌∙◌, arith, inl, inr}
use Rattle.std.specs.Prelude.{◌⊎◌}
use Rattle.std.specs.List.{list_any}
use Rattle.std.proofs.lemmas.Bool.Decides.{nat_tests}
use Rattle.ddt_entry.specs.declared.key.Key.{Key}
use Rattle.ddt_entry.specs.declared.entry.Home.{Home}
use Rattle.ddt_entry.specs.declared.entry.Entry.{Entry}
use Rattle.ddt_entry.specs.Keys.{key_eq}
use Rattle.disk_model.specs.Images.{Image}
use Rattle.pool_model.specs.declared.closed.SlotChange.{SlotChange}
use Rattle.pool_model.specs.Pool.{Pointer, is_tracked, since_of, is_at, tracks, insert_pointer, comes_before}
use Rattle.pool_model.specs.Table.{entry_at, set_entry}
use Rattle.pool_model.specs.Command.{Course, home_at, or_in}
use Rattle.pool_model.specs.Group.{Standing, opening_of}
use Rattle.table_state.specs.Pools.{Held}
use Rattle.table_state.specs.Slots.{change_to}
use Rattle.pool_model.proofs.Pointers.{filter_insert}
use Rattle.pool_model.proofs.Homes.{left_by, home_now, left_by-later, home_now-later}
use Rattle.pool_model.proofs.Putting.{home_of, home_of-known}
use Rattle.pool_model.proofs.Finding.{entry_at-set}
use Rattle.lane_run.specs.Live.{Live, is_change_at, or_below, home_here}
use Rattle.lane_run.specs.Going.{IsCourse}
use Rattle.pool_model.proofs.Keys.{any-insert}

-- the home that the course knows, by its pointers
pub homes_of : {key_of : List ℕ
    → Key} {image : Image} {held : Held} {s : Standing} {moment : ℕ} {others : List
    (List ℕ)} {live : Live} {more : List ℕ} {course : Course} → IsCourse key_of image held s moment others live more course
    → (key : Key) → home_here held.table live.homes key ≡ home_of (opening_of key_of s moment) course key
homes_of {key_of = key_of} {s = s} {moment = moment} {course = course} w key =
    w.homes key ∙ home_of-known (opening_of key_of s moment) course key

-- ---- The list of pointers that pass, with one more

pub record HasHead (test : Pointer → Bool) (p : Pointer) (ps : List Pointer) : Type 0 where
  pub head : Pointer
  pub rest : List Pointer
  pub is : filter test (insert_pointer p ps) ≡ head ∷ rest
  pub count : length rest ≡ length (filter test ps)
  pub either : (head ≡ p) ⊎ ((others : List Pointer) × (filter test ps ≡ head ∷ others))

pub head_inserted : (test : Pointer → Bool) (p : Pointer) (ps : List Pointer) → test p ≡ true → HasHead test p ps
head_inserted test p [] passes = record { head = p; rest = []; is = ap (λ b. cond b (p ∷ []) []) passes; count = refl; either = inl refl }
head_inserted test p (q ∷ qs) passes = by_place (comes_before p q) refl (head_inserted test p qs passes)
  where
    by_place : (b : Bool) → comes_before p q ≡ b → HasHead test p qs → HasHead test p (q ∷ qs)
    by_place true before has = record {
      head = p;
      rest = filter test (q ∷ qs);
      is =
          ap (λ b. filter test (cond b (p ∷ q ∷ qs) (q ∷ insert_pointer p qs))) before ∙ ap
          (λ b. cond b (p ∷ filter test (q ∷ qs)) (filter test (q ∷ qs))) passes;
      count = refl;
      either = inl refl;
    }
    by_place false behind has = by_test (test q) refl
      where
        by_test : (b : Bool) → test q ≡ b → HasHead test p (q ∷ qs)
        by_test true fits = record {
          head = q;
          rest = filter test (insert_pointer p qs);
          is =
              ap (λ b. filter test (cond b (p ∷ q ∷ qs) (q ∷ insert_pointer p qs))) behind ∙ ap
              (λ b. cond b (q ∷ filter test (insert_pointer p qs)) (filter test (insert_pointer p qs))) fits;
          count = ap length has.is ∙ ap suc has.count ∙ sym (ap (λ b. length (cond b (q ∷ filter test qs) (filter test qs))) fits);
          either = inr (filter test qs, ap (λ b. cond b (q ∷ filter test qs) (filter test qs)) fits);
        }
        by_test false other = record {
          head = has.head;
          rest = has.rest;
          is =
              ap (λ b. filter test (cond b (p ∷ q ∷ qs) (q ∷ insert_pointer p qs))) behind ∙ ap
              (λ b. cond b (q ∷ filter test (insert_pointer p qs)) (filter test (insert_pointer p qs))) other ∙ has.is;
          count = has.count ∙ sym (ap (λ b. length (cond b (q ∷ filter test qs) (filter test qs))) other);
          either = later has.either;
        }
          where
            later : (has.head ≡ p) ⊎ ((others : List Pointer) × (filter test qs ≡ has.head ∷ others))
                → (has.head ≡ p) ⊎ ((others : List Pointer) × (filter test (q ∷ qs) ≡ has.head ∷ others))
            later (inl same) = inl same
            later (inr old) = inr (old.0, ap (λ b. cond b (q ∷ filter test qs) (filter test qs)) other ∙ old.1)

-- ---- The home of a key, with one pointer more

-- a pointer that isn't counted under the key leaves its home
pub home_passed : (before : Option Home) (last : Option Pointer) (test : Pointer → Bool) (p : Pointer) (ps : List Pointer) → test p ≡ false
    → home_now (left_by before (or_in last (filter test ps))) (filter test (insert_pointer p ps)) ≡ home_now (left_by before last)
    (filter test ps)
home_passed before last test p ps fails =
    ap (home_now (left_by before (or_in last (filter test ps)))) (filter_insert test p ps fails)
    ∙ ap (λ (o : Option Home). home_now o (filter test ps)) (left_by-later before last (filter test ps))
    ∙ home_now-later (left_by before last) (filter test ps)

-- the home counts the pointers
pub counts_all : (left : Option Home) (ts : List Pointer) (home : Home) → home_now left ts ≡ Some home → (ts ≡ [] → home.count ≡ 0)
    → length ts ≡ home.count
counts_all left [] home is none = sym (none refl)
counts_all left (t ∷ ts) home is none = cc is

-- one that is counted joins the home
pub home_joined : (left later : Option Home) (test : Pointer → Bool) (p : Pointer) (ps : List Pointer) (home : Home) → test p ≡ true
    → home_now left (filter test ps) ≡ Some home → (filter test ps ≡ [] → home.count ≡ 0)
    → p.place ≡ home.place → p.birth ≡ home.birth → (nat_lt 0 home.count ≡ true → since_of p.mark ≡ home.since)
    → home_now later (filter test (insert_pointer p ps)) ≡ Some
    (record { place = home.place; birth = home.birth; since = since_of p.mark; count = home.count + 1 })
home_joined left later test p ps home passes is none place birth since =
    let has = head_inserted test p ps passes in
    let count : length (filter test ps) ≡ home.count = counts_all left (filter test ps) home is none in
    ap (home_now later) has.is ∙ by_head has.head has.rest has.count has.either count
  where
    by_head : (head : Pointer) (rest : List Pointer) → length rest ≡ length (filter test ps)
        → (head ≡ p) ⊎ ((others : List Pointer) × (filter test ps ≡ head ∷ others)) → length (filter test ps) ≡ home.count
        → Some (home_at head (length (head ∷ rest))) ≡ Some
        (record { place = home.place; birth = home.birth; since = since_of p.mark; count = home.count + 1 })
    by_head head rest same (inl own) count =
        let more : length (head ∷ rest) ≡ home.count + 1 = omega (arith, same, count) in
        let a : head.place ≡ home.place = ap (λ (q : Pointer). q.place) own ∙ place in
        let b : head.birth ≡ home.birth = ap (λ (q : Pointer). q.birth) own ∙ birth in
        let c : since_of head.mark ≡ since_of p.mark = ap (λ (q : Pointer). since_of q.mark) own in
        λ i. Some (record { place = a i; birth = b i; since = c i; count = more i })
    by_head head rest same (inr old) count =
        let more : length (head ∷ rest) ≡ home.count + 1 = omega (arith, same, count) in
        let longer : length (filter test ps) ≡ suc (length old.0) = ap length old.1 in
        let some : nat_lt 0 home.count ≡ true = grind (arith, nat_tests, count, longer) in
        let was : Some (home_at head (length (head ∷ old.0))) ≡ Some home = sym (ap (home_now left) old.1) ∙ is in
        let a : head.place ≡ home.place = cc was in
        let b : head.birth ≡ home.birth = cc was in
        let d : since_of head.mark ≡ home.since = cc was in
        let c : since_of head.mark ≡ since_of p.mark = d ∙ sym (since some) in
        λ i. Some (record { place = a i; birth = b i; since = c i; count = more i })

-- the first that is counted makes one
pub home_made : (later : Option Home) (test : Pointer → Bool) (p : Pointer) (ps : List Pointer) → test p ≡ true → filter test ps ≡ []
    → home_now later (filter test (insert_pointer p ps)) ≡ Some
    (record { place = p.place; birth = p.birth; since = since_of p.mark; count = 1 })
home_made later test p ps passes none =
    home_joined (Some (record { place = p.place; birth = p.birth; since = since_of p.mark; count = 0 })) later test p ps
    (record { place = p.place; birth = p.birth; since = since_of p.mark; count = 0 }) passes
    (ap (home_now (Some (record { place = p.place; birth = p.birth; since = since_of p.mark; count = 0 }))) none) (λ _. refl) refl refl
    (λ some. refl)

-- what is found of a key beside the table, when a home is put
pub home_here-put : (below : Option Home) (entry : Entry) (homes : List Entry) (key : Key)
    → or_below below (entry_at key (set_entry entry homes)) ≡ cond (key_eq entry.key key) (Some entry.home)
    (or_below below (entry_at key homes))
home_here-put below entry homes key =
    ap (or_below below) (entry_at-set key entry homes)
    ∙ elim (key_eq entry.key key) as (λ b. or_below below (cond b (Some entry.home) (entry_at key homes)) ≡ cond b (Some entry.home)
    (or_below below (entry_at key homes))) [ true ↦ refl | false ↦ refl ]

-- a pointer of a key is counted under it by its mark, and under no other
pub tracked_under : (key : Key) (p : Pointer) (b : Bool) → is_tracked p.mark ≡ b → key_eq p.key key ≡ true → tracks key p ≡ b
tracked_under key p true counts same = (λ i. counts i && same i)
tracked_under key p false counts same = (λ i. counts i && same i)

pub untracked_other : (key : Key) (p : Pointer) → key_eq p.key key ≡ false → tracks key p ≡ false
untracked_other key p other = elim (is_tracked p.mark) as (λ b. (b && key_eq p.key key) ≡ false) [ true ↦ other | false ↦ refl ]

any_appended : {X : Type 0} (test : X → Bool) (xs : List X) (x : X) → list_any test (xs ++ x ∷ []) ≡ (list_any test xs || test x)
any_appended test [] x = elim (test x) as (λ b. (b || false) ≡ b) [ true ↦ refl | false ↦ refl ]
any_appended test (y ∷ ys) x = ap (λ b. test y || b) (any_appended test ys x) ∙ nested (test y) (list_any test ys) (test x)
  where
    nested : (a b c : Bool) → (a || (b || c)) ≡ ((a || b) || c)
    nested true b c = refl
    nested false b c = refl

-- a slot is taken where it was before, or by the pointer that comes
pub taken_more : (held_slots : Bool) (changes : List SlotChange) (p : Pointer) (ps : List Pointer) (slot : ℕ)
    → (held_slots || list_any (is_change_at slot) changes) ≡ list_any (is_at 0 slot) ps
    → (held_slots || list_any (is_change_at slot) (changes ++ change_to p ∷ [])) ≡ list_any (is_at 0 slot) (insert_pointer p ps)
taken_more held_slots changes p ps slot was =
    ap (λ b. held_slots || b) (any_appended (is_change_at slot) changes (change_to p))
    ∙ turned held_slots (list_any (is_change_at slot) changes) (is_at 0 slot p)
    ∙ ap (λ b. is_at 0 slot p || b) was
    ∙ sym (any-insert (is_at 0 slot) p ps)
  where
    turned : (a b c : Bool) → (a || (b || c)) ≡ (c || (a || b))
    turned true true true = refl
    turned true true false = refl
    turned true false true = refl
    turned true false false = refl
    turned false true true = refl
    turned false true false = refl
    turned false false true = refl
    turned false false false = refl
