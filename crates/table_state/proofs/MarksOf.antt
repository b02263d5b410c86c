-- The marks of a pool's pointers are those that a table gives them which counts just the tracked ones.
use Rattle.std.proofs.Common.{◌≡◌, ℕ, ◌<◌, ◌≤◌, Bool, true, false, ◌&&◌, ◌==◌, ⊎_elim, inl, List, [], ◌∷◌, length, Option, Some, None, refl, sym, ap, subst, ◌∙◌, eq-eqb, eqb-true, arith}
use Rattle.std.specs.Prelude.{nat_lt, if◌then◌else◌}
use Rattle.std.specs.List.{AllByRecursion}
use Rattle.std.proofs.lemmas.Bool.{and_parts, and_from}
use Rattle.ddt_entry.specs.Keys.{key_eq}
use Rattle.ddt_entry.specs.declared.key.Key.{Key}
use Rattle.ddt_entry.specs.declared.entry.Home.{Home}
use Rattle.ddt_entry.proofs.KeyLaws.{key_eq-same, key_eq-symm}
use Rattle.pool_model.specs.Pool.{Pool, Pointer, Mark, plain, tracked, loose, IsApart, run_length, is_tracked, since_of, tracks, tracked_at, SharesHome, GoTogether, IsWellFormed}
use Rattle.pool_model.specs.Table.{TableState, found, counted, home_of_pointers}
use Rattle.pool_model.specs.Waiting.{IsIn}
use Rattle.table_state.specs.Flat.{mark_by, mark_of}
use Rattle.pool_model.proofs.Lists.{all_from, all_in, all_at}
use Rattle.pool_model.proofs.Members.{clash, pair_in, in_filter, in_unfiltered, passed_in}
use Rattle.table_state.specs.Slots.{kind_of}

-- ---- Marks and homes

-- a home that is counted, with this place and birth, tracks the pointer
marks_tracked : (o : Option Home) (place birth since : ℕ) (home : Home) → counted o ≡ Some home → home.place ≡ place → home.birth ≡ birth
    → home.since ≡ since → mark_by o place birth ≡ tracked since
marks_tracked None place birth since home is same_place same_birth same_since = absurd (cc is)
marks_tracked (Some h) place birth since home is same_place same_birth same_since = by_test (nat_lt 0 h.count) refl is
  where
    by_test : (b : Bool) → nat_lt 0 h.count ≡ b → (if b then Some h else None) ≡ Some home → mark_by (Some h) place birth ≡ tracked since
    by_test true more same =
        let one : h ≡ home = cc same in
        ap (λ b. if b then tracked h.since else loose)
        (and_from _ _ (and_from _ _ more (eq-eqb h.place place (ap (λ (x : Home). x.place) one ∙ same_place))) (eq-eqb h.birth birth
        (ap (λ (x : Home). x.birth) one ∙ same_birth)))
        ∙ ap tracked (ap (λ (x : Home). x.since) one ∙ same_since)
    by_test false more same = absurd (cc same)

-- where no home that is counted has this place the pointer is loose
marks_loose : (o : Option Home) (place birth : ℕ) → ((home : Home) → counted o ≡ Some home → home.place ≡ place → ⊥)
    → mark_by o place birth ≡ loose
marks_loose None place birth no_home = refl
marks_loose (Some h) place birth no_home = by_test (nat_lt 0 h.count && (h.place == place) && (h.birth == birth)) refl
  where
    by_test : (b : Bool) → (nat_lt 0 h.count && (h.place == place) && (h.birth == birth)) ≡ b
        → (if b then tracked h.since else loose) ≡ loose
    by_test true all =
        let outer = and_parts (nat_lt 0 h.count && (h.place == place)) (h.birth == birth) all in
        let inner = and_parts (nat_lt 0 h.count) (h.place == place) outer.0 in
        absurd (no_home h (ap (λ b. if b then Some h else None) inner.0) (eqb-true h.place place inner.1))
    by_test false all = refl

overlap : (place len other other_len : ℕ) → place ≡ other → 1 ≤ len → 1 ≤ other_len → IsApart place len other other_len → ⊥
overlap place len other other_len same some more apart = ⊎_elim (λ ahead. omega arith) (λ behind. omega arith) apart

some_run : (key : Key) → 0 < key.len → 1 ≤ run_length key
some_run key some = omega (arith, some)

-- ---- The marks of a pool

module _ (sectors : ℕ) (pool : Pool) (table : TableState) (well : IsWellFormed sectors pool)
    (homes : (key : Key) → counted (found table key) ≡ home_of_pointers (tracked_at pool key))
    (lens : AllByRecursion (λ p. 0 < p.key.len) pool.pointers) where
  abbrev Stands : Pointer → Type 0
  Stands p = IsIn p pool.pointers

  run_of : (p : Pointer) → Stands p → 1 ≤ run_length p.key
  run_of p here = some_run p.key (all_at (λ q. 0 < q.key.len) p pool.pointers here lens)

  -- what is tracked under a tracked pointer's key has its home
  shares : (p q : Pointer) → Stands p → Stands q → is_tracked p.mark ≡ true → tracks p.key q ≡ true → SharesHome p q
  shares p q here there known same =
      let parts = and_parts (is_tracked q.mark) (key_eq q.key p.key) same in
      ⊎_elim (λ one. subst (SharesHome p) one (record { place = refl; birth = refl; since = refl }))
      (λ two. ⊎_elim
      (λ ahead. ahead.one_home (and_from _ _ (and_from _ _ known parts.0) (key_eq-symm p.key q.key ∙ parts.1)))
      (λ behind. let home = behind.one_home (and_from _ _ (and_from _ _ parts.0 known) parts.1) in
      record { place = sym home.place; birth = sym home.birth; since = sym home.since })
      two)
      (pair_in GoTogether p q pool.pointers here there well.together)

  -- a pointer that isn't tracked has its place for itself
  differ : (p q : Pointer) → Stands p → Stands q → is_tracked p.mark ≡ false → is_tracked q.mark ≡ true → p.place ≡ q.place → ⊥
  differ p q here there unknown known same =
      ⊎_elim (λ one. clash (is_tracked q.mark) known (ap (λ (r : Pointer). is_tracked r.mark) (sym one) ∙ unknown))
      (λ two. ⊎_elim
      (λ ahead. overlap p.place (run_length p.key) q.place (run_length q.key) same (run_of p here) (run_of q there)
      (ahead.two_blocks (ap (λ b. (b && is_tracked q.mark) && key_eq p.key q.key) unknown)))
      (λ behind. overlap q.place (run_length q.key) p.place (run_length p.key) (sym same) (run_of q there) (run_of p here)
      (behind.two_blocks (ap (λ b. (b && is_tracked p.mark) && key_eq q.key p.key) known ∙ ap (λ b. b && key_eq q.key p.key) unknown)))
      two)
      (pair_in GoTogether p q pool.pointers here there well.together)

  marked_tracked : (p : Pointer) (since : ℕ) → Stands p → p.mark ≡ tracked since
      → mark_by (found table p.key) p.place p.birth ≡ tracked since
  marked_tracked p since here is = by_list (tracked_at pool p.key) refl
    where
      known : is_tracked p.mark ≡ true
      known = ap is_tracked is

      among : IsIn p (tracked_at pool p.key)
      among = in_filter (tracks p.key) p pool.pointers (and_from _ _ known (key_eq-same p.key)) here

      by_list : (qs : List Pointer) → tracked_at pool p.key ≡ qs → mark_by (found table p.key) p.place p.birth ≡ tracked since
      by_list [] none = absurd (subst (IsIn p) none among)
      by_list (q ∷ qs) some =
          let first : IsIn q (tracked_at pool p.key) = subst (IsIn q) (sym some) (inl refl) in
          let home = shares p q here (in_unfiltered (tracks p.key) q pool.pointers first) known
          (passed_in (tracks p.key) q pool.pointers first) in
          marks_tracked (found table p.key) p.place p.birth since
          (record { place = q.place; birth = q.birth; since = since_of q.mark; count = length (q ∷ qs) })
          (homes p.key ∙ ap home_of_pointers some) (sym home.place) (sym home.birth) (sym home.since ∙ ap since_of is)

  marked_loose : (p : Pointer) → Stands p → p.mark ≡ loose → mark_by (found table p.key) p.place p.birth ≡ loose
  marked_loose p here is = marks_loose (found table p.key) p.place p.birth
      (λ home counts same. by_list home counts same (tracked_at pool p.key) refl)
    where
      by_list : (home : Home) → counted (found table p.key) ≡ Some home → home.place ≡ p.place → (qs : List Pointer)
          → tracked_at pool p.key ≡ qs → ⊥
      by_list home counts same [] none = none_is (sym counts ∙ homes p.key ∙ ap home_of_pointers none)
        where
          none_is : Some home ≡ None → ⊥
          none_is e = cc e
      by_list home counts same (q ∷ qs) some =
          let first : IsIn q (tracked_at pool p.key) = subst (IsIn q) (sym some) (inl refl) in
          differ p q here (in_unfiltered (tracks p.key) q pool.pointers first) (ap is_tracked is)
          (and_parts (is_tracked q.mark) (key_eq q.key p.key) (passed_in (tracks p.key) q pool.pointers first)).0
          (sym same ∙ ap (λ (o : Option Home). place_in o) (sym counts ∙ homes p.key ∙ ap home_of_pointers some))
        where
          place_in : Option Home → ℕ
          place_in None = 0
          place_in (Some h) = h.place

  marked : (p : Pointer) (mark : Mark) → Stands p → p.mark ≡ mark → mark_of (kind_of mark) (found table p.key) p.place p.birth ≡ mark
  marked p plain here is = refl
  marked p (tracked since) here is = marked_tracked p since here is
  marked p loose here is = marked_loose p here is

  -- each pointer has the mark that the table gives its slot
  pub marks_stand : AllByRecursion (λ p. mark_of (kind_of p.mark) (found table p.key) p.place p.birth ≡ p.mark) pool.pointers
  marks_stand = all_from Stands
      (λ p. mark_of (kind_of p.mark) (found table p.key) p.place p.birth ≡ p.mark) (λ p here. marked p p.mark here refl) pool.pointers
      (all_in pool.pointers)
