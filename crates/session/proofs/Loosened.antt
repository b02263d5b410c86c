-- The pointers of a pool once a prune has taken some homes: those of a key that was taken are loose, and all else of them stays.
use Rattle.std.proofs.Common.{◌≡◌, ◌≤◌, ◌∙◌, ◌==◌, ◌&&◌, ◌||◌, ℕ, Bool, true, false, cond, List, [], ◌∷◌, length, filter, map, not, refl, sym, ap, subst, arith}
use Rattle.std.specs.List.{AllByRecursion, list_any}
use Rattle.std.proofs.lemmas.Bool.{eqb-true}
use Rattle.ddt_entry.specs.Keys.{key_eq}
use Rattle.ddt_entry.specs.declared.key.Key.{Key}
use Rattle.ddt_entry.proofs.KeyLaws.{key_eq-same, key_eq-true}
use Rattle.pool_model.specs.declared.commands.PruneRule.{PruneRule}
use Rattle.pool_model.specs.Pool.{Pool, Pointer, Mark, plain, tracked, loose, Pairwise, GoTogether, count_at, is_shared, is_tracked, tracks}
use Rattle.pool_model.specs.Prune.{loosened, pruned}
use Rattle.pool_model.proofs.Lists.{all_tested}
use Rattle.pool_model.proofs.Members.{clash}
use Rattle.pool_model.proofs.Pointers.{all_fail, shared_tracks}
use Rattle.table_state.specs.Slots.{kind_of, slot_of}
use Rattle.prune_walk.proofs.Takes.{pruned_keep}

-- whether a key was taken
abbrev pub is_taken : List Pointer → Key → Bool
is_taken taken key = list_any (λ q. key_eq q.key key) taken

-- the mark of a pointer from then on
abbrev pub mark_after : List Pointer → Pointer → Mark
mark_after taken p = cond (is_tracked p.mark && is_taken taken p.key) loose p.mark

abbrev pub remarked : List Pointer → Pointer → Pointer
remarked taken p = record p { mark = cond (is_tracked p.mark && list_any (λ q. key_eq q.key p.key) taken) loose p.mark }

loosened_is : (taken : List Pointer) (p : Pointer) → loosened taken p ≡ remarked taken p
loosened_is taken p = by_test (is_tracked p.mark && list_any (λ q. key_eq q.key p.key) taken)
  where
    by_test : (b : Bool) → cond b (record p { mark = loose }) p ≡ record p { mark = cond b loose p.mark }
    by_test true = refl
    by_test false = refl

pub all_loosened : (taken ps : List Pointer) → map (loosened taken) ps ≡ map (remarked taken) ps
all_loosened taken [] = refl
all_loosened taken (p ∷ ps) =
    ap (λ (q : Pointer). q ∷ map (loosened taken) ps) (loosened_is taken p)
    ∙ ap (λ (qs : List Pointer). remarked taken p ∷ qs) (all_loosened taken ps)

-- ---- The slots keep what they kept

kind_stays : (b : Bool) (mark : Mark) → kind_of (cond (is_tracked mark && b) loose mark) ≡ kind_of mark
kind_stays b plain = refl
kind_stays true (tracked since) = refl
kind_stays false (tracked since) = refl
kind_stays b loose = refl

pub slots_stay : (taken ps : List Pointer) → map slot_of ps ≡ map slot_of (map (remarked taken) ps)
slots_stay taken [] = refl
slots_stay taken (p ∷ ps) =
    ap (λ kind. record { lane = p.lane; slot = p.slot; pointer = record { kind = kind; key = p.key; place = p.place; birth = p.birth } }
    ∷ map slot_of ps) (sym (kind_stays (is_taken taken p.key) p.mark))
    ∙ ap (λ slots. slot_of (remarked taken p) ∷ slots) (slots_stay taken ps)

-- ---- Which pointers are counted

still_tracked : (b : Bool) (mark : Mark) → is_tracked (cond (is_tracked mark && b) loose mark) ≡ is_tracked mark && not b
still_tracked b plain = refl
still_tracked true (tracked since) = refl
still_tracked false (tracked since) = refl
still_tracked b loose = refl

module _ (taken : List Pointer) (key : Key) where
  keeps_it : (ps : List Pointer) → is_taken taken key ≡ false → filter (tracks key) (map (remarked taken) ps) ≡ filter (tracks key) ps
  keeps_it [] left = refl
  keeps_it (p ∷ ps) left = by_key (keeps_it ps left) (key_eq p.key key) refl
    where
      here : (b : Bool) → is_taken taken p.key ≡ b → b ≡ false → remarked taken p ≡ p
      here b is none =
          ap (λ t. record p { mark = cond (is_tracked p.mark && t) loose p.mark }) (is ∙ none) ∙ unmarked (is_tracked p.mark)
        where
          unmarked : (t : Bool) → record p { mark = cond (t && false) loose p.mark } ≡ p
          unmarked true = refl
          unmarked false = refl

      by_key : filter (tracks key) (map (remarked taken) ps) ≡ filter (tracks key) ps → (b : Bool) → key_eq p.key key ≡ b
          → filter (tracks key) (remarked taken p ∷ map (remarked taken) ps) ≡ filter (tracks key) (p ∷ ps)
      by_key rest true same =
          let none : is_taken taken p.key ≡ false = ap (is_taken taken) (key_eq-true p.key key same) ∙ left in
          ap (λ (q : Pointer). filter (tracks key) (q ∷ map (remarked taken) ps)) (here (is_taken taken p.key) refl none)
          ∙ ap (λ (qs : List Pointer). cond (is_tracked p.mark && key_eq p.key key) (p ∷ qs) qs) rest
      by_key rest false other =
          ap (λ e. cond (is_tracked (mark_after taken p) && e) (remarked taken p ∷ filter (tracks key) (map (remarked taken) ps))
          (filter (tracks key) (map (remarked taken) ps))) other
          ∙ never (is_tracked (mark_after taken p)) (remarked taken p ∷ filter (tracks key) (map (remarked taken) ps))
          (filter (tracks key) (map (remarked taken) ps))
          ∙ rest
          ∙ sym (never (is_tracked p.mark) (p ∷ filter (tracks key) ps) (filter (tracks key) ps))
          ∙ ap (λ e. cond (is_tracked p.mark && e) (p ∷ filter (tracks key) ps) (filter (tracks key) ps)) (sym other)
        where
          never : (t : Bool) (with without : List Pointer) → cond (t && false) with without ≡ without
          never true with without = refl
          never false with without = refl

  loses_it : (ps : List Pointer) → is_taken taken key ≡ true → filter (tracks key) (map (remarked taken) ps) ≡ []
  loses_it [] gone = refl
  loses_it (p ∷ ps) gone =
      ap (λ t. cond t (remarked taken p ∷ filter (tracks key) (map (remarked taken) ps)) (filter (tracks key) (map (remarked taken) ps)))
      (untracked (key_eq p.key key) refl) ∙ loses_it ps gone
    where
      never : (t : Bool) → t && false ≡ false
      never true = refl
      never false = refl

      no_more : (t : Bool) → (t && not true) && true ≡ false
      no_more true = refl
      no_more false = refl

      untracked : (b : Bool) → key_eq p.key key ≡ b → is_tracked (mark_after taken p) && key_eq p.key key ≡ false
      untracked true same =
          let was : is_taken taken p.key ≡ true = ap (is_taken taken) (key_eq-true p.key key same) ∙ gone in
          (λ i. still_tracked (is_taken taken p.key) p.mark i && same i) ∙ (λ i. (is_tracked p.mark && not (was i)) && true)
          ∙ no_more (is_tracked p.mark)
      untracked false other = ap (λ e. is_tracked (mark_after taken p) && e) other ∙ never (is_tracked (mark_after taken p))

  -- those of a key that was taken aren't any more, and those of any other key are
  pub tracked_after : (ps : List Pointer) → filter (tracks key) (map (remarked taken) ps) ≡ cond (is_taken taken key) [] (filter (tracks key) ps)
  tracked_after ps = by_taken (is_taken taken key) refl
    where
      by_taken : (b : Bool) → is_taken taken key ≡ b → filter (tracks key) (map (remarked taken) ps) ≡ cond b [] (filter (tracks key) ps)
      by_taken true gone = loses_it ps gone
      by_taken false left = keeps_it ps left

-- ---- A key that was taken had one pointer

count_of_taken : (pool : Pool) (rule : PruneRule) (moment : ℕ) (key : Key) → is_taken (pruned pool rule moment) key ≡ true
    → count_at pool key ≡ 1
count_of_taken pool rule moment key = among (pruned pool rule moment) alone
  where
    second : (a b : Bool) → a && b ≡ true → b ≡ true
    second true b both = both
    second false b both = absurd (clash false both refl)

    alone : AllByRecursion (λ p. count_at pool p.key ≡ 1) (pruned pool rule moment)
    alone =
        pruned_keep (λ p. count_at pool p.key ≡ 1) pool rule moment
        (all_tested (λ p. count_at pool p.key ≡ 1) (λ p. is_tracked p.mark && (count_at pool p.key == 1))
        (λ p passes. eqb-true (count_at pool p.key) 1 (second (is_tracked p.mark) (count_at pool p.key == 1) passes)) pool.pointers)

    among : (taken : List Pointer) → AllByRecursion (λ p. count_at pool p.key ≡ 1) taken → is_taken taken key ≡ true
        → count_at pool key ≡ 1
    among [] all gone = absurd (clash false gone refl)
    among (q ∷ qs) all gone = by_key (λ passes. among qs all.1 passes) (key_eq q.key key) refl gone
      where
        by_key : (is_taken qs key ≡ true → count_at pool key ≡ 1) → (b : Bool) → key_eq q.key key ≡ b
            → (b || is_taken qs key) ≡ true → count_at pool key ≡ 1
        by_key rest true same passes = sym (ap (count_at pool) (key_eq-true q.key key same)) ∙ all.0
        by_key rest false other passes = rest passes

-- ---- Two pointers go together as they did

module _ (taken : List Pointer) where
  -- those of one home are both of a key that was not taken
  abbrev StayShared : Pointer → Pointer → Type 0
  StayShared p q = is_shared p q ≡ true → is_taken taken p.key ≡ false

  first_two : (a b c : Bool) → (a && b) && c ≡ true → c ≡ true
  first_two true true c all = all
  first_two true false c all = absurd (clash false all refl)
  first_two false b c all = absurd (clash false all refl)

  unshared : (a b c s t : Bool) → (a && b) && c ≡ false → ((a && s) && (b && t)) && c ≡ false
  unshared true true true s t off = absurd (clash true refl off)
  unshared true true false true true off = refl
  unshared true true false true false off = refl
  unshared true true false false t off = refl
  unshared true false c true t off = refl
  unshared true false c false t off = refl
  unshared false b c s t off = refl

  together_after : (p q : Pointer) → GoTogether p q → StayShared p q → GoTogether (remarked taken p) (remarked taken q)
  together_after p q go stay = by_shared (is_shared p q) refl
    where
      by_shared : (b : Bool) → is_shared p q ≡ b → GoTogether (remarked taken p) (remarked taken q)
      by_shared true shared =
          let same : p.key ≡ q.key = key_eq-true p.key q.key (first_two (is_tracked p.mark) (is_tracked q.mark) (key_eq p.key q.key) shared) in
          let left : is_taken taken p.key ≡ false = stay shared in
          let left_too : is_taken taken q.key ≡ false = ap (is_taken taken) (sym same) ∙ left in
          subst (λ (r : Pointer). GoTogether r (remarked taken q)) (unmarked p left)
          (subst (GoTogether p) (unmarked q left_too) go)
        where
          unmarked : (r : Pointer) → is_taken taken r.key ≡ false → r ≡ remarked taken r
          unmarked r left =
              by_mark (is_tracked r.mark)
              ∙ ap (λ t. record r { mark = cond (is_tracked r.mark && t) loose r.mark }) (sym left)
            where
              by_mark : (t : Bool) → r ≡ record r { mark = cond (t && false) loose r.mark }
              by_mark true = refl
              by_mark false = refl
      by_shared false apart =
          let after : is_shared (remarked taken p) (remarked taken q) ≡ false =
          (λ i. (still_tracked (is_taken taken p.key) p.mark i && still_tracked (is_taken taken q.key) q.mark i) && key_eq p.key q.key)
          ∙ unshared (is_tracked p.mark) (is_tracked q.mark) (key_eq p.key q.key) (not (is_taken taken p.key)) (not (is_taken taken q.key)) apart in
          record {
            slots = go.slots;
            one_home = λ shared. absurd (clash (is_shared (remarked taken p) (remarked taken q)) shared after);
            two_blocks = λ other. go.two_blocks apart;
          }

  tracks_fewer : (key : Key) (p : Pointer) (ps : List Pointer) → length (filter (tracks key) ps) ≤ length (filter (tracks key) (p ∷ ps))
  tracks_fewer key p ps = by_test (tracks key p)
    where
      by_test : (b : Bool) → length (filter (tracks key) ps) ≤ length (cond b (p ∷ filter (tracks key) ps) (filter (tracks key) ps))
      by_test true = omega arith
      by_test false = omega arith

  pub pairs_after : (ps : List Pointer) → ((key : Key) → is_taken taken key ≡ true → length (filter (tracks key) ps) ≤ 1)
      → Pairwise GoTogether ps → Pairwise GoTogether (map (remarked taken) ps)
  pairs_after [] few pairs = tt
  pairs_after (p ∷ ps) few pairs = (
    each ps pairs.0 stay,
    pairs_after ps (λ key gone. omega (arith, few key gone, tracks_fewer key p ps)) pairs.1,
  )
    where
      each : (qs : List Pointer) → AllByRecursion (GoTogether p) qs → AllByRecursion (StayShared p) qs
          → AllByRecursion (GoTogether (remarked taken p)) (map (remarked taken) qs)
      each [] all stays = tt
      each (q ∷ qs) all stays = (together_after p q all.0 stays.0, each qs all.1 stays.1)

      never_shared : is_tracked p.mark ≡ true → is_taken taken p.key ≡ true → filter (tracks p.key) ps ≡ []
      never_shared counted gone = none (filter (tracks p.key) ps) refl
        where
          itself : tracks p.key p ≡ true
          itself = (λ i. counted i && key_eq p.key p.key) ∙ key_eq-same p.key

          none : (qs : List Pointer) → filter (tracks p.key) ps ≡ qs → qs ≡ []
          none [] is = refl
          none (q ∷ qs) is =
              let two : length (filter (tracks p.key) (p ∷ ps)) ≤ 1 = few p.key gone in
              let more : length (filter (tracks p.key) (p ∷ ps)) ≡ length (p ∷ filter (tracks p.key) ps) =
              ap (λ b. length (cond b (p ∷ filter (tracks p.key) ps) (filter (tracks p.key) ps))) itself in
              let longer : length (filter (tracks p.key) ps) ≡ length (q ∷ qs) = ap length is in
              absurd (omega (arith, two, more, longer))

      stay : AllByRecursion (StayShared p) ps
      stay = by_tests (is_tracked p.mark) (is_taken taken p.key) refl refl
        where
          untouched : (qs : List Pointer) → is_taken taken p.key ≡ false → AllByRecursion (StayShared p) qs
          untouched [] left = tt
          untouched (q ∷ qs) left = ((λ shared. left), untouched qs left)

          unshared_all : (qs : List Pointer) → AllByRecursion (λ q. is_shared p q ≡ false) qs → AllByRecursion (StayShared p) qs
          unshared_all [] all = tt
          unshared_all (q ∷ qs) all = ((λ shared. absurd (clash (is_shared p q) shared all.0)), unshared_all qs all.1)

          of_untracked : (qs : List Pointer) → is_tracked p.mark ≡ false → AllByRecursion (λ q. is_shared p q ≡ false) qs
          of_untracked [] off = tt
          of_untracked (q ∷ qs) off = (ap (λ b. (b && is_tracked q.mark) && key_eq p.key q.key) off, of_untracked qs off)

          of_alone : (qs : List Pointer) → is_tracked p.mark ≡ true → AllByRecursion (λ q. tracks p.key q ≡ false) qs
              → AllByRecursion (λ q. is_shared p q ≡ false) qs
          of_alone [] counted all = tt
          of_alone (q ∷ qs) counted all = (shared_tracks p.key p q counted refl ∙ all.0, of_alone qs counted all.1)

          by_tests : (t b : Bool) → is_tracked p.mark ≡ t → is_taken taken p.key ≡ b → AllByRecursion (StayShared p) ps
          by_tests false b off is = unshared_all ps (of_untracked ps off)
          by_tests true false counted left = untouched ps left
          by_tests true true counted gone =
              unshared_all ps (of_alone ps counted (all_fail (tracks p.key) ps (never_shared counted gone)))

-- of the pool's pointers
pub pairs_pruned : (pool : Pool) (rule : PruneRule) (moment : ℕ) → Pairwise GoTogether pool.pointers
    → Pairwise GoTogether (map (remarked (pruned pool rule moment)) pool.pointers)
pairs_pruned pool rule moment =
    pairs_after (pruned pool rule moment) pool.pointers (λ key gone. omega (arith, count_of_taken pool rule moment key gone))
