-- How the writes of chains go on from chain to chain.
use Rattle.std.proofs.Common.{◌≡◌, ℕ, zero, suc, ◌+◌, ◌-◌, ◌<◌, ◌≤◌, Bool, true, false, ◌==◌, ◌||◌, List, [], ◌∷◌, ◌++◌, Option, Some, None, length, take, drop, get_or, append_assoc, refl, sym, ap, subst, ◌∙◌, ⊎_elim, arith, eq-eqb}
use Rattle.std.specs.Prelude.{fold, slice_set, unwrap_or}
use Rattle.std.specs.List.{list_any, AllByRecursion}
use Rattle.std.proofs.lemmas.Bool.{or_left}
use Rattle.std.proofs.lemmas.Bool.Decides.{eqb_tells}
use Rattle.std.proofs.lemmas.Grind.{flat_map-append}
use Rattle.std.proofs.lemmas.List.{append-nil, take_more, drop_more, map-append, length-map, length-take, set-append_right, take-append-drop}
use Rattle.std.proofs.lemmas.List.Folds.{list_any-append}
use Rattle.disk_model.specs.Images.{Image}
use Rattle.disk_model.specs.DiskLaws.{TellsImage}
use Rattle.page_tree.specs.Chains.{pointer_or_null}
use Rattle.page_tree.specs.ChainWrites.{HoldsWrites, AreOpen, SameBut, MayTouchAll, ChainLeaves, Written, write_page}
use Rattle.page_tree.proofs.ChainBack.{writes_are_held, writes_behind_others}
use Rattle.page_tree.proofs.OpenPlaces.{is_open-parts, open_places-below, open_places-parts}
use Rattle.page_tree.specs.declared.pointer.PagePtr.{PagePtr}
use Rattle.table_state.specs.Sealed.{ChainPart, part_chain, places_in, roots_of, HoldsParts}
use Rattle.pool_model.proofs.Lists.{all_front, all_back}
use Rattle.txg_sync.specs.Writing.{HoldsSince}

-- ---- Places that are open

-- a sector that is named is none of the places that are open
pub apart_from_open : (sectors : ℕ) (named places : List ℕ) (sector : ℕ) → list_any (λ other. other == sector) named ≡ true
    → AreOpen sectors named places → list_any (λ place. place == sector) places ≡ false
apart_from_open sectors named [] sector found all = refl
apart_from_open sectors named (place ∷ places) sector found all =
    ⊎_elim
    (λ same. absurd (clash
    (sym (subst (λ s. list_any (λ other. other == s) named ≡ true) (sym same.1) found) ∙ (is_open-parts sectors named place all.0).fresh)))
    (λ other. ap (λ b. b || list_any (λ p. p == sector) places) other.0
    ∙ apart_from_open sectors (named ++ place ∷ []) places sector
    (list_any-append (λ o. o == sector) named (place ∷ []) ∙ or_left _ _ found) all.1)
    (eqb_tells place sector)
  where
    clash : true ≡ false → ⊥
    clash e = cc e

pub named_apart : (sectors : ℕ) (named places : List ℕ) → AreOpen sectors named places
    → AllByRecursion (λ sector. list_any (λ place. place == sector) places ≡ false) named
named_apart sectors named places all = each named (λ sector found. apart_from_open sectors named places sector found all)
  where
    each : (ns : List ℕ)
        → ((sector : ℕ) → list_any (λ other. other == sector) ns ≡ true → list_any (λ place. place == sector) places ≡ false)
        → AllByRecursion (λ sector. list_any (λ place. place == sector) places ≡ false) ns
    each [] from = tt
    each (n ∷ ns) from = (from n (or_left _ _ (eq-eqb n n refl)), each ns (λ sector found. from sector (behind (n == sector) _ found)))
      where
        behind : (a b : Bool) → b ≡ true → (a || b) ≡ true
        behind true b found = refl
        behind false b found = found

-- ---- One chain more

-- the chains that stand already stay, where the new one has other places
held_before : (done : List ChainPart) (places : List ℕ) (d c : Image)
    → AllByRecursion (λ sector. list_any (λ place. place == sector) places ≡ false) (places_in done) → SameBut places d c
    → HoldsParts d done → HoldsParts c done
held_before [] places d c apart same held = tt
held_before (part ∷ done) places d c apart same held = (
  writes_behind_others places d c part.places part.records held.0 same
      (all_front (λ sector. list_any (λ place. place == sector) places ≡ false) part.places (places_in done) apart),
  held_before done places d c
      (all_back (λ sector. list_any (λ place. place == sector) places ≡ false) part.places (places_in done) apart) same held.1,
)

held_one_more : (done : List ChainPart) (part : ChainPart) (c : Image) → HoldsParts c done → HoldsWrites c (part_chain part).writes
    → HoldsParts c (done ++ part ∷ [])
held_one_more [] part c held one = (one, tt)
held_one_more (first ∷ done) part c held one = (held.0, held_one_more done part c held.1 one)

module _ (parts : List ChainPart) (i : ℕ) (part : ChainPart) (inside : i < length parts) (here : part ≡ get_or parts i part) where
  next_parts : take (i + 1) parts ≡ take i parts ++ part ∷ []
  next_parts = take_more parts i part inside ∙ ap (λ (p : ChainPart). take i parts ++ p ∷ []) (sym here)

  one_place : (p : ChainPart) → places_in (p ∷ []) ≡ p.places
  one_place p = append-nil p.places

  all_places : places_in parts ≡ (places_in (take i parts) ++ part.places) ++ places_in (drop (i + 1) parts)
  all_places =
      ap places_in (sym (take-append-drop (i + 1) parts))
      ∙ flat_map-append (λ (p : ChainPart). p.places) (take (i + 1) parts) (drop (i + 1) parts)
      ∙ ap (λ (ps : List ChainPart). places_in ps ++ places_in (drop (i + 1) parts)) next_parts
      ∙ ap (λ (ps : List ℕ). ps ++ places_in (drop (i + 1) parts))
      (flat_map-append (λ (p : ChainPart). p.places) (take i parts) (part ∷ [])
      ∙ ap (λ (ps : List ℕ). places_in (take i parts) ++ ps) (one_place part))

  module _ (sectors : ℕ) (all : AreOpen sectors [] (places_in parts)) where
    so_far : AreOpen sectors [] (places_in (take i parts) ++ part.places)
    so_far = (open_places-parts sectors [] (places_in (take i parts) ++ part.places) (places_in (drop (i + 1) parts))
        (subst (λ (ps : List ℕ). AreOpen sectors [] ps) all_places all)).0

    own : AreOpen sectors (places_in (take i parts)) part.places
    own = (open_places-parts sectors [] (places_in (take i parts)) part.places so_far).1

    pub part_below : AllByRecursion (λ place. place < sectors) part.places
    part_below = open_places-below sectors sectors (places_in (take i parts)) part.places (omega arith) own

    -- each of its places is one of all
    only_wider : (d c : Image) → SameBut part.places d c → SameBut (places_in parts) d c
    only_wider d c same = record { count = same.count; others = λ at none. same.others at (inner at none) }
      where
        inner : (at : ℕ) → list_any (λ place. place == at) (places_in parts) ≡ false → list_any (λ place. place == at) part.places ≡ false
        inner at none = middle (list_any (λ place. place == at) (places_in (take i parts))) _ _
            (sym (list_any-append (λ place. place == at) (places_in (take i parts) ++ part.places) (places_in (drop (i + 1) parts))
            ∙ ap (λ b. b || list_any (λ place. place == at) (places_in (drop (i + 1) parts)))
            (list_any-append (λ place. place == at) (places_in (take i parts)) part.places))
            ∙ ap (list_any (λ place. place == at)) (sym all_places) ∙ none)
          where
            middle : (a b c' : Bool) → ((a || b) || c') ≡ false → b ≡ false
            middle a false c' e = refl
            middle true true c' e = absurd (cc e)
            middle false true c' e = absurd (cc e)

    pub part_leaves : (old mid : Image → Type 0) → ((d : Image) → mid d → ChainLeaves (places_in parts) old d) → (c : Image)
        → ChainLeaves part.places mid c → ChainLeaves (places_in parts) old c
    part_leaves old mid earlier c from =
        let first = earlier from.0 from.1 in
        let wider = only_wider from.0 c from.2 in
        (first.0, first.1, record { count = wider.count ∙ first.2.count; others = λ at none. wider.others at none ∙ first.2.others at none })

    pub part_touched : (old mid new : Option Image) → MayTouchAll old mid (places_in parts) → MayTouchAll mid new part.places
        → MayTouchAll old new (places_in parts)
    part_touched None mid new first touch = tt
    part_touched (Some image) mid new first touch =
        let now : MayTouchAll (Some first.0) new part.places = subst (λ (m : Option Image). MayTouchAll m new part.places) first.1 touch in
        let wider = only_wider first.0 now.0 now.2 in
        (now.0, now.1, record { count = wider.count ∙ first.2.count; others = λ at none. wider.others at none ∙ first.2.others at none })

    pub part_held : (old mid new : Option Image) → TellsImage sectors old → MayTouchAll old mid (places_in parts)
        → HoldsSince old mid (take i parts) → MayTouchAll mid new part.places → Written mid new (part_chain part).writes
        → HoldsSince old new (take (i + 1) parts)
    part_held None mid new tells before held touch written = tt
    part_held (Some image) mid new tells before held touch written =
        let d : Image = held.0 in
        let c : Image = fold write_page d (part_chain part).writes in
        let same_d : before.0 ≡ d = same_some before.0 d (sym before.1 ∙ held.1) in
        let count : length d ≡ sectors = ap length (sym same_d) ∙ before.2.count ∙ tells.count in
        let large : sectors ≤ length d = omega (arith, count) in
        let is_new : new ≡ Some c = subst (λ (m : Option Image). Written m new (part_chain part).writes) held.1 written in
        let touched : MayTouchAll (Some d) new part.places = subst (λ (m : Option Image). MayTouchAll m new part.places) held.1 touch in
        let same_c : touched.0 ≡ c = same_some touched.0 c (sym touched.1 ∙ is_new) in
        let same : SameBut part.places d c = subst (λ (x : Image). SameBut part.places d x) same_c touched.2 in (
          c,
          is_new,
          subst (λ (ps : List ChainPart). HoldsParts c ps) (sym next_parts)
              (held_one_more (take i parts) part c
              (held_before (take i parts) part.places d c (named_apart sectors (places_in (take i parts)) part.places own) same held.2)
              (writes_are_held d sectors (places_in (take i parts)) part.places part.records own large)),
        )
      where
        same_some : (a b : Image) → Some a ≡ Some b → a ≡ b
        same_some a b e = ap (λ (o : Option Image). unwrap_or o a) e

    -- the pointer to its first page stands behind those before it
    pub root_set : (initial pointers : List PagePtr) (root : Option PagePtr) → length parts ≤ length initial
        → pointers ≡ roots_of (take i parts) ++ drop i initial → root ≡ (part_chain part).root
        → slice_set pointers i (pointer_or_null root) ≡ roots_of (take (i + 1) parts) ++ drop (i + 1) initial
    root_set initial pointers root enough before is_root =
        ap (λ (ps : List PagePtr). slice_set ps i (pointer_or_null root))
        (before ∙ ap (λ (ps : List PagePtr). roots_of (take i parts) ++ ps)
        (drop_more initial i (pointer_or_null root) (omega (arith, inside, enough))))
        ∙ set-append_right (roots_of (take i parts)) (get_or initial i (pointer_or_null root) ∷ drop (i + 1) initial) i i
        (pointer_or_null root) count (omega arith)
        ∙ ap (λ n. roots_of (take i parts) ++ slice_set (get_or initial i (pointer_or_null root) ∷ drop (i + 1) initial) n
        (pointer_or_null root)) zero_left
        ∙ sym (append_assoc (roots_of (take i parts)) (pointer_or_null root ∷ []) (drop (i + 1) initial))
        ∙ ap (λ (ps : List PagePtr). ps ++ drop (i + 1) initial)
        (ap (λ (r : Option PagePtr). roots_of (take i parts) ++ pointer_or_null r ∷ []) is_root
        ∙ sym (map-append (λ (p : ChainPart). pointer_or_null (part_chain p).root) (take i parts) (part ∷ []))
        ∙ ap roots_of (sym next_parts))
      where
        zero_left : i - i ≡ 0
        zero_left = omega arith

        count : length (roots_of (take i parts)) ≡ i
        count = length-map (take i parts) (λ (p : ChainPart). pointer_or_null (part_chain p).root)
            ∙ omega (arith, length-take i parts, inside)

-- what holds of each holds at each index
pub all_at : {X : Type 0} (P : X → Type 0) (xs : List X) → AllByRecursion P xs → (k : ℕ) (d : X) → k < length xs → P (get_or xs k d)
all_at P [] all k d within = absurd (omega (arith, within))
all_at P (x ∷ xs) all zero d within = all.0
all_at P (x ∷ xs) all (suc k) d within = all_at P xs all.1 k d (omega (arith, within))
