-- Which seal counts when one slot of the ring changes.
use Rattle.std.proofs.Common.{◌≡◌, ◌≢◌, ◌⊎◌, ℕ, zero, suc, ◌<◌, ◌≤◌, ◌%◌, Bool, true, false, ◌&&◌, ◌==◌, Option, Some, None, length, refl, sym, ◌∙◌, ap, subst, inl, inr, ⊎_elim, arith}
use Rattle.std.specs.Prelude.{List, IfSome, IsSomeAnd, nat_lt, nat_le, unwrap_or, if◌then◌else◌}
use Rattle.std.proofs.lemmas.Bool.{cases_eq}
use Rattle.std.proofs.lemmas.Bool.Decides.{nat_tests, eqb_tells}
use Rattle.disk_model.specs.Images.{Image, sector_at}
use Rattle.uber_ring.specs.Seals.{is_body, seal_in, body_seal}
use Rattle.uber_ring.specs.Ring.{slot_count, fewest_sectors, body_sector, gate_is_open, behind, seal_at, higher, highest, newest}
use Rattle.uber_ring.specs.RingWrites.{slot_of, SameElsewhere}
use Rattle.uber_ring.specs.declared.seal.Seal.{Seal}

same_seal : (a b : Seal) → Some a ≡ Some b → a ≡ b
same_seal a b same = ap (λ (o : Option Seal). unwrap_or o a) same

-- the higher of two is one of them, and no lower than the other
higher_is : (x y : Option Seal) (a : Seal) → higher x y ≡ Some a
    → ((x ≡ Some a) × IfSome y (λ b. b.group ≤ a.group)) ⊎ ((y ≡ Some a) × IfSome x (λ b. b.group < a.group))
higher_is None y a is = inr (is, tt)
higher_is (Some b) None a is = inl (is, tt)
higher_is (Some b) (Some c) a is = by_test (nat_lt b.group c.group) refl is
  where
    by_test : (t : Bool) → nat_lt b.group c.group ≡ t → (if t then Some c else Some b) ≡ Some a
        → ((Some b ≡ Some a) × (c.group ≤ a.group)) ⊎ ((Some c ≡ Some a) × (b.group < a.group))
    by_test true less same =
        let here : c.group ≡ a.group = ap (λ (s : Seal). s.group) (same_seal c a same) in
        inr (same, below b.group c.group a.group less here)
      where
        below : (x y z : ℕ) → nat_lt x y ≡ true → y ≡ z → x < z
        below x y z less here = grind (arith, nat_tests, less, here)
    by_test false more same =
        let here : b.group ≡ a.group = ap (λ (s : Seal). s.group) (same_seal b a same) in
        inl (same, at_most b.group c.group a.group more here)
      where
        at_most : (x y z : ℕ) → nat_lt x y ≡ false → x ≡ z → y ≤ z
        at_most x y z more here = grind (arith, nat_tests, more, here)

module _ (seals : ℕ → Option Seal) where
  -- it stands in one of the slots
  pub stands_in : (count : ℕ) (a : Seal) → highest seals count ≡ Some a → (slot : ℕ) × (slot < count) × (seals slot ≡ Some a)
  stands_in zero a is = absurd (cc is)
  stands_in (suc count) a is =
      ⊎_elim
      (λ first. let found = stands_in count a first.0 in (found.0, omega (arith, found.1), found.2))
      (λ last. (count, omega arith, last.0))
      (higher_is (highest seals count) (seals count) a is)

  weaker : (x : Option Seal) (a : Seal) → IfSome x (λ b. b.group < a.group) → IfSome x (λ b. b.group ≤ a.group)
  weaker None a less = tt
  weaker (Some b) a less = omega (arith, less)

  -- where none counts, no slot has one
  pub all_none : (count : ℕ) → highest seals count ≡ None → (slot : ℕ) → slot < count → seals slot ≡ None
  all_none zero none slot within = absurd (omega (arith, within))
  all_none (suc count) none slot within =
      let parts = no_higher (highest seals count) (seals count) none in
      ⊎_elim
      (λ (here : slot ≡ count). ap seals here ∙ parts.1)
      (λ (other : slot ≢ count). all_none count parts.0 slot (inside within other))
      (cases_eq slot count)
    where
      inside : slot < suc count → slot ≢ count → slot < count
      inside w o = grind (arith, w, o)

      no_higher : (x y : Option Seal) → higher x y ≡ None → (x ≡ None) × (y ≡ None)
      no_higher None y is = (refl, is)
      no_higher (Some b) None is = absurd (cc is)
      no_higher (Some b) (Some c) is = by_test (nat_lt b.group c.group) is
        where
          by_test : (t : Bool) → (if t then Some c else Some b) ≡ None → (Some b ≡ None) × (Some c ≡ None)
          by_test true none = absurd (cc none)
          by_test false none = absurd (cc none)

  -- and none is of a higher group
  pub none_higher : (count : ℕ) (a : Seal) → highest seals count ≡ Some a → (slot : ℕ) → slot < count
      → IfSome (seals slot) (λ b. b.group ≤ a.group)
  none_higher zero a is slot within = absurd (omega (arith, within))
  none_higher (suc count) a is slot within =
      ⊎_elim
      (λ first. ⊎_elim
      (λ (here : slot ≡ count). subst (λ s. IfSome (seals s) (λ b. b.group ≤ a.group)) (sym here) first.1)
      (λ (other : slot ≢ count). none_higher count a first.0 slot (inside within other))
      (cases_eq slot count))
      (λ last. ⊎_elim
      (λ (here : slot ≡ count). subst (λ s. IfSome (seals s) (λ b. b.group ≤ a.group)) (sym here)
      (subst (λ (o : Option Seal). IfSome o (λ b. b.group ≤ a.group)) (sym last.0) (omega arith)))
      (λ (other : slot ≢ count). lower (highest seals count) refl (λ best some. none_higher count best some slot (inside within other))
      (λ none. all_none count none slot (inside within other)) last.1)
      (cases_eq slot count))
      (higher_is (highest seals count) (seals count) a is)
    where
      inside : slot < suc count → slot ≢ count → slot < count
      inside w o = grind (arith, w, o)

      no_more : (o : Option Seal) (x y : ℕ) → IfSome o (λ b. b.group ≤ x) → x < y → IfSome o (λ b. b.group ≤ y)
      no_more None x y le lt = tt
      no_more (Some b) x y le lt = omega (arith, le, lt)

      lower : (o : Option Seal) → highest seals count ≡ o
          → ((best : Seal) → highest seals count ≡ Some best → IfSome (seals slot) (λ b. b.group ≤ best.group))
          → (highest seals count ≡ None → seals slot ≡ None) → IfSome o (λ b. b.group < a.group)
          → IfSome (seals slot) (λ b. b.group ≤ a.group)
      lower None none earlier nothing less = subst (λ (o : Option Seal). IfSome o (λ b. b.group ≤ a.group)) (sym (nothing none)) tt
      lower (Some best) some earlier nothing less = no_more (seals slot) best.group a.group (earlier best some) less

  -- the one that every other is below
  pub alone_highest : (count slot : ℕ) (a : Seal) → slot < count → seals slot ≡ Some a
      → ((other : ℕ) → other < count → other ≢ slot → IfSome (seals other) (λ b. b.group < a.group)) → highest seals count ≡ Some a
  alone_highest zero slot a within is below = absurd (omega (arith, within))
  alone_highest (suc count) slot a within is below =
      ⊎_elim
      (λ (here : slot ≡ count). over (highest seals count) refl (subst (λ s. seals s ≡ Some a) here is) here)
      (λ (other : slot ≢ count). under (seals count)
      (alone_highest count slot a (inside within other) is (λ o w differs. below o (omega (arith, w)) differs))
      (below count (omega arith) (λ same. other (sym same))))
      (cases_eq slot count)
    where
      inside : slot < suc count → slot ≢ count → slot < count
      inside w o = grind (arith, w, o)

      under : (y : Option Seal) → highest seals count ≡ Some a → IfSome y (λ b. b.group < a.group) → higher (highest seals count) y ≡ Some a
      under None first less = ap (λ (o : Option Seal). higher o None) first
      under (Some b) first less = ap (λ (o : Option Seal). higher o (Some b)) first
          ∙ ap (λ t. if t then Some b else Some a) (not_less a.group b.group less)
        where
          not_less : (x y : ℕ) → y < x → nat_lt x y ≡ false
          not_less x y lt = grind (arith, nat_tests, lt)

      over : (x : Option Seal) → highest seals count ≡ x → seals count ≡ Some a → slot ≡ count
          → higher (highest seals count) (seals count) ≡ Some a
      over None first last here = ap (λ (o : Option Seal). higher o (seals count)) first ∙ last
      over (Some best) first last here =
          let found = stands_in count best first in
          let less = subst (λ (o : Option Seal). IfSome o (λ b. b.group < a.group)) found.2
          (below found.0 (omega (arith, found.1)) (λ same. omega (arith, found.1, same, here))) in
          ap (λ (o : Option Seal). higher o (seals count)) first ∙ ap (higher (Some best)) last
          ∙ ap (λ t. if t then Some a else Some best) (is_less best.group a.group less)
        where
          is_less : (x y : ℕ) → x < y → nat_lt x y ≡ true
          is_less x y lt = grind (arith, nat_tests, lt)

-- a valid seal stands in its group's slot
pub in_its_slot : (version slot : ℕ) (image : Image) (a : Seal) → seal_at version image slot ≡ Some a → slot_of a.group ≡ slot
unfolding seal_at behind
in_its_slot version slot image a is =
    through_body (nat_le fewest_sectors (length image)) (sector_at image (body_sector slot)) (through_gate (gate_is_open image slot) _ is)
  where
    through_gate : (t : Bool) (x : Option Seal) → (if t then x else None) ≡ Some a → x ≡ Some a
    through_gate true x same = same
    through_gate false x same = absurd (cc same)

    of_test : (t : Bool) (seal : Seal) → ((seal.group % 16 == slot) ≡ false → t ≡ false) → (if t then Some seal else None) ≡ Some a
        → slot_of a.group ≡ slot
    of_test true seal wrong same =
        ⊎_elim
        (λ fits. ap (λ (s : Seal). s.group % 16) (sym (same_seal seal a same)) ∙ fits.1)
        (λ misfits. absurd (cc (wrong misfits.0)))
        (eqb_tells (seal.group % 16) slot)
    of_test false seal wrong same = absurd (cc same)

    through_body : (t : Bool) (body : List ℕ) → (if t then body_seal version slot body else None) ≡ Some a → slot_of a.group ≡ slot
    through_body true body same = of_test _ (seal_in body)
        (λ misfits. wrong_slot (is_body body && ((seal_in body).version == version)) _ misfits) same
      where
        wrong_slot : (b c : Bool) → c ≡ false → (b && c) ≡ false
        wrong_slot true c misfits = misfits
        wrong_slot false c misfits = refl
    through_body false body same = absurd (cc same)

module _ (version slot : ℕ) (old new : Image) (within : slot < slot_count) (elsewhere : SameElsewhere slot old new) where
  lower_group : (o : Option Seal) (x : ℕ) → IfSome o (λ b. (b.group ≤ x) × (b.group ≢ x)) → IfSome o (λ b. b.group < x)
  lower_group None x both = tt
  lower_group (Some b) x both = strictly b.group x both.0 both.1
    where
      strictly : (y z : ℕ) → y ≤ z → y ≢ z → y < z
      strictly y z le ne = grind (arith, le, ne)

  -- the seals of the other slots, seen from the one that counted
  others : (a : Seal) → newest version old ≡ Some a → (other : ℕ) → other < slot_count → other ≢ slot
      → IfSome (seal_at version new other) (λ b. b.group ≤ a.group)
  unfolding newest
  others a is other inside differs =
      subst (λ (o : Option Seal). IfSome o (λ b. b.group ≤ a.group)) (sym (elsewhere version other differs))
      (none_higher (seal_at version old) slot_count a is other inside)

  -- a slot that now has no seal, or one of a lower group, leaves the seal that counts
  pub newest_stays : (a : Seal) → newest version old ≡ Some a → slot ≢ slot_of a.group
      → IfSome (seal_at version new slot) (λ b. b.group < a.group) → newest version new ≡ Some a
  unfolding newest
  newest_stays a is apart less = alone_highest (seal_at version new) slot_count found.0 a found.1
      (elsewhere version found.0 differs ∙ found.2) below
    where
      found : (s : ℕ) × (s < slot_count) × (seal_at version old s ≡ Some a)
      found = stands_in (seal_at version old) slot_count a is

      own : slot_of a.group ≡ found.0
      own = in_its_slot version found.0 old a found.2

      differs : found.0 ≢ slot
      differs same = apart (sym (own ∙ same))

      distinct : (other : ℕ) (o : Option Seal) → seal_at version new other ≡ o → other ≢ found.0 → IfSome o (λ b. b.group ≤ a.group)
          → IfSome o (λ b. (b.group ≤ a.group) × (b.group ≢ a.group))
      distinct other None same unlike le = tt
      distinct other (Some b) same unlike le = (le, λ groups. unlike (sym (in_its_slot version other new b same) ∙ ap slot_of groups ∙ own))

      below : (other : ℕ) → other < slot_count → other ≢ found.0 → IfSome (seal_at version new other) (λ b. b.group < a.group)
      below other inside unlike =
          ⊎_elim
          (λ (here : other ≡ slot). subst (λ s. IfSome (seal_at version new s) (λ b. b.group < a.group)) (sym here) less)
          (λ (there : other ≢ slot). lower_group (seal_at version new other) a.group
          (distinct other (seal_at version new other) refl unlike (others a is other inside there)))
          (cases_eq other slot)

  -- a slot that now has a seal of a higher group has the one that counts
  pub newest_becomes : (a next : Seal) → newest version old ≡ Some a → seal_at version new slot ≡ Some next → a.group < next.group
      → newest version new ≡ Some next
  unfolding newest
  newest_becomes a next is here more =
      alone_highest (seal_at version new) slot_count slot next within here
      (λ other inside differs. raised (seal_at version new other) (others a is other inside differs))
    where
      raised : (o : Option Seal) → IfSome o (λ b. b.group ≤ a.group) → IfSome o (λ b. b.group < next.group)
      raised None le = tt
      raised (Some b) le = omega (arith, le, more)

  -- where none counted, the slot's own counts
  pub newest_begins : (next : Seal) → newest version old ≡ None → seal_at version new slot ≡ Some next → newest version new ≡ Some next
  unfolding newest
  newest_begins next none here =
      alone_highest (seal_at version new) slot_count slot next within here
      (λ other inside differs. subst (λ (o : Option Seal). IfSome o (λ b. b.group < next.group))
      (sym (elsewhere version other differs ∙ all_none (seal_at version old) slot_count none other inside)) tt)

  -- or still none
  pub newest_none : newest version old ≡ None → seal_at version new slot ≡ None → newest version new ≡ None
  unfolding newest
  newest_none none here = every (seal_at version new) slot_count each
    where
      each : (other : ℕ) → other < slot_count → seal_at version new other ≡ None
      each other inside =
          ⊎_elim
          (λ (same : other ≡ slot). ap (seal_at version new) same ∙ here)
          (λ (differs : other ≢ slot). elsewhere version other differs ∙ all_none (seal_at version old) slot_count none other inside)
          (cases_eq other slot)

      every : (seals : ℕ → Option Seal) (count : ℕ) → ((other : ℕ) → other < count → seals other ≡ None) → highest seals count ≡ None
      every seals zero none_of = refl
      every seals (suc count) none_of =
          ap (λ (o : Option Seal). higher o (seals count)) (every seals count (λ other inside. none_of other (omega (arith, inside))))
          ∙ none_of count (omega arith)

-- what counts is a valid seal
pub newest_valid : (version : ℕ) (image : Image)
    → IfSome (newest version image) (λ best. seal_at version image (slot_of best.group) ≡ Some best)
unfolding newest
newest_valid version image = of_highest (highest (seal_at version image) slot_count) refl
  where
    of_highest : (o : Option Seal) → highest (seal_at version image) slot_count ≡ o
        → IfSome o (λ best. seal_at version image (slot_of best.group) ≡ Some best)
    of_highest None same = tt
    of_highest (Some best) same =
        let found = stands_in (seal_at version image) slot_count best same in
        ap (seal_at version image) (in_its_slot version found.0 image best found.2) ∙ found.2

-- and no valid seal is of a higher group
pub newest_highest : (version slot : ℕ) (image : Image) → slot < slot_count
    → IfSome (seal_at version image slot) (λ seal. IsSomeAnd (newest version image) (λ best. seal.group ≤ best.group))
unfolding newest
newest_highest version slot image within = of_both (highest (seal_at version image) slot_count) (seal_at version image slot) refl refl
  where
    of_both : (o s : Option Seal) → highest (seal_at version image) slot_count ≡ o → seal_at version image slot ≡ s
        → IfSome s (λ seal. IsSomeAnd o (λ best. seal.group ≤ best.group))
    of_both o None same here = tt
    of_both None (Some seal) same here = absurd (cc (all_none (seal_at version image) slot_count same slot within, here))
    of_both (Some best) (Some seal) same here =
        subst (λ (x : Option Seal). IfSome x (λ s. s.group ≤ best.group)) here
        (none_higher (seal_at version image) slot_count best same slot within)
