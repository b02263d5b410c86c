-- The form of a slot in 72 bytes: each field lies where the table says, what is written is read back, what is read is
-- in range, the last 8 bytes don't matter, and the records are those of the table.
use Rattle.std.proofs.Common.{◌≡◌, ℕ, zero, suc, ◌+◌, ◌-◌, ◌^◌, ◌<◌, ◌≤◌, Bool, true, false, cond, ◌&&◌, eqb, leb, ltb, ◌⊎◌, ◌↔◌, List, [], ◌∷◌, ◌++◌, length, get_or, take, drop, map, replicate, Option, Some, None, IsSome, is_some, refl, sym, ap, subst, ◌∙◌, inl, inr, append_assoc, arith}
use Rattle.std.specs.List.{concat, AllByRecursion}
use Rattle.std.proofs.lemmas.Bool.{and_parts, and_from, eqb-true, leb-true, le-leb, ltb-true, lt-ltb}
use Rattle.std.proofs.lemmas.List.{append-nil, take_at, take-take, drop-take, length-append}
use Rattle.ddt_entry.specs.declared.entry.SlotKind.{SlotKind}
use Rattle.ddt_entry.specs.declared.entry.SlotKind.TheVariants.{Plain, Flagged}
use Rattle.ddt_entry.specs.Bytes.{bytes_at, number_at, number_bytes, zeros, AreBytes}
use Rattle.ddt_entry.specs.Spelling.{KeyFits}
use Rattle.ddt_entry.proofs.Bytes.{length-number_bytes, length-zeros, length-bytes_at, AreBytes-bytes_at, AreBytes-concat, AreBytes-number_bytes, number_at-is, number_at-lt, number_bytes-at_4, number_bytes-at_8}
use Rattle.ddt_entry.proofs.Parts.{offset_of, part_of, cut, concat-cut}
use Rattle.slot_table.specs.declared.slot.SlotRecord.{SlotRecord}
use Rattle.table_state.specs.SlotRecords.{kind_at, slot_at, kind_said, is_slot, in_range, slot_of, slot_in}
use Rattle.table_state.specs.Spelling.{kind_number, slot_bytes, FitsSlot, IsSlot, IsSlotForm}

-- ---- The seven parts, and the zeros behind them

abbrev parts_of : SlotRecord → List (List ℕ)
parts_of h =
    number_bytes 4 h.lane ∷ number_bytes 4 h.slot ∷ number_bytes 4
    (kind_number h.pointer.kind) ∷ number_bytes 4 h.pointer.key.len ∷ h.pointer.key.digest ∷
    number_bytes 8 h.pointer.place ∷ number_bytes 8 h.pointer.birth ∷ []

abbrev lens : List ℕ
lens = 4 ∷ 4 ∷ 4 ∷ 4 ∷ 32 ∷ 8 ∷ 8 ∷ []

grouped : (a b c k d p q z : List ℕ) → a ++ b ++ c ++ k ++ d ++ p ++ q ++ z ≡ concat (a ∷ b ∷ c ∷ k ∷ d ∷ p ∷ q ∷ []) ++ z
grouped a b c k d p q z = simp (append_assoc, append-nil)

spelled_parts : (h : SlotRecord) → slot_bytes h ≡ concat (parts_of h) ++ zeros 8
spelled_parts h =
    grouped (number_bytes 4 h.lane) (number_bytes 4 h.slot) (number_bytes 4 (kind_number h.pointer.kind))
    (number_bytes 4 h.pointer.key.len) h.pointer.key.digest
    (number_bytes 8 h.pointer.place) (number_bytes 8 h.pointer.birth) (zeros 8)

parts_lens : (h : SlotRecord) → KeyFits h.pointer.key → map length (parts_of h) ≡ lens
parts_lens h fits =
    let digest = fits.digest_len in
    simp (length-number_bytes, digest)

-- what stands at a part's place
part : (h : SlotRecord) (rest : List ℕ) → KeyFits h.pointer.key → (k : ℕ) → k < 7
    → bytes_at (get_or lens k 0) (offset_of k lens) (slot_bytes h ++ rest) ≡ get_or (parts_of h) k []
part h rest fits k lt =
    ap (λ (xs : List ℕ). bytes_at (get_or lens k 0) (offset_of k lens) xs)
    (ap (λ (xs : List ℕ). xs ++ rest) (spelled_parts h) ∙ append_assoc (concat (parts_of h)) (zeros 8) rest)
    ∙ part_of (parts_of h) (zeros 8 ++ rest) lens (parts_lens h fits) k lt

pub length-slot : (h : SlotRecord) → FitsSlot h → length (slot_bytes h) ≡ 72
length-slot h fits =
    let digest = fits.key.digest_len in
    simp (length-append, length-number_bytes, length-zeros, digest)

length-parts : (h : SlotRecord) → KeyFits h.pointer.key → length (concat (parts_of h)) ≡ 64
length-parts h fits =
    let digest = fits.digest_len in
    simp (length-append, length-number_bytes, digest)

-- ---- Fields

abbrev made : ℕ → ℕ → SlotKind → ℕ → List ℕ → ℕ → ℕ → SlotRecord
made lane slot kind len digest place birth = record {
  lane = lane;
  slot = slot;
  pointer = record { kind = kind; key = record { len = len; digest = digest }; place = place; birth = birth };
}

same_slot : (a a' b b' : ℕ) (k : SlotKind) (l l' : ℕ) (d d' : List ℕ) (p p' q q' : ℕ) → a ≡ a' → b ≡ b' → l ≡ l' → d ≡ d' → p ≡ p' → q ≡ q'
    → made a b k l d p q ≡ made a' b' k l' d' p' q'
same_slot a a' b b' k l l' d d' p p' q q' ea eb el ed ep eq = cc

kind_number-lt : (kind : SlotKind) → kind_number kind < 2 ^ 32
kind_number-lt Plain = omega arith
kind_number-lt Flagged = omega arith

kind_said-number : (kind : SlotKind) → kind_said (kind_number kind) ≡ Some kind
kind_said-number Plain = refl
kind_said-number Flagged = refl

-- the fields that were spelled
fields_back : (h : SlotRecord) (rest : List ℕ) → FitsSlot h → slot_at h.pointer.kind (slot_bytes h ++ rest) ≡ h
fields_back h rest fits =
    same_slot _ h.lane _ h.slot h.pointer.kind _ h.pointer.key.len _ h.pointer.key.digest _ h.pointer.place _ h.pointer.birth
    (number_at-is 4 0 h.lane (slot_bytes h ++ rest) (part h rest fits.key 0 (omega arith)) fits.lane)
    (number_at-is 4 4 h.slot (slot_bytes h ++ rest) (part h rest fits.key 1 (omega arith)) fits.slot)
    (number_at-is 4 12 h.pointer.key.len (slot_bytes h ++ rest) (part h rest fits.key 3 (omega arith)) fits.key.len)
    (part h rest fits.key 4 (omega arith))
    (number_at-is 8 48 h.pointer.place (slot_bytes h ++ rest) (part h rest fits.key 5 (omega arith)) fits.place)
    (number_at-is 8 56 h.pointer.birth (slot_bytes h ++ rest) (part h rest fits.key 6 (omega arith)) fits.birth)

kind_back : (h : SlotRecord) (rest : List ℕ) → FitsSlot h → kind_said (kind_at (slot_bytes h ++ rest)) ≡ Some h.pointer.kind
kind_back h rest fits =
    ap kind_said (number_at-is 4 8 (kind_number h.pointer.kind) (slot_bytes h ++ rest) (part h rest fits.key 2 (omega arith))
    (kind_number-lt h.pointer.kind))
    ∙ kind_said-number h.pointer.kind

-- ---- Ranges

seven : (a b c d e f g : Bool) → a ≡ true → b ≡ true → c ≡ true → d ≡ true → e ≡ true → f ≡ true → g ≡ true
    → a && b && c && d && e && f && g ≡ true
seven a b c d e f g ha hb hc hd he hf hg = rw (ha, hb, hc, hd, he, hf, hg) refl

pub is_slot-true : (sectors group : ℕ) (h : SlotRecord) → IsSlot sectors group h → is_slot sectors group h ≡ true
is_slot-true sectors group h is =
    let len : leb 1 h.pointer.key.len && leb h.pointer.key.len 4_096 ≡ true = and_from (leb 1 h.pointer.key.len)
    (leb h.pointer.key.len 4_096) (le-leb 1 h.pointer.key.len is.len.0) (le-leb h.pointer.key.len 4_096 is.len.1) in
    seven (leb h.lane 15) (leb h.slot 65_535) (leb 1 h.pointer.key.len && leb h.pointer.key.len 4_096) (leb 32 h.pointer.place)
    (ltb h.pointer.place sectors) (leb 1 h.pointer.birth) (leb h.pointer.birth group)
    (le-leb h.lane 15 is.lane) (le-leb h.slot 65_535 is.slot) len (le-leb 32 h.pointer.place is.place.0)
    (lt-ltb h.pointer.place sectors is.place.1)
    (le-leb 1 h.pointer.birth is.birth.0) (le-leb h.pointer.birth group is.birth.1)

each_of : (a b c d e f g : Bool) → a && b && c && d && e && f && g ≡ true
    → (a ≡ true) × (b ≡ true) × (c ≡ true) × (d ≡ true) × (e ≡ true) × (f ≡ true) × (g ≡ true)
each_of a b c d e f g all =
    let to_f = and_parts (a && b && c && d && e && f) g all in
    let to_e = and_parts (a && b && c && d && e) f to_f.0 in
    let to_d = and_parts (a && b && c && d) e to_e.0 in
    let to_c = and_parts (a && b && c) d to_d.0 in
    let to_b = and_parts (a && b) c to_c.0 in
    let to_a = and_parts a b to_b.0 in
    (to_a.0, to_a.1, to_b.1, to_c.1, to_d.1, to_e.1, to_f.1)

pub is_slot-from : (sectors group : ℕ) (h : SlotRecord) → is_slot sectors group h ≡ true → IsSlot sectors group h
is_slot-from sectors group h e =
    let each = each_of (leb h.lane 15) (leb h.slot 65_535) (leb 1 h.pointer.key.len && leb h.pointer.key.len 4_096) (leb 32 h.pointer.place)
    (ltb h.pointer.place sectors) (leb 1 h.pointer.birth) (leb h.pointer.birth group) e in
    let len = and_parts (leb 1 h.pointer.key.len) (leb h.pointer.key.len 4_096) each.2 in
    record {
      lane = leb-true h.lane 15 each.0;
      slot = leb-true h.slot 65_535 each.1;
      len = (leb-true 1 h.pointer.key.len len.0, leb-true h.pointer.key.len 4_096 len.1);
      place = (leb-true 32 h.pointer.place each.3, ltb-true h.pointer.place sectors each.4);
      birth = (leb-true 1 h.pointer.birth each.5, leb-true h.pointer.birth group each.6);
    }

chosen : (b : Bool) (g h : SlotRecord) → cond b (Some g) None ≡ Some h → (b ≡ true) × (g ≡ h)
chosen true g h e = (refl, cc)
chosen false g h e = absurd cc

-- which kind and which fields led to a record
read_from : (sectors group : ℕ) (o : Option SlotKind) (bytes : List ℕ) (h : SlotRecord) → slot_of sectors group o bytes ≡ Some h
    → (kind : SlotKind) × ((o ≡ Some kind) × (slot_at kind bytes ≡ h) × IsSlot sectors group h)
read_from sectors group None bytes h e = absurd cc
read_from sectors group (Some kind) bytes h e =
    let found = chosen (is_slot sectors group (slot_at kind bytes)) (slot_at kind bytes) h e in
    (kind, (refl, found.1, subst (λ (g : SlotRecord). IsSlot sectors group g) found.1 (is_slot-from sectors group (slot_at kind bytes) found.0)))

kind_tested : (one two : Bool) (kind : SlotKind) → cond one (Some Plain) (cond two (Some Flagged) None) ≡ Some kind
    → ((one ≡ true) × (kind ≡ Plain)) ⊎ ((two ≡ true) × (kind ≡ Flagged))
kind_tested true two kind e = inl (refl, cc)
kind_tested false true kind e = inr (refl, cc)
kind_tested false false kind e = absurd cc

kind_said-from : (number : ℕ) (kind : SlotKind) → kind_said number ≡ Some kind → number ≡ kind_number kind
kind_said-from number kind e =
    elim (kind_tested (eqb number 1) (eqb number 2) kind e) [
      | inl one ↦ eqb-true number 1 one.0 ∙ sym (ap kind_number one.1)
      | inr two ↦ eqb-true number 2 two.0 ∙ sym (ap kind_number two.1)
    ]

-- ---- The laws

in_range-some : (sectors group : ℕ) (h : SlotRecord) → IsSlot sectors group h → in_range sectors group h ≡ Some h
in_range-some sectors group h is = rw (is_slot-true sectors group h is) refl

pub written : (sectors group : ℕ) (h : SlotRecord) (rest : List ℕ) → FitsSlot h → IsSlot sectors group h
    → slot_in sectors group (slot_bytes h ++ rest) ≡ Some h
written sectors group h rest fits is =
    ap (λ (o : Option SlotKind). slot_of sectors group o (slot_bytes h ++ rest)) (kind_back h rest fits)
    ∙ ap (in_range sectors group) (fields_back h rest fits) ∙ in_range-some sectors group h is

fits_at : (kind : SlotKind) (bytes : List ℕ) → AreBytes bytes → 72 ≤ length bytes → FitsSlot (slot_at kind bytes)
fits_at kind bytes fits long = record {
  lane = number_at-lt 4 0 bytes fits;
  slot = number_at-lt 4 4 bytes fits;
  key = record {
    len = number_at-lt 4 12 bytes fits;
    digest_len = length-bytes_at 32 16 bytes (omega arith);
    digest = AreBytes-bytes_at 32 16 bytes fits;
  };
  place = number_at-lt 8 48 bytes fits;
  birth = number_at-lt 8 56 bytes fits;
}

-- the parts of the record that was read are the parts of the bytes
parts_again : (kind : SlotKind) (bytes : List ℕ) → kind_at bytes ≡ kind_number kind → AreBytes bytes → 72 ≤ length bytes
    → parts_of (slot_at kind bytes) ≡ cut lens 0 bytes
parts_again kind bytes said fits long =
    let lane = number_bytes-at_4 0 bytes fits (omega arith) in
    let slot = number_bytes-at_4 4 bytes fits (omega arith) in
    let number : number_bytes 4 (kind_number kind) ≡ bytes_at 4 8 bytes = sym (ap (number_bytes 4) said)
    ∙ number_bytes-at_4 8 bytes fits (omega arith) in
    let len = number_bytes-at_4 12 bytes fits (omega arith) in
    let place = number_bytes-at_8 48 bytes fits (omega arith) in
    let birth = number_bytes-at_8 56 bytes fits (omega arith) in
    rw (lane, slot, number, len, place, birth) refl

-- the first 64 bytes are those that the record is written in
front_again : (kind : SlotKind) (bytes : List ℕ) → kind_at bytes ≡ kind_number kind → AreBytes bytes → 72 ≤ length bytes
    → take 64 bytes ≡ take 64 (slot_bytes (slot_at kind bytes))
front_again kind bytes said fits long =
    let h : SlotRecord = slot_at kind bytes in
    let front : concat (parts_of h) ≡ take 64 bytes = ap concat (parts_again kind bytes said fits long) ∙ concat-cut lens 0 bytes in
    sym (ap (take 64) (spelled_parts h) ∙ take_at (concat (parts_of h)) (zeros 8) 64 (length-parts h (fits_at kind bytes fits long).key)
    ∙ front)

pub was_written : (sectors group : ℕ) (bytes : List ℕ) (h : SlotRecord) → AreBytes bytes → 72 ≤ length bytes
    → slot_in sectors group bytes ≡ Some h
    → (take 64 bytes ≡ take 64 (slot_bytes h)) × FitsSlot h × IsSlot sectors group h
was_written sectors group bytes h fits long e =
    let found = read_from sectors group (kind_said (kind_at bytes)) bytes h e in
    let said = kind_said-from (kind_at bytes) found.0 found.1.0 in (
      front_again found.0 bytes said fits long ∙ ap (λ (g : SlotRecord). take 64 (slot_bytes g)) found.1.1,
      subst FitsSlot found.1.1 (fits_at found.0 bytes fits long),
      found.1.2,
    )

pub AreBytes-replicate : (n : ℕ) → AreBytes (replicate n 0)
AreBytes-replicate zero i = omega arith
AreBytes-replicate (suc n) zero = omega arith
AreBytes-replicate (suc n) (suc i) = AreBytes-replicate n i

AreBytes-zeros : (n : ℕ) → AreBytes (zeros n)
unfolding zeros
AreBytes-zeros n = AreBytes-replicate n

parts-AreBytes : (h : SlotRecord) → FitsSlot h → AllByRecursion AreBytes (parts_of h)
parts-AreBytes h fits = (
  AreBytes-number_bytes 4 h.lane,
  (
    AreBytes-number_bytes 4 h.slot,
    (
      AreBytes-number_bytes 4 (kind_number h.pointer.kind),
      (AreBytes-number_bytes 4 h.pointer.key.len, (fits.key.digest, (AreBytes-number_bytes 8 h.pointer.place, (AreBytes-number_bytes 8 h.pointer.birth, tt)))),
    ),
  ),
)

pub slot-AreBytes : (h : SlotRecord) → FitsSlot h → AreBytes (slot_bytes h)
slot-AreBytes h fits =
    subst AreBytes (sym (spelled_parts h ∙ ap (λ (xs : List ℕ). concat (parts_of h) ++ xs) (sym (append-nil (zeros 8)))))
    (AreBytes-concat (concat (parts_of h) ∷ zeros 8 ∷ []) (AreBytes-concat (parts_of h) (parts-AreBytes h fits), (AreBytes-zeros 8, tt)))

-- a front that reaches far enough has the same parts
bytes_at-take : (len offset n : ℕ) (bytes : List ℕ) → offset + len ≤ n → bytes_at len offset (take n bytes) ≡ bytes_at len offset bytes
unfolding bytes_at
bytes_at-take len offset n bytes within =
    let there : n ≡ offset + (n - offset) = omega arith in
    ap (λ (m : ℕ). take len (drop offset (take m bytes))) there ∙ ap (take len) (drop-take offset (n - offset) bytes)
    ∙ take-take len (n - offset) (drop offset bytes) (omega arith)

number_at-take : (len offset n : ℕ) (bytes : List ℕ) → offset + len ≤ n → number_at len offset (take n bytes) ≡ number_at len offset bytes
unfolding number_at
number_at-take len offset n bytes within = rw (bytes_at-take len offset n bytes within) refl

fields_first : (kind : SlotKind) (bytes : List ℕ) → slot_at kind (take 64 bytes) ≡ slot_at kind bytes
fields_first kind bytes =
    same_slot _ _ _ _ kind _ _ _ _ _ _ _ _
    (number_at-take 4 0 64 bytes (omega arith)) (number_at-take 4 4 64 bytes (omega arith)) (number_at-take 4 12 64 bytes (omega arith))
    (bytes_at-take 32 16 64 bytes (omega arith)) (number_at-take 8 48 64 bytes (omega arith)) (number_at-take 8 56 64 bytes (omega arith))

slot_of-first : (sectors group : ℕ) (o : Option SlotKind) (bytes : List ℕ)
    → slot_of sectors group o (take 64 bytes) ≡ slot_of sectors group o bytes
slot_of-first sectors group None bytes = refl
slot_of-first sectors group (Some kind) bytes = ap (in_range sectors group) (fields_first kind bytes)

slot_in-first : (sectors group : ℕ) (bytes : List ℕ) → slot_in sectors group (take 64 bytes) ≡ slot_in sectors group bytes
slot_in-first sectors group bytes =
    ap (λ (n : ℕ). slot_of sectors group (kind_said n) (take 64 bytes)) (number_at-take 4 8 64 bytes (omega arith))
    ∙ slot_of-first sectors group (kind_said (kind_at bytes)) bytes

pub alike : (sectors group : ℕ) (one other : List ℕ) → take 64 one ≡ take 64 other → slot_in sectors group one ≡ slot_in sectors group other
alike sectors group one other same =
    sym (slot_in-first sectors group one) ∙ ap (slot_in sectors group) same ∙ slot_in-first sectors group other

-- ---- The table

kind_found : (number : ℕ) → (number ≡ 1) ⊎ (number ≡ 2) → (kind : SlotKind) × (kind_said number ≡ Some kind)
kind_found number (inl one) = (Plain, ap kind_said one)
kind_found number (inr two) = (Flagged, ap kind_said two)

kind_is : (kind : SlotKind) (number : ℕ) → number ≡ kind_number kind → (number ≡ 1) ⊎ (number ≡ 2)
kind_is Plain number e = inl e
kind_is Flagged number e = inr e

-- the ranges are the same whatever the kind
of_any_kind : (sectors group : ℕ) (one other : SlotKind) (bytes : List ℕ) → IsSlot sectors group (slot_at one bytes)
    → IsSlot sectors group (slot_at other bytes)
of_any_kind sectors group one other bytes is = record { lane = is.lane; slot = is.slot; len = is.len; place = is.place; birth = is.birth }

form_says : (sectors group : ℕ) (bytes : List ℕ) → IsSlotForm sectors group bytes
    → (h : SlotRecord) × (slot_in sectors group bytes ≡ Some h)
form_says sectors group bytes form =
    let found = kind_found (kind_at bytes) form.kind in
    let h : SlotRecord = slot_at found.0 bytes in
    (h, ap (λ (o : Option SlotKind). slot_of sectors group o bytes) found.1 ∙ in_range-some sectors group h (of_any_kind sectors group Plain found.0 bytes form.ranges))

says_form : (sectors group : ℕ) (bytes : List ℕ) (h : SlotRecord) → slot_in sectors group bytes ≡ Some h → IsSlotForm sectors group bytes
says_form sectors group bytes h e =
    let found = read_from sectors group (kind_said (kind_at bytes)) bytes h e in
    let ranges : IsSlot sectors group (slot_at found.0 bytes) = subst (λ (g : SlotRecord). IsSlot sectors group g)
    (sym found.1.1) found.1.2 in
    record {
      kind = kind_is found.0 (kind_at bytes) (kind_said-from (kind_at bytes) found.0 found.1.0);
      ranges = of_any_kind sectors group found.0 Plain bytes ranges;
    }

slot_from : (o : Option SlotRecord) → IsSome o → (h : SlotRecord) × (o ≡ Some h)
slot_from (Some h) e = (h, refl)
slot_from None e = absurd cc

pub right : (sectors group : ℕ) (bytes : List ℕ) → IsSome (slot_in sectors group bytes) ↔ IsSlotForm sectors group bytes
right sectors group bytes = (
  (λ some. let found = slot_from (slot_in sectors group bytes) some in says_form sectors group bytes found.0 found.1),
  (λ form. let said = form_says sectors group bytes form in ap is_some said.1),
)

refused : {P : Type 0} (o : Option SlotRecord) → ((h : SlotRecord) → o ≡ Some h → P) → ¬ P → o ≡ None
refused (Some h) says not_so = absurd (not_so (says h refl))
refused None says not_so = refl

pub wrong : (sectors group : ℕ) (bytes : List ℕ) → (slot_in sectors group bytes ≡ None) ↔ (¬ IsSlotForm sectors group bytes)
wrong sectors group bytes = (
  (λ e form. let said = form_says sectors group bytes form in absurd cc),
  (λ not_so. refused (slot_in sectors group bytes) (λ h e. says_form sectors group bytes h e) not_so),
)
