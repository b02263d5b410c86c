-- The form of a change in 72 bytes: each field lies where the table says, what is written is read back, what is
-- read was written so, and the records are those of the table.
use Rattle.std.proofs.Common.{◌≡◌, ℕ, ◌+◌, ◌-◌, ◌^◌, ◌<◌, ◌≤◌, Bool, true, false, cond, not, ◌&&◌, eqb, leb, ◌⊎◌, ◌↔◌, List, [], ◌∷◌, ◌++◌, length, get_or, take, drop, map, Result, Ok, Err, IsOk, refl, sym, ap, subst, ◌∙◌, inl, inr, append_assoc, arith, is_ok, eq-eqb}
use Rattle.std.specs.List.{concat}
use Rattle.std.proofs.lemmas.Bool.{cases_lt, and_parts, and_from, eqb-true, leb-true, le-leb}
use Rattle.std.proofs.lemmas.List.{append-nil, take-append-drop, length-append}
use Rattle.ddt_entry.specs.declared.key.Key.{Key}
use Rattle.ddt_entry.specs.declared.entry.Home.{Home}
use Rattle.ddt_entry.specs.declared.entry.Change.{Change}
use Rattle.ddt_entry.specs.declared.entry.Change.TheVariants.{Entry, Gone}
use Rattle.ddt_entry.specs.declared.record.Malformed.{Malformed}
use Rattle.ddt_entry.specs.Bytes.{bytes_at, number_at, number_bytes, AreBytes}
use Rattle.ddt_entry.specs.Changes.{key_in}
use Rattle.ddt_entry.specs.Records.{Fields, fields_in, is_key_length, is_no_home, malformed, change_of, change_in}
use Rattle.ddt_entry.specs.Spelling.{no_home, fields_of, spelled, record_bytes, IsKeyLength, IsRecord, KeyFits, HomeFits, Fits}
use Rattle.ddt_entry.proofs.Bytes.{length-number_bytes, length-bytes_at, bytes_at-front, AreBytes-bytes_at, AreBytes-concat, AreBytes-number_bytes, number_at-front, number_at-is, number_at-lt, number_bytes-at_4, number_bytes-at_8, zero_bytes, zero_number}
use Rattle.ddt_entry.proofs.Parts.{offset_of, part_of, cut, concat-cut}

-- ---- The seven parts

abbrev parts_of : Fields → List (List ℕ)
parts_of f =
    number_bytes 4 f.kind ∷ number_bytes 4 f.key.len ∷ f.key.digest ∷
    number_bytes 8 f.home.place ∷ number_bytes 8 f.home.birth ∷ number_bytes 8 f.home.since ∷ number_bytes 8 f.home.count ∷ []

abbrev lens : List ℕ
lens = 4 ∷ 4 ∷ 32 ∷ 8 ∷ 8 ∷ 8 ∷ 8 ∷ []

grouped : (a b d p q s t : List ℕ) → a ++ b ++ d ++ p ++ q ++ s ++ t ≡ concat (a ∷ b ∷ d ∷ p ∷ q ∷ s ∷ t ∷ [])
grouped a b d p q s t = simp (append_assoc, append-nil)

spelled_parts : (f : Fields) → spelled f ≡ concat (parts_of f)
spelled_parts f =
    grouped (number_bytes 4 f.kind) (number_bytes 4 f.key.len) f.key.digest (number_bytes 8 f.home.place) (number_bytes 8 f.home.birth)
    (number_bytes 8 f.home.since) (number_bytes 8 f.home.count)

parts_lens : (f : Fields) → KeyFits f.key → map length (parts_of f) ≡ lens
parts_lens f fits =
    let digest = fits.digest_len in
    simp (length-number_bytes, digest)

-- what stands at a part's place
part : (f : Fields) (rest : List ℕ) → KeyFits f.key → (k : ℕ) → k < 7
    → bytes_at (get_or lens k 0) (offset_of k lens) (spelled f ++ rest) ≡ get_or (parts_of f) k []
part f rest fits k lt =
    ap (λ (xs : List ℕ). bytes_at (get_or lens k 0) (offset_of k lens) (xs ++ rest)) (spelled_parts f)
    ∙ part_of (parts_of f) rest lens (parts_lens f fits) k lt

-- ---- Fields

abbrev home_made : ℕ → ℕ → ℕ → ℕ → Home
home_made place birth since count = record { place = place; birth = birth; since = since; count = count }

same_home : (p p' b b' s s' c c' : ℕ) → p ≡ p' → b ≡ b' → s ≡ s' → c ≡ c' → home_made p b s c ≡ home_made p' b' s' c'
same_home p p' b b' s s' c c' ep eb es ec = cc

abbrev made : ℕ → ℕ → List ℕ → ℕ → ℕ → ℕ → ℕ → Fields
made kind len digest place birth since count =
    record { kind = kind; key = record { len = len; digest = digest }; home = home_made place birth since count }

same_fields : (k k' l l' : ℕ) (d d' : List ℕ) (p p' b b' s s' c c' : ℕ) → k ≡ k' → l ≡ l' → d ≡ d' → p ≡ p' → b ≡ b' → s ≡ s' → c ≡ c'
    → made k l d p b s c ≡ made k' l' d' p' b' s' c'
same_fields k k' l l' d d' p p' b b' s s' c c' ek el ed ep eb es ec = cc

-- what is behind the 72 bytes changes no field
fields_first : (bytes rest : List ℕ) → 72 ≤ length bytes → fields_in (bytes ++ rest) ≡ fields_in bytes
fields_first bytes rest long =
    same_fields _ _ _ _ _ _ _ _ _ _ _ _ _ _
    (number_at-front 4 0 bytes rest (omega arith)) (number_at-front 4 4 bytes rest (omega arith))
    (bytes_at-front 32 8 bytes rest (omega arith))
    (number_at-front 8 40 bytes rest (omega arith)) (number_at-front 8 48 bytes rest (omega arith))
    (number_at-front 8 56 bytes rest (omega arith)) (number_at-front 8 64 bytes rest (omega arith))

-- the fields that were spelled
fields_back : (f : Fields) (rest : List ℕ) → f.kind < 2 ^ 32 → KeyFits f.key → HomeFits f.home → fields_in (spelled f ++ rest) ≡ f
fields_back f rest kind key home =
    same_fields _ f.kind _ f.key.len _ f.key.digest _ f.home.place _ f.home.birth _ f.home.since _ f.home.count
    (number_at-is 4 0 f.kind (spelled f ++ rest) (part f rest key 0 (omega arith)) kind)
    (number_at-is 4 4 f.key.len (spelled f ++ rest) (part f rest key 1 (omega arith)) key.len)
    (part f rest key 2 (omega arith))
    (number_at-is 8 40 f.home.place (spelled f ++ rest) (part f rest key 3 (omega arith)) home.place)
    (number_at-is 8 48 f.home.birth (spelled f ++ rest) (part f rest key 4 (omega arith)) home.birth)
    (number_at-is 8 56 f.home.since (spelled f ++ rest) (part f rest key 5 (omega arith)) home.since)
    (number_at-is 8 64 f.home.count (spelled f ++ rest) (part f rest key 6 (omega arith)) home.count)

-- the parts of the fields that were read are the parts of the bytes
parts_again : (bytes : List ℕ) → AreBytes bytes → 72 ≤ length bytes → parts_of (fields_in bytes) ≡ cut lens 0 bytes
parts_again bytes fits long =
    let kind = number_bytes-at_4 0 bytes fits (omega arith) in
    let len = number_bytes-at_4 4 bytes fits (omega arith) in
    let place = number_bytes-at_8 40 bytes fits (omega arith) in
    let birth = number_bytes-at_8 48 bytes fits (omega arith) in
    let since = number_bytes-at_8 56 bytes fits (omega arith) in
    let count = number_bytes-at_8 64 bytes fits (omega arith) in
    rw (kind, len, place, birth, since, count) refl

-- the bytes that were read
spelled_again : (bytes : List ℕ) → AreBytes bytes → 72 ≤ length bytes → spelled (fields_in bytes) ++ drop 72 bytes ≡ bytes
spelled_again bytes fits long =
    let front : spelled (fields_in bytes) ≡ take 72 bytes = spelled_parts (fields_in bytes) ∙ ap concat (parts_again bytes fits long)
    ∙ concat-cut lens 0 bytes in
    ap (λ (xs : List ℕ). xs ++ drop 72 bytes) front ∙ take-append-drop 72 bytes

key_fits : (bytes : List ℕ) → AreBytes bytes → 72 ≤ length bytes → KeyFits (fields_in bytes).key
key_fits bytes fits long = record {
  len = number_at-lt 4 4 bytes fits;
  digest_len = length-bytes_at 32 8 bytes (omega arith);
  digest = AreBytes-bytes_at 32 8 bytes fits;
}

home_fits : (bytes : List ℕ) → AreBytes bytes → HomeFits (fields_in bytes).home
home_fits bytes fits = record {
  place = number_at-lt 8 40 bytes fits;
  birth = number_at-lt 8 48 bytes fits;
  since = number_at-lt 8 56 bytes fits;
  count = number_at-lt 8 64 bytes fits;
}

-- ---- Changes

key-said : (change : Change) → (fields_of change).key ≡ key_in change
key-said (Entry entry) = refl
key-said (Gone key) = refl

kind-said : (change : Change) → (fields_of change).kind < 2 ^ 32
kind-said (Entry entry) = omega arith
kind-said (Gone key) = omega arith

home-said : (change : Change) → Fits change → HomeFits (fields_of change).home
home-said (Entry entry) fits = fits.1
home-said (Gone key) fits = record { place = omega arith; birth = omega arith; since = omega arith; count = omega arith }

key-fits : (change : Change) → Fits change → KeyFits (fields_of change).key
key-fits (Entry entry) fits = fits.0
key-fits (Gone key) fits = fits

fits-said : (change : Change) → KeyFits (fields_of change).key → HomeFits (fields_of change).home → Fits change
fits-said (Entry entry) key home = (key, home)
fits-said (Gone key) fits home = fits

is_key_length-true : (len : ℕ) → IsKeyLength len → is_key_length len ≡ true
is_key_length-true len h = and_from (leb 1 len) (leb len 4_096) (le-leb 1 len h.0) (le-leb len 4_096 h.1)

pub is_key_length-from : (len : ℕ) → is_key_length len ≡ true → IsKeyLength len
is_key_length-from len e =
    let both = and_parts (leb 1 len) (leb len 4_096) e in
    (leb-true 1 len both.0, leb-true len 4_096 both.1)

-- what a change's own fields say
said_again : (change : Change) → IsKeyLength (key_in change).len → change_of (fields_of change) ≡ Ok change
said_again (Entry entry) h = rw (is_key_length-true entry.key.len h) refl
said_again (Gone key) h = rw (is_key_length-true key.len h) refl

-- which test led to a change
judged : (fits one two : Bool) (x y change : Change)
    → cond (not fits) malformed (cond one (Ok x) (cond two (Ok y) malformed)) ≡ Ok change
    → (fits ≡ true) × (((one ≡ true) × (x ≡ change)) ⊎ ((two ≡ true) × (y ≡ change)))
judged false one two x y change e = absurd cc
judged true true two x y change e = (refl, inl (refl, cc))
judged true false true x y change e = (refl, inr (refl, cc))
judged true false false x y change e = absurd cc

no_home-from : (home : Home) → is_no_home home ≡ true → home ≡ no_home
no_home-from home e =
    let a = and_parts (eqb home.place 0 && eqb home.birth 0 && eqb home.since 0) (eqb home.count 0) e in
    let b = and_parts (eqb home.place 0 && eqb home.birth 0) (eqb home.since 0) a.0 in
    let c = and_parts (eqb home.place 0) (eqb home.birth 0) b.0 in
    let place : home.place ≡ 0 = eqb-true home.place 0 c.0 in
    let birth : home.birth ≡ 0 = eqb-true home.birth 0 c.1 in
    let since : home.since ≡ 0 = eqb-true home.since 0 b.1 in
    let count : home.count ≡ 0 = eqb-true home.count 0 a.1 in
    same_home home.place 0 home.birth 0 home.since 0 home.count 0 place birth since count

-- the fields that say a change are its own
own_fields : (f : Fields) (change : Change) → change_of f ≡ Ok change → (f ≡ fields_of change) × IsKeyLength (key_in change).len
own_fields f change e =
    let entry : Change = Entry (record { key = f.key; home = f.home }) in
    let tests = judged (is_key_length f.key.len) (eqb f.kind 1) (eqb f.kind 2 && is_no_home f.home) entry (Gone f.key) change e in
    let len : IsKeyLength f.key.len = is_key_length-from f.key.len tests.0 in
    let P : Change → Type 0 = λ c. (f ≡ fields_of c) × IsKeyLength (key_in c).len in
    elim tests.1 [
      | inl one ↦
          let kind : f.kind ≡ 1 = eqb-true f.kind 1 one.0 in
          let same : f ≡ record { kind = 1; key = f.key; home = f.home } = ap
          (λ (k : ℕ). record { kind = k; key = f.key; home = f.home }) kind in
          subst P one.1 (same, len)
      | inr two ↦
          let both = and_parts (eqb f.kind 2) (is_no_home f.home) two.0 in
          let kind : f.kind ≡ 2 = eqb-true f.kind 2 both.0 in
          let home : f.home ≡ no_home = no_home-from f.home both.1 in
          let same : f ≡ record { kind = 2; key = f.key; home = no_home } =
          ap (λ (k : ℕ). record { kind = k; key = f.key; home = f.home }) kind
          ∙ ap (λ (h : Home). record { kind = 2; key = f.key; home = h }) home in
          subst P two.1 (same, len)
    ]

-- ---- The laws

pub written : (change : Change) (rest : List ℕ) → Fits change → IsKeyLength (key_in change).len
    → change_in (record_bytes change ++ rest) ≡ Ok change
written change rest fits len =
    ap change_of (fields_back (fields_of change) rest (kind-said change) (key-fits change fits) (home-said change fits))
    ∙ said_again change len

pub was_written : (bytes : List ℕ) (change : Change) → AreBytes bytes → 72 ≤ length bytes → change_in bytes ≡ Ok change
    → (bytes ≡ record_bytes change ++ drop 72 bytes) × Fits change × IsKeyLength (key_in change).len
was_written bytes change fits long e =
    let own = own_fields (fields_in bytes) change e in
    let P : Fields → Type 0 = λ f. KeyFits f.key × HomeFits f.home in
    let parts = subst P own.0 (key_fits bytes fits long, home_fits bytes fits) in (
      sym (spelled_again bytes fits long) ∙ ap (λ (f : Fields). spelled f ++ drop 72 bytes) own.0,
      fits-said change parts.0 parts.1,
      own.1,
    )

-- a record is 72 bytes
pub length-record : (change : Change) → Fits change → length (record_bytes change) ≡ 72
length-record change fits =
    let digest = (key-fits change fits).digest_len in
    simp (length-append, length-number_bytes, digest)

pub record-AreBytes : (change : Change) → Fits change → AreBytes (record_bytes change)
record-AreBytes change fits =
    let f : Fields = fields_of change in
    subst AreBytes (sym (spelled_parts f))
    (AreBytes-concat (parts_of f) (
      AreBytes-number_bytes 4 f.kind,
      (
        AreBytes-number_bytes 4 f.key.len,
        (
          (key-fits change fits).digest,
          (
            AreBytes-number_bytes 8 f.home.place,
            (AreBytes-number_bytes 8 f.home.birth, (AreBytes-number_bytes 8 f.home.since, (AreBytes-number_bytes 8 f.home.count, tt))),
          ),
        ),
      ),
    ))

pub reads_first : (bytes rest : List ℕ) → 72 ≤ length bytes → change_in (bytes ++ rest) ≡ change_in bytes
reads_first bytes rest long = ap change_of (fields_first bytes rest long)

-- ---- The table

zeros_from : (bytes : List ℕ) → (fields_in bytes).home ≡ no_home → (i : ℕ) → i < 32 → get_or bytes (40 + i) 0 ≡ 0
zeros_from bytes none i h =
    elim (cases_lt i 8) [
      | inl lt ↦ zero_bytes 8 40 bytes (ap (λ (home : Home). home.place) none) (40 + i) (omega arith) (omega arith)
      | inr le ↦ elim (cases_lt i 16) [
        | inl lt ↦ zero_bytes 8 48 bytes (ap (λ (home : Home). home.birth) none) (40 + i) (omega arith) (omega arith)
        | inr le ↦ elim (cases_lt i 24) [
          | inl lt ↦ zero_bytes 8 56 bytes (ap (λ (home : Home). home.since) none) (40 + i) (omega arith) (omega arith)
          | inr le ↦ zero_bytes 8 64 bytes (ap (λ (home : Home). home.count) none) (40 + i) (omega arith) (omega arith)
        ]
      ]
    ]

no_home-said : (bytes : List ℕ) → ((i : ℕ) → i < 32 → get_or bytes (40 + i) 0 ≡ 0) → (fields_in bytes).home ≡ no_home
no_home-said bytes z =
    same_home _ _ _ _ _ _ _ _
    (zero_number 8 40 bytes (λ i from below. zero_at i (omega arith) (omega arith)))
    (zero_number 8 48 bytes (λ i from below. zero_at i (omega arith) (omega arith)))
    (zero_number 8 56 bytes (λ i from below. zero_at i (omega arith) (omega arith)))
    (zero_number 8 64 bytes (λ i from below. zero_at i (omega arith) (omega arith)))
  where
    zero_at : (i : ℕ) → 40 ≤ i → i < 72 → get_or bytes i 0 ≡ 0
    zero_at i from below =
        let there : i ≡ 40 + (i - 40) = omega arith in
        ap (λ (j : ℕ). get_or bytes j 0) there ∙ z (i - 40) (omega arith)

is_no_home-true : (home : Home) → home ≡ no_home → is_no_home home ≡ true
is_no_home-true home e = ap is_no_home e

judged_one : (fits one two : Bool) (x y : Change) → fits ≡ true → one ≡ true
    → cond (not fits) malformed (cond one (Ok x) (cond two (Ok y) malformed)) ≡ Ok x
judged_one fits one two x y a b = rw (a, b) refl

judged_two : (fits one two : Bool) (x y : Change) → fits ≡ true → one ≡ false → two ≡ true
    → cond (not fits) malformed (cond one (Ok x) (cond two (Ok y) malformed)) ≡ Ok y
judged_two fits one two x y a b c = rw (a, b, c) refl

-- a record says a change
record_says : (bytes : List ℕ) → IsRecord bytes → (change : Change) × (change_in bytes ≡ Ok change)
record_says bytes r =
    let f : Fields = fields_in bytes in
    let entry : Change = Entry (record { key = f.key; home = f.home }) in
    let len : is_key_length f.key.len ≡ true = is_key_length-true f.key.len r.len in
    elim r.kind [
      | inl one ↦ (entry, judged_one (is_key_length f.key.len) (eqb f.kind 1) (eqb f.kind 2 && is_no_home f.home) entry (Gone f.key) len (eq-eqb f.kind 1 one))
      | inr two ↦
          let none : is_no_home f.home ≡ true = is_no_home-true f.home (no_home-said bytes (r.gone two)) in
          let both : eqb f.kind 2 && is_no_home f.home ≡ true = and_from (eqb f.kind 2) (is_no_home f.home) (eq-eqb f.kind 2 two) none in
          let other : eqb f.kind 1 ≡ false = ap (λ (k : ℕ). eqb k 1) two in
          (Gone f.key, judged_two (is_key_length f.key.len) (eqb f.kind 1) (eqb f.kind 2 && is_no_home f.home) entry (Gone f.key) len other both)
    ]

len_said : (bytes : List ℕ) (change : Change) → fields_in bytes ≡ fields_of change → IsKeyLength (key_in change).len
    → IsKeyLength (number_at 4 4 bytes)
len_said bytes change same len =
    let P : Key → Type 0 = λ k. IsKeyLength k.len in
    subst P (sym (ap (λ (f : Fields). f.key) same ∙ key-said change)) len

-- what says a change is a record
says_record : (bytes : List ℕ) (change : Change) → fields_in bytes ≡ fields_of change → IsKeyLength (key_in change).len → IsRecord bytes
says_record bytes (Entry entry) same len =
    let kind : number_at 4 0 bytes ≡ 1 = ap (λ (f : Fields). f.kind) same in
    record { kind = inl kind; len = len_said bytes (Entry entry) same len; gone = λ two. absurd (omega arith) }
says_record bytes (Gone key) same len = record {
  kind = inr (ap (λ (f : Fields). f.kind) same);
  len = len_said bytes (Gone key) same len;
  gone = λ two. zeros_from bytes (ap (λ (f : Fields). f.home) same);
}

change_from : (r : Result Change Malformed) → IsOk r → (change : Change) × (r ≡ Ok change)
change_from (Ok change) e = (change, refl)
change_from (Err fault) e = absurd cc

pub right : (bytes : List ℕ) → IsOk (change_in bytes) ↔ IsRecord bytes
right bytes = (
  (λ ok. let found = change_from (change_in bytes) ok in let own = own_fields
      (fields_in bytes) found.0 found.1 in says_record bytes found.0 own.0 own.1),
  (λ is. let said = record_says bytes is in ap is_ok said.1),
)

refused : {P : Type 0} (r : Result Change Malformed) → ((change : Change) → r ≡ Ok change → P) → ¬ P → r ≡ malformed
refused (Ok change) says not_so = absurd (not_so (says change refl))
refused (Err fault) says not_so = refl

pub wrong : (bytes : List ℕ) → (change_in bytes ≡ malformed) ↔ (¬ IsRecord bytes)
wrong bytes = (
  (λ e is. let said = record_says bytes is in absurd cc),
  (λ not_so. refused (change_in bytes)
      (λ change e. let own = own_fields (fields_in bytes) change e in says_record bytes change own.0 own.1) not_so),
)
