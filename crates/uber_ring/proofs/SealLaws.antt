-- Laws of seals: a seal that fits is read back from its body, and a body whose left out bytes are zeros
-- is the one of the seal that it holds.
use Rattle.std.proofs.Common.{◌≡◌, ℕ, ◌<◌, ◌%◌, true, Some, List, [], ◌∷◌, ◌++◌, length, take, drop, get_or, map, refl, sym, ap, ◌∙◌, append_assoc, arith}
use Rattle.std.specs.List.{concat, flat_map}
use Rattle.std.specs.Str.{bytes_eq}
use Rattle.std.proofs.lemmas.Bool.{eq-eqb, and_parts}
use Rattle.std.proofs.lemmas.List.{append-nil, length-append, take_all, take_at, drop_at, take-append-drop}
use Rattle.std.proofs.lemmas.Slice.Eq.{bytes_eq-Decides}
use Rattle.sha2.specs.Sha256.{sha256}
use Rattle.ddt_entry.specs.Bytes.{bytes_at, number_at, number_bytes, zeros, AreBytes}
use Rattle.page_tree.specs.Pointers.{pointer_bytes, pointers_in}
use Rattle.ddt_entry.proofs.Bytes.{length-number_bytes, length-zeros, length-bytes_at, number_at-is, number_bytes-at_4, number_bytes-at_8, AreBytes-bytes_at}
use Rattle.page_tree.proofs.PointerLaws.{length-flat_map_pointers, pointers_in-flat_map, flat_map-pointers_in}
use Rattle.uber_ring.specs.Seals.{seal_text, seal_in, is_body, body_seal}
use Rattle.uber_ring.specs.Spelling.{FitsSeal, settings_bytes, state_bytes, pointers_bytes, sums_bytes, signed_bytes, body_bytes}
use Rattle.uber_ring.specs.declared.seal.Seal.{Seal}
use Rattle.uber_ring.proofs.Digests.{length-sha256}
use Rattle.ddt_entry.proofs.Parts.{offset_of, part_of, cut, concat-cut}

-- ---- the parts that the digest is of

abbrev parts_of : Seal → List (List ℕ)
parts_of seal =
    seal_text ∷ (number_bytes 4 seal.version) ∷ (number_bytes 4 seal.tag) ∷ (number_bytes 8 seal.group) ∷ (number_bytes 8
    seal.sectors) ∷ (number_bytes 8 seal.quota) ∷ (number_bytes 4 seal.quota_flag) ∷ (zeros 4) ∷ seal.modes ∷
    (number_bytes 8 seal.age) ∷ (number_bytes 8 seal.active_changes) ∷ (number_bytes 8 seal.flushing_changes) ∷ (number_bytes 4
    seal.checkpoint_flag) ∷ (number_bytes 4 seal.checkpoint_len) ∷ seal.checkpoint_digest ∷
    (pointers_bytes seal) ∷ (number_bytes 8 seal.homes) ∷ (number_bytes 8 seal.counts) ∷ (number_bytes 8 seal.pages) ∷ (zeros 3672) ∷ []

abbrev lens : List ℕ
lens =
    8 ∷ 4 ∷ 4 ∷ 8 ∷ 8 ∷ 8 ∷ 4 ∷ 4 ∷ 16 ∷
    8 ∷ 8 ∷ 8 ∷ 4 ∷ 4 ∷ 32 ∷
    240 ∷ 8 ∷ 8 ∷ 8 ∷ 3672 ∷ []

grouped : (a1 a2 a3 a4 a5 a6 a7 a8 a9 b1 b2 b3 b4 b5 b6 p c1 c2 c3 z : List ℕ)
    → ((((a1 ++ a2 ++ a3 ++ a4 ++ a5 ++ a6 ++ a7 ++ a8 ++ a9) ++ (b1 ++ b2 ++ b3 ++ b4 ++ b5 ++ b6)) ++ p) ++ (c1 ++ c2 ++ c3)) ++ z
    ≡ concat (a1 ∷ a2 ∷ a3 ∷ a4 ∷ a5 ∷ a6 ∷ a7 ∷ a8 ∷ a9 ∷ b1 ∷ b2 ∷ b3 ∷ b4 ∷ b5 ∷ b6 ∷ p ∷ c1 ∷ c2 ∷ c3 ∷ z ∷ [])
grouped a1 a2 a3 a4 a5 a6 a7 a8 a9 b1 b2 b3 b4 b5 b6 p c1 c2 c3 z = simp (append_assoc, append-nil)

signed_parts : (seal : Seal) → signed_bytes seal ≡ concat (parts_of seal)
unfolding signed_bytes settings_bytes state_bytes sums_bytes
signed_parts seal =
    grouped seal_text (number_bytes 4 seal.version) (number_bytes 4 seal.tag) (number_bytes 8 seal.group) (number_bytes 8 seal.sectors)
    (number_bytes 8 seal.quota) (number_bytes 4 seal.quota_flag) (zeros 4) seal.modes (number_bytes 8 seal.age)
    (number_bytes 8 seal.active_changes) (number_bytes 8 seal.flushing_changes) (number_bytes 4 seal.checkpoint_flag)
    (number_bytes 4 seal.checkpoint_len) seal.checkpoint_digest (pointers_bytes seal) (number_bytes 8 seal.homes)
    (number_bytes 8 seal.counts) (number_bytes 8 seal.pages) (zeros 3672)

parts_lens : (seal : Seal) → FitsSeal seal → map length (parts_of seal) ≡ lens
parts_lens seal fits =
    let modes = fits.modes_len in
    let digest = fits.checkpoint_digest_len in
    let pointers : length (flat_map pointer_bytes seal.pointers) ≡ 240 = omega
    (arith, length-flat_map_pointers seal.pointers fits.pointers, fits.pointers_len) in
    simp (length-number_bytes, length-zeros, modes, digest, pointers)

-- what stands at a part's place
part : (seal : Seal) → FitsSeal seal → (k : ℕ) → k < 20
    → bytes_at (get_or lens k 0) (offset_of k lens) (body_bytes seal) ≡ get_or (parts_of seal) k []
unfolding body_bytes
part seal fits k lt =
    ap (λ (xs : List ℕ). bytes_at (get_or lens k 0) (offset_of k lens) (xs ++ sha256 (signed_bytes seal))) (signed_parts seal)
    ∙ part_of (parts_of seal) (sha256 (signed_bytes seal)) lens (parts_lens seal fits) k lt

-- ---- reading what was written

pointers_back : (seal : Seal) → FitsSeal seal → pointers_in 6 (bytes_at 240 128 (body_bytes seal)) ≡ seal.pointers
pointers_back seal fits =
    ap (pointers_in 6) (part seal fits 15 (omega arith) ∙ sym (append-nil (pointers_bytes seal)))
    ∙ ap (λ (count : ℕ). pointers_in count (pointers_bytes seal ++ [])) (sym fits.pointers_len)
    ∙ pointers_in-flat_map seal.pointers [] fits.pointers

-- the fields of a seal's body are the seal's
pub seal_in-body_bytes : (seal : Seal) → FitsSeal seal → seal_in (body_bytes seal) ≡ seal
unfolding seal_in
seal_in-body_bytes seal fits =
    let version : number_at 4 8 (body_bytes seal) ≡ seal.version = number_at-is 4 8 seal.version (body_bytes seal)
    (part seal fits 1 (omega arith)) fits.version in
    let tag : number_at 4 12 (body_bytes seal) ≡ seal.tag = number_at-is 4 12 seal.tag (body_bytes seal)
    (part seal fits 2 (omega arith)) fits.tag in
    let group : number_at 8 16 (body_bytes seal) ≡ seal.group = number_at-is 8 16 seal.group (body_bytes seal)
    (part seal fits 3 (omega arith)) fits.group in
    let sectors : number_at 8 24 (body_bytes seal) ≡ seal.sectors = number_at-is 8 24 seal.sectors (body_bytes seal)
    (part seal fits 4 (omega arith)) fits.sectors in
    let quota : number_at 8 32 (body_bytes seal) ≡ seal.quota = number_at-is 8 32 seal.quota (body_bytes seal)
    (part seal fits 5 (omega arith)) fits.quota in
    let quota_flag : number_at 4 40 (body_bytes seal) ≡ seal.quota_flag = number_at-is 4 40 seal.quota_flag (body_bytes seal)
    (part seal fits 6 (omega arith)) fits.quota_flag in
    let modes : bytes_at 16 48 (body_bytes seal) ≡ seal.modes = part seal fits 8 (omega arith) in
    let age : number_at 8 64 (body_bytes seal) ≡ seal.age = number_at-is 8 64 seal.age (body_bytes seal)
    (part seal fits 9 (omega arith)) fits.age in
    let active_changes : number_at 8 72 (body_bytes seal) ≡ seal.active_changes = number_at-is 8 72 seal.active_changes (body_bytes seal)
    (part seal fits 10 (omega arith)) fits.active_changes in
    let flushing_changes : number_at 8 80 (body_bytes seal) ≡ seal.flushing_changes = number_at-is 8 80 seal.flushing_changes
    (body_bytes seal) (part seal fits 11 (omega arith)) fits.flushing_changes in
    let checkpoint_flag : number_at 4 88 (body_bytes seal) ≡ seal.checkpoint_flag = number_at-is 4 88 seal.checkpoint_flag (body_bytes seal)
    (part seal fits 12 (omega arith)) fits.checkpoint_flag in
    let checkpoint_len : number_at 4 92 (body_bytes seal) ≡ seal.checkpoint_len = number_at-is 4 92 seal.checkpoint_len (body_bytes seal)
    (part seal fits 13 (omega arith)) fits.checkpoint_len in
    let checkpoint_digest : bytes_at 32 96 (body_bytes seal) ≡ seal.checkpoint_digest = part seal fits 14 (omega arith) in
    let pointers = pointers_back seal fits in
    let homes : number_at 8 368 (body_bytes seal) ≡ seal.homes = number_at-is 8 368 seal.homes (body_bytes seal)
    (part seal fits 16 (omega arith)) fits.homes in
    let counts : number_at 8 376 (body_bytes seal) ≡ seal.counts = number_at-is 8 376 seal.counts (body_bytes seal)
    (part seal fits 17 (omega arith)) fits.counts in
    let pages : number_at 8 384 (body_bytes seal) ≡ seal.pages = number_at-is 8 384 seal.pages (body_bytes seal)
    (part seal fits 18 (omega arith)) fits.pages in
    rw (version, tag, group, sectors, quota, quota_flag, modes, age, active_changes, flushing_changes)
    (rw (checkpoint_flag, checkpoint_len, checkpoint_digest, pointers, homes, counts, pages) refl)

length-signed_bytes : (seal : Seal) → FitsSeal seal → length (signed_bytes seal) ≡ 4064
unfolding signed_bytes settings_bytes state_bytes sums_bytes
length-signed_bytes seal fits =
    let modes = fits.modes_len in
    let digest = fits.checkpoint_digest_len in
    let pointers : length (flat_map pointer_bytes seal.pointers) ≡ 240 = omega
    (arith, length-flat_map_pointers seal.pointers fits.pointers, fits.pointers_len) in
    simp (length-append, length-number_bytes, length-zeros, modes, digest, pointers)

-- a body fills a sector
pub length-body_bytes : (seal : Seal) → FitsSeal seal → length (body_bytes seal) ≡ 4096
unfolding body_bytes
length-body_bytes seal fits =
    let appended = length-append (signed_bytes seal) (sha256 (signed_bytes seal)) in
    omega (arith, appended, length-signed_bytes seal fits, length-sha256 (signed_bytes seal))

same_bytes : (xs ys : List ℕ) → xs ≡ ys → bytes_eq xs ys ≡ true
same_bytes xs ys same = (bytes_eq-Decides xs ys).1 same

has_text : (seal : Seal) → FitsSeal seal → bytes_eq (take 8 (body_bytes seal)) seal_text ≡ true
unfolding bytes_at
has_text seal fits = same_bytes (take 8 (body_bytes seal)) seal_text (part seal fits 0 (omega arith))

has_digest : (seal : Seal) → FitsSeal seal → bytes_eq (drop 4064 (body_bytes seal)) (sha256 (take 4064 (body_bytes seal))) ≡ true
unfolding body_bytes
has_digest seal fits =
    let signed = signed_bytes seal in
    let len = length-signed_bytes seal fits in
    same_bytes (drop 4064 (signed ++ sha256 signed)) (sha256 (take 4064 (signed ++ sha256 signed)))
    (drop_at signed (sha256 signed) 4064 len ∙ sym (ap sha256 (take_at signed (sha256 signed) 4064 len)))

-- the body of a seal is one
is_body-body_bytes : (seal : Seal) → FitsSeal seal → is_body (body_bytes seal) ≡ true
unfolding is_body
is_body-body_bytes seal fits = rw (has_text seal fits, has_digest seal fits) refl

-- a seal is read back from its body
pub body_seal-body_bytes : (seal : Seal) → FitsSeal seal → body_seal seal.version (seal.group % 16) (body_bytes seal) ≡ Some seal
body_seal-body_bytes seal fits =
    rw (is_body-body_bytes seal fits, seal_in-body_bytes seal fits)
    (rw (eq-eqb seal.version seal.version refl, eq-eqb (seal.group % 16) (seal.group % 16) refl) refl)

-- ---- writing what was read

-- what a body begins and ends with
body_ends : (body : List ℕ) → is_body body ≡ true → (take 8 body ≡ seal_text) × (drop 4064 body ≡ sha256 (take 4064 body))
unfolding is_body
body_ends body whole =
    let both = and_parts (bytes_eq (take 8 body) seal_text) (bytes_eq (drop 4064 body) (sha256 (take 4064 body))) whole in
    ((bytes_eq-Decides (take 8 body) seal_text).0 both.0, (bytes_eq-Decides (drop 4064 body) (sha256 (take 4064 body))).0 both.1)

pointers_again : (body : List ℕ) → AreBytes body → length body ≡ 4096
    → flat_map pointer_bytes (pointers_in 6 (bytes_at 240 128 body)) ≡ bytes_at 240 128 body
pointers_again body fits len =
    let here : length (bytes_at 240 128 body) ≡ 240 = length-bytes_at 240 128 body (omega arith) in
    flat_map-pointers_in 6 (bytes_at 240 128 body) (AreBytes-bytes_at 240 128 body fits) (omega arith)
    ∙ take_all 240 (bytes_at 240 128 body) (omega arith)

-- the parts of the seal that a body holds are the parts of the body
parts_again : (body : List ℕ) → AreBytes body → length body ≡ 4096 → bytes_at 8 0 body ≡ seal_text → bytes_at 4 44 body ≡ zeros 4
    → bytes_at 3672 392 body ≡ zeros 3672 → parts_of (seal_in body) ≡ cut lens 0 body
unfolding seal_in
parts_again body fits len text gap padding =
    let version = number_bytes-at_4 8 body fits (omega arith) in
    let tag = number_bytes-at_4 12 body fits (omega arith) in
    let group = number_bytes-at_8 16 body fits (omega arith) in
    let sectors = number_bytes-at_8 24 body fits (omega arith) in
    let quota = number_bytes-at_8 32 body fits (omega arith) in
    let quota_flag = number_bytes-at_4 40 body fits (omega arith) in
    let age = number_bytes-at_8 64 body fits (omega arith) in
    let active_changes = number_bytes-at_8 72 body fits (omega arith) in
    let flushing_changes = number_bytes-at_8 80 body fits (omega arith) in
    let checkpoint_flag = number_bytes-at_4 88 body fits (omega arith) in
    let checkpoint_len = number_bytes-at_4 92 body fits (omega arith) in
    let pointers = pointers_again body fits len in
    let homes = number_bytes-at_8 368 body fits (omega arith) in
    let counts = number_bytes-at_8 376 body fits (omega arith) in
    let pages = number_bytes-at_8 384 body fits (omega arith) in
    rw (← text, version, tag, group, sectors, quota, quota_flag, ← gap, age, active_changes, flushing_changes)
    (rw (checkpoint_flag, checkpoint_len, pointers, homes, counts, pages, ← padding) refl)

-- a body whose left out bytes are zeros is the one of the seal that it holds
pub body_bytes-seal_in : (body : List ℕ) → AreBytes body → length body ≡ 4096 → is_body body ≡ true → bytes_at 4 44 body ≡ zeros 4
    → bytes_at 3672 392 body ≡ zeros 3672 → body_bytes (seal_in body) ≡ body
unfolding body_bytes bytes_at
body_bytes-seal_in body fits len whole gap padding =
    let ends = body_ends body whole in
    let parts = parts_again body fits len ends.0 gap padding in
    let signed : signed_bytes (seal_in body) ≡ take 4064 body = signed_parts (seal_in body) ∙ ap concat parts ∙ concat-cut lens 0 body in
    ap (λ (xs : List ℕ). xs ++ sha256 xs) signed ∙ ap (λ (xs : List ℕ). take 4064 body ++ xs) (sym ends.1) ∙ take-append-drop 4064 body
