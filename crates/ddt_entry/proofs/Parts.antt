-- Parts that stand one behind the other: each is found at the sum of the lengths before it, and parts
-- that are cut so from bytes make up a front of them.
use Rattle.std.proofs.Common.{◌≡◌, ℕ, zero, suc, ◌+◌, ◌<◌, List, [], ◌∷◌, ◌++◌, append_assoc, length, get_or, take, drop, map, refl, sym, ap, subst, ◌∙◌, arith}
use Rattle.std.specs.List.{concat}
use Rattle.std.proofs.lemmas.List.{append-nil, drop_at, drop-drop}
use Rattle.ddt_entry.specs.Bytes.{bytes_at}
use Rattle.ddt_entry.proofs.Bytes.{bytes_at-behind, take-add}

-- the sum of the first k lengths
abbrev pub offset_of : ℕ → List ℕ → ℕ
offset_of zero lens = 0
offset_of (suc k) [] = 0
offset_of (suc k) (len ∷ lens) = len + offset_of k lens

-- what stands behind a front, counted from the front's end
bytes_at-past : (len more : ℕ) (front rest : List ℕ) → bytes_at len (length front + more) (front ++ rest) ≡ bytes_at len more rest
unfolding bytes_at
bytes_at-past len more front rest =
    ap (take len) (sym (drop-drop more (length front) (front ++ rest)) ∙ ap (drop more) (drop_at front rest (length front) refl))

part_at : (parts : List (List ℕ)) (rest : List ℕ) (k : ℕ) → k < length parts
    → bytes_at (get_or (map length parts) k 0) (offset_of k (map length parts)) (concat parts ++ rest) ≡ get_or parts k []
part_at [] rest k lt = absurd (omega arith)
part_at (part ∷ parts) rest zero lt =
    ap (bytes_at (length part) 0) (append_assoc part (concat parts) rest)
    ∙ bytes_at-behind [] part (concat parts ++ rest) 0 (length part) refl refl
part_at (part ∷ parts) rest (suc k) lt =
    ap (bytes_at (get_or (map length parts) k 0) (length part + offset_of k (map length parts))) (append_assoc part (concat parts) rest)
    ∙ bytes_at-past (get_or (map length parts) k 0) (offset_of k (map length parts)) part (concat parts ++ rest)
    ∙ part_at parts rest k (omega arith)

-- a part by its number, where all lengths are known
pub part_of : (parts : List (List ℕ)) (rest : List ℕ) (lens : List ℕ) → map length parts ≡ lens → (k : ℕ) → k < length parts
    → bytes_at (get_or lens k 0) (offset_of k lens) (concat parts ++ rest) ≡ get_or parts k []
part_of parts rest lens known k lt =
    subst (λ (ls : List ℕ). bytes_at (get_or ls k 0) (offset_of k ls) (concat parts ++ rest) ≡ get_or parts k []) known
    (part_at parts rest k lt)

-- parts of these lengths, cut from bytes one behind the other from an offset on
abbrev pub cut : List ℕ → ℕ → List ℕ → List (List ℕ)
cut [] offset bytes = []
cut (len ∷ lens) offset bytes = bytes_at len offset bytes ∷ cut lens (offset + len) bytes

-- how far parts of these lengths reach
abbrev pub reach : List ℕ → ℕ → ℕ
reach [] offset = offset
reach (len ∷ lens) offset = reach lens (offset + len)

-- what is cut makes up the bytes as far as it reaches
pub concat-cut : (lens : List ℕ) (offset : ℕ) (bytes : List ℕ)
    → take offset bytes ++ concat (cut lens offset bytes) ≡ take (reach lens offset) bytes
unfolding bytes_at
concat-cut [] offset bytes = append-nil (take offset bytes)
concat-cut (len ∷ lens) offset bytes =
    sym (append_assoc (take offset bytes) (take len (drop offset bytes)) (concat (cut lens (offset + len) bytes)))
    ∙ ap (λ (xs : List ℕ). xs ++ concat (cut lens (offset + len) bytes)) (take-add offset len bytes)
    ∙ concat-cut lens (offset + len) bytes
