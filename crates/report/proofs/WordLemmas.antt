-- Words with a space between two.
use Rattle.std.proofs.Common.{◌≡◌, ◌≤◌, ◌<◌, ◌-◌, List, [], ◌∷◌, ◌++◌, ℕ, length, take, drop, slice_index_or, refl, ap, ◌∙◌, sym, append-nil, append_assoc, arith}
use Rattle.std.proofs.lemmas.List.{take_all, length-map}
use Rattle.std.specs.List.{flat_map, join_with_byte}
use Rattle.std.specs.Prelude.{map}
use Rattle.report.specs.declared.words.Word.{Word}
use Rattle.report.specs.Words.{word_text, joined_text}

-- each word behind a space
abbrev pub spaced_text : List Word → List ℕ
spaced_text words = flat_map (λ word. 32 ∷ word_text word) words

pub joined_text-cons : (word : Word) (words : List Word) → joined_text (word ∷ words) ≡ word_text word ++ spaced_text words
joined_text-cons word [] = sym (append-nil (word_text word))
joined_text-cons word (next ∷ words) = ap (λ l. word_text word ++ 32 ∷ l) (joined_text-cons next words)

-- the words of a list that isn't empty
pub joined_text-first : (words : List Word) (default : Word) → 1 ≤ length words
    → word_text (slice_index_or words 0 default) ++ spaced_text (take (length words - 1) (drop 1 words)) ≡ joined_text words
joined_text-first [] default some = absurd (omega arith)
joined_text-first (word ∷ words) default some =
    let others : take (length (word ∷ words) - 1) words ≡ words = take_all _ words (omega arith) in
    rw others (sym (joined_text-cons word words))

-- one more word behind others
joined-more : (words : List (List ℕ)) (last : List ℕ) → 0 < length words
    → join_with_byte 32 (words ++ last ∷ []) ≡ join_with_byte 32 words ++ 32 ∷ last
joined-more [] last some = absurd (omega arith)
joined-more (word ∷ []) last some = refl
joined-more (word ∷ next ∷ words) last some =
    ap (λ l. word ++ 32 ∷ l) (joined-more (next ∷ words) last (omega arith))
    ∙ sym (append_assoc word (32 ∷ join_with_byte 32 (next ∷ words)) (32 ∷ last))

-- a line whose last word is written by itself
pub joined_text-more : (words : List Word) (last : List ℕ) → 0 < length words
    → joined_text words ++ 32 ∷ [] ++ last ++ 10 ∷ [] ≡ join_with_byte 32 (map word_text words ++ last ∷ []) ++ 10 ∷ []
joined_text-more words last some =
    let more = joined-more (map word_text words) last (omega (arith, length-map words word_text)) in
    ap (λ l. l ++ 10 ∷ []) (append_assoc (joined_text words) (32 ∷ []) last ∙ sym more)
