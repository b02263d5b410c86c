-- The digits of bytes that come in two parts.
use Rattle.std.proofs.Common.{◌≡◌, ℕ, List, [], ◌∷◌, ◌++◌, length, take, drop, slice_index, ◌/◌, ◌%◌, refl, ap, sym, ◌∙◌, take-append-drop}
use Rattle.std.proofs.lemmas.List.{nil_from_length}
use Rattle.hex.specs.Hex.{encode_lower, encode_with, lower_digits}
use Rattle.report.proofs.Written.{Splits}

encode_with-append : (digits xs ys : List ℕ) → encode_with digits (xs ++ ys) ≡ encode_with digits xs ++ encode_with digits ys
unfolding encode_with
encode_with-append digits [] ys = refl
encode_with-append digits (x ∷ xs) ys = ap (λ l. slice_index digits (x / 16) ∷ slice_index digits (x % 16) ∷ l)
    (encode_with-append digits xs ys)

pub encode_lower-splits : (n : ℕ) (content : List ℕ)
    → Splits (encode_lower content) (encode_lower (take n content)) (encode_lower (drop n content))
encode_lower-splits n content =
    record { parts = ap encode_lower (sym (take-append-drop n content)) ∙ encode_with-append lower_digits (take n content) (drop n content) }

-- no bytes have no digits
pub encode_lower-nil : (content : List ℕ) → length content ≡ 0 → encode_lower content ≡ []
unfolding encode_with
encode_lower-nil content none = ap encode_lower (nil_from_length content none)
