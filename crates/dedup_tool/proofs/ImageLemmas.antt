-- What the spelling of an image says of its parts.
use Rattle.std.proofs.Common.{◌≡◌, ◌≢◌, ℕ, ◌<◌, ◌^◌, ◌+◌, ◌==◌, ◌++◌, List, [], ◌∷◌, take, length, false, Result, Ok, codes, refl, sym, ap, subst, ◌∙◌, arith}
use Rattle.std.specs.Char.{digit_value}
use Rattle.std.specs.Fmt.{decimal}
use Rattle.std.specs.List.{position_or_len, before_first}
use Rattle.std.proofs.Math.Seq.{take-append_seam}
use Rattle.std.proofs.lemmas.List.{length-append}
use Rattle.std.proofs.lemmas.Bool.{ne_eqb}
use Rattle.std.specs.Str.Parse.{ParsesUnsigned, AllDigits}
use Rattle.std.proofs.lemmas.Fmt.{parse-decimal, decimal_is_IsNumeral}
use Rattle.dedup_tool.specs.Image.{IsNumberOf, IsSizedPath}

-- digits of a number are read as that number
pub is_read : {E : Type 0} (digits : List ℕ) (least most n : ℕ) (r : Result ℕ E) → most < 2 ^ 64 → IsNumberOf digits least most n
    → ParsesUnsigned 64 10 digits r → r ≡ Ok n
is_read digits least most n r fits number read =
    let small : n < 2 ^ 64 = omega (arith, number.no_more) in
    parse-decimal 64 n digits r small small number.spelled read

-- no digit is a colon
digit_is_no_colon : (c : ℕ) → digit_value c < 10 → (c == 58) ≡ false
digit_is_no_colon c digit =
    let other : c ≢ 58 = λ same. let bad : digit_value 58 < 10 = subst (λ k. digit_value k < 10) same digit in omega (arith, bad) in
    ne_eqb c 58 other

-- the first colon behind digits is the one that follows them
colon_behind : (digits path : List ℕ) → AllDigits 10 digits → position_or_len (λ b. b == 58) (digits ++ 58 ∷ path) ≡ length digits
colon_behind [] path all = refl
colon_behind (c ∷ cs) path all = rw (digit_is_no_colon c all.0, colon_behind cs path all.1) (omega arith)

-- so it is found there
first_colon : (text path : List ℕ) (n : ℕ) → IsSizedPath text n path → position_or_len (λ b. b == 58) text ≡ length (decimal n)
first_colon text path n sized =
    let digits = (decimal_is_IsNumeral n (omega (arith, sized.most))).0.1 in
    ap (position_or_len (λ b. b == 58)) sized.spelled ∙ colon_behind (decimal n) path digits

-- a colon is there
pub has_colon : (text path : List ℕ) (n : ℕ) → IsSizedPath text n path → position_or_len (λ b. b == 58) text ≡ length text → ⊥
has_colon text path n sized none =
    let at = first_colon text path n sized in
    let long : length text ≡ length (decimal n) + length (58 ∷ path) = ap (λ (t : List ℕ). length t) sized.spelled
    ∙ length-append (decimal n) (58 ∷ path) in
    absurd (omega (arith, at, none, long))

-- and what stands before it is the number
pub number_before : (text path : List ℕ) (n : ℕ) → IsSizedPath text n path → before_first (λ b. b == 58) text ≡ decimal n
number_before text path n sized =
    ap (λ k. take k text) (first_colon text path n sized) ∙ ap (take (length (decimal n))) sized.spelled
    ∙ take-append_seam (decimal n) (58 ∷ path)
