use Rattle.std.proofs.Common.{◌≡◌, ℕ, ◌^◌, ◌<◌, ◌≤◌, true, List, [], ◌∷◌, length, Err, refl, sym, ⊎_elim, arith}
use Rattle.std.specs.List.{list_all}
use Rattle.std.specs.Str.{IsUtf8}
use Rattle.std.specs.Str.Parse.{digits_value, ParsesUnsigned}
use Rattle.std.proofs.lemmas.Bool.{cases_lt}
use Rattle.std.proofs.lemmas.Bool.Decides.{nat_tests}
use Rattle.std.proofs.lemmas.Fmt.{IsAscii-from_digits}
use Rattle.std.proofs.lemmas.Str.{IsUtf8-from_ascii}
use Rattle.std.proofs.lemmas.Str.Parse.{IsDigitsTest, IsNumeralModel, numerals_by_value, parse_digits}
use Rattle.pool_model.specs.declared.notes.BadKind.TheVariants.{Range}
use Rattle.pool_model.specs.File.{is_digit, is_number, number_in}
use Rattle.cmd_file.specs.Words.{up_to}
use Rattle.cmd_file.proofs.words.number_to.Goals as goal

abbrev IsDigits : List ℕ → Type 0
IsDigits word = list_all is_digit word ≡ true

tells_digits : IsDigitsTest IsDigits
tells_digits = record { empty = refl; parts = λ c cs h. grind (arith, nat_tests); more = λ c cs here rest. grind (arith, nat_tests) }

digits : IsNumeralModel IsDigits (digits_value 10)
digits = numerals_by_value IsDigits tells_digits

-- a number is one digit or more
has_digits : (word : List ℕ) → is_number word ≡ true → IsDigits word × (0 < length word)
has_digits [] h = cc
has_digits (x ∷ []) h = (grind (arith, nat_tests), omega arith)
has_digits (x ∷ y ∷ ys) h = (grind (arith, nat_tests), omega arith)

is_text : (word : List ℕ) → is_number word ≡ true → IsUtf8 word
is_text word h = IsUtf8-from_ascii word (IsAscii-from_digits word (digits.to word (has_digits word h).0))

-- what `parse` refuses of a number is past 64 bits
too_large : {E : Type 0} (word : List ℕ) (error : E) → is_number word ≡ true → ParsesUnsigned {E = E} 64 10 word (Err error)
    → 2 ^ 64 ≤ digits_value 10 word
too_large {E} word error h refused =
    let parsed = parse_digits digits {E = E} 64 word (Err error) refused (has_digits word h).0 in
    ⊎_elim (λ small. absurd (parsed ((has_digits word h).1, small))) (λ large. large) (cases_lt (digits_value 10 word) (2 ^ 64))

past_most : (most : ℕ) (word : List ℕ) → is_number word ≡ true → most < digits_value 10 word → up_to most (number_in word) ≡ Err Range
past_most most word number large = grind (arith, nat_tests)

pub returns-in_default : goal.returns-in_default
returns-in_default c =
    let number : is_number c.args.word.now ≡ true = grind arith in
    absurd (c.in_default.ensures.cases.0 (is_text c.args.word.now number))

pub returns-in_default-parse : goal.returns-in_default-parse
returns-in_default-parse c =
    let number : is_number c.args.word.now ≡ true = grind arith in
    let same : c.in-Ok.text.now ≡ c.args.word.now = c.in-Ok.ensures.cases.0 in
    let large = too_large c.args.word.now c.in_default-parse.field-0 number (rw same at c.in_default-parse.ensures.value.0) in
    sym (past_most c.args.most c.args.word.now number (let fits = c.ranges.most.fits in omega arith))
