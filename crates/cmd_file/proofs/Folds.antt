-- What the faults of a word or of a line come to in what is made of them.
use Rattle.std.proofs.Common.{◌≡◌, ℕ, zero, suc, ◌<◌, List, [], ◌∷◌, length, map, take, Option, Some, None, Result, Ok, Err, refl, sym, ap, subst, ◌∙◌, arith}
use Rattle.std.specs.Prelude.{fold}
use Rattle.std.specs.List.{slice_split}
use Rattle.std.proofs.lemmas.Bool.Decides.{nat_tests}
use Rattle.std.proofs.lemmas.List.Splits.{length-slice_split}
use Rattle.hex.specs.declared.FromHexError.{FromHexError}
use Rattle.pool_model.specs.declared.commands.CommandFile.{CommandFile}
use Rattle.pool_model.specs.declared.notes.BadKind.{BadKind}
use Rattle.pool_model.specs.declared.notes.BadKind.TheVariants.{Form}
use Rattle.pool_model.specs.Plain.{Part}
use Rattle.pool_model.specs.Mirrors.{part_of}
use Rattle.pool_model.specs.File as file
use Rattle.pool_model.specs.File.{Spelt, does, writes, repeated_in, command_line, write_deed, tested, Progress, after_line, ended, is_line_feed, lines_of}
use Rattle.cmd_file.specs.declared.fault.FileFault.{FileFault}
use Rattle.cmd_file.specs.declared.fault.FileFault.TheVariants as faults
use Rattle.cmd_file.specs.declared.fault.LineFault.{LineFault}
use Rattle.cmd_file.specs.declared.fault.LineFault.TheVariants.{Bad, Memory}
use Rattle.cmd_file.specs.Faults.{Gives, Tells}
use Rattle.cmd_file.specs.Progress.{progress_of}
use Rattle.cmd_file.specs.Words.{up_to, lawful}

-- the fault of a part is that of the whole, where the definition says so
pub passed_on : {X Y A B : Type 0} (view : X → Y) (other : A → B) (fault : LineFault) (inner : Result B BadKind) (outer : Result Y BadKind)
    → ((kind : BadKind) → inner ≡ Err kind → outer ≡ Err kind) → Gives other (Err fault) inner → Gives view (Err fault) outer
passed_on view other (Bad kind) inner outer same gives = same kind gives
passed_on view other Memory inner outer same gives = tt

times_refused : (byte : ℕ) (times : Option ℕ) (kind : BadKind) → up_to 4096 times ≡ Err kind
    → lawful (repeated_in (Ok (byte ∷ [])) times) ≡ Err kind
times_refused byte None kind e = cc
times_refused byte (Some times) kind e = grind (arith, nat_tests)

-- a number of times that isn't good makes no block
pub no_times : (decoded : Result (List ℕ) FromHexError) (bytes : List ℕ) (times : Option ℕ) → decoded ≡ Ok bytes → length bytes ≡ 1
    → (kind : BadKind) → up_to 4096 times ≡ Err kind → lawful (repeated_in decoded times) ≡ Err kind
no_times decoded [] times is one kind e = absurd (omega (arith, one))
no_times decoded (byte ∷ []) times is one kind e = ap (λ d. lawful (repeated_in d times)) is ∙ times_refused byte times kind e
no_times decoded (byte ∷ next ∷ bytes) times is one kind e = absurd (omega (arith, one))

-- ---- A write, by its lane, slot and block

pub other_lane : (lane slot : Option ℕ) (block : Option Spelt) (kind : BadKind) → up_to 0 lane ≡ Err kind
    → tested (command_line lane slot (write_deed block)) ≡ Err Form
other_lane None slot block kind e = refl
other_lane (Some lane) None block kind e = refl
other_lane (Some lane) (Some slot) None kind e = refl
other_lane (Some lane) (Some slot) (Some block) kind e = grind (arith, nat_tests)

pub bad_block : (lane slot : Option ℕ) (block : Option Spelt) (zero_lane number : ℕ) (kind : BadKind) → up_to 0 lane ≡ Ok zero_lane
    → slot ≡ Some number → lawful block ≡ Err kind → tested (command_line lane slot (write_deed block)) ≡ Err kind
bad_block None slot block zero_lane number kind e is bad = cc
bad_block (Some lane) None block zero_lane number kind e is bad = cc
bad_block (Some lane) (Some slot) None zero_lane number kind e is bad = cc
bad_block (Some lane) (Some slot) (Some block) zero_lane number kind e is bad = grind (arith, nat_tests)

pub bad_slot : (lane slot : Option ℕ) (block : Option Spelt) (zero_lane number : ℕ) (found : Spelt) (kind : BadKind)
    → up_to 0 lane ≡ Ok zero_lane → slot ≡ Some number → lawful block ≡ Ok found → up_to 65535 slot ≡ Err kind
    → tested (command_line lane slot (write_deed block)) ≡ Err kind
bad_slot None slot block zero_lane number found kind e is good bad = cc
bad_slot (Some lane) None block zero_lane number found kind e is good bad = cc
bad_slot (Some lane) (Some slot) None zero_lane number found kind e is good bad = cc
bad_slot (Some lane) (Some slot) (Some block) zero_lane number found kind e is good bad = grind (arith, nat_tests)

pub good_write : (lane slot : Option ℕ) (block : Option Spelt) (zero_lane number : ℕ) (found : Spelt)
    → up_to 0 lane ≡ Ok zero_lane → up_to 65535 slot ≡ Ok number → lawful block ≡ Ok found
    → tested (command_line lane slot (write_deed block)) ≡ Ok (does zero_lane number (writes found))
good_write None slot block zero_lane number found e is good = cc
good_write (Some lane) None block zero_lane number found e is good = cc
good_write (Some lane) (Some slot) None zero_lane number found e is good = cc
good_write (Some lane) (Some slot) (Some block) zero_lane number found e is good = grind (arith, nat_tests)

-- ---- Lines

lines_behind : (line : List ℕ) (pieces : List (List ℕ)) → 0 < length pieces → lines_of (line ∷ pieces) ≡ line ∷ lines_of pieces
lines_behind line [] some = absurd (omega arith)
lines_behind [] (next ∷ pieces) some = refl
lines_behind (byte ∷ bytes) (next ∷ pieces) some = refl

-- behind a line feed the lines go on
pub line_before : (text line more : List ℕ) → slice_split is_line_feed text ≡ line ∷ slice_split is_line_feed more
    → lines_of (slice_split is_line_feed text) ≡ line ∷ lines_of (slice_split is_line_feed more)
line_before text line more pieces =
    ap lines_of pieces ∙ lines_behind line (slice_split is_line_feed more) (omega (arith, length-slice_split is_line_feed more))

-- a text without a line feed is one line
pub last_line : (text : List ℕ) (k : ℕ) (rest : List ℕ) → 0 < length text → k ≡ 0 → slice_split is_line_feed text ≡ text ∷ []
    → lines_of (slice_split is_line_feed text) ≡ text ∷ lines_of (slice_split is_line_feed (take k rest))
last_line [] k rest some none pieces = absurd (omega arith)
last_line (byte ∷ text) zero rest some none pieces = ap lines_of pieces
last_line (byte ∷ text) (suc k) rest some none pieces = absurd (omega arith)

bad_stays : (bad : file.Bad) (lines : List (List ℕ)) → fold after_line (Err bad) lines ≡ Err bad
bad_stays bad [] = refl
bad_stays bad (line ∷ lines) = bad_stays bad lines

refused_by : (progress : Progress) (line : List ℕ) (lines here : List (List ℕ)) (wanted : Result Progress file.Bad) (bad : file.Bad)
    → here ≡ line ∷ lines → fold after_line (Ok progress) here ≡ wanted → after_line (Ok progress) line ≡ Err bad
    → ended wanted ≡ Err bad
refused_by progress line lines here wanted bad is goes refuses =
    ap ended
    (sym goes ∙ ap (fold after_line (Ok progress)) is ∙ ap (λ state. fold after_line state lines) refuses ∙ bad_stays bad lines)

on_fault : (fault : FileFault) (refused : Result Progress file.Bad) (wanted : Result (List Part) file.Bad)
    → ((bad : file.Bad) → refused ≡ Err bad → wanted ≡ Err bad)
    → Tells progress_of (Err fault) refused → Tells {X = CommandFile} {Y = List Part} (λ file. map part_of file.items.items) (Err fault) wanted
on_fault (faults.Bad line kind) refused wanted same tells = same (record { line = line; kind = kind }) tells
on_fault faults.SourceFault refused wanted same tells = tells
on_fault faults.Memory refused wanted same tells = tt

-- the fault of a line is that of the file
pub line_is_refused : (progress : Progress) (fault : FileFault) (result : Result CommandFile FileFault) (line : List ℕ)
    (lines here : List (List ℕ)) (wanted : Result Progress file.Bad) → here ≡ line ∷ lines → fold after_line (Ok progress) here ≡ wanted
    → Tells progress_of (Err fault) (after_line (Ok progress) line) → result ≡ Err fault
    → Tells {X = CommandFile} {Y = List Part} (λ file. map part_of file.items.items) result (ended wanted)
line_is_refused progress fault result line lines here wanted is goes tells same =
    subst (λ (r : Result CommandFile FileFault). Tells {X = CommandFile} {Y = List Part} (λ file. map part_of file.items.items) r (ended wanted))
    (sym same)
    (on_fault fault (after_line (Ok progress) line) (ended wanted) (λ bad. refused_by progress line lines here wanted bad is goes) tells)
