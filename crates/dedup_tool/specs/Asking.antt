-- What the words on the command line ask for.
use Rattle.std.specs.Prelude.{ℕ, true, List, [], ◌∷◌, ◌++◌, codes, Option, Some, None, is_some, if◌then◌else◌}
use Rattle.session.specs.Words.{running_word, looking_word}
use Rattle.clap.specs.Words.{App, Rule, new_app, new_rule, with_rule}
use Rattle.clap.specs.Simple.{on_top}
use Rattle.clap.specs.declared.builder.ArgAction.TheVariants.{Set}
use Rattle.dedup_tool.specs.declared.asking.Asked.{Asked}
use Rattle.dedup_tool.specs.declared.asking.Asked.TheVariants.{RunsFile, RunsNone}

-- the session that a word asks for
abbrev pub asked_by : List ℕ → Option Asked
asked_by word = if is_some (running_word word) then Some RunsFile else (if is_some (looking_word word) then Some RunsNone else None)

-- the session that the words ask for: there is one word
abbrev pub asked_for : List (List ℕ) → Option Asked
asked_for (word ∷ []) = asked_by word
asked_for words = None

-- the command line as a simple command with one argument, which is required
abbrev pub word_rule : Rule
word_rule = record (new_rule (codes "word")) { action = Some Set; required = true }

-- no word is the program's name
abbrev pub nameless : App → App
nameless = on_top (λ s. record s { no_binary_name = true })

abbrev pub command_line : App
command_line = with_rule (nameless (new_app (codes "dedup_tool"))) word_rule
