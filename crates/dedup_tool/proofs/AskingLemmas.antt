-- What `clap` makes of the words that ask for a session.
use Rattle.std.proofs.Common.{◌≡◌, ℕ, true, Bool, false, ◌||◌, cond, List, [], ◌∷◌, Option, Some, None, codes, refl, sym, subst, ap, ◌∙◌}
use Rattle.std.specs.Str.{bytes_eq}
use Rattle.std.proofs.lemmas.Slice.Eq.{bytes_eq-Decides}
use Rattle.clap.specs.Words.{Text, first_of, first_value, found_of, is_simple, matches_of, takes, HasMatchesOf}
use Rattle.clap.specs.declared.error.ErrorKind.{ErrorKind}
use Rattle.clap.specs.declared.error.ErrorKind.TheVariants.{OutOfMemory}
use Rattle.clap.specs.declared.parser.matches.ArgMatches.{ArgMatches}
use Rattle.clap.proofs.OnLiterals.{clap_on_literals}
use Rattle.clap.proofs.WalkLemmas.{first_value-rows}
use Rattle.session.specs.Words.{running_word, running_words, looking_word, looking_words}
use Rattle.session.specs.declared.words.Look.{Look}
use Rattle.session.specs.declared.words.Word.{Word}
use Rattle.dedup_tool.specs.Asking.{asked_by, asked_for, command_line}
use Rattle.dedup_tool.specs.declared.asking.Asked.{Asked}
use Rattle.dedup_tool.specs.declared.asking.Asked.TheVariants.{RunsFile, RunsNone}

-- the words that ask for a session
data IsAsked : List (List ℕ) → Type 0 where
  run : IsAsked (codes "run" ∷ [])
  make : IsAsked (codes "make" ∷ [])
  create : IsAsked (codes "create" ∷ [])
  stat : IsAsked (codes "stat" ∷ [])

-- the command is simple
simple : is_simple command_line ≡ true
unfolding clap_on_literals
simple = refl

-- it takes each of these words
taken : (words : List (List ℕ)) → IsAsked words → takes command_line words ≡ true
unfolding clap_on_literals
taken words run = refl
taken words make = refl
taken words create = refl
taken words stat = refl

-- the one word that it finds
found_word : (words : List (List ℕ)) → IsAsked words
    → (word : List ℕ) × (words ≡ word ∷ []) × (first_of (codes "word") (matches_of command_line words) ≡ Some word)
unfolding clap_on_literals
found_word words run = (codes "run", refl, refl)
found_word words make = (codes "make", refl, refl)
found_word words create = (codes "create", refl, refl)
found_word words stat = (codes "stat", refl, refl)

-- a word that asks for a session is one of the four
is_asked : (word : List ℕ) (asked : Asked) → asked_by word ≡ Some asked → IsAsked (word ∷ [])
is_asked word asked told = among (bytes_eq word (codes "run")) refl (bytes_eq word (codes "make")) refl
    (bytes_eq word (codes "create")) refl (bytes_eq word (codes "stat")) refl where
      same : (text : List ℕ) → bytes_eq word text ≡ true → IsAsked (text ∷ []) → IsAsked (word ∷ [])
      same text equal asks = subst (λ t. IsAsked (t ∷ [])) (sym ((bytes_eq-Decides word text).0 equal)) asks

      among : (a : Bool) → bytes_eq word (codes "run") ≡ a → (b : Bool) → bytes_eq word (codes "make") ≡ b
          → (d : Bool) → bytes_eq word (codes "create") ≡ d → (e : Bool) → bytes_eq word (codes "stat") ≡ e → IsAsked (word ∷ [])
      among true is b _ d _ e _ = same (codes "run") is run
      among false _ true is d _ e _ = same (codes "make") is make
      among false _ false _ true is e _ = same (codes "create") is create
      among false _ false _ false _ true is = same (codes "stat") is stat
      among false isnt_run false isnt_make false isnt_create false isnt_stat = absurd
          (cc (told, isnt_run, isnt_make, isnt_create, isnt_stat))

-- so are the words
asks_of : (words : List (List ℕ)) (asked : Asked) → asked_for words ≡ Some asked → IsAsked words
asks_of [] asked told = absurd (cc told)
asks_of (word ∷ []) asked told = is_asked word asked told
asks_of (word ∷ other ∷ rest) asked told = absurd (cc told)

-- words that ask for no session
none_asked : (words : List (List ℕ)) → ((asked : Asked) → asked_for words ≡ Some asked → ⊥) → asked_for words ≡ None
none_asked words none = go (asked_for words) refl where
  go : (o : Option Asked) → asked_for words ≡ o → asked_for words ≡ None
  go None is = is
  go (Some asked) is = absurd (none asked is)

-- words that are refused for another cause than want of memory ask for none
pub refused_so : (words : List (List ℕ)) (kind : ErrorKind) → (takes command_line words ≡ true → kind ≡ OutOfMemory)
    → (kind ≡ OutOfMemory → ⊥) → asked_for words ≡ None
refused_so words kind passes other = none_asked words (λ asked told. other (passes (taken words (asks_of words asked told))))

-- where the words ask for a session, the value that was found is their word
found_so : (words : List (List ℕ)) (m : ArgMatches) (found : Option (List ℕ)) → HasMatchesOf command_line words m
    → found ≡ first_value (found_of m) (codes "word")
    → (asked : Asked) → asked_for words ≡ Some asked → (word : List ℕ) × (asked_for words ≡ asked_by word) × (found ≡ Some word)
found_so words m found has is asked told =
    let there = found_word words (asks_of words asked told) in
    (there.0, ap asked_for there.1, is ∙ first_value-rows (found_of m) (codes "word") ∙ ap (first_of (codes "word")) (has simple).0 ∙ there.2)

-- so a value that asks for none is of words that ask for none
pub unasked_so : (words : List (List ℕ)) (m : ArgMatches) (found : Option (List ℕ)) → HasMatchesOf command_line words m
    → found ≡ first_value (found_of m) (codes "word")
    → ((text : List ℕ) → found ≡ Some text → asked_by text ≡ None) → asked_for words ≡ None
unasked_so words m found has is none = none_asked words go where
  go : (asked : Asked) → asked_for words ≡ Some asked → ⊥
  go asked told =
      let there = found_so words m found has is asked told in
      let same : Some asked ≡ None = sym told ∙ there.1 ∙ none there.0 there.2 in
      absurd (cc same)

-- and one that asks for a session is of words that ask for no other
pub asked_so : (words : List (List ℕ)) (m : ArgMatches) (found : Option (List ℕ)) (told : Asked) → HasMatchesOf command_line words m
    → found ≡ first_value (found_of m) (codes "word") → ((text : List ℕ) → found ≡ Some text → asked_by text ≡ Some told)
    → (asked : Asked) → asked_for words ≡ Some asked → asked ≡ told
asked_so words m found told has is some asked asks =
    let there = found_so words m found has is asked asks in
    let same : Some asked ≡ Some told = sym asks ∙ there.1 ∙ some there.0 there.2 in
    cc same

-- the words of a session that runs a file
runs_asked : (word : List ℕ) (told : Word) → running_word word ≡ Some told → asked_by word ≡ Some RunsFile
runs_asked word told is = go (running_word word) refl where
  go : (o : Option Word) → running_word word ≡ o → asked_by word ≡ Some RunsFile
  go (Some other) there = rw there refl
  go None there = absurd (cc (is, there))

-- and those of one that runs none
looks_asked : (word : List ℕ) (told : Look) → looking_word word ≡ Some told → asked_by word ≡ Some RunsNone
looks_asked word told is = among (bytes_eq word (codes "create")) refl (bytes_eq word (codes "stat")) refl where
  same : (text : List ℕ) → bytes_eq word text ≡ true → asked_by text ≡ Some RunsNone → asked_by word ≡ Some RunsNone
  same text equal asks = subst (λ t. asked_by t ≡ Some RunsNone) (sym ((bytes_eq-Decides word text).0 equal)) asks

  among : (a : Bool) → bytes_eq word (codes "create") ≡ a → (b : Bool) → bytes_eq word (codes "stat") ≡ b → asked_by word ≡ Some RunsNone
  among true equal _ _ = same (codes "create") equal refl
  among false _ true equal = same (codes "stat") equal refl
  among false other false another = absurd (cc (is, other, another))

-- where the words ask for no session but one that runs a file, they are none of a session that runs none
pub no_look : (words : List (List ℕ)) → ((asked : Asked) → asked_for words ≡ Some asked → asked ≡ RunsFile) → looking_words words ≡ None
no_look [] only = refl
no_look (word ∷ []) only = go (looking_word word) refl where
  go : (o : Option Look) → looking_word word ≡ o → looking_word word ≡ None
  go None is = is
  go (Some told) is = absurd (cc (only RunsNone (looks_asked word told is)))
no_look (word ∷ other ∷ rest) only = refl

-- and the other way round
pub no_run : (words : List (List ℕ)) → ((asked : Asked) → asked_for words ≡ Some asked → asked ≡ RunsNone) → running_words words ≡ None
no_run [] only = refl
no_run (word ∷ []) only = go (running_word word) refl where
  go : (o : Option Word) → running_word word ≡ o → running_word word ≡ None
  go None is = is
  go (Some told) is = absurd (cc (only RunsFile (runs_asked word told is)))
no_run (word ∷ other ∷ rest) only = refl

-- words that ask for no session are none of either
pub neither : (words : List (List ℕ)) → asked_for words ≡ None → (running_words words ≡ None) × (looking_words words ≡ None)
neither words none = (no_run words (λ asked told. absurd (cc (none, told))), no_look words (λ asked told. absurd (cc (none, told))))
