-- How the program ended on the disk that an image names.
use Rattle.std.specs.Prelude.{◌≡◌, ◌≢◌, ℕ, List, None}
use Rattle.session.specs.Words.{running_words, looking_words}
use Rattle.session.specs.declared.status.Status.{Status}
use Rattle.session.specs.declared.status.Status.TheVariants.{Usage, OutOfMemory}

-- words of no session
abbrev pub AskForNone : (words : List (List ℕ)) → Type 0
AskForNone words = (running_words words ≡ None) × (looking_words words ≡ None)

-- words of no session are told as usage, if there was memory to read them; no other words are
pub record IsUsage (words : List (List ℕ)) (status : Status) : Type 0 where
  pub only : status ≡ Usage → AskForNone words
  pub each : AskForNone words → status ≢ OutOfMemory → status ≡ Usage
