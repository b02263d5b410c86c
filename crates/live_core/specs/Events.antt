-- What the events of a history say of a key, and which histories are a group's.
use Rattle.std.specs.Prelude.{◌≡◌, ℕ, ◌+◌, Bool, true, false, not, ◌&&◌, ◌==◌, nat_lt, zero, suc, List, [], ◌∷◌, length, filter, sum_by, slice_index_or, Option, None, if◌then◌else◌}
use Rattle.std.specs.List.{list_all}
use Rattle.machine_model.specs.declared.machine.Event.{Event}
use Rattle.machine_model.specs.Histories.{History, IsLegal}
use Rattle.ddt_entry.specs.declared.entry.Home.{Home}
use Rattle.live_core.specs.declared.steps.KeyState.{KeyState}
use Rattle.live_core.specs.declared.steps.KeyState.TheVariants.{Idle, Led, Known}
use Rattle.live_core.specs.declared.steps.Step.{Step}
use Rattle.live_core.specs.declared.steps.Step.TheVariants.{Claim, Loaded, Failed, Ref, Unref}
use Rattle.live_core.specs.declared.steps.Answer.{Answer}
use Rattle.live_core.specs.declared.steps.Answer.TheVariants as answers
use Rattle.live_core.specs.declared.steps.Terms.{Terms}
use Rattle.live_core.specs.Moves.{on_disk, references, key_in, is_kept}
use Rattle.live_core.specs.Cores.{CoreState, core_after, moved}
use Rattle.live_core.specs.Bases.{Base, Fits}
use Rattle.live_core.specs.Views.{reply}

abbrev pub is_known : KeyState → Bool
is_known Idle = false
is_known (Led lane) = false
is_known (Known known) = true

-- the lane gives the key up: it couldn't read the table
abbrev pub gives_up : (lane key : ℕ) → Step → Bool
gives_up lane key (Claim by at) = false
gives_up lane key (Loaded by at home) = false
gives_up lane key (Failed by at) = by == lane && at == key
gives_up lane key (Ref by index at verdict place) = false
gives_up lane key (Unref by index at place birth) = false

-- the lane tells what the table says of the key
abbrev pub loads_key : (lane key : ℕ) → Step → Bool
loads_key lane key (Claim by at) = false
loads_key lane key (Loaded by at home) = by == lane && at == key
loads_key lane key (Failed by at) = false
loads_key lane key (Ref by index at verdict place) = false
loads_key lane key (Unref by index at place birth) = false

-- from this core on, each event has the answer that its step has there
abbrev pub AreAnswered : Terms → CoreState → History Step Answer → Type 0
AreAnswered terms core [] = Unit {0}
AreAnswered terms core (event ∷ events) =
    (event.answer ≡ (moved terms core event.step).answer) × AreAnswered terms (core_after terms core event.step) events

-- a reference more
abbrev pub is_gain : Answer → Bool
is_gain answers.Lead = false
is_gain answers.Done = false
is_gain (answers.New home) = true
is_gain (answers.Hit home) = true
is_gain answers.Counted = false
is_gain (answers.Held lane) = false
is_gain (answers.Known known) = false
is_gain (answers.Again known) = false
is_gain answers.Quota = false
is_gain answers.Clash = false
is_gain answers.Loose = false
is_gain answers.Stray = false

-- a reference less
abbrev pub is_loss : Answer → Bool
is_loss answers.Lead = false
is_loss answers.Done = false
is_loss (answers.New home) = false
is_loss (answers.Hit home) = false
is_loss answers.Counted = true
is_loss (answers.Held lane) = false
is_loss (answers.Known known) = false
is_loss (answers.Again known) = false
is_loss answers.Quota = false
is_loss answers.Clash = false
is_loss answers.Loose = false
is_loss answers.Stray = false

abbrev pub is_done : Answer → Bool
is_done answers.Lead = false
is_done answers.Done = true
is_done (answers.New home) = false
is_done (answers.Hit home) = false
is_done answers.Counted = false
is_done (answers.Held lane) = false
is_done (answers.Known known) = false
is_done (answers.Again known) = false
is_done answers.Quota = false
is_done answers.Clash = false
is_done answers.Loose = false
is_done answers.Stray = false

abbrev pub is_stray : Answer → Bool
is_stray answers.Lead = false
is_stray answers.Done = false
is_stray (answers.New home) = false
is_stray (answers.Hit home) = false
is_stray answers.Counted = false
is_stray (answers.Held lane) = false
is_stray (answers.Known known) = false
is_stray (answers.Again known) = false
is_stray answers.Quota = false
is_stray answers.Clash = false
is_stray answers.Loose = false
is_stray answers.Stray = true

-- the references that a home has which is handed in
abbrev pub handed_in : Step → ℕ
handed_in (Claim lane key) = 0
handed_in (Loaded lane key home) = references (on_disk home)
handed_in (Failed lane key) = 0
handed_in (Ref lane index key verdict place) = 0
handed_in (Unref lane index key place birth) = 0

-- the references of a key that were loaded
abbrev pub loaded : (key : ℕ) → History Step Answer → ℕ
loaded key history =
    sum_by (λ (event : Event Step Answer). if key_in event.step == key && is_done event.answer then handed_in event.step else 0) history

-- how often a key got a reference more: the writes of it that were answered New or Hit
abbrev pub gains : (key : ℕ) → History Step Answer → ℕ
gains key history = length (filter (λ (event : Event Step Answer). key_in event.step == key && is_gain event.answer) history)

-- how often it got one less: the frees that were answered Counted
abbrev pub losses : (key : ℕ) → History Step Answer → ℕ
losses key history = length (filter (λ (event : Event Step Answer). key_in event.step == key && is_loss event.answer) history)

-- how many of the first n numbers pass a test
abbrev pub how_many : (ℕ → Bool) → ℕ → ℕ
how_many test zero = 0
how_many test (suc n) = how_many test n + (if test n then 1 else 0)

-- the table knows a home of the key with a count above 0
abbrev pub is_told_live : List (Option Home) → (key : ℕ) → Bool
is_told_live homes key = nat_lt 0 (references (on_disk (slice_index_or homes key None)))

-- a history as a group may have it: each step fits and has its answer, all are kept, and none is without a meaning
pub record IsHistory (base : Base) (history : History Step Answer) : Type 0 where
  pub legal : IsLegal Fits reply base [] history
  pub kept : list_all (λ (event : Event Step Answer). is_kept event.answer) history ≡ true
  pub meant : list_all (λ (event : Event Step Answer). not (is_stray event.answer)) history ≡ true
