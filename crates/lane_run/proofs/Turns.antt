-- One write more: the row that the code chose is the definitions', and the group so far goes on with their course.
use Rattle.std.proofs.Common.{◌≡◌, ℕ, ◌+◌, ◌<◌, Bool, true, false, cond, List, [], ◌∷◌, ◌++◌, length, take, Some, None, Option, refl, sym}
use Rattle.std.proofs.Common.{ap, subst, ◌∙◌}
use Rattle.std.specs.Prelude.{◌||◌}
use Rattle.std.specs.List.{AllByRecursion, find, list_any}
use Rattle.std.specs.Option.{option_map}
use Rattle.ddt_entry.specs.declared.key.Key.{Key}
use Rattle.ddt_entry.specs.declared.entry.Home.{Home}
use Rattle.disk_model.specs.Images.{Image}
use Rattle.quota_rule.specs.Allows.{allows}
use Rattle.pool_model.specs.declared.commands.Mode.{Mode}
use Rattle.pool_model.specs.declared.commands.Mode.TheVariants.{Off, On, Verify}
use Rattle.pool_model.specs.declared.answers.WriteAnswer.TheVariants as written
use Rattle.pool_model.specs.Pool.{Pointer, Mark, plain, is_at, run_length, mode_of, keys_in}
use Rattle.pool_model.specs.Plain.{to_write}
use Rattle.pool_model.specs.Clash.{HasNoOther}
use Rattle.pool_model.specs.Command.{Turn, Course, Known, Row, Spot, nowhere, at_home, at_fresh, row, known_home, slot_row, verify_row, mode_row, write_row, is_fault, uses_table, placed, naming, replied, after}
use Rattle.pool_model.specs.Group.{Standing, opening_of}
use Rattle.table_state.specs.Pools.{Held}
use Rattle.pool_model.proofs.Rows.{SpotFits, FitsHome, FitsFresh, row_fits}
use Rattle.pool_model.proofs.Putting.{home_of, home_of-known}
use Rattle.table_state.specs.Over.{StandsOver}
use Rattle.lane_run.specs.Live.{Live, is_taken, home_here, sector_here, known_by, first_mode, mode_here, row_here, write_of, put_at, after_row}
use Rattle.lane_run.proofs.Places.{IsNew}
use Rattle.lane_run.specs.Going.{Trusted, IsCourse}
use Rattle.lane_run.proofs.Courses.{homes_of}
use Rattle.lane_run.proofs.Spots.{noted_on, home_on, fresh_on}
use Rattle.lane_run.proofs.Knowing.{home_of-known_by, known_same, trusted_block, mode_same, SharesBytes, verify_shares}

-- the places that a spot takes of the fresh ones
abbrev pub spot_places : (place : ℕ) → Spot → List ℕ
spot_places place nowhere = []
spot_places place (at_home home mark) = []
spot_places place (at_fresh mark) = place ∷ []

unfound : {X : Type 0} (test : X → Bool) (xs : List X) → list_any test xs ≡ false → find test xs ≡ None
unfound test [] none = refl
unfound test (x ∷ xs) none =
    elim (test x) as (λ b. (b || list_any test xs) ≡ false → cond b (Some x) (find test xs) ≡ None) [
      | true ↦ λ bad. absurd (cc bad)
      | false ↦ λ rest. unfound test xs rest
    ] none

-- a slot that is taken leads to no row but one
taken_row : (slot : ℕ) (ps : List Pointer) (other : Row) → list_any (is_at 0 slot) ps ≡ true
    → slot_row (find (is_at 0 slot) ps) other ≡ row written.Taken nowhere
taken_row slot [] other some = absurd (cc some)
taken_row slot (p ∷ ps) other some =
    elim (is_at 0 slot p) as (λ b. (b || list_any (is_at 0 slot) ps) ≡ true → slot_row
    (cond b (Some p) (find (is_at 0 slot) ps)) other ≡ row written.Taken nowhere) [
      | true ↦ λ _. refl
      | false ↦ λ rest. taken_row slot ps other rest
    ] some

module _ (key_of : List ℕ → Key) (image : Image) (held : Held) (s : Standing) (moment : ℕ) (others : List (List ℕ))
    (over : StandsOver image held s) (live : Live) (slot : ℕ) (content : List ℕ) (chosen : Row) where
  abbrev pub turn : Turn
  turn = record { task = write_of slot content; reply = to_write chosen.answer }

  module _ (more : List ℕ) (course : Course) (w : IsCourse key_of image held s moment others live more course)
      (is_chosen : chosen ≡ row_here key_of image held live moment slot content (is_fault (to_write chosen.answer))) where
    abbrev failed : Bool
    failed = is_fault (to_write chosen.answer)

    -- the definitions' row of an empty slot
    abbrev their_row : Row
    their_row =
        mode_row (mode_of course.pool 0) (opening_of key_of s moment)
        (known_home (opening_of key_of s moment) course (key_of content)) content (is_fault (to_write chosen.answer))
        (allows (length (keys_in course.pool)) course.pool.quota)

    mode_is : mode_of course.pool 0 ≡ first_mode held.modes
    mode_is = ap first_mode w.modes

    same_homes : option_map (λ k. k.home) (known_home (opening_of key_of s moment) course (key_of content)) ≡ option_map (λ k. k.home)
        (known_by image live.contents (key_of content) (home_here held.table live.homes (key_of content)))
    same_homes =
        home_of-known (opening_of key_of s moment) course (key_of content) ∙ sym (homes_of w (key_of content)) ∙ sym
        (home_of-known_by image live.contents (key_of content) (home_here held.table live.homes (key_of content)))

    verified_known : first_mode held.modes ≡ Verify
        → known_home (opening_of key_of s moment) course (key_of content) ≡ known_by image live.contents (key_of content)
        (home_here held.table live.homes (key_of content))
    verified_known verifies =
        known_same key_of image held s moment others over live more course w
        (subst (λ (m : Mode). Trusted m key_of s others) (sym verifies) tt) (key_of content)

    their_row_is : their_row ≡ mode_here key_of image held live moment content (is_fault (to_write chosen.answer))
    their_row_is =
        (λ i. mode_row (mode_is i) (opening_of key_of s moment) (known_home (opening_of key_of s moment) course (key_of content)) content
        (is_fault (to_write chosen.answer)) (allows (sym w.keys i) (w.quota i)))
        ∙ mode_same (first_mode held.modes) key_of image held s moment (known_home (opening_of key_of s moment) course (key_of content))
        (known_by image live.contents (key_of content) (home_here held.table live.homes (key_of content))) content
        (is_fault (to_write chosen.answer))
        (allows live.keys held.quota) same_homes verified_known

    -- by whether the slot is taken
    pub data TakenOrNot : Type 0 where
      full : chosen ≡ row written.Taken nowhere → list_any (is_at 0 slot) course.pool.pointers ≡ true → TakenOrNot
      empty : chosen ≡ their_row → find (is_at 0 slot) course.pool.pointers ≡ None → TakenOrNot

    taken_or_not : TakenOrNot
    taken_or_not = by_test (is_taken held live slot) refl
      where
        by_test : (b : Bool) → is_taken held live slot ≡ b → TakenOrNot
        by_test true taken =
            full (is_chosen ∙ ap
            (λ b. cond b (row written.Taken nowhere)
            (mode_here key_of image held live moment content (is_fault (to_write chosen.answer)))) taken) (sym (w.taken slot) ∙ taken)
        by_test false free =
            empty (is_chosen ∙ ap
            (λ b. cond b (row written.Taken nowhere)
            (mode_here key_of image held live moment content (is_fault (to_write chosen.answer)))) free ∙ sym their_row_is)
            (unfound (is_at 0 slot) course.pool.pointers (sym (w.taken slot) ∙ free))

    -- the row is the definitions'
    pub row_is : write_row (opening_of key_of s moment) course turn content ≡ chosen
    row_is = by_slot taken_or_not
      where
        by_slot : TakenOrNot → write_row (opening_of key_of s moment) course turn content ≡ chosen
        by_slot (full is there) = taken_row slot course.pool.pointers their_row there ∙ sym is
        by_slot (empty is none) = ap (λ (o : Option Pointer). slot_row o their_row) none ∙ sym is

    known_at : (home : Home) → home_of (opening_of key_of s moment) course (key_of content) ≡ Some home
        → Trusted (first_mode held.modes) key_of s others
        → known_home (opening_of key_of s moment) course (key_of content) ≡ Some
        (record { home = home; block = take (key_of content).len (sector_here image live.contents home.place) })
    known_at home is trusted =
        known_same key_of image held s moment others over live more course w trusted (key_of content) ∙ ap
        (known_by image live.contents (key_of content)) (homes_of w (key_of content) ∙ is)

    -- a write that shares a home has that home's bytes
    shares : chosen ≡ their_row → ((P : List ℕ → Type 0) → AllByRecursion P others → P content) → (home : Home) (mark : Mark)
        → chosen.spot ≡ at_home home mark → home_of (opening_of key_of s moment) course (key_of content) ≡ Some home
        → Trusted (first_mode held.modes) key_of s others → content ≡ take (key_of content).len (sector_here image live.contents home.place)
    shares is is_in home mark spot_is home_is trusted = by_mode (first_mode held.modes) refl
      where
        known : Known
        known = record { home = home; block = take (key_of content).len (sector_here image live.contents home.place) }

        row_at : (m : Mode) → first_mode held.modes ≡ m
            → chosen ≡ mode_row m (opening_of key_of s moment) (known_home (opening_of key_of s moment) course (key_of content)) content
            (is_fault (to_write chosen.answer)) (allows (length (keys_in course.pool)) course.pool.quota)
        row_at m mode =
            is ∙ ap (λ (x : Mode). mode_row x (opening_of key_of s moment)
            (known_home (opening_of key_of s moment) course (key_of content)) content (is_fault (to_write chosen.answer))
            (allows (length (keys_in course.pool)) course.pool.quota)) (mode_is ∙ mode)

        by_fault : (b : Bool) → is_fault (to_write chosen.answer) ≡ b → first_mode held.modes ≡ Verify
            → content ≡ take (key_of content).len (sector_here image live.contents home.place)
        by_fault true faulty mode =
            let row_of : chosen ≡ row written.Fault nowhere =
            row_at Verify mode ∙ ap
            (λ b. mode_row Verify (opening_of key_of s moment) (known_home (opening_of key_of s moment) course (key_of content)) content b
            (allows (length (keys_in course.pool)) course.pool.quota)) faulty in
            absurd (no_home (sym (ap (λ (r : Row). r.spot) row_of) ∙ spot_is))
          where
            no_home : nowhere ≡ at_home home mark → ⊥
            no_home same = cc same
        by_fault false quiet mode =
            let row_of : chosen ≡ verify_row key_of (known_home (opening_of key_of s moment) course (key_of content)) content
            (allows (length (keys_in course.pool)) course.pool.quota) moment =
            row_at Verify mode ∙ ap
            (λ b. mode_row Verify (opening_of key_of s moment) (known_home (opening_of key_of s moment) course (key_of content)) content b
            (allows (length (keys_in course.pool)) course.pool.quota)) quiet in
            let row_by : chosen ≡ verify_row key_of (Some known) content (allows (length (keys_in course.pool)) course.pool.quota) moment =
            row_of ∙ ap (λ (k : Option Known). verify_row key_of k content (allows (length (keys_in course.pool)) course.pool.quota) moment)
            (known_at home home_is trusted) in
            subst (SharesBytes content known) (sym (ap (λ (r : Row). r.spot) row_by) ∙ spot_is)
            (verify_shares key_of content known (allows (length (keys_in course.pool)) course.pool.quota) moment)

        by_mode : (m : Mode) → first_mode held.modes ≡ m → content ≡ take (key_of content).len (sector_here image live.contents home.place)
        by_mode Off mode = absurd (no_home (sym (ap (λ (r : Row). r.spot) (row_at Off mode)) ∙ spot_is))
          where
            no_home : at_fresh plain ≡ at_home home mark → ⊥
            no_home same = cc same
        by_mode On mode =
            trusted_block key_of image held s moment others over live more course w content known
            (is_in (HasNoOther key_of s others) (subst (λ (m : Mode). Trusted m key_of s others) mode trusted))
            (known_at home home_is trusted)
        by_mode Verify mode = by_fault (is_fault (to_write chosen.answer)) refl mode

    -- what a spot needs
    abbrev SpotCan : Spot → Type 0
    SpotCan nowhere = Unit {0}
    SpotCan (at_home home mark) =
        (find (is_at 0 slot) course.pool.pointers ≡ None) × FitsHome (home_of (opening_of key_of s moment) course (key_of content))
        (uses_table (first_mode held.modes)) home mark
        × (Trusted (first_mode held.modes) key_of s others → content ≡ take (key_of content).len
        (sector_here image live.contents home.place))
    SpotCan (at_fresh mark) =
        (find (is_at 0 slot) course.pool.pointers ≡ None) × FitsFresh (home_of (opening_of key_of s moment) course (key_of content))
        (uses_table (first_mode held.modes)) mark

    fits : chosen ≡ their_row
        → SpotFits (home_of (opening_of key_of s moment) course (key_of content)) (uses_table (first_mode held.modes)) chosen.spot
    fits is =
        subst (λ (r : Row). SpotFits (home_of (opening_of key_of s moment) course (key_of content))
        (uses_table (first_mode held.modes)) r.spot) (sym is)
        (subst (λ (m : Mode). SpotFits (home_of (opening_of key_of s moment) course (key_of content)) (uses_table m) their_row.spot) mode_is
        (subst (λ (o : Option Home). SpotFits o (uses_table (mode_of course.pool 0)) their_row.spot)
        (home_of-known (opening_of key_of s moment) course (key_of content))
        (row_fits (mode_of course.pool 0) (opening_of key_of s moment)
        (known_home (opening_of key_of s moment) course (key_of content)) content (is_fault (to_write chosen.answer))
        (allows (length (keys_in course.pool)) course.pool.quota))))

    can : ((P : List ℕ → Type 0) → AllByRecursion P others → P content) → SpotCan chosen.spot
    can is_in = by_slot taken_or_not
      where
        by_spot : chosen ≡ their_row → find (is_at 0 slot) course.pool.pointers ≡ None → (spot : Spot) → chosen.spot ≡ spot
            → SpotFits (home_of (opening_of key_of s moment) course (key_of content)) (uses_table (first_mode held.modes)) spot
            → SpotCan spot
        by_spot is none nowhere spot_is fit = tt
        by_spot is none (at_home home mark) spot_is fit = (none, fit, shares is is_in home mark spot_is fit.is)
        by_spot is none (at_fresh mark) spot_is fit = (none, fit)

        by_slot : TakenOrNot → SpotCan chosen.spot
        by_slot (full is there) = subst SpotCan (sym (ap (λ (r : Row). r.spot) is)) tt
        by_slot (empty is none) = by_spot is none chosen.spot refl (fits is)

  -- a pointer at its spot
  module _ (place : ℕ) (is_in : (P : List ℕ → Type 0) → AllByRecursion P others → P content) (long : 0 < (key_of content).len)
      (one : run_length (key_of content) ≡ 1) (length_is : (key_of content).len ≡ length content)
      (is_new : IsNew held.used live.contents place) (more : List ℕ) (course : Course) where
    abbrev Goes : Live → List ℕ → Course → Type 0
    Goes next left later = IsCourse key_of image held s moment others next left later

    spot_on : (before : List ℕ) (w : Goes live before course)
        (is_chosen : chosen ≡ row_here key_of image held live moment slot content (is_fault (to_write chosen.answer))) (spot : Spot)
        → before ≡ spot_places place spot ++ more → SpotCan before course w is_chosen spot
        → Goes (put_at (held.group + 1) place slot (key_of content) content live spot) more
        (placed (opening_of key_of s moment) course (write_of slot content) content spot)
    spot_on before w is_chosen nowhere places can_be = subst (λ (l : List ℕ). Goes live l course) places w
    spot_on before w is_chosen (at_home home mark) places can_be =
        home_on key_of image held s moment others over live slot content is_in long more course
        (subst (λ (l : List ℕ). Goes live l course) places w) home mark can_be.0
        (record { used = refl; is = can_be.1.is; counts = can_be.1.counts; shares = can_be.1.shares }) can_be.2 (held.group + 1) place
    spot_on before w is_chosen (at_fresh mark) places can_be =
        subst (λ n. Goes (put_at (n + 1) place slot (key_of content) content live (at_fresh mark)) more
        (placed (opening_of key_of s moment) course (write_of slot content) content (at_fresh mark))) (sym over.is_held.group_is)
        (fresh_on key_of image held s moment others over live slot content is_in long place more course
        (subst (λ (l : List ℕ). Goes live l course) places w) mark
        (uses_table (first_mode held.modes)) can_be.0 can_be.1 is_new one length_is)

    -- and the whole write
    pub turn_on : (w : Goes live (spot_places place chosen.spot ++ more) course)
        → chosen ≡ row_here key_of image held live moment slot content (is_fault (to_write chosen.answer))
        → Goes (after_row held place slot (key_of content) content live chosen) more (after (opening_of key_of s moment) course turn)
    turn_on w is_chosen =
        let before : List ℕ = spot_places place chosen.spot ++ more in
        let put = spot_on before w is_chosen chosen.spot refl (can before course w is_chosen is_in) in
        let noted_too =
        noted_on key_of image held s moment others over (uses_table (first_mode held.modes)) (key_of content) (to_write chosen.answer)
        (put_at (held.group + 1) place slot (key_of content) content live chosen.spot) more
        (placed (opening_of key_of s moment) course (write_of slot content) content chosen.spot) put in
        subst (λ (r : Row). Goes (after_row held place slot (key_of content) content live chosen) more
        (naming (uses_table (mode_of course.pool 0)) (key_of content)
        (replied (to_write r.answer) (placed (opening_of key_of s moment) course (write_of slot content) content r.spot))))
        (sym (row_is before course w is_chosen))
        (subst (λ (m : Mode). Goes (after_row held place slot (key_of content) content live chosen) more
        (naming (uses_table m) (key_of content)
        (replied (to_write chosen.answer) (placed (opening_of key_of s moment) course (write_of slot content) content chosen.spot))))
        (sym (mode_is before course w is_chosen)) noted_too)
