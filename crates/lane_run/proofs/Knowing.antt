-- What a group of writes knows of a key's home is what the definitions' course knows of it.
use Rattle.std.proofs.Common.{◌≡◌, ℕ, ◌==◌, Bool, true, false, cond, not, nat_lt, List, [], ◌∷◌, length, take, Some, None, Option, refl}
use Rattle.std.proofs.Common.{sym, ap, ◌∙◌}
use Rattle.std.specs.Prelude.{slice_index_or}
use Rattle.std.specs.List.{AllByRecursion, find}
use Rattle.std.specs.Option.{option_map}
use Rattle.std.specs.Str.{bytes_eq}
use Rattle.std.proofs.lemmas.Bool.{ne_eqb}
use Rattle.std.proofs.lemmas.Slice.Eq.{bytes_eq-Decides}
use Rattle.ddt_entry.specs.declared.key.Key.{Key}
use Rattle.ddt_entry.specs.declared.entry.Home.{Home}
use Rattle.ddt_entry.specs.Keys.{key_eq}
use Rattle.disk_model.specs.Images.{Image, sector_at}
use Rattle.pool_model.specs.declared.commands.Mode.{Mode}
use Rattle.pool_model.specs.declared.commands.Mode.TheVariants.{Off, On, Verify}
use Rattle.pool_model.specs.declared.answers.WriteAnswer.TheVariants as written
use Rattle.pool_model.specs.Pool.{Pointer, tracks, tracked_at, plain, tracked}
use Rattle.pool_model.specs.Table.{found}
use Rattle.pool_model.specs.Mirrors.{Stored}
use Rattle.pool_model.specs.Clash.{HasNoOther}
use Rattle.pool_model.specs.Command.{Opening, Course, Known, Row, Spot, nowhere, at_home, at_fresh, row, home_at, or_in, last_tracked, known_home, known_or, known_in_table, home_row, table_row, verify_row, mode_row}
use Rattle.pool_model.specs.Group.{Standing, opening_of}
use Rattle.table_state.specs.Pools.{Held}
use Rattle.pool_model.proofs.Waiting.{waiting_has}
use Rattle.pool_model.proofs.Pointers.{first_has, tracks-key}
use Rattle.pool_model.proofs.Homes.{home_now}
use Rattle.pool_model.proofs.Putting.{left_of}
use Rattle.table_state.specs.Over.{StandsOver}
use Rattle.pool_model.proofs.Lists.{all_from}
use Rattle.lane_run.specs.Live.{Live, home_here, sector_or, sector_here, known_by, first_mode, opening_over}
use Rattle.lane_run.proofs.Places.{find_none, not_used}
use Rattle.lane_run.proofs.Openings.{table_sorted, waiting_is_used}
use Rattle.lane_run.specs.Going.{Trusted, Stands, NoOtherThere, IsCourse}
use Rattle.lane_run.proofs.Courses.{homes_of}
use Rattle.lane_run.proofs.Spots.{none_there, waits_there}

-- a known home is a home
pub home_of-known_by : (image : Image) (contents : List Stored) (key : Key) (home : Option Home)
    → option_map (λ k. k.home) (known_by image contents key home) ≡ home
home_of-known_by image contents key None = refl
home_of-known_by image contents key (Some home) = refl

-- a place that is used has no block of the group
no_block_there : (used : List Bool) (contents : List Stored) (place : ℕ)
    → AllByRecursion (λ x. slice_index_or used x.place true ≡ false) contents → slice_index_or used place false ≡ true → find
    (λ x. x.place == place) contents ≡ None
no_block_there used contents place unused taken =
    find_none (λ (x : Stored). x.place == place) contents
    (all_from (λ (x : Stored). slice_index_or used x.place true ≡ false) (λ (x : Stored). (x.place == place) ≡ false)
    (λ x free. ne_eqb x.place place
    (λ same. not_used used x.place free (ap (λ n. slice_index_or used n false) same ∙ taken))) contents unused)

module _ (key_of : List ℕ → Key) (image : Image) (held : Held) (s : Standing) (moment : ℕ) (others : List (List ℕ))
    (over : StandsOver image held s) (live : Live) (more : List ℕ) (course : Course)
    (w : IsCourse key_of image held s moment others live more course) where
  abbrev opening : Opening
  opening = opening_of key_of s moment

  pub place_still : (key : Key) (home : Home) → found s.table key ≡ Some home → home.count ≡ 0
      → sector_here image live.contents home.place ≡ sector_at image home.place
  place_still key home is zero =
      ap (sector_or (sector_at image home.place))
      (no_block_there held.used live.contents home.place w.unused (waiting_is_used image held s over key home is zero))

  -- of a key with a counted pointer
  known_by_pointer : (key : Key) (t : Pointer) (rest : List Pointer) → tracked_at course.pool key ≡ t ∷ rest
      → known_home (opening_of key_of s moment) course key ≡ Some (record { home = home_at t (length (t ∷ rest)); block = t.content })
  known_by_pointer key t rest some =
      ap (λ (l : List Pointer). known_or (known_in_table (opening_of key_of s moment) key (found s.table key)) (length l)
      (or_in (last_tracked key course.earlier) l)) some

  -- of one without
  known_by_table : (key : Key) → tracked_at course.pool key ≡ []
      → known_home (opening_of key_of s moment) course key ≡ known_in_table (opening_of key_of s moment) key (found s.table key)
  known_by_table key none =
      ap (λ (l : List Pointer). known_or (known_in_table (opening_of key_of s moment) key (found s.table key)) (length l)
      (or_in (last_tracked key course.earlier) l)) none
      ∙ ap (known_or (known_in_table (opening_of key_of s moment) key (found s.table key)) 0) (w.kept key none).0

  -- its block stands at its home's place, where contents can be trusted
  pub known_same : Trusted (first_mode held.modes) key_of s others → (key : Key)
      → known_home (opening_of key_of s moment) course key ≡ known_by image live.contents key (home_here held.table live.homes key)
  known_same trusted key = by_list (tracked_at course.pool key) refl
    where
      by_found : tracked_at course.pool key ≡ [] → (o : Option Home) → found s.table key ≡ o
          → known_in_table (opening_of key_of s moment) key o ≡ known_by image live.contents key o
      by_found none None is = refl
      by_found none (Some home) is =
          let zero : home.count ≡ 0 = waits_there key_of image held s moment others over live more course w key home none is in
          let block : take key.len (s.blocks home.place) ≡ take key.len (sector_here image live.contents home.place) =
          over.waiting key home is zero ∙ sym (ap (take key.len) (place_still key home is zero)) in
          λ i. Some (record { home = home; block = block i })

      by_list : (ts : List Pointer) → tracked_at course.pool key ≡ ts
          → known_home (opening_of key_of s moment) course key ≡ known_by image live.contents key (home_here held.table live.homes key)
      by_list [] none =
          known_by_table key none
          ∙ by_found none (found s.table key) refl
          ∙ ap (known_by image live.contents key)
          (sym (homes_of w key ∙ none_there key_of image held s moment others over live more course w key none))
      by_list (t ∷ rest) some =
          let has = first_has (Stands image live.contents) (tracks key) course.pool.pointers t rest some (w.faithful trusted) in
          let key_is : t.key ≡ key = (tracks-key key t has.1).1 in
          let block : t.content ≡ take key.len (sector_here image live.contents t.place) =
          has.0 ∙ ap (λ (k : Key). take k.len (sector_here image live.contents t.place)) key_is in
          known_by_pointer key t rest some
          ∙ (λ i. Some (record { home = home_at t (length (t ∷ rest)); block = block i }))
          ∙ ap (known_by image live.contents key)
          (sym (homes_of w key ∙ ap (home_now (left_of (opening_of key_of s moment) course key)) some))

  block_of : Option Known → List ℕ → List ℕ
  block_of None other = other
  block_of (Some known) other = known.block

  -- a content that has no other beside it is the block that is known of its key
  pub trusted_block : (content : List ℕ) (known : Known) → HasNoOther key_of s others content
      → known_home (opening_of key_of s moment) course (key_of content) ≡ Some known → content ≡ known.block
  trusted_block content known has is = by_list (tracked_at course.pool (key_of content)) refl
    where
      same_block : (a b : Known) → Some a ≡ Some b → a.block ≡ b.block
      same_block a b e = cc e

      by_found : tracked_at course.pool (key_of content) ≡ [] → (o : Option Home) → found s.table (key_of content) ≡ o
          → known_in_table (opening_of key_of s moment) (key_of content) o ≡ Some known → content ≡ known.block
      by_found none None there gives = absurd (cc gives)
      by_found none (Some home) there gives =
          let zero : home.count ≡ 0 =
          waits_there key_of image held s moment others over live more course w (key_of content) home none there in
          let block : content ≡ take (key_of content).len (s.blocks home.place) =
          waiting_has (λ entry. key_of content ≡ entry.key → content ≡ take entry.key.len (s.blocks entry.home.place)) s.table
          (key_of content) home (table_sorted image held s over) there zero has.waiting refl in
          block ∙ same_block (record { home = home; block = take (key_of content).len (s.blocks home.place) }) known gives

      by_list : (ts : List Pointer) → tracked_at course.pool (key_of content) ≡ ts → content ≡ known.block
      by_list [] none = by_found none (found s.table (key_of content)) refl (sym (known_by_table (key_of content) none) ∙ is)
      by_list (t ∷ rest) some =
          let there =
          first_has (NoOtherThere key_of content) (tracks (key_of content)) course.pool.pointers t rest some (w.honest content has) in
          let key_is : t.key ≡ key_of content = (tracks-key (key_of content) t there.1).1 in
          there.0 (sym key_is) ∙ same_block (record { home = home_at t (length (t ∷ rest)); block = t.content }) known
          (sym (known_by_pointer (key_of content) t rest some) ∙ is)

-- ---- Rows

table_same : (known other : Option Known) (allowed : Bool) (moment : ℕ) → option_map (λ k. k.home) known ≡ option_map (λ k. k.home) other
    → table_row known allowed moment ≡ table_row other allowed moment
table_same None None allowed moment same = refl
table_same None (Some b) allowed moment same = absurd (cc same)
table_same (Some a) None allowed moment same = absurd (cc same)
table_same (Some a) (Some b) allowed moment same =
    let one : a.home ≡ b.home = cc same in ap (λ (h : Home). home_row h true allowed moment) one

-- a row hangs on the home alone where bytes aren't compared, and else on its block too
pub mode_same : (mode : Mode) (key_of : List ℕ
    → Key) (image : Image) (held : Held) (s : Standing) (moment : ℕ) (known other : Option Known) (content : List ℕ) (failed allowed : Bool)
    → option_map (λ k. k.home) known ≡ option_map (λ k. k.home) other
    → (mode ≡ Verify → known ≡ other) → mode_row mode (opening_of key_of s moment) known content failed allowed ≡ mode_row mode
    (opening_over key_of image held moment) other content failed allowed
mode_same Off key_of image held s moment known other content failed allowed homes blocks = refl
mode_same On key_of image held s moment known other content failed allowed homes blocks =
    ap (λ (r : Row). cond failed (row written.Fault nowhere) r) (table_same known other allowed moment homes)
mode_same Verify key_of image held s moment known other content failed allowed homes blocks =
    ap (λ (k : Option Known). cond failed (row written.Fault nowhere) (verify_row key_of k content allowed moment)) (blocks refl)

-- only equal bytes share a home in a lane that verifies
abbrev pub SharesBytes : List ℕ → Known → Spot → Type 0
SharesBytes content known nowhere = Unit {0}
SharesBytes content known (at_home home mark) = content ≡ known.block
SharesBytes content known (at_fresh mark) = Unit {0}

home_shares : (content : List ℕ) (known : Known) (allowed : Bool) (moment : ℕ)
    → SharesBytes content known (home_row known.home (bytes_eq known.block content) allowed moment).spot
home_shares content known allowed moment =
    by_test (bytes_eq known.block content) (λ same. sym ((bytes_eq-Decides known.block content).0 same))
  where
    by_count : (b same : Bool) → (same ≡ true → content ≡ known.block)
        → SharesBytes content known
        (cond b (cond same (row written.Hit (at_home known.home (tracked known.home.since))) (row written.Clash (at_fresh plain)))
        (cond (not allowed) (row written.Quota (at_fresh plain))
        (cond same (row written.New (at_home known.home (tracked moment))) (row written.New (at_fresh (tracked moment)))))).spot
    by_count true true is = is refl
    by_count true false is = tt
    by_count false true is =
        elim (not allowed) as (λ b. SharesBytes content known
        (cond b (row written.Quota (at_fresh plain)) (row written.New (at_home known.home (tracked moment)))).spot) [
          | true ↦ tt
          | false ↦ is refl
        ]
    by_count false false is =
        elim (not allowed) as (λ b. SharesBytes content known
        (cond b (row written.Quota (at_fresh plain)) (row written.New (at_fresh (tracked moment)))).spot) [ true ↦ tt | false ↦ tt ]

    by_test : (same : Bool) → (same ≡ true → content ≡ known.block)
        → SharesBytes content known (home_row known.home same allowed moment).spot
    by_test same is = by_count (nat_lt 0 known.home.count) same is

-- so a verified row at a home has the known block's bytes
pub verify_shares : (key_of : List ℕ → Key) (content : List ℕ) (known : Known) (allowed : Bool) (moment : ℕ)
    → SharesBytes content known (verify_row key_of (Some known) content allowed moment).spot
verify_shares key_of content known allowed moment =
    elim (key_eq (key_of known.block) (key_of content)) as (λ b. SharesBytes content known
    (cond b (home_row known.home (bytes_eq known.block content) allowed moment) (row (written.Damaged known.home.place) nowhere)).spot)
    [ true ↦ home_shares content known allowed moment | false ↦ tt ]
