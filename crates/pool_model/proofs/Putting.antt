-- A turn of a course as a step: nothing happens to the pool, or a pointer is put at a fresh place or at its key's home.
use Rattle.std.proofs.Common.{◌≡◌, ℕ, Bool, true, false, ◌&&◌, ◌||◌, nat_lt, List, [], ◌∷◌, ◌++◌, length, filter, Option, Some, None, refl, ap, subst, ◌∙◌}
use Rattle.std.specs.List.{find, list_any}
use Rattle.std.specs.Option.{option_map}
use Rattle.quota_rule.specs.Allows.{allows}
use Rattle.ddt_entry.specs.declared.key.Key.{Key}
use Rattle.ddt_entry.specs.declared.entry.Home.{Home}
use Rattle.ddt_entry.specs.Keys.{key_eq}
use Rattle.pool_model.specs.declared.answers.WriteAnswer.{WriteAnswer}
use Rattle.pool_model.specs.Pool.{Pointer, tracked, run_length, is_tracked, is_at, tracks, held, mode_of, keys_in, insert_pointer}
use Rattle.pool_model.specs.Plain.{Act, write, read, free, Task, to_write}
use Rattle.pool_model.specs.Table.{counted, found}
use Rattle.pool_model.specs.Command.{Opening, Turn, Course, Spot, nowhere, at_home, at_fresh, Row, known_home, last_tracked, slot_row, mode_row, uses_table, is_fault, pointer_at, next_fresh, placed, naming, replied, after_write, after_act, after}
use Rattle.pool_model.specs.ByKey.{is_touched, IsWrite}
use Rattle.pool_model.proofs.Homes.{left_by, home_now, known_home-now}
use Rattle.pool_model.proofs.Rows.{SpotFits, FitsFresh, outside, first, row_fits}
use Rattle.std.proofs.lemmas.Bool.{or_parts}

-- the home that a course has left of a key, and the key's home
abbrev pub left_of : Opening → Course → Key → Option Home
left_of opening course key = left_by (found opening.table key) (last_tracked key course.earlier)

abbrev pub home_of : Opening → Course → Key → Option Home
home_of opening course key = home_now (left_of opening course key) (filter (tracks key) course.pool.pointers)

-- it is the home that the course knows
pub home_of-known : (opening : Opening) (course : Course) (key : Key)
    → option_map (λ known. known.home) (known_home opening course key) ≡ home_of opening course key
home_of-known opening course key =
    known_home-now opening key (found opening.table key) (last_tracked key course.earlier) (filter (tracks key) course.pool.pointers)

-- a pointer was put into an empty slot, and its key was named if it is counted
pub record IsPut (course later : Course) (p : Pointer) : Type 0 where
  pub pool : later.pool.pointers ≡ insert_pointer p course.pool.pointers
  pub earlier : later.earlier ≡ course.pool ∷ course.earlier
  pub empty : find (is_at p.lane p.slot) course.pool.pointers ≡ None
  pub touched : (key : Key) → is_touched key later ≡ false → (is_touched key course ≡ false) × (tracks key p ≡ false)

-- it is the first that is counted of its key, or isn't counted
pub data IsAlone (now : Option Home) (p : Pointer) : Type 0 where
  uncounted : is_tracked p.mark ≡ false → IsAlone now p
  unshared : is_tracked p.mark ≡ true → counted now ≡ None → IsAlone now p

-- it is put at this home of its key
pub record IsAtHome (now : Option Home) (p : Pointer) (home : Home) : Type 0 where
  pub is : now ≡ Some home
  pub counts : is_tracked p.mark ≡ true
  pub place : p.place ≡ home.place
  pub birth : p.birth ≡ home.birth
  pub shares : nat_lt 0 home.count ≡ true → p.mark ≡ tracked home.since

pub data Step (opening : Opening) (course later : Course) : Type 0 where
  stood : later.pool ≡ course.pool → later.earlier ≡ course.earlier → later.given ≡ course.given
      → ((key : Key) → is_touched key later ≡ false → is_touched key course ≡ false) → Step opening course later
  put_fresh : (p : Pointer) → IsPut course later p → later.given ≡ course.given ++ (p.place, run_length p.key) ∷ []
      → p.birth ≡ opening.number → IsAlone (home_of opening course p.key) p → Step opening course later
  put_home : (p : Pointer) (home : Home) → IsPut course later p → later.given ≡ course.given
      → IsAtHome (home_of opening course p.key) p home → Step opening course later

pub any_last : (test : Key → Bool) (keys : List Key) (key : Key) → list_any test (keys ++ key ∷ []) ≡ false
    → (list_any test keys ≡ false) × (test key ≡ false)
any_last test [] key none = (refl, (or_parts (test key) false none).0)
any_last test (k ∷ keys) key none =
    let both = or_parts (test k) (list_any test (keys ++ key ∷ [])) none in
    let rest = any_last test keys key both.1 in
    (ap (λ b. b || list_any test keys) both.0 ∙ rest.0, rest.1)

pub untracked : (key : Key) (p : Pointer) → is_tracked p.mark ≡ false → tracks key p ≡ false
untracked key p uncounts = ap (λ b. b && key_eq p.key key) uncounts

other_key : (b e : Bool) → e ≡ false → (b && e) ≡ false
other_key true e differs = differs
other_key false e differs = refl

module _ (opening : Opening) (course : Course) (task : Task) (content : List ℕ) (answer : WriteAnswer) where
  key : Key
  key = opening.key_of content

  -- the course with the pointer at its spot, and the key named or not
  abbrev later : Bool → Spot → Course
  later uses spot = naming uses (opening.key_of content) (replied (to_write answer) (placed opening course task content spot))

  named_too : (k : Key) (keys : List Key) (p : Pointer) → p.key ≡ opening.key_of content
      → list_any (λ named. key_eq named k) (keys ++ opening.key_of content ∷ []) ≡ false
      → (list_any (λ named. key_eq named k) keys ≡ false) × (tracks k p ≡ false)
  named_too k keys p same none =
      let both = any_last (λ named. key_eq named k) keys (opening.key_of content) none in
      (both.0, other_key (is_tracked p.mark) (key_eq p.key k) (ap (λ (x : Key). key_eq x k) same ∙ both.1))

  pub spot_step : (uses : Bool) (spot : Spot) → held course.pool task.lane task.slot ≡ None
      → SpotFits (home_of opening course (opening.key_of content)) uses spot → Step opening course (later uses spot)
  spot_step true nowhere empty fits =
      stood refl refl refl (λ k none. (any_last (λ named. key_eq named k) course.touched (opening.key_of content) none).0)
  spot_step false nowhere empty fits = stood refl refl refl (λ k none. none)
  spot_step true (at_home home mark) empty fits =
      put_home (pointer_at task (opening.key_of content) content home.place home.birth mark) home
      (record {
        pool = refl;
        earlier = refl;
        empty = empty;
        touched =
            λ k none. named_too k course.touched (pointer_at task (opening.key_of content) content home.place home.birth mark) refl none;
      })
      refl
      (record { is = fits.is; counts = fits.counts; place = refl; birth = refl; shares = fits.shares })
  spot_step false (at_home home mark) empty fits = absurd (cc fits.used)
  spot_step true (at_fresh mark) empty fits =
      put_fresh (pointer_at task (opening.key_of content) content (next_fresh task.lane course.fresh) opening.number mark)
      (record {
        pool = refl;
        earlier = refl;
        empty = empty;
        touched =
            λ k none. named_too k course.touched
            (pointer_at task (opening.key_of content) content (next_fresh task.lane course.fresh) opening.number mark) refl none;
      })
      refl refl
      (alone fits)
    where
      alone : FitsFresh (home_of opening course (opening.key_of content)) true mark
          → IsAlone (home_of opening course (opening.key_of content))
          (pointer_at task (opening.key_of content) content (next_fresh task.lane course.fresh) opening.number mark)
      alone (outside uncounts) = uncounted uncounts
      alone (first used none counts) = unshared counts none
  spot_step false (at_fresh mark) empty (outside uncounts) =
      put_fresh (pointer_at task (opening.key_of content) content (next_fresh task.lane course.fresh) opening.number mark)
      (record {
        pool = refl;
        earlier = refl;
        empty = empty;
        touched =
            λ k none. (
              none,
              untracked k
                  (pointer_at task (opening.key_of content) content (next_fresh task.lane course.fresh) opening.number mark) uncounts,
            );
      })
      refl refl
      (uncounted uncounts)
  spot_step false (at_fresh mark) empty (first used none counts) = absurd (cc used)

-- by what the slot holds
held_step : (opening : Opening) (course : Course) (task : Task) (content : List ℕ) (uses : Bool) (chosen : Row)
    → SpotFits (home_of opening course (opening.key_of content)) uses chosen.spot
    → (there : Option Pointer) → held course.pool task.lane task.slot ≡ there
    → Step opening course (naming uses (opening.key_of content)
    (replied (to_write (slot_row there chosen).answer) (placed opening course task content (slot_row there chosen).spot)))
held_step opening course task content uses chosen fits None empty =
    spot_step opening course task content chosen.answer uses chosen.spot empty fits
held_step opening course task content true chosen fits (Some p) full =
    stood refl refl refl (λ k none. (any_last (λ named. key_eq named k) course.touched (opening.key_of content) none).0)
held_step opening course task content false chosen fits (Some p) full = stood refl refl refl (λ k none. none)

-- a write is such a step
pub write_step : (opening : Opening) (course : Course) (turn : Turn) (content : List ℕ)
    → Step opening course (after_write opening course turn content)
write_step opening course turn content =
    let mode = mode_of course.pool turn.task.lane in
    let known = known_home opening course (opening.key_of content) in
    let failed = is_fault turn.reply in
    let allowed = allows (length (keys_in course.pool)) course.pool.quota in
    held_step opening course turn.task content (uses_table mode) (mode_row mode opening known content failed allowed)
    (subst (λ (now : Option Home). SpotFits now (uses_table mode) (mode_row mode opening known content failed allowed).spot)
    (home_of-known opening course (opening.key_of content)) (row_fits mode opening known content failed allowed))
    (held course.pool turn.task.lane turn.task.slot) refl

-- a turn that writes
pub written_step : (opening : Opening) (course : Course) (turn : Turn) → IsWrite turn.task.act
    → Step opening course (after opening course turn)
written_step opening course turn writes = by_act turn.task.act writes
  where
    by_act : (act : Act) → IsWrite act → Step opening course (after_act act opening course turn)
    by_act (write content) is = write_step opening course turn content
    by_act read is = absurd is
    by_act free is = absurd is
