-- What the pointer of a write, and its answer, make of the definitions' course and of the group so far.
use Rattle.std.proofs.Common.{◌≡◌, ℕ, ◌+◌, ◌<◌, ◌==◌, Bool, true, false, cond, nat_lt, List, [], ◌∷◌, ◌++◌, length, filter, map, take}
use Rattle.std.proofs.Common.{replicate, Some, None, Option, refl, sym, ap, subst, ◌∙◌, arith, inl, inr}
use Rattle.std.specs.Prelude.{slice_index_or}
use Rattle.std.specs.List.{AllByRecursion, find, list_any}
use Rattle.std.proofs.lemmas.Bool.Decides.{nat_tests}
use Rattle.std.proofs.lemmas.List.{map-append}
use Rattle.ddt_entry.specs.declared.key.Key.{Key}
use Rattle.ddt_entry.specs.declared.entry.Home.{Home}
use Rattle.ddt_entry.specs.declared.entry.Entry.{Entry}
use Rattle.ddt_entry.specs.Keys.{key_eq}
use Rattle.ddt_entry.proofs.KeyLaws.{key_eq-same, key_eq-true}
use Rattle.disk_model.specs.Images.{Image, sector_at}
use Rattle.pool_model.specs.Pool.{Pointer, Mark, plain, tracked, loose, is_tracked, since_of, is_at, run_length, tracks, tracked_at, keys_in, insert_pointer, with_pointer}
use Rattle.pool_model.specs.Table.{found, counted, home_of_pointers, set_entry}
use Rattle.pool_model.specs.Plain.{Reply}
use Rattle.pool_model.specs.Mirrors.{Stored}
use Rattle.pool_model.specs.Clash.{HasNoOther, NoOther}
use Rattle.pool_model.specs.Command.{Course, home_at, or_in, last_tracked, at_home, at_fresh, pointer_at, placed, naming, replied, next_fresh, take_fresh}
use Rattle.pool_model.specs.Group.{Standing, opening_of}
use Rattle.slot_table.specs.Slots.{is_slot_at, set_slot}
use Rattle.table_state.specs.Pools.{Held, slots_after, block_sector}
use Rattle.table_state.specs.Closing.{IsNamed, block_places}
use Rattle.table_state.specs.Slots.{slot_of, change_to}
use Rattle.table_state.proofs.SlotsOf.{slot_set, change_behind}
use Rattle.table_state.proofs.BlocksOf.{block_cut}
use Rattle.pool_model.proofs.Keys.{keys_in-untracked, length-keys_in_new, keys_in-counted}
use Rattle.pool_model.proofs.Pointers.{all_insert, none_insert, first_has}
use Rattle.pool_model.proofs.Homes.{left_by, home_now, none_now, uncounted_zero}
use Rattle.pool_model.proofs.Rows.{FitsHome, FitsFresh, outside, first}
use Rattle.pool_model.proofs.Putting.{left_of, home_of, home_of-known, untracked}
use Rattle.table_state.specs.Over.{StandsOver}
use Rattle.pool_model.proofs.Lists.{all_from, all_from_both}
use Rattle.lane_run.specs.Live.{Live, home_here, sector_or, sector_here, first_mode, write_of, shared, with_first, put_at, noted}
use Rattle.lane_run.proofs.Places.{IsNew, new_elsewhere, named_more, find_beside, find_new, any_last}
use Rattle.lane_run.proofs.Openings.{waiting_is_used, homes_match}
use Rattle.lane_run.specs.Going.{Trusted, Stands, IsPlaced, NoOtherThere, IsCourse}
use Rattle.lane_run.proofs.Courses.{homes_of, home_passed, home_joined, home_made, home_here-put, tracked_under, untracked_other}
use Rattle.lane_run.proofs.Courses.{counts_all, taken_more}
use Rattle.pool_model.proofs.Loops.{all_push}

module _ (key_of : List ℕ → Key) (image : Image) (held : Held) (s : Standing) (moment : ℕ) (others : List (List ℕ))
    (over : StandsOver image held s) where
  abbrev pub Goes : Live → List ℕ → Course → Type 0
  Goes live more course = IsCourse key_of image held s moment others live more course

  -- ---- A key is named, and a reply noted

  pub noted_on : (uses : Bool) (key : Key) (reply : Reply) (live : Live) (more : List ℕ) (course : Course) → Goes live more course
      → Goes (noted uses key reply live) more (naming uses key (replied reply course))
  noted_on true key reply live more course w = record {
    slots = w.slots;
    taken = w.taken;
    homes = w.homes;
    keys = w.keys;
    touched = ap (λ ks. ks ++ key ∷ []) w.touched;
    told = ap (λ rs. rs ++ reply ∷ []) w.told;
    given_runs = w.given_runs;
    fresh = w.fresh;
    modes = w.modes;
    quota = w.quota;
    kept = w.kept;
    unused = w.unused;
    pointers = w.pointers;
    honest = w.honest;
    faithful = w.faithful;
  }
  noted_on false key reply live more course w = record {
    slots = w.slots;
    taken = w.taken;
    homes = w.homes;
    keys = w.keys;
    touched = w.touched;
    told = ap (λ rs. rs ++ reply ∷ []) w.told;
    given_runs = w.given_runs;
    fresh = w.fresh;
    modes = w.modes;
    quota = w.quota;
    kept = w.kept;
    unused = w.unused;
    pointers = w.pointers;
    honest = w.honest;
    faithful = w.faithful;
  }

  -- ---- The home that a key has before the write

  -- without a counted pointer it is the table's, and waits
  pub none_there : (live : Live) (more : List ℕ) (course : Course) → Goes live more course → (key : Key) → tracked_at course.pool key ≡ []
      → home_of (opening_of key_of s moment) course key ≡ found s.table key
  none_there live more course w key none = λ i. home_now (left_by (found s.table key) ((w.kept key none).0 i)) (none i)

  pub waits_there : (live : Live) (more : List ℕ) (course : Course) → Goes live more course → (key : Key) (home : Home)
      → tracked_at course.pool key ≡ [] → found s.table key ≡ Some home → home.count ≡ 0
  waits_there live more course w key home none is =
      uncounted_zero home (sym (ap counted is) ∙ (homes_match image held s over).homes key ∙ ap home_of_pointers (w.kept key none).1)

  -- ---- A pointer is put

  module _ (live : Live) (more : List ℕ) (course : Course) (p : Pointer) where
    -- what the slots are then
    slots_on : Goes live more course → find (is_at p.lane p.slot) course.pool.pointers ≡ None
        → slots_after (live.slots ++ change_to p ∷ []) held.slots ≡ map slot_of (insert_pointer p course.pool.pointers)
    slots_on w empty =
        change_behind live.slots (change_to p) held.slots ∙ ap (λ slots. set_slot slots (change_to p)) w.slots
        ∙ slot_set p course.pool.pointers empty

    kept_on : Goes live more course → (key : Key) → filter (tracks key) (insert_pointer p course.pool.pointers) ≡ []
        → (last_tracked key (course.pool ∷ course.earlier) ≡ None) × (tracked_at s.pool key ≡ [])
    kept_on w key none =
        let was = none_insert (tracks key) p course.pool.pointers none in
        let before = w.kept key was.1 in
        (ap (or_in (last_tracked key course.earlier)) was.1 ∙ before.0, before.1)

    honest_on : Goes live more course → ((P : List ℕ → Type 0) → AllByRecursion P others → P p.content) → key_of p.content ≡ p.key
        → (content : List ℕ) → HasNoOther key_of s others content → AllByRecursion (NoOtherThere key_of content)
        (insert_pointer p course.pool.pointers)
    honest_on w is_in key_is content has =
        all_insert (NoOtherThere key_of content) p course.pool.pointers
        (λ same. is_in (NoOther key_of content) has.writes (same ∙ sym key_is)) (w.honest content has)

  module _ (live : Live) (slot : ℕ) (content : List ℕ) (is_in : (P : List ℕ → Type 0) → AllByRecursion P others → P content)
      (long : 0 < (key_of content).len) where
    -- at a home
    module _ (more : List ℕ) (course : Course) (w : Goes live more course) (home : Home) (mark : Mark)
        (empty : find (is_at 0 slot) course.pool.pointers ≡ None)
        (fits : FitsHome (home_of (opening_of key_of s moment) course (key_of content)) true home mark)
        (same : Trusted (first_mode held.modes) key_of s others → content ≡ take (key_of content).len
        (sector_here image live.contents home.place)) where
      abbrev key : Key
      key = key_of content

      abbrev p : Pointer
      p = pointer_at (write_of slot content) (key_of content) content home.place home.birth mark

      abbrev ps : List Pointer
      ps = course.pool.pointers

      counts_itself : tracks (key_of content) p ≡ true
      counts_itself = tracked_under (key_of content) p true fits.counts (key_eq-same (key_of content))

      zero_if_none : filter (tracks (key_of content)) ps ≡ [] → home.count ≡ 0
      zero_if_none none =
          waits_there live more course w (key_of content) home none (sym (none_there live more course w (key_of content) none) ∙ fits.is)

      since_is : nat_lt 0 home.count ≡ true → since_of mark ≡ home.since
      since_is some = ap since_of (fits.shares some)

      homes_on : (k : Key) → home_here held.table (set_entry (shared (key_of content) home mark) live.homes) k
          ≡ home_now (left_by (found s.table k) (last_tracked k (course.pool ∷ course.earlier))) (filter (tracks k) (insert_pointer p ps))
      homes_on k =
          home_here-put (found held.table k) (shared (key_of content) home mark) live.homes k ∙ by_key (key_eq (key_of content) k) refl
        where
          by_key : (b : Bool) → key_eq (key_of content) k ≡ b
              → cond b (Some (shared (key_of content) home mark).home) (home_here held.table live.homes k)
              ≡ home_now (left_by (found s.table k) (last_tracked k (course.pool ∷ course.earlier)))
              (filter (tracks k) (insert_pointer p ps))
          by_key true one =
              subst (λ (x : Key). Some (shared (key_of content) home mark).home ≡ home_now
              (left_by (found s.table x) (last_tracked x (course.pool ∷ course.earlier))) (filter (tracks x) (insert_pointer p ps)))
              (key_eq-true (key_of content) k one)
              (sym (home_joined (left_of (opening_of key_of s moment) course (key_of content))
              (left_by (found s.table (key_of content)) (last_tracked (key_of content) (course.pool ∷ course.earlier)))
              (tracks (key_of content)) p ps home counts_itself fits.is zero_if_none refl refl since_is))
          by_key false other =
              homes_of w k ∙ sym (home_passed (found s.table k) (last_tracked k course.earlier) (tracks k) p ps (untracked_other k p other))

      keys_on : live.keys + cond (home.count == 0) 1 0 ≡ length (keys_in (with_pointer course.pool p))
      keys_on = by_list (filter (tracks (key_of content)) ps) refl
        where
          by_list : (ts : List Pointer) → filter (tracks (key_of content)) ps ≡ ts
              → live.keys + cond (home.count == 0) 1 0 ≡ length (keys_in (with_pointer course.pool p))
          by_list [] none =
              let zero_is : home.count ≡ 0 = zero_if_none none in
              let test : (home.count == 0) ≡ true = grind (arith, nat_tests, zero_is) in
              ap (λ b. live.keys + cond b 1 0) test ∙ ap (λ n. n + 1) w.keys ∙ sym (length-keys_in_new course.pool p fits.counts none)
          by_list (t ∷ ts) some =
              let count : length (t ∷ ts) ≡ home.count =
              sym (ap length some) ∙ counts_all (left_of (opening_of key_of s moment) course (key_of content))
              (filter (tracks (key_of content)) ps) home fits.is zero_if_none in
              let test : (home.count == 0) ≡ false = grind (arith, nat_tests, count) in
              let more_than_none : 0 < length (filter (tracks (key_of content)) ps) =
              subst (λ (l : List Pointer). 0 < length l) (sym some) (omega arith) in
              let plus : live.keys + cond (home.count == 0) 1 0 ≡ live.keys = ap (λ b. live.keys + cond b 1 0) test ∙ omega arith in
              plus ∙ w.keys ∙ sym (ap length (keys_in-counted course.pool p fits.counts more_than_none))

      -- the home's place has a name
      place_named : IsNamed held.used live.contents home.place
      place_named = by_list (filter (tracks (key_of content)) ps) refl
        where
          by_list : (ts : List Pointer) → filter (tracks (key_of content)) ps ≡ ts → IsNamed held.used live.contents home.place
          by_list [] none =
              inl (waiting_is_used image held s over (key_of content) home
              (sym (none_there live more course w (key_of content) none) ∙ fits.is) (zero_if_none none))
          by_list (t ∷ ts) some =
              let has = first_has (IsPlaced held.used live.contents) (tracks (key_of content)) ps t ts some w.pointers in
              let was : Some (home_at t (length (t ∷ ts))) ≡ Some home =
              sym (ap (home_now (left_of (opening_of key_of s moment) course (key_of content))) some) ∙ fits.is in
              let place : t.place ≡ home.place = cc was in
              subst (IsNamed held.used live.contents) place has.0.named

      pub home_on : (number place : ℕ)
          → Goes (put_at number place slot (key_of content) content live (at_home home mark)) more
          (placed (opening_of key_of s moment) course (write_of slot content) content (at_home home mark))
      home_on number place = record {
        slots = slots_on live more course p w empty;
        taken = λ at. taken_more (list_any (is_slot_at 0 at) held.slots) live.slots p ps at (w.taken at);
        homes =
            λ k. homes_on k ∙ sym
            (home_of-known (opening_of key_of s moment)
            (record course { pool = with_pointer course.pool p; earlier = course.pool ∷ course.earlier }) k);
        keys = keys_on;
        touched = w.touched;
        told = w.told;
        given_runs = w.given_runs;
        fresh = w.fresh;
        modes = w.modes;
        quota = w.quota;
        kept = kept_on live more course p w;
        unused = w.unused;
        pointers = all_insert (IsPlaced held.used live.contents) p ps (record { named = place_named; long = long }) w.pointers;
        honest = honest_on live more course p w is_in refl;
        faithful = λ trusted. all_insert (Stands image live.contents) p ps (same trusted) (w.faithful trusted);
      }

    -- at a fresh place
    module _ (place : ℕ) (more : List ℕ) (course : Course) (w : Goes live (place ∷ more) course) (mark : Mark) (uses : Bool)
        (empty : find (is_at 0 slot) course.pool.pointers ≡ None)
        (fits : FitsFresh (home_of (opening_of key_of s moment) course (key_of content)) uses mark)
        (is_new : IsNew held.used live.contents place) (one : run_length (key_of content) ≡ 1)
        (length_is : (key_of content).len ≡ length content) where
      abbrev number : ℕ
      number = s.pool.group + 1

      abbrev q : Pointer
      q = pointer_at (write_of slot content) (key_of content) content place (s.pool.group + 1) mark

      abbrev qs : List Pointer
      qs = course.pool.pointers

      abbrev stored : Stored
      stored = record { place = place; bytes = content }

      -- where the table counts it, it is the first
      first_of_key : is_tracked mark ≡ true → filter (tracks (key_of content)) qs ≡ []
      first_of_key counts = by_fit fits
        where
          by_fit : FitsFresh (home_of (opening_of key_of s moment) course (key_of content)) uses mark
              → filter (tracks (key_of content)) qs ≡ []
          by_fit (outside uncounts) = absurd (cc (counts, uncounts))
          by_fit (first used none counted_too) =
              none_now (left_of (opening_of key_of s moment) course (key_of content)) (filter (tracks (key_of content)) qs) none

      abbrev later_home : Key → Option Home
      later_home k =
          home_now (left_by (found s.table k) (last_tracked k (course.pool ∷ course.earlier))) (filter (tracks k) (insert_pointer q qs))

      homes_beside : is_tracked mark ≡ false → (k : Key) → home_here held.table live.homes k ≡ later_home k
      homes_beside uncounts k =
          homes_of w k ∙ sym (home_passed (found s.table k) (last_tracked k course.earlier) (tracks k) q qs (untracked k q uncounts))

      homes_with : (since : ℕ) → is_tracked mark ≡ true → since_of mark ≡ since → (k : Key)
          → home_here held.table
          (set_entry (record {
            key = key_of content;
            home = record { place = place; birth = s.pool.group + 1; since = since; count = 1 };
          }) live.homes) k ≡ later_home k
      homes_with since counts since_is k =
          home_here-put (found held.table k)
          (record {
            key = key_of content;
            home = record { place = place; birth = s.pool.group + 1; since = since; count = 1 };
          }) live.homes k ∙ by_key
          (key_eq (key_of content) k) refl
        where
          by_key : (b : Bool) → key_eq (key_of content) k ≡ b
              → cond b (Some (record { place = place; birth = s.pool.group + 1; since = since; count = 1 }))
              (home_here held.table live.homes k) ≡ later_home k
          by_key true same =
              subst (λ (x : Key). Some (record { place = place; birth = s.pool.group + 1; since = since; count = 1 }) ≡ later_home x)
              (key_eq-true (key_of content) k same)
              ((λ i. Some (record { place = place; birth = s.pool.group + 1; since = sym since_is i; count = 1 }))
              ∙ sym (home_made (left_by (found s.table (key_of content)) (last_tracked (key_of content) (course.pool ∷ course.earlier)))
              (tracks (key_of content)) q qs (tracked_under (key_of content) q true counts (key_eq-same (key_of content)))
              (first_of_key counts)))
          by_key false other =
              homes_of w k ∙ sym (home_passed (found s.table k) (last_tracked k course.earlier) (tracks k) q qs (untracked_other k q other))

      keys_beside : is_tracked mark ≡ false → live.keys + 0 ≡ length (keys_in (with_pointer course.pool q))
      keys_beside uncounts =
          let plus : live.keys + 0 ≡ live.keys = omega arith in plus ∙ w.keys ∙ sym (ap length (keys_in-untracked course.pool q uncounts))

      keys_with : is_tracked mark ≡ true → live.keys + 1 ≡ length (keys_in (with_pointer course.pool q))
      keys_with counts = ap (λ n. n + 1) w.keys ∙ sym (length-keys_in_new course.pool q counts (first_of_key counts))

      -- the group with this place given out
      abbrev made : (given_place : ℕ) (fresh : List (List ℕ)) → Course
      made given_place fresh = record course {
        pool = with_pointer course.pool (pointer_at (write_of slot content) (key_of content) content given_place (s.pool.group + 1) mark);
        earlier = course.pool ∷ course.earlier;
        fresh = fresh;
        given = course.given ++ (given_place, run_length (key_of content)) ∷ [];
      }

      runs_on : course.given ++ (place, run_length (key_of content)) ∷ [] ≡ map (λ x. (x, 1)) (block_places (live.contents ++ stored ∷ []))
      runs_on =
          (λ i. w.given_runs i ++ (place, one i) ∷ [])
          ∙ sym (map-append (λ x. (x, 1)) (block_places live.contents) (place ∷ []))
          ∙ ap (map (λ x. (x, 1))) (sym (map-append (λ (x : Stored). x.place) live.contents (stored ∷ [])))

      itself : (place == place) ≡ true
      itself = grind (arith, nat_tests)

      -- the block stands at its place, and the others stand where they stood
      stands_new : Stands image (live.contents ++ stored ∷ []) q
      stands_new =
          sym (ap (λ n. take n (block_sector content)) length_is ∙ block_cut content)
          ∙ ap (take (key_of content).len)
          (sym (ap (sector_or (sector_at image place))
          (find_new (λ (x : Stored). x.place == place) live.contents stored is_new.no_block itself)))

      stands_still : (p : Pointer) → Stands image live.contents p → IsPlaced held.used live.contents p
          → Stands image (live.contents ++ stored ∷ []) p
      stands_still p stood placed_there =
          stood ∙ ap (take p.key.len)
          (sym (ap (sector_or (sector_at image p.place))
          (find_beside (λ (x : Stored). x.place == p.place) live.contents stored
          (new_elsewhere held.used live.contents place p.place is_new placed_there.named))))

      placed_new : IsPlaced held.used (live.contents ++ stored ∷ []) q
      placed_new = record { named = inr (any_last (λ (x : Stored). x.place == place) live.contents stored itself); long = long }

      placed_still : (p : Pointer) → IsPlaced held.used live.contents p → IsPlaced held.used (live.contents ++ stored ∷ []) p
      placed_still p was = record { named = named_more held.used live.contents stored p.place was.named; long = was.long }

      made_on : (homes : List Entry) (keys : ℕ) → ((k : Key) → home_here held.table homes k ≡ later_home k)
          → keys ≡ length (keys_in (with_pointer course.pool q))
          → Goes (record live {
            slots = live.slots ++ change_to q ∷ [];
            contents = live.contents ++ stored ∷ [];
            homes = homes;
            keys = keys;
          }) more (made place (more ∷ replicate 15 []))
      made_on homes keys homes_are keys_are = record {
        slots = slots_on live (place ∷ more) course q w empty;
        taken = λ at. taken_more (list_any (is_slot_at 0 at) held.slots) live.slots q qs at (w.taken at);
        homes = λ k. homes_are k ∙ sym (home_of-known (opening_of key_of s moment) (made place (more ∷ replicate 15 [])) k);
        keys = keys_are;
        touched = w.touched;
        told = w.told;
        given_runs = runs_on;
        fresh = refl;
        modes = w.modes;
        quota = w.quota;
        kept = kept_on live (place ∷ more) course q w;
        unused = all_push (λ (x : Stored). slice_index_or held.used x.place true ≡ false) live.contents stored w.unused is_new.unused;
        pointers =
            all_insert (IsPlaced held.used (live.contents ++ stored ∷ [])) q qs placed_new
            (all_from (IsPlaced held.used live.contents) (IsPlaced held.used (live.contents ++ stored ∷ [])) placed_still qs w.pointers);
        honest = honest_on live (place ∷ more) course q w is_in refl;
        faithful = λ trusted. all_insert (Stands image (live.contents ++ stored ∷ [])) q qs stands_new
            (all_from_both (Stands image live.contents) (IsPlaced held.used live.contents)
            (Stands image (live.contents ++ stored ∷ [])) stands_still qs (w.faithful trusted) w.pointers);
      }

      -- the place that the definitions take is this one
      is_made : placed (opening_of key_of s moment) course (write_of slot content) content (at_fresh mark) ≡ made place
          (more ∷ replicate 15 [])
      is_made = λ i. made (next_fresh 0 (w.fresh i)) (take_fresh 0 (w.fresh i))

      pub fresh_on : Goes (put_at (s.pool.group + 1) place slot (key_of content) content live (at_fresh mark)) more
          (placed (opening_of key_of s moment) course (write_of slot content) content (at_fresh mark))
      fresh_on =
          subst (Goes (put_at (s.pool.group + 1) place slot (key_of content) content live (at_fresh mark)) more) (sym is_made)
          (by_mark mark refl)
        where
          by_mark : (m : Mark) → mark ≡ m
              → Goes (put_at (s.pool.group + 1) place slot (key_of content) content live (at_fresh mark)) more
              (made place (more ∷ replicate 15 []))
          by_mark plain is =
              made_on (with_first (key_of content) place (s.pool.group + 1) mark live.homes) (live.keys + cond (is_tracked mark) 1 0)
              (λ k. ap (λ (m : Mark). home_here held.table (with_first (key_of content) place (s.pool.group + 1) m live.homes) k) is
              ∙ homes_beside (ap is_tracked is) k)
              (ap (λ (m : Mark). live.keys + cond (is_tracked m) 1 0) is ∙ keys_beside (ap is_tracked is))
          by_mark (tracked since) is =
              made_on (with_first (key_of content) place (s.pool.group + 1) mark live.homes) (live.keys + cond (is_tracked mark) 1 0)
              (λ k. ap (λ (m : Mark). home_here held.table (with_first (key_of content) place (s.pool.group + 1) m live.homes) k) is
              ∙ homes_with since (ap is_tracked is) (ap since_of is) k)
              (ap (λ (m : Mark). live.keys + cond (is_tracked m) 1 0) is ∙ keys_with (ap is_tracked is))
          by_mark loose is =
              made_on (with_first (key_of content) place (s.pool.group + 1) mark live.homes) (live.keys + cond (is_tracked mark) 1 0)
              (λ k. ap (λ (m : Mark). home_here held.table (with_first (key_of content) place (s.pool.group + 1) m live.homes) k) is
              ∙ homes_beside (ap is_tracked is) k)
              (ap (λ (m : Mark). live.keys + cond (is_tracked m) 1 0) is ∙ keys_beside (ap is_tracked is))
