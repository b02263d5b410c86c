-- Before the first write: the definitions' course stands where the pool in memory does.
use Rattle.std.proofs.Common.{◌≡◌, ℕ, ◌||◌, Bool, true, false, List, [], ◌∷◌, length, filter, map, replicate, refl, sym, ap, subst, ◌∙◌}
use Rattle.std.proofs.Common.{arith, inl, ⊎_elim}
use Rattle.std.specs.Prelude.{slice_index_or}
use Rattle.std.specs.List.{AllByRecursion, list_any}
use Rattle.std.proofs.Math.Bool.{or-false}
use Rattle.std.proofs.lemmas.List.{length-map}
use Rattle.ddt_entry.specs.declared.key.Key.{Key}
use Rattle.ddt_entry.specs.declared.entry.Entry.{Entry}
use Rattle.ddt_entry.specs.Spelling.{IsKeyLength}
use Rattle.disk_model.specs.Images.{Image}
use Rattle.pool_model.specs.Pool.{Pool, Pointer, LiesWithin, IsApart, run_length, is_at, tracks, keys_in}
use Rattle.pool_model.specs.Table.{TableState, found, counted_homes}
use Rattle.pool_model.specs.Group.{Standing, opening_of, opened}
use Rattle.pool_model.specs.Waiting.{IsIn}
use Rattle.table_state.specs.Flat.{pointer_of, table_in}
use Rattle.slot_table.specs.Slots.{is_slot_at}
use Rattle.table_state.specs.Pools.{Held}
use Rattle.slot_table.specs.declared.slot.SlotRecord.{SlotRecord}
use Rattle.table_state.proofs.UsedLaws.{one_sector}
use Rattle.table_state.specs.Slots.{slot_of}
use Rattle.table_state.proofs.SlotsOf.{held_slots}
use Rattle.table_state.proofs.SoundOf.{pointer_lengths}
use Rattle.table_state.proofs.UnusedOf.{unused_free}
use Rattle.pool_model.proofs.Keys.{keys_are_counted_homes}
use Rattle.pool_model.proofs.Homes.{matched_home}
use Rattle.pool_model.proofs.Putting.{home_of-known}
use Rattle.table_state.specs.Over.{StandsOver}
use Rattle.pool_model.proofs.Lists.{all_from_both, all_in, all_at}
use Rattle.lane_run.specs.Going.{IsCourse, IsPlaced, Stands}
use Rattle.lane_run.specs.Live.{Live}
use Rattle.lane_run.proofs.Places.{used_either}
use Rattle.lane_run.proofs.Openings.{table_sorted, homes_match, formed, used_length}

-- a group before its first write
abbrev pub live_opened : (keys : ℕ) → Live
live_opened keys = record { slots = []; contents = []; homes = []; named = []; keys = keys; replies = [] }

any_slots : (slot : ℕ) (ps : List Pointer) → list_any (is_slot_at 0 slot) (map slot_of ps) ≡ list_any (is_at 0 slot) ps
any_slots slot [] = refl
any_slots slot (p ∷ ps) = ap (λ b. is_at 0 slot p || b) (any_slots slot ps)

module _ (image : Image) (held : Held) (s : Standing) (over : StandsOver image held s) where
  lens : AllByRecursion (λ p. IsKeyLength p.key.len) s.pool.pointers
  lens = pointer_lengths image held s.pool s.table over.is_held

  -- a pointer's sector is used
  pointer_used : (p : Pointer) → IsIn p s.pool.pointers → LiesWithin held.sectors s.pool.group p → IsKeyLength p.key.len
      → slice_index_or held.used p.place false ≡ true
  pointer_used p here lies len =
      sym (used_either held.used p.place (omega (arith, used_length image held s over, lies.end, one_sector p.key len))) ∙ by_note
      (slice_index_or held.used p.place true) refl
    where
      by_note : (b : Bool) → slice_index_or held.used p.place true ≡ b → b ≡ true
      by_note true noted = refl
      by_note false noted =
          let is_free = unused_free image held s over p.place noted in
          let apart : IsApart p.place 1 p.place (run_length p.key) =
          all_at (λ (q : Pointer). IsApart p.place 1 q.place (run_length q.key)) p s.pool.pointers here is_free.unnamed.no_pointer in
          absurd (⊎_elim (λ before. omega (arith, before)) (λ behind. omega (arith, behind, one_sector p.key len)) apart)

  abbrev Facts : Pointer → Type 0
  Facts p = LiesWithin held.sectors s.pool.group p × IsKeyLength p.key.len

  pub all_placed : AllByRecursion (IsPlaced held.used []) s.pool.pointers
  all_placed =
      all_from_both (λ (p : Pointer). IsIn p s.pool.pointers) Facts (IsPlaced held.used [])
      (λ p here facts. record { named = inl (pointer_used p here facts.0 facts.1); long = facts.1.0 }) s.pool.pointers
      (all_in s.pool.pointers)
      (all_from_both (LiesWithin held.sectors s.pool.group) (λ (p : Pointer). IsKeyLength p.key.len) Facts (λ p a b. (a, b)) s.pool.pointers
      (formed image held s over).within lens)

  pub all_stand : AllByRecursion (Stands image []) s.pool.pointers
  all_stand =
      subst (λ (p : Pool). AllByRecursion (Stands image []) p.pointers) (sym over.is_held.stands.pool_is)
      (each over.is_held.stands.flat.slots)
    where
      each : (slots : List SlotRecord)
          → AllByRecursion (Stands image []) (map (pointer_of image (table_in over.is_held.stands.seal over.is_held.stands.flat)) slots)
      each [] = tt
      each (slot ∷ slots) = (refl, each slots)

  -- as many homes are counted as keys have a pointer
  keys_counted : length (counted_homes held.table) ≡ length (keys_in s.pool)
  keys_counted =
      ap (λ (t : TableState). length (counted_homes t)) over.is_held.table_is
      ∙ sym (length-map (counted_homes s.table) (λ (e : Entry). e.key))
      ∙ ap length (keys_are_counted_homes s.pool s.table (table_sorted image held s over) (homes_match image held s over))

  pub course_opened : (key_of : List ℕ → Key) (moment : ℕ) (others : List (List ℕ)) (keys : ℕ) (more : List ℕ)
      → keys ≡ length (counted_homes held.table)
      → IsCourse key_of image held s moment others (live_opened keys) more (opened s.pool (more ∷ replicate 15 []))
  course_opened key_of moment others keys more keys_are = record {
    slots = held_slots image held s.pool s.table over.is_held;
    taken =
        λ slot. or-false (list_any (is_slot_at 0 slot) held.slots) ∙ ap (list_any (is_slot_at 0 slot))
        (held_slots image held s.pool s.table over.is_held) ∙ any_slots slot s.pool.pointers;
    homes = λ key.
        ap (λ (t : TableState). found t key) over.is_held.table_is
        ∙ sym (matched_home (found s.table key) (filter (tracks key) s.pool.pointers) ((homes_match image held s over).homes key))
        ∙ sym (home_of-known (opening_of key_of s moment) (opened s.pool (more ∷ replicate 15 [])) key);
    keys = keys_are ∙ keys_counted;
    touched = refl;
    told = refl;
    given_runs = refl;
    fresh = refl;
    modes = sym over.is_held.modes_are;
    quota = sym over.is_held.quota_is;
    kept = λ key none. (refl, none);
    unused = tt;
    pointers = all_placed;
    honest = λ content has. has.pointers;
    faithful = λ trusted. all_stand;
  }
