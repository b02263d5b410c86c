-- What stands after a group.
use Rattle.std.proofs.Common.{◌≡◌, ◌==◌, ℕ, true, false, cond, List, [], ◌∷◌, ◌++◌, map, Some, Result, Ok, Err, IfOk, refl, ◌∙◌}
use Rattle.std.specs.List.{find}
use Rattle.std.specs.Option.{option_map_or}
use Rattle.pool_model.specs.declared.commands.Command.{Command}
use Rattle.pool_model.specs.declared.notes.GroupNote.{GroupNote}
use Rattle.pool_model.specs.Plain.{told_of}
use Rattle.pool_model.specs.Mirrors.{task_of}
use Rattle.pool_model.specs.Command.{Opening, Course}
use Rattle.pool_model.specs.Pool.{Pool, Pointer}
use Rattle.pool_model.specs.Group.{Standing, block_or, course_of, fresh_of, lane_by_lane, after_lanes}
use Rattle.plain_run.specs.Placed.{Placed, placed_of}
use Rattle.plain_run.specs.Openings.{bytes_at}

-- the bytes at a place are those of a pointer there, or else as they were
pub bytes_at-after : (ps : List Pointer) (blocks : List Placed) (place : ℕ)
    → bytes_at (map placed_of ps ++ blocks) place ≡ block_or (bytes_at blocks place) (find (λ p. p.place == place) ps)
bytes_at-after [] blocks place = refl
bytes_at-after (p ∷ ps) blocks place =
    elim (p.place == place) as
    (λ b. option_map_or (λ (block : Placed). block.content)
    (cond b (Some (placed_of p)) (find (λ block. block.place == place) (map placed_of ps ++ blocks))) [] ≡ block_or (bytes_at blocks place)
    (cond b (Some p) (find (λ q. q.place == place) ps)))
    [ true ↦ refl | false ↦ bytes_at-after ps blocks place ]

-- standings agree where their pools, tables and logs are the same, the bytes at each place, their sectors and their pages
pub same_standing : (a b : Standing) → a.pool ≡ b.pool → a.table ≡ b.table → a.logs ≡ b.logs → ((place : ℕ) → a.blocks place ≡ b.blocks place)
    → a.sectors ≡ b.sectors → a.pages ≡ b.pages → a ≡ b
same_standing a b pool table logs blocks sectors pages =
    λ i. record { pool = pool i; table = table i; logs = logs i; blocks = λ place. blocks place i; sectors = sectors i; pages = pages i }

-- courses agree where their openings, pools and commands are the same
pub same_course : (o o' : Opening) (p p' : Pool) (commands commands' : List Command) (note : GroupNote)
    → o ≡ o' → p ≡ p' → commands ≡ commands'
    → course_of o p (fresh_of (told_of note).lanes) (lane_by_lane (map task_of commands) (told_of note))
    ≡ course_of o' p' (fresh_of (told_of note).lanes) (lane_by_lane (map task_of commands') (told_of note))
same_course o o' p p' commands commands' note opening pool list = λ i.
    course_of (opening i) (pool i) (fresh_of (told_of note).lanes) (lane_by_lane (map task_of (list i)) (told_of note))

-- so do what stands after two groups
pub same_after : (o o' : Opening) (s : Standing) (k k' : Course) (pages : List ℕ) → o ≡ o' → k ≡ k'
    → after_lanes o s k pages ≡ after_lanes o' s k' pages
same_after o o' s k k' pages opening course = λ i. after_lanes (opening i) s (course i) pages

-- a value that is one thing in an `Ok` is whatever that is
pub same_if_ok : {X T E : Type 0} (f : T → X) (r : Result T E) (a b : X) → a ≡ b → IfOk r (λ t. f t ≡ a) → IfOk r (λ t. f t ≡ b)
same_if_ok f (Ok t) a b same is = is ∙ same
same_if_ok f (Err e) a b same is = tt
