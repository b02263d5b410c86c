use Rattle.std.proofs.Common.{◌≡◌, ℕ, List, take}
use Rattle.std.specs.List.{filter_map}
use Rattle.ddt_entry.specs.declared.key.Key.{Key}
use Rattle.pool_model.specs.Group.{change_of}
use Rattle.plain_run.specs.Openings.{opening_by}
use Rattle.plain_run.proofs.course.PlainCourse.changes_of.Given as goal

abbrev pub invariant-loop-key : goal.invariant-loop-key
invariant-loop-key l = (key_of : List ℕ → Key)
    → l.changes.items ≡ filter_map (change_of (opening_by key_of l.opening) l.self) (take l.key-index l.key-items)
