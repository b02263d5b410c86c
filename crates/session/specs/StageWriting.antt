-- A stage of a session that runs no file: what its text comes to.
use Rattle.std.specs.Prelude.{ℕ, ⊤, List, Option}
use Rattle.std.specs.Io.KnownBytes.{Keeps, Appends}
use Rattle.io_model.specs.Outside.{Rose, TookFront}
use Rattle.session.specs.declared.status.Status.{Status}
use Rattle.session.specs.declared.status.Status.TheVariants.{Done, SinkFault, OutOfMemory}

-- this text was written, a front of it where the output failed, and else nothing
abbrev pub WritesSo : Status → (text : List ℕ) → (written now : Option (List ℕ)) → Type 0
WritesSo Done text written now = Appends written now text
WritesSo SinkFault text written now = TookFront written now text
WritesSo _ text written now = Keeps written now

-- why a text wasn't written; no other status comes
abbrev pub WriteCause : Status → (sink_before sink_now : ℕ) → Type 0
WriteCause Done sink_before sink_now = ⊤
WriteCause SinkFault sink_before sink_now = Rose sink_before sink_now
WriteCause _ sink_before sink_now = ⊥

-- why statistics weren't written: there may have been no memory for them
abbrev pub WriteStatsCause : Status → (sink_before sink_now : ℕ) → Type 0
WriteStatsCause OutOfMemory sink_before sink_now = ⊤
WriteStatsCause status sink_before sink_now = WriteCause status sink_before sink_now
