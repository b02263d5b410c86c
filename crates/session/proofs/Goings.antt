-- One item more of a session: what it adds to the steps so far, and to what a crash leaves.
use Rattle.std.proofs.Common.{◌≡◌, ℕ, Bool, true, List, [], ◌∷◌, ◌++◌, Option, Some, None, refl, sym, ap, ◌∙◌, subst, take, append_assoc, append-nil}
use Rattle.std.specs.Io.KnownBytes.{Appends, Keeps}
use Rattle.std.proofs.KnownBytes.{Appends-trans}
use Rattle.disk_model.specs.Images.{Image}
use Rattle.disk_model.specs.Crashes.{DiskState, LeavesOnly}
use Rattle.disk_model.proofs.Moments.{weakened, and_then}
use Rattle.pool_model.specs.Plain.{Part}
use Rattle.pool_model.specs.Clash.{HasNoOther, contents, part_contents, part_trusted}
use Rattle.pool_model.specs.Group.{Standing, Rules}
use Rattle.pool_model.specs.Run.{HasFlatRoom, RunStep, IsRun, last_standing, stands_after, parts_of}
use Rattle.pool_model.specs.Crash.{AnyStands, StandsAt, begun, begun_by}
use Rattle.pool_model.specs.Text.{report, step_text}
use Rattle.pool_model.specs.Waiting.{AreAmong}
use Rattle.pool_model.proofs.Laws.{report-append}
use Rattle.pool_model.proofs.Steps.{last_standing-append, begun-append, parts_of-append, run-append, ends_at}
use Rattle.pool_model.proofs.Stands.{any_left, any_right, at_right}
use Rattle.pool_model.proofs.Clashes.{no_other_among, contents_of_item}
use Rattle.pool_model.proofs.Lists.{all_from}
use Rattle.table_state.specs.Holding.{Holds}
use Rattle.table_state.specs.Pools.{Held}
use Rattle.session.specs.Devices.{Devices, between}
use Rattle.session.specs.Entries.{HasNoClashFrom}
use Rattle.session.specs.Origins.{origin, may_begin}
use Rattle.session.specs.StageEntries.{IsOver}
use Rattle.session.specs.StageGoing.{IsGoing, IsStopped}
use Rattle.session.specs.StageItems.{HasNoClashIn, ItemDone, ItemCut, EndsSo, may_end_item}
use Rattle.session.specs.Stopping.{IsCut, HasStopped, WasCut, WentSo}
use Rattle.session.specs.Running.{is_write_fault}
use Rattle.session.specs.declared.status.Status.{Status}
use Rattle.session.specs.declared.status.Status.TheVariants.{Done, Usage, BadFile, SourceFault, SinkFault, ReadFault, WriteFault, NoPool, Damaged, OutOfMemory, PoolExists, BadSize, LastGroup}

-- no two contents of the next item clash where it begins
pub no_clash_now : (rules : Rules) (s : Standing) (steps : List RunStep) (parts rest : List Part) (part : Part)
    → parts ≡ parts_of steps ++ part ∷ rest → IsRun HasFlatRoom rules s steps
    → ((content : List ℕ) → HasNoOther rules.keying.key_of s (contents parts) content
    → HasNoOther rules.keying.key_of (last_standing s steps) (contents parts) content)
    → HasNoClashFrom rules s parts → HasNoClashIn rules.keying.key_of (last_standing s steps) part
no_clash_now rules s steps parts rest part split run others clash =
    let at : Standing = last_standing s steps in
    let among : AreAmong (part_contents part) (contents parts) =
    subst (λ (ps : List Part). AreAmong (part_contents part) (contents ps)) (sym split) (contents_of_item (parts_of steps) rest part) in
    all_from (HasNoOther rules.keying.key_of s (contents parts)) (HasNoOther rules.keying.key_of at (part_contents part))
    (λ content is. no_other_among rules.keying.key_of at (part_contents part) (contents parts) content among (others content is))
    (part_trusted at.pool part) (clash steps part rest run split)

-- nothing was written behind a text
kept_text : (old written now : Option (List ℕ)) (text : List ℕ) → Appends old written text → Keeps written now → Appends old now text
kept_text None written now text was kept = tt
kept_text (Some x) None now text was kept = absurd was
kept_text (Some x) (Some y) None text was kept = absurd kept
kept_text (Some x) (Some y) (Some z) text was kept = kept ∙ was

module _ (rules : Rules) (s : Standing) (steps : List RunStep) (step : RunStep) where
  -- where the next item begins
  abbrev at : Standing
  at = last_standing s steps

  abbrev both : List RunStep
  both = steps ++ step ∷ []

  next_is : last_standing s both ≡ stands_after step
  next_is = last_standing-append s steps (step ∷ [])

  report_is : report both ≡ report steps ++ step_text step
  report_is = report-append steps (step ∷ []) ∙ ap (λ text. report steps ++ text) (append-nil (step_text step))

  -- what was begun, with the item's
  whole_of : s ∷ begun both ≡ (s ∷ begun steps) ++ begun_by step
  whole_of = ap (λ xs. s ∷ xs) (begun-append steps (step ∷ []) ∙ ap (λ xs. begun steps ++ xs) (append-nil (begun_by step)))

  module _ (run : IsRun HasFlatRoom rules s steps) where
    behind : (front : List Standing) × (s ∷ begun both ≡ front ++ at ∷ begun_by step)
    behind =
        let ends = ends_at HasFlatRoom rules s steps run in
        (ends.0, whole_of ∙ ap (λ xs. xs ++ begun_by step) ends.1 ∙ append_assoc ends.0 (at ∷ []) (begun_by step))

    crash_more : {start mid new : DiskState} (tag : ℕ) → LeavesOnly start mid (λ c. AnyStands (Holds tag c) (s ∷ begun steps))
        → LeavesOnly mid new (λ c. AnyStands (Holds tag c) (at ∷ begun_by step))
        → LeavesOnly start new (λ c. AnyStands (Holds tag c) (s ∷ begun both))
    crash_more tag before after =
        let ends = behind in
        let P : Image → Type 0 = (λ c. AnyStands (Holds tag c) (s ∷ begun both)) in
        and_then
        (weakened P before
        (λ c any. subst (AnyStands (Holds tag c)) (sym whole_of) (any_left (Holds tag c) (s ∷ begun steps) (begun_by step) any)))
        (weakened P after
        (λ c any. subst (AnyStands (Holds tag c)) (sym ends.1) (any_right (Holds tag c) ends.0 (at ∷ begun_by step) any)))

    return_more : (tag : ℕ) (failed : Bool) (sealed : ℕ) (c : Image) → StandsAt (Holds tag c) failed sealed (at ∷ begun_by step)
        → StandsAt (Holds tag c) failed sealed (s ∷ begun both)
    return_more tag failed sealed c stands =
        let ends = behind in
        subst (StandsAt (Holds tag c) failed sealed) (sym ends.1) (at_right (Holds tag c) failed sealed ends.0 (at ∷ begun_by step) stands)

-- the devices once one more item was tried
abbrev pub with_item : Devices → (new : DiskState) → (now : Option (List ℕ)) → (sink : ℕ) → Devices
with_item devices new now sink = between devices.before new devices.written now devices.sink_before sink

-- the devices of that item
abbrev pub of_item : Devices → (new : DiskState) → (now : Option (List ℕ)) → (sink : ℕ) → Devices
of_item devices new now sink = between devices.after new devices.now now devices.sink_now sink

module _ (devices : Devices) (new : DiskState) (now : Option (List ℕ)) (sink : ℕ) (rules : Rules) (s : Standing) (parts : List Part)
    (steps : List RunStep) where
  module _ (rest : List Part) (step : RunStep) (split : parts ≡ parts_of steps ++ step.part ∷ rest) where
    -- one item more was done
    pub more_going : {held held' : Held} {sealed sealed' : ℕ} → IsGoing devices rules s parts steps held sealed
        → ItemDone (of_item devices new now sink) rules (last_standing s steps) step held' sealed'
        → IsGoing (with_item devices new now sink) rules s parts (steps ++ step ∷ []) held' sealed'
    more_going {held} {held'} {sealed} {sealed'} going item =
        let there = sym (next_is rules s steps step) in
        record {
          run = run-append HasFlatRoom rules s steps (step ∷ []) going.run (item.begins, item.ended, tt);
          over = subst (λ (t : Standing). IsOver new held' t) there item.over;
          sealed_is = subst (λ (t : Standing). sealed' ≡ t.pool.group) there item.sealed_is;
          text = subst (Appends devices.written now) (sym (report_is rules s steps step))
              (Appends-trans devices.written devices.now now (report steps) (step_text step) going.text item.text);
          others = λ content is.
              subst (λ (t : Standing). HasNoOther rules.keying.key_of t (contents parts) content) there
              (item.others (contents parts)
              (subst (λ (ps : List Part). AreAmong (part_contents step.part) (contents ps)) (sym split)
              (contents_of_item (parts_of steps) rest step.part))
              content (going.others content is));
          crash = crash_more rules s steps step going.run rules.keying.tag going.crash item.crash;
        }

    stopped_so : IsRun HasFlatRoom rules s steps → step.before ≡ last_standing s steps
        → HasStopped rules s parts (steps ++ step ∷ []) steps step
    stopped_so run begins = record {
      rest = rest;
      steps_are = refl;
      parts_are =
          split ∙ sym (append_assoc (parts_of steps) (step.part ∷ []) rest)
          ∙ ap (λ ps. ps ++ rest) (sym (parts_of-append steps (step ∷ [])));
      run = run;
      begins = begins;
    }

    cut_so : IsRun HasFlatRoom rules s steps → Appends devices.written devices.now (report steps) → step.before ≡ last_standing s steps
        → IsCut rules step → Keeps devices.now now → WasCut (with_item devices new now sink) rules s parts (steps ++ step ∷ [])
    cut_so run text begins cut kept = record {
      done = steps;
      last = step;
      stopped = stopped_so run begins;
      cut = cut;
      text = kept_text devices.written devices.now now (report steps) text kept;
    }

    -- how far the session went that ended in the item
    far_by : (status : Status) → may_begin (origin status) ≡ true → may_end_item (origin status) ≡ true
        → IsRun HasFlatRoom rules s steps → Appends devices.written devices.now (report steps)
        → step.before ≡ last_standing s steps → EndsSo status (of_item devices new now sink) rules step
        → WentSo status (with_item devices new now sink) rules s parts (steps ++ step ∷ [])
    far_by SinkFault begun item run text begins ends = record {
      done = steps;
      last = step;
      stopped = stopped_so run begins;
      ended = ends.0;
      text =
          (ends.1.0, ends.1.1, Appends-trans devices.written devices.now now (report steps) (take ends.1.0 (step_text step)) text ends.1.2);
    }
    far_by ReadFault begun item run text begins ends =
        cut_so run text begins ends.0 ends.1
    far_by WriteFault begun item run text begins ends =
        cut_so run text begins ends.0 ends.1
    far_by OutOfMemory begun item run text begins ends =
        cut_so run text begins ends.0 ends.1
    far_by Done begun item run text begins ends = absurd (cc item)
    far_by Usage begun item run text begins ends = absurd (cc item)
    far_by (BadFile line kind) begun item run text begins ends = absurd (cc item)
    far_by SourceFault begun item run text begins ends = absurd (cc item)
    far_by NoPool begun item run text begins ends = absurd (cc begun)
    far_by (Damaged sector) begun item run text begins ends = absurd (cc begun)
    far_by (PoolExists group) begun item run text begins ends = absurd (cc begun)
    far_by (BadSize sectors) begun item run text begins ends = absurd (cc begun)
    far_by (LastGroup group) begun item run text begins ends = absurd (cc begun)

    -- the session ended in the item
    pub stop_now : {held : Held} {sealed sealed' : ℕ} (status : Status) → may_begin (origin status) ≡ true
        → may_end_item (origin status) ≡ true → IsGoing devices rules s parts steps held sealed
        → ItemCut (of_item devices new now sink) rules (last_standing s steps) step sealed' status
        → IsStopped (with_item devices new now sink) rules s parts (steps ++ step ∷ []) sealed' status
    stop_now {held} {sealed} {sealed'} status begun ended going item = record {
      far = far_by status begun ended going.run going.text item.begins item.ends;
      sealed_is = subst (λ (t : Standing). sealed' ≡ t.pool.group) (sym (next_is rules s steps step)) item.sealed_is;
      crash = crash_more rules s steps step going.run rules.keying.tag going.crash item.crash;
      at_return = λ c leaves.
          return_more rules s steps step going.run rules.keying.tag (is_write_fault status) sealed' c (item.at_return c leaves);
    }
