-- A group that wasn't sealed: for want of room, or because a device or memory failed before its sync.
use Rattle.std.proofs.Common.{◌≡◌, ◌∙◌, ◌+◌, ℕ, Option, Some, Result, Ok, Err, List, [], ◌∷◌, refl, sym, ap, subst, inl}
use Rattle.std.specs.Prelude.{unwrap_or}
use Rattle.disk_model.specs.Images.{Image}
use Rattle.disk_model.specs.DiskLaws.{Stays}
use Rattle.disk_model.specs.Crashes.{DiskState, LeavesOnly}
use Rattle.disk_model.specs.DiskLaws.{SameOutcomes}
use Rattle.disk_model.proofs.Moments.{and_then, weakened}
use Rattle.ddt_entry.specs.Keys.{Keying}
use Rattle.pool_model.specs.declared.faults.GroupFault.{GroupFault}
use Rattle.pool_model.specs.declared.faults.GroupFault.TheVariants as groups
use Rattle.pool_model.specs.declared.notes.Outcome.{Outcome}
use Rattle.pool_model.specs.declared.notes.Outcome.TheVariants.{Sealed, NoSpace, Cut}
use Rattle.pool_model.specs.declared.notes.Kind.{Kind}
use Rattle.pool_model.specs.Plain.{GroupItem, of_group, Told}
use Rattle.pool_model.specs.Group.{Standing, lanes_in_turn}
use Rattle.pool_model.specs.Run.{changes_of_group, kind_of, writes_of_group}
use Rattle.pool_model.specs.Crash.{AnyStands, begun_by}
use Rattle.table_state.specs.Closing.{PlainClosed}
use Rattle.table_state.specs.Holding.{Holds}
use Rattle.table_state.specs.Over.{StandsOver}
use Rattle.table_state.specs.Pools.{Held}
use Rattle.session.specs.StageClosing.{ClosesFrom, lacks_room}
use Rattle.session.specs.StageEntries.{IsOver}
use Rattle.session.specs.StageItems.{HasNoClashIn}
use Rattle.session.specs.StageGroups.{GroupCut, GroupEnded, GroupWent, HasRunOver, group_step, new_told, outcome_by, refused_by}
use Rattle.session.specs.declared.status.Status.{Status}
use Rattle.session.specs.declared.status.Status.TheVariants.{ReadFault, WriteFault, Damaged, OutOfMemory}
use Rattle.session.proofs.NotedGroups.{after_group, none_given, noted_standing}
use Rattle.session.proofs.Over.{over_leaves}
use Rattle.session.proofs.Sealing.{same_lacking}

module _ (old : DiskState) (keying : Keying) (held : Held) (s : Standing) (over : IsOver old held s) (tag_is : held.tag ≡ keying.tag) where
  -- a crash leaves what stands at each moment of calls that leave no more
  pub nothing_new : {new : DiskState} (rest : List Standing) → LeavesOnly old new old.may_leave
      → LeavesOnly old new (λ c. AnyStands (Holds keying.tag c) (s ∷ rest))
  nothing_new rest run =
      weakened (λ c. AnyStands (Holds keying.tag c) (s ∷ rest)) run (λ c left. inl (over_leaves old held s keying.tag over tag_is c left))

  -- after calls that write nothing
  module _ (new : DiskState) (stays : Stays old.seen new.seen) (same : SameOutcomes old.may_leave new.may_leave)
      (run : LeavesOnly old new old.may_leave) where
    abbrev pub still_over : IsOver new held s
    still_over = record {
      image = over.image;
      told = subst (λ (o : Option Image). Stays o new.seen) over.told stays;
      quiet = (same.no_fewer over.image over.quiet.0, λ c left. over.quiet.1 c (same.no_more c left));
      stands = over.stands;
    }

    -- a group that was not closed
    module _ (item : GroupItem) where
      cut_before : (told : Told) (status : Status) → told ≡ new_told (held.group + 1) (kind_of item) Cut
          → GroupCut old new (lanes_in_turn keying) s item told status
      cut_before told status is =
          subst (λ (t : Told). GroupCut old new (lanes_in_turn keying) s item t status) (sym is) (record {
            after = after_group keying s (new_told (held.group + 1) (kind_of item) Cut) item [];
            cut = record {
              number = ap (λ n. n + 1) over.stands.is_held.group_is;
              kind = refl;
              outcome = refl;
              taken = refl;
              after_is = noted_standing keying s (new_told (held.group + 1) (kind_of item) Cut) Cut 0 item [];
              did = inl refl;
            };
            crash = nothing_new _ run;
            at_return = λ c left. inl (refl, inl (over_leaves old held s keying.tag over tag_is c (same.no_more c left)));
          })

      lacked : (told : Told) (needed left : ℕ) → told ≡ new_told (held.group + 1) (kind_of item) (NoSpace needed left)
          → lacks_room held s.pool item ≡ Some (NoSpace needed left) → GroupEnded old new (lanes_in_turn keying) s item told held
      lacked told needed left is lacking =
          subst (λ (t : Told). GroupEnded old new (lanes_in_turn keying) s item t held) (sym is) (record {
            after = s;
            ended = record {
              number = ap (λ n. n + 1) over.stands.is_held.group_is;
              kind = refl;
              did = (refl, refl, refl);
              room_is = record {
                outcome_is =
                    ap (λ (o : Option Outcome). unwrap_or o Sealed)
                    (sym lacking
                    ∙ same_lacking over.image held s (changes_of_group item s.pool) (writes_of_group item) over.stands);
                fresh = none_given keying s (new_told (held.group + 1) (kind_of item) (NoSpace needed left)) item refl;
                pages = λ sealed. absurd (cc sealed);
              };
            };
            over = still_over;
            others = λ all among content apart. apart;
            crash = nothing_new [] run;
          })

      -- by its fault
      pub refused_went : (fault : GroupFault) (told : Told) (answer : Result Unit Status)
          → answer ≡ refused_by fault → told ≡ new_told (held.group + 1) (kind_of item) (outcome_by fault)
          → ((needed left : ℕ) → fault ≡ groups.NoSpace needed left → lacks_room held s.pool item ≡ Some (NoSpace needed left))
          → GroupWent old new (lanes_in_turn keying) s item told held answer
      refused_went fault told answer answered is lacking =
          subst (λ (r : Result Unit Status). GroupWent old new (lanes_in_turn keying) s item told held r) (sym answered)
          (by_fault fault is lacking)
        where
          by_fault : (fault : GroupFault) → told ≡ new_told (held.group + 1) (kind_of item) (outcome_by fault)
              → ((needed left : ℕ) → fault ≡ groups.NoSpace needed left → lacks_room held s.pool item ≡ Some (NoSpace needed left))
              → GroupWent old new (lanes_in_turn keying) s item told held (refused_by fault)
          by_fault (groups.NoSpace needed left) is lacking = lacked told needed left is (lacking needed left refl)
          by_fault groups.ReadFault is lacking = cut_before told ReadFault is
          by_fault groups.WriteFault is lacking = cut_before told WriteFault is
          by_fault (groups.Damaged sector) is lacking = cut_before told (Damaged sector) is
          by_fault groups.Memory is lacking = cut_before told OutOfMemory is

      -- a group that was closed, at the disk as its calls left it
      pub has_run : (told : Told) (taken : ℕ) (closed : PlainClosed) → HasNoClashIn keying.key_of s (of_group item)
          → ((image : Image) (stand : Standing) → old.seen ≡ Some image → StandsOver image held stand
          → ClosesFrom (lanes_in_turn keying) image held stand item told taken closed)
          → (before : Told) → before ≡ new_told (held.group + 1) (kind_of item) Cut → told ≡ record before { lanes = told.lanes }
          → HasRunOver keying new held s item told taken closed
      has_run told taken closed no_clash ran before fresh kept = record {
        over = still_over;
        tag_is = tag_is;
        no_clash = no_clash;
        run = ran over.image s over.told over.stands;
        number = ap (λ (t : Told). t.number) kept ∙ ap (λ (t : Told). t.number) fresh;
        kind = ap (λ (t : Told). t.kind) kept ∙ ap (λ (t : Told). t.kind) fresh;
        untaken = ap (λ (t : Told). t.taken) kept ∙ ap (λ (t : Told). t.taken) fresh;
      }

      -- a group that began earlier, with these calls
      pub went_since : (end : DiskState) (told : Told) (next : Held) (answer : Result Unit Status)
          → GroupWent new end (lanes_in_turn keying) s item told next answer
          → GroupWent old end (lanes_in_turn keying) s item told next answer
      went_since end told next (Ok done) went = record {
        after = went.after;
        ended = went.ended;
        over = went.over;
        others = went.others;
        crash = and_then (nothing_new (begun_by (group_step s item told went.after)) run) went.crash;
      }
      went_since end told next (Err status) went = record {
        after = went.after;
        cut = went.cut;
        crash = and_then (nothing_new (begun_by (group_step s item told went.after)) run) went.crash;
        at_return = went.at_return;
      }

-- what is noted of a group that wasn't closed
pub noted_refused : (noted run before : Told) (number : ℕ) (kind : Kind) (o : Outcome) → noted ≡ record run { outcome = o }
    → run ≡ record before { lanes = run.lanes } → run.lanes ≡ [] → before ≡ new_told number kind Cut → noted ≡ new_told number kind o
noted_refused noted run before number kind o is kept none new =
    is ∙ ap (λ (t : Told). record t { outcome = o })
    (kept ∙ ap (λ ls. record before { lanes = ls }) none ∙ ap (λ (t : Told). record t { lanes = [] }) new)
