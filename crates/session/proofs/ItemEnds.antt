-- How an item ends a session or lets it go on, once its text is written.
use Rattle.std.proofs.Common.{◌≡◌, ◌∙◌, ℕ, false, List, [], ◌∷◌, Option, Some, None, Result, Ok, Err, refl, sym, ap, subst, inl, inr}
use Rattle.std.specs.Prelude.{⊤, OnOk, codes, if◌then◌else◌}
use Rattle.std.specs.Io.KnownBytes.{Appends, Keeps}
use Rattle.std.proofs.KnownBytes.{Keeps-refl}
use Rattle.io_model.specs.Outside.{TookFront}
use Rattle.disk_model.specs.Images.{Image}
use Rattle.disk_model.specs.Crashes.{LeavesOnly}
use Rattle.disk_model.specs.declared.disk.Failed.{Failed}
use Rattle.ddt_entry.specs.Keys.{Keying}
use Rattle.pool_model.specs.declared.commands.Item.{Item}
use Rattle.pool_model.specs.declared.commands.Item.TheVariants as items
use Rattle.pool_model.specs.declared.notes.Outcome.{Outcome}
use Rattle.pool_model.specs.declared.notes.Outcome.TheVariants.{Sealed, NoSpace, Cut}
use Rattle.pool_model.specs.declared.stats.Stats.{Stats}
use Rattle.pool_model.specs.Pool.{Pool}
use Rattle.pool_model.specs.Stats.{stats_of}
use Rattle.pool_model.specs.Plain.{GroupItem, Part, create, of_group, stat, «import», Told}
use Rattle.pool_model.specs.Mirrors.{part_of}
use Rattle.pool_model.specs.Group.{Standing, Rules, lanes_in_turn}
use Rattle.pool_model.specs.Run.{DidGroup, HasEnded, HasFlatRoom, RunStep, stands_after, standing_by}
use Rattle.pool_model.specs.Crash.{AnyStands, StandsAt, begun_by, is_begun_by}
use Rattle.pool_model.specs.Text.{number_line, stat_text, noted_text, item_text}
use Rattle.report.specs.ItemText.{text_of}
use Rattle.report.specs.Writes.{Wrote}
use Rattle.table_state.specs.Holding.{Holds}
use Rattle.table_state.specs.Pools.{Held}
use Rattle.session.specs.Devices.{Devices}
use Rattle.session.specs.StageEntries.{IsOver}
use Rattle.session.specs.StageGroups.{GroupCut, GroupEnded, GroupWent, TellsGroup, ended_by, group_step}
use Rattle.session.specs.StageItems.{EndsSo, ItemCut, ItemDone, ItemWent}
use Rattle.session.specs.Running.{is_write_fault}
use Rattle.session.specs.Stopping.{IsCut}
use Rattle.session.specs.declared.status.Status.{Status}
use Rattle.session.proofs.Over.{over_leaves}
use Rattle.session.specs.declared.status.Status.TheVariants.{Done, Usage, BadFile, SourceFault, SinkFault, ReadFault, WriteFault, NoPool, Damaged, OutOfMemory, PoolExists, BadSize, LastGroup}

-- where nothing was written, what is left is kept
kept : (written now : Option (List ℕ)) → now ≡ written → Keeps written now
kept written now same = subst (Keeps written) (sym same) (Keeps-refl written)

module _ (devices : Devices) (rules : Rules) (step : RunStep) where
  -- the item was cut, and nothing of it was written
  ends_cut : (status : Status) → (status ≡ SinkFault → ⊥) → IsCut rules step → Keeps devices.written devices.now
      → EndsSo status devices rules step
  ends_cut SinkFault other cut unwritten = absurd (other refl)
  ends_cut Done other cut unwritten = (cut, unwritten)
  ends_cut Usage other cut unwritten = (cut, unwritten)
  ends_cut (BadFile line kind) other cut unwritten = (cut, unwritten)
  ends_cut SourceFault other cut unwritten = (cut, unwritten)
  ends_cut ReadFault other cut unwritten = (cut, unwritten)
  ends_cut WriteFault other cut unwritten = (cut, unwritten)
  ends_cut NoPool other cut unwritten = (cut, unwritten)
  ends_cut (Damaged sector) other cut unwritten = (cut, unwritten)
  ends_cut OutOfMemory other cut unwritten = (cut, unwritten)
  ends_cut (PoolExists group) other cut unwritten = (cut, unwritten)
  ends_cut (BadSize sectors) other cut unwritten = (cut, unwritten)
  ends_cut (LastGroup group) other cut unwritten = (cut, unwritten)

-- a group that ended wasn't cut, and what stands after it stands at its number
ended_at : (o : Outcome) (rules : Rules) (s : Standing) (item : GroupItem) (told : Told) (after : Standing)
    → DidGroup o rules s item told after
    → (stands : Standing → Type 0) (sealed : ℕ) → stands (standing_by (Some o) s after) → (standing_by (Some o) s after).pool.group ≡ sealed
    → StandsAt stands false sealed (s ∷ (if is_begun_by o item told then after ∷ [] else []))
ended_at Sealed rules s item told after did stands sealed here number = inr (inl (number, inl here))
ended_at (NoSpace need free) rules s item told after did stands sealed here number = inl (number, inl here)
ended_at Cut rules s item told after did stands sealed here number = absurd did

-- ---- A group

module _ (devices : Devices) (keying : Keying) (s : Standing) (item : GroupItem) (told : Told) (held : Held) (sealed : ℕ) where
  abbrev rules : Rules
  rules = lanes_in_turn keying

  module _ (ended : GroupEnded devices.before devices.after rules s item told held) (tag_is : held.tag ≡ keying.tag)
      (sealed_is : sealed ≡ held.group) where
    abbrev step : RunStep
    step = group_step s item told ended.after

    group_done : Appends devices.written devices.now (noted_text item (Some told)) → ItemDone devices rules s step held sealed
    group_done text = record {
      begins = refl;
      ended = ended.ended;
      over = ended.over;
      sealed_is = sealed_is ∙ ended.over.stands.is_held.group_is;
      text = text;
      others = ended.others;
      crash = ended.crash;
    }

    group_untold : TookFront devices.written devices.now (noted_text item (Some told)) → ItemCut devices rules s step sealed SinkFault
    group_untold front = record {
      begins = refl;
      ends = (ended.ended, front);
      sealed_is = sealed_is ∙ ended.over.stands.is_held.group_is;
      crash = ended.crash;
      at_return = λ c left.
          ended_at told.outcome rules s item told ended.after ended.ended.did (Holds keying.tag c) sealed
          (over_leaves devices.after held (stands_after step) keying.tag ended.over tag_is c left)
          (sym (sealed_is ∙ ended.over.stands.is_held.group_is));
    }

  group_cut : (status : Status) (cut : GroupCut devices.before devices.after rules s item told status) → (status ≡ SinkFault → ⊥)
      → Keeps devices.written devices.now → sealed ≡ s.pool.group → ItemCut devices rules s (group_step s item told cut.after) sealed status
  group_cut status cut other unwritten sealed_is = record {
    begins = refl;
    ends = ends_cut devices rules (group_step s item told cut.after) status other cut.cut unwritten;
    sealed_is = sealed_is
        ∙ ap (λ (t : Standing). t.pool.group) (sym (ap (λ (o : Outcome). standing_by (Some o) s cut.after) cut.cut.outcome));
    crash = cut.crash;
    at_return = λ c left.
        subst (λ n. StandsAt (Holds keying.tag c) (is_write_fault status) n (s ∷ begun_by (group_step s item told cut.after)))
        (sym sealed_is) (cut.at_return c left);
  }

  -- by how the group ended, and by what was written of it
  pub group_went : (number before : ℕ) (ended result : Result Unit Status)
      → GroupWent devices.before devices.after rules s item told held ended
      → OnOk ended (held.tag ≡ keying.tag) → number ≡ held.group → before ≡ s.pool.group → (ended ≡ Err SinkFault → ⊥)
      → TellsGroup ended number before sealed
      (Wrote devices.written devices.now devices.sink_before devices.sink_now (noted_text item (Some told)) result)
      (devices.now ≡ devices.written) result
      → ItemWent devices rules s (of_group item) (told ∷ []) held sealed result
  group_went number before (Ok done) (Ok written) went tag_is number_is before_is device tells =
      (group_step s item told went.after, refl, refl, group_done went tag_is (tells.0 ∙ number_is) tells.1.all)
  group_went number before (Ok done) (Err status) went tag_is number_is before_is device tells = (
    group_step s item told went.after,
    refl,
    refl,
    subst (ItemCut devices rules s (group_step s item told went.after) sealed) (sym (tells.2 status refl))
        (group_untold went tag_is (tells.0 ∙ number_is) tells.1.front),
  )
  group_went number before (Err status) result went tag_is number_is before_is device tells =
      subst (λ (r : Result Unit Status). ItemWent devices rules s (of_group item) (told ∷ []) held sealed r) (sym tells.2) (
        group_step s item told went.after,
        refl,
        refl,
        group_cut status went (λ same. device (ap Err same)) (kept devices.written devices.now tells.1) (tells.0 ∙ before_is),
      )

-- ---- An item that is no group

-- whether an item is none
abbrev pub IsPlain : Part → Type 0
IsPlain (of_group item) = ⊥
IsPlain part = ⊤

module _ (devices : Devices) (rules : Rules) (s : Standing) (held : Held) (sealed : ℕ) (sealed_is : sealed ≡ s.pool.group)
    (crash : LeavesOnly devices.before devices.after (λ c. AnyStands (Holds rules.keying.tag c) (s ∷ []))) where
  abbrev plain_step : Part → RunStep
  plain_step part = record { part = part; before = s; note = None; after = s }

  begins_none : (part : Part) → begun_by (plain_step part) ≡ []
  begins_none create = refl
  begins_none (of_group item) = refl
  begins_none stat = refl
  begins_none «import» = refl

  plain_ended : (part : Part) → IsPlain part → HasEnded HasFlatRoom rules (plain_step part)
  plain_ended create is = (refl, refl)
  plain_ended (of_group item) is = absurd is
  plain_ended stat is = (refl, refl)
  plain_ended «import» is = (refl, refl)

  plain_cut : (part : Part) → IsPlain part → IsCut rules (plain_step part)
  plain_cut create is = (refl, refl)
  plain_cut (of_group item) is = absurd is
  plain_cut stat is = (refl, refl)
  plain_cut «import» is = (refl, refl)

  module _ (part : Part) (is : IsPlain part) where
    crash_here : LeavesOnly devices.before devices.after (λ c. AnyStands (Holds rules.keying.tag c) (s ∷ begun_by (plain_step part)))
    crash_here = subst (λ (b : List Standing). LeavesOnly devices.before devices.after (λ c. AnyStands (Holds rules.keying.tag c) (s ∷ b)))
        (sym (begins_none part)) crash

    -- it was done
    pub plain_done : IsOver devices.after held s → Appends devices.written devices.now (item_text part None s.pool)
        → ItemWent devices rules s part [] held sealed (Ok tt)
    plain_done over text = (
      plain_step part,
      refl,
      refl,
      record {
        begins = refl;
        ended = plain_ended part is;
        over = over;
        sealed_is = sealed_is;
        text = text;
        others = λ all among content apart. apart;
        crash = crash_here;
      },
    )

    -- its text wasn't written whole
    pub plain_untold : ((c : Image) → devices.after.may_leave c → Holds rules.keying.tag c s)
        → TookFront devices.written devices.now (item_text part None s.pool) → ItemWent devices rules s part [] held sealed (Err SinkFault)
    plain_untold holds front = (
      plain_step part,
      refl,
      refl,
      record {
        begins = refl;
        ends = (plain_ended part is, front);
        sealed_is = sealed_is;
        crash = crash_here;
        at_return = λ c left. inl (sym sealed_is, inl (holds c left));
      },
    )

    -- the session ended before its text
    pub plain_stopped : (status : Status) → (status ≡ SinkFault → ⊥)
        → ((c : Image) → devices.after.may_leave c → Holds rules.keying.tag c s)
        → Keeps devices.written devices.now → ItemWent devices rules s part [] held sealed (Err status)
    plain_stopped status other holds unwritten = (
      plain_step part,
      refl,
      refl,
      record {
        begins = refl;
        ends = ends_cut devices rules (plain_step part) status other (plain_cut part is) unwritten;
        sealed_is = sealed_is;
        crash = crash_here;
        at_return = λ c left. inl (sym sealed_is, inl (holds c left));
      },
    )

    -- by what was written
    pub told_went : (result : Result Unit Status) (wrote : Result Unit Failed) (text : List ℕ) → result ≡ ended_by wrote
        → Wrote devices.written devices.now devices.sink_before devices.sink_now text wrote → text ≡ item_text part None s.pool
        → IsOver devices.after held s → ((c : Image) → devices.after.may_leave c → Holds rules.keying.tag c s)
        → ItemWent devices rules s part [] held sealed result
    told_went result (Ok done) text ends so same over holds =
        subst (λ (r : Result Unit Status). ItemWent devices rules s part [] held sealed r) (sym ends)
        (plain_done over (subst (Appends devices.written devices.now) same so.all))
    told_went result (Err failed) text ends so same over holds =
        subst (λ (r : Result Unit Status). ItemWent devices rules s part [] held sealed r) (sym ends)
        (plain_untold holds (subst (TookFront devices.written devices.now) same so.front))

-- the texts of these items are those of the pool that stands
pub import_text : (item : Item) → item ≡ items.Import → (stats : Stats) (number : ℕ) (limit : Option ℕ) (pool : Pool) → number ≡ pool.group
    → text_of (part_of item) None stats number limit ≡ item_text (part_of item) None pool
import_text item is stats number limit pool same =
    subst (λ (i : Item). text_of (part_of i) None stats number limit ≡ item_text (part_of i) None pool) (sym is)
    (ap (λ n. number_line (codes "import") n) same)

pub pool_text : (item : Item) → item ≡ items.Stat → (stats : Stats) (number : ℕ) (limit : Option ℕ) (pool : Pool) → stats ≡ stats_of pool
    → number ≡ pool.group → limit ≡ pool.quota → text_of (part_of item) None stats number limit ≡ item_text (part_of item) None pool
pool_text item is stats number limit pool sums same same_limit =
    subst (λ (i : Item). text_of (part_of i) None stats number limit ≡ item_text (part_of i) None pool) (sym is)
    (ap (λ n. stat_text n limit stats) same ∙ ap (λ l. stat_text pool.group l stats) same_limit
    ∙ ap (λ (st : Stats). stat_text pool.group pool.quota st) sums)
