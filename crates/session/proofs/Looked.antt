-- What a session comes to that runs no command file.
use Rattle.std.proofs.Common.{◌≡◌, ◌∙◌, ℕ, true, false, List, [], ◌∷◌, Option, refl, subst, inl, inr}
use Rattle.std.specs.Prelude.{◌⊎◌}
use Rattle.io_model.specs.Outside.{Rose}
use Rattle.std.proofs.KnownBytes.{Keeps-refl}
use Rattle.disk_model.specs.Images.{Image}
use Rattle.disk_model.specs.Crashes.{DiskState}
use Rattle.pool_model.specs.declared.stats.Stats.{Stats}
use Rattle.pool_model.specs.Pool.{Pool}
use Rattle.pool_model.specs.Table.{TableState}
use Rattle.pool_model.specs.Group.{Standing}
use Rattle.pool_model.specs.Stats.{stats_of}
use Rattle.pool_model.specs.Crash.{FirstStands}
use Rattle.pool_model.specs.Text.{stat_text}
use Rattle.table_state.specs.Holding.{Holds}
use Rattle.table_state.specs.Pools.{Held, IsHeld}
use Rattle.table_state.proofs.Held.{holds_over, standing_over, stands_as_held}
use Rattle.session.specs.Devices.{between}
use Rattle.session.specs.Crashing.{SameFound}
use Rattle.session.specs.Running.{is_write_fault}
use Rattle.session.specs.Looking.{CreatedAtReturn, CreatedSo, Creates, IsCreated, LookCause, MayBeCreated, Tells, ToldSo, created_text, new_on}
use Rattle.session.specs.StageFinding.{FindCause, IsLeft, IsThere}
use Rattle.session.specs.StageMaking.{IsNewPool, IsNotMade, MakeCause}
use Rattle.session.specs.StageWriting.{WriteCause, WritesSo}
use Rattle.session.specs.Entries.{IsLawfulSize}
use Rattle.session.specs.declared.status.Status.{Status}
use Rattle.session.specs.declared.status.Status.TheVariants.{Done, Usage, BadFile, SourceFault, SinkFault, ReadFault, WriteFault, NoPool, Damaged, OutOfMemory, PoolExists, BadSize, LastGroup}
use Rattle.session.specs.declared.words.Look.TheVariants.{Create, Stat}
use Rattle.session.proofs.Causes.{unfound, unmade}
use Rattle.session.proofs.Over.{over_holds, over_leaves}

-- what holds of the numbers of a pool in memory holds of the pool's
pub told_of_pool : (P : ℕ → Option ℕ → Stats → Type 0) (image : Image) (held : Held) (pool : Pool) (table : TableState)
    (group : ℕ) (quota : Option ℕ) (stats : Stats) → IsHeld image held pool table → group ≡ held.group → quota ≡ held.quota
    → stats ≡ stats_of pool → P group quota stats → P pool.group pool.quota (stats_of pool)
told_of_pool P image held pool table group quota stats is same_group same_quota same_stats holds =
    subst (λ g. P g pool.quota (stats_of pool)) (same_group ∙ is.group_is)
    (subst (λ q. P group q (stats_of pool)) (same_quota ∙ is.quota_is) (subst (P group quota) same_stats holds))

-- ---- Where the text was written, or a front of it

module _ (tag : ℕ) (image : Image) (s : Standing) (written now : Option (List ℕ)) (holds : Holds tag image s) where
  -- what was written of what was found
  pub told_so : (status : Status) → WritesSo status (stat_text s.pool.group s.pool.quota (stats_of s.pool)) written now
      → ToldSo status tag image written now
  told_so Done text = (s, holds, text)
  told_so SinkFault text = (s, holds, text)
  told_so Usage text = text
  told_so (BadFile line kind) text = text
  told_so SourceFault text = text
  told_so ReadFault text = text
  told_so WriteFault text = text
  told_so NoPool text = text
  told_so (Damaged sector) text = text
  told_so OutOfMemory text = text
  told_so (PoolExists group) text = text
  told_so (BadSize n) text = text
  told_so (LastGroup group) text = text

-- ---- Where none was made

-- no write failed, so that nothing of a new pool stands
unfailed : {A B : Type 0} → A ⊎ ((false ≡ true) × B) → A
unfailed (inl same) = same
unfailed (inr failed) = absurd (cc failed.0)

-- a write failed: one of the two stands
either_stands : (tag : ℕ) (image c : Image) (stands : List Standing) → MayBeCreated image stands
    → SameFound image c ⊎ ((true ≡ true) × FirstStands (Holds tag c) stands) → SameFound image c ⊎ Holds tag c (new_on image)
either_stands tag image c stands may (inl same) = inl same
either_stands tag image c stands (inl none) (inr failed) = absurd (subst (FirstStands (Holds tag c)) none failed.1)
either_stands tag image c stands (inr one) (inr failed) = inr (subst (FirstStands (Holds tag c)) one.0 failed.1)

-- ---- A text that is written whatever stands

-- what holds of each status that comes then
pub written_by : (sink sink_now : ℕ) (P : Status → Type 0) → P Done → (Rose sink sink_now → P SinkFault) → (status : Status)
    → WriteCause status sink sink_now → P status
written_by sink sink_now P done sank Done cause = done
written_by sink sink_now P done sank SinkFault cause = sank cause
written_by sink sink_now P done sank Usage cause = absurd cause
written_by sink sink_now P done sank (BadFile line kind) cause = absurd cause
written_by sink sink_now P done sank SourceFault cause = absurd cause
written_by sink sink_now P done sank ReadFault cause = absurd cause
written_by sink sink_now P done sank WriteFault cause = absurd cause
written_by sink sink_now P done sank NoPool cause = absurd cause
written_by sink sink_now P done sank (Damaged sector) cause = absurd cause
written_by sink sink_now P done sank OutOfMemory cause = absurd cause
written_by sink sink_now P done sank (PoolExists group) cause = absurd cause
written_by sink sink_now P done sank (BadSize n) cause = absurd cause
written_by sink sink_now P done sank (LastGroup group) cause = absurd cause

-- ---- The sessions

module _ (old new : DiskState) (tag : ℕ) (image : Image) (written now : Option (List ℕ)) (sink sink_now : ℕ) where
  -- the pool was found
  pub tells : (held : Held) (status : Status) → IsLeft old new image → (there : IsThere new tag image held)
      → WritesSo status (stat_text there.pool.group there.pool.quota (stats_of there.pool)) written now
      → Tells (between old new written now sink sink_now) tag image status
  tells held status left there text = record {
    stays = left.told;
    any_moment = left.any_moment;
    done = told_so tag image (standing_over image held there.pool there.table) written now
        (subst (λ t. Holds t image (standing_over image held there.pool there.table)) there.tag_is
        (holds_over image held _ (stands_as_held image held there.pool there.table there.is_held)))
        status text;
  }

  -- no pool was found
  pub tells_nothing : (status : Status) → IsLeft old new image → FindCause status tag old new
      → Tells (between old new written written sink sink_now) tag image status
  tells_nothing status left cause = record {
    stays = left.told;
    any_moment = left.any_moment;
    done = unfound tag old new (λ status. ToldSo status tag image written written) (record {
      unread = λ rose. Keeps-refl written;
      unwritten = λ rose. Keeps-refl written;
      memory = Keeps-refl written;
      none = λ none. Keeps-refl written;
      damaged = λ sector damaged. Keeps-refl written;
    }) status cause;
  }

  -- no pool was made
  not_created : (status : Status) → CreatedSo status (IsCreated new tag image) written written
      → ((c : Image) (stands : List Standing) → MayBeCreated image stands
      → SameFound image c ⊎ ((is_write_fault status ≡ true) × FirstStands (Holds tag c) stands) → CreatedAtReturn status tag image c)
      → IsNotMade old new tag image status → Creates (between old new written written sink sink_now) tag image status
  not_created status done left made = record {
    done = done;
    stays = made.stays;
    crash = λ pending.
        let crashes = made.crash pending in
        record {
          stands = crashes.stands;
          may_stand = crashes.may_stand;
          any_moment = crashes.any_moment;
          at_return = λ c leaves. left c crashes.stands crashes.may_stand (crashes.at_return c leaves);
        };
  }

  pub creates_nothing : (status : Status) → MakeCause status old new → IsNotMade old new tag image status
      → Creates (between old new written written sink sink_now) tag image status
  creates_nothing = unmade old new
      (λ status. IsNotMade old new tag image status → Creates (between old new written written sink sink_now) tag image status) (record {
        unread = λ lawful rose. not_created ReadFault (Keeps-refl written) (λ c stands may. unfailed);
        unwritten = λ lawful rose. not_created WriteFault (Keeps-refl written) (either_stands tag image);
        memory = not_created OutOfMemory (Keeps-refl written) (λ c stands may. unfailed);
        there = λ group lawful newest. not_created (PoolExists group) (Keeps-refl written) (λ c stands may. unfailed);
        unlawful = λ n same small. not_created (BadSize n) (Keeps-refl written) (λ c stands may. unfailed);
      })

  -- the pool was made
  module _ (held : Held) (made : IsNewPool old new tag image held) where
    new_left : (c : Image) → new.may_leave c → Holds tag c (new_on image)
    new_left = over_leaves new held (new_on image) tag made.over made.tag_is

    is_created : IsCreated new tag image
    is_created = record {
      none = made.none;
      lawful = made.lawful;
      kept = record {
        image = made.over.image;
        told = made.over.told;
        quiet = made.over.quiet;
        holds = over_holds new held (new_on image) tag made.over made.tag_is;
      };
    }

    pub creates : (status : Status) → WriteCause status sink sink_now → WritesSo status created_text written now
        → Creates (between old new written now sink sink_now) tag image status
    creates = written_by sink sink_now
        (λ status. WritesSo status created_text written now → Creates (between old new written now sink sink_now) tag image status)
        (λ text. record {
          done = (is_created, text);
          stays = tt;
          crash = λ pending. record {
            stands = new_on image ∷ [];
            may_stand = inr (refl, made.none, made.lawful);
            any_moment = made.crash pending;
            at_return = new_left;
          };
        })
        (λ rose text. record {
          done = (is_created, text);
          stays = tt;
          crash = λ pending. record {
            stands = new_on image ∷ [];
            may_stand = inr (refl, made.none, made.lawful);
            any_moment = made.crash pending;
            at_return = new_left;
          };
        })

  -- ---- Why it ended so

  pub written_cause : IsLawfulSize old.sectors → (status : Status) → WriteCause status sink sink_now
      → LookCause status Create tag (between old new written now sink sink_now)
  written_cause lawful =
      written_by sink sink_now (λ status. LookCause status Create tag (between old new written now sink sink_now)) lawful
      (λ rose. (rose, lawful))

  pub made_cause : (status : Status) → MakeCause status old new → LookCause status Create tag (between old new written now sink sink_now)
  made_cause = unmade old new (λ status. LookCause status Create tag (between old new written now sink sink_now)) (record {
    unread = λ lawful rose. rose;
    unwritten = λ lawful rose. rose;
    memory = tt;
    there = λ group lawful newest. (refl, lawful, newest);
    unlawful = λ n same small. (refl, same, small);
  })

  pub found_cause : (status : Status) → FindCause status tag old new → LookCause status Stat tag (between old new written now sink sink_now)
  found_cause = unfound tag old new (λ status. LookCause status Stat tag (between old new written now sink sink_now)) (record {
    unread = λ rose. rose;
    unwritten = λ rose. rose;
    memory = tt;
    none = λ none. (refl, none);
    damaged = λ sector damaged. (refl, damaged);
  })
