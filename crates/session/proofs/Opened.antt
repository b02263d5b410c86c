-- A session's pool, where it was opened and where it was not.
use Rattle.std.proofs.Common.{◌≡◌, ◌≤◌, ◌<◌, ◌⊎◌, ℕ, List, [], ◌∷◌, Some, None, Result, Ok, Err, IsErr, refl, sym, subst, ◌∙◌, inl, inr}
use Rattle.std.specs.Prelude.{IsErrOf, MatchResult}
use Rattle.disk_model.specs.Images.{Image}
use Rattle.disk_model.specs.Crashes.{DiskState, LeavesOnly, NothingPending}
use Rattle.disk_model.proofs.Moments.{weakened}
use Rattle.pool_model.specs.Group.{Standing}
use Rattle.table_state.specs.Holding.{Holds}
use Rattle.table_state.specs.Pools.{Held}
use Rattle.table_state.proofs.Held.{holds_over, stands_as_held, standing_over}
use Rattle.session.specs.Crashing.{MayHold}
use Rattle.session.specs.Devices.{between}
use Rattle.session.specs.Entries.{IsLawfulSize, last_start}
use Rattle.session.specs.Looking.{MayBeCreated, new_on}
use Rattle.session.specs.StageFinding.{IsLeft, IsThere}
use Rattle.session.specs.StageMaking.{Makes, MakeCause}
use Rattle.session.specs.StageOpening.{IsNotOpened, IsOpened, Opens}
use Rattle.session.specs.Running.{HasCauseFor, MayStand, SizedSo}
use Rattle.session.specs.declared.status.Status.{Status}
use Rattle.session.specs.declared.status.Status.TheVariants.{LastGroup}
use Rattle.session.specs.declared.words.Word.TheVariants.{Run, Make}
use Rattle.session.proofs.Causes.{when_told, sized_so}

-- what stands in the image of a pool that was found
module _ (disk : DiskState) (tag : ℕ) (image : Image) (held : Held) (there : IsThere disk tag image held) where
  abbrev found : Standing
  found = standing_over image held there.pool there.table

  holds_found : Holds tag image found
  holds_found =
      subst (λ t. Holds t image found) there.tag_is
      (holds_over image held found (stands_as_held image held there.pool there.table there.is_held))

  group_found : (group : ℕ) → group ≡ held.group → found.pool.group ≡ group
  group_found group same = sym there.is_held.group_is ∙ sym same

-- too high a group is the image's
pub last_group_cause : (old new : DiskState) (tag : ℕ) (held : Held) (group : ℕ) → group ≡ held.group → last_start < group
    → ((image : Image) → old.seen ≡ Some image → IsThere new tag image held)
    → HasCauseFor (LastGroup group) Run tag (between old new None None 0 0) 0
last_group_cause old new tag held group same late is_there =
    when_told (λ image. (Run ≡ Run) × (last_start < group) × ((s : Standing) × Holds tag image s × (s.pool.group ≡ group))) old.seen
    (λ image told. let there = is_there image told in
    (refl, late, (found new tag image held there, holds_found new tag image held there, group_found new tag image held there group same)))

module _ (old new : DiskState) (tag : ℕ) (image : Image) where
  module _ (left : IsLeft old new image) where
    still_held : NothingPending (Some image) old.may_leave → (stands : List Standing) → LeavesOnly old new (MayHold tag image stands)
    still_held quiet stands = weakened (MayHold tag image stands) (left.any_moment quiet) (λ c same. inl (inl same))

    -- no pool was found
    pub not_found_at : (result : Result Held Status) (sealed : ℕ) → IsErr result → sealed ≡ 0 → Opens old new Run tag image sealed result
    not_found_at (Ok held) sealed failed none = absurd (cc failed)
    not_found_at (Err status) sealed failed none = record {
      stays = record { told = left.told; no_more = left.no_more };
      crash = λ quiet. record {
        stands = [];
        may_stand = inl refl;
        crash = record {
          any_moment = still_held quiet [];
          at_return = λ c now. inl (none, inl (inl (quiet.1 c (left.no_more c now))));
        };
      };
    }

    -- its group is too high
    pub too_late : (held : Held) (group : ℕ) → IsThere new tag image held → group ≡ held.group
        → IsNotOpened old new Run tag image group (LastGroup group)
    too_late held group there same =
        let s = found new tag image held there in
        let holds = holds_found new tag image held there in
        record {
          stays = record { told = left.told; no_more = left.no_more };
          crash = λ quiet. record {
            stands = s ∷ [];
            may_stand = inr (s, refl, holds);
            crash = record {
              any_moment = still_held quiet (s ∷ []);
              at_return = λ c now.
                  inr (inl (
                    group_found new tag image held there group same,
                    inl (subst (λ i. Holds tag i s) (sym (quiet.1 c (left.no_more c now))) holds),
                  ));
            };
          };
        }

    -- the pool is open
    pub is_open : (held : Held) → IsThere new tag image held → held.group ≤ last_start → IsOpened old new Run tag image held
    is_open held there early =
        let s = found new tag image held there in
        record {
          s = s;
          begins = record {
            holds = holds_found new tag image held there;
            blocks = refl;
            early = subst (λ n. n ≤ last_start) there.is_held.group_is early;
          };
          over = record {
            image = image;
            told = left.told;
            quiet = there.quiet;
            stands = stands_as_held image held there.pool there.table there.is_held;
          };
          crash = λ quiet. still_held quiet (s ∷ []);
        }

  -- no pool was made
  made_or_none : (stands : List Standing) → MayBeCreated image stands
      → (stands ≡ []) ⊎ ((s : Standing) × (stands ≡ s ∷ []) × MayStand Make tag image s)
  made_or_none stands (inl none) = inl none
  made_or_none stands (inr one) = inr (new_on image, one.0, (one.1, one.2, refl))

  pub not_made_at : (result : Result Held Status) (sealed : ℕ) → IsErr result → sealed ≡ 0
      → Makes old new tag image result → Opens old new Make tag image sealed result
  not_made_at (Ok held) sealed failed none made = absurd (cc failed)
  not_made_at (Err status) sealed failed none made = record {
    stays = made.stays;
    crash = λ quiet.
        let is = made.crash quiet in
        record {
          stands = is.stands;
          may_stand = made_or_none is.stands is.may_stand;
          crash = record { any_moment = is.any_moment; at_return = λ c now. inl (none, is.at_return c now) };
        };
  }

-- a size that is not lawful is told
pub not_made_sized : {T : Type 0} (old new : DiskState) (result : Result T Status) → IsErr result
    → ((status : Status) → IsErrOf result status → MakeCause status old new) → (IsLawfulSize old.sectors → ⊥)
    → MatchResult result (λ held. ⊥) (λ status. SizedSo status Unit)
not_made_sized old new (Ok held) failed cause unlawful = absurd (cc failed)
not_made_sized old new (Err status) failed cause unlawful = sized_so old new Unit unlawful status (cause status refl) (λ n same. tt)
