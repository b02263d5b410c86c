-- What a crash leaves while a new pool is made, and what stands then.
use Rattle.std.proofs.Common.{◌≡◌, ◌≤◌, ℕ, List, [], ◌∷◌, length, Option, Some, Result, Ok, Err, IsErr, refl, sym, subst, ap, ◌∙◌, inl, inr, ⊎_elim, arith}
use Rattle.disk_model.specs.Images.{Image}
use Rattle.disk_model.specs.DiskLaws.{IsImage, TellsImage, Stays}
use Rattle.disk_model.specs.Crashes.{DiskState, LeavesOnly, NothingPending}
use Rattle.disk_model.specs.DiskLaws.{IsDisk}
use Rattle.disk_model.proofs.Moments.{started, and_then, weakened, at_end}
use Rattle.pool_model.specs.declared.faults.SyncFault.{SyncFault}
use Rattle.pool_model.specs.declared.faults.SyncFault.TheVariants as syncs
use Rattle.pool_model.specs.Group.{Standing}
use Rattle.pool_model.specs.Run.{first_standing}
use Rattle.table_state.specs.SealForms.{fewest_sectors, most_sectors}
use Rattle.table_state.specs.Flat.{HasNoPool}
use Rattle.table_state.specs.Holding.{Holds}
use Rattle.table_state.specs.Over.{StandsOver}
use Rattle.table_state.specs.Pools.{Held, new_held}
use Rattle.txg_sync.specs.Creating.{Creates, HasNoSeal}
use Rattle.txg_sync.specs.FirstSeal.{NoneOrNew}
use Rattle.txg_sync.specs.Stages.{LeavesBeginning, LeavesUnbegun}
use Rattle.txg_sync.proofs.Taking.{stays_some}
use Rattle.session.specs.Faults.{status_of}
use Rattle.session.specs.Crashing.{MayHold}
use Rattle.session.specs.Entries.{IsLawfulSize}
use Rattle.session.specs.Looking.{new_on}
use Rattle.session.specs.StageMaking.{IsNewPool, IsNotMade, MakingCrashes, Makes}
use Rattle.session.specs.Staying.{IsAsBefore, StaysSo, StaysUncreated}
use Rattle.session.specs.declared.status.Status.{Status}
use Rattle.session.specs.declared.status.Status.TheVariants.{Done, Usage, BadFile, SourceFault, SinkFault, ReadFault, WriteFault, NoPool, Damaged, OutOfMemory, PoolExists, BadSize, LastGroup}
use Rattle.session.specs.declared.words.Word.{Word}
use Rattle.session.specs.declared.words.Word.TheVariants.{Run, Make}

-- told contents with nothing pending are told so
pub still_pending : (image : Image) (old : Option Image) (may_leave : Image → Type 0) → old ≡ Some image → NothingPending old may_leave
    → NothingPending (Some image) may_leave
still_pending image old may_leave told pending = subst (λ (o : Option Image). NothingPending o may_leave) told pending

module _ (tag : ℕ) (image : Image) where
  -- whatever ended it, all may be as before
  pub still_told : (old new : DiskState) (status : Status) → IsAsBefore image old new → StaysUncreated status tag image old new
  still_told old new WriteFault is = (
    image,
    is.told,
    record { shows = inl refl; outside = record { count = refl; others = λ at gate body. refl } },
  )
  still_told old new Done is = tt
  still_told old new SinkFault is = tt
  still_told old new Usage is = is
  still_told old new (BadFile line kind) is = is
  still_told old new SourceFault is = is
  still_told old new ReadFault is = is
  still_told old new NoPool is = is
  still_told old new (Damaged sector) is = is
  still_told old new OutOfMemory is = is
  still_told old new (PoolExists group) is = is
  still_told old new (BadSize n) is = is
  still_told old new (LastGroup group) is = is

  pub still_so : (old new : DiskState) (status : Status) (word : Word) → IsAsBefore image old new → StaysSo status word tag image old new
  still_so old new status Run is = is
  still_so old new status Make is = still_told old new status is

  -- what is left behind calls that leave no more
  module _ (old mid new : DiskState) (no_more : (c : Image) → mid.may_leave c → old.may_leave c) where
    as_before : IsAsBefore image mid new → IsAsBefore image old new
    as_before is = record { told = is.told; no_more = λ c left. no_more c (is.no_more c left) }

    stays_behind : (status : Status) → StaysUncreated status tag image mid new → StaysUncreated status tag image old new
    stays_behind WriteFault stays = stays
    stays_behind Done stays = tt
    stays_behind SinkFault stays = tt
    stays_behind Usage stays = as_before stays
    stays_behind (BadFile line kind) stays = as_before stays
    stays_behind SourceFault stays = as_before stays
    stays_behind ReadFault stays = as_before stays
    stays_behind NoPool stays = as_before stays
    stays_behind (Damaged sector) stays = as_before stays
    stays_behind OutOfMemory stays = as_before stays
    stays_behind (PoolExists group) stays = as_before stays
    stays_behind (BadSize n) stays = as_before stays
    stays_behind (LastGroup group) stays = as_before stays

module _ (tag : ℕ) (image : Image) (old : DiskState) where
  -- what leaves only what stood leaves what is found to be the same
  still_held : {new : DiskState} → NothingPending (Some image) old.may_leave → (stands : List Standing) → LeavesOnly old new old.may_leave
      → LeavesOnly old new (MayHold tag image stands)
  still_held pending stands run = weakened (MayHold tag image stands) run (λ c left. inl (inl (pending.1 c left)))

  -- no pool was begun
  pub not_begun : {new : DiskState} (status : Status) → new.seen ≡ Some image → LeavesOnly old new old.may_leave
      → ((c : Image) → new.may_leave c → old.may_leave c) → IsNotMade old new tag image status
  not_begun {new} status told run no_more = record {
    stays = still_told tag image old new status (record { told = told; no_more = no_more });
    crash = λ pending. record {
      stands = [];
      may_stand = inl refl;
      any_moment = still_held pending [] run;
      at_return = λ c left. inl (inl (pending.1 c (no_more c left)));
    };
  }

  -- the same of a result that is an error
  pub not_begun_at : {new : DiskState} (result : Result Held Status) → IsErr result → new.seen ≡ Some image
      → LeavesOnly old new old.may_leave → ((c : Image) → new.may_leave c → old.may_leave c) → Makes old new tag image result
  not_begun_at (Ok held) failed told run no_more = absurd (cc failed)
  not_begun_at (Err status) failed told run no_more = not_begun status told run no_more

  -- no device was called
  pub not_called : (status : Status) → old.seen ≡ Some image → IsDisk old → IsNotMade old old tag image status
  not_called status told is = not_begun status told (started old.may_leave is.only_now) (λ c left. left)

  -- before a pool was begun nothing was changed
  pub made_behind : (mid new : DiskState) (result : Result Held Status) → LeavesOnly old mid old.may_leave
      → ((c : Image) → mid.may_leave c → old.may_leave c) → NothingPending (Some image) mid.may_leave → Makes mid new tag image result
      → Makes old new tag image result
  made_behind mid new (Ok held) run no_more quiet made = record {
    none = made.none;
    lawful = made.lawful;
    tag_is = made.tag_is;
    over = made.over;
    crash = λ pending. and_then (still_held pending (new_on image ∷ []) run) (made.crash quiet);
  }
  made_behind mid new (Err status) run no_more quiet made = record {
    stays = stays_behind tag image old mid new no_more status made.stays;
    crash = λ pending.
        let crashes = made.crash quiet in
        record {
          stands = crashes.stands;
          may_stand = crashes.may_stand;
          any_moment = and_then (still_held pending crashes.stands run) crashes.any_moment;
          at_return = crashes.at_return;
        };
  }

module _ (tag sectors : ℕ) (image : Image) (old new : DiskState) (told : old.seen ≡ Some image) (tells : TellsImage sectors old.seen)
    (enough : fewest_sectors ≤ sectors) (few : sectors ≤ most_sectors) (no_seal : HasNoSeal old.seen) where
  is : IsImage sectors image
  is = subst (λ (o : Option Image). TellsImage sectors o) told tells

  none : HasNoPool image
  none = subst HasNoSeal told no_seal

  lawful : IsLawfulSize (length image)
  lawful = record { enough = omega (arith, enough, is.count); few = omega (arith, few, is.count) }

  begun_or_none : (c : Image) → NoneOrNew tag sectors c → MayHold tag image (new_on image ∷ []) c
  begun_or_none c (inl gone) = inl (inr (none, gone))
  begun_or_none c (inr holds) = inr (inl (subst (λ (n : ℕ). Holds tag c (first_standing n)) (sym is.count) holds))

  while_made : LeavesOnly old new (NoneOrNew tag sectors) → LeavesOnly old new (MayHold tag image (new_on image ∷ []))
  while_made run = weakened (MayHold tag image (new_on image ∷ [])) run begun_or_none

  -- what is left where the making failed
  pub told_unmade : (fault : SyncFault) → (fault ≡ syncs.ReadFault → Stays old.seen new.seen)
      → (fault ≡ syncs.ReadFault → (c : Image) → new.may_leave c → old.may_leave c)
      → (fault ≡ syncs.WriteFault → LeavesUnbegun old.seen new.seen) → (fault ≡ syncs.GateFault → LeavesBeginning tag old.seen new.seen)
      → (fault ≡ syncs.Memory → new.seen ≡ old.seen) → (fault ≡ syncs.Memory → (c : Image) → new.may_leave c → old.may_leave c)
      → ((sector : ℕ) → fault ≡ syncs.Damaged sector → ⊥) → StaysUncreated (status_of fault) tag image old new
  told_unmade syncs.ReadFault unread no_more before at unwritten none_more whole =
      record { told = stays_some image old.seen new.seen told (unread refl); no_more = no_more refl }
  told_unmade syncs.WriteFault unread no_more before at unwritten none_more whole =
      let left : LeavesUnbegun (Some image) new.seen = subst (λ (o : Option Image). LeavesUnbegun o new.seen) told (before refl) in
      (left.0, left.1, record { shows = inr (none, inl left.2.none); outside = left.2.outside })
  told_unmade syncs.GateFault unread no_more before at unwritten none_more whole =
      let left : LeavesBeginning tag (Some image) new.seen = subst (λ (o : Option Image). LeavesBeginning tag o new.seen) told (at refl) in
      (left.0, left.1, record { shows = inr (none, left.2.shows); outside = left.2.outside })
  told_unmade (syncs.Damaged sector) unread no_more before at unwritten none_more whole = absurd (whole sector refl)
  told_unmade syncs.Memory unread no_more before at unwritten none_more whole =
      record { told = unwritten refl ∙ told; no_more = none_more refl }

  -- what a crash leaves then
  pub not_made : (fault : SyncFault) → IsDisk new → (NothingPending (Some image) old.may_leave → LeavesOnly old new (NoneOrNew tag sectors))
      → (fault ≡ syncs.WriteFault → NothingPending (Some image) old.may_leave → LeavesOnly old new HasNoPool)
      → (fault ≡ syncs.ReadFault → (c : Image) → new.may_leave c → old.may_leave c)
      → (fault ≡ syncs.Memory → (c : Image) → new.may_leave c → old.may_leave c)
      → ((sector : ℕ) → fault ≡ syncs.Damaged sector → ⊥) → NothingPending (Some image) old.may_leave
      → MakingCrashes old new tag image (status_of fault)
  not_made syncs.ReadFault here run before unread unwritten whole pending = record {
    stands = new_on image ∷ [];
    may_stand = inr (refl, none, lawful);
    any_moment = while_made (run pending);
    at_return = λ c left. inl (inl (pending.1 c (unread refl c left)));
  }
  not_made syncs.WriteFault here run before unread unwritten whole pending = record {
    stands = new_on image ∷ [];
    may_stand = inr (refl, none, lawful);
    any_moment = while_made (run pending);
    at_return = λ c left. inl (inr (none, at_end (before refl pending) here c left));
  }
  not_made syncs.GateFault here run before unread unwritten whole pending = record {
    stands = new_on image ∷ [];
    may_stand = inr (refl, none, lawful);
    any_moment = while_made (run pending);
    at_return = λ c left.
        ⊎_elim (λ same. inl same) (λ any. ⊎_elim (λ holds. inr (refl, holds)) (λ no. absurd no) any)
        (at_end (while_made (run pending)) here c left);
  }
  not_made (syncs.Damaged sector) here run before unread unwritten whole pending = absurd (whole sector refl)
  not_made syncs.Memory here run before unread unwritten whole pending = record {
    stands = new_on image ∷ [];
    may_stand = inr (refl, none, lawful);
    any_moment = while_made (run pending);
    at_return = λ c left. inl (inl (pending.1 c (unwritten refl c left)));
  }

  -- the pool was made
  pub new_pool : (held : Held) → (NothingPending (Some image) old.may_leave → LeavesOnly old new (NoneOrNew tag sectors))
      → held ≡ new_held tag sectors → Creates old.seen new.seen sectors held → NothingPending new.seen new.may_leave
      → IsNewPool old new tag image held
  new_pool held run same created durable =
      let there = subst (λ (o : Option Image). Creates o new.seen sectors held) told created in
      record {
        none = none;
        lawful = lawful;
        tag_is = ap (λ (h : Held). h.tag) same;
        over = record {
          image = there.0;
          told = there.1;
          quiet = subst (λ (o : Option Image). NothingPending o new.may_leave) there.1 durable;
          stands = subst (λ (n : ℕ). StandsOver there.0 held (first_standing n)) (sym is.count) there.2;
        };
        crash = λ pending. while_made (run pending);
      }
