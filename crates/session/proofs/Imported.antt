-- The pool that is imported again over told contents is the one that stood in memory.
use Rattle.std.proofs.Common.{◌≡◌, ◌∙◌, ◌≤◌, ℕ, true, Option, Some, None, Err, refl, sym, subst}
use Rattle.std.specs.Prelude.{IfSome, IsErrOf}
use Rattle.disk_model.specs.Images.{Image}
use Rattle.disk_model.specs.DiskLaws.{Stays}
use Rattle.disk_model.specs.Crashes.{DiskState, NothingPending}
use Rattle.pool_model.specs.Pool.{Pool}
use Rattle.pool_model.specs.Table.{TableState}
use Rattle.pool_model.specs.Group.{Standing}
use Rattle.pool_model.specs.declared.faults.SyncFault.{SyncFault}
use Rattle.pool_model.specs.declared.faults.SyncFault.TheVariants.{ReadFault, WriteFault, GateFault, Damaged, Memory}
use Rattle.pool_model.specs.Run.{first_standing}
use Rattle.table_state.specs.Flat.{StandsFor, IsDamaged}
use Rattle.table_state.specs.Pools.{Held, IsHeld}
use Rattle.table_state.specs.Sound.{IsSound}
use Rattle.table_state.proofs.Held.{over_held}
use Rattle.txg_sync.specs.Creating.{Creates}
use Rattle.session.specs.Faults.{status_of}
use Rattle.session.specs.Origins.{origin, may_begin}
use Rattle.session.specs.StageEntries.{IsOnDisk, IsOver, StandsForTold}
use Rattle.session.specs.declared.status.Status.{Status}
use Rattle.session.proofs.Over.{over_holds}

-- the pool in memory stands for what the disk tells
abbrev pub IsFoundOver : Option Image → Held → Type 0
IsFoundOver seen found = IfSome seen (λ image. (pool : Pool) × (table : TableState) × IsHeld image found pool table)

-- it stands where the old one stood
pub found_over : (tag : ℕ) (old new : DiskState) (held found : Held) (s : Standing) → held.tag ≡ tag → found.tag ≡ tag
    → IsFoundOver old.seen found
    → IsOver old held s → Stays old.seen new.seen → NothingPending old.seen new.may_leave → IsOver new found s
found_over tag old new held found s tag_is found_tag_is given over stays quiet =
    let there = subst (λ (o : Option Image). IsFoundOver o found) over.told given in
    record {
      image = over.image;
      told = subst (λ (o : Option Image). Stays o new.seen) over.told stays;
      quiet = subst (λ (o : Option Image). NothingPending o new.may_leave) over.told quiet;
      stands = over_held over.image found there.0 there.1 s there.2
          (over_holds old held s found.tag over (tag_is ∙ sym found_tag_is));
    }

-- contents that stay tell the pool that they told
pub told_stays : (old new : Option Image) (held : Held) → (old ≡ None → new ≡ None) → Stays old new
    → IfSome old (λ image. (pool : Pool) × (table : TableState) × IsHeld image held pool table) → StandsForTold new held
told_stays None new held untold stays is = subst (λ (o : Option Image). StandsForTold o held) (sym (untold refl)) tt
told_stays (Some image) new held untold stays is = subst (λ (o : Option Image). StandsForTold o held) (sym stays) is

-- so a pool that was found is on the disk
pub found_on_disk : (tag : ℕ) (old new : DiskState) (found : Held) → (old.seen ≡ None → new.seen ≡ None) → Stays old.seen new.seen
    → IsSound found → found.sectors ≤ new.sectors → (found.tag ≡ tag) × IsFoundOver old.seen found → IsOnDisk new tag found
found_on_disk tag old new found untold stays sound there given = record {
  sound = sound;
  there = there;
  tag_is = given.0;
  told = told_stays old.seen new.seen found untold stays given.1;
}

-- and those of a pool that was created tell the new one
pub told_created : (old new : Option Image) (sectors : ℕ) (held : Held) → (old ≡ None → new ≡ None) → Creates old new sectors held
    → StandsForTold new held
told_created None new sectors held untold is = subst (λ (o : Option Image). StandsForTold o held) (sym (untold refl)) tt
told_created (Some image) new sectors held untold (c, told, over) =
    subst (λ (o : Option Image). StandsForTold o held) (sym told)
    ((first_standing sectors).pool, (first_standing sectors).table, over.is_held)

-- where a pool is told there is no damage
pub not_damaged : (tag : ℕ) (old : Option Image) (held : Held) (image : Image) → held.tag ≡ tag → StandsForTold old held → old ≡ Some image
    → IfSome old (IsDamaged tag) → ⊥
not_damaged tag None held image tag_is stood told damaged = cc told
not_damaged tag (Some other) held image tag_is stood told damaged =
    damaged.no_pool stood.0 stood.1 (subst (λ t. StandsFor t other stood.0 stood.1) tag_is stood.2.stands)

-- what holds of what was found
pub of_found : {X : Type 0} (P : X → Type 0) (o : Option X) (found : X) → o ≡ Some found → IfSome o P → P found
of_found P o found is holds = subst (λ x. IfSome x P) is holds

same_error : (a b : Status) → IsErrOf {T = Unit {0}} {E = Status} (Err a) b → a ≡ b
same_error a b same = cc same

-- a fault that isn't damage ends a session whose disk tells its contents
pub fault_ended : (fault : SyncFault) (answer status : Status) → answer ≡ status_of fault
    → IsErrOf {T = Unit {0}} {E = Status} (Err answer) status
    → ((sector : ℕ) → fault ≡ Damaged sector → ⊥) → may_begin (origin status) ≡ true
fault_ended fault answer status is same undamaged =
    subst (λ s. may_begin (origin s) ≡ true) (sym is ∙ same_error answer status same) (ended fault undamaged)
  where
    ended : (fault : SyncFault) → ((sector : ℕ) → fault ≡ Damaged sector → ⊥) → may_begin (origin (status_of fault)) ≡ true
    ended ReadFault undamaged = refl
    ended WriteFault undamaged = refl
    ended GateFault undamaged = refl
    ended (Damaged sector) undamaged = absurd (undamaged sector refl)
    ended Memory undamaged = refl
