-- What stands after the worked groups, each computed by the checker.
use Rattle.std.specs.Prelude.{◌≡◌, ◌≤◌, [], ◌∷◌, length}
use Rattle.pool_model.specs.Worked.{new, hit}
use Rattle.std.proofs.Common.{refl, ap, inl, inr, rules, arith}
use Rattle.pool_model.specs.WorkedLeft.{LaterHit, TakenUp, NewMoment, NoChange, QuotaFirst, OffLane, OtherLaneOff, ReadsNothing, WaitsAgain, BytesKept, OldestFirst, PlainStays, QuotaByKeys, CutBlock, Ordered, FreePlaces, OtherNotes}

pub later_hit : LaterHit
later_hit = search rules

pub taken_up : TakenUp
taken_up = search rules

pub new_moment : NewMoment
new_moment = search rules

pub no_change : NoChange
no_change = search rules

pub quota_first : QuotaFirst
quota_first = search rules

pub off_lane : OffLane
off_lane = search rules

pub other_lane_off : OtherLaneOff
other_lane_off = search rules

pub waits_again : WaitsAgain
waits_again = search rules

pub bytes_kept : BytesKept
bytes_kept = search rules

pub oldest_first : OldestFirst
oldest_first = search rules

pub plain_stays : PlainStays
plain_stays = search rules

pub quota_by_keys : QuotaByKeys
quota_by_keys = search rules

pub cut_block : CutBlock
cut_block = search rules

pub reads_nothing : ReadsNothing
reads_nothing = refl

pub ordered : Ordered
ordered = record { pointers = refl; runs = refl }

pub free_places : FreePlaces
free_places = record {
  between = search rules;
  last = search rules;
  pointed = λ h. elim h.unnamed.no_pointer.0 as (λ x. ⊥) [ inl e ↦ omega arith | inr e ↦ omega arith ];
  waiting = λ h. elim h.unnamed.not_waiting.0 as (λ x. ⊥) [ inl e ↦ omega arith | inr e ↦ omega arith ];
  page = λ h. elim h.no_page.0 as (λ x. ⊥) [ inl e ↦ omega arith | inr e ↦ omega arith ];
  ring = λ h. (let e : 32 ≤ 31 = h.unnamed.start in omega arith);
  behind = λ h. (let e : 2049 ≤ 2048 = h.end in omega arith);
  twice = λ h. elim h.apart.0.0 as (λ x. ⊥) [ inl e ↦ omega arith | inr e ↦ omega arith ];
  apart = search rules;
  used = refl;
  free = refl;
}

pub other_notes : OtherNotes
other_notes = record {
  right = search rules;
  elsewhere = search rules;
  missing = λ h. (let e = h.all_items in cc);
  one_more = λ h. (let e : 1 ≡ 2 = ap length h.all_notes in omega arith);
  number = λ h. (let e : 3 ≡ 2 = h.run.1.number in omega arith);
  kind = λ h. (let e = h.run.1.kind in cc);
  taken = λ h. (let e : 1 ≡ 0 = h.run.1.did.0 in omega arith);
  cut = λ h. h.run.1.did;
  answer = λ h. (let e : new ∷ [] ≡ hit ∷ [] = h.run.1.did.1.agrees.replies in cc);
  second_answer = λ h. (let e : 2 ≡ 1 = h.run.1.did.1.lanes.replies.0 in omega arith);
  lane = λ h. (let e : 1 ∷ [] ≡ 0 ∷ [] = h.run.1.did.1.lanes.lanes in cc);
  idle_lane = λ h. (let e : 0 ∷ 1 ∷ [] ≡ 0 ∷ [] = h.run.1.did.1.lanes.lanes in cc);
  ring = λ h. (let e : 32 ≤ 31 = h.run.1.room_is.1.free.0.unnamed.start in omega arith);
  no_place = λ h. (let e : 32 ≤ 0 = h.run.1.room_is.1.free.0.unnamed.start in omega arith);
  second_place = λ h. (let e : 33 ∷ [] ≡ [] = h.run.1.did.1.agrees.fresh.0 in cc);
  fault = λ h. (let e : 1 ≤ 0 = h.run.1.did.1.lanes.faults.0 in omega arith);
}
