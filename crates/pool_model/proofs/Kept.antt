-- The premise on clashes after a group: a content that has no other of its key before the group has none after it.
use Rattle.std.proofs.Common.{◌≡◌, ℕ, Bool, true, false, cond, List, [], ◌∷◌, Some, inl, ⊎_elim, map, sym, ap, ◌∙◌}
use Rattle.std.specs.Prelude.{take, ◌&&◌, ◌⊎◌}
use Rattle.std.specs.List.{AllByRecursion, list_any}
use Rattle.ddt_entry.specs.Keys.{Keying, key_eq}
use Rattle.ddt_entry.specs.declared.key.Key.{Key}
use Rattle.ddt_entry.specs.declared.entry.Home.{Home}
use Rattle.ddt_entry.specs.declared.entry.Entry.{Entry}
use Rattle.pool_model.specs.Pool.{Pointer, is_tracked, loose}
use Rattle.pool_model.specs.Table.{found, waiting_in}
use Rattle.pool_model.specs.Plain.{Task, GroupItem, lanes, prune, quota, set_mode, Told}
use Rattle.pool_model.specs.Prune.{loosened, pruned}
use Rattle.pool_model.specs.Group.{Standing, lanes_in_turn}
use Rattle.pool_model.specs.Run.{sealed_standing}
use Rattle.pool_model.specs.Clash.{NoOther, HasNoOther, contents_in, group_contents}
use Rattle.pool_model.specs.Waiting.{IsIn, AreAmong, WaitedBefore, WaitingStays, WaitsByPointer, WaitingComes}
use Rattle.pool_model.proofs.Made.{MadeFor, group_makes}
use Rattle.pool_model.proofs.Lists.{all_from, all_at, among_all}

-- where the key is this waiting home's, the content is its block's bytes
abbrev NoOtherThere : (List ℕ → Key) → (ℕ → List ℕ) → List ℕ → Entry → Type 0
NoOtherThere key_of blocks x entry = key_of x ≡ entry.key → x ≡ take entry.key.len (blocks entry.home.place)

-- where the key is this pointer's, the content is
abbrev NoOtherIn : (List ℕ → Key) → List ℕ → Pointer → Type 0
NoOtherIn key_of x p = key_of x ≡ p.key → x ≡ p.content

-- where each waiting home stays, each comes from before
pub stays_comes : (s after : Standing) → WaitingStays s after → WaitingComes s after
stays_comes s after stays =
    all_from (WaitedBefore s after) (λ (e : Entry). WaitedBefore s after e ⊎ WaitsByPointer s after e) (λ e stay. inl stay)
    (waiting_in after.table) stays

-- a home with the key and the bytes of a pointer has no other content, since the pointer has none
by_pointer : (key_of : List ℕ → Key) (s after : Standing) (x : List ℕ) (e : Entry) → AllByRecursion (NoOtherIn key_of x) s.pool.pointers
    → WaitsByPointer s after e → NoOtherThere key_of after.blocks x e
by_pointer key_of s after x e all waits same =
    all_at (NoOtherIn key_of x) waits.pointer s.pool.pointers waits.was_there all (same ∙ sym waits.key_is) ∙ waits.bytes_are

by_waiting : (key_of : List ℕ → Key) (s after : Standing) (x : List ℕ) (e : Entry)
    → AllByRecursion (NoOtherThere key_of s.blocks x) (waiting_in s.table)
    → WaitedBefore s after e → NoOtherThere key_of after.blocks x e
by_waiting key_of s after x e all was same =
    all_at (NoOtherThere key_of s.blocks x) e (waiting_in s.table) was.0 all same ∙ ap (λ (block : List ℕ). take e.key.len block)
    (sym was.1)

-- a standing whose waiting homes come from before
pub clash_comes : (key_of : List ℕ → Key) (s after : Standing) (others : List (List ℕ)) (x : List ℕ) → WaitingComes s after
    → AllByRecursion (λ (p : Pointer). key_of x ≡ p.key → x ≡ p.content) after.pool.pointers → HasNoOther key_of s others x
    → HasNoOther key_of after others x
clash_comes key_of s after others x comes pointers none = record {
  writes = none.writes;
  pointers = pointers;
  waiting =
      all_from (λ (e : Entry). WaitedBefore s after e ⊎ WaitsByPointer s after e) (NoOtherThere key_of after.blocks x)
      (λ e come. ⊎_elim (λ was. by_waiting key_of s after x e none.waiting was)
      (λ waits. by_pointer key_of s after x e none.pointers waits) come)
      (waiting_in after.table) comes;
}

-- a pointer that a prune takes keeps its key and its bytes, and so what holds of these
module _ (Q : Pointer → Type 0) (kept : (p : Pointer) → Q p → Q (record p { mark = loose })) where
  loosened_if : (b : Bool) (p : Pointer) → Q p → Q (cond b (record p { mark = loose }) p)
  loosened_if true p here = kept p here
  loosened_if false p here = here

  all_loosened : (taken ps : List Pointer) → AllByRecursion Q ps → AllByRecursion Q (map (loosened taken) ps)
  all_loosened taken [] all = tt
  all_loosened taken (p ∷ ps) all =
      (loosened_if (is_tracked p.mark && list_any (λ q. key_eq q.key p.key) taken) p all.0, all_loosened taken ps all.1)

module _ (keying : Keying) (s : Standing) (told : Told) (pages : List ℕ) where
  -- a content without another among the pointers from before, and among what the group writes, has none among the pointers after it
  pointers_kept : (item : GroupItem) (x : List ℕ) → AllByRecursion (NoOther keying.key_of x) (group_contents item)
      → AllByRecursion (NoOtherIn keying.key_of x) s.pool.pointers
      → AllByRecursion (NoOtherIn keying.key_of x) (sealed_standing (lanes_in_turn keying) s item told pages).pool.pointers
  pointers_kept (lanes moment tasks) x new all =
      group_makes (NoOtherIn keying.key_of x) keying s moment tasks told
      (all_from (NoOther keying.key_of x) (MadeFor (NoOtherIn keying.key_of x) keying.key_of)
      (λ content other task place birth mark. other) (contents_in tasks) new) all
  pointers_kept (prune moment rule) x new all =
      all_loosened (NoOtherIn keying.key_of x) (λ p other. other) (pruned s.pool rule moment) s.pool.pointers all
  pointers_kept (quota limit) x new all = all
  pointers_kept (set_mode lane mode) x new all = all

  -- a sealed group of any kind keeps the premise
  pub group_kept : (item : GroupItem) (others : List (List ℕ)) → AreAmong (group_contents item) others
      → WaitingComes s (sealed_standing (lanes_in_turn keying) s item told pages)
      → (x : List ℕ) → HasNoOther keying.key_of s others x
      → HasNoOther keying.key_of (sealed_standing (lanes_in_turn keying) s item told pages) others x
  group_kept item others among comes x none =
      clash_comes keying.key_of s (sealed_standing (lanes_in_turn keying) s item told pages) others x comes
      (pointers_kept item x (among_all (NoOther keying.key_of x) (group_contents item) others among none.writes) none.pointers) none

  -- a group of lanes' commands after which no other home waits keeps it
  pub clash_kept : (moment : ℕ) (tasks : List Task) (others : List (List ℕ)) → AreAmong (contents_in tasks) others
      → WaitingStays s (sealed_standing (lanes_in_turn keying) s (lanes moment tasks) told pages)
      → (x : List ℕ) → HasNoOther keying.key_of s others x
      → HasNoOther keying.key_of (sealed_standing (lanes_in_turn keying) s (lanes moment tasks) told pages) others x
  clash_kept moment tasks others among stays =
      group_kept (lanes moment tasks) others among
      (stays_comes s (sealed_standing (lanes_in_turn keying) s (lanes moment tasks) told pages) stays)

-- waiting homes stay where each that is found later was found before, with its bytes, and what is found waits
pub waiting_stays : (s after : Standing)
    → AllByRecursion (λ (e : Entry). (found after.table e.key ≡ Some e.home) × (e.home.count ≡ 0)) (waiting_in after.table)
    → ((key : Key) (home : Home) → found after.table key ≡ Some home → home.count ≡ 0
    → (found s.table key ≡ Some home) × (after.blocks home.place ≡ s.blocks home.place))
    → ((key : Key) (home : Home) → found s.table key ≡ Some home → home.count ≡ 0
    → IsIn (record { key = key; home = home }) (waiting_in s.table))
    → WaitingStays s after
waiting_stays s after waits were waited =
    all_from (λ (e : Entry). (found after.table e.key ≡ Some e.home) × (e.home.count ≡ 0)) (WaitedBefore s after)
    (λ e there. (waited e.key e.home (were e.key e.home there.0 there.1).0 there.1, (were e.key e.home there.0 there.1).1))
    (waiting_in after.table) waits
