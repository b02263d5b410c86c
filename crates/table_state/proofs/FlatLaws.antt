-- An image stands for one pool with one table, or for none.
use Rattle.std.proofs.Common.{◌≡◌, ℕ, List, [], ◌∷◌, Option, Some, Result, Ok, map, length, get_or, drop, refl, sym, ap, subst, ◌∙◌}
use Rattle.std.specs.Prelude.{unwrap_or}
use Rattle.std.specs.Result.{result_unwrap_or}
use Rattle.table_state.specs.SealForms.{slots_root, unique_root, duplicate_root, active_root, flushing_root}
use Rattle.disk_model.specs.Images.{Image}
use Rattle.ddt_entry.specs.Records.{change_in}
use Rattle.ddt_entry.specs.declared.entry.Entry.{Entry}
use Rattle.ddt_entry.specs.declared.entry.Change.{Change}
use Rattle.ddt_entry.specs.declared.entry.Change.TheVariants as changes
use Rattle.ddt_entry.specs.declared.record.Malformed.{Malformed}
use Rattle.page_tree.specs.declared.pointer.PagePtr.{PagePtr}
use Rattle.page_tree.specs.Chains.{Walked, chain_in}
use Rattle.uber_ring.specs.declared.seal.Seal.{Seal}
use Rattle.pool_model.specs.Pool.{Pool}
use Rattle.pool_model.specs.Table.{TableState}
use Rattle.table_state.specs.Flat.{Flat, Reads, IsRead, StandsFor, table_in, pool_in}
use Rattle.table_state.specs.SlotRecords.{slot_in}
use Rattle.slot_table.specs.declared.slot.SlotRecord.{SlotRecord}

-- a walk comes to one end
pub one_walk : (image : Image) (before before' : List ℕ) (root : Option PagePtr) (after after' : List ℕ) (records records' : List (List ℕ))
    → before ≡ before' → Reads image before root after records → Reads image before' root after' records'
    → (after ≡ after') × (records ≡ records')
one_walk image before before' root after after' records records' start one other =
    let same : Some (walked after records) ≡ Some (walked after' records') = sym one
    ∙ ap (λ (b : List ℕ). chain_in image (length image) b root) start ∙ other in
    (ap (λ o. (unwrap_or o (walked after records)).named) same, ap (λ o. (unwrap_or o (walked after records)).records) same)
  where
    walked : List ℕ → List (List ℕ) → Walked
    walked named rs = record { named = named; records = rs }

-- lists that a spelling leads to are one
one_list : {X Y : Type 0} (f : X → Y) → ((x y : X) → f x ≡ f y → x ≡ y) → (xs ys : List X) → map f xs ≡ map f ys → xs ≡ ys
one_list f one [] [] same = refl
one_list f one [] (y ∷ ys) same = absurd (cc same)
one_list f one (x ∷ xs) [] same = absurd (cc same)
one_list f one (x ∷ xs) (y ∷ ys) same = ap (λ z. z ∷ xs) (one x y (head_of same)) ∙ ap (λ zs. y ∷ zs) (one_list f one xs ys (tail_of same))
  where
    head_of : f x ∷ map f xs ≡ f y ∷ map f ys → f x ≡ f y
    head_of e = ap (λ l. get_or l 0 (f x)) e

    tail_of : f x ∷ map f xs ≡ f y ∷ map f ys → map f xs ≡ map f ys
    tail_of e = ap (λ l. drop 1 l) e

same_some : {X : Type 0} (a b : X) → Some a ≡ Some b → a ≡ b
same_some a b same = ap (λ o. unwrap_or o a) same

abbrev right : Change → Result Change Malformed
right change = Ok change

same_ok : (a b : Change) → right a ≡ right b → a ≡ b
same_ok a b same = ap (λ (r : Result Change Malformed). result_unwrap_or r a) same

same_entry : (a b : Entry) → right (changes.Entry a) ≡ right (changes.Entry b) → a ≡ b
same_entry a b same = ap (entry_in a) (same_ok (changes.Entry a) (changes.Entry b) same)
  where
    entry_in : Entry → Change → Entry
    entry_in default (changes.Entry entry) = entry
    entry_in default (changes.Gone key) = default

abbrev flat_of : List SlotRecord → List Entry → List Entry → List Change → List Change → List ℕ → Flat
flat_of slots unique duplicate active flushing named =
    record { slots = slots; unique = unique; duplicate = duplicate; active = active; flushing = flushing; named = named }

same_flat : (s s' : List SlotRecord) (u u' d d' : List Entry) (a a' f f' : List Change) (n n' : List ℕ) → s ≡ s' → u ≡ u' → d ≡ d' → a ≡ a'
    → f ≡ f' → n ≡ n' → flat_of s u d a f n ≡ flat_of s' u' d' a' f' n'
same_flat s s' u u' d d' a a' f f' n n' es eu ed ea ef en = cc

-- the five chains keep one thing
pub one_flat : (image : Image) (seal : Seal) (flat flat' : Flat) → IsRead image seal flat → IsRead image seal flat' → flat ≡ flat'
one_flat image seal flat flat' one other =
    let first = one_walk image [] [] (slots_root seal) one.after_slots other.after_slots one.slots other.slots refl one.first other.first in
    let second = one_walk image one.after_slots other.after_slots
    (unique_root seal) one.after_unique other.after_unique one.unique other.unique first.0 one.second other.second in
    let third = one_walk image one.after_unique other.after_unique
    (duplicate_root seal) one.after_duplicate other.after_duplicate one.duplicate other.duplicate second.0 one.third other.third in
    let fourth = one_walk image one.after_duplicate other.after_duplicate
    (active_root seal) one.after_active other.after_active one.active other.active third.0 one.fourth other.fourth in
    let fifth = one_walk image one.after_active other.after_active
    (flushing_root seal) flat.named flat'.named one.flushing other.flushing fourth.0 one.fifth other.fifth in
    same_flat _ _ _ _ _ _ _ _ _ _ _ _
    (one_list Some same_some flat.slots flat'.slots
    (sym one.slots_spelled ∙ ap (map (slot_in seal.sectors seal.group)) first.1 ∙ other.slots_spelled))
    (one_list (λ entry. right (changes.Entry entry)) same_entry flat.unique flat'.unique
    (sym one.unique_spelled ∙ ap (map change_in) second.1 ∙ other.unique_spelled))
    (one_list (λ entry. right (changes.Entry entry)) same_entry flat.duplicate flat'.duplicate
    (sym one.duplicate_spelled ∙ ap (map change_in) third.1 ∙ other.duplicate_spelled))
    (one_list right same_ok flat.active flat'.active (sym one.active_spelled ∙ ap (map change_in) fourth.1 ∙ other.active_spelled))
    (one_list right same_ok flat.flushing flat'.flushing (sym one.flushing_spelled ∙ ap (map change_in) fifth.1 ∙ other.flushing_spelled))
    fifth.0

-- by one seal, with one content of its chains, whatever it stands for
module _ (tag : ℕ) (image : Image) (pool pool' : Pool) (table table' : TableState) (one : StandsFor tag image pool table)
    (other : StandsFor tag image pool' table') where
  pub one_seal : one.seal ≡ other.seal
  one_seal = same_some one.seal other.seal (sym one.counts ∙ other.counts)

  pub one_keeping : one.flat ≡ other.flat
  one_keeping = one_flat image other.seal one.flat other.flat (subst (λ (s : Seal). IsRead image s one.flat) one_seal one.read) other.read

  -- an image stands for one pool with one table
  pub one_state : (pool ≡ pool') × (table ≡ table')
  one_state = (
    one.pool_is ∙ ap (λ (s : Seal). pool_in image s one.flat) one_seal ∙ ap (pool_in image other.seal) one_keeping ∙ sym other.pool_is,
    one.table_is ∙ ap (λ (s : Seal). table_in s one.flat) one_seal ∙ ap (table_in other.seal) one_keeping ∙ sym other.table_is,
  )
