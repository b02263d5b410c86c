-- The five chains, one after another, are what an image's seal names.
use Rattle.std.proofs.Common.{◌≡◌, ℕ, List, [], Option, Some, None, length, refl, sym, ap, ◌∙◌}
use Rattle.std.specs.Prelude.{IfSome}
use Rattle.ddt_entry.specs.declared.entry.Entry.{Entry}
use Rattle.ddt_entry.specs.declared.entry.Change.{Change}
use Rattle.disk_model.specs.Images.{Image}
use Rattle.page_tree.specs.Chains.{chain_in}
use Rattle.page_tree.specs.declared.pointer.PagePtr.{PagePtr}
use Rattle.uber_ring.specs.declared.seal.Seal.{Seal}
use Rattle.table_state.specs.SealForms.{slots_root, unique_root, duplicate_root, active_root, flushing_root}
use Rattle.table_state.specs.Flat.{Flat, Reads, IsRead}
use Rattle.slot_table.specs.declared.slot.SlotRecord.{SlotRecord}
use Rattle.pool_import.specs.Parts.{ReadsSlots, ReadsEntries, ReadsChanges}
use Rattle.table_state.proofs.FlatLaws.{one_walk}

-- a walk from the same sectors and the same root
moved : (image : Image) (before before' : List ℕ) (root root' : Option PagePtr) (after : List ℕ) (records : List (List ℕ))
    → before ≡ before' → root ≡ root' → Reads image before' root' after records → Reads image before root after records
moved image before before' root root' after records start first reads =
    ap (λ (b : List ℕ). chain_in image (length image) b root) start
    ∙ ap (λ (r : Option PagePtr). chain_in image (length image) before' r) first ∙ reads

-- comes to the same end
same_end : (image : Image) (before before' : List ℕ) (root root' : Option PagePtr) (after after' : List ℕ)
    (records records' : List (List ℕ)) → before ≡ before' → root ≡ root' → Reads image before root after records
    → Reads image before' root' after' records' → after ≡ after'
same_end image before before' root root' after after' records records' start first one other =
    (one_walk image before before root after after' records records' refl one
    (moved image before before' root root' after' records' start first other)).0

module _ (seal : Seal) (told : Option Image) (n0 : List ℕ) (start : n0 ≡ []) (r0 : Option PagePtr) (is0 : r0 ≡ slots_root seal) where
  -- no flat image, where the first chain is none
  pub no_slots : IfSome told
      (λ image. (after : List ℕ) (slots : List SlotRecord) → ReadsSlots seal.sectors seal.group image n0 r0 after slots → ⊥)
      → IfSome told (λ image. (flat : Flat) → IsRead image seal flat → ⊥)
  no_slots bad = by_told told bad
    where
      by_told : (t : Option Image)
          → IfSome t (λ image. (after : List ℕ) (slots : List SlotRecord) → ReadsSlots seal.sectors seal.group image n0 r0 after slots → ⊥)
          → IfSome t (λ image. (flat : Flat) → IsRead image seal flat → ⊥)
      by_told None none = tt
      by_told (Some image) none = λ flat read. none read.after_slots flat.slots
          (read.slots, moved image n0 [] r0 (slots_root seal) read.after_slots read.slots start is0 read.first, read.slots_spelled)

  module _ (n1 : List ℕ) (slots : List SlotRecord) (r1 : Option PagePtr) (is1 : r1 ≡ unique_root seal) where
    abbrev First : Image → Type 0
    First image = ReadsSlots seal.sectors seal.group image n0 r0 n1 slots

    end1 : (image : Image) (flat : Flat) → First image → (read : IsRead image seal flat) → n1 ≡ read.after_slots
    end1 image flat one read = same_end image n0 [] r0 (slots_root seal) n1 read.after_slots one.0 read.slots start is0 one.1 read.first

    pub no_unique : IfSome told First
        → IfSome told (λ image. (after : List ℕ) (entries : List Entry) → ReadsEntries image n1 r1 after entries → ⊥)
        → IfSome told (λ image. (flat : Flat) → IsRead image seal flat → ⊥)
    no_unique first bad = by_told told first bad
      where
        by_told : (t : Option Image) → IfSome t First
            → IfSome t (λ image. (after : List ℕ) (entries : List Entry) → ReadsEntries image n1 r1 after entries → ⊥)
            → IfSome t (λ image. (flat : Flat) → IsRead image seal flat → ⊥)
        by_told None one none = tt
        by_told (Some image) one none = λ flat read.
            none read.after_unique flat.unique
            (read.unique, moved image n1 read.after_slots r1 (unique_root seal) read.after_unique read.unique (end1 image flat one read) is1 read.second, read.unique_spelled)

    module _ (n2 : List ℕ) (unique : List Entry) (r2 : Option PagePtr) (is2 : r2 ≡ duplicate_root seal) where
      abbrev Second : Image → Type 0
      Second image = ReadsEntries image n1 r1 n2 unique

      end2 : (image : Image) (flat : Flat) → First image → Second image → (read : IsRead image seal flat) → n2 ≡ read.after_unique
      end2 image flat one two read = same_end image n1 read.after_slots r1 (unique_root seal) n2 read.after_unique two.0 read.unique
          (end1 image flat one read) is1 two.1 read.second

      pub no_duplicate : IfSome told First → IfSome told Second
          → IfSome told (λ image. (after : List ℕ) (entries : List Entry) → ReadsEntries image n2 r2 after entries → ⊥)
          → IfSome told (λ image. (flat : Flat) → IsRead image seal flat → ⊥)
      no_duplicate first second bad = by_told told first second bad
        where
          by_told : (t : Option Image) → IfSome t First → IfSome t Second
              → IfSome t (λ image. (after : List ℕ) (entries : List Entry) → ReadsEntries image n2 r2 after entries → ⊥)
              → IfSome t (λ image. (flat : Flat) → IsRead image seal flat → ⊥)
          by_told None one two none = tt
          by_told (Some image) one two none = λ flat read.
              none read.after_duplicate flat.duplicate
              (read.duplicate, moved image n2 read.after_unique r2 (duplicate_root seal) read.after_duplicate read.duplicate (end2 image flat one two read) is2 read.third, read.duplicate_spelled)

      module _ (n3 : List ℕ) (duplicate : List Entry) (r3 : Option PagePtr) (is3 : r3 ≡ active_root seal) where
        abbrev Third : Image → Type 0
        Third image = ReadsEntries image n2 r2 n3 duplicate

        end3 : (image : Image) (flat : Flat) → First image → Second image → Third image → (read : IsRead image seal flat)
            → n3 ≡ read.after_duplicate
        end3 image flat one two three read = same_end image n2 read.after_unique r2
            (duplicate_root seal) n3 read.after_duplicate three.0 read.duplicate (end2 image flat one two read) is2 three.1 read.third

        pub no_active : IfSome told First → IfSome told Second → IfSome told Third
            → IfSome told (λ image. (after : List ℕ) (log : List Change) → ReadsChanges image n3 r3 after log → ⊥)
            → IfSome told (λ image. (flat : Flat) → IsRead image seal flat → ⊥)
        no_active first second third bad = by_told told first second third bad
          where
            by_told : (t : Option Image) → IfSome t First → IfSome t Second → IfSome t Third
                → IfSome t (λ image. (after : List ℕ) (log : List Change) → ReadsChanges image n3 r3 after log → ⊥)
                → IfSome t (λ image. (flat : Flat) → IsRead image seal flat → ⊥)
            by_told None one two three none = tt
            by_told (Some image) one two three none = λ flat read.
                none read.after_active flat.active
                (read.active, moved image n3 read.after_duplicate r3 (active_root seal) read.after_active read.active (end3 image flat one two three read) is3 read.fourth, read.active_spelled)

        module _ (n4 : List ℕ) (active : List Change) (r4 : Option PagePtr) (is4 : r4 ≡ flushing_root seal) where
          abbrev Fourth : Image → Type 0
          Fourth image = ReadsChanges image n3 r3 n4 active

          end4 : (image : Image) (flat : Flat) → First image → Second image → Third image → Fourth image → (read : IsRead image seal flat)
              → n4 ≡ read.after_active
          end4 image flat one two three four read = same_end image n3 read.after_duplicate r3
              (active_root seal) n4 read.after_active four.0 read.active (end3 image flat one two three read) is3 four.1 read.fourth

          pub no_flushing : IfSome told First → IfSome told Second → IfSome told Third → IfSome told Fourth
              → IfSome told (λ image. (after : List ℕ) (log : List Change) → ReadsChanges image n4 r4 after log → ⊥)
              → IfSome told (λ image. (flat : Flat) → IsRead image seal flat → ⊥)
          no_flushing first second third fourth bad = by_told told first second third fourth bad
            where
              by_told : (t : Option Image) → IfSome t First → IfSome t Second → IfSome t Third → IfSome t Fourth
                  → IfSome t (λ image. (after : List ℕ) (log : List Change) → ReadsChanges image n4 r4 after log → ⊥)
                  → IfSome t (λ image. (flat : Flat) → IsRead image seal flat → ⊥)
              by_told None one two three four none = tt
              by_told (Some image) one two three four none = λ flat read.
                  none flat.named flat.flushing
                  (read.flushing, moved image n4 read.after_active r4 (flushing_root seal) flat.named read.flushing (end4 image flat one two three four read) is4 read.fifth, read.flushing_spelled)

          module _ (n5 : List ℕ) (flushing : List Change) where
            abbrev Fifth : Image → Type 0
            Fifth image = ReadsChanges image n4 r4 n5 flushing

            abbrev whole : Flat
            whole = record { slots = slots; unique = unique; duplicate = duplicate; active = active; flushing = flushing; named = n5 }

            -- all five were read
            pub all_read : IfSome told First → IfSome told Second → IfSome told Third → IfSome told Fourth → IfSome told Fifth
                → IfSome told (λ image. IsRead image seal whole)
            all_read first second third fourth fifth = by_told told first second third fourth fifth
              where
                by_told : (t : Option Image) → IfSome t First → IfSome t Second → IfSome t Third → IfSome t Fourth → IfSome t Fifth
                    → IfSome t (λ image. IsRead image seal whole)
                by_told None one two three four five = tt
                by_told (Some image) one two three four five = record {
                  after_slots = n1;
                  after_unique = n2;
                  after_duplicate = n3;
                  after_active = n4;
                  slots = one.0;
                  unique = two.0;
                  duplicate = three.0;
                  active = four.0;
                  flushing = five.0;
                  first = moved image [] n0 (slots_root seal) r0 n1 one.0 (sym start) (sym is0) one.1;
                  second = moved image n1 n1 (unique_root seal) r1 n2 two.0 refl (sym is1) two.1;
                  third = moved image n2 n2 (duplicate_root seal) r2 n3 three.0 refl (sym is2) three.1;
                  fourth = moved image n3 n3 (active_root seal) r3 n4 four.0 refl (sym is3) four.1;
                  fifth = moved image n4 n4 (flushing_root seal) r4 n5 five.0 refl (sym is4) five.1;
                  slots_spelled = one.2;
                  unique_spelled = two.2;
                  duplicate_spelled = three.2;
                  active_spelled = four.2;
                  flushing_spelled = five.2;
                }
