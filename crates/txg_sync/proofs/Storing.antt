-- How the writes of blocks go on from block to block.
use Rattle.std.proofs.Common.{◌≡◌, ℕ, ◌+◌, ◌<◌, List, [], ◌∷◌, ◌++◌, Option, Some, None, length, map, take, get_or, sym, ap, subst, ◌∙◌}
use Rattle.std.proofs.lemmas.List.{get_or-map, map_more, length-map}
use Rattle.std.proofs.lemmas.List.Sums.{fold-append}
use Rattle.disk_model.specs.Images.{Image}
use Rattle.disk_model.specs.DiskLaws.{Torn, Holds, MayTouch}
use Rattle.page_tree.specs.ChainWrites.{MayTouchAll, ChainLeaves}
use Rattle.page_tree.proofs.Chaining.{touched_more, touched_last, leaves_more}
use Rattle.pool_model.specs.declared.closed.StoredBlock.{StoredBlock}
use Rattle.pool_model.specs.Mirrors.{Stored, stored_of}
use Rattle.table_state.specs.Pools.{block_sector, put_block, with_blocks}
use Rattle.table_state.specs.Closing.{block_places}
use Rattle.txg_sync.specs.Writing.{Stores}

module _ (contents : List StoredBlock) (i : ℕ) (item : StoredBlock) (inside : i < length contents)
    (here : item ≡ get_or contents i item) where
  stored_here : get_or (map stored_of contents) i (stored_of item) ≡ stored_of item
  stored_here = get_or-map stored_of contents i item (stored_of item) inside ∙ ap stored_of (sym here)

  within : i < length (map stored_of contents)
  within = subst (λ n. i < n) (sym (length-map contents stored_of)) inside

  place_here : get_or (block_places (map stored_of contents)) i 0 ≡ item.place
  place_here = get_or-map (λ (s : Stored). s.place) (map stored_of contents) i (stored_of item) 0 within
      ∙ ap (λ (s : Stored). s.place) stored_here

  place_within : i < length (block_places (map stored_of contents))
  place_within = subst (λ n. i < n) (sym (length-map (map stored_of contents) (λ (s : Stored). s.place))) within

  -- one block more
  pub stores_more : (old mid new : Option Image) → Stores old mid (map stored_of (take i contents))
      → Holds mid new item.place (block_sector item.block.items) → Stores old new (map stored_of (take (i + 1) contents))
  stores_more None mid new so_far holds = tt
  stores_more (Some image) mid new so_far holds =
      let now : Holds (Some (with_blocks (map stored_of (take i contents)) image)) new item.place (block_sector item.block.items) = subst
      (λ (m : Option Image). Holds m new item.place (block_sector item.block.items)) so_far holds in
      now
      ∙ ap Some (sym (fold-append put_block image (map stored_of (take i contents)) (stored_of item ∷ [])))
      ∙ ap (λ (all : List Stored). Some (with_blocks all image))
      (ap (λ (s : StoredBlock). map stored_of (take i contents) ++ stored_of s ∷ []) here ∙ sym (map_more stored_of contents i item inside))

  pub block_touched : (old mid new : Option Image) → MayTouchAll old mid (block_places (map stored_of contents))
      → Holds mid new item.place (block_sector item.block.items) → MayTouchAll old new (block_places (map stored_of contents))
  block_touched old mid new so_far holds =
      touched_more (block_places (map stored_of contents)) i place_within old mid new (block_sector item.block.items) so_far
      (subst (λ p. Holds mid new p (block_sector item.block.items)) (sym place_here) holds)

  pub block_torn : (old mid new : Option Image) → MayTouchAll old mid (block_places (map stored_of contents)) → MayTouch mid new item.place
      → MayTouchAll old new (block_places (map stored_of contents))
  block_torn old mid new so_far touch =
      touched_last (block_places (map stored_of contents)) i place_within old mid new so_far
      (subst (λ p. MayTouch mid new p) (sym place_here) touch)

  pub block_leaves : (old mid : Image → Type 0) → ((d : Image) → mid d → ChainLeaves (block_places (map stored_of contents)) old d)
      → (c : Image) → (d : Image) × mid d × Torn item.place d c → ChainLeaves (block_places (map stored_of contents)) old c
  block_leaves old mid earlier c torn =
      leaves_more (block_places (map stored_of contents)) i place_within old mid earlier c
      (torn.0, torn.1, subst (λ p. Torn p torn.0 c) (sym place_here) torn.2)
