-- What makes a pool of parts that keep all rules.
use Rattle.std.proofs.Common.{◌≡◌, ◌∙◌, ◌<◌, ◌^◌, ℕ, Bool, List, [], Option, Some, length, map, get_or, sym, ap, subst, arith}
use Rattle.std.proofs.lemmas.List.{ext_get_or, get_or-map, length-map}
use Rattle.std.specs.Prelude.{IfSome}
use Rattle.disk_model.specs.Images.{Image}
use Rattle.uber_ring.specs.declared.seal.Seal.{Seal}
use Rattle.pool_model.specs.Space.{used_sectors}
use Rattle.table_state.specs.Flat.{Flat, HoldTogether, table_in, pool_in}
use Rattle.table_state.specs.Pools.{Held}
use Rattle.table_state.proofs.UsedLaws.{length-used_sectors}
use Rattle.pool_import.specs.Whole.{IsWhole}
use Rattle.pool_import.specs.Imports.{IsMade, held_of}

-- what was judged keeps all rules, and the pool is of it
pub made_of : (tag : ℕ) (seal : Seal) (flat : Flat) (held : Held) (used : List Bool) (found : Option (List Bool)) → found ≡ Some used
    → HoldTogether seal flat
    → IfSome found (λ sectors. (image : Image)
    → IsWhole image seal flat × (sectors ≡ used_sectors seal.sectors flat.named (pool_in image seal flat) (table_in seal flat)))
    → IfSome found (λ sectors. seal.homes < 2 ^ 62)
    → held ≡ held_of tag seal flat used → IsMade tag seal flat held
made_of tag seal flat held used found is together judged few same =
    let each : (image : Image)
    → IsWhole image seal flat × (used ≡ used_sectors seal.sectors flat.named (pool_in image seal flat) (table_in seal flat)) =
    subst (λ (o : Option (List Bool)). IfSome o
    (λ sectors. (image : Image)
    → IsWhole image seal flat × (sectors ≡ used_sectors seal.sectors flat.named (pool_in image seal flat) (table_in seal flat)))) is
    judged in
    record {
      used = used;
      together = together;
      whole = λ image. (each image).0;
      few = subst (λ (o : Option (List Bool)). IfSome o (λ sectors. seal.homes < 2 ^ 62)) is few;
      used_are = λ image. (each image).1;
      held_is = same;
    }

-- of each sector of the pool it was judged whether it is used
pub all_judged : (seal : Seal) (flat : Flat) (used : List Bool) (found : Option (List Bool)) → found ≡ Some used
    → IfSome found (λ sectors. (image : Image)
    → IsWhole image seal flat × (sectors ≡ used_sectors seal.sectors flat.named (pool_in image seal flat) (table_in seal flat)))
    → length used ≡ seal.sectors
all_judged seal flat used found is judged =
    ap length (subst (λ (o : Option (List Bool)). IfSome o
    (λ sectors. (image : Image)
    → IsWhole image seal flat × (sectors ≡ used_sectors seal.sectors flat.named (pool_in image seal flat) (table_in seal flat)))) is
    judged []).1
    ∙ length-used_sectors seal.sectors flat.named (pool_in [] seal flat) (table_in seal flat)
