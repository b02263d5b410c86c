-- The text of an item by the pool that stood after it.
use Rattle.std.proofs.Common.{◌≡◌, Option, refl}
use Rattle.pool_model.specs.Pool.{Pool}
use Rattle.pool_model.specs.Stats.{stats_of}
use Rattle.pool_model.specs.Plain.{Part, create, of_group, stat, «import», Told}
use Rattle.pool_model.specs.Text.{item_text}
use Rattle.report.specs.ItemText.{text_of}

-- a caller that hands in a pool's own numbers has the text that the report's definition gives
pub text_of-pool : (part : Part) (told : Option Told) (pool : Pool)
    → text_of part told (stats_of pool) pool.group pool.quota ≡ item_text part told pool
text_of-pool (of_group item) told pool = refl
text_of-pool create told pool = refl
text_of-pool stat told pool = refl
text_of-pool «import» told pool = refl
