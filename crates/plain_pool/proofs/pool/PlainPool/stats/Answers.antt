use Rattle.std.proofs.Common.{◌≡◌, map, ap, sym, ◌∙◌, subst}
use Rattle.pool_model.specs.Pool.{Pool}
use Rattle.pool_stats.specs.References.{AreSmall, reference_of}
use Rattle.plain_pool.proofs.Sizes.{AreSmall-pointers}
use Rattle.plain_pool.proofs.pool.PlainPool.stats.Goals as goal

pub stats-requires : goal.stats-requires
stats-requires c =
    let seen : c.as_slice-2.result.now ≡ map reference_of c.args.self.now.pointers =
    c.as_slice-2.ensures.value ∙ c.in_ok-references.ensures ∙ ap (map reference_of) c.as_slice.ensures.value
    ∙ ap (λ (pool : Pool). map reference_of pool.pointers) c.self.view_is
    in
    subst AreSmall (sym seen) (AreSmall-pointers c.args.self.now c.requires)
