-- What was planned is what is sealed, and the image stands for it.
use Rattle.std.proofs.Common.{◌≡◌, ◌∙◌, ◌≤◌, ◌<◌, ◌^◌, ℕ, List, Option, length, refl, sym, ap, subst, arith, rules}
use Rattle.std.specs.Prelude.{[], slice_index_or}
use Rattle.disk_model.specs.Images.{Image}
use Rattle.disk_model.specs.DiskLaws.{TellsImage}
use Rattle.page_tree.specs.ChainWrites.{AreOpen}
use Rattle.pool_model.specs.declared.closed.StoredBlock.{StoredBlock}
use Rattle.pool_model.specs.Replaying.{LoggedTable}
use Rattle.table_state.specs.Pools.{Held}
use Rattle.table_state.specs.Sealed.{ChainPart, places_in}
use Rattle.table_state.specs.Closing.{closed_of, CanSyncOver}
use Rattle.txg_sync.specs.Planning.{IsNext}
use Rattle.txg_sync.proofs.Afterwards.{sound_after}
use Rattle.txg_sync.proofs.Syncs.{stored_at, pages_after, seal_version_is, open_on_disk, follows_newest, syncs_of, while_syncing, while_filling, may_be_as_planned, unsealed_as_planned, sealed_as_planned, spelt_by}
use Rattle.txg_sync.proofs.Syncs.{gate_as_planned, stops_of}
use Rattle.txg_sync.proofs.syncing.write_plan.Goals as goal

pub seal_group-sealed-requires-clause-follows : goal.seal_group-sealed-requires-clause-follows
seal_group-sealed-requires-clause-follows g c κs outlives =
    follows_newest c.args.before.value (closed_of c.args.closed.now) c.requires.sound c.args.pool.now c.args.planned.now.parts.items
    c.args.planned.now.seal c.requires.planned (g.D.Disk.state c.args.disk.now).seen c.requires.over

pub seal_group-sealed-requires-clause-version : goal.seal_group-sealed-requires-clause-version
seal_group-sealed-requires-clause-version g c κs outlives =
    seal_version_is c.args.before.value (closed_of c.args.closed.now) c.requires.sound c.args.pool.now c.args.planned.now.parts.items
    c.args.planned.now.seal c.requires.planned

pub seal_group-sealed-requires-clause-behind : goal.seal_group-sealed-requires-clause-behind
seal_group-sealed-requires-clause-behind g c κs outlives =
    subst (λ (cs : List StoredBlock). (k : ℕ) (d : StoredBlock) → k < length cs → 32 ≤ (slice_index_or cs k d).place)
    (sym c.as_slice.ensures) (stored_at (λ s. 32 ≤ s.place) c.args.closed.now.contents.items c.requires.range.behind)

pub seal_group-sealed-requires-clause-within : goal.seal_group-sealed-requires-clause-within
seal_group-sealed-requires-clause-within g c κs outlives =
    subst (λ (cs : List StoredBlock). (k : ℕ) (d : StoredBlock) → k < length cs → (slice_index_or cs k d).place <
    (g.D.Disk.state c.args.disk.now).sectors) (sym c.as_slice.ensures)
    (λ k d inside. omega (
      arith,
      c.requires.on_disk,
      stored_at (λ s. s.place < c.args.before.value.sectors) c.args.closed.now.contents.items c.requires.range.on_disk k d inside,
    ))

pub seal_group-sealed-requires-clause-lengths : goal.seal_group-sealed-requires-clause-lengths
seal_group-sealed-requires-clause-lengths g c κs outlives =
    subst (λ (cs : List StoredBlock). (k : ℕ) (d : StoredBlock) → k < length cs → length (slice_index_or cs k d).block.items ≤ 4096)
    (sym c.as_slice.ensures) (stored_at (λ s. length s.bytes ≤ 4096) c.args.closed.now.contents.items c.requires.range.blocks)

pub seal_group-sealed-requires-clause-places : goal.seal_group-sealed-requires-clause-places
seal_group-sealed-requires-clause-places g c κs outlives =
    subst (λ (ps : List ChainPart). AreOpen (g.D.Disk.state c.args.disk.now).sectors [] (places_in ps)) (sym c.as_slice-parts.ensures.value)
    (open_on_disk c.args.before.value (closed_of c.args.closed.now) c.requires.sound c.args.pool.now c.args.planned.now.parts.items
    c.args.planned.now.seal c.requires.planned (g.D.Disk.state c.args.disk.now).sectors c.requires.on_disk)

pub returns-in-Err-clause-any_moment : goal.returns-in-Err-clause-any_moment
returns-in-Err-clause-any_moment g c image s told pending over =
    let sectors : ℕ = (g.D.Disk.state c.args.disk.now).sectors in
    let count : c.sectors-sectors.result ≡ sectors = c.sectors-sectors.ensures.count in
    let small : sectors < 2 ^ 64 = subst (λ n. n < 2 ^ 64) count c.sectors-sectors.type_inv in
    let tells = subst (λ n. TellsImage n (g.D.Disk.state c.args.disk.now).seen) count c.sectors-sectors.ensures.told in
    let spelt = spelt_by c.args.pool.now c.args.pool.now.slots c.table.inside.logs.logs refl
    (ap (λ (k : LoggedTable). k.logs) c.table.view_is ∙ ap (λ (h : Held). h.logs) c.pool.view_is)
    c.requires.planned.slots_fit c.requires.planned.zap_fits c.logs_fit.ensures.active c.logs_fit.ensures.flushing in
    let is_image = subst (λ (o : Option Image). TellsImage sectors o) told tells in
    let can = subst (λ (o : Option Image). CanSyncOver o c.args.before.value (closed_of c.args.closed.now)) told c.requires.over in
    let run = may_be_as_planned c.args.planned.now.seal c.args.closed.now.contents.items c.as_slice.result.now
    c.args.planned.now.parts.items c.as_slice-parts.result.now c.as_slice.ensures c.as_slice-parts.ensures.value image
    (c.seal_group-sealed.ensures.any_moment image told pending) in (
      c.args.pool.now.pages,
      pages_after c.args.before.value (closed_of c.args.closed.now) c.args.pool.now c.args.planned.now.parts.items c.args.planned.now.seal
          c.requires.planned,
      tt,
      while_syncing c.args.before.value (closed_of c.args.closed.now) c.requires.sound c.args.pool.now c.args.planned.now.parts.items
          c.args.planned.now.seal
          c.requires.planned c.requires.range c.requires.last spelt image
          (omega (arith, c.requires.on_disk, is_image.count)) (omega (arith, small, is_image.count)) can s over run,
    )

pub returns-in-Err-clause-before_the_gate : goal.returns-in-Err-clause-before_the_gate
returns-in-Err-clause-before_the_gate g c image s told pending over fault =
    let can = subst (λ (o : Option Image). CanSyncOver o c.args.before.value (closed_of c.args.closed.now)) told c.requires.over in
    while_filling c.args.before.value (closed_of c.args.closed.now) c.requires.sound c.args.pool.now c.args.planned.now.parts.items
    c.args.planned.now.seal
    c.requires.planned image can s over
    (unsealed_as_planned c.args.planned.now.seal c.args.closed.now.contents.items c.as_slice.result.now c.args.planned.now.parts.items
    c.as_slice-parts.result.now c.as_slice.ensures c.as_slice-parts.ensures.value image
    (c.seal_group-sealed.ensures.before_the_gate image told pending (search rules)))

pub returns-in-Err-clause-at_the_gate : goal.returns-in-Err-clause-at_the_gate
returns-in-Err-clause-at_the_gate g c fault =
    let sectors : ℕ = (g.D.Disk.state c.args.disk.now).sectors in
    let count : c.sectors-sectors.result ≡ sectors = c.sectors-sectors.ensures.count in
    let small : sectors < 2 ^ 64 = subst (λ n. n < 2 ^ 64) count c.sectors-sectors.type_inv in
    let tells = subst (λ n. TellsImage n (g.D.Disk.state c.args.disk.now).seen) count c.sectors-sectors.ensures.told in
    let spelt = spelt_by c.args.pool.now c.args.pool.now.slots c.table.inside.logs.logs refl
    (ap (λ (k : LoggedTable). k.logs) c.table.view_is ∙ ap (λ (h : Held). h.logs) c.pool.view_is)
    c.requires.planned.slots_fit c.requires.planned.zap_fits c.logs_fit.ensures.active c.logs_fit.ensures.flushing in
    let left = gate_as_planned c.args.planned.now.seal c.args.closed.now.contents.items c.as_slice.result.now c.args.planned.now.parts.items
    c.as_slice-parts.result.now c.as_slice.ensures c.as_slice-parts.ensures.value
    (g.D.Disk.state c.args.disk.now).seen (g.D.Disk.state c.seal_group-sealed.new.disk).seen
    (c.seal_group-sealed.ensures.at_the_gate (search rules)) in
    stops_of c.args.before.value (closed_of c.args.closed.now) c.requires.sound c.args.pool.now c.args.planned.now.parts.items
    c.args.planned.now.seal
    c.requires.planned c.requires.range c.requires.last spelt
    sectors (g.D.Disk.state c.args.disk.now).seen (g.D.Disk.state c.seal_group-sealed.new.disk).seen tells c.requires.on_disk
    (omega (arith, small)) c.requires.over left

pub returns-clause-synced : goal.returns-clause-synced
returns-clause-synced g c =
    let sectors : ℕ = (g.D.Disk.state c.args.disk.now).sectors in
    let count : c.sectors-sectors.result ≡ sectors = c.sectors-sectors.ensures.count in
    let small : sectors < 2 ^ 64 = subst (λ n. n < 2 ^ 64) count c.sectors-sectors.type_inv in
    let tells = subst (λ n. TellsImage n (g.D.Disk.state c.args.disk.now).seen) count c.sectors-sectors.ensures.told in
    let spelt = spelt_by c.args.pool.now c.args.pool.now.slots c.table.inside.logs.logs refl
    (ap (λ (k : LoggedTable). k.logs) c.table.view_is ∙ ap (λ (h : Held). h.logs) c.pool.view_is)
    c.requires.planned.slots_fit c.requires.planned.zap_fits c.logs_fit.ensures.active c.logs_fit.ensures.flushing in
    let seals = sealed_as_planned c.args.planned.now.seal c.args.closed.now.contents.items c.as_slice.result.now
    c.args.planned.now.parts.items c.as_slice-parts.result.now c.as_slice.ensures c.as_slice-parts.ensures.value
    (g.D.Disk.state c.args.disk.now).seen (g.D.Disk.state c.seal_group-sealed.new.disk).seen c.in_default.ensures.sealed in
    syncs_of c.args.before.value (closed_of c.args.closed.now) c.requires.sound c.args.pool.now c.args.planned.now.parts.items
    c.args.planned.now.seal
    c.requires.planned c.requires.range c.requires.last spelt
    sectors (g.D.Disk.state c.args.disk.now).seen (g.D.Disk.state c.seal_group-sealed.new.disk).seen tells c.requires.on_disk
    (omega (arith, small)) c.requires.over seals

pub returns-clause-made : goal.returns-clause-made
returns-clause-made g c =
    subst (λ (pages : List ℕ). IsNext c.args.before.value (closed_of c.args.closed.now) pages c.args.pool.now)
    (sym c.requires.planned.is_next.pages_are) c.requires.planned.is_next

pub returns-clause-pages : goal.returns-clause-pages
returns-clause-pages g c =
    pages_after c.args.before.value (closed_of c.args.closed.now) c.args.pool.now c.args.planned.now.parts.items c.args.planned.now.seal
    c.requires.planned

pub returns-clause-next : goal.returns-clause-next
returns-clause-next g c =
    sound_after c.args.before.value (closed_of c.args.closed.now) c.requires.sound c.requires.range c.requires.last c.args.pool.now
    c.args.planned.now.parts.items c.args.planned.now.seal c.requires.planned

pub returns-clause-any_moment : goal.returns-clause-any_moment
returns-clause-any_moment g c image s told pending over =
    let sectors : ℕ = (g.D.Disk.state c.args.disk.now).sectors in
    let count : c.sectors-sectors.result ≡ sectors = c.sectors-sectors.ensures.count in
    let small : sectors < 2 ^ 64 = subst (λ n. n < 2 ^ 64) count c.sectors-sectors.type_inv in
    let tells = subst (λ n. TellsImage n (g.D.Disk.state c.args.disk.now).seen) count c.sectors-sectors.ensures.told in
    let spelt = spelt_by c.args.pool.now c.args.pool.now.slots c.table.inside.logs.logs refl
    (ap (λ (k : LoggedTable). k.logs) c.table.view_is ∙ ap (λ (h : Held). h.logs) c.pool.view_is)
    c.requires.planned.slots_fit c.requires.planned.zap_fits c.logs_fit.ensures.active c.logs_fit.ensures.flushing in
    let is_image = subst (λ (o : Option Image). TellsImage sectors o) told tells in
    let can = subst (λ (o : Option Image). CanSyncOver o c.args.before.value (closed_of c.args.closed.now)) told c.requires.over in
    let run = may_be_as_planned c.args.planned.now.seal c.args.closed.now.contents.items c.as_slice.result.now
    c.args.planned.now.parts.items c.as_slice-parts.result.now c.as_slice.ensures c.as_slice-parts.ensures.value image
    (c.seal_group-sealed.ensures.any_moment image told pending) in (
      c.args.pool.now.pages,
      pages_after c.args.before.value (closed_of c.args.closed.now) c.args.pool.now c.args.planned.now.parts.items c.args.planned.now.seal
          c.requires.planned,
      refl,
      while_syncing c.args.before.value (closed_of c.args.closed.now) c.requires.sound c.args.pool.now c.args.planned.now.parts.items
          c.args.planned.now.seal
          c.requires.planned c.requires.range c.requires.last spelt image
          (omega (arith, c.requires.on_disk, is_image.count)) (omega (arith, small, is_image.count)) can s over run,
    )
