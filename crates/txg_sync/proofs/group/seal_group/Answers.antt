-- Until the gate is written the seal that counted is left, and then that one or the new one.
use Rattle.std.proofs.Common.{ℕ, map, subst}
use Rattle.disk_model.specs.DiskLaws.{TellsImage}
use Rattle.pool_model.specs.Mirrors.{stored_of}
use Rattle.txg_sync.proofs.Groups.{group_behind, group_within, seals_of, gate_left, group_unsealed, group_opening}
use Rattle.txg_sync.proofs.group.seal_group.Goals as goal

pub returns-in_err-fill_group-clause-any_moment : goal.returns-in_err-fill_group-clause-any_moment
returns-in_err-fill_group-clause-any_moment g c image told pending =
    let sectors : ℕ = (g.D.Disk.state c.args.disk.now).sectors in
    let tells = subst (λ n. TellsImage n (g.D.Disk.state c.args.disk.now).seen) c.sectors-sectors.ensures.count
    c.sectors-sectors.ensures.told in
    let behind = group_behind sectors c.args.contents.now c.args.parts.now c.requires.behind c.requires.places in
    let within = group_within sectors c.args.contents.now c.requires.within in
    group_unsealed sectors c.requires.enough c.args.seal.now (map stored_of c.args.contents.now) c.args.parts.now behind within image _ told
    tells c.requires.follows (c.fill_group.ensures.any_moment image told pending)

pub returns-in_default-clause-any_moment : goal.returns-in_default-clause-any_moment
returns-in_default-clause-any_moment g c image told pending =
    let sectors : ℕ = (g.D.Disk.state c.args.disk.now).sectors in
    let tells = subst (λ n. TellsImage n (g.D.Disk.state c.args.disk.now).seen) c.sectors-sectors.ensures.count
    c.sectors-sectors.ensures.told in
    let behind = group_behind sectors c.args.contents.now c.args.parts.now c.requires.behind c.requires.places in
    let within = group_within sectors c.args.contents.now c.requires.within in
    group_opening sectors c.requires.enough c.args.seal.now (map stored_of c.args.contents.now) c.args.parts.now behind within image _ told
    tells c.requires.follows
    c.requires.version (c.fill_group.ensures.any_moment image told pending) c.in_ok-fill_group.ensures.filled
    c.in_ok-fill_group.ensures.durable c.open_slot.ensures.any_moment

pub returns-in_default-clause-at_the_gate : goal.returns-in_default-clause-at_the_gate
returns-in_default-clause-at_the_gate g c fault =
    let sectors : ℕ = (g.D.Disk.state c.args.disk.now).sectors in
    let tells = subst (λ n. TellsImage n (g.D.Disk.state c.args.disk.now).seen) c.sectors-sectors.ensures.count
    c.sectors-sectors.ensures.told in
    let behind = group_behind sectors c.args.contents.now c.args.parts.now c.requires.behind c.requires.places in
    let within = group_within sectors c.args.contents.now c.requires.within in
    gate_left sectors c.requires.enough c.args.seal.now (map stored_of c.args.contents.now) c.args.parts.now behind within
    c.requires.version
    _ _ _ tells c.requires.follows c.in_ok-fill_group.ensures.filled c.in_default.ensures.touched

pub returns-clause-sealed : goal.returns-clause-sealed
returns-clause-sealed g c =
    let sectors : ℕ = (g.D.Disk.state c.args.disk.now).sectors in
    let tells = subst (λ n. TellsImage n (g.D.Disk.state c.args.disk.now).seen) c.sectors-sectors.ensures.count
    c.sectors-sectors.ensures.told in
    let behind = group_behind sectors c.args.contents.now c.args.parts.now c.requires.behind c.requires.places in
    let within = group_within sectors c.args.contents.now c.requires.within in
    seals_of sectors c.requires.enough c.args.seal.now (map stored_of c.args.contents.now) c.args.parts.now behind within c.requires.version
    _ _ _ tells c.requires.follows c.in_ok-fill_group.ensures.filled c.in-Ok.ensures.opened

pub returns-clause-any_moment : goal.returns-clause-any_moment
returns-clause-any_moment g c image told pending =
    let sectors : ℕ = (g.D.Disk.state c.args.disk.now).sectors in
    let tells = subst (λ n. TellsImage n (g.D.Disk.state c.args.disk.now).seen) c.sectors-sectors.ensures.count
    c.sectors-sectors.ensures.told in
    let behind = group_behind sectors c.args.contents.now c.args.parts.now c.requires.behind c.requires.places in
    let within = group_within sectors c.args.contents.now c.requires.within in
    group_opening sectors c.requires.enough c.args.seal.now (map stored_of c.args.contents.now) c.args.parts.now behind within image _ told
    tells c.requires.follows
    c.requires.version (c.fill_group.ensures.any_moment image told pending) c.in_ok-fill_group.ensures.filled
    c.in_ok-fill_group.ensures.durable c.open_slot.ensures.any_moment
