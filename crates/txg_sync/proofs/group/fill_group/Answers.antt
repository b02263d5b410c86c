-- Each stage leaves the seal that counted.
use Rattle.std.proofs.Common.{◌∙◌, ℕ, map, refl, subst}
use Rattle.disk_model.specs.DiskLaws.{TellsImage}
use Rattle.disk_model.proofs.Moments.{at_end}
use Rattle.page_tree.specs.ChainWrites.{ChainLeaves}
use Rattle.pool_model.specs.Mirrors.{stored_of}
use Rattle.txg_sync.specs.Writing.{group_places}
use Rattle.txg_sync.proofs.Groups.{group_behind, group_within, rooted_is, fills_of, group_taking, group_storing, group_filling}
use Rattle.txg_sync.proofs.group.fill_group.Goals as goal

pub returns-in_err-take_slot-clause-any_moment : goal.returns-in_err-take_slot-clause-any_moment
returns-in_err-take_slot-clause-any_moment g c image told pending =
    let sectors : ℕ = (g.D.Disk.state c.args.disk.now).sectors in
    let tells = subst (λ n. TellsImage n (g.D.Disk.state c.args.disk.now).seen) c.sectors-sectors.ensures.count
    c.sectors-sectors.ensures.told in
    let behind = group_behind sectors c.args.contents.now c.args.parts.now c.requires.behind c.requires.places in
    let within = group_within sectors c.args.contents.now c.requires.within in
    group_taking sectors c.requires.enough c.args.seal.now (map stored_of c.args.contents.now) c.args.parts.now behind within image _ told
    tells c.requires.follows (c.take_slot.ensures.any_moment image told pending)

pub returns-in_default-clause-any_moment : goal.returns-in_default-clause-any_moment
returns-in_default-clause-any_moment g c image told pending =
    let sectors : ℕ = (g.D.Disk.state c.args.disk.now).sectors in
    let tells = subst (λ n. TellsImage n (g.D.Disk.state c.args.disk.now).seen) c.sectors-sectors.ensures.count
    c.sectors-sectors.ensures.told in
    let behind = group_behind sectors c.args.contents.now c.args.parts.now c.requires.behind c.requires.places in
    let within = group_within sectors c.args.contents.now c.requires.within in
    group_storing sectors c.requires.enough c.args.seal.now (map stored_of c.args.contents.now) c.args.parts.now behind within image _ told
    tells c.requires.follows (c.take_slot.ensures.any_moment image told pending) c.in_ok-take_slot.ensures.taken
    c.in_ok-take_slot.ensures.durable c.store_group.ensures.any_moment

pub returns-in_default-fill_slot-clause-any_moment : goal.returns-in_default-fill_slot-clause-any_moment
returns-in_default-fill_slot-clause-any_moment g c image told pending =
    let sectors : ℕ = (g.D.Disk.state c.args.disk.now).sectors in
    let tells = subst (λ n. TellsImage n (g.D.Disk.state c.args.disk.now).seen) c.sectors-sectors.ensures.count
    c.sectors-sectors.ensures.told in
    let behind = group_behind sectors c.args.contents.now c.args.parts.now c.requires.behind c.requires.places in
    let within = group_within sectors c.args.contents.now c.requires.within in
    let rooted = rooted_is c.args.seal.now c.with_pointers-sealed.result c.args.parts.now c.store_group.new.pointers _
    c.with_pointers-sealed.ensures c.in-Ok.ensures.roots c.requires.chains refl in
    let P = ChainLeaves (group_places (map stored_of c.args.contents.now) c.args.parts.now)
    (g.D.Disk.state c.take_slot.new.disk).may_leave in
    group_filling sectors c.requires.enough c.args.seal.now (map stored_of c.args.contents.now) c.args.parts.now behind within image _ told
    tells c.requires.follows (c.take_slot.ensures.any_moment image told pending) c.in_ok-take_slot.ensures.taken
    c.in_ok-take_slot.ensures.durable c.store_group.ensures.any_moment
    (at_end c.store_group.ensures.any_moment c.crash_laws-2.ensures.here)
    c.with_pointers-sealed.result rooted c.seal_fits.ensures c.fill_slot.ensures.any_moment

pub returns-clause-filled : goal.returns-clause-filled
returns-clause-filled g c =
    let sectors : ℕ = (g.D.Disk.state c.args.disk.now).sectors in
    let tells = subst (λ n. TellsImage n (g.D.Disk.state c.args.disk.now).seen) c.sectors-sectors.ensures.count
    c.sectors-sectors.ensures.told in
    let whole = subst (λ n. TellsImage n (g.D.Disk.state c.store_group.new.disk).seen)
    (c.sectors-stored.ensures.count ∙ c.store_group.ensures.accounts.keeps.sectors ∙ c.take_slot.ensures.accounts.keeps.sectors)
    c.sectors-stored.ensures.told in
    let behind = group_behind sectors c.args.contents.now c.args.parts.now c.requires.behind c.requires.places in
    let within = group_within sectors c.args.contents.now c.requires.within in
    let rooted = rooted_is c.args.seal.now c.with_pointers-sealed.result c.args.parts.now c.store_group.new.pointers _
    c.with_pointers-sealed.ensures c.in-Ok.ensures.roots c.requires.chains refl in
    fills_of sectors c.requires.enough c.args.seal.now
    (map stored_of c.args.contents.now) c.args.parts.now behind within c.with_pointers-sealed.result rooted c.seal_fits.ensures
    _ _ _ _ tells c.in_ok-take_slot.ensures.taken c.in-Ok.ensures.stored whole c.in-Ok-fill_slot.ensures.filled

pub returns-clause-any_moment : goal.returns-clause-any_moment
returns-clause-any_moment g c image told pending =
    let sectors : ℕ = (g.D.Disk.state c.args.disk.now).sectors in
    let tells = subst (λ n. TellsImage n (g.D.Disk.state c.args.disk.now).seen) c.sectors-sectors.ensures.count
    c.sectors-sectors.ensures.told in
    let behind = group_behind sectors c.args.contents.now c.args.parts.now c.requires.behind c.requires.places in
    let within = group_within sectors c.args.contents.now c.requires.within in
    let rooted = rooted_is c.args.seal.now c.with_pointers-sealed.result c.args.parts.now c.store_group.new.pointers _
    c.with_pointers-sealed.ensures c.in-Ok.ensures.roots c.requires.chains refl in
    let P = ChainLeaves (group_places (map stored_of c.args.contents.now) c.args.parts.now)
    (g.D.Disk.state c.take_slot.new.disk).may_leave in
    group_filling sectors c.requires.enough c.args.seal.now (map stored_of c.args.contents.now) c.args.parts.now behind within image _ told
    tells c.requires.follows (c.take_slot.ensures.any_moment image told pending) c.in_ok-take_slot.ensures.taken
    c.in_ok-take_slot.ensures.durable c.store_group.ensures.any_moment
    (at_end c.store_group.ensures.any_moment c.crash_laws-2.ensures.here)
    c.with_pointers-sealed.result rooted c.seal_fits.ensures c.fill_slot.ensures.any_moment
