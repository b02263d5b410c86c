use Rattle.std.proofs.Common.{◌≡◌, ◌∙◌, Option, Some, None, length, take, map, refl, sym, ap, arith}
use Rattle.ddt_entry.specs.declared.key.Key.{Key}
use Rattle.pool_model.specs.Mirrors.{stored_of}
use Rattle.pool_model.specs.Command.{Known}
use Rattle.home_rules.specs.Rows.{row_of}
use Rattle.lane_run.specs.Live.{sector_here, known_by}
use Rattle.lane_run.proofs.Choices.{verified_home, verified_since, verified_counts, verified_is}
use Rattle.lane_run.proofs.choosing.verified.Goals as goal

pub returns-in_default-clause-home : goal.returns-in_default-clause-home
returns-in_default-clause-home g c =
    let key_of = (g.K.KeyOf.keying c.args.keyer.now).key_of in
    verified_home key_of c.args.content.now c.args.allowed c.args.moment c.args.home None (row_of c.verified_row.result)
    (sym c.in_default.is) (c.verified_row.ensures key_of None c.args.content.now refl tt)

pub returns-in_default-clause-since : goal.returns-in_default-clause-since
returns-in_default-clause-since g c =
    let key_of = (g.K.KeyOf.keying c.args.keyer.now).key_of in
    verified_since key_of c.args.content.now c.args.allowed c.args.moment c.args.home None (row_of c.verified_row.result)
    (sym c.in_default.is) (c.verified_row.ensures key_of None c.args.content.now refl tt)

pub returns-in_default-clause-counts : goal.returns-in_default-clause-counts
returns-in_default-clause-counts g c =
    let key_of = (g.K.KeyOf.keying c.args.keyer.now).key_of in
    verified_counts key_of c.args.content.now c.args.allowed c.args.moment c.args.home None (row_of c.verified_row.result)
    (sym c.in_default.is) (c.verified_row.ensures key_of None c.args.content.now refl tt)
    (g.D.Disk.meter_faults c.args.meter.now) (g.D.Disk.meter_faults c.args.meter.now) (omega arith)

pub returns-clause-home : goal.returns-clause-home
returns-clause-home g c =
    let key_of = (g.K.KeyOf.keying c.args.keyer.now).key_of in
    let known : Option Known = Some (record { home = c.in-Some.found; block = take (length c.args.content.now) c.in-Ok.sector }) in
    verified_home key_of c.args.content.now c.args.allowed c.args.moment c.args.home known (row_of c.verified_row-2.result)
    (sym c.in-Some.is)
    (c.verified_row-2.ensures key_of known c.args.content.now refl
    (rw (c.eq-has_key.ensures, c.key.ensures, c.key-2.ensures) refl, sym c.eq-same.ensures))

pub returns-clause-since : goal.returns-clause-since
returns-clause-since g c =
    let key_of = (g.K.KeyOf.keying c.args.keyer.now).key_of in
    let known : Option Known = Some (record { home = c.in-Some.found; block = take (length c.args.content.now) c.in-Ok.sector }) in
    verified_since key_of c.args.content.now c.args.allowed c.args.moment c.args.home known (row_of c.verified_row-2.result)
    (sym c.in-Some.is)
    (c.verified_row-2.ensures key_of known c.args.content.now refl
    (rw (c.eq-has_key.ensures, c.key.ensures, c.key-2.ensures) refl, sym c.eq-same.ensures))

pub returns-clause-counts : goal.returns-clause-counts
returns-clause-counts g c =
    let key_of = (g.K.KeyOf.keying c.args.keyer.now).key_of in
    let known : Option Known = Some (record { home = c.in-Some.found; block = take (length c.args.content.now) c.in-Ok.sector }) in
    verified_counts key_of c.args.content.now c.args.allowed c.args.moment c.args.home known (row_of c.verified_row-2.result)
    (sym c.in-Some.is)
    (c.verified_row-2.ensures key_of known c.args.content.now refl
    (rw (c.eq-has_key.ensures, c.key.ensures, c.key-2.ensures) refl, sym c.eq-same.ensures))
    (g.D.Disk.meter_faults c.args.meter.now) (g.D.Disk.meter_faults c.sector_at.new.meter) c.in-Ok.ensures.cause.later

pub returns-clause-row : goal.returns-clause-row
returns-clause-row g c image told =
    let key_of = (g.K.KeyOf.keying c.args.keyer.now).key_of in
    let key : Key = key_of c.args.content.now in
    let length_is : key.len ≡ length c.args.content.now =
    (g.met.K.KeyOf g.world.𝓛 g.world.𝓜 g.world.𝓡
    ((λ s x. x), (λ x. x), (λ x. x), λ x. x)).keeps_length c.args.keyer.now c.args.content.now in
    let sector_is : c.in-Ok.sector ≡ sector_here image (map stored_of c.args.contents.now) c.in-Some.found.place =
    c.in-Ok.ensures.bytes image told in
    let known : Option Known = Some (record { home = c.in-Some.found; block = take (length c.args.content.now) c.in-Ok.sector }) in
    let same : known_by image (map stored_of c.args.contents.now) key (Some c.in-Some.found) ≡ known =
    λ i. Some (record { home = c.in-Some.found; block = take (length_is i) (sym sector_is i) }) in
    let known_is : known_by image (map stored_of c.args.contents.now) key c.args.home ≡ known =
    ap (known_by image (map stored_of c.args.contents.now) key) c.in-Some.is ∙ same in
    rw known_is (verified_is key_of c.args.content.now c.args.allowed c.args.moment c.args.home known (row_of c.verified_row-2.result)
    (sym c.in-Some.is)
    (c.verified_row-2.ensures key_of known c.args.content.now refl
    (rw (c.eq-has_key.ensures, c.key.ensures, c.key-2.ensures) refl, sym c.eq-same.ensures)))
