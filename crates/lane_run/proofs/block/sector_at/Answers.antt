use Rattle.std.proofs.Common.{◌≡◌, ◌==◌, ◌≤◌, Some, None, map, length, find, sym, ap, ◌∙◌}
use Rattle.std.specs.Option.{option_map}
use Rattle.disk_model.specs.Images.{sector_at}
use Rattle.pool_model.specs.declared.closed.StoredBlock.{StoredBlock}
use Rattle.pool_model.specs.Mirrors.{Stored, stored_of}
use Rattle.lane_run.specs.Live.{sector_or}
use Rattle.lane_run.proofs.Stored.{find-stored, found_has}
use Rattle.lane_run.proofs.block.sector_at.Goals as goal

pub sector_of-requires : goal.sector_of-requires
sector_of-requires g c =
    let found : find (λ (d : StoredBlock). d.place == c.args.place) c.args.contents.now ≡ Some c.in-Some.stored.now =
    rw c.in-Some.is at (sym c.stored_at.ensures) in
    let is : find (λ (s : Stored). s.place == c.args.place) (map stored_of c.args.contents.now) ≡ Some (stored_of c.in-Some.stored.now) =
    find-stored c.args.contents.now c.args.place ∙ ap (option_map stored_of) found in
    rw c.as_slice.ensures
    (found_has (λ (s : Stored). length s.bytes ≤ 4096) (λ (s : Stored). s.place == c.args.place) (map stored_of c.args.contents.now)
    (stored_of c.in-Some.stored.now) is c.requires.blocks)

pub returns-in-Some-clause-bytes : goal.returns-in-Some-clause-bytes
returns-in-Some-clause-bytes g c image told =
    let found : find (λ (d : StoredBlock). d.place == c.args.place) c.args.contents.now ≡ Some c.in-Some.stored.now =
    rw c.in-Some.is at (sym c.stored_at.ensures) in
    let is : find (λ (s : Stored). s.place == c.args.place) (map stored_of c.args.contents.now) ≡ Some (stored_of c.in-Some.stored.now) =
    find-stored c.args.contents.now c.args.place ∙ ap (option_map stored_of) found in
    rw (c.sector_of.ensures, c.as_slice.ensures) (sym (ap (sector_or (sector_at image c.args.place)) is))

pub returns-clause-bytes : goal.returns-clause-bytes
returns-clause-bytes g c image told =
    let found : find (λ (d : StoredBlock). d.place == c.args.place) c.args.contents.now ≡ None =
    rw c.in_default.is at (sym c.stored_at.ensures) in
    let is : find (λ (s : Stored). s.place == c.args.place) (map stored_of c.args.contents.now) ≡ None =
    find-stored c.args.contents.now c.args.place ∙ ap (option_map stored_of) found in
    sym (rw told at c.in_ok-read.ensures.bytes) ∙ sym (ap (sector_or (sector_at image c.args.place)) is)
