use Rattle.std.proofs.Common.{◌∙◌, List, sym, ap, length, filter, map}
use Rattle.std.specs.Prelude.{nat_lt}
use Rattle.ddt_entry.specs.declared.entry.Entry.{Entry}
use Rattle.table_state.specs.Flat.{Flat}
use Rattle.pool_import.specs.Marks.{spot_among}
use Rattle.pool_import.specs.Judged.{sectors_taken}
use Rattle.pool_import.proofs.JudgingAnswers.{Made, waits, none_decided, places_decide, found_rising, homes_rising}
use Rattle.pool_import.proofs.judge.judged.Goals as goal

pub spots_of-requires : goal.spots_of-requires
spots_of-requires c = found_rising c.args.table.now.table c.as_slice.result.now c.requires.sorted
    (c.as_slice.ensures.value ∙ c.in_ok-found.ensures)

pub counts_hold-requires : goal.counts_hold-requires
counts_hold-requires c =
    homes_rising c.args.table.now.table c.in_ok-found.found.items c.as_slice-4.result.now c.requires.sorted c.in_ok-found.ensures
    (c.as_slice-4.ensures.value ∙ c.counted-homes.ensures)

pub returns-then-not-branch-clause-judged : goal.returns-then-not-branch-clause-judged
returns-then-not-branch-clause-judged c =
    let made : Made c.args.seal.now c.args.flat.now c.args.table.now.table c.as_slice.result.now c.as_slice-4.result.now
    c.as_slice-spots.result.now c.len.result = record {
      entries_are = c.as_slice.ensures.value ∙ c.in_ok-found.ensures;
      homes_are = c.as_slice-4.ensures.value ∙ c.counted-homes.ensures
          ∙ ap (filter (λ (entry : Entry). nat_lt 0 entry.home.count)) (sym c.as_slice.ensures.value);
      spots_are = c.as_slice-spots.ensures.value ∙ c.in_ok-known.ensures
          ∙ ap (map (spot_among c.as_slice.result.now)) (c.as_slice-2.ensures ∙ ap (λ (f : Flat). f.slots) c.flat.view_is);
      pages_are = c.len.ensures ∙ ap (λ (f : Flat). length f.named) c.flat.view_is;
    } in
    none_decided c.args.seal.now c.args.flat.now c.args.table.now.table c.requires.sorted _ _ _ _ made
    (sym c.in_ok-counts_hold.ensures.holds ∙ c.if-not-branch.true)

pub returns-clause-judged : goal.returns-clause-judged
returns-clause-judged c =
    let made : Made c.args.seal.now c.args.flat.now c.args.table.now.table c.as_slice.result.now c.as_slice-4.result.now
    c.as_slice-spots.result.now c.len.result = record {
      entries_are = c.as_slice.ensures.value ∙ c.in_ok-found.ensures;
      homes_are = c.as_slice-4.ensures.value ∙ c.counted-homes.ensures
          ∙ ap (filter (λ (entry : Entry). nat_lt 0 entry.home.count)) (sym c.as_slice.ensures.value);
      spots_are = c.as_slice-spots.ensures.value ∙ c.in_ok-known.ensures
          ∙ ap (map (spot_among c.as_slice.result.now)) (c.as_slice-2.ensures ∙ ap (λ (f : Flat). f.slots) c.flat.view_is);
      pages_are = c.len.ensures ∙ ap (λ (f : Flat). length f.named) c.flat.view_is;
    } in
    places_decide c.args.seal.now c.args.flat.now c.args.table.now.table c.requires.sorted _ _ c.as_slice-spots.result.now _ made
    c.as_slice-named.result.now c.in_ok-taken.taken (c.as_slice-named.ensures ∙ ap (λ (f : Flat). f.named) c.flat.view_is)
    (sym c.in_ok-counts_hold.ensures.holds ∙ c.if-not-branch.false)
    (c.in_ok-taken.ensures
    ∙ ap (λ (es : List Entry). sectors_taken c.args.seal.now.sectors c.as_slice-named.result.now c.as_slice-spots.result.now (filter waits es))
    (c.as_slice-3.ensures.value ∙ sym c.as_slice.ensures.value))
