use Rattle.std.proofs.Common.{rules, ◌≡◌, ◌+◌, ◌∙◌, false, true, List, Bool, ap, sym, arith}
use Rattle.std.specs.Prelude.{slice_set, slice_index_or}
use Rattle.grant_book.specs.Sectors.{marked}
use Rattle.grant_book.proofs.BookLaws.{taken_low, marked-push}
use Rattle.grant_book.proofs.book.take_at.Goals as goal

pub returns-clause-low : goal.returns-clause-low
returns-clause-low c =
    let free : slice_index_or c.args.used.now.items c.args.sector false ≡ false = search rules in
    λ is. taken_low c.args.used.now.items c.args.sector (c.args.sector + 1) (omega arith) c.requires.within free is

pub returns-clause-marked : goal.returns-clause-marked
returns-clause-marked c = λ start same.
    ap (λ (used : List Bool). slice_set used c.args.sector true) same ∙ sym (marked-push c.args.places.now.items start c.args.sector)
    ∙ ap (marked start) (sym c.push.ensures.items)
