use Rattle.std.proofs.Common.{rules, ◌≡◌, true, not, sym, ap, ◌∙◌, ◌<◌, ◌^◌, arith}
use Rattle.std.specs.Fmt.{decimal}
use Rattle.std.specs.Str.{bytes_eq}
use Rattle.std.proofs.lemmas.Slice.Eq.{bytes_eq-Decides}
use Rattle.dedup_tool.proofs.ImageLemmas.{is_read}
use Rattle.dedup_tool.proofs.image.number_of.Goals as goal

pub returns-in_default : goal.returns-in_default
returns-in_default c n number =
    let read = is_read c.args.digits.now c.args.least c.args.most n c.parse.result (search rules) number c.parse.ensures.value.0 in
    let failed = c.in_default.is in
    cc

pub returns-then-number-least : goal.returns-then-number-least
returns-then-number-least c n number =
    let read = is_read c.args.digits.now c.args.least c.args.most n c.parse.result (search rules) number c.parse.ensures.value.0 in
    let same : c.in-Ok.number ≡ n = let found = c.in-Ok.is in cc in
    omega (arith, number.no_less)

pub returns-then-most-number : goal.returns-then-most-number
returns-then-most-number c n number =
    let read = is_read c.args.digits.now c.args.least c.args.most n c.parse.result (search rules) number c.parse.ensures.value.0 in
    let same : c.in-Ok.number ≡ n = let found = c.in-Ok.is in cc in
    omega (arith, number.no_more)

pub returns-then-ne : goal.returns-then-ne
returns-then-ne c n number =
    let read = is_read c.args.digits.now c.args.least c.args.most n c.parse.result (search rules) number c.parse.ensures.value.0 in
    let same : c.in-Ok.number ≡ n = let found = c.in-Ok.is in cc in
    let spelled : c.format.result.now ≡ c.args.digits.now = c.format.ensures.text ∙ ap decimal same ∙ sym number.spelled in
    let told : bytes_eq c.format.result.now c.args.digits.now ≡ true = (bytes_eq-Decides c.format.result.now c.args.digits.now).1 spelled in
    let other : true ≡ not true = c.if-ne.ensures ∙ ap not told in
    cc
