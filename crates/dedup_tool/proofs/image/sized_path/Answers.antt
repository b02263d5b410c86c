-- The first colon is the one behind the number.
use Rattle.std.proofs.Common.{rules, ◌≡◌, ◌==◌, ◌∙◌, length, arith}
use Rattle.std.specs.Fmt.{decimal}
use Rattle.std.specs.List.{position_or_len}
use Rattle.dedup_tool.proofs.ImageLemmas.{has_colon, number_before}
use Rattle.dedup_tool.proofs.image.sized_path.Goals as goal

pub returns-in_default : goal.returns-in_default
returns-in_default c n path sized =
    let none : position_or_len (λ b. b == 58) c.args.rest.now ≡ length c.args.rest.now = c.in_default.ensures.byte (omega arith)
    (λ w o found. found) in
    has_colon c.args.rest.now path n sized none

pub returns-in_default-number_of : goal.returns-in_default-number_of
returns-in_default-number_of c n path sized =
    let cut = c.in-Some.ensures.byte (omega arith) (λ w o found. found) in
    let digits : c.in-Some.digits.now ≡ decimal n = cut.0 ∙ number_before c.args.rest.now path n sized in
    c.in_default-number_of.ensures n (record { spelled = digits; no_less = sized.least; no_more = sized.most })
