-- The command that is built is the command line's.
use Rattle.std.proofs.Common.{rules, ap, ap₂, codes, map, string_bytes, subst, true, List, ℕ, ◌≡◌, ◌∙◌, Global}
use Rattle.std.proofs.lemmas.Result.{IfErr-weaker, IfOk-weaker}
use Rattle.clap.specs.Simple.{app_of_fields, on_top}
use Rattle.clap.specs.Words.{App, HasMatchesOf, app_of, new_app, rule_of, takes, with_rule}
use Rattle.dedup_tool.specs.Asking.{command_line, nameless, word_rule}
use Rattle.dedup_tool.proofs.asking.parsed.Goals as goal

pub returns-clause-matches : goal.returns-clause-matches
returns-clause-matches c =
    let rule_is : rule_of c.action-word.result ≡ word_rule = search rules in
    let base_is : app_of c.no_binary_name.result ≡ nameless (new_app (codes "dedup_tool")) = ap app_of_fields c.no_binary_name.ensures
    ∙ ap nameless c.new-2.ensures.app in
    let command_is : app_of c.in_ok-command.command ≡ command_line = c.in_ok-command.ensures.shape (search rules)
    ∙ ap₂ with_rule base_is rule_is in
    let words : List (List ℕ) = map string_bytes c.args.words.now in
    IfOk-weaker c.try_get_matches_from.result _ _
    (λ m has. subst (λ (a : App). HasMatchesOf a words m) command_is has) c.try_get_matches_from.ensures.matches

pub returns-clause-refusal : goal.returns-clause-refusal
returns-clause-refusal c =
    let rule_is : rule_of c.action-word.result ≡ word_rule = search rules in
    let base_is : app_of c.no_binary_name.result ≡ nameless (new_app (codes "dedup_tool")) = ap app_of_fields c.no_binary_name.ensures
    ∙ ap nameless c.new-2.ensures.app in
    let command_is : app_of c.in_ok-command.command ≡ command_line = c.in_ok-command.ensures.shape (search rules)
    ∙ ap₂ with_rule base_is rule_is in
    let words : List (List ℕ) = map string_bytes c.args.words.now in
    IfErr-weaker c.try_get_matches_from.result _ _
    (λ e fails taken. fails (ap (λ (a : App). takes a words) command_is ∙ taken)) c.try_get_matches_from.ensures.passes
