-- What `clap` finds, or refuses, is what the words ask for.
use Rattle.std.proofs.Common.{rules, ◌∙◌, map, string_bytes, List, ℕ, option_map}
use Rattle.std.proofs.lemmas.Result.{IfOk-weaker}
use Rattle.dedup_tool.proofs.AskingLemmas.{asked_so, neither, no_look, no_run, refused_so, unasked_so}
use Rattle.dedup_tool.proofs.asking.read_words.Goals as goal

pub returns-in-Ok-clause-usage : goal.returns-in-Ok-clause-usage
returns-in-Ok-clause-usage c usage =
    let words : List (List ℕ) = map string_bytes c.args.words.now in
    neither words (unasked_so words c.in-Ok.matches (option_map (λ s. s.now) c.get_str.result) c.in-Ok.ensures.matches c.get_str.ensures
    (c.session_of.ensures.usage usage))

pub returns-in-Ok-clause-runs : goal.returns-in-Ok-clause-runs
returns-in-Ok-clause-runs c =
    let words : List (List ℕ) = map string_bytes c.args.words.now in
    IfOk-weaker c.session_of.result _ _
    (λ told some is. no_look words
    (λ asked asks. asked_so words c.in-Ok.matches
    (option_map (λ s. s.now) c.get_str.result) told c.in-Ok.ensures.matches c.get_str.ensures some asked asks ∙ is)) c.session_of.ensures.ok

pub returns-in-Ok-clause-looks : goal.returns-in-Ok-clause-looks
returns-in-Ok-clause-looks c =
    let words : List (List ℕ) = map string_bytes c.args.words.now in
    IfOk-weaker c.session_of.result _ _
    (λ told some is. no_run words
    (λ asked asks. asked_so words c.in-Ok.matches
    (option_map (λ s. s.now) c.get_str.result) told c.in-Ok.ensures.matches c.get_str.ensures some asked asks ∙ is)) c.session_of.ensures.ok

pub returns-in-Err-clause-usage : goal.returns-in-Err-clause-usage
returns-in-Err-clause-usage c usage =
    let words : List (List ℕ) = map string_bytes c.args.words.now in
    neither words (refused_so words c.kind.result (λ taken. search rules) (c.refusal.ensures (cc usage)))
