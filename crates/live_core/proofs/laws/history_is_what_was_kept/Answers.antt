use Rattle.std.proofs.Common.{[]}
use Rattle.live_core.specs.Cores.{first_core}
use Rattle.live_core.proofs.Recording.{state_recorded, all_answered, one_more_step, all_kept, legal_from}
use Rattle.live_core.proofs.laws.history_is_what_was_kept.Goals as goal

pub returns-clause-state : goal.returns-clause-state
returns-clause-state c = state_recorded

pub returns-clause-answers : goal.returns-clause-answers
returns-clause-answers c = all_answered

pub returns-clause-next : goal.returns-clause-next
returns-clause-next c = one_more_step

pub returns-clause-legal : goal.returns-clause-legal
returns-clause-legal c base steps fit meant = record {
  legal = legal_from base [] steps fit;
  kept = all_kept base.terms (first_core base.terms) steps;
  meant = meant;
}
