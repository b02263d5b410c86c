-- The history of a list of steps.
use Rattle.std.proofs.Common.{◌≡◌, ◌&&◌, Bool, true, false, if◌then◌else◌, List, [], ◌∷◌, ◌++◌, fold, refl, sym, ap, ◌∙◌, subst, append_assoc, append-nil}
use Rattle.std.specs.List.{AllByRecursion, list_all}
use Rattle.machine_model.specs.declared.machine.Event.{Event}
use Rattle.machine_model.specs.Histories.{History, kept_of, IsLegal}
use Rattle.live_core.specs.declared.steps.Step.{Step}
use Rattle.live_core.specs.declared.steps.Answer.{Answer}
use Rattle.live_core.specs.declared.steps.Terms.{Terms}
use Rattle.live_core.specs.Bases.{Base, Fits, IsLoad}
use Rattle.live_core.specs.Moves.{is_kept}
use Rattle.live_core.specs.Cores.{CoreState, first_core, moved, core_after, core_at, answer_at}
use Rattle.live_core.specs.Events.{AreAnswered}
use Rattle.live_core.specs.Runs.{core_of, kept_from, history_of}
use Rattle.live_core.specs.Views.{reply, keeps}
use Rattle.live_core.proofs.Keeping.{unkept_same, core_longer, core_kept}

recorded : (terms : Terms) (before : History Step Answer) (steps : List Step)
    → core_at terms (before ++ kept_from terms (core_at terms before) steps) ≡ fold (core_after terms) (core_at terms before) steps
recorded terms before [] = ap (λ (h : History Step Answer). core_at terms h) (append-nil before)
recorded terms before (step ∷ steps) =
    let added : History Step Answer = kept_of keeps step (answer_at terms before step) in
    ap (λ (h : History Step Answer). core_at terms h)
    (sym (append_assoc before added (kept_from terms (core_after terms (core_at terms before) step) steps)))
    ∙ subst (λ (core : CoreState). core_at terms ((before ++ added) ++ kept_from terms core steps) ≡ fold (core_after terms) core steps)
    (core_kept terms before step) (recorded terms (before ++ added) steps)

pub state_recorded : (terms : Terms) (steps : List Step) → core_at terms (history_of terms steps) ≡ core_of terms steps
state_recorded terms steps = recorded terms [] steps

answered_from : (terms : Terms) (core : CoreState) (steps : List Step) → AreAnswered terms core (kept_from terms core steps)
answered_from terms core [] = tt
answered_from terms core (step ∷ steps) =
    by_test (is_kept (moved terms core step).answer) refl (answered_from terms (core_after terms core step) steps)
  where
    rest : History Step Answer
    rest = kept_from terms (core_after terms core step) steps

    by_test : (b : Bool) → is_kept (moved terms core step).answer ≡ b → AreAnswered terms (core_after terms core step) rest
        → AreAnswered terms core ((if b then record { step = step; answer = (moved terms core step).answer } ∷ [] else []) ++ rest)
    by_test true e are = (refl, are)
    by_test false e are = subst (λ (at : CoreState). AreAnswered terms at rest) (unkept_same terms core step e) are

pub all_answered : (terms : Terms) (steps : List Step) → AreAnswered terms (first_core terms) (history_of terms steps)
all_answered terms steps = answered_from terms (first_core terms) steps

longer_from : (terms : Terms) (core : CoreState) (steps : List Step) (step : Step) → kept_from terms core (steps ++ step ∷ [])
    ≡ kept_from terms core steps ++ kept_of keeps step (moved terms (fold (core_after terms) core steps) step).answer
longer_from terms core [] step = append-nil (kept_of keeps step (moved terms core step).answer)
longer_from terms core (first ∷ rest) step =
    let added : History Step Answer = kept_of keeps first (moved terms core first).answer in
    ap (λ (h : History Step Answer). added ++ h) (longer_from terms (core_after terms core first) rest step)
    ∙ sym (append_assoc added (kept_from terms (core_after terms core first) rest)
    (kept_of keeps step (moved terms (fold (core_after terms) (core_after terms core first) rest) step).answer))

pub one_more_step : (terms : Terms) (steps : List Step) (step : Step) → history_of terms (steps ++ step ∷ [])
    ≡ history_of terms steps ++ kept_of keeps step (answer_at terms (history_of terms steps) step)
one_more_step terms steps step = longer_from terms (first_core terms) steps step
    ∙ ap (λ (core : CoreState). history_of terms steps ++ kept_of keeps step (moved terms core step).answer)
    (sym (state_recorded terms steps))

pub all_kept : (terms : Terms) (core : CoreState) (steps : List Step)
    → list_all (λ (e : Event Step Answer). is_kept e.answer) (kept_from terms core steps) ≡ true
all_kept terms core [] = refl
all_kept terms core (step ∷ steps) =
    by_test (is_kept (moved terms core step).answer) refl (all_kept terms (core_after terms core step) steps)
  where
    rest : List (Event Step Answer)
    rest = kept_from terms (core_after terms core step) steps

    by_test : (b : Bool) → is_kept (moved terms core step).answer ≡ b
        → list_all (λ (e : Event Step Answer). is_kept e.answer) rest ≡ true → list_all (λ (e : Event Step Answer). is_kept e.answer)
        ((if b then record { step = step; answer = (moved terms core step).answer } ∷ [] else []) ++ rest) ≡ true
    by_test true e are = ap (λ (x : Bool). x && list_all (λ (it : Event Step Answer). is_kept it.answer) rest) e ∙ are
    by_test false e are = are

pub legal_from : (base : Base) (before : History Step Answer) (steps : List Step) → AllByRecursion (Fits base) steps
    → IsLegal Fits reply base before (kept_from base.terms (core_at base.terms before) steps)
legal_from base before [] fit = tt
legal_from base before (step ∷ steps) fit =
    by_test (is_kept (answer_at base.terms before step)) refl (λ (h : History Step Answer). legal_from base h steps fit.1)
  where
    event : Event Step Answer
    event = record { step = step; answer = answer_at base.terms before step }

    by_test : (b : Bool) → is_kept (answer_at base.terms before step) ≡ b
        → ((h : History Step Answer) → IsLegal Fits reply base h (kept_from base.terms (core_at base.terms h) steps))
        → IsLegal Fits reply base before
        ((if b then event ∷ [] else []) ++ kept_from base.terms (core_after base.terms (core_at base.terms before) step) steps)
    by_test true e legal = (
      fit.0,
      refl,
      subst (λ (core : CoreState). IsLegal Fits reply base (before ++ event ∷ []) (kept_from base.terms core steps))
          (core_longer base.terms before event) (legal (before ++ event ∷ [])),
    )
    by_test false e legal = subst (λ (core : CoreState). IsLegal Fits reply base before (kept_from base.terms core steps))
        (sym (unkept_same base.terms (core_at base.terms before) step e)) (legal before)

legal_answered : (base : Base) (before history : History Step Answer) → IsLegal Fits reply base before history
    → AreAnswered base.terms (core_at base.terms before) history
legal_answered base before [] legal = tt
legal_answered base before (e ∷ es) legal = (
  legal.1,
  subst (λ (core : CoreState). AreAnswered base.terms core es) (core_longer base.terms before e)
      (legal_answered base (before ++ e ∷ []) es legal.2),
)

pub answered_if_legal : (base : Base) (history : History Step Answer) → IsLegal Fits reply base [] history
    → AreAnswered base.terms (first_core base.terms) history
answered_if_legal base history legal = legal_answered base [] history legal

legal_loads : (base : Base) (before history : History Step Answer) → IsLegal Fits reply base before history
    → AllByRecursion (λ (e : Event Step Answer). IsLoad base e.step) history
legal_loads base before [] legal = tt
legal_loads base before (e ∷ es) legal = (legal.0.0, legal_loads base (before ++ e ∷ []) es legal.2)

pub loads_if_legal : (base : Base) (history : History Step Answer) → IsLegal Fits reply base [] history
    → AllByRecursion (λ (e : Event Step Answer). IsLoad base e.step) history
loads_if_legal base history legal = legal_loads base [] history legal
