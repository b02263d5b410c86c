-- A step that is allowed fits the base of the tests' group.
use Rattle.std.proofs.Common.{◌≡◌, ◌<◌, ℕ, zero, suc, List, [], ◌∷◌, slice_index_or, Option, None, Some, refl, sym, ap, ◌∙◌, subst, arith}
use Rattle.std.proofs.lemmas.List.{get_or-replicate}
use Rattle.ddt_entry.specs.declared.entry.Home.{Home}
use Rattle.live_core.specs.declared.steps.Step.{Step}
use Rattle.live_core.specs.declared.steps.Step.TheVariants.{Claim, Loaded, Failed, Ref, Unref}
use Rattle.live_core.specs.Bases.{Base, IsToldHome, IsNoneOrHome, Fits}
use Rattle.live_core_tests.specs.Groups.{writes, IsOfGroup, IsAllowed}

abbrev row : List (Option ℕ)
row = Some 0 ∷ Some 1 ∷ Some 2 ∷ Some 3 ∷ Some 4 ∷ Some 5 ∷ Some 6 ∷ Some 7 ∷ []

in_row : (key : ℕ) → key < 8 → slice_index_or row key None ≡ Some key
in_row zero small = refl
in_row (suc zero) small = refl
in_row (suc (suc zero)) small = refl
in_row (suc (suc (suc zero))) small = refl
in_row (suc (suc (suc (suc zero)))) small = refl
in_row (suc (suc (suc (suc (suc zero))))) small = refl
in_row (suc (suc (suc (suc (suc (suc zero)))))) small = refl
in_row (suc (suc (suc (suc (suc (suc (suc zero))))))) small = refl
in_row (suc (suc (suc (suc (suc (suc (suc (suc more)))))))) small = absurd (omega arith)

is_write : (lane index key : ℕ) → lane < 16 → index ≡ key → key < 8
    → slice_index_or (slice_index_or writes lane []) index None ≡ Some key
is_write lane index key few same small =
    ap (λ (xs : List (Option ℕ)). slice_index_or xs index None) (get_or-replicate 16 lane row [] few)
    ∙ ap (λ (k : ℕ). slice_index_or row k None) same ∙ in_row key small

pub fits_group : (base : Base) (step : Step) → IsOfGroup base → IsAllowed step → Fits base step
fits_group base (Claim lane key) is allowed = (tt, tt)
fits_group base (Loaded lane key home) is allowed = (
  (
    subst (λ (homes : Option (List (Option Home))). IsToldHome homes key home) (sym is.homes) tt,
    subst (λ (sectors : ℕ). IsNoneOrHome sectors base.terms.number home) (sym is.sectors)
        (subst (λ (number : ℕ). IsNoneOrHome 1000 number home) (sym is.number) allowed),
  ),
  tt,
)
fits_group base (Failed lane key) is allowed = (tt, tt)
fits_group base (Ref lane index key verdict place) is allowed = (
  tt,
  subst (λ (w : List (List (Option ℕ))). slice_index_or (slice_index_or w lane []) index None ≡ Some key) (sym is.writes_are)
      (is_write lane index key allowed.0 allowed.1 allowed.2),
)
fits_group base (Unref lane index key place birth) is allowed = (tt, tt)
