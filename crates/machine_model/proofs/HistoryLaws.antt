-- Laws of histories: of two one after the other, and of how many events several lanes have together.
use Rattle.std.proofs.Common.{◌≡◌, ℕ, zero, suc, ◌+◌, ◌<◌, ◌≤◌, ◌≢◌, Bool, true, false, ◌==◌, if◌then◌else◌, List, [], ◌∷◌, ◌++◌, length, drop, sum, slice_index, refl, sym, ap, ◌∙◌, subst, arith, append_assoc, append-nil, eq-eqb, ne_eqb}
use Rattle.std.proofs.lemmas.List.Sums.{sum_by-cons}
use mathlib.Core.Logic.{dite}
use native.Mathlib.Decide.{ℕ_discrete}
use Rattle.machine_model.specs.declared.machine.Event.{Event}
use Rattle.machine_model.specs.Histories.{History, of_lane, AreBelow, IsLegal, BeginsWith}

module _ {X : Type 0} where
  -- a longer list begins with what a shorter one begins with
  pub begins_longer : (all front more : List X) → BeginsWith all front → BeginsWith (all ++ more) front
  begins_longer all front more b = (b.0 ++ more, ap (λ xs. xs ++ more) b.1 ∙ append_assoc front b.0 more)

  pub begins_itself : (all : List X) → BeginsWith all all
  begins_itself all = ([], sym (append-nil all))

  pub drop_front : (front rest : List X) → drop (length front) (front ++ rest) ≡ rest
  drop_front [] rest = refl
  drop_front (x ∷ xs) rest = drop_front xs rest

module _ {S A : Type 0} (lane : S → ℕ) where
  pub of_lane-append : (l : ℕ) (xs ys : History S A) → of_lane lane l (xs ++ ys) ≡ of_lane lane l xs ++ of_lane lane l ys
  of_lane-append l [] ys = refl
  of_lane-append l (e ∷ es) ys = at (lane e.step == l) (of_lane-append l es ys)
    where
      at : (b : Bool) → of_lane lane l (es ++ ys) ≡ of_lane lane l es ++ of_lane lane l ys
          → (if b then e ∷ of_lane lane l (es ++ ys) else of_lane lane l
          (es ++ ys)) ≡ (if b then e ∷ of_lane lane l es else of_lane lane l es) ++ of_lane lane l ys
      at true so_far = ap (λ (zs : History S A). e ∷ zs) so_far
      at false so_far = so_far

  pub below-append : (n : ℕ) (xs ys : History S A) → AreBelow lane n xs → AreBelow lane n ys → AreBelow lane n (xs ++ ys)
  below-append n [] ys a b = b
  below-append n (e ∷ es) ys a b = (a.0, below-append n es ys a.1 b)

module _ {B S A : Type 0} (fits : B → S → Type 0) (reply : B → History S A → S → A) (b : B) where
  pub legal-append : (before xs ys : History S A) → IsLegal fits reply b before xs → IsLegal fits reply b (before ++ xs) ys
      → IsLegal fits reply b before (xs ++ ys)
  legal-append before [] ys h k = subst (λ (zs : History S A). IsLegal fits reply b zs ys) (append-nil before) k
  legal-append before (e ∷ es) ys h k = (
    h.0,
    h.1,
    legal-append (before ++ e ∷ []) es ys h.2
        (subst (λ (zs : History S A). IsLegal fits reply b zs ys) (sym (append_assoc before (e ∷ []) es)) k),
  )

-- the numbers of the first n lanes added up
abbrev total : ℕ → (ℕ → ℕ) → ℕ
total zero f = 0
total (suc n) f = f n + total n f

total_same : (n : ℕ) (f g : ℕ → ℕ) → ((l : ℕ) → l < n → f l ≡ g l) → total n f ≡ total n g
total_same zero f g same = refl
total_same (suc n) f g same = let a = same n (omega arith) in let b = total_same n f g (λ l h. same l (omega arith)) in omega arith

total_zero : (n : ℕ) → total n (λ _. 0) ≡ 0
total_zero zero = refl
total_zero (suc n) = let a = total_zero n in omega arith

total_at_most : (n : ℕ) (f g : ℕ → ℕ) → ((l : ℕ) → l < n → f l ≤ g l) → total n f ≤ total n g
total_at_most zero f g most = omega arith
total_at_most (suc n) f g most = let a = most n (omega arith) in let b = total_at_most n f g (λ l h. most l (omega arith)) in omega arith

total_less : (n k : ℕ) (f g : ℕ → ℕ) → k < n → ((l : ℕ) → l < n → f l ≤ g l) → f k < g k → total n f < total n g
total_less zero k f g inside most less = absurd (omega arith)
total_less (suc n) k f g inside most less = let m = most n (omega arith) in dite (ℕ_discrete k n)
    (λ e. let h = subst (λ (z : ℕ). f z < g z) e less in let b = total_at_most n f g (λ l h. most l (omega arith)) in omega arith)
    (λ ne. let b = total_less n k f g (omega arith) (λ l h. most l (omega arith)) less in omega arith)

-- one more at one place
total_more : (n k : ℕ) (f g : ℕ → ℕ) → k < n → f k ≡ suc (g k) → ((l : ℕ) → l ≢ k → f l ≡ g l) → total n f ≡ suc (total n g)
total_more zero k f g inside here elsewhere = absurd (omega arith)
total_more (suc n) k f g inside here elsewhere = dite (ℕ_discrete k n)
    (λ e. let h = subst (λ (z : ℕ). f z ≡ suc (g z)) e here in let b = total_same n f g (λ l less. elsewhere l (λ is. omega arith)) in
    omega arith)
    (λ ne. let b = total_more n k f g (omega arith) here elsewhere in let h = elsewhere n (λ is. ne (sym is)) in omega arith)

total_front : (n : ℕ) (f : ℕ → ℕ) → total (suc n) f ≡ f 0 + total n (λ l. f (suc l))
total_front zero f = refl
total_front (suc n) f = let b = total_front n f in omega arith

total_is_sum : (xs : List ℕ) → total (length xs) (λ l. slice_index xs l) ≡ sum xs
total_is_sum [] = refl
total_is_sum (x ∷ xs) = let a = total_front (length xs) (λ l. slice_index (x ∷ xs) l) in let b = total_is_sum xs in
    let c = sum_by-cons (λ (y : ℕ). y) x xs in omega arith

module _ {S A : Type 0} (lane : S → ℕ) where
  of_own : (e : Event S A) (es : History S A) → length (of_lane lane (lane e.step) (e ∷ es)) ≡ suc (length (of_lane lane (lane e.step) es))
  of_own e es = subst (λ (b : Bool). length (if b then e ∷ of_lane lane (lane e.step) es else of_lane lane (lane e.step) es) ≡ suc
      (length (of_lane lane (lane e.step) es))) (sym (eq-eqb (lane e.step) (lane e.step) refl)) refl

  of_other : (e : Event S A) (es : History S A) (l : ℕ) → l ≢ lane e.step → length (of_lane lane l (e ∷ es)) ≡ length (of_lane lane l es)
  of_other e es l other = subst (λ (b : Bool). length (if b then e ∷ of_lane lane l es else of_lane lane l es) ≡ length (of_lane lane l es))
      (sym (ne_eqb (lane e.step) l (λ e. other (sym e)))) refl

  -- a history of the first n lanes has as many events as these have together
  length_by_lanes : (n : ℕ) (es : History S A) → AreBelow lane n es → length es ≡ total n (λ l. length (of_lane lane l es))
  length_by_lanes n [] below = sym (total_zero n)
  length_by_lanes n (e ∷ es) below = ap suc (length_by_lanes n es below.1)
      ∙ sym (total_more n (lane e.step) (λ l. length (of_lane lane l (e ∷ es))) (λ l. length (of_lane lane l es)) below.0 (of_own e es)
      (of_other e es))

  -- where each lane has its share at the most and one has less, all have less than the shares together
  pub fewer : (shares : List ℕ) (es : History S A) (l : ℕ) → AreBelow lane (length shares) es
      → ((k : ℕ) → k < length shares → length (of_lane lane k es) ≤ slice_index shares k)
      → l < length shares → length (of_lane lane l es) < slice_index shares l → length es < sum shares
  fewer shares es l below within inside less = let a = length_by_lanes (length shares) es below in
      let b = total_less (length shares) l (λ k. length (of_lane lane k es)) (λ k. slice_index shares k) inside within less in
      let c = total_is_sum shares in omega arith
