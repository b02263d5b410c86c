-- A seat for each lane, cut off one by one from the seat that keeps all.
use Rattle.std.proofs.Common.{◌≡◌, ℕ, zero, suc, ◌+◌, ◌<◌, ◌≤◌, List, [], ◌∷◌, ◌++◌, length, slice_get, Some, refl, sym, ap, ◌∙◌, subst, arith}
use Rattle.atomic_table.specs.Seated.{TableId}
use Rattle.machine_model.specs.Histories.{Meaning}
use Rattle.lane_lock.specs.Rules.{has, lanes_from, newcomer}
use Rattle.lane_lock.specs.Steps.{Sitter, keeping, given}
use Rattle.lane_lock.specs.Seats.{LockView, SeatView, seat_view, first_seat, AreFirst, IsSeatOf, IsAtRest}
use Rattle.lane_lock.specs.Gathering.{CanSplit, opening_in, IsLeft}
use Rattle.lane_lock.proofs.Steps.{not_busy}
use Rattle.lane_lock.proofs.Ends.{from_below}

one_less : (all lane more : ℕ) → lane + suc more ≡ all → lane + 1 < all → (n : ℕ) × (more ≡ suc n)
one_less all lane zero e less = absurd (omega arith)
one_less all lane (suc n) e less = (n, refl)

none_more : (all lane more : ℕ) → lane + suc more ≡ all → all ≤ lane + 1 → more ≡ 0
none_more all lane zero e last = refl
none_more all lane (suc n) e last = absurd (omega arith)

module _ {M S A : Type 0} (lock : LockView M) where
  -- the seat that keeps the lanes from one on
  abbrev keeps_from : ℕ → ℕ → Sitter M S A
  keeps_from lane n = (record (newcomer (opening_in lock)) { lanes = lanes_from lane n }, [])

  -- while lanes stand behind the first, it can be given away
  pub can_cut : (lane : ℕ) (m : Sitter M S A) → IsLeft lock lane m → lane + 1 < length lock.shares → CanSplit m.0
  can_cut lane m h less = subst (λ (z : Sitter M S A). CanSplit z.0) (sym h.left) record {
    lane = lane;
    rest = lanes_from (lane + 1) h.more;
    lanes = refl;
    once = not_busy (has lane (lanes_from (lane + 1) h.more)) (λ is. let a = (from_below lane (lane + 1) h.more is).0 in
        absurd (omega arith));
    none_own = refl;
    idle = refl;
  }

  -- then those behind it are left
  pub left_behind : (lane : ℕ) (m m' : Sitter M S A) → IsLeft lock lane m → lane + 1 < length lock.shares → m' ≡ (keeping m.0, m.1)
      → IsLeft lock (lane + 1) m'
  left_behind lane m m' h less after = let fewer = one_less (length lock.shares) lane h.more h.count less in let e = h.count in
      let is = fewer.1 in record {
        more = fewer.0;
        count = omega arith;
        left = after ∙ (ap (λ (z : Sitter M S A). (keeping z.0, z.1)) h.left ∙ ap (λ (k : ℕ). keeps_from (lane + 1) k) is);
      }

  -- and it has a seat of its own
  pub seat_cut : (lane : ℕ) (m own : Sitter M S A) (id : TableId) → IsLeft lock lane m → own ≡ (given m.0, []) → id ≡ lock.lock
      → seat_view id lane own ≡ first_seat lock lane
  seat_cut lane m own id h is same = ap (λ (z : Sitter M S A). seat_view id lane z) (is ∙ ap (λ (z : Sitter M S A). (given z.0, [])) h.left)
      ∙ ap (λ (z : TableId). seat_view z lane (keeps_from lane 1)) same

  -- the last lane's seat is the one that is left
  last_is : (lane : ℕ) (m : Sitter M S A) → IsLeft lock lane m → length lock.shares ≤ lane + 1 → m ≡ keeps_from lane 1
  last_is lane m h last = h.left ∙ ap (λ (k : ℕ). keeps_from lane (suc k)) (none_more (length lock.shares) lane h.more h.count last)

  pub seat_last : (lane : ℕ) (m : Sitter M S A) (id : TableId) → IsLeft lock lane m → length lock.shares ≤ lane + 1 → id ≡ lock.lock
      → seat_view id lane m ≡ first_seat lock lane
  seat_last lane m id h last same = ap (λ (z : Sitter M S A). seat_view id lane z) (last_is lane m h last)
      ∙ ap (λ (z : TableId). seat_view z lane (keeps_from lane 1)) same

-- a fact of each place, with one more at the end
pub each_push : {X : Type 0} (P : ℕ → X → Type 0) (xs : List X) (x : X) → ((k : ℕ) (y : X) → slice_get xs k ≡ Some y → P k y)
    → P (length xs) x
    → (k : ℕ) (y : X) → slice_get (xs ++ x ∷ []) k ≡ Some y → P k y
each_push P [] x all last zero y e = let same : x ≡ y = cc in subst (P 0) same last
each_push P [] x all last (suc k) y e = absurd cc
each_push P (z ∷ zs) x all last zero y e = all 0 y e
each_push P (z ∷ zs) x all last (suc k) y e = each_push (λ m u. P (suc m) u) zs x (λ m u at. all (suc m) u at) last k y e

-- what stands in a list stands in a longer one
pub get_longer : {X : Type 0} (xs ys : List X) (k : ℕ) (x : X) → slice_get xs k ≡ Some x → slice_get (xs ++ ys) k ≡ Some x
get_longer [] ys k x e = absurd cc
get_longer (z ∷ zs) ys zero x e = e
get_longer (z ∷ zs) ys (suc k) x e = get_longer zs ys k x e

module _ {M S A : Type 0} (lock : LockView M) where
  -- one seat more
  pub first-push : (seats : List (SeatView M S A)) (seat : SeatView M S A) (lane : ℕ) → AreFirst lock seats → length seats ≡ lane
      → seat ≡ first_seat lock lane
      → AreFirst lock (seats ++ seat ∷ [])
  first-push seats seat lane all long is = each_push (λ k s. s ≡ first_seat lock k) seats seat all (is ∙ ap (first_seat lock) (sym long))

  -- each is a seat of the lock, in its place, and has no event
  pub first_is_of : (seats : List (SeatView M S A)) → AreFirst lock seats → (k : ℕ) (s : SeatView M S A) → slice_get seats k ≡ Some s
      → IsSeatOf lock s × (s.lane ≡ k) × (s.own ≡ [])
  first_is_of seats all k s there = subst (λ (z : SeatView M S A). IsSeatOf lock z × (z.lane ≡ k) × (z.own ≡ [])) (sym (all k s there))
      (record { same = refl; opened = refl; shared = refl }, refl, refl)

module _ {M B S A : Type 0} (t : Meaning M B S A) (lock : LockView M) where
  -- each of them is at rest
  pub given_rests : (lane : ℕ) (m own : Sitter M S A) → IsLeft lock lane m → own ≡ (given m.0, []) → IsAtRest t lane own
  given_rests lane m own h is = subst (IsAtRest t lane) (sym (is ∙ ap (λ (z : Sitter M S A). (given z.0, [])) h.left))
      record { lanes = refl; stage = refl; hand = refl; met = refl; own = refl }

  pub last_rests : (lane : ℕ) (m : Sitter M S A) → IsLeft lock lane m → length lock.shares ≤ lane + 1 → IsAtRest t lane m
  last_rests lane m h last = subst (IsAtRest t lane) (sym (last_is lock lane m h last)) record {
    lanes = refl;
    stage = refl;
    hand = refl;
    met = refl;
    own = refl;
  }
