-- The numbers of a seal that is made for a group: the homes that are counted, and the bytes of the lanes' modes.
use Rattle.std.proofs.Common.{◌≡◌, ℕ, ◌+◌, ◌<◌, Bool, true, false, cond, nat_lt, List, [], ◌∷◌, ◌++◌, length, map, filter, take, set, get_or, sum_by, refl, sym, ap, ◌∙◌, arith}
use Rattle.std.proofs.Math.Seq.{take-length}
use Rattle.std.proofs.lemmas.List.{map_more, take_more_set}
use Rattle.std.proofs.lemmas.List.Sums.{sum_by-cons}
use Rattle.std.proofs.lemmas.Bool.Decides.{nat_tests}
use Rattle.ddt_entry.specs.declared.entry.Entry.{Entry}

-- what isn't counted adds nothing to the sum of the counts
with_one : (entry : Entry) (counted : List Entry) (b : Bool) → nat_lt 0 entry.home.count ≡ b
    → entry.home.count + sum_by (λ e. e.home.count) counted ≡ sum_by (λ e. e.home.count) (cond b (entry ∷ counted) counted)
with_one entry counted true some = sym (sum_by-cons (λ (e : Entry). e.home.count) entry counted)
with_one entry counted false none = let zero : entry.home.count ≡ 0 = grind (arith, nat_tests) in omega (arith, zero)

sum_counted : (entries : List Entry)
    → sum_by (λ entry. entry.home.count) entries ≡ sum_by (λ entry. entry.home.count) (filter (λ entry. nat_lt 0 entry.home.count) entries)
sum_counted [] = refl
sum_counted (entry ∷ entries) =
    sum_by-cons (λ (e : Entry). e.home.count) entry entries
    ∙ ap (λ n. entry.home.count + n) (sum_counted entries)
    ∙ with_one entry (filter (λ (e : Entry). nat_lt 0 e.home.count) entries) (nat_lt 0 entry.home.count) refl

-- so the sum over all entries is that of those that are counted
pub all_summed : (sum i : ℕ) (entries : List Entry) → sum ≡ sum_by (λ entry. entry.home.count) (take i entries) → i ≡ length entries
    → sum ≡ sum_by (λ entry. entry.home.count) (filter (λ entry. nat_lt 0 entry.home.count) entries)
all_summed sum i entries so_far at_end =
    so_far
    ∙ ap (λ n. sum_by (λ (entry : Entry). entry.home.count) (take n entries)) at_end
    ∙ ap (λ (es : List Entry). sum_by (λ entry. entry.home.count) es) (take-length entries)
    ∙ sum_counted entries

-- bytes that are set from their front: one more is the value of one item more
pub spelled_more : {X : Type 0} (f : X → ℕ) (items : List X) (bytes : List ℕ) (i : ℕ) (byte : ℕ) (d : X) → i < length items
    → i < length bytes → take i bytes ≡ map f (take i items) → byte ≡ f (get_or items i d)
    → take (i + 1) (set bytes i byte) ≡ map f (take (i + 1) items)
spelled_more f items bytes i byte d in_items in_bytes so_far here =
    take_more_set bytes i byte in_bytes
    ∙ ap (λ l. l ++ byte ∷ []) so_far
    ∙ ap (λ b. map f (take i items) ++ b ∷ []) here
    ∙ sym (map_more f items i d in_items)

-- at the end they are the values of all items
pub spelled_all : {X : Type 0} (f : X → ℕ) (items : List X) (bytes : List ℕ) (i : ℕ) → i ≡ length items → i ≡ length bytes
    → take i bytes ≡ map f (take i items) → bytes ≡ map f items
spelled_all f items bytes i all_items all_bytes so_far =
    sym (take-length bytes)
    ∙ ap (λ n. take n bytes) (sym all_bytes)
    ∙ so_far
    ∙ ap (λ n. map f (take n items)) all_items
    ∙ ap (map f) (take-length items)
