-- Laws of keys, for the crates above: `key_eq` decides whether two keys are one, and `key_cmp` is a
-- total order in which only a key itself ties with it.
use Rattle.std.proofs.Common.{◌≡◌, ℕ, true, ◌&&◌, ◌==◌, List, refl, sym, ap, ◌∙◌, arith}
use Rattle.std.specs.Cmp.{IsTotalOrder, IsEquivalence, Equal-is}
use Rattle.std.specs.Cmp.Lexicographic.{slice_cmp, nat_list_eq_equiv}
use Rattle.std.specs.Ordering.{nat_cmp, ordering_then, is_eq}
use Rattle.std.specs.declared.cmp.Ordering.{Ordering}
use Rattle.std.specs.declared.cmp.Ordering.TheVariants.{Less, Equal, Greater}
use Rattle.std.proofs.lemmas.Cmp.{on_total, then_total, nat_cmp_total, nat_list_cmp_total, tied_itself, on_equiv, and_equiv, nat_eq_equiv}
use Rattle.std.proofs.lemmas.Map.Lookups.{CmpEqualImpliesEq, exact_pairs, exact_bytes, exact_unsigned}
use Rattle.std.proofs.lemmas.Map.Text.{is_eq-slice_cmp}
use Rattle.std.proofs.lemmas.Bool.Decides.{nat_tests}
use Rattle.std.specs.Str.{bytes_eq}
use Rattle.ddt_entry.specs.declared.key.Key.{Key}
use Rattle.ddt_entry.specs.Keys.{key_cmp, key_eq}
use Rattle.ddt_entry.specs.contracts.key.KeyOrd.TheImpl as ord
use Rattle.ddt_entry.specs.contracts.key.KeyPartialEq.TheImpl as partial_eq

-- what the code's `cmp` of two keys answers
pub derived_cmp : (a b : Key) → ord.ghosts.cmp a b ≡ key_cmp a b
derived_cmp a b = refl

-- what the code's `==` of two keys answers
pub derived_eq : (a b : Key) → partial_eq.ghosts.eq a b ≡ key_eq a b
derived_eq a b = refl

-- the order of keys is total
pub key_cmp_total : IsTotalOrder key_cmp
key_cmp_total =
    then_total (on_total (λ (k : Key). k.digest) nat_list_cmp_total) (on_total (λ (k : Key). k.len) nat_cmp_total)

-- keys that tie are one
pub exact_keys : CmpEqualImpliesEq key_cmp
exact_keys a b h =
    ap (λ (p : List ℕ × ℕ). record { digest = p.0; len = p.1 })
    (exact_pairs (slice_cmp nat_cmp) nat_cmp exact_bytes exact_unsigned (a.digest, a.len) (b.digest, b.len) h)

is_eq-then : (r s : Ordering) → is_eq (ordering_then r s) ≡ is_eq r && is_eq s
is_eq-then Less s = refl
is_eq-then Equal s = refl
is_eq-then Greater s = refl

is_eq-nat_cmp : (x y : ℕ) → is_eq (nat_cmp x y) ≡ (x == y)
is_eq-nat_cmp x y = grind (arith, nat_tests)

-- keys are one exactly where they tie
pub is_eq-key_cmp : (a b : Key) → is_eq (key_cmp a b) ≡ key_eq a b
is_eq-key_cmp a b =
    is_eq-then (slice_cmp nat_cmp a.digest b.digest) (nat_cmp a.len b.len)
    ∙ ap (λ e. e && is_eq (nat_cmp a.len b.len)) (is_eq-slice_cmp a.digest b.digest)
    ∙ ap (λ e. bytes_eq a.digest b.digest && e) (is_eq-nat_cmp a.len b.len)

pub key_eq_equiv : IsEquivalence key_eq
key_eq_equiv = and_equiv (on_equiv (λ (k : Key). k.digest) nat_list_eq_equiv) (on_equiv (λ (k : Key). k.len) nat_eq_equiv)

-- keys that are taken for one are one
pub key_eq-true : (a b : Key) → key_eq a b ≡ true → a ≡ b
key_eq-true a b h = exact_keys a b ((Equal-is (key_cmp a b)).0 (is_eq-key_cmp a b ∙ h))

pub key_eq-same : (a : Key) → key_eq a a ≡ true
key_eq-same a = sym (is_eq-key_cmp a a) ∙ ap is_eq (tied_itself key_cmp_total a)

pub key_eq-symm : (a b : Key) → key_eq a b ≡ key_eq b a
key_eq-symm a b = key_eq_equiv.symm a b
