-- Homes of a key: by the pointers that are counted, by those of earlier pools, or by the table; and what a group leaves of them.
use Rattle.std.proofs.Common.{◌≡◌, true, false, cond, nat_lt, List, [], ◌∷◌, length, Option, Some, None, refl, sym, ap, ◌∙◌, arith}
use Rattle.std.specs.Option.{option_map}
use Rattle.std.proofs.lemmas.Bool.Decides.{nat_tests}
use Rattle.ddt_entry.specs.declared.key.Key.{Key}
use Rattle.ddt_entry.specs.declared.entry.Home.{Home}
use Rattle.pool_model.specs.Pool.{Pointer, since_of}
use Rattle.pool_model.specs.Table.{counted, home_of_pointers}
use Rattle.pool_model.specs.Command.{Opening, home_at, or_in, known_or, known_in_table}

-- the home that is left of a key while no pointer is counted: of the last pointer that was, or the one of the table
abbrev pub left_by : (before : Option Home) → (last : Option Pointer) → Option Home
left_by before None = before
left_by before (Some p) = Some (home_at p 0)

-- what a list of counted pointers leaves when they are gone
abbrev pub left_after : (left : Option Home) → List Pointer → Option Home
left_after left [] = left
left_after left (p ∷ ps) = Some (home_at p 0)

-- the home of a key with these counted pointers
abbrev pub home_now : (left : Option Home) → List Pointer → Option Home
home_now left [] = left
home_now left (p ∷ ps) = Some (home_at p (length (p ∷ ps)))

-- the home that a course knows is that one
pub known_home-now : (opening : Opening) (key : Key) (before : Option Home) (last : Option Pointer) (ps : List Pointer)
    → option_map (λ known. known.home) (known_or (known_in_table opening key before) (length ps) (or_in last ps)) ≡ home_now
    (left_by before last) ps
known_home-now opening key before last (p ∷ ps) = refl
known_home-now opening key before (Some p) [] = refl
known_home-now opening key None None [] = refl
known_home-now opening key (Some home) None [] = refl

-- one pool more
pub left_by-later : (before : Option Home) (last : Option Pointer) (ps : List Pointer)
    → left_by before (or_in last ps) ≡ left_after (left_by before last) ps
left_by-later before last [] = refl
left_by-later before last (p ∷ ps) = refl

-- a key without pointers that are counted keeps its home, and one with the same pointers too
pub home_now-later : (left : Option Home) (ps : List Pointer) → home_now (left_after left ps) ps ≡ home_now left ps
home_now-later left [] = refl
home_now-later left (p ∷ ps) = refl

-- the home is that of the counted pointers, where what is left isn't counted
pub counted_now : (left : Option Home) (ps : List Pointer) → (ps ≡ [] → counted left ≡ None)
    → counted (home_now left ps) ≡ home_of_pointers ps
counted_now left [] uncounted = uncounted refl
counted_now left (p ∷ ps) uncounted = let some : nat_lt 0 (length (p ∷ ps)) ≡ true = grind (arith, nat_tests) in
    ap (λ b. cond b (Some (home_at p (length (p ∷ ps)))) None) some

-- a home that isn't counted is one that is left, of a key without counted pointers
pub left_now : (left : Option Home) (ps : List Pointer) (home : Home) → home_now left ps ≡ Some home → nat_lt 0 home.count ≡ false
    → (ps ≡ []) × (left ≡ Some home)
left_now left [] home is none = (refl, is)
left_now left (p ∷ ps) home is none =
    let some : nat_lt 0 (length (p ∷ ps)) ≡ true = grind (arith, nat_tests) in
    let count : length (p ∷ ps) ≡ home.count = cc is in
    absurd (cc (some, count, none))

-- a home that is counted is that of its first pointer
pub first_now : (left : Option Home) (ps : List Pointer) (home : Home) → home_now left ps ≡ Some home → nat_lt 0 home.count ≡ true
    → (ps ≡ [] → counted left ≡ None)
    → (p : Pointer) × (rest : List Pointer) × (ps ≡ p ∷ rest) × (home.place ≡ p.place) × (home.birth ≡ p.birth)
    × (home.since ≡ since_of p.mark)
first_now left [] home is some uncounted =
    let said : counted (Some home) ≡ None = sym (ap counted is) ∙ uncounted refl in
    absurd (cc (some, said))
first_now left (p ∷ ps) home is some uncounted = (p, ps, refl, sym (cc is), sym (cc is), sym (cc is))

-- where no home that is counted is known, no pointer is counted
pub none_now : (left : Option Home) (ps : List Pointer) → counted (home_now left ps) ≡ None → ps ≡ []
none_now left [] none = refl
none_now left (p ∷ ps) none = let some : nat_lt 0 (length (p ∷ ps)) ≡ true = grind (arith, nat_tests) in absurd (cc (some, none))

-- a home with nothing counted
pub uncounted_zero : (home : Home) → counted (Some home) ≡ None → home.count ≡ 0
uncounted_zero home none =
    elim (nat_lt 0 home.count) as (λ b. (nat_lt 0 home.count ≡ b) → cond b (Some home) None ≡ None → home.count ≡ 0)
    [ true ↦ λ some e. absurd (cc e) | false ↦ λ zero e. grind (arith, nat_tests, zero) ] refl none

pub zero_uncounted : (home : Home) → home.count ≡ 0 → nat_lt 0 home.count ≡ false
zero_uncounted home zero = grind (arith, nat_tests, zero)

-- a home of which nothing is left is not in the table either
pub left_by-none : (before : Option Home) (last : Option Pointer) → left_by before last ≡ None → before ≡ None
left_by-none before None none = none
left_by-none before (Some p) none = absurd (cc none)

pub home_now-none : (left : Option Home) (ps : List Pointer) → home_now left ps ≡ None → left ≡ None
home_now-none left [] none = none
home_now-none left (p ∷ ps) none = absurd (cc none)

-- a table that matches its pool has each key's home
pub matched_home : (o : Option Home) (ps : List Pointer) → counted o ≡ home_of_pointers ps → home_now o ps ≡ o
matched_home o [] e = refl
matched_home None (p ∷ ps) e = absurd (cc e)
matched_home (Some h) (p ∷ ps) e =
    elim (nat_lt 0 h.count) as (λ b. cond b (Some h) None ≡ home_of_pointers (p ∷ ps)
    → home_now (Some h) (p ∷ ps) ≡ Some h) [ true ↦ λ same. sym same | false ↦ λ none. absurd (cc none) ] e
