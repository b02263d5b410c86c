-- Where a record spells nothing, its chain spells no list.
use Rattle.std.proofs.Common.{◌≡◌, ℕ, Bool, true, false, ◌||◌, List, [], ◌∷◌, Option, Some, None, map, refl, sym, ap, ◌∙◌}
use Rattle.std.specs.Prelude.{IfSome}
use Rattle.std.specs.List.{list_any}
use Rattle.disk_model.specs.Images.{Image}
use Rattle.page_tree.specs.declared.pointer.PagePtr.{PagePtr}
use Rattle.table_state.specs.Flat.{Reads}
use Rattle.table_state.proofs.FlatLaws.{one_walk}

-- what is spelled right is nowhere wrong
spelled_right : {X Y : Type 0} (f : List ℕ → Y) (g : X → Y) (bad : Y → Bool) → ((x : X) → bad (g x) ≡ false)
    → (rs : List (List ℕ)) (xs : List X) → map f rs ≡ map g xs → list_any (λ r. bad (f r)) rs ≡ false
spelled_right f g bad right [] xs same = refl
spelled_right f g bad right (r ∷ rs) [] same = absurd (cc same)
spelled_right f g bad right (r ∷ rs) (x ∷ xs) same =
    let here : f r ≡ g x = cc same in
    let rest : map f rs ≡ map g xs = cc same in
    ap (λ b. b || list_any (λ r. bad (f r)) rs) (ap bad here ∙ right x) ∙ spelled_right f g bad right rs xs rest

-- so a chain with a record that is wrong spells no list
pub no_reading : {X Y : Type 0} (f : List ℕ → Y) (g : X → Y) (bad : Y → Bool) → ((x : X) → bad (g x) ≡ false)
    → (told : Option Image) (before : List ℕ) (root : Option PagePtr) (after : List ℕ) (records : List (List ℕ))
    → IfSome told (λ image. Reads image before root after records) → list_any (λ r. bad (f r)) records ≡ true
    → IfSome told (λ image. (after' : List ℕ) (xs : List X)
    → ((records' : List (List ℕ)) × Reads image before root after' records' × (map f records' ≡ map g xs)) → ⊥)
no_reading f g bad right None before root after records one wrong = tt
no_reading f g bad right (Some image) before root after records one wrong = λ after' xs reading.
    let same = one_walk image before before root after after' records reading.0 refl one reading.1 in
    clash (sym wrong ∙ ap (list_any (λ r. bad (f r))) same.1 ∙ spelled_right f g bad right reading.0 xs reading.2)
  where
    clash : true ≡ false → ⊥
    clash same = cc same
