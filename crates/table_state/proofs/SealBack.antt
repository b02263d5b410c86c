-- The seal of a group has the form of one, says what it was made of, and fits its body.
use Rattle.std.proofs.Common.{◌≡◌, ℕ, ◌≤◌, true, ◌||◌, ◌==◌, List, [], ◌∷◌, Option, Some, None, map, length, refl, ap, ◌∙◌, arith, eq-eqb}
use Rattle.std.specs.Prelude.{nat_le, nat_lt, if◌then◌else◌}
use Rattle.std.specs.List.{list_all}
use Rattle.std.proofs.lemmas.Bool.{and_from}
use Rattle.std.proofs.lemmas.Bool.Decides.{nat_tests}
use Rattle.ddt_entry.specs.declared.key.Key.{Key}
use Rattle.ddt_entry.specs.declared.entry.Change.{Change}
use Rattle.page_tree.specs.declared.pointer.PagePtr.{PagePtr}
use Rattle.uber_ring.specs.declared.seal.Seal.{Seal}
use Rattle.pool_model.specs.declared.commands.Mode.{Mode}
use Rattle.pool_model.specs.declared.commands.Mode.TheVariants.{Off, On, Verify}
use Rattle.table_state.specs.SealForms.{fewest_sectors, most_sectors, last_group, is_flag, has_group, has_size, has_flags, is_formed, mode_in, modes_in, quota_in, checkpoint_in}
use Rattle.table_state.specs.Spelling.{mode_byte}
use Rattle.table_state.specs.Sealed.{seal_of, flag_of, quota_number, checkpoint_len, checkpoint_digest}
use Rattle.pool_model.specs.Replaying.{LoggedTable}

-- ---- The settings

-- a mode is read back from its byte
pub mode_back : (mode : Mode) → mode_in (mode_byte mode) ≡ mode
mode_back Off = refl
mode_back On = refl
mode_back Verify = refl

-- modes are read back from their bytes
pub modes_back : (modes : List Mode) → map mode_in (map mode_byte modes) ≡ modes
modes_back [] = refl
modes_back (mode ∷ modes) = ap (λ m. m ∷ map mode_in (map mode_byte modes)) (mode_back mode) ∙ ap (λ ms. mode ∷ ms) (modes_back modes)

one_mode_said : (mode : Mode) → nat_le (mode_byte mode) 2 ≡ true
one_mode_said Off = refl
one_mode_said On = refl
one_mode_said Verify = refl

-- each byte is a mode's
modes_said : (modes : List Mode) → list_all (λ byte. nat_le byte 2) (map mode_byte modes) ≡ true
modes_said [] = refl
modes_said (mode ∷ modes) = and_from _ _ (one_mode_said mode) (modes_said modes)

-- a quota is read back from its flag and its number
pub quota_back : (quota : Option ℕ) → (if flag_of quota == 1 then Some (quota_number quota) else None) ≡ quota
quota_back None = refl
quota_back (Some limit) = refl

-- a checkpoint is read back from its flag and its key
pub checkpoint_back : (checkpoint : Option Key)
    → (if flag_of checkpoint == 1 then Some
    (record { digest = checkpoint_digest checkpoint; len = checkpoint_len checkpoint }) else None) ≡ checkpoint
checkpoint_back None = refl
checkpoint_back (Some key) = refl

flag_is_flag : {X : Type 0} (value : Option X) → is_flag (flag_of value) ≡ true
flag_is_flag None = refl
flag_is_flag (Some x) = refl

-- a checkpoint stands beside changes
checkpoint_beside : (checkpoint : Option Key) (flushing : List Change) → (flushing ≡ [] → checkpoint ≡ None)
    → ((flag_of checkpoint == 0) || nat_lt 0 (length flushing)) ≡ true
checkpoint_beside None flushing beside = refl
checkpoint_beside (Some key) [] beside = absurd (cc (beside refl))
checkpoint_beside (Some key) (change ∷ flushing) beside = grind (arith, nat_tests)

-- ---- The form

at_least : (x y : ℕ) → x ≤ y → nat_le x y ≡ true
at_least x y le = grind (arith, nat_tests, le)

-- what a group's numbers have to be for a seal
pub record HasForm (sectors group size : ℕ) (kept : LoggedTable) : Type 0 where
  pub enough : fewest_sectors ≤ sectors
  pub few : sectors ≤ most_sectors
  pub there : sectors ≤ size
  pub first : 1 ≤ group
  pub last : group ≤ last_group
  pub beside : kept.logs.flushing ≡ [] → kept.table.checkpoint ≡ None

module _ (tag sectors group : ℕ) (modes : List Mode) (quota : Option ℕ) (kept : LoggedTable) (roots : List PagePtr) (pages : ℕ) where
  abbrev seal : Seal
  seal = seal_of tag sectors group modes quota kept roots pages

  pub seal_modes_back : modes_in seal ≡ modes
  seal_modes_back = modes_back modes

  pub seal_quota_back : quota_in seal ≡ quota
  seal_quota_back = quota_back quota

  pub seal_checkpoint_back : checkpoint_in seal ≡ kept.table.checkpoint
  seal_checkpoint_back = checkpoint_back kept.table.checkpoint

  -- the seal has the form
  pub seal_is_formed : (size : ℕ) → HasForm sectors group size kept → is_formed tag size seal ≡ true
  seal_is_formed size has =
      and_from _ _ (and_from _ _ (and_from _ _ (and_from _ _ (and_from _ _ (eq-eqb tag tag refl) groups) sizes) flags) (modes_said modes))
      (checkpoint_beside kept.table.checkpoint kept.logs.flushing has.beside)
    where
      groups : has_group seal ≡ true
      groups = and_from _ _ (at_least 1 group has.first) (at_least group last_group has.last)

      sizes : has_size size seal ≡ true
      sizes = and_from _ _ (and_from _ _ (at_least fewest_sectors sectors has.enough) (at_least sectors most_sectors has.few))
          (at_least sectors size has.there)

      flags : has_flags seal ≡ true
      flags = and_from _ _ (flag_is_flag quota) (flag_is_flag kept.table.checkpoint)
