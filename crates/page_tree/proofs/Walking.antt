-- How the walk of a chain goes on from page to page, where the disk tells its contents.
use Rattle.std.proofs.Common.{◌≡◌, ℕ, suc, ◌≤◌, Bool, true, false, ◌&&◌, List, [], ◌∷◌, ◌++◌, Option, Some, None, append_assoc, refl, sym, ap, ◌∙◌, arith}
use Rattle.std.specs.Prelude.{IfSome, if◌then◌else◌, nat_le}
use Rattle.std.specs.Str.{bytes_eq}
use Rattle.std.proofs.lemmas.Bool.{and_parts}
use Rattle.std.proofs.lemmas.Bool.Decides.{nat_tests}
use Rattle.std.proofs.lemmas.List.{append-nil}
use Rattle.sha2.specs.Sha256.{sha256}
use Rattle.disk_model.specs.Images.{Image, sector_at}
use Rattle.disk_model.specs.DiskLaws.{Gives}
use Rattle.page_tree.specs.Chains.{Walked, is_null, is_open_to, is_chain_page, count_in, page_records, next_in, chain_page_in, holds_page, behind_records, walk, chain_in, pointer_or_null}
use Rattle.page_tree.specs.Readers.{HasWalked}
use Rattle.page_tree.specs.declared.pointer.PagePtr.{PagePtr}

-- the walk from the root is what was read so far, and then the walk from here on
pub record Continues (image : Image) (sectors : ℕ) (whole : Option Walked) (most : ℕ) (named : List ℕ) (old new : List (List ℕ))
    (pointer : PagePtr) : Type 0 where
  pub records : List (List ℕ)
  pub appended : new ≡ old ++ records
  pub same : whole ≡ behind_records records (walk most image sectors named pointer)

behind_none : (walked : Option Walked) → behind_records [] walked ≡ walked
behind_none None = refl
behind_none (Some walked) = refl

behind_twice : (first second : List (List ℕ)) (walked : Option Walked)
    → behind_records first (behind_records second walked) ≡ behind_records (first ++ second) walked
behind_twice first second None = refl
behind_twice first second (Some walked) = ap (λ (records : List (List ℕ)). Some (record walked { records = records }))
    (sym (append_assoc first second walked.records))

-- at the root
pub told_start : (told : Option Image) (sectors : ℕ) (named : List ℕ) (out : List (List ℕ)) (root : Option PagePtr)
    → IfSome told (λ image. Continues image sectors (chain_in image sectors named root) sectors named out out (pointer_or_null root))
told_start None sectors named out root = tt
told_start (Some image) sectors named out root = record {
  records = [];
  appended = sym (append-nil out);
  same = sym (behind_none (walk sectors image sectors named (pointer_or_null root)));
}

module _ (sectors most : ℕ) (whole : Image → Option Walked) (named : List ℕ) (old new : List (List ℕ)) (pointer : PagePtr) where
  abbrev So : Option Image → ℕ → Type 0
  So told left = IfSome told (λ image. Continues image sectors (whole image) left named old new pointer)

  -- at the null pointer the walk has ended
  pub told_end : (told : Option Image) → So told (suc most) → is_null pointer ≡ true
      → IfSome told (λ image. HasWalked (whole image) named old new)
  told_end None so null = tt
  told_end (Some image) so null = (
    so.records ++ [],
    so.same ∙ ap (λ b. behind_records so.records (if b then Some (record { named = named; records = [] }) else further)) null,
    so.appended ∙ ap (λ (r : List (List ℕ)). old ++ r) (sym (append-nil so.records)),
  )
    where
      further : Option Walked
      further =
          if is_open_to sectors named pointer.sector && holds_page image pointer
          then behind_records (chain_page_in (sector_at image pointer.sector)).records
          (walk most image sectors (named ++ pointer.sector ∷ []) (next_in (sector_at image pointer.sector)))
          else None

  -- a page that doesn't belong there is damage
  pub told_damage : (told : Option Image) → So told (suc most) → is_null pointer ≡ false
      → IfSome told (λ image. (is_open_to sectors named pointer.sector && holds_page image pointer) ≡ false)
      → IfSome told (λ image. whole image ≡ None)
  told_damage None so some wrong = tt
  told_damage (Some image) so some wrong =
      so.same
      ∙ ap (λ b. behind_records so.records
      (if b then Some (record { named = named; records = [] }) else further
      (is_open_to sectors named pointer.sector && holds_page image pointer))) some
      ∙ ap (λ b. behind_records so.records (further b)) wrong
    where
      further : Bool → Option Walked
      further b =
          if b then behind_records (chain_page_in (sector_at image pointer.sector)).records
          (walk most image sectors (named ++ pointer.sector ∷ []) (next_in (sector_at image pointer.sector)))
          else None

-- with a page that belongs there the walk goes on
pub told_step : (told : Option Image) (sectors most : ℕ) (whole : Image → Option Walked) (named : List ℕ) (old new more : List (List ℕ))
    (pointer : PagePtr) (page : List ℕ)
    → IfSome told (λ image. Continues image sectors (whole image) (suc most) named old new pointer) → is_null pointer ≡ false
    → is_open_to sectors named pointer.sector ≡ true → Gives told pointer.sector page
    → bytes_eq (sha256 page) pointer.digest ≡ true → is_chain_page page ≡ true → more ≡ new ++ (chain_page_in page).records
    → IfSome told (λ image. Continues image sectors (whole image) most (named ++ pointer.sector ∷ []) old more (next_in page))
told_step None sectors most whole named old new more pointer page so some is_open gives digest form taken = tt
told_step (Some image) sectors most whole named old new more pointer page so some is_open gives digest form taken =
    record {
      records = so.records ++ (chain_page_in page).records;
      appended = taken ∙ ap (λ (r : List (List ℕ)). r ++ (chain_page_in page).records) so.appended
          ∙ append_assoc old so.records (chain_page_in page).records;
      same =
          so.same
          ∙ ap (λ b. behind_records so.records
          (if b then Some (record { named = named; records = [] }) else further
          (is_open_to sectors named pointer.sector && holds_page image pointer) (sector_at image pointer.sector))) some
          ∙ ap (λ b. behind_records so.records (further b (sector_at image pointer.sector))) belongs
          ∙ ap (λ (bytes : List ℕ). behind_records so.records (further true bytes)) gives
          ∙ behind_twice so.records (chain_page_in page).records (walk most image sectors (named ++ pointer.sector ∷ []) (next_in page));
    }
  where
    further : Bool → List ℕ → Option Walked
    further b bytes =
        if b then behind_records (chain_page_in bytes).records (walk most image sectors (named ++ pointer.sector ∷ []) (next_in bytes))
        else None

    both : (a b c : Bool) → a ≡ true → b ≡ true → c ≡ true → (a && (b && c)) ≡ true
    both true true true p q r = refl
    both true true false p q r = absurd (cc r)
    both true false c p q r = absurd (cc q)
    both false b c p q r = absurd (cc p)

    belongs : (is_open_to sectors named pointer.sector && holds_page image pointer) ≡ true
    belongs =
        both _ _ _ is_open (ap (λ (bytes : List ℕ). bytes_eq (sha256 bytes) pointer.digest) gives ∙ digest) (ap is_chain_page gives ∙ form)

-- a page in a sector where none may lie, or without its digest, or without the form, is damage
pub told_closed : (told : Option Image) (sectors : ℕ) (named : List ℕ) (pointer : PagePtr) → is_open_to sectors named pointer.sector ≡ false
    → IfSome told (λ image. (is_open_to sectors named pointer.sector && holds_page image pointer) ≡ false)
told_closed None sectors named pointer closed = tt
told_closed (Some image) sectors named pointer closed = ap (λ b. b && holds_page image pointer) closed

pub told_wrong : (told : Option Image) (sectors : ℕ) (named : List ℕ) (pointer : PagePtr) (page : List ℕ) → Gives told pointer.sector page
    → (bytes_eq (sha256 page) pointer.digest && is_chain_page page) ≡ false
    → IfSome told (λ image. (is_open_to sectors named pointer.sector && holds_page image pointer) ≡ false)
told_wrong None sectors named pointer page gives wrong = tt
told_wrong (Some image) sectors named pointer page gives wrong =
    either (is_open_to sectors named pointer.sector) _
    (ap (λ (bytes : List ℕ). bytes_eq (sha256 bytes) pointer.digest && is_chain_page bytes) gives ∙ wrong)
  where
    either : (a b : Bool) → b ≡ false → (a && b) ≡ false
    either true b p = p
    either false b p = refl

-- a page of a chain has no more records than there is room for
pub count_within : (page : List ℕ) → is_chain_page page ≡ true → count_in page ≤ page_records
unfolding is_chain_page
count_within page form = third _ (nat_le 1 (count_in page)) _ _ (count_in page) page_records refl form
  where
    third : (a b c d : Bool) (x y : ℕ) → c ≡ nat_le x y → (a && b && c && d) ≡ true → x ≤ y
    third a b c d x y same all =
        let parts = and_parts (a && b && c) d all in
        below x y (sym same ∙ (and_parts (a && b) c parts.0).1)
      where
        below : (m n : ℕ) → nat_le m n ≡ true → m ≤ n
        below m n le = grind (arith, nat_tests, le)

-- the two tests of a page
pub page_digest : (a b : Bool) → (a && b) ≡ true → a ≡ true
page_digest a b all = (and_parts a b all).0

pub page_form : (a b : Bool) → (a && b) ≡ true → b ≡ true
page_form a b all = (and_parts a b all).1
