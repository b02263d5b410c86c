-- A page of a chain is read back from its bytes.
use Rattle.std.proofs.Common.{◌≡◌, ℕ, suc, ◌+◌, ◌-◌, ◌*◌, ◌≤◌, ◌<◌, Bool, true, false, ◌&&◌, ◌||◌, ◌==◌, List, [], ◌∷◌, ◌++◌, length, take, drop, refl, sym, ap, ◌∙◌, ⊎_elim, append_assoc, arith}
use Rattle.std.specs.Prelude.{nat_le}
use Rattle.std.specs.List.{concat, AllByRecursion}
use Rattle.std.proofs.lemmas.Bool.{and_from}
use Rattle.std.proofs.lemmas.Bool.Decides.{nat_tests}
use Rattle.std.proofs.lemmas.List.{length-append, take_at, drop_at, drop-drop}
use Rattle.std.proofs.lemmas.Slice.Eq.{bytes_eq-Decides}
use Rattle.ddt_entry.specs.Bytes.{bytes_at, number_bytes, zeros}
use Rattle.ddt_entry.proofs.Bytes.{length-number_bytes, length-zeros, bytes_at-behind, number_at-is}
use Rattle.page_tree.specs.Pointers.{null_pointer, pointer_bytes, pointer_in}
use Rattle.page_tree.specs.Chains.{ChainPage, chain_text, record_len, page_records, is_null, parts_in, count_in, next_in, is_chain_page, chain_page_in}
use Rattle.page_tree.specs.ChainWrites.{FitsPage, chain_head, chain_page_bytes}
use Rattle.page_tree.specs.declared.pointer.PagePtr.{PagePtr}
use Rattle.page_tree.proofs.PointerLaws.{length-pointer_bytes, pointer_in-pointer_bytes}

-- records of 72 bytes are cut again from their joint bytes
pub parts_in-concat : (records : List (List ℕ)) (rest : List ℕ) → AllByRecursion (λ bytes. length bytes ≡ record_len) records
    → parts_in (length records) record_len (concat records ++ rest) ≡ records
parts_in-concat [] rest all = refl
parts_in-concat (bytes ∷ records) rest all =
    let grouped : concat (bytes ∷ records) ++ rest ≡ bytes ++ (concat records ++ rest) = append_assoc bytes (concat records) rest in
    ap (λ (all_bytes : List ℕ). take record_len all_bytes ∷ parts_in (length records) record_len (drop record_len all_bytes)) grouped
    ∙ ap (λ (first : List ℕ). first ∷ parts_in (length records) record_len (drop record_len (bytes ++ (concat records ++ rest))))
    (take_at bytes (concat records ++ rest) record_len all.0)
    ∙ ap (λ (behind : List ℕ). bytes ∷ parts_in (length records) record_len behind)
    (drop_at bytes (concat records ++ rest) record_len all.0)
    ∙ ap (λ (rs : List (List ℕ)). bytes ∷ rs) (parts_in-concat records rest all.1)

pub length-concat : (records : List (List ℕ)) → AllByRecursion (λ bytes. length bytes ≡ record_len) records
    → length (concat records) ≡ record_len * length records
length-concat [] all = refl
length-concat (bytes ∷ records) all = omega (arith, length-append bytes (concat records), all.0, length-concat records all.1)

abbrev page_of : PagePtr → List (List ℕ) → ChainPage
page_of next records = record { next = next; records = records }

same_page : (next next' : PagePtr) (records records' : List (List ℕ)) → next ≡ next' → records ≡ records'
    → page_of next records ≡ page_of next' records'
same_page next next' records records' a b = ap (λ (n : PagePtr). page_of n records) a ∙ ap (page_of next') b

module _ (page : ChainPage) (fits : FitsPage page) where
  number : List ℕ
  number = number_bytes 4 (length page.records)

  pointer : List ℕ
  pointer = pointer_bytes page.next

  behind : List ℕ
  behind = concat page.records ++ zeros (4048 - record_len * length page.records)

  grouped : chain_page_bytes page ≡ chain_text ++ (number ++ (pointer ++ behind))
  unfolding chain_page_bytes chain_head number pointer behind
  grouped = simp append_assoc refl

  pub length-chain_page_bytes : length (chain_page_bytes page) ≡ 4096
  unfolding number pointer behind
  length-chain_page_bytes =
      ap length grouped
      ∙ omega (
        arith,
        length-append number (pointer ++ behind),
        length-append pointer behind,
        length-append (concat page.records) (zeros (4048 - record_len * length page.records)),
        length-number_bytes 4 (length page.records),
        length-pointer_bytes page.next fits.next,
        length-concat page.records fits.records,
        length-zeros (4048 - record_len * length page.records),
        fits.room,
      )

  text_back : take 4 (chain_page_bytes page) ≡ chain_text
  text_back = ap (take 4) grouped ∙ take_at chain_text (number ++ (pointer ++ behind)) 4 refl

  count_back : count_in (chain_page_bytes page) ≡ length page.records
  unfolding count_in number
  count_back =
      number_at-is 4 4 (length page.records) (chain_page_bytes page)
      (ap (bytes_at 4 4) grouped
      ∙ bytes_at-behind chain_text number (pointer ++ behind) 4 4 refl (length-number_bytes 4 (length page.records)))
      (omega (arith, fits.room))

  next_back : next_in (chain_page_bytes page) ≡ page.next
  unfolding next_in pointer number
  next_back =
      ap pointer_in (ap (drop 8) (grouped ∙ sym (append_assoc chain_text number (pointer ++ behind)))
      ∙ drop_at (chain_text ++ number) (pointer ++ behind) 8
      (omega (arith, length-append chain_text number, length-number_bytes 4 (length page.records))))
      ∙ pointer_in-pointer_bytes page.next behind fits.next

  records_back : drop 48 (chain_page_bytes page) ≡ behind
  unfolding pointer number
  records_back =
      ap (drop 48) (grouped ∙ sym (append_assoc chain_text number (pointer ++ behind))
      ∙ sym (append_assoc (chain_text ++ number) pointer behind))
      ∙ drop_at (chain_text ++ number ++ pointer) behind 48
      (omega (
        arith,
        length-append (chain_text ++ number) pointer,
        length-append chain_text number,
        length-number_bytes 4 (length page.records),
        length-pointer_bytes page.next fits.next,
      ))

  pub chain_page_in-chain_page_bytes : chain_page_in (chain_page_bytes page) ≡ page
  unfolding behind
  chain_page_in-chain_page_bytes =
      same_page _ page.next _ page.records next_back
      (ap (λ n. parts_in n record_len (drop 48 (chain_page_bytes page))) count_back
      ∙ ap (parts_in (length page.records) record_len) records_back
      ∙ parts_in-concat page.records (zeros (4048 - record_len * length page.records)) fits.records)

  pub is_chain_page-chain_page_bytes : is_chain_page (chain_page_bytes page) ≡ true
  unfolding is_chain_page
  is_chain_page-chain_page_bytes =
      four _ _ _ _
      ((bytes_eq-Decides (take 4 (chain_page_bytes page)) chain_text).1 text_back)
      (ap (nat_le 1) count_back ∙ at_least 1 (length page.records) fits.some)
      (ap (λ n. nat_le n page_records) count_back ∙ at_least (length page.records) page_records fits.room)
      (⊎_elim
      (λ (last : page.next ≡ null_pointer). first_of _ _ (ap is_null (next_back ∙ last) ∙ refl))
      (λ (full : length page.records ≡ page_records). second_of _ _ (ap (λ n. n == page_records) (count_back ∙ full)))
      fits.full)
    where
      four : (a b c d : Bool) → a ≡ true → b ≡ true → c ≡ true → d ≡ true → (a && b && c && d) ≡ true
      four a b c d p q r s = and_from (a && b && c) d (and_from (a && b) c (and_from a b p q) r) s

      at_least : (x y : ℕ) → x ≤ y → nat_le x y ≡ true
      at_least x y le = grind (arith, nat_tests, le)

      first_of : (a b : Bool) → a ≡ true → (a || b) ≡ true
      first_of true b p = refl
      first_of false b p = absurd (cc p)

      second_of : (a b : Bool) → b ≡ true → (a || b) ≡ true
      second_of true b p = refl
      second_of false b p = p

-- one more record of those that are left
pub parts_in-more : (count i : ℕ) (page : List ℕ) → i < count
    → parts_in (count - i) record_len (drop (48 + 72 * i) page) ≡ bytes_at record_len (48 + 72 * i) page ∷ parts_in
    (count - (i + 1)) record_len (drop (48 + 72 * (i + 1)) page)
unfolding bytes_at
parts_in-more count i page within =
    ap (λ n. parts_in n record_len (drop (48 + 72 * i) page)) one_less
    ∙ ap (λ (behind : List ℕ). take record_len (drop (48 + 72 * i) page) ∷ parts_in (count - (i + 1)) record_len behind)
    (drop-drop record_len (48 + 72 * i) page ∙ ap (λ n. drop n page) (omega arith))
  where
    one_less : count - i ≡ suc (count - (i + 1))
    one_less = omega (arith, within)

-- a record that was pushed stands in front of those behind it
pub pushed : (items new : List (List ℕ)) (value : List ℕ) (behind : List (List ℕ)) → new ≡ items ++ value ∷ []
    → new ++ behind ≡ items ++ value ∷ behind
pushed items new value behind is = ap (λ (all : List (List ℕ)). all ++ behind) is ∙ append_assoc items (value ∷ []) behind
