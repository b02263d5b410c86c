-- What one more call adds to what was written and read so far.
use Rattle.std.proofs.Common.{◌≡◌, ℕ, ◌+◌, ◌≤◌, List, ◌++◌, Option, length, take, drop, refl, sym, ap, ◌∙◌, subst, arith, append_assoc, take-append-drop, take_at}
use Rattle.std.proofs.lemmas.List.{length-append, drop-drop}
use Rattle.std.proofs.KnownBytes.{Appends-kept, Consumes-trans}
use Rattle.std.specs.Io.KnownBytes.{Appends, Consumes, Keeps}
use Rattle.io_model.specs.Outside.{TookFront, ConsumesUpTo}

-- a call that failed leaves a front taken
pub TookFront-kept : (old mid new : Option (List ℕ)) (text done rest : List ℕ) → text ≡ done ++ rest → Appends old mid done → Keeps mid new
    → TookFront old new text
TookFront-kept old mid new text done rest split written kept =
    let front : take (length done) text ≡ done = ap (take (length done)) split ∙ take_at done rest (length done) refl in
    let within : length done ≤ length text = omega (arith, ap length split, length-append done rest) in
    (length done, within, subst (Appends old new) (sym front) (Appends-kept old mid new done written kept))

-- a call that took n bytes of the rest moves them to the front
pub split_moved : (text done rest : List ℕ) (n : ℕ) → text ≡ done ++ rest → text ≡ (done ++ take n rest) ++ drop n rest
split_moved text done rest n split =
    split ∙ ap (λ l. done ++ l) (sym (take-append-drop n rest)) ∙ sym (append_assoc done (take n rest) (drop n rest))

-- two reads after one another, of no more bytes together
pub ConsumesUpTo-more : (old mid new : Option (List ℕ)) (bytes more : List ℕ) (most : ℕ) → Consumes old mid bytes → Consumes mid new more
    → length bytes + length more ≤ most → ConsumesUpTo old new most
ConsumesUpTo-more old mid new bytes more most first second within =
    (bytes ++ more, omega (arith, length-append bytes more), Consumes-trans old mid new bytes more first second)

-- n of the bytes that are left stand at the front of a buffer, and the others are left now
pub front_given : (all front behind : List ℕ) (given n : ℕ) → front ≡ take n (drop given all) → length front ≡ n
    → drop given all ≡ take n (front ++ behind) ++ drop (given + n) all
front_given all front behind given n copied count =
    let left = drop given all in
    let kept : take n (front ++ behind) ≡ take n left = take_at front behind n count ∙ copied in
    sym (take-append-drop n left) ∙ ap (λ l. take n left ++ l) (drop-drop n given all) ∙ ap (λ l. l ++ drop (given + n) all) (sym kept)
