-- Laws of gates.
use Rattle.std.proofs.Common.{◌≡◌, ℕ, ◌+◌, true, false, List, length, take, refl, ap, ◌∙◌, arith}
use Rattle.std.specs.Str.{bytes_eq}
use Rattle.std.proofs.lemmas.List.{take-replicate, length-append}
use Rattle.ddt_entry.specs.Bytes.{zeros}
use Rattle.ddt_entry.proofs.Bytes.{length-zeros}
use Rattle.uber_ring.specs.Seals.{open_text, is_open}
use Rattle.uber_ring.specs.Spelling.{open_gate, closed_gate}

pub opens : is_open open_gate ≡ true
unfolding is_open open_gate
opens = refl

front_of_zeros : (n : ℕ) → take 8 (zeros (8 + n)) ≡ zeros 8
unfolding zeros
front_of_zeros n = take-replicate 8 (8 + n) 0 (omega arith)

no_text : bytes_eq (zeros 8) open_text ≡ false
unfolding zeros
no_text = refl

pub closes : is_open closed_gate ≡ false
unfolding is_open closed_gate
closes = ap (λ (xs : List ℕ). bytes_eq xs open_text) (front_of_zeros 4088) ∙ no_text

pub length-open_gate : length open_gate ≡ 4096
unfolding open_gate
length-open_gate = omega (arith, length-append open_text (zeros 4088), length-zeros 4088)

pub length-closed_gate : length closed_gate ≡ 4096
unfolding closed_gate
length-closed_gate = length-zeros 4096
