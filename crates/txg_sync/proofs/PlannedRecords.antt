-- The keys of the entries that a class of the stored table has are keys of the stored table.
use Rattle.std.proofs.Common.{◌≡◌, Bool, List, All, filter, sym, ap, subst, ◌∙◌}
use Rattle.std.proofs.lemmas.List.Elements.{All-filter}
use Rattle.ddt_entry.specs.Spelling.{IsKeyLength}
use Rattle.ddt_entry.specs.declared.entry.Entry.{Entry}

-- the entries at hand are those of a copy that pass a test
pub class_lengths : (test : Entry → Bool) (zap copy class listed : List Entry) → copy ≡ zap → class ≡ filter test copy → listed ≡ class
    → All (λ entry. IsKeyLength entry.key.len) zap → All (λ entry. IsKeyLength entry.key.len) listed
class_lengths test zap copy class listed copied tested at_hand lengths =
    subst (λ (l : List Entry). All (λ entry. IsKeyLength entry.key.len) l) (sym (at_hand ∙ tested ∙ ap (filter test) copied))
    (All-filter test (λ entry. IsKeyLength entry.key.len) zap lengths)
