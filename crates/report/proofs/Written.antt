-- Texts that are written one after another.
use Rattle.std.proofs.Common.{◌≡◌, ℕ, ◌+◌, ◌≤◌, ◌<◌, List, [], ◌++◌, Option, Result, Ok, Err, length, take, drop, slice_index_or, sym, ap, ◌∙◌, subst, arith, append_assoc, append-nil}
use Rattle.std.proofs.Math.Seq.{take-append-add}
use Rattle.std.proofs.lemmas.List.{length-append, take-append-le, drop_more}
use Rattle.std.specs.List.{flat_map}
use Rattle.std.proofs.KnownBytes.{Appends-trans}
use Rattle.std.specs.Io.KnownBytes.{Appends}
use Rattle.io_model.specs.Outside.{TookFront, Rose}
use Rattle.std.specs.Prelude.{IsErr}
use Rattle.report.specs.Writes.{Wrote}

-- a front of a front
pub TookFront-of_front : (old new : Option (List ℕ)) (front rest : List ℕ) → TookFront old new front → TookFront old new (front ++ rest)
TookFront-of_front old new front rest (n, within, taken) =
    (n, omega (arith, within, length-append front rest), subst (Appends old new) (sym (take-append-le n front rest within)) taken)

-- a front of what follows a text that was written whole
pub TookFront-behind : (old mid new : Option (List ℕ)) (front rest : List ℕ) → Appends old mid front → TookFront mid new rest
    → TookFront old new (front ++ rest)
TookFront-behind old mid new front rest written (n, within, taken) = (
  length front + n,
  omega (arith, within, length-append front rest),
  subst (Appends old new) (sym (take-append-add front rest n)) (Appends-trans old mid new front (take n rest) written taken),
)

-- a fault that came later came since before
Rose-since : (before mid now : ℕ) → before ≤ mid → Rose mid now → Rose before now
Rose-since before mid now later rose = omega (arith, later, rose)

-- a failure that is handed on
pub Wrote-failed : {S T E F : Type 0} {old new : Option (List ℕ)} {before now : ℕ} {text : List ℕ} {e : E} {result : Result T F}
    → IsErr result → Wrote {T = S} old new before now text (Err e) → Wrote old new before now text result
Wrote-failed {result = Ok x} failed cut = cc failed
Wrote-failed {result = Err f} failed cut = record
    { all = tt; front = cut.front; cause = record { later = cut.cause.later; rose = cut.cause.rose } }

-- what was cut in a text was cut in each text that begins with it
pub Wrote-longer : {T E : Type 0} {old new : Option (List ℕ)} {before now : ℕ} {text : List ℕ} {result : Result T E}
    → (rest : List ℕ) → IsErr result → Wrote old new before now text result → Wrote old new before now (text ++ rest) result
Wrote-longer {result = Ok x} rest failed cut = cc failed
Wrote-longer {old = old} {new = new} {text = text} {result = Err f} rest failed cut =
    record { all = tt; front = TookFront-of_front old new text rest cut.front; cause = cut.cause }

-- the same text, written in another way
pub Wrote-same : {T E : Type 0} {old new : Option (List ℕ)} {before now : ℕ} {text other : List ℕ} {result : Result T E}
    → text ≡ other → Wrote old new before now text result → Wrote old new before now other result
Wrote-same {old = old} {new = new} {before = before} {now = now} {result = result} same wrote = subst
    (λ l. Wrote old new before now l result) same wrote

-- a text that was written whole, and then another one or a front of it
pub Wrote-then : {S T E F : Type 0} {old mid new : Option (List ℕ)} {before between now : ℕ} {front rest : List ℕ} {x : S}
    {result : Result T F}
    → Wrote {E = E} old mid before between front (Ok x) → Wrote mid new between now rest result
    → Wrote old new before now (front ++ rest) result
Wrote-then {old = old} {mid = mid} {new = new} {before = before} {between = between} {now = now} {front = front} {rest = rest}
    {result = Ok y} first second =
    record { all = Appends-trans old mid new front rest first.all second.all; front = tt; cause = record { later = omega (arith, first.cause.later, second.cause.later); rose = tt } }
Wrote-then {old = old} {mid = mid} {new = new} {before = before} {between = between} {now = now} {front = front} {rest = rest}
    {result = Err f} first second = record {
      all = tt;
      front = TookFront-behind old mid new front rest first.all second.front;
      cause = record { later = omega (arith, first.cause.later, second.cause.later); rose = Rose-since before between now first.cause.later second.cause.rose };
    }

-- the next part of what is left, and what is left behind it
pub record Splits (left part rest : List ℕ) : Type 0 where
  pub parts : left ≡ part ++ rest

-- of a text the part that is left, and a front that was written
pub record Remains (old now : Option (List ℕ)) (before count : ℕ) (left whole : List ℕ) : Type 0 where
  pub done : List ℕ
  pub split : whole ≡ done ++ left
  pub written : Appends old now done
  pub later : before ≤ count

-- the next part was written
pub Remains-more : {S E : Type 0} {old mid new : Option (List ℕ)} {before between now : ℕ} {left part rest whole : List ℕ} {x : S}
    → Splits left part rest → Remains old mid before between left whole → Wrote {E = E} mid new between now part (Ok x)
    → Remains old new before now rest whole
Remains-more {old = old} {mid = mid} {new = new} {part = part} {rest = rest} next before wrote = record {
  done = before.done ++ part;
  split = before.split ∙ ap (λ l. before.done ++ l) next.parts ∙ sym (append_assoc before.done part rest);
  written = Appends-trans old mid new before.done part before.written wrote.all;
  later = omega (arith, before.later, wrote.cause.later);
}

-- the next part was cut
pub Remains-cut : {S T E F : Type 0} {old mid new : Option (List ℕ)} {before between now : ℕ} {left part rest whole : List ℕ} {e : E}
    {result : Result T F}
    → IsErr result → Splits left part rest → Remains old mid before between left whole → Wrote {T = S} mid new between now part (Err e)
    → Wrote old new before now whole result
Remains-cut {result = Ok x} failed next sofar cut = cc failed
Remains-cut {old = old} {mid = mid} {new = new} {before = before} {between = between} {now = now} {part = part} {rest = rest}
    {result = Err f} failed next sofar cut =
    let taken : TookFront old new (sofar.done ++ (part ++ rest)) =
    TookFront-behind old mid new sofar.done (part ++ rest) sofar.written (TookFront-of_front mid new part rest cut.front) in
    record {
      all = tt;
      front = subst (TookFront old new) (sym (sofar.split ∙ ap (λ l. sofar.done ++ l) next.parts)) taken;
      cause = record { later = omega (arith, sofar.later, cut.cause.later); rose = Rose-since before between now sofar.later cut.cause.rose };
    }

-- nothing is left
pub Remains-nothing : {E : Type 0} {old now : Option (List ℕ)} {before count : ℕ} {left whole : List ℕ}
    → left ≡ [] → Remains old now before count left whole → Wrote {T = Unit {0}} {E = E} old now before count whole (Ok tt)
Remains-nothing {old = old} {now = now} none sofar = record {
  all = subst (Appends old now) (sym (sofar.split ∙ ap (λ l. sofar.done ++ l) none ∙ append-nil sofar.done)) sofar.written;
  front = tt;
  cause = record { later = sofar.later; rose = tt };
}

-- what is left is the same by another name
pub Remains-same : {old now : Option (List ℕ)} {before count : ℕ} {left rest whole : List ℕ} → left ≡ rest
    → Remains old now before count left whole → Remains old now before count rest whole
Remains-same {old = old} {now = now} {before = before} {count = count} {whole = whole} same sofar = subst
    (λ l. Remains old now before count l whole) same sofar

-- what a function of each item prints of the items that are left
pub flat_map-splits : {X : Type 0} (f : X → List ℕ) (xs : List X) (i : ℕ) (default : X) → i < length xs
    → Splits (flat_map f (drop i xs)) (f (slice_index_or xs i default)) (flat_map f (drop (i + 1) xs))
flat_map-splits f xs i default within = record { parts = ap (flat_map f) (drop_more xs i default within) }
