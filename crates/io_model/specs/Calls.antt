-- The calls of an object, counted, and those of them that it is told to fail.
use Rattle.std.specs.Prelude.{ℕ, List, Contains}
pub use Rattle.disk_model.specs.Faults.{one_more}

-- the numbers of the calls that are to fail, counted from 1; how many were made; how many of those failed
pub record Calls : Type 0 where
  pub listed : List ℕ
  pub made : ℕ
  pub failed : ℕ

-- before the first call
abbrev pub no_calls : List ℕ → Calls
no_calls listed = record { listed = listed; made = 0; failed = 0 }

-- the next call is one of those that are to fail
abbrev pub NextIsListed : Calls → Type 0
NextIsListed calls = Contains calls.listed (one_more calls.made)

-- after a call that didn't fail
abbrev pub one_call : Calls → Calls
one_call calls = record calls { made = one_more calls.made }

-- after a call that failed
abbrev pub one_fault : Calls → Calls
one_fault calls = record calls { made = one_more calls.made; failed = one_more calls.failed }
