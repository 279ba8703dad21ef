-- A count that rose in a part of a longer run rose in the whole of it.
use Rattle.std.proofs.Common.{Bool, true, le_refl, ◌≡◌, ℕ, ◌≤◌, Result, Ok, Err, arith}
use Rattle.sal_io.specs.Causes.{HasCause, Rose, next_count}
use Rattle.sal_io.specs.Memory.{Calls, called}

-- the run began earlier
pub Rose-earlier : (before middle now : ℕ) → before ≤ middle → Rose middle now → Rose before now
Rose-earlier before middle now later rose = omega arith

-- the run went on
pub Rose-later : (before middle now : ℕ) → Rose before middle → middle ≤ now → Rose before now
Rose-later before middle now rose later = omega arith

-- a 64-bit count that goes up by one, and stops at its last value, rose
pub Rose-next_count : (before : ℕ) → Rose before (next_count before)
Rose-next_count before = omega arith

-- a last call after a run that had no fault
pub HasCause-earlier : {T E : Type 0} (before middle now : ℕ) (result : Result T E) → before ≤ middle → HasCause middle now result → HasCause before now result
HasCause-earlier before middle now (Ok value) later cause = record { later = omega arith; failed = tt }
HasCause-earlier before middle now (Err error) later cause = record { later = omega arith; failed = Rose-earlier before middle now later cause.failed }

-- a call in memory that failed and was counted
pub HasCause-called : {T E : Type 0} (before after : Calls) (failed : Bool) (error : E) → failed ≡ true → after ≡ called before failed → before.failed ≤ after.failed
    → HasCause {T = T} {E = E} before.failed after.failed (Err error)
HasCause-called before after failed error refused counted later = record { later = later; failed = rw (counted, refused) (le_refl _) }
