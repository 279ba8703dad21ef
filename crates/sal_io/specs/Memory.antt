-- A source and a sink in memory, as contracts see them.
use Rattle.std.specs.Prelude.{ℕ, Bool, List, ◌==◌, if◌then◌else◌, ◌&&◌, ◌||◌, length, nat_lt}
use Rattle.std.specs.List.{list_any}
use Rattle.sal_io.specs.Causes.{next_count}

-- the numbers of the calls that fail, from 0; how many were made, and how many of these failed
pub record Calls : Type 0 where
  pub fails : List ℕ
  pub made : ℕ
  pub failed : ℕ

-- no call was made yet
abbrev pub uncalled : List ℕ → Calls
uncalled fails = record { fails = fails; made = 0; failed = 0 }

-- the next call fails
abbrev pub is_named : Calls → Bool
is_named calls = list_any (λ number. number == calls.made) calls.fails

-- after one more call; both counts stop at 2^64 - 1
abbrev pub called : Calls → Bool → Calls
called calls failed = record { fails = calls.fails; made = next_count calls.made; failed = if failed then next_count calls.failed else calls.failed }

-- a source in memory: its remaining bytes, and its calls
pub record SourceState : Type 0 where
  pub left : List ℕ
  pub calls : Calls

-- a sink in memory: the bytes taken, how many more it takes, and its calls
pub record SinkState : Type 0 where
  pub taken : List ℕ
  pub room : ℕ
  pub calls : Calls

-- a write of this piece fails: the call is one of those that fail, or nothing fits
abbrev pub refuses : SinkState → List ℕ → Bool
refuses sink piece = is_named sink.calls || (sink.room == 0 && nat_lt 0 (length piece))
