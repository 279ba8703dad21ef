-- How reading and writing a whole text change the known bytes of a source or a sink.
-- `None` means that the bytes are not known; each relation then holds.
use Rattle.std.specs.Prelude.{ℕ, ◌+◌, ◌≤◌, List, ◌++◌, ◌≡◌, length, Result, Ok, Err, Vec}
use Rattle.std.specs.Io.KnownBytes.{Consumes, Appends, IsAtEnd}
use Rattle.std.specs.declared.option.Option.{Option}
use Rattle.std.specs.declared.alloc.Global.{Global}
use Rattle.sal_io.specs.declared.fault.ReadFail.{ReadFail}
use Rattle.sal_io.specs.declared.fault.ReadFail.TheVariants.{ReadFault, TooLong, NoMemory}

-- some bytes with P were taken from the front of the remaining ones
pub record TakesSome (before after : Option (List ℕ)) (P : List ℕ → Type 0) : Type 0 where
  pub bytes : List ℕ
  pub taken : Consumes before after bytes
  pub fit : P bytes

-- all remaining bytes were taken, and they are these
pub record TakesAll (before after : Option (List ℕ)) (bytes : List ℕ) : Type 0 where
  pub taken : Consumes before after bytes
  pub ended : IsAtEnd after

-- the bytes taken from a source, by the answer to "read all, at most `limit` bytes": one more than the limit exactly at TooLong
abbrev pub TakenBy : Option (List ℕ) → Option (List ℕ) → ℕ → Result (Vec ℕ Global) ReadFail → Type 0
TakenBy before after limit (Ok bytes) = TakesAll before after bytes.items × (length bytes.items ≤ limit)
TakenBy before after limit (Err ReadFault) = TakesSome before after (λ bytes. length bytes ≤ limit)
TakenBy before after limit (Err TooLong) = TakesSome before after (λ bytes. length bytes ≡ limit + 1)
TakenBy before after limit (Err NoMemory) = TakesSome before after (λ bytes. length bytes ≤ limit)

-- the sink took a prefix of these bytes, and this rest of them remains
pub record TakesFront (before after : Option (List ℕ)) (bytes rest : List ℕ) : Type 0 where
  pub front : List ℕ
  pub whole : bytes ≡ front ++ rest
  pub taken : Appends before after front
