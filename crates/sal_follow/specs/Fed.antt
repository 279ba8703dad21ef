-- A follower whose first number and the number of bytes that it has received are at most `count` together.
use Rattle.std.specs.Prelude.{◌≡◌, ◌+◌, ◌≤◌, ℕ, List, length}
use Rattle.sal_follow.specs.States.{Following}
use Rattle.sal_follow.specs.Stream.{followed, fresh_at}

pub record IsFedBy (count : ℕ) (f : Following) : Type 0 where
  pub first : ℕ
  pub bytes : List ℕ
  pub few : first + length bytes ≤ count
  pub held : f.held ≡ followed f.schema (fresh_at first) bytes
