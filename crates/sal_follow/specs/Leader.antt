-- A follower has its leader's trees.
use Rattle.std.specs.Prelude.{◌≡◌, ◌⊎◌, ℕ, List, ◌++◌, Option, None, Result, Ok, Err}
use Rattle.std.specs.List.{All}
use Rattle.sal_follow.specs.declared.fault.FollowFault.{FollowFault}
use Rattle.sal_follow.specs.declared.fault.FollowFault.TheVariants.{NoMemory}
use Rattle.sal_follow.specs.Framed.{Trees, stream_of, streamed, too_long, AreTexts}
use Rattle.sal_follow.specs.Laws.{AreFollowed, HoldsOneOf}
use Rattle.sal_follow.specs.States.{Following}
use Rattle.sal_follow.specs.Stream.{fresh_at, followed}

-- If the bytes so far, with the piece, are a prefix of a stream of a leader's commits by the follower's schema, the follower has the
-- leader's trees at the commit that it returns, unless memory ran out. The stream begins with the number that the follower begins with.
abbrev pub KeepsUp : List ℕ → Following → Following → Result (Option ℕ) FollowFault → Type 0
KeepsUp piece old new result =
    (first : ℕ) (trees : List Trees) (before more : List ℕ) → All (AreFollowed old.schema) trees → AreTexts old.schema (stream_of first trees) → too_long old.schema (stream_of first trees) ≡ None
    → old.held ≡ followed old.schema (fresh_at first) before → (before ++ piece) ++ more ≡ streamed old.schema first trees
    → (result ≡ Err NoMemory) ⊎ (HoldsOneOf first trees new.held × (result ≡ Ok new.held.version))
