-- A stand-by keeps up with its leader, as its follower does.
use Rattle.std.proofs.Common.{◌≡◌, ℕ, inl, inr, List, Option, Result, Ok, Err, refl, ap}
use Rattle.std.specs.Prelude.{⊤}
use Rattle.sal_follow.specs.declared.fault.FollowFault.{FollowFault}
use Rattle.sal_follow.specs.declared.fault.FollowFault.TheVariants as follow
use Rattle.sal_follow.specs.Leader as of_follower
use Rattle.sal_follow.specs.States.{Following}
use Rattle.sal_follow.proofs.KeepingUp.{keeps_up}
use Rattle.sal_cluster.specs.StandBys.{KeepsUp, Takes}

same_fault : (a b : FollowFault) → (let r : Result (Option ℕ) FollowFault = Err a in r) ≡ Err b → a ≡ b
same_fault a b e = cc

by_follower : (piece : List ℕ) (old new : Following) (fault : FollowFault) → of_follower.KeepsUp piece old new (Err fault) → KeepsUp piece old new (Err fault)
by_follower piece old new fault keeps first trees before more all texts short came prefix =
    elim (keeps first trees before more all texts short came prefix) [
      | inl wanting ↦ inl (ap (λ (f : FollowFault). let r : Result ⊤ FollowFault = Err f in r) (same_fault fault follow.NoMemory wanting))
      | inr holds ↦ let no : (let r : Result (Option ℕ) FollowFault = Err fault in r) ≡ Ok new.held.version = holds.1 in cc
    ]

pub keeps : (piece : List ℕ) (old new : Following) (result : Result ⊤ FollowFault) → Takes piece old new result → KeepsUp piece old new result
keeps piece old new (Ok done) (v, feeds) first trees before more all texts short came prefix =
    elim (keeps_up piece old new (Ok v) feeds first trees before more all texts short came prefix) [
      | inl wanting ↦ let no : (let r : Result (Option ℕ) FollowFault = Ok v in r) ≡ Err follow.NoMemory = wanting in cc
      | inr holds ↦ inr (holds.0, refl)
    ]
keeps piece old new (Err fault) (inl feeds) first trees before more all texts short came prefix =
    by_follower piece old new fault (keeps_up piece old new (Err fault) feeds) first trees before more all texts short came prefix
keeps piece old new (Err fault) (inr (is, same, going)) first trees before more all texts short came prefix = inl (ap (λ (f : FollowFault). let r : Result ⊤ FollowFault = Err f in r) is)
