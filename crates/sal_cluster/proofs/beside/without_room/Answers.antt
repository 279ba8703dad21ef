-- The fault of the stream stays; without one nothing is taken.
use Rattle.std.proofs.Common.{inl, inr, sym, refl, ◌∙◌}
use Rattle.sal_follow.proofs.Feeding.{fed-failed}
use Rattle.sal_cluster.proofs.beside.without_room.Goals as goal

pub returns-in-Some : goal.returns-in-Some
returns-in-Some c piece = inl (fed-failed c.args.follower.now c.in-Some.fault piece (sym c.fault.ensures ∙ c.in-Some.is))

pub returns-in-None : goal.returns-in-None
returns-in-None c piece = inr (refl, refl, sym c.fault.ensures ∙ c.in-None.is)
