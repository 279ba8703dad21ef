use Rattle.std.proofs.Common.{◌≡◌, drop, filter}
use Rattle.sal_module.specs.Statements.{is_named}
use Rattle.sal_module.specs.Profile.{standing_of}
use Rattle.sal_module.proofs.Levels.{after}
use Rattle.sal_module.proofs.profile.standing_of.Given as goal

abbrev pub invariant-loop-sub : goal.invariant-loop-sub
invariant-loop-sub l = standing_of (filter (is_named l.fn.keyword) l.subs) ≡ after l.seen (filter (is_named l.fn.keyword) (drop l.sub-index l.subs))
