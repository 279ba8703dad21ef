use Rattle.sal_types.specs.declared.value.Store.TheVariants.{Config, Oper}
use Rattle.sal_commit.proofs.trees.first_breach.Goals as goal

pub invalid-requires-clause-sound : goal.invalid-requires-clause-sound
invalid-requires-clause-sound c = c.requires.sound Config

pub invalid-requires-clause-stamps : goal.invalid-requires-clause-stamps
invalid-requires-clause-stamps c = c.requires.stamps Config

pub invalid-requires-2-clause-sound : goal.invalid-requires-2-clause-sound
invalid-requires-2-clause-sound c = c.requires.sound Oper

pub invalid-requires-2-clause-stamps : goal.invalid-requires-2-clause-stamps
invalid-requires-2-clause-stamps c = c.requires.stamps Oper
