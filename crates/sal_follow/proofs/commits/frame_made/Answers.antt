use Rattle.sal_types.specs.declared.value.Store.TheVariants.{Config, Oper}
use Rattle.sal_follow.proofs.commits.frame_made.Goals as goal

pub patches_made-requires-clause-made : goal.patches_made-requires-clause-made
patches_made-requires-clause-made c = c.requires.made Config

pub patches_made-requires-2-clause-made : goal.patches_made-requires-2-clause-made
patches_made-requires-2-clause-made c = c.requires.made Oper
