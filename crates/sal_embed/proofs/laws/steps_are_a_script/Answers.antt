-- The law is a lemma.
use Rattle.sal_embed.proofs.Script.{are_a_script}
use Rattle.sal_embed.proofs.laws.steps_are_a_script.Goals as goal

pub returns : goal.returns
returns c = are_a_script c.args.broker.now
