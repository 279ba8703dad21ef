use Rattle.sal_typedefs.proofs.PathLists.{predicate-none, predicate-some}
use Rattle.sal_typedefs.proofs.path.behind_predicate.Goals as goal

pub returns-in-None-clause-value : goal.returns-in-None-clause-value
returns-in-None-clause-value c = predicate-none c.args.text.now c.split_once.result c.split_once.ensures.cases c.in-None.is

pub returns-in-Some-clause-value : goal.returns-in-Some-clause-value
returns-in-Some-clause-value c = predicate-some c.args.text.now c.split_once.result c.split_once.ensures.cases _ c.in-Some.is
