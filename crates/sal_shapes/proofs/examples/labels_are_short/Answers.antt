-- The texts are computed.
use Rattle.std.proofs.Common.{refl}
use Rattle.sal_shapes.specs.Labels.{shown}
use Rattle.sal_shapes.proofs.examples.labels_are_short.Goals as goal

pub returns-clause-whole : goal.returns-clause-whole
unfolding shown
returns-clause-whole c = refl

pub returns-clause-name : goal.returns-clause-name
returns-clause-name c = refl

pub returns-clause-number : goal.returns-clause-number
returns-clause-number c = refl

pub returns-clause-character : goal.returns-clause-character
returns-clause-character c = refl

pub returns-clause-steps : goal.returns-clause-steps
returns-clause-steps c = refl

pub returns-clause-module : goal.returns-clause-module
returns-clause-module c = refl

pub returns-clause-last : goal.returns-clause-last
returns-clause-last c = refl
