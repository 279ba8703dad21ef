-- The texts are computed.
use Rattle.std.proofs.Common.{refl}
use Rattle.sal_shapes.specs.Labels.{path_last}
use Rattle.sal_shapes.proofs.examples.labels_say_what_happened.Goals as goal

pub returns-clause-done : goal.returns-clause-done
returns-clause-done c = refl

pub returns-clause-told : goal.returns-clause-told
returns-clause-told c = refl

pub returns-clause-path : goal.returns-clause-path
unfolding path_last
returns-clause-path c = refl
