-- The texts are computed.
use Rattle.std.proofs.Common.{refl}
use Rattle.std.specs.Fmt.{digits}
use Rattle.sal_shapes.proofs.examples.shapes_are_elements.Goals as goal

pub returns-clause-line : goal.returns-clause-line
unfolding digits
returns-clause-line c = refl

pub returns-clause-area : goal.returns-clause-area
unfolding digits
returns-clause-area c = refl

pub returns-clause-point : goal.returns-clause-point
unfolding digits
returns-clause-point c = refl

pub returns-clause-words : goal.returns-clause-words
unfolding digits
returns-clause-words c = refl
