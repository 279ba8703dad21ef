-- The digits are computed.
use Rattle.std.proofs.Common.{refl}
use Rattle.std.specs.Fmt.{digits}
use Rattle.sal_order.proofs.examples.other_lines_tell_none.Goals as goal

pub returns-clause-zeros : goal.returns-clause-zeros
unfolding digits
returns-clause-zeros c = refl

pub returns-clause-spaces : goal.returns-clause-spaces
unfolding digits
returns-clause-spaces c = refl

pub returns-clause-space : goal.returns-clause-space
unfolding digits
returns-clause-space c = refl

pub returns-clause-great : goal.returns-clause-great
unfolding digits
returns-clause-great c = refl

pub returns-clause-carriage : goal.returns-clause-carriage
unfolding digits
returns-clause-carriage c = refl
