-- Each bit so far is one of the positions or not set.
use Rattle.std.proofs.Common.{◌≡◌, true}
use Rattle.sal_schema.specs.Values.{all_below, is_taken}
use Rattle.sal_schema.proofs.values.are_bits.Given as goal

abbrev pub invariant-loop-position : goal.invariant-loop-position
invariant-loop-position l = all_below (is_taken l.positions l.set) l.position ≡ true
