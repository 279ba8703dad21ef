-- The parts of a conjunction that is true.
use Rattle.std.proofs.Common.{Bool, true, false, ◌&&◌}
use Rattle.std.specs.Prelude.{T}

pub first : (a b : Bool) → T (a && b) → T a
first true b h = tt
first false b h = h

pub second : (a b : Bool) → T (a && b) → T b
second true b h = h
second false b h = absurd h

pub both : (a b : Bool) → T a → T b → T (a && b)
both true b g h = h
both false b g h = g
