use Rattle.std.proofs.Common.{◌≡◌, map}
use Rattle.sal_module.specs.Imports.{reaches, plain}
use Rattle.sal_module.proofs.reach.reaching.Given as goal

abbrev pub invariant-loop-i : goal.invariant-loop-i
invariant-loop-i l = l.marks.items ≡ map (reaches (plain l.edges) l._i l.target) (plain l.edges)
