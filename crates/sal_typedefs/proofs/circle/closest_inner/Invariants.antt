-- The blocks that are left.
use Rattle.std.proofs.Common.{◌≡◌, ◌≤◌, take, length}
use Rattle.std.specs.Prelude.{find, reverse}
use Rattle.sal_module.specs.declared.keyword.Keyword.TheVariants as word
use Rattle.sal_module.specs.Statements.{is_named}
use Rattle.sal_typedefs.proofs.circle.closest_inner.Given as goal

abbrev pub invariant-closest : goal.invariant-closest
invariant-closest l = (l.n ≤ length l.list) × (find (is_named word.Typedef) (reverse l.list) ≡ find (is_named word.Typedef) (reverse (take l.n l.list)))

abbrev pub decreases-closest : goal.decreases-closest
decreases-closest l = l.n
