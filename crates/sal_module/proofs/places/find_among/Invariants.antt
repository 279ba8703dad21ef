-- The statement is in this part, if it is anywhere.
use Rattle.std.proofs.Common.{◌≡◌, ◌+◌, ◌*◌, ◌^◌, ℕ, true, length}
use Rattle.sal_module.specs.Places.{find_first, find_at, all_before, is_in_order}
use Rattle.sal_module.proofs.places.find_among.Given as goal

abbrev pub invariant-halves : goal.invariant-halves
invariant-halves l =
    (find_first (find_at l.initial.levels l.at) l.stmts ≡ find_first (find_at l.levels l.at) l.part)
    × ((high : ℕ) × (all_before (is_in_order l.levels) high l.part ≡ true))

abbrev pub decreases-halves : goal.decreases-halves
decreases-halves l = l.levels * 2 ^ 64 + length l.part
