use Rattle.std.proofs.Common.{◌≡◌, ◌+◌, drop}
use Rattle.std.specs.Prelude.{not}
use Rattle.std.specs.Option.{option_map}
use Rattle.std.specs.List.{position_or_len}
use Rattle.sal_types.specs.declared.row.Row.{Row}
use Rattle.sal_data.specs.Written.{same_next, next_step}
use Rattle.sal_data.proofs.runs.run_len.Given as goal

abbrev pub invariant-loop-i : goal.invariant-loop-i
invariant-loop-i l =
    let differs = λ (row : Row). not (same_next (option_map (λ s. s.now) l.first) (next_step l.k row)) in
    position_or_len differs l.rows ≡ l.i + position_or_len differs (drop l.i l.rows)
