-- Worked examples of checked reads: two clients that each read the leaf which the other one puts.
use Rattle.std.specs.Prelude.{ℕ, true, List, [], ◌∷◌}
use Prim.Native.String.{String}
use Rattle.sal_rows.specs.declared.outcome.Mode.{Mode}
use Rattle.sal_script.specs.Examples.{a, b, plain_script, put, read, run, crossed}
use Rattle.sal_script.specs.Moves.{Move, Begin, Submit, Settle}
use Rattle.sal_script.specs.Script.{Parts}

-- a script over `plain` with checked reads
abbrev pub checked_script : List (List Move) → List ℕ → Parts
checked_script clients order = record (plain_script clients order) { checked = true }

-- a client that reads one leaf and puts another one
abbrev pub reads_and_puts : Mode → String → String → List Move
reads_and_puts mode from to = Begin 0 0 mode ∷ read 0 from ∷ put to "x" ∷ Submit 0 ∷ Settle 0 ∷ []

-- both begin and read before the first one submits
abbrev pub skew : Mode → List ℕ
skew mode = run (reads_and_puts mode a b ∷ reads_and_puts mode b a ∷ []) crossed

abbrev pub checked_report : String
checked_report =
    "order 0 1 0 0 1 1\n0 0 begun 0\n0 1 absent\n0 2 ok\n0 3 receipt 1\n0 4 done 1\n1 0 begun 0\n1 1 absent\n1 2 ok\n1 3 receipt 2\n1 4 conflict config \"/plain:box/b\" created 1\ntree 0 1 {\"plain:box\":{\"b\":\"x\"}} {}\n"

abbrev pub unchecked_report : String
unchecked_report =
    "order 0 1 0 0 1 1\n0 0 begun 0\n0 1 absent\n0 2 ok\n0 3 receipt 1\n0 4 done 1\n1 0 begun 0\n1 1 absent\n1 2 ok\n1 3 receipt 2\n1 4 done 2\ntree 0 2 {\"plain:box\":{\"a\":\"x\",\"b\":\"x\"}} {}\n"
