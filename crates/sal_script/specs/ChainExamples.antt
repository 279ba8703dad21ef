-- Worked examples of chains, pumps and marks: the steps of clients, and whole reports.
use Rattle.std.specs.Prelude.{List, [], ◌∷◌, codes}
use Prim.Native.String.{String}
use Rattle.sal_types.specs.declared.value.Store.TheVariants.{Config}
use Rattle.sal_rows.specs.declared.outcome.Mode.TheVariants.{Ro, Rw}
use Rattle.serde_json.specs.Data.{string}
use Rattle.sal_script.specs.Moves.{Move, Put, Read, Submit, OpenChain, ChainBegin, CloseChain, Pump, Mark, After}
use Rattle.sal_script.specs.Examples.{a}

-- a chain whose second transaction begins while the first is pending, and reads what that one wrote
abbrev pub on_pending : List Move
on_pending =
    OpenChain 3 0 ∷ ChainBegin 3 0 Rw ∷ Put 0 Config (codes a) (string (codes "x")) ∷ Submit 0 ∷ ChainBegin 3 1 Ro ∷ Read 1 Config (codes a) ∷ []

abbrev pub on_pending_report : String
on_pending_report = "order 0 0 0 0\n0 0 chain 1\n0 1 begun 0\n0 2 ok\n0 3 receipt 1\n0 4 begun 0 on 1\n0 5 data \"x\"\ntree 0 0 {} {}\n"

-- A chain that begins while its transaction is open, is closed, and begins and closes again; its open transaction is submitted.
-- Its slot is never emptied, and another chain slot is empty.
abbrev pub closes : List Move
closes =
    OpenChain 0 0 ∷ ChainBegin 0 0 Rw ∷ ChainBegin 0 1 Ro ∷ CloseChain 0 ∷ ChainBegin 0 1 Ro ∷ CloseChain 0 ∷ Submit 0 ∷ ChainBegin 1 1 Ro ∷ CloseChain 1 ∷ OpenChain 1 1 ∷ CloseChain 1 ∷ []

abbrev pub closes_report : String
closes_report =
    "order 0 0 0 0 0 0 0 0\n0 0 chain 1\n0 1 begun 0\n0 2 refused previous-open\n0 3 ok\n0 4 refused chain-closed\n0 5 refused chain-closed\n0 6 receipt 1\n0 7 refused empty-slot\n0 8 refused empty-slot\n0 9 refused no-domain 1\n0 10 refused empty-slot\ntree 0 0 {} {}\n"

-- a client that looks for a mark before and after another sets it
abbrev pub looks : List Move
looks = After 7 ∷ After 7 ∷ []

abbrev pub leaves : List Move
leaves = Pump ∷ Mark 7 ∷ []

abbrev pub marks_report : String
marks_report = "order 0 1 1 0\n0 0 late\n0 1 found\n1 0 nothing\n1 1 ok\ntree 0 0 {} {}\n"
