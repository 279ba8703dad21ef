-- The numbers of a load: the same in each order of its clients' calls, and so the same text.
use Rattle.std.specs.Prelude.{◌≡◌, ℕ, ◌*◌, ◌≤◌, List, Ok}
use Rattle.sal_script.specs.Load.{Totals, clients_of, summary_of, totals_of}
use Rattle.sal_script.specs.LoadOrder.{IsSummaryInSomeOrder}
use Rattle.sal_script.specs.Play.{Played, play}
use Rattle.sal_script.specs.Report.{trees_in}
use Rattle.sal_script_laws.specs.Rounds.{load_world, sum_after}

-- Three calls, a commit and three rows for each round of each of the four clients; and the numbers after the start, each once.
abbrev pub load_totals : ℕ → ℕ → Totals
load_totals rounds start = record { calls = 12 * rounds; commits = 4 * rounds; rows = 12 * rounds; values = sum_after start (4 * rounds) }

-- the summary with these numbers
abbrev pub load_text : ℕ → ℕ → List ℕ
load_text rounds start = summary_of rounds start (load_totals rounds start)

-- In each order a load gives these numbers.
abbrev pub LoadsComeToOne : Type 0
LoadsComeToOne =
    (rounds start : ℕ) (order : List ℕ) (played : Played) → rounds ≤ 10000 → start ≤ 65536
    → play load_world (clients_of rounds start) order ≡ Ok played
    → totals_of played.log (trees_in load_world played.log 0) ≡ load_totals rounds start

-- So the summary of a load in any order is this text.
abbrev pub SummariesAreOne : Type 0
SummariesAreOne =
    (rounds start : ℕ) (text : List ℕ) → rounds ≤ 10000 → start ≤ 65536
    → IsSummaryInSomeOrder load_world rounds start text → text ≡ load_text rounds start
