-- Worked examples of chains: client 0 has the chain, and client 1 makes other commits.
use Rattle.std.specs.Prelude.{List, [], ◌∷◌}
use Rattle.sal_rows.specs.declared.op.Op.{Op}
use Rattle.sal_rows.specs.declared.outcome.Mode.TheVariants.{Ro, Rw}
use Rattle.sal_history.specs.declared.call.Call.{Call}
use Rattle.sal_history.specs.declared.call.Call.TheVariants.{ChainBegin, OpenChain, Pump, Settle, Submit}
use Rattle.sal_history.specs.declared.call.Entry.{Entry}
use Rattle.sal_history.specs.Examples.{a, b, begin, by, put}

-- the chain's next transaction
abbrev pub chain : Call
chain = ChainBegin 1 Rw

-- the chain and its first transaction, which began at index 1
abbrev pub in_turn : List Entry
in_turn = by 0 (OpenChain 0) ∷ by 0 chain ∷ []

-- The chain's first submission puts leaf a; client 1 submits an operation; the chain's second transaction begins and submits
-- another operation; then all are decided.
abbrev pub chained : Op → Op → List Entry
chained foreign second =
    by 0 (OpenChain 0) ∷ by 0 chain ∷ by 0 (Submit 1 (put a "x" ∷ [])) ∷ by 1 begin ∷ by 1 (Submit 3 (foreign ∷ [])) ∷ by 0 chain ∷ by 0 (Submit 5 (second ∷ [])) ∷ by 0 (Settle 3) ∷ []

-- the chain puts one leaf twice, and client 1 the other
abbrev pub twice : List Entry
twice = chained (put b "y") (put a "z")

-- client 1 makes a commit before the chain's own and one after it
abbrev pub parted : List Entry
parted =
    by 0 (OpenChain 0) ∷ by 0 chain ∷ by 1 begin ∷ by 1 (Submit 2 (put b "1" ∷ [])) ∷ by 0 (Submit 1 (put a "x" ∷ [])) ∷ by 0 chain
    ∷ by 1 (Settle 1) ∷ by 1 begin ∷ by 1 (Submit 7 (put b "2" ∷ [])) ∷ by 1 (Settle 3) ∷ by 0 (Submit 5 (put a "y" ∷ [])) ∷ by 0 (Settle 4)
    ∷ by 0 (ChainBegin 1 Ro) ∷ by 0 Pump ∷ []

-- the chain's first submission conflicts with a commit of client 1; a second one follows it
abbrev pub fails : List Entry
fails =
    by 0 (OpenChain 0) ∷ by 0 chain ∷ by 1 begin ∷ by 1 (Submit 2 (put a "y" ∷ [])) ∷ by 1 (Settle 1) ∷ by 0 (Submit 1 (put a "x" ∷ []))
    ∷ by 0 chain ∷ by 0 (Submit 6 []) ∷ by 0 (Settle 3) ∷ by 0 (Settle 2) ∷ by 0 chain ∷ []
