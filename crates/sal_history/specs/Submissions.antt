-- The submissions of a log by receipt, with their outcomes: which of them are commits, and which are of a chain.
use Rattle.std.specs.Prelude.{ℕ, Bool, true, false, not, ◌+◌, ◌&&◌, List, [], ◌∷◌, ◌++◌, length, map, Option, Some, None, if◌then◌else◌, nat_eq, nat_lt, option_and_then}
use Rattle.std.specs.Option.{option_or}
use Rattle.sal_types.specs.declared.value.Store.{Store}
use Rattle.sal_types.specs.declared.row.Row.{Row}
use Rattle.sal_rows.specs.declared.op.Op.{Op}
use Rattle.sal_rows.specs.declared.outcome.Outcome.{Outcome}
use Rattle.sal_rows.specs.declared.outcome.Outcome.TheVariants.{Done, Conflict, Invalid, ChainFailed, Unmounted}
use Rattle.sal_rows.specs.Apply.{apply_ops}
use Rattle.sal_rows.specs.Spans.{is_of_chain}

-- the base of a transaction: its domain, the number of its base commit, and the trees that it sees before
-- its own writes; and its chain
pub record Base : Type 0 where
  pub domain : ℕ
  pub commit : ℕ
  pub chain : Option ℕ
  pub trees : Store → List Row

-- a submission: its transaction's base, and its operations
pub record Sent : Type 0 where
  pub base : Base
  pub ops : List Op

-- the trees that the next submission of its chain sees: its base with its operations applied
abbrev pub view_of : Sent → Store → List Row
view_of s store = apply_ops (s.base.trees store) store s.ops

abbrev pub is_done : Outcome → Bool
is_done (Done commit) = true
is_done (Conflict store path kind commit) = false
is_done (Invalid store path rule) = false
is_done (ChainFailed receipt) = false
is_done (Unmounted domain) = false

-- the value if the submission with this outcome is done
abbrev pub if_done : {X : Type 0} → Outcome → X → List X
if_done outcome x = if is_done outcome then x ∷ [] else []

-- the commits of a domain: its submissions that were decided as done, in the order of their receipts
abbrev pub done : ℕ → List Sent → List Outcome → List Sent
done domain [] os = []
done domain (s ∷ ss) [] = []
done domain (s ∷ ss) (o ∷ os) = (if nat_eq s.base.domain domain then if_done o s else []) ++ done domain ss os

-- their operations
abbrev pub done_ops : ℕ → List Sent → List Outcome → List (List Op)
done_ops domain ss os = map (λ s. s.ops) (done domain ss os)

-- and their chains
abbrev pub done_chains : ℕ → List Sent → List Outcome → List (Option ℕ)
done_chains domain ss os = map (λ s. s.base.chain) (done domain ss os)

-- ---- chains

-- counted from n on, the last element that passes the test
abbrev pub last_from : {X : Type 0} → ℕ → (X → Bool) → List X → Option ℕ
last_from n test [] = None
last_from n test (x ∷ xs) = option_or (last_from (n + 1) test xs) (if test x then Some n else None)

abbrev pub is_in : Option ℕ → Sent → Bool
is_in chain s = is_of_chain chain s.base.chain

-- the last receipt of the chain
abbrev pub last_receipt : List Sent → Option ℕ → Option ℕ
last_receipt ss chain = last_from 1 (is_in chain) ss

-- and if it is pending, that is not decided
abbrev pub pending_receipt : List Sent → List Outcome → Option ℕ → Option ℕ
pending_receipt ss os chain = option_and_then (λ n. if nat_lt (length os) n then Some n else None) (last_receipt ss chain)

-- counted from n on, the first receipt of the chain with an outcome other than done
abbrev pub failing_from : ℕ → Option ℕ → List Sent → List Outcome → Option ℕ
failing_from n chain [] os = None
failing_from n chain (s ∷ ss) [] = None
failing_from n chain (s ∷ ss) (o ∷ os) = if is_in chain s && not (is_done o) then Some n else failing_from (n + 1) chain ss os

-- the receipt by which the chain failed
abbrev pub failing : Option ℕ → List Sent → List Outcome → Option ℕ
failing chain ss os = failing_from 1 chain ss os
