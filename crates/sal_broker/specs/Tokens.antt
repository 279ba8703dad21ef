-- The tokens of a caller stay tokens, whoever makes the later entries.
use Rattle.std.specs.Prelude.{List}
use Rattle.sal_rows.specs.declared.outcome.Mode.{Mode}
use Rattle.sal_tree.specs.declared.commit.Pair.{Pair}
use Rattle.sal_tx.specs.declared.begun.Begun.{Begun}
use Rattle.sal_history.specs.declared.call.Entry.{Entry}
use Rattle.sal_history.specs.Listeners.{Listening}
use Rattle.sal_hub.specs.declared.call_id.CallId.{CallId}
use Rattle.sal_hub.specs.declared.chain.Chain.{Chain}
use Rattle.sal_hub.specs.declared.listener.ListenerId.{ListenerId}
use Rattle.sal_hub.specs.declared.receipt.Receipt.{Receipt}
use Rattle.sal_hub.specs.HubHistory.{HubHistory}
use Rattle.sal_hub.specs.Listeners.{IsMade}
use Rattle.sal_hub.specs.Tokens.{IsBegun, IsCall, IsChain, IsGiven, IsListener}

-- a hub with another log
abbrev pub with_log : HubHistory → List Entry → HubHistory
with_log known log = record { world = known.world; log = log }

-- the tokens of the one hub are tokens of the other
pub record TokensStay (old new : HubHistory) : Type 0 where
  pub begun : (begun : Begun) (mode : Mode) (base : Pair) → IsBegun old begun mode base → IsBegun new begun mode base
  pub given : (receipt : Receipt) → IsGiven old receipt → IsGiven new receipt
  pub opened : (chain : Chain) → IsChain old chain → IsChain new chain
  pub listener : (id : ListenerId) → IsListener old id → IsListener new id
  pub called : (id : CallId) → IsCall old id → IsCall new id
  pub made : (id : ListenerId) (l : Listening) → IsMade old id l → IsMade new id l
