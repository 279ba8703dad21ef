-- What one more entry keeps, any number of them keeps.
use Rattle.std.proofs.Common.{List, [], ◌∷◌, ◌++◌, sym, subst, append_assoc, append-nil}
use mathlib.Core.List.{IsPrefix}
use Rattle.sal_history.specs.declared.call.Entry.{Entry}
use Rattle.sal_hub.specs.HubHistory.{HubHistory, more}
use Rattle.sal_broker.specs.Tokens.{with_log}

module _ (Holds : HubHistory → Type 0) (one_more : (known : HubHistory) (e : Entry) → Holds known → Holds (more known e)) where
  stays_behind : (rest : List Entry) (known : HubHistory) → Holds known → Holds (with_log known (known.log ++ rest))
  stays_behind [] known was = subst (λ (log : List Entry). Holds (with_log known log)) (sym (append-nil known.log)) was
  stays_behind (e ∷ rest) known was =
      subst (λ (log : List Entry). Holds (with_log known log)) (append_assoc known.log (e ∷ []) rest) (stays_behind rest (more known e) (one_more known e was))

  pub stays : (known : HubHistory) (log : List Entry) → IsPrefix known.log log → Holds known → Holds (with_log known log)
  stays known log starts was = subst (λ (l : List Entry). Holds (with_log known l)) starts.1 (stays_behind starts.0 known was)
