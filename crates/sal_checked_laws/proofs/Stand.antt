-- What a done transaction looked at is what it would see over the trees just before its commit.
use Rattle.std.proofs.Common.{◌≡◌, ℕ, ◌+◌, ◌-◌, Bool, true, false, List, [], ◌∷◌, ◌++◌, length, Option, Some, if◌then◌else◌, refl, ap, sym, ◌∙◌, arith, append-nil, append_assoc}
use Rattle.std.specs.Prelude.{slice_get, unwrap_or}
use Rattle.std.specs.List.{fold}
use Rattle.std.specs.Option.{option_to_list}
use Rattle.std.proofs.lemmas.List.Sums.{fold-append}
use Rattle.sal_types.specs.Tree.{under}
use Rattle.sal_rows.specs.declared.op.Op.{Op}
use Rattle.sal_rows.specs.declared.outcome.CallFault.TheVariants.{PipelineFull, TxSpent}
use Rattle.sal_rows.specs.declared.outcome.Mode.TheVariants.{Checked}
use Rattle.sal_rows.specs.Apply.{apply_ops}
use Rattle.sal_rows.specs.Reads.{recorded}
use Rattle.sal_history.specs.declared.call.Call.TheVariants as made
use Rattle.sal_history.specs.declared.call.Entry.{Entry}
use Rattle.sal_history.specs.declared.reply.Reply.{Reply}
use Rattle.sal_history.specs.declared.reply.Reply.TheVariants.{Receipt, Refused}
use Rattle.sal_history.specs.Answered.{Answered}
use Rattle.sal_history.specs.History.{answer, answered_as, began_at, entries_of, history, is_spent, nowhere, reply, reply_to, sent_by, sents}
use Rattle.sal_history.specs.Submissions.{Base, Sent}
use Rattle.sal_history.specs.World.{Domain}
use Rattle.sal_history.proofs.Numbers.{get_seam}
use Rattle.sal_history.proofs.Unbroken.{sents-push}
use Rattle.sal_history_laws.specs.SerialLaws.{EachReadStands}
use Rattle.sal_script.specs.CheckedLaws.{LooksAreKnown, TransactionsGrow}
use Rattle.sal_script.specs.Moves.{Move, Submit}
use Rattle.sal_script.specs.Play.{Meeting, local, meet, shared}
use Rattle.sal_script.specs.Tables.{Versions}
use Rattle.sal_script.proofs.Later.{began_later}
use Rattle.sal_checked_laws.specs.Submitted.{Deed, PlayedReadsStand, Point, after_deed, after_deeds, stepped, takes, waits}
use Rattle.sal_checked_laws.proofs.Submitted.{reads_are_submitted}

-- ---- the log only grows

abbrev IsLonger : List Entry → List Entry → Type 0
IsLonger log longer = (more : List Entry) × (longer ≡ log ++ more)

module _ (tables : List Versions) (world : List Domain) (c : ℕ) where
  met_longer : (at : Point) (step : Move) (m : Meeting) → IsLonger at.log (stepped tables world c at step m).log
  met_longer at step (local r next) = ([], sym (append-nil at.log))
  met_longer at step (shared call) = (record { client = c; number = entries_of at.log c; call = call } ∷ [], refl)

  deed_longer : (at : Point) (deed : Deed) → IsLonger at.log (after_deed tables world c at deed).log
  deed_longer at (takes step) = met_longer at step (meet tables world at.log at.client step)
  deed_longer at (waits e) = (e ∷ [], refl)

  deeds_longer : (at : Point) (deeds : List Deed) → IsLonger at.log (after_deeds tables world c at deeds).log
  deeds_longer at [] = ([], sym (append-nil at.log))
  deeds_longer at (deed ∷ deeds) =
      let one = deed_longer at deed in
      let all = deeds_longer (after_deed tables world c at deed) deeds in
      (one.0 ++ all.0, all.1 ∙ ap (λ (log : List Entry). log ++ all.0) one.1 ∙ append_assoc at.log one.0 all.0)

-- ---- the submission

-- the operations of a submit
abbrev ops_in : Meeting → List Op
ops_in (shared (made.Submit place ops)) = ops
ops_in m = []

abbrev receipt_in : Reply → ℕ
receipt_in (Receipt n) = n
receipt_in r = 0

receipt_is : (room spent : Bool) (k n : ℕ) → (if room then (if spent then Refused TxSpent else Receipt k) else Refused PipelineFull) ≡ Receipt n → k ≡ n
receipt_is true false k n is = ap receipt_in is
receipt_is true true k n is = cc
receipt_is false spent k n is = cc

module _ (world : List Domain) where
  sents_longer : (rest : List Entry) (past : List Answered) → (more : List Sent) × (sents (fold (answer world) past rest) ≡ sents past ++ more)
  sents_longer [] past = ([], sym (append-nil (sents past)))
  sents_longer (e ∷ rest) past =
      let now : Answered = answered_as world past e (reply_to world past e.client e.call) in
      let others = sents_longer rest (past ++ now ∷ []) in
      (option_to_list now.sent ++ others.0, others.1 ∙ ap (λ (ss : List Sent). ss ++ others.0) (sents-push past now) ∙ append_assoc (sents past) (option_to_list now.sent) others.0)

  -- a submit that is answered with a receipt is the submission of that number
  sent_there : (log rest : List Entry) (e : Entry) (place n : ℕ) (ops : List Op) (base : Base) → e.call ≡ made.Submit place ops → reply world log e ≡ Receipt n → began_at (history world log) place ≡ Some base
      → slice_get (sents (history world (log ++ e ∷ rest))) (n - 1) ≡ Some (record { base = base; ops = ops })
  sent_there log rest e place n ops base is receipt began =
      let past : List Answered = history world log in
      let now : Answered = answered_as world past e (reply_to world past e.client e.call) in
      let t : Sent = record { base = base; ops = ops } in
      let sent : now.sent ≡ Some t =
      (λ i. sent_by past (is i) (receipt i)) ∙ ap (λ (b : Option Base). Some (record { base = unwrap_or b nowhere; ops = ops })) began in
      let number : length (sents past) + 1 ≡ n =
      receipt_is _ (is_spent past place) (length (sents past) + 1) n (ap (reply_to world past e.client) (sym is) ∙ receipt) in
      let place_of : n - 1 ≡ length (sents past) = omega (arith, number) in
      let others = sents_longer rest (past ++ now ∷ []) in
      let all : sents (history world (log ++ e ∷ rest)) ≡ sents past ++ t ∷ others.0 =
      ap sents (fold-append (answer world) [] log (e ∷ rest))
      ∙ others.1
      ∙ ap (λ (ss : List Sent). ss ++ others.0) (sents-push past now ∙ ap (λ (o : Option Sent). sents past ++ option_to_list o) sent)
      ∙ append_assoc (sents past) (t ∷ []) others.0 in
      (λ i. slice_get (all i) (place_of i)) ∙ get_seam (sents past) t others.0

pub played_reads_stand : LooksAreKnown → TransactionsGrow → EachReadStands → PlayedReadsStand
played_reads_stand known grow stands tables world c at slot store text path tx look deeds here mode read which apart base before began ops n commit rest met receipt done =
    let to : Point = after_deeds tables world c at (takes look ∷ deeds) in
    let e : Entry = record { client = c; number = entries_of to.log c; call = made.Submit tx.place ops } in
    let log : List Entry = to.log ++ e ∷ rest in
    let submitted = reads_are_submitted known grow tables world c at slot store text path tx look deeds here mode read which apart in
    let same : ops ≡ recorded Checked store path tx.ops ++ submitted.0 = ap ops_in (sym met ∙ submitted.1) in
    let longer = deeds_longer tables world c at (takes look ∷ deeds) in
    let began_to : began_at (history world to.log) tx.place ≡ Some base =
    ap (λ (l : List Entry). began_at (history world l) tx.place) longer.1 ∙ began_later world at.log longer.0 tx.place before ∙ began in
    let whole : log ≡ at.log ++ (longer.0 ++ e ∷ rest) = ap (λ (l : List Entry). l ++ e ∷ rest) longer.1 ∙ append_assoc at.log longer.0 (e ∷ rest) in
    let began_log : began_at (history world log) tx.place ≡ Some base =
    ap (λ (l : List Entry). began_at (history world l) tx.place) whole ∙ began_later world at.log (longer.0 ++ e ∷ rest) tx.place before ∙ began in
    let t : Sent = record { base = base; ops = ops } in
    let sent = sent_there world to.log rest e tx.place n ops base refl receipt began_to in
    ap (λ (b : Option Base). under (apply_ops ((unwrap_or b nowhere).trees store) store tx.ops) path) began
    ∙ stands world log (n - 1) t commit store path tx.ops submitted.0 sent done (tx.place, began_log) same
