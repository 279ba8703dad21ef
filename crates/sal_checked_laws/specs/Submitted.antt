-- The reads of a transaction with checked reads are in the operations that it submits.
use Rattle.std.specs.Prelude.{◌≡◌, ◌⊎◌, ◌<◌, ◌-◌, ℕ, Bool, true, not, List, [], ◌∷◌, ◌++◌, length, Some, Ok, nat_eq, slice_get}
use Rattle.std.specs.List.{fold, list_all}
use Rattle.sal_types.specs.declared.value.Store.{Store}
use Rattle.sal_types.specs.declared.value.Step.{Step}
use Rattle.sal_types.specs.Tree.{under}
use Rattle.sal_rows.specs.declared.op.Op.{Op}
use Rattle.sal_rows.specs.declared.outcome.Mode.TheVariants.{Checked}
use Rattle.sal_rows.specs.declared.outcome.Outcome.TheVariants.{Done}
use Rattle.sal_rows.specs.Apply.{apply_ops}
use Rattle.sal_rows.specs.Reads.{recorded}
use Rattle.sal_history.specs.declared.call.Call.TheVariants as made
use Rattle.sal_history.specs.declared.call.Entry.{Entry}
use Rattle.sal_history.specs.declared.reply.Reply.TheVariants.{Receipt}
use Rattle.sal_history.specs.Answered.{Answered}
use Rattle.sal_history.specs.History.{began_at, entries_of, history, outcomes, reply, trees_at}
use Rattle.sal_history.specs.Submissions.{Base}
use Rattle.sal_history.specs.World.{Domain}
use Rattle.sal_pathtext.specs.Read.{read_path}
use Rattle.sal_script.specs.declared.reply.StepReply.TheVariants.{Called}
use Rattle.sal_script.specs.Moves.{Move, Begin, ChainBegin, Submit, Cancel, Read, Exists}
use Rattle.sal_script.specs.Play.{Client, Meeting, Open, keep, local, meet, replied, seen_by, shared, spot_after}
use Rattle.sal_script.specs.Tables.{Versions, table_at}

-- a client after a log
pub record Point : Type 0 where
  pub log : List Entry
  pub client : Client

-- a client takes a step, or another client adds an entry
pub data Deed : Type 0 where
  takes : Move → Deed
  waits : Entry → Deed

module _ (tables : List Versions) (world : List Domain) (c : ℕ) where
  -- client c after a step: a local one, or a shared call
  abbrev pub stepped : Point → Move → Meeting → Point
  stepped at step (local r next) = record at { client = replied r next }
  stepped at step (shared call) =
      let e : Entry = record { client = c; number = entries_of at.log c; call = call } in
      let r = reply world at.log e in
      record { log = at.log ++ e ∷ []; client = replied (Called r) (keep (spot_after world at.log) step r at.client) }

  abbrev pub after_deed : Point → Deed → Point
  after_deed at (takes step) = stepped at step (meet tables world at.log at.client step)
  after_deed at (waits e) = record at { log = at.log ++ e ∷ [] }

  abbrev pub after_deeds : Point → List Deed → Point
  after_deeds at deeds = fold after_deed at deeds

-- a step that neither begins nor submits nor cancels a transaction of the slot
abbrev pub spares : ℕ → Move → Bool
spares slot (Begin t domain mode) = not (nat_eq slot t)
spares slot (ChainBegin chain t mode) = not (nat_eq slot t)
spares slot (Submit t) = not (nat_eq slot t)
spares slot (Cancel t) = not (nat_eq slot t)
spares slot step = true

abbrev pub deed_spares : ℕ → Deed → Bool
deed_spares slot (takes step) = spares slot step
deed_spares slot (waits e) = true

-- a step that looks at the path of the text
abbrev pub IsLook : ℕ → Store → List ℕ → Move → Type 0
IsLook slot store text step = (step ≡ Read slot store text) ⊎ (step ≡ Exists slot store text)

-- The transaction in the slot reads a path, and for any later steps of the client and others, the read is still there. When the client submits it,
-- its operations are those before the read, the read, and those after it.
abbrev pub ReadsAreSubmitted : Type 0
ReadsAreSubmitted =
    (tables : List Versions) (world : List Domain) (c : ℕ) (at : Point) (slot : ℕ) (store : Store) (text : List ℕ) (path : List Step) (tx : Open) (look : Move) (deeds : List Deed)
    → at.client.transactions slot ≡ Some tx → tx.mode ≡ Checked → read_path (table_at tables tx.version tx.domain) text ≡ Ok path → IsLook slot store text look
    → list_all (deed_spares slot) deeds ≡ true
    → let to = after_deeds tables world c at (takes look ∷ deeds) in
    (more : List Op) × (meet tables world to.log to.client (Submit slot) ≡ shared (made.Submit tx.place (recorded Checked store path tx.ops ++ more)))

-- And if that submission is done, the read would have the same result over the trees just before the commit: after the operations
-- that the transaction had then, it sees the same rows at and below the path. So it is in each longer log.
abbrev pub PlayedReadsStand : Type 0
PlayedReadsStand =
    (tables : List Versions) (world : List Domain) (c : ℕ) (at : Point) (slot : ℕ) (store : Store) (text : List ℕ) (path : List Step) (tx : Open) (look : Move) (deeds : List Deed)
    → at.client.transactions slot ≡ Some tx → tx.mode ≡ Checked → read_path (table_at tables tx.version tx.domain) text ≡ Ok path → IsLook slot store text look
    → list_all (deed_spares slot) deeds ≡ true
    → (base : Base) → tx.place < length at.log → began_at (history world at.log) tx.place ≡ Some base
    → (ops : List Op) (n commit : ℕ) (rest : List Entry)
    → let to = after_deeds tables world c at (takes look ∷ deeds) in
    let e : Entry = record { client = c; number = entries_of to.log c; call = made.Submit tx.place ops } in
    let later : List Answered = history world (to.log ++ e ∷ rest) in
    meet tables world to.log to.client (Submit slot) ≡ shared (made.Submit tx.place ops)
    → reply world to.log e ≡ Receipt n → slice_get (outcomes later) (n - 1) ≡ Some (Done commit)
    → under (seen_by world at.log tx store) path ≡ under (apply_ops (trees_at world later base.domain store (commit - 1)) store tx.ops) path
