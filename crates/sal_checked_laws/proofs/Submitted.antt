-- A transaction stays in its slot, and its operations only grow, until it is submitted.
use Rattle.std.proofs.Common.{◌≡◌, ℕ, Bool, true, false, not, List, [], ◌∷◌, ◌++◌, Option, None, Some, Ok, if◌then◌else◌, nat_eq, refl, ap, sym, ◌∙◌, subst, append-nil, append_assoc, inl, inr}
use Rattle.std.specs.List.{list_all}
use Rattle.std.proofs.lemmas.Bool.{and_parts, eq-eqb}
use Rattle.sal_types.specs.declared.value.Store.{Store}
use Rattle.sal_types.specs.declared.value.Step.{Step}
use Rattle.sal_types.specs.declared.row.Row.{Row}
use Rattle.sal_rows.specs.declared.op.Op.{Op}
use Rattle.sal_rows.specs.declared.outcome.Mode.{Mode}
use Rattle.sal_rows.specs.declared.outcome.Mode.TheVariants.{Checked}
use Rattle.sal_rows.specs.Reads.{recorded}
use Rattle.sal_history.specs.declared.call.Call.TheVariants as made
use Rattle.sal_history.specs.declared.reply.Reply.{Reply}
use Rattle.sal_history.specs.declared.reply.Reply.TheVariants.{Begun, Chain, Accepted as Done, Receipt, Listener as Listening, Batch, CallMade, Request}
use Rattle.sal_history.specs.World.{Domain}
use Rattle.sal_pathtext.specs.Read.{read_path}
use Rattle.sal_script.specs.declared.reply.StepReply.{StepReply}
use Rattle.sal_script.specs.CheckedLaws.{Grows, LooksAreKnown, TransactionsGrow}
use Rattle.sal_script.specs.Moves.{Move, Begin, ChainBegin, Submit, Cancel, OpenChain, Listen, Take, Invoke, NextCall}
use Rattle.sal_script.specs.Play.{Client, Meeting, Open, Spot, found, keep, local, look, meet, rows_read, shared, submit, submit_in, table_for, with_ops}
use Rattle.sal_script.specs.Tables.{Versions, table_at}
use Rattle.sal_checked_laws.specs.Submitted.{Deed, IsLook, Point, ReadsAreSubmitted, after_deed, after_deeds, deed_spares, spares, stepped, takes, waits}

-- the slot has this transaction, with further operations
abbrev Has : ℕ → Open → Client → Type 0
Has slot tx client = (new : Open) × (client.transactions slot ≡ Some new) × Grows tx new

grow_on : (tx mid new : Open) → Grows tx mid → Grows mid new → Grows tx new
grow_on tx mid new first next = record {
  more = first.more ++ next.more;
  same =
      next.same
      ∙ (λ i. record (first.same i) { ops = (first.same i).ops ++ next.more })
      ∙ (λ i. record tx { ops = append_assoc tx.ops first.more next.more i });
}

-- ---- after a shared call

other : {A : Type 0} (b : Bool) (x y : A) → not b ≡ true → (if b then x else y) ≡ y
other true x y is = cc
other false x y is = refl

kept : (slot : ℕ) (spot : Spot) (step : Move) (r : Reply) (client : Client) → spares slot step ≡ true → (keep spot step r client).transactions slot ≡ client.transactions slot
kept slot spot (Begin t domain mode) (Begun commit on) client is = other (nat_eq slot t) _ (client.transactions slot) is
kept slot spot (ChainBegin chain t mode) (Begun commit on) client is = other (nat_eq slot t) _ (client.transactions slot) is
kept slot spot (OpenChain chain domain) (Chain id) client is = refl
kept slot spot (Listen t domain store text) (Listening id at path opened) client is = refl
kept slot spot (Take t) (Batch domain batch) client is = refl
kept slot spot (Submit t) (Receipt number) client is = other (nat_eq slot t) None (client.transactions slot) is
kept slot spot (Cancel t) Done client is = other (nat_eq slot t) None (client.transactions slot) is
kept slot spot (Invoke t name context value) (CallMade id) client is = refl
kept slot spot (NextCall t) (Request request) client is = refl
kept slot spot step r client is = refl

module _ (grow : TransactionsGrow) (tables : List Versions) (world : List Domain) (c slot : ℕ) (tx : Open) where
  -- ---- one deed

  met_has : (at : Point) (step : Move) (m : Meeting) → meet tables world at.log at.client step ≡ m → spares slot step ≡ true → Has slot tx at.client → Has slot tx (stepped tables world c at step m).client
  met_has at step (local r next) is apart has =
      let new = grow tables world at.log at.client next step r is slot has.0 has.1 in
      (new.0, new.1, grow_on tx has.0 new.0 has.2 new.2)
  met_has at step (shared call) is apart has = (has.0, kept slot _ step _ at.client apart ∙ has.1, has.2)

  deed_has : (at : Point) (deed : Deed) → deed_spares slot deed ≡ true → Has slot tx at.client → Has slot tx (after_deed tables world c at deed).client
  deed_has at (takes step) apart has = met_has at step (meet tables world at.log at.client step) refl apart has
  deed_has at (waits e) apart has = has

  deeds_have : (at : Point) (deeds : List Deed) → list_all (deed_spares slot) deeds ≡ true → Has slot tx at.client → Has slot tx (after_deeds tables world c at deeds).client
  deeds_have at [] apart has = has
  deeds_have at (deed ∷ deeds) apart has =
      let each = and_parts (deed_spares slot deed) (list_all (deed_spares slot) deeds) apart in
      deeds_have (after_deed tables world c at deed) deeds each.1 (deed_has at deed each.0 has)

-- ---- the look

filled : (slot : ℕ) (ops : List Op) (tx : Open) (client : Client) → (with_ops slot ops tx client).transactions slot ≡ Some (record tx { ops = ops })
filled slot ops tx client = ap (λ (b : Bool). if b then Some (record tx { ops = ops }) else client.transactions slot) (eq-eqb slot slot refl)

module _ (known : LooksAreKnown) (tables : List Versions) (world : List Domain) (c : ℕ) (at : Point) (slot : ℕ) (store : Store) (text : List ℕ) (path : List Step) (tx : Open) where
  abbrev after_read : Open
  after_read = record tx { ops = recorded Checked store path tx.ops }

  look_has : (f : Open → List Step → List Row → StepReply) (step : Move) → meet tables world at.log at.client step ≡ look (table_for tables (at.client.transactions slot)) world at.log f slot store text at.client (at.client.transactions slot)
      → at.client.transactions slot ≡ Some tx → tx.mode ≡ Checked → read_path (table_at tables tx.version tx.domain) text ≡ Ok path
      → Has slot after_read (stepped tables world c at step (meet tables world at.log at.client step)).client
  look_has f step is here mode read =
      let looked = known (table_at tables tx.version tx.domain) world at.log f slot store text path at.client tx mode read in
      let met = is ∙ ap (λ (o : Option Open). look (table_for tables o) world at.log f slot store text at.client o) here ∙ looked.answered in
      subst (λ (m : Meeting). Has slot after_read (stepped tables world c at step m).client) (sym met)
      (after_read, filled slot (recorded Checked store path tx.ops) tx at.client, record { more = []; same = λ i. record tx { ops = sym (append-nil (recorded Checked store path tx.ops)) i } })

  looked_has : (step : Move) → IsLook slot store text step → at.client.transactions slot ≡ Some tx → tx.mode ≡ Checked → read_path (table_at tables tx.version tx.domain) text ≡ Ok path
      → Has slot after_read (after_deed tables world c at (takes step)).client
  looked_has step which here mode read =
      elim which [
        | inl is ↦ look_has rows_read step (ap (meet tables world at.log at.client) is) here mode read
        | inr is ↦ look_has found step (ap (meet tables world at.log at.client) is) here mode read
      ]

-- ---- the submit

submits : (client : Client) (slot : ℕ) (tx new : Open) → client.transactions slot ≡ Some new → tx.mode ≡ Checked → (more : List Op) → new ≡ record tx { ops = tx.ops ++ more } → submit client (client.transactions slot) ≡ shared (made.Submit tx.place (tx.ops ++ more))
submits client slot tx new here mode more same =
    ap (submit client) (here ∙ ap Some same)
    ∙ ap (λ (m : Mode). submit_in (record tx { ops = tx.ops ++ more }) m client) mode

pub reads_are_submitted : LooksAreKnown → TransactionsGrow → ReadsAreSubmitted
reads_are_submitted known grow tables world c at slot store text path tx step deeds here mode read which apart =
    let first = looked_has known tables world c at slot store text path tx step which here mode read in
    let after : Open = record tx { ops = recorded Checked store path tx.ops } in
    let last = deeds_have grow tables world c slot after (after_deed tables world c at (takes step)) deeds apart first in
    (last.2.more, submits (after_deeds tables world c at (takes step ∷ deeds)).client slot after last.0 last.1 mode last.2.more last.2.same)
