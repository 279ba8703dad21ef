-- The steps that write, as the definitions have them.
use Rattle.std.proofs.Common.{◌≡◌, ℕ, List, Option, None, Some, Result, Ok, Err, refl, ap, sym, ◌∙◌}
use Rattle.sal_types.specs.declared.value.Store.{Store}
use Rattle.sal_rows.specs.declared.op.Op.{Op}
use Rattle.sal_rows.specs.declared.outcome.Mode.{Mode}
use Rattle.sal_rows.specs.declared.outcome.Mode.TheVariants.{Ro, Wo, Rw, Checked}
use Rattle.sal_schema.specs.declared.table.SchemaTable.{SchemaTable}
use Rattle.sal_pathtext.specs.Read.{read_path}
use Rattle.sal_script.specs.declared.reply.StepReply.{StepReply}
use Rattle.sal_script.specs.declared.reply.StepReply.TheVariants.{Refused}
use Rattle.sal_script.specs.declared.reply.StepRefusal.{StepRefusal}
use Rattle.sal_script.specs.declared.reply.StepRefusal.TheVariants.{EmptySlot, ReadOnly as ReadOnlyTx}
use Rattle.sal_script.specs.Play.{Client, DataAct, putting, merging, deleting, Meeting, Open, meet, refused as refused_step, write_in, write_with}
use Rattle.sal_script.specs.Tables.{Versions, table_at}
use Rattle.sal_hub.specs.HubHistory.{HubHistory}
use Rattle.sal_client.specs.declared.client.ClientState.{ClientState}
use Rattle.sal_client.specs.declared.client.Standing.TheVariants.{Empty, ReadOnly, Writable}
use Rattle.sal_client.specs.Clients.{client_of, domain_of, opened, standing_in, standing_of, version_of}
use Rattle.sal_client.specs.Meeting.{Answers, IsAnswered, IsWritten}
use Rattle.sal_client.specs.Operations.{op_by, write_move}
use Rattle.sal_client.proofs.Answering.{met_by, opened_some, write-writable}

writes : (tables : List Versions) (known : HubHistory) (client : Client) (slot : ℕ) (store : Store) (text : List ℕ) (data_act : DataAct) → meet tables known.world known.log client (write_move slot store text data_act) ≡ write_with tables known.world known.log slot store text data_act client (client.transactions slot)
writes tables known client slot store text (putting value) = refl
writes tables known client slot store text (merging value) = refl
writes tables known client slot store text deleting = refl

not_empty : (mode : Mode) → standing_in mode ≡ Empty → ⊥
not_empty Ro is = cc
not_empty Wo is = cc
not_empty Rw is = cc
not_empty Checked is = cc

module _ (tables : List Versions) (known : HubHistory) (client : Client) (slot : ℕ) (store : Store) (text : List ℕ) (data_act : DataAct) where
  abbrev write_of : Option Open → Meeting
  write_of tx = write_with tables known.world known.log slot store text data_act client tx

  in_empty : (tx : Option Open) → standing_of tx ≡ Empty → write_of tx ≡ refused_step EmptySlot client
  in_empty None is = refl
  in_empty (Some tx) is = absurd (not_empty tx.mode is)

  in_mode : (tx : Open) (mode : Mode) → standing_in mode ≡ ReadOnly → write_in (table_at tables tx.version tx.domain) known.world known.log mode slot store text data_act tx client ≡ refused_step ReadOnlyTx client
  in_mode tx Ro is = refl
  in_mode tx Wo is = cc
  in_mode tx Rw is = cc
  in_mode tx Checked is = cc

  in_read_only : (tx : Option Open) → standing_of tx ≡ ReadOnly → write_of tx ≡ refused_step ReadOnlyTx client
  in_read_only None is = cc
  in_read_only (Some tx) is = in_mode tx tx.mode is

module _ (tables : List Versions) (c : ClientState) (slot : ℕ) (store : Store) (text : List ℕ) (data_act : DataAct) where
  pub writes_nowhere : standing_of (opened c slot) ≡ Empty → Answers tables c (write_move slot store text data_act) (Refused EmptySlot) c
  writes_nowhere is known steady of = writes tables known (client_of c) slot store text data_act ∙ in_empty tables known (client_of c) slot store text data_act (opened c slot) is

  pub writes_nothing : standing_of (opened c slot) ≡ ReadOnly → Answers tables c (write_move slot store text data_act) (Refused ReadOnlyTx) c
  writes_nothing is known steady of = writes tables known (client_of c) slot store text data_act ∙ in_read_only tables known (client_of c) slot store text data_act (opened c slot) is

  -- the transaction that may write, and what was read for it
  module _ (domain version : ℕ) (own : SchemaTable) (stands : standing_of (opened c slot) ≡ Writable) (in_domain : domain ≡ domain_of (opened c slot)) (of_version : version ≡ version_of (opened c slot)) (by : own ≡ table_at tables version domain) (read : Result Op StepRefusal) (is : op_by own domain store data_act (read_path own text) ≡ read) where
    pub read_for : (tx : Open) → opened c slot ≡ Some tx → read ≡ op_by (table_at tables tx.version tx.domain) tx.domain store data_act (read_path (table_at tables tx.version tx.domain) text)
    read_for tx at =
        let same : domain ≡ tx.domain = in_domain ∙ ap domain_of at in
        let by_own : version ≡ tx.version = of_version ∙ ap version_of at in
        let table : own ≡ table_at tables tx.version tx.domain = by ∙ (λ i. table_at tables (by_own i) (same i)) in
        sym is ∙ (λ i. op_by (table i) (same i) store data_act (read_path (table i) text))

    met_writing : (known : HubHistory) (tx : Open) → opened c slot ≡ Some tx → meet tables known.world known.log (client_of c) (write_move slot store text data_act) ≡ met_by (table_at tables tx.version tx.domain) known.world known.log slot tx (client_of c) read
    met_writing known tx at =
        let mode : standing_in tx.mode ≡ Writable = sym (ap standing_of at) ∙ stands in
        writes tables known (client_of c) slot store text data_act ∙ ap (write_with tables known.world known.log slot store text data_act (client_of c)) at
        ∙ write-writable (table_at tables tx.version tx.domain) known.world known.log tx.mode slot store text data_act tx (client_of c) (read_path (table_at tables tx.version tx.domain) text) read mode refl (read_for tx at)

    pub writes_badly : (refusal : StepRefusal) → read ≡ Err refusal → Answers tables c (write_move slot store text data_act) (Refused refusal) c
    writes_badly refusal bad known steady of =
        let some = opened_some (opened c slot) stands in
        met_writing known some.0 some.1 ∙ ap (met_by (table_at tables some.0.version some.0.domain) known.world known.log slot some.0 (client_of c)) bad

    pub writes_there : (op : Op) (r : StepReply) (new : ClientState) → read ≡ Ok op → IsWritten tables c slot op r new → IsAnswered tables c (write_move slot store text data_act) r new
    writes_there op r new good written = record {
      answers = λ known steady of.
          let some = opened_some (opened c slot) stands in
          met_writing known some.0 some.1 ∙ ap (met_by (table_at tables some.0.version some.0.domain) known.world known.log slot some.0 (client_of c)) good ∙ written.answers known steady of some.0 some.1;
      sound = written.sound;
      schema = written.schema;
      same = written.same;
    }
