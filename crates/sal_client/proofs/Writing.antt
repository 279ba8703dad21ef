-- A write in a transaction, as the definitions have it.
use Rattle.std.proofs.Common.{◌≡◌, ℕ, List, [], ◌∷◌, ◌++◌, length, Some, Result, Ok, Err, refl, ap, sym, ◌∙◌, subst, inl, inr}
use Rattle.std.specs.Prelude.{IfErr, MatchResult, ⊤}
use Rattle.sal_types.specs.declared.value.Store.{Store}
use Rattle.sal_rows.specs.declared.op.Op.{Op}
use Rattle.sal_rows.specs.Apply.{apply_ops}
use Rattle.sal_schema.specs.declared.table.SchemaTable.{SchemaTable}
use Rattle.sal_rows.specs.declared.outcome.Mode.{Mode}
use Rattle.sal_tree.specs.declared.commit.Pair.{Pair}
use Rattle.sal_tx.specs.declared.begun.Begun.{Begun}
use Rattle.sal_tx.specs.declared.tx.Tx.TheVariants.{Write}
use Rattle.sal_tx.specs.declared.writing.Writing.{Writing}
use Rattle.sal_rules.specs.declared.fault.TxFault.{TxFault}
use Rattle.sal_rules.specs.declared.fault.TxFault.TheVariants.{NoMemory, ParentMissing}
use Rattle.sal_rules.specs.Refusals.{refusal}
use Rattle.sal_tx.specs.Views.{HasOneMore, IsOutcome, after_refusal, refused as refused_over}
use Rattle.sal_script.specs.declared.reply.StepReply.{StepReply}
use Rattle.sal_script.specs.declared.reply.StepReply.TheVariants.{Accepted, Refused}
use Rattle.sal_script.specs.declared.reply.StepRefusal.TheVariants.{Write as WriteRefused}
use Rattle.sal_script.specs.Play.{Client, Open, Slots, accept_unless, after_refusal as tried, local, seen_by, set_slot, write_op}
use Rattle.sal_script.specs.Tables.{Versions, table_at, versions_of}
use Rattle.sal_hub.specs.HubHistory.{HubHistory}
use Rattle.sal_hub.specs.Tokens.{IsBegun}
use Rattle.sal_client.specs.Clients.{IsOfSchema, IsOwn, IsWithin, open_of}
use Rattle.sal_client.proofs.Domains.{table_at-of}
use Rattle.sal_client.proofs.Soundness.{based}

-- what a refused write leaves
abbrev pub Leaves : Writing → Op → Writing → Result ⊤ TxFault → Type 0
Leaves old op new answer = IfErr answer (λ fault. new ≡ after_refusal fault op.store old)

-- as the definitions have it
open_refused : (store : Store) (fault : TxFault) (w : Writing) → open_of (Write (after_refusal fault store w)) ≡ record (open_of (Write w)) { ops = tried fault w.mode store w.changes }
open_refused store (ParentMissing path) w = refl
open_refused store fault w = refl

module _ (known : HubHistory) (tables : List Versions) (old : Writing) (own : IsOwn known (Write old)) (of_world : tables ≡ versions_of known.world) where
  abbrev table : SchemaTable
  table = table_at tables old.begun.version old.begun.domain

  -- a transaction refuses what the definitions refuse
  same_refusal : (op : Op) → refusal table (seen_by known.world known.log (open_of (Write old)) op.store) op ≡ refused_over old op
  same_refusal op =
      let of_tx : table ≡ old.begun.schema.value = ap (λ (ts : List Versions). table_at ts old.begun.version old.begun.domain) of_world ∙ table_at-of known.world old.begun.version old.begun.domain ∙ sym own.token.schema in
      λ i. refusal (of_tx i) (apply_ops (based known old.begun old.base own.token op.store i) op.store old.changes) op

  one_more : (op : Op) (new : Writing) → HasOneMore old op new → open_of (Write new) ≡ record (open_of (Write old)) { ops = old.changes ++ op ∷ [] }
  one_more op new has = λ i. record { place = (has.1 i).place; domain = (has.1 i).domain; version = (has.1 i).version; mode = has.2 i; ops = has.0 i }

  -- a write that was answered so
  pub written : (slot : ℕ) (op : Op) (new : Writing) (answer : Result ⊤ TxFault) (r : StepReply) (client : Client) (f : Slots Open) → IsOutcome old op new answer → Leaves old op new answer → MatchResult answer (λ _. r ≡ Accepted) (λ fault. r ≡ Refused (WriteRefused old.begun.domain fault)) → MatchResult answer (λ _. ⊤) (λ fault. fault ≡ NoMemory → ⊥) → client.transactions slot ≡ Some (open_of (Write old)) → f ≡ set_slot slot (Some (open_of (Write new))) client.transactions → write_op table known.world known.log slot op (open_of (Write old)) client ≡ local r (record client { transactions = f })
  written slot op new (Ok u) r client f outcome err reply memory here filled =
      ap (λ o. accept_unless o slot op (open_of (Write old)) client) (same_refusal op ∙ outcome.0)
      ∙ (λ i. local (sym reply i) (record client { transactions = set_slot slot (Some (sym (one_more op new outcome.1) i)) client.transactions }))
      ∙ (λ i. local r (record client { transactions = sym filled i }))
  written slot op new (Err fault) r client f outcome err reply memory here filled =
      elim outcome [
        | inl none ↦ absurd (memory none)
        | inr why ↦
            let left : open_of (Write new) ≡ record (open_of (Write old)) { ops = tried fault old.mode op.store old.changes } = ap (λ (w : Writing). open_of (Write w)) err ∙ open_refused op.store fault old in
            ap (λ o. accept_unless o slot op (open_of (Write old)) client) (same_refusal op ∙ why)
            ∙ (λ i. local (sym reply i) (record client { transactions = set_slot slot (Some (sym left i)) client.transactions }))
            ∙ (λ i. local r (record client { transactions = sym filled i }))
      ]

-- a transaction is begun as it was
begun_refused : (store : Store) (fault : TxFault) (w : Writing) → (after_refusal fault store w).begun ≡ w.begun
begun_refused store (ParentMissing path) w = refl
begun_refused store fault w = refl

pub begun-written : (op : Op) (old new : Writing) (answer : Result ⊤ TxFault) → IsOutcome old op new answer → Leaves old op new answer → new.begun ≡ old.begun
begun-written op old new (Ok u) outcome err = outcome.1.1
begun-written op old new (Err fault) outcome err = ap (λ (w : Writing). w.begun) err ∙ begun_refused op.store fault old

-- and of its schema
pub of_schema-begun : (tables : List Versions) (old new : Writing) → new.begun ≡ old.begun → IsOfSchema tables (Write old) → IsOfSchema tables (Write new)
of_schema-begun tables old new same is = record {
  within = subst (λ (b : Begun). IsWithin (length tables) b.domain) (sym same) is.within;
  schema = subst (λ (b : Begun). b.schema.value ≡ table_at tables b.version b.domain) (sym same) is.schema;
}

-- and stays one of the log
own_refused : (known : HubHistory) (store : Store) (fault : TxFault) (w : Writing) → IsOwn known (Write w) → IsOwn known (Write (after_refusal fault store w))
own_refused known store (ParentMissing path) w own = record { token = own.token; within = own.within }
own_refused known store fault w own = own

pub IsOwn-written : (known : HubHistory) (old : Writing) → IsOwn known (Write old) → (op : Op) (new : Writing) (answer : Result ⊤ TxFault) → IsOutcome old op new answer → Leaves old op new answer → IsOwn known (Write new)
IsOwn-written known old own op new (Ok u) outcome err =
    let has = outcome.1 in
    let begun : new.begun ≡ old.begun = has.1 in
    let base : new.base ≡ old.base = has.3 in
    record {
      token =
          subst (λ (b : Begun). IsBegun known b new.mode new.base) (sym begun)
          (subst (λ (t : Pair). IsBegun known old.begun new.mode t) (sym base) (subst (λ (m : Mode). IsBegun known old.begun m old.base) (sym has.2) own.token));
      within = subst (λ (b : Begun). IsWithin (length known.world) b.domain) (sym begun) own.within;
    }
IsOwn-written known old own op new (Err fault) outcome err = subst (λ (w : Writing). IsOwn known (Write w)) (sym err) (own_refused known op.store fault old own)
