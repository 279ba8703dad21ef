-- The client after a step.
use Rattle.std.specs.Prelude.{◌≡◌, ℕ, List, Option, Some}
use Rattle.sal_rows.specs.declared.op.Op.{Op}
use Rattle.sal_script.specs.Moves.{Move}
use Rattle.sal_script.specs.declared.reply.StepReply.{StepReply}
use Rattle.sal_script.specs.declared.reply.StepReply.TheVariants as reply
use Rattle.sal_script.specs.Play.{Open, local, meet, replied, write_op}
use Rattle.sal_script.specs.Tables.{Versions, table_at}
use Rattle.sal_client.specs.declared.client.ClientState.{ClientState}
use Rattle.sal_client.specs.declared.fault.StepFault.{StepFault}
use Rattle.sal_client.specs.declared.fault.StepFault.TheVariants.{Refused, NoMemory}
use Rattle.sal_client.specs.declared.wish.Wish.{Wish}
use Rattle.sal_client.specs.Clients.{Everywhere, HasSchema, Same, StaysSound, client_of, opened}
use Rattle.sal_client.specs.Wishes.{Meets}

-- it was answered or refused, or has this call
pub record IsMet (tables : List Versions) (old : ClientState) (step : Move) (wish : Option Wish) (new : ClientState) : Type 0 where
  pub meets : Meets tables old step wish new
  pub sound : StaysSound old new
  pub schema : HasSchema tables new
  pub number : new.number ≡ old.number

-- the reply to a local step, over each log for which the client is steady
abbrev pub Answers : List Versions → ClientState → Move → StepReply → ClientState → Type 0
Answers tables old step r new = Everywhere tables old (λ known. meet tables known.world known.log (client_of old) step ≡ local r (client_of new))

-- a local step was answered; the reply is not yet among the replies
pub record IsAnswered (tables : List Versions) (old : ClientState) (step : Move) (r : StepReply) (new : ClientState) : Type 0 where
  pub answers : Answers tables old step r new
  pub sound : StaysSound old new
  pub schema : HasSchema tables new
  pub same : Same old new

-- an operation was written or refused
pub record IsWritten (tables : List Versions) (old : ClientState) (slot : ℕ) (op : Op) (r : StepReply) (new : ClientState) : Type 0 where
  pub answers : Everywhere tables old (λ known. (tx : Open) → opened old slot ≡ Some tx → write_op (table_at tables tx.version tx.domain) known.world known.log slot op tx (client_of old) ≡ local r (client_of new))
  pub sound : StaysSound old new
  pub schema : HasSchema tables new
  pub same : Same old new

-- the client has one more reply
pub record IsReplied (r : StepReply) (old new : ClientState) : Type 0 where
  pub client : client_of new ≡ replied r (client_of old)
  pub sound : StaysSound old new
  pub schema : (tables : List Versions) → HasSchema tables old → HasSchema tables new
  pub number : new.number ≡ old.number

-- which is this refusal
abbrev pub IsRefusedBy : StepFault → ClientState → ClientState → Type 0
IsRefusedBy (Refused refusal) old new = IsReplied (reply.Refused refusal) old new
IsRefusedBy NoMemory old new = ⊥
