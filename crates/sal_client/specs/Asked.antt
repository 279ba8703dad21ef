-- The RPCs of clients' requests, and the requests that they took.
use Rattle.std.specs.Prelude.{◌≡◌, ℕ, List, Option, Some, None, Result, Ok, Err}
use Rattle.serde_json.specs.Data.{Data}
use Rattle.serde_json.specs.View.{view}
use Rattle.sal_types.specs.declared.value.Step.{Step}
use Rattle.sal_types.specs.Reading.{◌>>=◌}
use Rattle.sal_schema.specs.declared.table.SchemaTable.{SchemaTable}
use Rattle.sal_history.specs.declared.call.Call.TheVariants.{Invoke}
use Rattle.sal_rpc.specs.declared.call.Request.{Request}
use Rattle.sal_script.specs.Messages.{input_of, output_of, rpc_called}
use Rattle.sal_script.specs.Play.{set_slot}
use Rattle.sal_script.specs.Services.{Invocation, OrRefusal, context_of, if_known, invoke, rows_of}
use Rattle.sal_client.specs.declared.fault.StepFault.{StepFault}
use Rattle.sal_client.specs.declared.messages.Service.{Service}
use Rattle.sal_client.specs.declared.rpcs.Answer.{Answer}
use Rattle.sal_client.specs.declared.rpcs.Ask.{Ask}
use Rattle.sal_client.specs.declared.rpcs.Invocation.{Invocation as Handed}
use Rattle.sal_client.specs.Faults.{Refuses}

-- the RPC of a name and the context of a text, if it is given, or why there is none
abbrev pub service_of : SchemaTable → List ℕ → Option (List ℕ) → OrRefusal (ℕ × Option (List Step))
service_of table name text = if_known (rpc_called table name) >>= (λ rpc. context_of table text >>= (λ context. Ok (rpc, context)))

-- this was read
abbrev pub IsService : SchemaTable → List ℕ → Option (List ℕ) → Result Service StepFault → Type 0
IsService table name text (Ok s) = (s.name.value ≡ name) × (s.text.value ≡ text) × (service_of table name text ≡ Ok (s.rpc, s.context))
IsService table name text (Err fault) = Refuses fault (service_of table name text)

-- the request of a service that was read
abbrev pub IsAsk : SchemaTable → Service → Data → Result Ask StepFault → Type 0
IsAsk table service value (Ok a) = (a.service ≡ service) × (view a.value.value ≡ value) × (rows_of table (input_of table service.rpc) value ≡ Ok a.input)
IsAsk table service value (Err fault) = Refuses fault (rows_of table (input_of table service.rpc) value)

-- and of the service that its name and its context denote
abbrev pub IsAskBy : SchemaTable → List ℕ → Option (List ℕ) → Data → Result Ask StepFault → Type 0
IsAskBy table name text value (Ok a) =
    (a.service.name.value ≡ name) × (a.service.text.value ≡ text) × (view a.value.value ≡ value) × (invoke table name text value ≡ Ok (Invoke a.service.rpc a.service.context a.input))
IsAskBy table name text value (Err fault) = Refuses fault (invoke table name text value)

-- the answer that was read
abbrev pub IsAnswerTo : SchemaTable → Handed → Data → Result Answer StepFault → Type 0
IsAnswerTo table request value (Ok a) = (a.request ≡ request) × (view a.value.value ≡ value) × (rows_of table (output_of table request.rpc) value ≡ Ok a.output)
IsAnswerTo table request value (Err fault) = Refuses fault (rows_of table (output_of table request.rpc) value)

-- a request that the client took, in the definitions' form
abbrev pub invocation_of : Handed → Invocation
invocation_of request = record { id = request.id; rpc = request.rpc }

abbrev pub handed_of : Request → Handed
handed_of request = record { id = request.id; rpc = request.rpc }

-- the slots with the request, if there is one, in this slot
abbrev pub handed_with : ℕ → Option Request → (ℕ → Option Handed) → ℕ → Option Handed
handed_with slot None slots = slots
handed_with slot (Some request) slots = set_slot slot (Some (handed_of request)) slots
