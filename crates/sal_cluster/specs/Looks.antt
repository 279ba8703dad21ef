-- A read in a tree of a domain, without a step: its text is that of a step's reply.
use Rattle.std.specs.Prelude.{◌≡◌, ℕ, List, Result, Ok, Err, ⊤}
use Rattle.std.specs.Str.{IsUtf8}
use Rattle.sal_types.specs.declared.row.Row.{Row}
use Rattle.sal_types.specs.declared.value.Step.{Step}
use Rattle.sal_types.specs.Tree.{under}
use Rattle.sal_schema.specs.declared.table.SchemaTable.{SchemaTable}
use Rattle.sal_pathtext.specs.declared.fault.PathTextFault.{PathTextFault}
use Rattle.sal_pathtext.specs.Read.{read_path}
use Rattle.sal_script.specs.Report.{reply_text}
use Rattle.sal_script.specs.declared.reply.StepReply.{StepReply}
use Rattle.sal_script.specs.declared.reply.StepReply.TheVariants.{Read, Refused}
use Rattle.sal_script.specs.declared.reply.StepRefusal.TheVariants.{BadPath}
use Rattle.sal_cluster.specs.declared.look.LookFault.{LookFault}
use Rattle.sal_cluster.specs.declared.look.LookFault.TheVariants.{BadText, NoMemory}

-- the reply to a read of the path in domain n
abbrev pub reply_of : ℕ → List Row → Result (List Step) PathTextFault → StepReply
reply_of n tree (Ok path) = Read n path (under tree path)
reply_of n tree (Err fault) = Refused (BadPath fault)

-- The text of that reply, by the last versions of all domains, for a path that is read by the last version of domain n. Or the bytes are no UTF-8.
abbrev pub Looks : List SchemaTable → SchemaTable → ℕ → List Row → List ℕ → Result (List ℕ) LookFault → Type 0
Looks tables table n tree bytes (Ok text) = text ≡ reply_text tables (reply_of n tree (read_path table bytes))
Looks tables table n tree bytes (Err BadText) = IsUtf8 bytes → ⊥
Looks tables table n tree bytes (Err NoMemory) = ⊤
