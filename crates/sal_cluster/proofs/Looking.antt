-- A read is that of the same tree by the same tables, and its text is that of its reply.
use Rattle.std.proofs.Common.{◌≡◌, ℕ, List, Result, Ok, Err, MatchResult, ap, ◌∙◌, subst}
use Rattle.sal_types.specs.declared.row.Row.{Row}
use Rattle.sal_schema.specs.declared.table.SchemaTable.{SchemaTable}
use Rattle.sal_pathtext.specs.Read.{read_path}
use Rattle.sal_script.specs.Report.{reply_text}
use Rattle.sal_script.specs.declared.reply.StepReply.{StepReply}
use Rattle.sal_cluster.specs.declared.look.LookFault.{LookFault}
use Rattle.sal_cluster.specs.declared.look.LookFault.TheVariants.{BadText, NoMemory}
use Rattle.sal_cluster.specs.Looks.{Looks, reply_of}

pub same : (tables tables' : List SchemaTable) (table table' : SchemaTable) (n : ℕ) (tree tree' : List Row) (bytes : List ℕ) (result : Result (List ℕ) LookFault)
    → tables ≡ tables' → table ≡ table' → tree ≡ tree' → Looks tables table n tree bytes result → Looks tables' table' n tree' bytes result
same tables tables' table table' n tree tree' bytes result all one rows looks =
    subst (λ (ts : List SchemaTable). Looks ts table' n tree' bytes result) all
    (subst (λ (t : SchemaTable). Looks tables t n tree' bytes result) one
    (subst (λ (rs : List Row). Looks tables table n rs bytes result) rows looks))

pub looked : (tables : List SchemaTable) (table : SchemaTable) (n : ℕ) (tree : List Row) (text bytes : List ℕ) (reply : StepReply) (result : Result (List ℕ) LookFault)
    → text ≡ bytes → reply ≡ reply_of n tree (read_path table text) → MatchResult result (λ told. told ≡ reply_text tables reply) (λ fault. fault ≡ NoMemory)
    → Looks tables table n tree bytes result
looked tables table n tree text bytes reply (Ok told) same_text is found = found ∙ ap (reply_text tables) (is ∙ ap (λ (b : List ℕ). reply_of n tree (read_path table b)) same_text)
looked tables table n tree text bytes reply (Err BadText) same_text is found = let no : BadText ≡ NoMemory = found in cc
looked tables table n tree text bytes reply (Err NoMemory) same_text is found = tt
