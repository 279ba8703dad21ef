-- Worked examples of listeners: client 0 listens, and client 1 makes commits.
use Rattle.std.specs.Prelude.{ℕ, List, [], ◌∷◌, ◌++◌, ◌-◌, length, codes, Option, slice_get}
use Prim.Native.String.{String}
use Rattle.sal_types.specs.declared.value.Cell.{Cell}
use Rattle.sal_types.specs.declared.value.Cell.TheVariants.{Leaf}
use Rattle.sal_types.specs.declared.value.Atom.TheVariants.{Text}
use Rattle.sal_types.specs.declared.value.Step.{Step}
use Rattle.sal_types.specs.declared.value.Store.TheVariants.{Config}
use Rattle.sal_rows.specs.declared.op.Op.{Op}
use Rattle.sal_rows.specs.declared.batch.Part.{Part}
use Rattle.sal_rows.specs.declared.change.Change.{Change}
use Rattle.sal_rows.specs.declared.change.CandidateKind.{CandidateKind}
use Rattle.sal_history.specs.World.{Domain}
use Rattle.sal_history.specs.declared.call.Call.{Call}
use Rattle.sal_history.specs.declared.call.Call.TheVariants.{Listen, Settle, Submit, Take, Unlisten}
use Rattle.sal_history.specs.declared.call.Entry.{Entry}
use Rattle.sal_history.specs.declared.reply.Reply.{Reply}
use Rattle.sal_history.specs.Examples.{a, box, begin, by, replies}

abbrev pub listen : List Step → Call
listen path = Listen 0 Config path

-- client 1 makes a commit of the operations, with three entries from the index on, as the receipt
abbrev pub commit : ℕ → ℕ → List Op → List Entry
commit place receipt ops = by 1 begin ∷ by 1 (Submit place ops) ∷ by 1 (Settle receipt) ∷ []

-- client 0 listens at the path, client 1 makes three commits, and client 0 takes
abbrev pub watched : List Step → List Op → List Op → List Op → List Entry
watched path first second third = by 0 (listen path) ∷ (commit 1 1 first ++ commit 4 2 second ++ commit 7 3 third ++ by 0 (Take 1) ∷ [])

-- one commit before the listener's opening, and two after it; the client takes a batch after each
abbrev pub between : Op → Op → Op → List Entry
between first second third = commit 0 1 (first ∷ []) ++ by 0 (listen a) ∷ (commit 4 2 (second ∷ []) ++ by 0 (Take 1) ∷ (commit 8 3 (third ∷ []) ++ by 0 (Take 1) ∷ []))

-- two listeners of client 0; client 1 asks for the first, which client 0 then removes
abbrev pub removed : List Entry
removed = by 0 (listen a) ∷ by 0 (listen box) ∷ by 1 (Take 1) ∷ by 1 (Unlisten 1) ∷ by 0 (Unlisten 1) ∷ by 0 (Take 1) ∷ by 0 (Unlisten 1) ∷ by 0 (Take 2) ∷ by 0 (listen a) ∷ []

-- the reply to the last entry
abbrev pub last_reply : List Domain → List Entry → Option Reply
last_reply world log = slice_get (replies world log) (length log - 1)

-- a leaf's cell with a text
abbrev pub text : String → Cell
text t = Leaf (record { member = 0; atom = Text (codes t) })

-- a change of a path, and the part of a commit with one change
abbrev pub change : List Step → Option Cell → Option Cell → Change
change path before after = record { path = path; before = before; after = after }

abbrev pub part_of : ℕ → CandidateKind → Change → Part
part_of number kind c = record { commit = number; kind = kind; list = c ∷ [] }
