-- Worked examples of listeners: the steps of a client, and whole reports.
use Rattle.std.specs.Prelude.{List, [], ◌∷◌, ◌++◌, None, Some, codes}
use Prim.Native.String.{String}
use Rattle.sal_types.specs.declared.value.Cell.TheVariants.{Leaf}
use Rattle.sal_types.specs.declared.value.Atom.TheVariants.{Text}
use Rattle.sal_types.specs.declared.value.Step.TheVariants.{Node}
use Rattle.sal_types.specs.declared.value.Store.TheVariants.{Config}
use Rattle.sal_rows.specs.declared.batch.Batch.{Batch}
use Rattle.sal_rows.specs.declared.change.CandidateKind.TheVariants.{Delete as Deleted}
use Rattle.sal_script.specs.Moves.{Move, Listen, Take, Unlisten, Mirror}
use Rattle.sal_script.specs.Examples.{a, commits, put}

abbrev pub box : String
box = "/plain:box"

abbrev pub listen : String → Move
listen path = Listen 0 0 Config (codes path)

-- a client that listens to the container and makes one commit
abbrev pub watched : Move → List Move
watched write = listen box ∷ (commits write ++ Take 0 ∷ Mirror 0 ∷ [])

abbrev pub appears_report : String
appears_report =
    "order 0 0 0 0 0\n0 0 listener 1 0 absent\n0 1 begun 0\n0 2 ok\n0 3 receipt 1\n0 4 done 1\n0 5 batch 0 1 [[1,\"APPEARED\",[[\"/plain:box/a\",null,\"x\"]]]]\n0 6 mirror 1 {\"a\":\"x\"}\ntree 0 1 {\"plain:box\":{\"a\":\"x\"}} {}\n"

abbrev pub disappears_report : String
disappears_report =
    "order 0 0 0 0 0\n0 0 listener 1 0 {\"a\":\"o\"}\n0 1 begun 0\n0 2 ok\n0 3 receipt 1\n0 4 done 1\n0 5 batch 0 1 [[1,\"DISAPPEARED\",[[\"/plain:box/a\",\"o\",null]]]]\n0 6 mirror 1 absent\ntree 0 1 {} {}\n"

-- A mirror stays at the version of its last batch, whatever is committed meanwhile, and also when the listener is removed.
abbrev pub follows : List Move
follows = listen a ∷ (commits (put a "x") ++ Mirror 0 ∷ Take 0 ∷ Mirror 0 ∷ Unlisten 0 ∷ Take 0 ∷ Mirror 0 ∷ [])

abbrev pub follows_report : String
follows_report =
    "order 0 0 0 0 0 0 0\n0 0 listener 1 0 \"o\"\n0 1 begun 0\n0 2 ok\n0 3 receipt 1\n0 4 done 1\n0 5 mirror 0 \"o\"\n0 6 batch 0 1 [[1,\"WRITE\",[[\"/plain:box/a\",\"o\",\"x\"]]]]\n0 7 mirror 1 \"x\"\n0 8 ok\n0 9 refused no-listener 1\n0 10 mirror 1 \"x\"\ntree 0 1 {\"plain:box\":{\"a\":\"x\"}} {}\n"

-- the leaf is written with its present value
abbrev pub equal_report : String
equal_report =
    "order 0 0 0 0 0\n0 0 listener 1 0 {\"a\":\"o\"}\n0 1 begun 0\n0 2 ok\n0 3 receipt 1\n0 4 done 1\n0 5 batch 0 1 []\n0 6 mirror 1 {\"a\":\"o\"}\ntree 0 1 {\"plain:box\":{\"a\":\"o\"}} {}\n"

-- steps that make no call, of a domain that the script does not have, of a text that is no path, and of an empty slot; and one that does
abbrev pub refused_locally : List Move
refused_locally = Listen 0 1 Config (codes "plain") ∷ listen "plain" ∷ Take 0 ∷ Unlisten 0 ∷ Mirror 0 ∷ listen "/" ∷ Take 1 ∷ []

abbrev pub refused_locally_report : String
refused_locally_report =
    "order 0\n0 0 refused no-device\n0 1 refused path bad-text 0\n0 2 refused empty-slot\n0 3 refused empty-slot\n0 4 refused empty-slot\n0 5 listener 1 0 {}\n0 6 refused empty-slot\ntree 0 0 {} {}\n"

-- a batch in which the leaf is deleted
abbrev pub goes : Batch
goes =
    record { from = 1; to = 2; lists = record { commit = 2; kind = Deleted; list = record { path = Node 0 ∷ Node 1 ∷ []; before = Some (Leaf (record { member = 0; atom = Text (codes "o") })); after = None } ∷ [] } ∷ [] }
