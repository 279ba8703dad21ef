-- Worked examples of clients along a log: possible and impossible results.
use Rattle.std.specs.Prelude.{ℕ, List, [], ◌∷◌, Option, None, codes}
use Prim.Native.String.{String}
use Rattle.sal_types.specs.declared.value.Store.TheVariants.{Config}
use Rattle.sal_types.specs.declared.value.Atom.TheVariants.{Text}
use Rattle.sal_types.specs.declared.value.Cell.TheVariants.{Leaf}
use Rattle.sal_types.specs.declared.value.Step.{Step}
use Rattle.sal_types.specs.declared.value.Step.TheVariants.{Node}
use Rattle.sal_rows.specs.declared.op.Op.{Op}
use Rattle.sal_rows.specs.declared.op.Act.TheVariants as acts
use Rattle.sal_rows.specs.declared.outcome.ClashKind.TheVariants.{Created}
use Rattle.sal_rows.specs.declared.outcome.Mode.TheVariants.{Ro, Rw}
use Rattle.sal_rows.specs.declared.outcome.Outcome.TheVariants.{Conflict, Done}
use Rattle.sal_history.specs.declared.call.Call.TheVariants as called
use Rattle.sal_history.specs.declared.call.Entry.{Entry}
use Rattle.sal_history.specs.declared.reply.Reply.TheVariants as answers
use Rattle.sal_script.specs.declared.reply.StepReply.{StepReply}
use Rattle.sal_script.specs.declared.reply.StepReply.TheVariants.{Called, Accepted, Refused}
use Rattle.sal_script.specs.declared.reply.StepRefusal.TheVariants.{EmptySlot, ReadOnly}
use Rattle.sal_script.specs.Moves.{Move, Begin, Submit, Cancel}
use Rattle.sal_script.specs.Along.{PerformsAlong, Left, left_along}
use Rattle.sal_script.specs.Examples.{entry, table, world_of}

-- the result of a client along a log over the schema `plain` without openings
abbrev pub leaves_along : ℕ → List Entry → List Move → Option Left
leaves_along c log steps = left_along ((table ∷ []) ∷ []) (world_of []) c log steps

abbrev pub Comes : ℕ → List Entry → List Move → List StepReply → Type 0
Comes c log steps replies = PerformsAlong ((table ∷ []) ∷ []) (world_of []) c log steps replies

-- ---- two clients that put the same leaf

abbrev pub at_a : List Step
at_a = Node 0 ∷ Node 1 ∷ []

abbrev pub puts : String → List Op
puts text = record { store = Config; path = at_a; act = acts.Put (record { path = at_a; cell = Leaf (record { member = 0; atom = Text (codes text) }) } ∷ []) } ∷ []

-- both begin before the first one submits
abbrev pub crossed_log : List Entry
crossed_log =
    entry 0 0 (called.Begin 0 Rw) ∷ entry 1 0 (called.Begin 0 Rw) ∷ entry 0 1 (called.Submit 0 (puts "x")) ∷ entry 0 2 (called.Settle 1)
    ∷ entry 1 1 (called.Submit 1 (puts "y")) ∷ entry 1 2 (called.Settle 2) ∷ []

abbrev pub first_replies : List StepReply
first_replies = Called (answers.Begun 0 None) ∷ Accepted ∷ Called (answers.Receipt 1) ∷ Called (answers.Settled 0 (Done 1)) ∷ []

abbrev pub second_replies : List StepReply
second_replies =
    Called (answers.Begun 0 None) ∷ Accepted ∷ Called (answers.Receipt 2) ∷ Called (answers.Settled 0 (Conflict Config at_a Created 1)) ∷ []

-- ---- a client that refuses two of its shared steps itself, and one that sets a mark meanwhile

abbrev pub refuses : List Move
refuses = Begin 0 0 Ro ∷ Submit 0 ∷ Cancel 0 ∷ Cancel 0 ∷ []

abbrev pub refusing_log : List Entry
refusing_log = entry 0 0 (called.Begin 0 Ro) ∷ entry 1 0 (called.Mark 7) ∷ entry 0 1 (called.Cancel 0) ∷ []

abbrev pub refusing_replies : List StepReply
refusing_replies = Called (answers.Begun 0 None) ∷ Refused ReadOnly ∷ Called answers.Accepted ∷ Refused EmptySlot ∷ []

-- ---- a client that looks for a mark before and after another sets it

abbrev pub marks_log : List Entry
marks_log = entry 0 0 (called.After 7) ∷ entry 1 0 called.Pump ∷ entry 1 1 (called.Mark 7) ∷ entry 0 1 (called.After 7) ∷ []

abbrev pub looking_replies : List StepReply
looking_replies = Called answers.Late ∷ Called answers.Found ∷ []

abbrev pub marking_replies : List StepReply
marking_replies = Called answers.Nothing ∷ Called answers.Accepted ∷ []

-- it looks twice, and no client sets the mark
abbrev pub two_looks : List Entry
two_looks = entry 0 0 (called.After 7) ∷ entry 0 1 (called.After 7) ∷ []

abbrev pub late_twice : Left
late_twice = record { log = two_looks; replies = Called answers.Late ∷ Called answers.Late ∷ [] }
