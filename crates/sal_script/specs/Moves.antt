-- The steps of a client in the definitions' form: a value is the JSON data that it denotes.
use Rattle.std.specs.Prelude.{ℕ, List, Option, map}
use Rattle.sal_types.specs.declared.value.Store.{Store}
use Rattle.sal_rows.specs.declared.outcome.Mode.{Mode}
use Rattle.serde_json.specs.Data.{Data}
use Rattle.serde_json.specs.View.{view}
use Rattle.sal_script.specs.declared.script.ScriptStep.{ScriptStep}
use Rattle.sal_script.specs.declared.script.ScriptStep.TheVariants as given

pub data Move : Type 0 where
  Begin : ℕ → ℕ → Mode → Move
  Put : ℕ → Store → List ℕ → Data → Move
  Merge : ℕ → Store → List ℕ → Data → Move
  Delete : ℕ → Store → List ℕ → Move
  Read : ℕ → Store → List ℕ → Move
  Exists : ℕ → Store → List ℕ → Move
  Submit : ℕ → Move
  Cancel : ℕ → Move
  Settle : ℕ → Move
  OpenChain : ℕ → ℕ → Move
  ChainBegin : ℕ → ℕ → Mode → Move
  CloseChain : ℕ → Move
  Pump : Move
  Listen : ℕ → ℕ → Store → List ℕ → Move
  Take : ℕ → Move
  Unlisten : ℕ → Move
  Mirror : ℕ → Move
  Provide : List ℕ → Option (List ℕ) → Move
  Withdraw : List ℕ → Option (List ℕ) → Move
  Invoke : ℕ → List ℕ → Option (List ℕ) → Data → Move
  NextCall : ℕ → Move
  Answer : ℕ → Data → Move
  Collect : ℕ → Move
  Subscribe : List ℕ → Move
  Offer : List ℕ → Data → Move
  TakeNotes : Move
  Mount : ℕ → List ℕ → Move
  Unmount : ℕ → Move
  MountAt : List ℕ → Move
  Mark : ℕ → Move
  After : ℕ → Move
  Upgrade : ℕ → Move

-- the move of a step of a script
abbrev pub move_of : ScriptStep → Move
move_of (given.Begin slot domain mode) = Begin slot domain mode
move_of (given.Put slot store path value) = Put slot store path (view value)
move_of (given.Merge slot store path value) = Merge slot store path (view value)
move_of (given.Delete slot store path) = Delete slot store path
move_of (given.Read slot store path) = Read slot store path
move_of (given.Exists slot store path) = Exists slot store path
move_of (given.Submit slot) = Submit slot
move_of (given.Cancel slot) = Cancel slot
move_of (given.Settle slot) = Settle slot
move_of (given.OpenChain chain domain) = OpenChain chain domain
move_of (given.ChainBegin chain slot mode) = ChainBegin chain slot mode
move_of (given.CloseChain chain) = CloseChain chain
move_of given.Pump = Pump
move_of (given.Listen listener domain store path) = Listen listener domain store path
move_of (given.Take listener) = Take listener
move_of (given.Unlisten listener) = Unlisten listener
move_of (given.Mirror listener) = Mirror listener
move_of (given.Provide rpc context) = Provide rpc context
move_of (given.Withdraw rpc context) = Withdraw rpc context
move_of (given.Invoke call rpc context input) = Invoke call rpc context (view input)
move_of (given.NextCall request) = NextCall request
move_of (given.Answer request output) = Answer request (view output)
move_of (given.Collect call) = Collect call
move_of (given.Subscribe note) = Subscribe note
move_of (given.Offer note value) = Offer note (view value)
move_of given.TakeNotes = TakeNotes
move_of (given.Mount device path) = Mount device path
move_of (given.Unmount domain) = Unmount domain
move_of (given.MountAt path) = MountAt path
move_of (given.Mark mark) = Mark mark
move_of (given.After mark) = After mark
move_of (given.Upgrade version) = Upgrade version

abbrev pub moves_of : List ScriptStep → List Move
moves_of steps = map move_of steps

-- those of each client
abbrev pub clients_of : List (List ScriptStep) → List (List Move)
clients_of clients = map moves_of clients
