-- The rows of a played script: its entries in the order of the log, and above each the local steps that its client did before.
use Rattle.std.specs.Prelude.{ℕ, ◌+◌, Bool, true, false, not, List, [], ◌∷◌, ◌++◌, length, map, take, drop, Option, None, Some, codes, decimal, if◌then◌else◌, nat_le, nat_lt, slice_get, slice_set, Vec}
use Rattle.std.specs.Borrow.{Bor}
use Rattle.std.specs.declared.alloc.Global.{Global}
use Rattle.std.specs.declared.sync.Arc.{Arc}
use Rattle.std.specs.List.{fold, position_or_len, range_with_len, zip}
use Rattle.sal_schema.specs.declared.table.SchemaTable.{SchemaTable}
use Rattle.sal_history.specs.declared.call.Call.{Call}
use Rattle.sal_history.specs.declared.call.Entry.{Entry}
use Rattle.sal_history.specs.declared.reply.Reply.{Reply}
use Rattle.sal_script.specs.declared.reply.StepReply.{StepReply}
use Rattle.sal_script.specs.declared.reply.StepReply.TheVariants as step_reply
use Rattle.sal_script.specs.Moves.{Move, move_of}
use Rattle.sal_script.specs.Report.{reply_text}
use Rattle.sal_shapes.specs.declared.scene.Act.{Act}
use Rattle.sal_shapes.specs.declared.scene.Made.{Made}
use Rattle.sal_shapes.specs.declared.scene.Row.{Row}
use Rattle.sal_shapes.specs.declared.scene.Scene.{Scene}
use Rattle.sal_draw_script.specs.declared.rows.Bead.{Bead as CodeBead}
use Rattle.sal_draw_script.specs.declared.rows.Range.{Range}
use Rattle.sal_draw_script.specs.declared.rows.Weave.{Weave as CodeWeave}
use Rattle.sal_draw.specs.Acts.{Track, entry_acts, new_track, track_after, track_of}
use Rattle.sal_shapes.specs.Labels.{label_text, title_text}
use Rattle.sal_draw_script.specs.Labels.{says_ok, style_of}
use Rattle.sal_draw_script.specs.Steps.{step_text}

-- a step with the reply to it
pub record Bead : Type 0 where
  pub step : Move
  pub reply : StepReply

abbrev pub bead : Move × StepReply → Bead
bead (step, reply) = record { step = step; reply = reply }

-- the steps of a client with their replies
abbrev pub beads : List Move → List StepReply → List Bead
beads steps replies = map bead (zip steps replies)

abbrev pub client_beads : List Move × List StepReply → List Bead
client_beads (steps, replies) = beads steps replies

-- the steps of each client with their replies
abbrev pub all_beads : List (List Move) → List (List StepReply) → List (List Bead)
all_beads clients replies = map client_beads (zip clients replies)

-- a step without a shared call
abbrev pub is_local : StepReply → Bool
is_local (step_reply.Called r) = false
is_local r = true

-- the number of local steps before the next shared call
abbrev pub locals : List Bead → ℕ
locals bs = position_or_len (λ (b : Bead). not (is_local b.reply)) bs

-- the state of the drawing: the remaining steps of each client, the state after the entries above, their number, and the rows
pub record Weave : Type 0 where
  pub left : List (List Bead)
  pub track : Track
  pub place : ℕ
  pub rows : List Row

abbrev pub new_weave : List (List Bead) → Weave
new_weave left = record { left = left; track = new_track; place = 0; rows = [] }

module _ (tables : List SchemaTable) where
  abbrev pub row_of : ℕ → Option ℕ → List Act → Bool → Bead → Row
  row_of lane place acts hidden b =
      record {
        lane = lane;
        place = place;
        style = style_of b.reply;
        label = label_text (says_ok b.reply) (step_text b.step) (reply_text tables b.reply);
        title = title_text (step_text b.step) (reply_text tables b.reply);
        acts = acts;
        hidden = hidden;
      }

  -- a local step
  abbrev pub local_row : ℕ → Bool → Bead → Row
  local_row lane hidden b = row_of lane None [] hidden b

  -- adds these local steps, and skips the shared call after them
  abbrev pub with_locals : ℕ → Bool → List Bead → Weave → Weave
  with_locals lane hidden bs w =
      record w { left = slice_set w.left lane (drop (locals bs + 1) bs); rows = w.rows ++ map (local_row lane hidden) (take (locals bs) bs) }

  module _ (made : ℕ → Option Made) where
    abbrev pub next : Weave → Weave
    next w = record w { place = w.place + 1 }

    -- a shared call with its reply
    abbrev pub called : ℕ → Option ℕ → Bool → Call → Bead → Reply → Weave → Weave
    called lane place hidden call b r w =
        record w { track = track_after w.track call r; rows = w.rows ++ row_of lane place (entry_acts made w.track w.place call r) hidden b ∷ [] }

    -- the shared call of the client in this lane
    abbrev pub shared_by : ℕ → Bool → Call → Bead → StepReply → Weave → Weave
    shared_by lane hidden call b (step_reply.Called r) w = called lane (Some w.place) hidden call b r w
    shared_by lane hidden call b r w = w

    abbrev pub shared : ℕ → Bool → Call → Option Bead → Weave → Weave
    shared lane hidden call None w = w
    shared lane hidden call (Some b) w = shared_by lane hidden call b b.reply w

    -- adds the client's local steps, and its shared call
    abbrev pub turn : ℕ → Bool → Call → Option (List Bead) → Weave → Weave
    turn lane hidden call None w = w
    turn lane hidden call (Some bs) w = shared lane hidden call (slice_get bs (locals bs)) (with_locals lane hidden bs w)

    -- Adds one entry; those before the first index are not drawn
    abbrev pub weave : ℕ → Weave → Entry → Weave
    weave from w e = next (turn e.client (nat_lt w.place from) e.call (slice_get w.left e.client) w)

  -- the remaining local steps of the clients from this lane on
  abbrev pub rest_rows : ℕ → List (List Bead) → List Row
  rest_rows lane [] = []
  rest_rows lane (bs ∷ more) = map (local_row lane false) bs ++ rest_rows (lane + 1) more

  -- These are below the last entry, if that is drawn
  abbrev pub ended : Range → List Entry → Weave → List Row
  ended range log w = w.rows ++ (if nat_le (length log) (range.to + 1) then rest_rows 0 w.left else [])

  -- the rows of a log, and of the steps of its clients
  abbrev pub rows_of : (ℕ → Option Made) → Range → List (List Bead) → List Entry → List Row
  rows_of made range left log =
      ended range log (fold (weave made range.from) (new_weave left) (take (range.to + 1) log))

-- the headings of the clients
abbrev pub client_name : ℕ → List ℕ
client_name lane = codes "client " ++ decimal lane

-- the scene of a played script over these domains
abbrev pub scene_of : List SchemaTable → (ℕ → Option Made) → Range → List ℕ → List (List Bead) → List Entry → Scene
scene_of tables made range domains left log =
    record { lanes = map client_name (range_with_len 0 (length left)); domains = domains; rows = rows_of tables made range left log }

-- ---- for the code

-- the tables of schemas that are shared
abbrev pub tables_in : List (Arc SchemaTable Global) → List SchemaTable
tables_in schemas = map (λ (s : Arc SchemaTable Global). s.value) schemas

abbrev pub bead_of : CodeBead → Bead
bead_of b = record { step = move_of b.step.now; reply = b.reply.now }

abbrev pub beads_of : Vec CodeBead Global → List Bead
beads_of list = map bead_of list.items

abbrev pub beads_in : Bor (List CodeBead) → List Bead
beads_in list = map bead_of list.now

abbrev pub weave_of : CodeWeave → Weave
weave_of w = record { left = map beads_in w.left.items; track = track_of w.track; place = w.place; rows = w.rows.items }
