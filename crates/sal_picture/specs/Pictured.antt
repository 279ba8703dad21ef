-- The picture of a played script, as text.
use Rattle.std.specs.Prelude.{ℕ, List, Option, None, Some, Result, Ok, Err}
use Rattle.std.specs.Option.{option_map_or}
use Rattle.sal_types.specs.Reading.{◌>>=◌}
use Rattle.sal_history.specs.World.{Domain}
use Rattle.sal_hub.specs.HubHistory.{HubHistory}
use Rattle.sal_script.specs.Moves.{Move}
use Rattle.sal_script.specs.Play.{Played, play}
use Rattle.sal_script.specs.Report.{told_domains}
use Rattle.sal_script.specs.Tables.{tables_of}
use Rattle.sal_prepare.specs.Parted.{Parted, parted}
use Rattle.sal_prepare.specs.Scripted.{prepared}
use Rattle.sal_prepare.specs.declared.status.Status.{Status}
use Rattle.sal_prepare.specs.declared.status.Status.TheVariants.{BadOrder}
use Rattle.sal_shapes.specs.declared.scene.Scene.{Scene}
use Rattle.sal_shapes.specs.Shapes.{picture_of}
use Rattle.sal_shapes.specs.Svg.{svg_of}
use Rattle.sal_draw_script.specs.declared.rows.Range.{Range}
use Rattle.sal_draw_script.specs.Rows.{all_beads, scene_of}
use Rattle.sal_picture.specs.Made.{made_at}
use Rattle.sal_picture.specs.Order.{first_line, order_of}

-- ---- the scene of the clients' steps

abbrev pub known : List Domain → Played → HubHistory
known world played = record { world = world; log = played.log }

-- the scene of these clients' steps
abbrev pub scene_in : Range → List (List Move) → List Domain → Played → Scene
scene_in range clients world played =
    scene_of (tables_of world) (made_at (known world played)) range (told_domains world played.log) (all_beads clients played.replies) played.log

abbrev pub played_text : Range → List (List Move) → List Domain → Played → List ℕ
played_text range clients world played = svg_of (picture_of (scene_in range clients world played))

-- or the index at which the order fails
abbrev pub play_text : Range → List (List Move) → List Domain → Result Played ℕ → Result (List ℕ) Status
play_text range clients world (Ok played) = Ok (played_text range clients world played)
play_text range clients world (Err index) = Err (BadOrder index)

-- the picture of these clients, played over a world in an order
abbrev pub drawn_over : Range → List (List Move) → List Domain → List ℕ → Result (List ℕ) Status
drawn_over range clients world order = play_text range clients world (play world clients order)

-- ---- the picture of an input

-- the order of a report, or else the script's own
abbrev pub order_for : List ℕ → Option (List ℕ) → List ℕ
order_for own None = own
order_for own (Some report) = order_of (first_line report)

-- A script is drawn in its own order, or in that of a report. A fault of the script is returned first.
abbrev pub drawn : Range → List ℕ → Option (List ℕ) → Result (List ℕ) Status
drawn range bytes report = prepared bytes >>= (λ script. drawn_over range script.parts.clients script.world (order_for script.parts.order report))

-- of a script and a report with a zero byte between
abbrev pub drawn_parts : Range → Parted → Result (List ℕ) Status
drawn_parts range both = drawn range both.first (Some both.second)

abbrev pub draw_text : Range → List ℕ → Result (List ℕ) Status
draw_text range bytes = option_map_or (drawn_parts range) (parted bytes) (drawn range bytes None)
