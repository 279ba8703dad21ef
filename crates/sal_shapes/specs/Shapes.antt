-- From a scene to its shapes. Time goes down, a row of 19 pixels for each step; on the left a lane for each client, on the right a column for
-- each domain with a point for each commit.
use Rattle.std.specs.Prelude.{ℕ, ◌+◌, ◌-◌, ◌*◌, ◌/◌, ◌%◌, ◌^◌, ◌≤◌, not, ◌&&◌, ◌||◌, Bool, true, false, List, [], ◌∷◌, ◌++◌, length, map, Option, None, Some, codes, decimal, if◌then◌else◌, max, min, nat_eq, nat_lt}
use Rattle.std.specs.BTreeMap.{insert_entry, is_at}
use Rattle.std.specs.List.{flat_map, fold, list_any, position_or_len, enumerate_from}
use Rattle.std.specs.Map.{lookup}
use Rattle.std.specs.Option.{option_map_or}
use Rattle.std.specs.declared.cmp.Ordering.{Ordering}
use Rattle.sal_shapes.specs.contracts.scene.PinOrd.TheImpl as pin_ord
use Rattle.sal_shapes.specs.declared.frame.Frame.{Frame}
use Rattle.sal_shapes.specs.declared.frame.Here.{Here}
use Rattle.sal_shapes.specs.declared.scene.Act.{Act}
use Rattle.sal_shapes.specs.declared.scene.Act.TheVariants.{Joins, Sets, Spans}
use Rattle.sal_shapes.specs.declared.scene.Picture.{Picture}
use Rattle.sal_shapes.specs.declared.scene.Pin.{Pin}
use Rattle.sal_shapes.specs.declared.scene.Pin.TheVariants as pin
use Rattle.sal_shapes.specs.declared.scene.Row.{Row}
use Rattle.sal_shapes.specs.declared.scene.Scene.{Scene}
use Rattle.sal_shapes.specs.declared.scene.Shape.{Shape}
use Rattle.sal_shapes.specs.declared.scene.Shape.TheVariants.{Area, Line, Point, Words}
use Rattle.sal_shapes.specs.declared.scene.Size.{Size}
use Rattle.sal_shapes.specs.declared.scene.Spot.{Spot}
use Rattle.sal_shapes.specs.declared.scene.Style.{Style}
use Rattle.sal_shapes.specs.Labels.{shown}
use Rattle.sal_shapes.specs.declared.scene.Style.TheVariants.{Axis, Bar, Beside, Chained, Clash, Commit, Fails, Found, Gives, Hands, Heading, Lane, Local, Makes, Meaning, Number, Opening, Place, Refusal, Refused, Shared, Stands, Told}
use Rattle.sal_shapes.specs.declared.legend.TheConstants.{KEYS}

-- ---- positions

abbrev pub spot : ℕ → ℕ → Spot
spot x y = record { x = x; y = y }

abbrev pub size : ℕ → ℕ → Size
size width height = record { width = width; height = height }

abbrev pub longer : ℕ → Row → ℕ
longer n row = max n (length row.label)

-- the number of bytes of a label that are shown, by the number of lanes
abbrev pub room_for : ℕ → ℕ
room_for lanes = if nat_lt lanes 3 then 56 else (if nat_lt lanes 5 then 42 else max 18 (168 / lanes))

-- a lane has room for the longest label that is shown
abbrev pub width_of : ℕ → List Row → ℕ
width_of room rows = 40 + 7 * min (room + 2) (fold longer 8 rows)

abbrev pub lane_x : ℕ → ℕ → ℕ
lane_x width lane = 46 + lane * width

-- of this many lanes, for these domains
abbrev pub frame_of : ℕ → List Row → List ℕ → Frame
frame_of lanes rows domains =
    record { room = room_for lanes; width = width_of (room_for lanes) rows; side = lane_x (width_of (room_for lanes) rows) lanes; domains = domains }

abbrev pub column_x : Frame → ℕ → ℕ
column_x frame domain = frame.side + 40 + 70 * position_or_len (λ d. nat_eq d domain) frame.domains

-- the middle of a row
abbrev pub row_y : ℕ → ℕ
row_y row = 55 + 19 * row

-- the upper edge, the height of the openings, above the first row
abbrev pub top : ℕ
top = 40

-- the pins of a domain are in its column
abbrev pub domain_of : Pin → Option ℕ
domain_of (pin.Entry place) = None
domain_of (pin.Commit domain number) = Some domain
domain_of (pin.Gone domain) = Some domain
domain_of (pin.Receipt number) = None
domain_of (pin.Chain id) = None
domain_of (pin.Request id) = None
domain_of (pin.Output id) = None
domain_of (pin.Mark mark) = None
domain_of (pin.Offer note number) = None

abbrev pub spot_of : Frame → Here → Pin → Spot
spot_of frame here p = spot (option_map_or (column_x frame) (domain_of p) (here.x + 19)) here.y

-- the right side of a lane
abbrev pub right_of : Frame → Here → ℕ
right_of frame here = here.x + frame.width - 14

-- a line ends at the side of the lane from which it comes; in its own lane it goes straight down
abbrev pub end_of : Frame → Here → Spot → Spot
end_of frame here from = spot (if nat_lt (here.x + frame.width) from.x then right_of frame here else here.x + 19) here.y

-- A line bends where it meets its row, behind all lanes if it comes from a domain. Along the row there is no label of another lane.
abbrev pub bend_of : Frame → Here → Pin → Spot → Spot
bend_of frame here p from = spot (option_map_or (λ domain. frame.side) (domain_of p) from.x) here.y

-- ---- the picture

abbrev pub pin_cmp : Pin → Pin → Ordering
pin_cmp = (pin_ord.ghosts).cmp

-- the picture so far: its frame, the spot of each pin, the lines, the shapes above them, and the number of rows
pub record Drawn : Type 0 where
  pub frame : Frame
  pub pins : List (Pin × Spot)
  pub lines : List Shape
  pub marks : List Shape
  pub rows : ℕ

abbrev pub found : Pin → List (Pin × Spot) → Option Spot
found p pins = lookup (is_at (pin_cmp p)) pins

abbrev pub plain : Style → ℕ → ℕ → List ℕ → Shape
plain style x y text = Words style (spot x y) text text

-- a line that does not bend
abbrev pub straight : Style → Spot → Spot → Shape
straight style from to = Line style from to to

abbrev pub same_spot : Spot → Spot → Bool
same_spot a b = nat_eq a.x b.x && nat_eq a.y b.y

-- the spot is that of the domain's commit with this number
abbrev pub stands_at : List (Pin × Spot) → ℕ → ℕ → Spot → Bool
stands_at pins domain number s = option_map_or (same_spot s) (found (pin.Commit domain number) pins) false

-- An entry that decided several commits has their points at one spot, and their numbers side by side: this number's position, 2 for two dots. From
-- 1,000 on there is room for one number.
abbrev pub beside : List (Pin × Spot) → ℕ → ℕ → Spot → ℕ
beside pins domain number s =
    if stands_at pins domain (number - 1) s then (if nat_lt 999 number || stands_at pins domain (number - 2) s then 2 else 1) else 0

-- the number of a commit at its position beside the others, or two dots
abbrev pub number_mark : ℕ → ℕ → Spot → Shape
number_mark before number s = Words (if nat_lt 0 before then Beside else Number) (spot (s.x + 8 + 21 * min before 2) (s.y + 4)) (if nat_lt before 2 then decimal number else codes "..") (decimal number)

-- the point of a commit with its number, that of an opening, or of an end
abbrev pub pin_marks : List (Pin × Spot) → Pin → Spot → List Shape
pin_marks pins (pin.Entry place) s = []
pin_marks pins (pin.Commit domain number) s = if nat_eq number 0 then Point Opening s ∷ [] else Point Commit s ∷ number_mark (beside pins domain number s) number s ∷ []
pin_marks pins (pin.Gone domain) s = Point Opening s ∷ []
pin_marks pins (pin.Receipt number) s = []
pin_marks pins (pin.Chain id) s = []
pin_marks pins (pin.Request id) s = []
pin_marks pins (pin.Output id) s = []
pin_marks pins (pin.Mark mark) s = []
pin_marks pins (pin.Offer note number) s = []

abbrev pub if_shown : Bool → List Shape → List Shape
if_shown shown shapes = if shown then shapes else []

-- sets the spot of the pin
abbrev pub set_pin : Bool → Pin → Spot → Drawn → Drawn
set_pin shown p s d =
    record d { pins = insert_entry pin_cmp d.pins p s; marks = d.marks ++ if_shown shown (pin_marks (insert_entry pin_cmp d.pins p s) p s) }

-- a line from this spot of the pin
abbrev pub line_of : Style → Frame → Here → Pin → Spot → Shape
line_of style frame here p from = Line style from (bend_of frame here p from) (end_of frame here from)

-- a line from the spot of the pin, if it has one
abbrev pub join_line : Style → Frame → Here → Pin → Option Spot → List Shape
join_line style frame here p None = []
join_line style frame here p (Some from) = line_of style frame here p from ∷ []

-- a bar from the begin of the transaction; neighbours are side by side
abbrev pub bar : Here → ℕ → Spot → Shape
bar here place from = Area Bar (spot (here.x + 2 + 5 * (place % 3)) from.y) (size 4 (here.y + 5 - from.y))

abbrev pub bar_from : Here → ℕ → Option Spot → List Shape
bar_from here place None = []
bar_from here place (Some from) = bar here place from ∷ []

abbrev pub act : Here → Drawn → Act → Drawn
act here d (Sets p) = set_pin here.shown p (spot_of d.frame here p) d
act here d (Joins style p) = record d { lines = d.lines ++ if_shown here.shown (join_line style d.frame here p (found p d.pins)) }
act here d (Spans place) = record d { marks = d.marks ++ if_shown here.shown (bar_from here place (found (pin.Entry place) d.pins)) }

abbrev pub acts : Here → List Act → Drawn → Drawn
acts here list d = fold (act here) d list

abbrev pub place_words : ℕ → Option ℕ → List Shape
place_words y None = []
place_words y (Some place) = plain Place 40 (y + 4) (decimal place) ∷ []

abbrev pub refusal_point : Here → Style → List Shape
refusal_point here Refused = Point Refusal (spot (here.x + 19) here.y) ∷ []
refusal_point here style = []

-- the texts of a row
abbrev pub row_words : ℕ → Here → Row → List Shape
row_words room here row =
    place_words here.y row.place ++ (refusal_point here row.style ++ Words row.style (spot (here.x + 27) (here.y + 4)) (shown room row.label) row.title ∷ [])

abbrev pub here_of : Row → Drawn → Here
here_of row d = record { x = lane_x d.frame.width row.lane; y = if row.hidden then top else row_y d.rows; shown = not row.hidden }

-- the texts of a row that is drawn
abbrev pub with_words : Here → Row → Drawn → Drawn
with_words here row d =
    record d { marks = d.marks ++ if_shown here.shown (row_words d.frame.room here row); rows = d.rows + (if here.shown then 1 else 0) }

-- one row more
abbrev pub draw_row : Drawn → Row → Drawn
draw_row d row = acts (here_of row d) row.acts (with_words (here_of row d) row d)

-- ---- the whole

-- domain 0 exists from the beginning on
abbrev pub opening : Frame → Drawn
opening frame = set_pin true (pin.Commit 0 0) (spot (column_x frame 0) top) (record { frame = frame; pins = []; lines = []; marks = []; rows = 0 })

abbrev pub height_of : Option Spot → ℕ → ℕ
height_of place y = option_map_or (λ (s : Spot). s.y) place y

-- a client's lane, down to the bottom
abbrev pub lane_shapes : ℕ → ℕ → (ℕ × List ℕ) → List Shape
lane_shapes width bottom (lane, name) =
    Area Lane (spot (lane_x width lane) 8) (size (width - 8) (bottom - 8)) ∷ plain Heading (lane_x width lane + 8) 26 name ∷ []

abbrev pub domain_name : ℕ → List ℕ
domain_name domain = codes "domain " ++ decimal domain

-- a domain's line, from its opening to its end or to the bottom
abbrev pub axis : Drawn → ℕ → Shape
axis d domain =
    straight Axis (spot (column_x d.frame domain) (height_of (found (pin.Commit domain 0) d.pins) top)) (spot (column_x d.frame domain) (height_of (found (pin.Gone domain) d.pins) (row_y d.rows)))

abbrev pub domain_shapes : Drawn → ℕ → List Shape
domain_shapes d domain = axis d domain ∷ plain Heading (column_x d.frame domain - 28) 26 (domain_name domain) ∷ []

-- ---- the legend

-- the styles that the legend explains, in its order
abbrev pub keys : List Style
keys = KEYS

-- the position of a style among these, from 1 on
abbrev pub rank : Style → ℕ
rank Bar = 1
rank Local = 2
rank Stands = 3
rank Makes = 4
rank Told = 5
rank Clash = 6
rank Fails = 7
rank Gives = 8
rank Hands = 9
rank Found = 10
rank Chained = 11
rank Commit = 12
rank Beside = 13
rank Opening = 14
rank Refusal = 15
rank Lane = 0
rank Axis = 0
rank Heading = 0
rank Shared = 0
rank Refused = 0
rank Place = 0
rank Number = 0
rank Meaning = 0

abbrev pub meaning : Style → List ℕ
meaning Bar = codes "a transaction, from begin to submit or cancel"
meaning Local = codes "a step that its client does alone"
meaning Stands = codes "the commit, or the pending submission, on which it stands"
meaning Makes = codes "the entry that decided a commit"
meaning Told = codes "who is told of it as its own"
meaning Clash = codes "a conflict, and the commit that it names"
meaning Fails = codes "what a chain failed by, or the end of the domain"
meaning Gives = codes "a commit in a listener's batch"
meaning Hands = codes "a request, its answer, or a notification, to who takes it"
meaning Found = codes "a mark, and where it was found"
meaning Chained = codes "one transaction of a chain to the next"
meaning Commit = codes "a commit, with its number"
meaning Beside = codes "further commits at one point: the same entry decided them"
meaning Opening = codes "a domain's opening, or its end"
meaning Refusal = codes "refused, or not done"
meaning Lane = []
meaning Axis = []
meaning Heading = []
meaning Shared = []
meaning Refused = []
meaning Place = []
meaning Number = []
meaning Meaning = []

abbrev pub style_of : Shape → Style
style_of (Area style at size) = style
style_of (Line style from by to) = style
style_of (Point style at) = style
style_of (Words style at text title) = style

-- a shape has this style
abbrev pub is_drawn : List Shape → Style → Bool
is_drawn shapes key = list_any (λ s. nat_eq (rank (style_of s)) (rank key)) shapes

abbrev pub if_drawn : List Shape → Style → List Style
if_drawn shapes style = if is_drawn shapes style then style ∷ [] else []

-- those of these styles that shapes have
abbrev pub drawn_among : List Shape → List Style → List Style
drawn_among shapes styles = flat_map (if_drawn shapes) styles

-- the styles of the legend that these shapes have
abbrev pub drawn_keys : List Shape → List Style
drawn_keys shapes = drawn_among shapes keys

abbrev pub above : ℕ → ℕ
above y = y - 5

abbrev pub line_sample : Style → ℕ → Shape
line_sample style y = straight style (spot 8 y) (spot 48 y)

-- the style as it is drawn, in the line of the legend with its middle at y
abbrev pub sample : Style → ℕ → Shape
sample Bar y = Area Bar (spot 24 (above y)) (size 4 11)
sample Local y = plain Local 8 (y + 4) (codes "read")
sample Beside y = plain Beside 20 (y + 4) (codes "2 ..")
sample Commit y = Point Commit (spot 26 y)
sample Opening y = Point Opening (spot 26 y)
sample Refusal y = Point Refusal (spot 26 y)
sample style y = line_sample style y

-- a line of the legend, with its middle at y
abbrev pub key_at : ℕ → Style → List Shape
key_at y style = sample style y ∷ plain Meaning 58 (y + 4) (meaning style) ∷ []

-- the legend of these styles, with the middle of its first line at y
abbrev pub legend : ℕ → List Style → List Shape
legend y [] = []
legend y (style ∷ styles) = key_at y style ++ legend (y + 16) styles

-- ---- the whole picture

-- the width of the legend
abbrev pub legend_width : ℕ
legend_width = 470

-- without the legend
abbrev pub size_of : Drawn → Size
size_of d = size (max legend_width (d.frame.side + 40 + 70 * length d.frame.domains)) (row_y d.rows)

abbrev pub all_shapes : List (List ℕ) → Drawn → List Shape
all_shapes lanes d = flat_map (lane_shapes d.frame.width (row_y d.rows)) (enumerate_from 0 lanes) ++ (flat_map (domain_shapes d) d.frame.domains ++ (d.lines ++ d.marks))

-- a picture of this size, with these lines of a legend below
abbrev pub with_keys : Size → List Shape → List Style → Picture
with_keys bare shapes styles = record { size = size bare.width (bare.height + 16 * length styles + 18); shapes = shapes ++ legend (bare.height + 13) styles }

-- the legend has what the shapes show
unfoldable pub with_legend : Size → List Shape → Picture
with_legend bare shapes = with_keys bare shapes (drawn_keys shapes)

abbrev pub picture_with : List (List ℕ) → Drawn → Picture
picture_with lanes d = with_legend (size_of d) (all_shapes lanes d)

abbrev pub picture_of : Scene → Picture
picture_of scene = picture_with scene.lanes (fold draw_row (opening (frame_of (length scene.lanes) scene.rows scene.domains)) scene.rows)

-- ---- for the code

-- the numbers fit

pub record Fits (frame : Frame) : Type 0 where
  pub narrow : frame.width ≤ 450
  pub near : frame.side ≤ 2 ^ 42
  pub few : length frame.domains ≤ 2 ^ 32

pub record IsNear (here : Here) : Type 0 where
  pub x : here.x ≤ 2 ^ 42
  pub y : here.y ≤ 2 ^ 42
