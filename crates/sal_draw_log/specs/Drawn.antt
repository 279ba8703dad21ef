-- The picture of a log: a row for each entry, in the lane of the client that made it.
use Rattle.std.specs.Prelude.{◌≡◌, ℕ, ◌+◌, not, Bool, true, false, List, [], ◌∷◌, ◌++◌, length, map, Option, Some, None, Result, IfOk, codes, decimal, if◌then◌else◌, nat_eq}
use Rattle.std.specs.List.{filter_map, fold, position_or_len}
use Rattle.sal_rows.specs.declared.outcome.Outcome.{Outcome}
use Rattle.sal_rows.specs.declared.outcome.Outcome.TheVariants.{Done}
use Rattle.sal_history.specs.declared.call.Call.{Call}
use Rattle.sal_history.specs.declared.call.Call.TheVariants.{Mount}
use Rattle.sal_history.specs.declared.call.Entry.{Entry}
use Rattle.sal_history.specs.declared.reply.Reply.{Reply}
use Rattle.sal_history.specs.declared.reply.Reply.TheVariants.{Accepted}
use Rattle.sal_history.specs.Answered.{Answered}
use Rattle.sal_history.specs.History.{history, outcomes, sents}
use Rattle.sal_history.specs.World.{Domain}
use Rattle.sal_shapes.specs.declared.scene.Made.{Made}
use Rattle.sal_shapes.specs.declared.scene.Row.{Row}
use Rattle.sal_shapes.specs.declared.scene.Scene.{Scene}
use Rattle.sal_shapes.specs.Labels.{label_text, title_text}
use Rattle.sal_shapes.specs.Shapes.{picture_of}
use Rattle.sal_shapes.specs.Svg.{svg_of}
use Rattle.sal_draw.specs.Acts.{Track, entry_acts, made_in, new_track, track_after}
use Rattle.sal_draw.specs.Looks.{call_style}
use Rattle.sal_retell.specs.Light.{has, sent_on}
use Rattle.sal_retell.specs.Told.{is_told, told}
use Rattle.sal_draw_log.specs.Words.{answer_text, call_text}
use Rattle.sal_retell.specs.declared.front.Footing.{Footing}
use Rattle.sal_draw_log.specs.declared.scenes.Weave.{Weave as CodeWeave}
use Rattle.sal_draw.specs.Acts.{track_of}

-- an entry with its reply, if that is shown
pub record Said : Type 0 where
  pub entry : Entry
  pub reply : Reply

abbrev pub said : Answered → Said
said a = record { entry = a.entry; reply = told a.entry.call a.reply }

-- ---- commits by receipt

-- the commit of an outcome, in the domain
abbrev pub made_by : ℕ → Outcome → Option Made
made_by domain (Done commit) = Some (record { domain = domain; number = commit })
made_by domain o = None

abbrev pub made_on : List Footing → List Outcome → List (Option Made)
made_on [] os = []
made_on (f ∷ fs) [] = []
made_on (f ∷ fs) (o ∷ os) = made_by f.domain o ∷ made_on fs os

-- the commits of the submissions that were decided, from receipt 1 on
abbrev pub made_of : List Answered → List (Option Made)
made_of answered = made_on (map sent_on (sents answered)) (outcomes answered)

-- ---- rows

-- a call that is done and has no other result, or whose reply is not shown
abbrev pub says_ok : Call → Reply → Bool
says_ok call Accepted = true
says_ok call reply = not (is_told call)

-- the call, with its reply if that is shown
abbrev pub title_with : Bool → List ℕ → List ℕ → List ℕ
title_with shown text replied = if shown then title_text text replied else text

abbrev pub title_of : Call → Reply → List ℕ
title_of call reply = title_with (is_told call) (call_text call) (answer_text reply)

pub record Weave : Type 0 where
  pub track : Track
  pub place : ℕ
  pub rows : List Row

abbrev pub new_weave : Weave
new_weave = record { track = new_track; place = 0; rows = [] }

-- the lane of a seat
abbrev pub lane_of : List ℕ → ℕ → ℕ
lane_of seats client = position_or_len (λ n. nat_eq n client) seats

module _ (seats : List ℕ) (made : ℕ → Option Made) where
  abbrev pub row_of : Track → ℕ → Said → Row
  row_of track place s =
      record {
        lane = lane_of seats s.entry.client;
        place = Some place;
        style = call_style s.reply;
        label = label_text (says_ok s.entry.call s.reply) (call_text s.entry.call) (answer_text s.reply);
        title = title_of s.entry.call s.reply;
        acts = entry_acts made track place s.entry.call s.reply;
        hidden = false;
      }

  -- adds one entry
  abbrev pub weave : Weave → Said → Weave
  weave w s = record { track = track_after w.track s.entry.call s.reply; place = w.place + 1; rows = w.rows ++ row_of w.track w.place s ∷ [] }

-- ---- the whole

-- The seats that made a call, in the order of their first ones. Each has a lane.
abbrev pub add_seat : List ℕ → Entry → List ℕ
add_seat seats e = if has seats e.client then seats else seats ++ e.client ∷ []

abbrev pub seats_of : List Entry → List ℕ
seats_of log = fold add_seat [] log

abbrev pub seat_name : ℕ → List ℕ
seat_name seat = codes "seat " ++ decimal seat

-- the domain that an entry mounted
abbrev pub mounted_by : Call → Reply → Option ℕ
mounted_by (Mount path device) Accepted = Some device
mounted_by call reply = None

-- a column for domain 0, and for each one that was mounted
abbrev pub columns_of : List Said → List ℕ
columns_of saids = 0 ∷ filter_map (λ s. mounted_by s.entry.call s.reply) saids

abbrev pub scene_in : List (Option Made) → List Entry → List Said → Scene
scene_in made log saids =
    record {
      lanes = map seat_name (seats_of log);
      domains = columns_of saids;
      rows = (fold (weave (seats_of log) (made_in made)) new_weave saids).rows;
    }

-- the scene of a log over a world: a function of both, by the meaning of the log
abbrev pub scene_of : List Domain → List Entry → Scene
scene_of world log = scene_in (made_of (history world log)) log (map said (history world log))

-- The picture of a log, as text
abbrev pub log_text : List Domain → List Entry → List ℕ
log_text world log = svg_of (picture_of (scene_of world log))

-- ---- for the code

-- what is made of the log over each world of this many domains, if the outcomes are those of the log over it
abbrev pub IsMadeOver : {A F : Type 0} → (List Domain → List Entry → A) → ℕ → List Entry → List Outcome → Result A F → Type 0
IsMadeOver make domains log os result = (world : List Domain) → length world ≡ domains → os ≡ outcomes (history world log) → IfOk result (λ made. made ≡ make world log)

abbrev pub weave_of : CodeWeave → Weave
weave_of w = record { track = track_of w.track; place = w.place; rows = w.rows.items }

-- an entry and its reply, one after the other
abbrev pub saids_of : List Entry → List Reply → List Said
saids_of [] rs = []
saids_of (e ∷ es) [] = []
saids_of (e ∷ es) (r ∷ rs) = record { entry = e; reply = r } ∷ saids_of es rs
