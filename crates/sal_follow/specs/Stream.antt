-- The state of a follower of a stream of frames, byte by byte: a frame is checked at the byte that completes it, or its head.
-- So the split into pieces does not matter.
use Rattle.std.specs.Prelude.{ℕ, ◌+◌, ◌==◌, ◌&&◌, Bool, not, List, [], ◌∷◌, ◌++◌, Option, Some, None, is_some, Result, Ok, Err, if◌then◌else◌}
use Rattle.std.specs.List.{fold, list_any}
use Rattle.std.specs.Option.{option_map_or}
use Rattle.sal_types.specs.declared.row.Row.{Row}
use Rattle.sal_types.specs.declared.value.Store.{Store}
use Rattle.sal_types.specs.declared.value.Store.TheVariants.{Config, Oper}
use Rattle.sal_rows.specs.Patch.{patched}
use Rattle.sal_schema.specs.declared.table.SchemaTable.{SchemaTable}
use Rattle.sal_schema.specs.Fitting.{is_closed, is_of_state}
use Rattle.sal_follow.specs.declared.fault.FollowFault.{FollowFault}
use Rattle.sal_follow.specs.declared.fault.FollowFault.TheVariants.{BadFrame, Gap}
use Rattle.sal_follow.specs.declared.frame.Frame.{Frame}
use Rattle.sal_follow.specs.declared.front.Front.{Front}
use Rattle.sal_follow.specs.declared.front.Front.TheVariants.{Part, Broken, Whole}
use Rattle.sal_follow.specs.Frames.{frame_in}
use Rattle.sal_follow.specs.Front.{front, text_in, size_of}

-- The number of the stream's first frame; the commit and its trees; the bytes of an incomplete frame, with the offset of the first of them in the
-- stream; and the first fault, after which nothing changes.
pub record Held : Type 0 where
  pub first : ℕ
  pub version : Option ℕ
  pub config : List Row
  pub oper : List Row
  pub at : ℕ
  pub rest : List ℕ
  pub fault : Option FollowFault

-- before a stream that begins with the frame of this number
abbrev pub fresh_at : ℕ → Held
fresh_at first = record { first = first; version = None; config = []; oper = []; at = 0; rest = []; fault = None }

-- before one that begins with frame 0
abbrev pub fresh : Held
fresh = fresh_at 0

abbrev pub failed : Held → FollowFault → Held
failed h fault = record h { rest = []; fault = Some fault }

-- ---- a frame

-- the number of the next commit
abbrev pub next : Held → ℕ
next h = option_map_or (λ k. k + 1) h.version h.first

abbrev pub has_state : SchemaTable → List Row → Bool
has_state table rows = list_any (λ row. is_of_state table row.path) rows

-- closed trees, and no state data in the configuration
abbrev pub are_trees : SchemaTable → List Row → List Row → Bool
are_trees table config oper = (is_closed table config && not (has_state table config)) && is_closed table oper

abbrev pub moved : Held → ℕ → ℕ → List Row → List Row → Held
moved h size k config oper = record { first = h.first; version = Some k; config = config; oper = oper; at = h.at + size; rest = []; fault = None }

abbrev pub if_trees : SchemaTable → Held → ℕ → ℕ → List Row → List Row → Held
if_trees table h size k config oper = if are_trees table config oper then moved h size k config oper else failed h (BadFrame h.at)

-- each cell of the frame set or removed, if the frame is the next one
abbrev pub if_next : SchemaTable → Held → ℕ → Frame → Held
if_next table h size f =
    if f.commit == next h then if_trees table h size f.commit (patched h.config f.config) (patched h.oper f.oper)
    else failed h (Gap (next h) f.commit)

-- after the frame of this text, of `size` bytes
abbrev pub taken : SchemaTable → Held → ℕ → List ℕ → Held
taken table h size text = option_map_or (if_next table h size) (frame_in table text) (failed h (BadFrame h.at))

-- ---- bytes

-- the bytes of the incomplete frame, checked
abbrev pub judged : SchemaTable → Held → Front → Held
judged table h Part = h
judged table h Broken = failed h (BadFrame h.at)
judged table h (Whole n) = taken table h (size_of n) (text_in h.rest n)

abbrev pub with_byte : Held → ℕ → Held
with_byte h b = record h { rest = h.rest ++ b ∷ [] }

abbrev pub after_byte : SchemaTable → Held → ℕ → Held
after_byte table h b = if is_some h.fault then h else judged table (with_byte h b) (front (h.rest ++ b ∷ []))

-- after more bytes
unfoldable pub followed : SchemaTable → Held → List ℕ → Held
followed table h bytes = fold (after_byte table) h bytes

-- the tree of a store
abbrev pub rows_held : Held → Store → List Row
rows_held h Config = h.config
rows_held h Oper = h.oper

-- a follower's answer: its commit, or the fault
abbrev pub answer : Held → Result (Option ℕ) FollowFault
answer h = option_map_or (λ fault. Err fault) h.fault (Ok h.version)
