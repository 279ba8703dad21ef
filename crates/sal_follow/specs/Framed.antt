-- The export of commits: a frame for each, with its changes.
use Rattle.std.specs.Prelude.{◌≡◌, ℕ, ◌+◌, List, [], ◌∷◌, map, flat_map, length, drop, slice_index_or, nat_le, Option, Some, None, Result, Ok, Err, ⊤, if◌then◌else◌}
use Rattle.std.specs.Str.{IsUtf8}
use Rattle.serde_json.specs.Read.{read}
use Rattle.sal_types.specs.declared.row.Row.{Row}
use Rattle.sal_rows.specs.declared.change.Change.{Change}
use Rattle.sal_rows.specs.declared.rows.patch.Patch.{Patch}
use Rattle.sal_rows.specs.Changes.{changes}
use Rattle.sal_tree.specs.Rows.{rows_of}
use Rattle.sal_tree.specs.declared.commit.Commit.{Commit}
use Rattle.sal_tree.specs.declared.commit.Pair.{Pair}
use Rattle.sal_schema.specs.declared.table.SchemaTable.{SchemaTable}
use Rattle.sal_follow.specs.declared.fault.ExportFault.{ExportFault}
use Rattle.sal_follow.specs.declared.fault.ExportFault.TheVariants.{TooLong, NoMemory}
use Rattle.sal_follow.specs.declared.frame.Frame.{Frame}
use Rattle.sal_follow.specs.Front.{framed}
use Rattle.sal_follow.specs.Head.{max_text}
use Rattle.sal_follow.specs.Written.{frame_json, frame_text}

-- the trees of both stores after a commit
pub record Trees : Type 0 where
  pub config : List Row
  pub oper : List Row

abbrev pub trees_of_pair : Pair → Trees
trees_of_pair pair = record { config = rows_of pair.config; oper = rows_of pair.oper }

abbrev pub trees_of : Commit → Trees
trees_of commit = trees_of_pair commit.trees

-- ---- frames

-- the patch of a change
abbrev pub patch_by : Change → Patch
patch_by c = record { path = c.path; cell = c.after }

-- the patches from one tree to the next
abbrev pub patches : List Row → List Row → List Patch
patches before after = map patch_by (changes before after)

abbrev pub frame_of : ℕ → Trees → Trees → Frame
frame_of k before after = record { commit = k; config = patches before.config after.config; oper = patches before.oper after.oper }

-- there are no rows before the opening
abbrev pub nothing : Trees
nothing = record { config = []; oper = [] }

-- the frames of commits with these trees, of which the first has the number k
abbrev pub frames_from : ℕ → Trees → List Trees → List Frame
frames_from k before [] = []
frames_from k before (trees ∷ more) = frame_of k before trees ∷ frames_from (k + 1) trees more

-- the frame with all rows of these trees
abbrev pub snapshot : ℕ → Trees → Frame
snapshot number trees = frame_of number nothing trees

-- the frames of a stream that begins with the snapshot of the first of these trees, and goes on with those of the others
abbrev pub stream_of : ℕ → List Trees → List Frame
stream_of first trees = frames_from first nothing trees

-- the frames of a domain: that of its opening, and those of its commits
abbrev pub frames : List Trees → List Frame
frames trees = frames_from 0 nothing trees

-- the trees before the commit of this number
abbrev pub before_at : List Trees → ℕ → Trees
before_at trees k = slice_index_or (nothing ∷ trees) k nothing

-- the frames from that commit on, of which the first has this number
abbrev pub frames_on : List Trees → ℕ → ℕ → List Frame
frames_on trees k number = frames_from number (before_at trees k) (drop k trees)

-- those that have the numbers of their commits
abbrev pub frames_since : List Trees → ℕ → List Frame
frames_since trees k = frames_on trees k k

-- ---- bytes

abbrev pub frame_bytes : SchemaTable → Frame → List ℕ
frame_bytes table f = framed (frame_text table f)

abbrev pub bytes_of : SchemaTable → List Frame → List ℕ
bytes_of table fs = flat_map (frame_bytes table) fs

-- the frames of commits with these trees, one after another
abbrev pub exported : SchemaTable → List Trees → List ℕ
exported table trees = bytes_of table (frames trees)

-- those of a stream that begins with the frame of this number
abbrev pub streamed : SchemaTable → ℕ → List Trees → List ℕ
streamed table first trees = bytes_of table (stream_of first trees)

-- the commit of the first frame whose text is too long
abbrev pub too_long : SchemaTable → List Frame → Option ℕ
too_long table [] = None
too_long table (f ∷ fs) = if nat_le (length (frame_text table f)) max_text then too_long table fs else Some f.commit

-- the text of the frame is UTF-8, and is read as it was written
abbrev pub IsText : SchemaTable → Frame → Type 0
IsText table f = IsUtf8 (frame_text table f) × (read (frame_text table f) ≡ Some (frame_json table f))

abbrev pub AreTexts : SchemaTable → List Frame → Type 0
AreTexts table [] = ⊤
AreTexts table (f ∷ fs) = IsText table f × AreTexts table fs

-- these frames, each with a text that is read as it was written; or the first commit whose text is too long
abbrev pub AreExported : SchemaTable → List Frame → Result (List ℕ) ExportFault → Type 0
AreExported table fs (Ok bytes) = (bytes ≡ bytes_of table fs) × (too_long table fs ≡ None) × AreTexts table fs
AreExported table fs (Err (TooLong commit)) = too_long table fs ≡ Some commit
AreExported table fs (Err NoMemory) = ⊤

-- The result of `export` for commits with these trees: all frames.
abbrev pub Exports : SchemaTable → List Trees → Result (List ℕ) ExportFault → Type 0
Exports table trees result = AreExported table (frames trees) result

-- The result of `export_on`: the frames from the commit k on, the first with this number.
abbrev pub ExportsOn : SchemaTable → List Trees → ℕ → ℕ → Result (List ℕ) ExportFault → Type 0
ExportsOn table trees k number result = AreExported table (frames_on trees k number) result

-- The result of `export_since`: the frames from the commit of this number on.
abbrev pub ExportsSince : SchemaTable → List Trees → ℕ → Result (List ℕ) ExportFault → Type 0
ExportsSince table trees k result = ExportsOn table trees k k result

-- The result of `snapshot_of`: the frame with all rows of these trees.
abbrev pub IsSnapshot : SchemaTable → ℕ → Trees → Result (List ℕ) ExportFault → Type 0
IsSnapshot table number trees result = AreExported table (snapshot number trees ∷ []) result

-- The result of `Follower::snapshot`: that of its commit; none before its first frame.
abbrev pub IsSnapshotAt : SchemaTable → Option ℕ → Trees → Option (Result (List ℕ) ExportFault) → Type 0
IsSnapshotAt table None trees None = ⊤
IsSnapshotAt table None trees (Some result) = ⊥
IsSnapshotAt table (Some number) trees None = ⊥
IsSnapshotAt table (Some number) trees (Some result) = IsSnapshot table number trees result
