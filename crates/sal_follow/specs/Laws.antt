-- Laws of frames and streams.
use Rattle.std.specs.Prelude.{◌≡◌, ℕ, ◌+◌, ◌≤◌, ◌<◌, ◌^◌, ⊤, true, false, List, [], ◌∷◌, ◌++◌, length, take, drop, slice_index_or, Option, Some, None, IsTrue, Ok}
use Rattle.std.specs.List.{All, fold, concat, slice_get}
use Rattle.sal_types.specs.declared.value.Value.{Value}
use Rattle.sal_types.specs.declared.value.Cell.{Cell}
use Rattle.sal_types.specs.declared.value.Cell.TheVariants.{Mark, Leaf}
use Rattle.sal_types.specs.declared.value.Step.{Step}
use Rattle.sal_types.specs.declared.value.Step.TheVariants.{Node, Key, Item}
use Rattle.sal_schema.specs.declared.table.SchemaTable.{SchemaTable}
use Rattle.sal_types.specs.declared.row.Row.{Row}
use Rattle.sal_types.specs.Tree.{IsAscending}
use Rattle.sal_schema.specs.Fitting.{has_mark, has_own_row, is_closed}
use Rattle.sal_schema.specs.Kinds.{is_leaf}
use Rattle.sal_schema.specs.Paths.{fits_path, last_step, node_from, node_of}
use Rattle.sal_schema.specs.Table.{is_kind, keys_of}
use Rattle.sal_data.specs.Laws.{IsReadable}
use Rattle.sal_follow.specs.declared.front.Front.TheVariants.{Whole}
use Rattle.sal_follow.specs.Framed.{Trees, nothing, snapshot, frames_from, frames_on, frames_since, stream_of, bytes_of, exported, streamed, too_long, AreTexts, ExportsOn, IsSnapshot}
use Rattle.sal_follow.specs.Frames.{path_in, cell_in}
use Rattle.sal_follow.specs.Front.{front, text_in, size_of, framed}
use Rattle.sal_follow.specs.Head.{max_text}
use Rattle.sal_follow.specs.Stream.{Held, fresh_at, followed, has_state, taken}
use Rattle.sal_follow.specs.Written.{path_json, cell_json}

-- The bytes of a frame, and whatever follows them, begin with this frame.
abbrev pub FramesAreRead : Type 0
FramesAreRead =
    (text rest : List ℕ) → length text ≤ max_text
    → (front (framed text ++ rest) ≡ Whole (length text)) × (text_in (framed text ++ rest) (length text) ≡ text) × (drop (size_of (length text)) (framed text ++ rest) ≡ rest)

-- The state after the pieces is the state after their bytes.
abbrev pub PiecesDoNotMatter : Type 0
PiecesDoNotMatter = (table : SchemaTable) (h : Held) (pieces : List (List ℕ)) → fold (followed table) h pieces ≡ followed table h (concat pieces)

-- Between two frames: the state after the bytes of one, and more, is the state after the more from that after the frame.
abbrev pub TakesWholeFrames : Type 0
TakesWholeFrames =
    (table : SchemaTable) (h : Held) (bytes : List ℕ) (n : ℕ) → h.fault ≡ None → h.rest ≡ [] → front bytes ≡ Whole n
    → followed table h bytes ≡ followed table (taken table h (size_of n) (text_in bytes n)) (drop (size_of n) bytes)

-- ---- what is written is read

-- the values of keys, each of which is read as it was written
abbrev pub AreReadable : SchemaTable → List ℕ → List Value → Type 0
AreReadable table [] [] = Unit {0}
AreReadable table (leaf ∷ leafs) (value ∷ values) = IsReadable table leaf value × AreReadable table leafs values
AreReadable table leafs values = ⊥

abbrev pub IsReadableStep : SchemaTable → Option ℕ → Step → Type 0
IsReadableStep table here (Node n) = n < 2 ^ 32
IsReadableStep table (Some n) (Key values) = AreReadable table (keys_of table n) values
IsReadableStep table (Some n) (Item value) = IsReadable table n value
IsReadableStep table None step = ⊥

-- steps after a node: numbers of nodes have 32 bits, and keys and items are read as they were written
abbrev pub IsReadableFrom : SchemaTable → Option ℕ → List Step → Type 0
IsReadableFrom table here [] = Unit {0}
IsReadableFrom table here (step ∷ path) = IsReadableStep table here step × IsReadableFrom table (node_from here (step ∷ [])) path

-- A path that fits, with readable values, is read as it was written.
abbrev pub PathsReadAsWritten : Type 0
PathsReadAsWritten =
    (table : SchemaTable) (path : List Step) → length path ≤ 32 → IsTrue (fits_path table path) → IsReadableFrom table None path
    → path_in table (path_json table path) ≡ Some path

-- a cell, or none, that a path may have, with a value that is read as it was written
abbrev pub IsReadableCell : SchemaTable → List Step → Option Cell → Type 0
IsReadableCell table path None = has_own_row table path ≡ true
IsReadableCell table path (Some Mark) = has_mark table (last_step path) ≡ true
IsReadableCell table path (Some (Leaf value)) = (n : ℕ) × (last_step path ≡ Some (Node n)) × (is_kind is_leaf table n ≡ true) × IsReadable table n value

-- So is a cell.
abbrev pub CellsReadAsWritten : Type 0
CellsReadAsWritten = (table : SchemaTable) (path : List Step) (cell : Option Cell) → IsReadableCell table path cell → cell_in table path (cell_json table (node_of path) cell) ≡ Some cell

-- ---- what is exported can be followed

-- the value of a row, if it has one, is read as it was written
abbrev pub IsReadableValue : SchemaTable → Option Step → Cell → Type 0
IsReadableValue table (Some (Node n)) (Leaf value) = IsReadable table n value
IsReadableValue table step cell = ⊤

-- a row of at most 32 steps, whose keys, items and value are read as they were written
pub record IsReadableRow (table : SchemaTable) (row : Row) : Type 0 where
  pub short : length row.path ≤ 32
  pub path : IsReadableFrom table None row.path
  pub value : IsReadableValue table (last_step row.path) row.cell

-- a closed tree of such rows
pub record IsReadableTree (table : SchemaTable) (rows : List Row) : Type 0 where
  pub ascending : IsAscending rows
  pub closed : is_closed table rows ≡ true
  pub readable : All (IsReadableRow table) rows

-- trees that a follower takes: both are readable, and the configuration has no state data
pub record AreFollowed (table : SchemaTable) (trees : Trees) : Type 0 where
  pub config : IsReadableTree table trees.config
  pub oper : IsReadableTree table trees.oper
  pub stateless : has_state table trees.config ≡ false

abbrev pub trees_held : Held → Trees
trees_held h = record { config = h.config; oper = h.oper }

-- the trees of the commit of this number, of trees that are numbered from `first` on; or none before the first frame
abbrev pub AreTreesAt : ℕ → List Trees → Option ℕ → Trees → Type 0
AreTreesAt first trees None held = held ≡ nothing
AreTreesAt first trees (Some k) held = (j : ℕ) × (k ≡ first + j) × (slice_get trees j ≡ Some held)

-- no fault, and the trees of the follower's commit
abbrev pub HoldsOneOf : ℕ → List Trees → Held → Type 0
HoldsOneOf first trees h = (h.fault ≡ None) × AreTreesAt first trees h.version (trees_held h)

-- A follower of a prefix of a stream has no fault, and has the leader's trees at its commit. The stream begins with any number, and with all rows
-- of the first trees: an export is the stream from number 0 on.
abbrev pub StreamsAreFollowed : Type 0
StreamsAreFollowed =
    (table : SchemaTable) (first : ℕ) (trees : List Trees) → All (AreFollowed table) trees → AreTexts table (stream_of first trees) → too_long table (stream_of first trees) ≡ None
    → (bytes more : List ℕ) → bytes ++ more ≡ streamed table first trees → HoldsOneOf first trees (followed table (fresh_at first) bytes)

-- A follower of a whole stream has the trees of the last commit, and no bytes of an incomplete frame.
abbrev pub HoldsTheLast : Type 0
HoldsTheLast =
    (table : SchemaTable) (first : ℕ) (trees : List Trees) (last : Trees) → All (AreFollowed table) (trees ++ last ∷ []) → AreTexts table (stream_of first (trees ++ last ∷ [])) → too_long table (stream_of first (trees ++ last ∷ [])) ≡ None
    → followed table (fresh_at first) (streamed table first (trees ++ last ∷ []))
    ≡ record { first = first; version = Some (first + length trees); config = last.config; oper = last.oper; at = length (streamed table first (trees ++ last ∷ [])); rest = []; fault = None }

-- The snapshot of any of these commits, and then the frames of those after it, are a stream of the commits from it on, with any number.
abbrev pub StreamsBeginAnywhere : Type 0
StreamsBeginAnywhere =
    (table : SchemaTable) (trees : List Trees) (k number : ℕ) → k < length trees
    → bytes_of table (snapshot number (slice_index_or trees k nothing) ∷ []) ++ bytes_of table (frames_on trees (k + 1) (number + 1)) ≡ streamed table number (drop k trees)

-- So a follower of what `snapshot_of` and then `export_on` return, or of a prefix, has the leader's trees at its commit.
abbrev pub SnapshotsAreFollowed : Type 0
SnapshotsAreFollowed =
    (table : SchemaTable) (trees : List Trees) (k number : ℕ) (all after : List ℕ) → k < length trees → All (AreFollowed table) (drop k trees)
    → IsSnapshot table number (slice_index_or trees k nothing) (Ok all) → ExportsOn table trees (k + 1) (number + 1) (Ok after)
    → (bytes more : List ℕ) → bytes ++ more ≡ all ++ after → HoldsOneOf number (drop k trees) (followed table (fresh_at number) bytes)

-- The frames of the commits before one of them, and then those from that one on, are the frames of all.
abbrev pub StreamsGoOn : Type 0
StreamsGoOn = (table : SchemaTable) (trees : List Trees) (k : ℕ) → k ≤ length trees → exported table (take k trees) ++ bytes_of table (frames_since trees k) ≡ exported table trees

-- A stream that ends with the frame of a commit continues with the frames of later trees, from anywhere: with the next numbers, they are the
-- frames of all.
abbrev pub StreamsGoOnAfter : Type 0
StreamsGoOnAfter =
    (table : SchemaTable) (first : ℕ) (trees : List Trees) (last : Trees) (more : List Trees)
    → streamed table first (trees ++ last ∷ []) ++ bytes_of table (frames_from (first + length trees + 1) last more) ≡ streamed table first (trees ++ last ∷ more)

-- ---- offsets

-- The number of the first frame stays. The offset of the incomplete frame, plus its bytes, is at most the number of bytes received; without a fault
-- they are equal.
pub record IsCounted (start : ℕ) (bytes : List ℕ) (h : Held) : Type 0 where
  pub first : h.first ≡ start
  pub most : h.at + length h.rest ≤ length bytes
  pub exact : h.fault ≡ None → h.at + length h.rest ≡ length bytes

abbrev pub PlacesCountBytes : Type 0
PlacesCountBytes = (table : SchemaTable) (first : ℕ) (bytes : List ℕ) → IsCounted first bytes (followed table (fresh_at first) bytes)
