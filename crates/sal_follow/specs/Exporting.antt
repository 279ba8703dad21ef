-- The progress of an export.
use Rattle.std.specs.Prelude.{◌≡◌, ℕ, List, ◌++◌, length, nat_le, true, false, slice_index_or, Some, Result, Ok, Err, ⊤}
use Rattle.sal_types.specs.declared.row.Row.{Row}
use Rattle.sal_rows.specs.declared.rows.patch.Patch.{Patch}
use Rattle.sal_schema.specs.declared.table.SchemaTable.{SchemaTable}
use Rattle.sal_follow.specs.declared.fault.ExportFault.{ExportFault}
use Rattle.sal_follow.specs.declared.fault.ExportFault.TheVariants.{TooLong, NoMemory}
use Rattle.sal_follow.specs.declared.frame.Frame.{Frame}
use Rattle.sal_follow.specs.Framed.{Trees, nothing, before_at, frame_of, frames_on, frame_bytes, bytes_of, too_long, IsText, AreTexts}
use Rattle.sal_follow.specs.Head.{max_text}
use Rattle.sal_follow.specs.Written.{frame_text}

-- the patch that sets a row
abbrev pub patch_of : Row → Patch
patch_of row = record { path = row.path; cell = Some row.cell }

-- the frame of the commit k, with this number
abbrev pub frame_on : List Trees → ℕ → ℕ → Frame
frame_on trees k number = frame_of number (before_at trees k) (slice_index_or trees k nothing)

-- with the number of its commit
abbrev pub frame_at : List Trees → ℕ → Frame
frame_at trees k = frame_on trees k k

-- A frame was appended, with a text that is read as it was written; or its text is too long.
abbrev pub Puts : SchemaTable → Frame → List ℕ → List ℕ → Result ⊤ ExportFault → Type 0
Puts table f old new (Ok done) = (new ≡ old ++ frame_bytes table f) × (nat_le (length (frame_text table f)) max_text ≡ true) × IsText table f
Puts table f old new (Err (TooLong commit)) = (commit ≡ f.commit) × (nat_le (length (frame_text table f)) max_text ≡ false)
Puts table f old new (Err NoMemory) = ⊤

-- these bytes are those of the frames from one commit on, before the commit k; each has a text that is not too long. `first` is the number of the
-- first frame, and `number` that of the commit k.
pub record AreBetween (table : SchemaTable) (trees : List Trees) (from first : ℕ) (bytes : List ℕ) (k number : ℕ) : Type 0 where
  pub whole : bytes ++ bytes_of table (frames_on trees k number) ≡ bytes_of table (frames_on trees from first)
  pub short : too_long table (frames_on trees k number) ≡ too_long table (frames_on trees from first)
  pub texts : AreTexts table (frames_on trees k number) → AreTexts table (frames_on trees from first)
