-- The text of `follow`: the trees of a follower at the end of a stream.
use Rattle.std.specs.Prelude.{ℕ, List, [], ◌∷◌, ◌++◌, Option, Some, Result, Ok, Err, codes, decimal}
use Rattle.std.specs.Option.{option_map_or}
use Rattle.sal_types.specs.Reading.{◌>>=◌}
use Rattle.sal_schema.specs.declared.table.SchemaTable.{SchemaTable}
use Rattle.sal_follow.specs.declared.fault.FollowFault.{FollowFault}
use Rattle.sal_follow.specs.declared.fault.FollowFault.TheVariants.{BadFrame, Gap, NoMemory as Wanting}
use Rattle.sal_follow.specs.Stream.{Held, followed, fresh}
use Rattle.sal_script.specs.Report.{tree_line}
use Rattle.sal_script.specs.Script.{script_of}
use Rattle.sal_prepare.specs.declared.status.Status.{Status}
use Rattle.sal_prepare.specs.declared.status.Status.TheVariants.{BadStream, NoMemory, NoPart}
use Rattle.sal_prepare.specs.OwnSchemas.{own_table}
use Rattle.sal_prepare.specs.Parted.{Parted, parted}
use Rattle.sal_prepare.specs.Scripted.{or_script}

-- ---- the state at the end of a stream

-- the status of a fault
abbrev pub fault_status : FollowFault → Status
fault_status (BadFrame at) = BadStream (codes "bad-frame " ++ decimal at)
fault_status (Gap want got) = BadStream (codes "gap " ++ (decimal want ++ (32 ∷ decimal got)))
fault_status Wanting = NoMemory

-- the status of a stream whose last frame begins at this offset and does not end, or is absent
abbrev pub unfinished : ℕ → Status
unfinished at = BadStream (codes "unfinished " ++ decimal at)

-- the line of domain 0 with the trees of the follower's commit, if no byte of another frame remains
abbrev pub told_end : SchemaTable → Held → Option ℕ → List ℕ → Result (List ℕ) Status
told_end table h (Some commit) [] = Ok (tree_line (table ∷ []) (record { domain = 0; commits = commit; config = h.config; oper = h.oper }))
told_end table h version rest = Err (unfinished h.at)

abbrev pub told : SchemaTable → Held → Result (List ℕ) Status
told table h = option_map_or (λ fault. Err (fault_status fault)) h.fault (told_end table h h.version h.rest)

-- ---- a script, and a stream

-- the trees of the stream, by the last version of the schema of the script's own modules and upgrades
abbrev pub follow_parts : Parted → Result (List ℕ) Status
follow_parts input = or_script (script_of input.first) >>= (λ parts. own_table parts >>= (λ table. told table (followed table fresh input.second)))

-- The same of an input that a zero byte divides.
abbrev pub follow_text : List ℕ → Result (List ℕ) Status
follow_text bytes = option_map_or follow_parts (parted bytes) (Err NoPart)
