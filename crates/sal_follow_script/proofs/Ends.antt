-- The report at the end of a stream.
use Rattle.std.proofs.Common.{◌≡◌, ℕ, List, Option, Some, Result, Ok, Err, ap, ◌∙◌, subst}
use Rattle.std.specs.Option.{option_map_or}
use Rattle.sal_schema.specs.declared.table.SchemaTable.{SchemaTable}
use Rattle.sal_follow.specs.declared.fault.FollowFault.{FollowFault}
use Rattle.sal_follow.specs.declared.fault.FollowFault.TheVariants.{BadFrame, Gap, NoMemory as Wanting}
use Rattle.sal_follow.specs.States.{Following}
use Rattle.sal_follow.specs.Stream.{Held, followed, fresh}
use Rattle.sal_prepare.specs.declared.status.Status.{Status}
use Rattle.sal_prepare.specs.declared.status.Status.TheVariants.{Done, BadWords, ReadFault, WriteFault, TooLong, BadScript, BadSchema, BadOpening, BadOrder, NoMemory, NoPart, BadStream, BadExport}
use Rattle.sal_prepare.specs.Texts.{IsTextOr, IsTextStatus}
use Rattle.sal_follow_script.specs.Follows.{fault_status, told, told_end}
use Rattle.sal_follow_script.specs.Taken.{IsFaultStatus, IsTaken}

fault_as : (made : Result (List ℕ) Status) (fault : FollowFault) (status : Status) → made ≡ Err (fault_status fault) → IsFaultStatus fault status → IsTextStatus made status
fault_as made fault NoMemory is told = tt
fault_as made fault (BadStream text) is told = is ∙ ap Err told
fault_as made fault Done is told = absurd told
fault_as made fault BadWords is told = absurd told
fault_as made fault ReadFault is told = absurd told
fault_as made fault WriteFault is told = absurd told
fault_as made fault TooLong is told = absurd told
fault_as made fault (BadScript place) is told = absurd told
fault_as made fault (BadSchema n text) is told = absurd told
fault_as made fault (BadOpening text) is told = absurd told
fault_as made fault (BadOrder index) is told = absurd told
fault_as made fault NoPart is told = absurd told
fault_as made fault (BadExport commit) is told = absurd told

faulty : (table : SchemaTable) (h : Held) (fault : FollowFault) → h.fault ≡ Some fault → told table h ≡ Err (fault_status fault)
faulty table h fault is = ap (λ (o : Option FollowFault). option_map_or (λ f. Err (fault_status f)) o (told_end table h h.version h.rest)) is

-- missing memory has its own status
no_text : (text : List ℕ) → fault_status Wanting ≡ BadStream text → ⊥
no_text text e = cc

wanting : (made : Result (List ℕ) Status) (status : Status) → IsFaultStatus Wanting status → IsTextStatus made status
wanting made NoMemory told = tt
wanting made (BadStream text) told = absurd (no_text text told)
wanting made Done told = absurd told
wanting made BadWords told = absurd told
wanting made ReadFault told = absurd told
wanting made WriteFault told = absurd told
wanting made TooLong told = absurd told
wanting made (BadScript place) told = absurd told
wanting made (BadSchema n text) told = absurd told
wanting made (BadOpening text) told = absurd told
wanting made (BadOrder index) told = absurd told
wanting made NoPart told = absurd told
wanting made (BadExport commit) told = absurd told

pub told_fault : (stream : List ℕ) (old new : Following) (fault : FollowFault) (status : Status) → IsTaken stream old new (Err fault) → IsFaultStatus fault status
    → IsTextStatus (told old.schema (followed old.schema fresh stream)) status
told_fault stream old new Wanting status taken is = wanting (told old.schema (followed old.schema fresh stream)) status is
told_fault stream old new (BadFrame at) status taken is =
    fault_as (told old.schema (followed old.schema fresh stream)) (BadFrame at) status (faulty old.schema (followed old.schema fresh stream) (BadFrame at) taken) is
told_fault stream old new (Gap want got) status taken is =
    fault_as (told old.schema (followed old.schema fresh stream)) (Gap want got) status (faulty old.schema (followed old.schema fresh stream) (Gap want got) taken) is

-- the same by the table of the follower
pub told_fault_by : (table : SchemaTable) (stream : List ℕ) (old new : Following) (fault : FollowFault) (status : Status) → old.schema ≡ table → IsTaken stream old new (Err fault) → IsFaultStatus fault status
    → IsTextStatus (told table (followed table fresh stream)) status
told_fault_by table stream old new fault status by taken is = subst (λ (t : SchemaTable). IsTextStatus (told t (followed t fresh stream)) status) by (told_fault stream old new fault status taken is)

-- the report of the follower's state is the report of the stream
pub told_taken : (table : SchemaTable) (stream : List ℕ) (old new : Following) (result : Result (List ℕ) Status) → old.schema ≡ table → IsTaken stream old new (Ok tt) → IsTextOr (told table new.held) result
    → IsTextOr (told table (followed table fresh stream)) result
told_taken table stream old new result by taken is =
    subst (λ (h : Held). IsTextOr (told table h) result) (ap (λ (f : Following). f.held) taken.0 ∙ ap (λ (t : SchemaTable). followed t fresh stream) by) is
