-- The meaning of each status of the command.
use Rattle.std.specs.Prelude.{◌≡◌, ◌⊎◌, ℕ, ◌≤◌, ⊤, List, MatchResult, Option, None, Some, Result, Ok, Err, Vec, length}
use Rattle.std.specs.Io.KnownBytes.{Appends}
use Rattle.std.specs.declared.alloc.Global.{Global}
use Rattle.sal_io.specs.Transfer.{TakesAll, TakesSome, TakesFront}
use Rattle.sal_types.specs.Reading.{◌>>=◌}
use Rattle.sal_schema.specs.Text.{table_text}
use Rattle.sal_history.specs.World.{Domain}
use Rattle.sal_script.specs.Script.{Parts, script_of}
use Rattle.sal_script.specs.Play.{Played, play}
use Rattle.sal_script.specs.Report.{report}
use Rattle.sal_script.specs.SomeOrder.{IsReportInSomeOrder}
use Rattle.sal_script_laws.specs.Numbers.{load_text}
use Rattle.sal_owner_script.specs.Replies as replies
use Rattle.sal_versions.specs.Schemas.{table_of}
use Rattle.sal_prepare.specs.Scripted.{IsStatusOf, Prepared, or_schema, or_script, prepared}
use Rattle.sal_prepare.specs.Texts.{IsTextStatus}
use Rattle.sal_feed_script.specs.Feeding.{feed_text}
use Rattle.sal_lint.specs.declared.places.Place.{Place}
use Rattle.sal_lint_script.specs.Linted.{lint_text, status_of}
use Rattle.sal_follow_script.specs.Exports.{export_text}
use Rattle.sal_follow_script.specs.Follows.{follow_text}
use Rattle.sal_picture.specs.Pictured.{draw_text}
use Rattle.sal_audit.specs.Audited.{audit_text}
use Rattle.sal_command.specs.declared.top.TheConstants.{HELP, VERSION}
use Rattle.sal_prepare.specs.declared.status.Status.{Status}
use Rattle.sal_prepare.specs.declared.status.Status.TheVariants.{Done, BadWords, ReadFault, WriteFault, TooLong, BadScript, BadSchema, BadOpening, BadOrder, NoMemory, NoPart, BadStream, BadExport}
use Rattle.sal_command.specs.declared.words.Form.{Form}
use Rattle.sal_command.specs.declared.texts.Made.{Made}
use Rattle.sal_command.specs.declared.texts.Made.TheVariants as made_as
use Rattle.sal_command.specs.declared.words.Form.TheVariants.{Run, Lint, Text, Load, Feed, Help, Version}
use Rattle.sal_command.specs.declared.words.TextForm.{TextForm}
use Rattle.sal_command.specs.declared.words.TextForm.TheVariants.{Sim, Schema, Owner, Export, Follow, Draw, Audit}

-- ---- the result of a script

-- the report of a play, or the index at which the order fails
abbrev pub text_of_play : List Domain → Result Played ℕ → Result (List ℕ) Status
text_of_play world (Ok played) = Ok (report world played)
text_of_play world (Err index) = Err (BadOrder index)

abbrev pub play_over : Parts → List Domain → Result (List ℕ) Status
play_over parts world = text_of_play world (play world parts.clients parts.order)

-- The report of the script that the bytes denote, played in its order. An earlier fault is returned first.
abbrev pub sim_text : List ℕ → Result (List ℕ) Status
sim_text bytes = prepared bytes >>= (λ script. play_over script.parts script.world)

-- The same script, its clients run at the same time: the same earlier faults, and then the report of one order of their
-- shared calls, the one on the text's own first line. The order of the script is not used, and so is never a fault.
abbrev pub RunsTo : List ℕ → Result (List ℕ) Status → Type 0
RunsTo bytes (Ok text) = (script : Prepared) × (prepared bytes ≡ Ok script) × IsReportInSomeOrder script.world script.parts.clients text
RunsTo bytes (Err (BadOrder index)) = ⊥
RunsTo bytes (Err NoPart) = ⊥
RunsTo bytes (Err (BadStream text)) = ⊥
RunsTo bytes (Err (BadExport commit)) = ⊥
RunsTo bytes (Err status) = prepared bytes ≡ Err status

-- A load: the one summary of its clients, for any order of their shared calls. Its own script is always a script,
-- so there is no other result.
abbrev pub LoadsTo : ℕ → ℕ → List ℕ → Type 0
LoadsTo rounds start text = text ≡ load_text rounds start

-- A feed: the one text of its notifications, for any schedule of the threads.
abbrev pub FeedsTo : ℕ → ℕ → List ℕ → Type 0
FeedsTo notes capacity text = text ≡ feed_text notes capacity

-- the text of the schema that the modules of the controller's own domain build
abbrev pub modules_text : List (List ℕ) → Result (List ℕ) Status
modules_text modules = or_schema 0 (table_of modules) >>= (λ table. Ok (table_text table))

-- the same for the modules of the script
abbrev pub schema_text : List ℕ → Result (List ℕ) Status
schema_text bytes = or_script (script_of bytes) >>= (λ parts. modules_text parts.modules)

-- the text, or the first fault as the status
abbrev pub or_bad_script : Result (List ℕ) (List ℕ) → Result (List ℕ) Status
or_bad_script (Ok text) = Ok text
or_bad_script (Err place) = Err (BadScript place)

-- the replies to the steps of owners that the bytes denote, made in their order
abbrev pub owner_text : List ℕ → Result (List ℕ) Status
owner_text bytes = or_bad_script (replies.owner_text bytes)

-- the text of a form that depends on its input alone, or the status of the first fault
abbrev pub made_text : TextForm → List ℕ → Result (List ℕ) Status
made_text Sim bytes = sim_text bytes
made_text Schema bytes = schema_text bytes
made_text Owner bytes = owner_text bytes
made_text Export bytes = export_text bytes
made_text Follow bytes = follow_text bytes
made_text (Draw range) bytes = draw_text range bytes
made_text Audit bytes = audit_text bytes

-- the text of the bytes, or its status, is this one
abbrev pub IsMadeBy : (List ℕ → Result (List ℕ) Status) → List ℕ → Result (List ℕ) Status → Type 0
IsMadeBy make bytes answer = make bytes ≡ answer

-- ---- the effect of the command

-- a text was written, whole or, at a write fault, a prefix of it
abbrev pub Written : List ℕ → Option (List ℕ) → Option (List ℕ) → Status → Type 0
Written text given given' Done = Appends given given' text
Written text given given' WriteFault = (rest : List ℕ) × TakesFront given given' text rest
Written text given given' status = ⊥

-- all bytes of the input, at most 16,777,216, and their result
pub record ReadsInput (comes : List ℕ → Result (List ℕ) Status → Type 0) (before after : Option (List ℕ)) (answer : Result (List ℕ) Status) : Type 0 where
  pub bytes : List ℕ
  pub taken : TakesAll before after bytes
  pub within : length bytes ≤ 16777216
  pub come : comes bytes answer

-- The effect of a form whose input gives a text or a status: on its input, as it was before and after, and on its output,
-- likewise. If memory ran out, or a read failed, nothing was written.
abbrev pub TextAnswers : (List ℕ → Result (List ℕ) Status → Type 0) → Option (List ℕ) → Option (List ℕ) → Option (List ℕ) → Option (List ℕ) → Status → Type 0
TextAnswers comes before after given given' Done = (text : List ℕ) × ReadsInput comes before after (Ok text) × Written text given given' Done
TextAnswers comes before after given given' WriteFault = (text : List ℕ) × ReadsInput comes before after (Ok text) × Written text given given' WriteFault
TextAnswers comes before after given given' TooLong = TakesSome before after (λ bytes. length bytes ≡ 16777217) × (given' ≡ given)
TextAnswers comes before after given given' (BadScript place) = ReadsInput comes before after (Err (BadScript place)) × (given' ≡ given)
TextAnswers comes before after given given' (BadSchema device text) = ReadsInput comes before after (Err (BadSchema device text)) × (given' ≡ given)
TextAnswers comes before after given given' (BadOpening text) = ReadsInput comes before after (Err (BadOpening text)) × (given' ≡ given)
TextAnswers comes before after given given' (BadOrder index) = ReadsInput comes before after (Err (BadOrder index)) × (given' ≡ given)
TextAnswers comes before after given given' NoPart = ReadsInput comes before after (Err NoPart) × (given' ≡ given)
TextAnswers comes before after given given' (BadStream text) = ReadsInput comes before after (Err (BadStream text)) × (given' ≡ given)
TextAnswers comes before after given given' (BadExport commit) = ReadsInput comes before after (Err (BadExport commit)) × (given' ≡ given)
TextAnswers comes before after given given' ReadFault = given' ≡ given
TextAnswers comes before after given given' NoMemory = given' ≡ given
TextAnswers comes before after given given' BadWords = ⊥

-- All bytes of the input, at most 16,777,216, what is said of them, and the status of their script. If they are no JSON, `json` is the place at which
-- the reader stopped.
pub record Says (before after : Option (List ℕ)) (text : List ℕ) (status : Status) : Type 0 where
  pub bytes : List ℕ
  pub taken : TakesAll before after bytes
  pub within : length bytes ≤ 16777216
  pub json : Place
  pub is : text ≡ lint_text json bytes
  pub ends : status_of bytes ≡ status

-- this was written whole, and the status is that of the script
abbrev pub Lints : Option (List ℕ) → Option (List ℕ) → Option (List ℕ) → Option (List ℕ) → Status → Type 0
Lints before after given given' status = (text : List ℕ) × Says before after text status × Written text given given' Done

-- The effect of `lint`: also if the script has a fault, what is said of it is written. If memory ran out, or a read failed, nothing was written.
abbrev pub LintAnswers : Option (List ℕ) → Option (List ℕ) → Option (List ℕ) → Option (List ℕ) → Status → Type 0
LintAnswers before after given given' Done = Lints before after given given' Done
LintAnswers before after given given' (BadScript place) = Lints before after given given' (BadScript place)
LintAnswers before after given given' (BadSchema device text) = Lints before after given given' (BadSchema device text)
LintAnswers before after given given' (BadOpening text) = Lints before after given given' (BadOpening text)
LintAnswers before after given given' WriteFault = (text : List ℕ) × (status : Status) × Says before after text status × Written text given given' WriteFault
LintAnswers before after given given' TooLong = TakesSome before after (λ bytes. length bytes ≡ 16777217) × (given' ≡ given)
LintAnswers before after given given' ReadFault = given' ≡ given
LintAnswers before after given given' NoMemory = given' ≡ given
LintAnswers before after given given' BadWords = ⊥
LintAnswers before after given given' (BadOrder index) = ⊥
LintAnswers before after given given' NoPart = ⊥
LintAnswers before after given given' (BadStream text) = ⊥
LintAnswers before after given given' (BadExport commit) = ⊥

-- The effect of a form that reads no input, and gives a text for any numbers in its words. If memory ran out nothing was written.
abbrev pub OwnAnswers : (List ℕ → Type 0) → Option (List ℕ) → Option (List ℕ) → Status → Type 0
OwnAnswers comes given given' Done = (text : List ℕ) × comes text × Written text given given' Done
OwnAnswers comes given given' WriteFault = (text : List ℕ) × comes text × Written text given given' WriteFault
OwnAnswers comes given given' NoMemory = given' ≡ given
OwnAnswers comes given given' status = ⊥

-- the effect of the command, by the form of its words
abbrev pub Answers : Option Form → Option (List ℕ) → Option (List ℕ) → Option (List ℕ) → Option (List ℕ) → Status → Type 0
Answers None before after given given' status = (status ≡ BadWords) × (after ≡ before) × (given' ≡ given)
Answers (Some Run) before after given given' status = TextAnswers RunsTo before after given given' status
Answers (Some Lint) before after given given' status = LintAnswers before after given given' status
Answers (Some (Text form)) before after given given' status = TextAnswers (IsMadeBy (made_text form)) before after given given' status
Answers (Some (Load rounds start)) before after given given' status = (after ≡ before) × OwnAnswers (LoadsTo rounds start) given given' status
Answers (Some (Feed notes capacity)) before after given given' status = (after ≡ before) × OwnAnswers (FeedsTo notes capacity) given given' status
Answers (Some Help) before after given given' status = (after ≡ before) × Written HELP.now given given' status
Answers (Some Version) before after given given' status = (after ≡ before) × Written VERSION.now given given' status

-- ---- when it is done

-- known bytes with a result: at most 16,777,216
abbrev pub IsMade : {A : Type 0} → (List ℕ → Result A Status) → Option (List ℕ) → Type 0
IsMade {A} make (Some bytes) = (length bytes ≤ 16777216) × ((made : A) × (make bytes ≡ Ok made))
IsMade {A} make None = ⊥

-- Known words, with an input that is valid for them. A run and a lint have no condition on the order of the script, and a load and a feed have none
-- at all.
abbrev pub IsValid : Option Form → Option (List ℕ) → Type 0
IsValid None before = ⊥
IsValid (Some Run) before = IsMade prepared before
IsValid (Some Lint) before = IsMade prepared before
IsValid (Some (Text form)) before = IsMade (made_text form) before
IsValid (Some (Load rounds start)) before = ⊤
IsValid (Some (Feed notes capacity)) before = ⊤
IsValid (Some Help) before = ⊤
IsValid (Some Version) before = ⊤

-- done, unless a fault of the source or the sink, or that memory ran out, came between
abbrev pub IsDoneUnlessStopped : Status → Type 0
IsDoneUnlessStopped Done = ⊤
IsDoneUnlessStopped ReadFault = ⊤
IsDoneUnlessStopped WriteFault = ⊤
IsDoneUnlessStopped NoMemory = ⊤
IsDoneUnlessStopped status = ⊥

-- ---- results of functions

-- this text was written whole and the command ends with this status, or a prefix of it
abbrev pub IsWrittenWith : List ℕ → Status → Option (List ℕ) → Option (List ℕ) → Status → Type 0
IsWrittenWith text ends given given' result =
    ((result ≡ ends) × Written text given given' Done) ⊎ ((result ≡ WriteFault) × Written text given given' WriteFault)

-- all bytes of an input, of which there are not too many; or why there are none
abbrev pub IsInputOr : Option (List ℕ) → Option (List ℕ) → Result (Vec ℕ Global) Status → Type 0
IsInputOr before after (Ok bytes) = TakesAll before after bytes.items × (length bytes.items ≤ 16777216)
IsInputOr before after (Err TooLong) = TakesSome before after (λ bytes. length bytes ≡ 16777217)
IsInputOr before after (Err ReadFault) = ⊤
IsInputOr before after (Err NoMemory) = ⊤
IsInputOr before after (Err status) = ⊥

-- the bytes of the result
abbrev pub bytes_of : Made → List ℕ
bytes_of (made_as.Words text) = text
bytes_of (made_as.Plain bytes) = bytes

-- the result, or its status; `NoMemory` has no condition
abbrev pub IsMadeOr : Result (List ℕ) Status → Result Made Status → Type 0
IsMadeOr made result = MatchResult result (λ it. made ≡ Ok (bytes_of it)) (IsTextStatus made)

-- a text that a run may write; `NoMemory` has no condition
abbrev pub IsRunOr : List ℕ → Result (List ℕ) Status → Type 0
IsRunOr bytes result = MatchResult result (λ text. RunsTo bytes (Ok text)) (IsStatusOf (prepared bytes))

-- the summary of a load, unless memory ran out
abbrev pub IsLoadOr : ℕ → ℕ → Result (List ℕ) Status → Type 0
IsLoadOr rounds start result = MatchResult result (LoadsTo rounds start) (λ status. status ≡ NoMemory)
