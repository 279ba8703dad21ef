-- The status of what fails is that of all that depends on it.
use Rattle.std.proofs.Common.{◌≡◌, Result, Ok, Err, ap, sym, ◌∙◌}
use Rattle.sal_prepare.specs.declared.status.Status.{Status}
use Rattle.sal_prepare.specs.declared.status.Status.TheVariants.{Done, BadWords, ReadFault, WriteFault, TooLong, BadScript, BadSchema, BadOpening, BadOrder, NoMemory, NoPart, BadStream, BadExport}
use Rattle.sal_prepare.specs.Scripted.{IsStatusOf}

-- one fault is one status
pub same_fault : {A : Type 0} {d e : Status} → (let r : Result A Status = Err d in r) ≡ Err e → d ≡ e
same_fault is = cc

-- a result that fails with the status of another one
pub fails_as : (A : Type 0) {B : Type 0} (made : Result B Status) (e status : Status) → made ≡ Err e → IsStatusOf (let r : Result A Status = Err e in r) status → IsStatusOf made status
fails_as A made e NoMemory is fault = tt
fails_as A made e (BadScript place) is fault = is ∙ ap Err (same_fault fault)
fails_as A made e (BadSchema n text) is fault = is ∙ ap Err (same_fault fault)
fails_as A made e (BadOpening text) is fault = is ∙ ap Err (same_fault fault)
fails_as A made e Done is fault = absurd fault
fails_as A made e BadWords is fault = absurd fault
fails_as A made e ReadFault is fault = absurd fault
fails_as A made e WriteFault is fault = absurd fault
fails_as A made e TooLong is fault = absurd fault
fails_as A made e (BadOrder index) is fault = absurd fault
fails_as A made e NoPart is fault = absurd fault
fails_as A made e (BadStream text) is fault = absurd fault
fails_as A made e (BadExport commit) is fault = absurd fault

-- a result has one value
pub same_made : {A : Type 0} (made : Result A Status) (x y : A) → made ≡ Ok x → made ≡ Ok y → x ≡ y
same_made made x y one other = cc
