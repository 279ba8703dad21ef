-- The faults of a pass, and which of them is returned.
use Rattle.std.specs.Prelude.{ℕ, Bool, ◌&&◌, ◌||◌, ◌==◌, nat_lt, List, fold, Option, Some, None, if◌then◌else◌}
use Rattle.sal_module.specs.declared.fault.BuildFault.{BuildFault}
use Rattle.sal_module.specs.declared.fault.BuildFault.TheVariants as variant
use Rattle.sal_module.specs.declared.fault.Cause.{Cause}
use Rattle.sal_module.specs.declared.fault.Cause.TheVariants.{UnknownStatement, LeftOut, Missing, Twice, BadArgument, NoModule, ImportCycle, UnknownName, NameCycle, DoubleNode, BadRestriction, BadPattern, BadKey, ConfigUnderState, BadTarget, OldIdentity}
use Rattle.sal_module.specs.declared.fault.Found.{Found}
use Rattle.sal_module.specs.Keywords.{word_of}

-- the number that orders faults of one statement
abbrev pub number_of : Cause → ℕ
number_of UnknownStatement = 1
number_of LeftOut = 2
number_of (Missing keyword) = 3
number_of (Twice keyword) = 4
number_of BadArgument = 5
number_of NoModule = 6
number_of ImportCycle = 7
number_of UnknownName = 8
number_of NameCycle = 9
number_of DoubleNode = 10
number_of BadRestriction = 11
number_of BadPattern = 12
number_of BadKey = 13
number_of ConfigUnderState = 14
number_of BadTarget = 15
number_of OldIdentity = 16

-- the smaller module first, then the smaller offset, and at one offset the smaller number
abbrev pub is_before : Found → Found → Bool
is_before a b =
    nat_lt a.module b.module || (a.module == b.module && (nat_lt a.at b.at || (a.at == b.at && nat_lt (number_of a.cause) (number_of b.cause))))

abbrev pub better : Option Found → Found → Option Found
better None found = Some found
better (Some best) found = if is_before found best then Some found else Some best

-- the least of these faults and one found earlier: of equals the first
abbrev pub least : Option Found → List Found → Option Found
least best found = fold better best found

-- the fault as `BuildFault`
abbrev pub fault : ℕ → ℕ → Cause → BuildFault
fault m at UnknownStatement = variant.UnknownStatement m at
fault m at LeftOut = variant.LeftOut m at
fault m at (Missing keyword) = variant.Missing m at (word_of keyword)
fault m at (Twice keyword) = variant.Twice m at (word_of keyword)
fault m at BadArgument = variant.BadArgument m at
fault m at NoModule = variant.NoModule m at
fault m at ImportCycle = variant.ImportCycle m at
fault m at UnknownName = variant.UnknownName m at
fault m at NameCycle = variant.NameCycle m at
fault m at DoubleNode = variant.DoubleNode m at
fault m at BadRestriction = variant.BadRestriction m at
fault m at BadPattern = variant.BadPattern m at
fault m at BadKey = variant.BadKey m at
fault m at ConfigUnderState = variant.ConfigUnderState m at
fault m at BadTarget = variant.BadTarget m at
fault m at OldIdentity = variant.OldIdentity m at

abbrev pub fault_of : Found → BuildFault
fault_of found = fault found.module found.at found.cause
