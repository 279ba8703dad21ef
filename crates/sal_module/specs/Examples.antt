-- Names for the examples.
use Rattle.std.specs.Prelude.{ℕ, Option, Some}
use Prim.Native.String.{String}
use Rattle.sal_module.specs.declared.fault.Cause.{Cause}
use Rattle.sal_module.specs.declared.fault.Found.{Found}
pub use Rattle.sal_stmt.specs.Examples.{plain}

abbrev pub found : Cause → ℕ → ℕ → Option Found
found cause m at = Some (record { cause = cause; «module» = m; at = at })
