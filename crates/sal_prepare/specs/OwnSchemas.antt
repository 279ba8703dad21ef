-- The schema of domain 0 alone, by its last version.
use Rattle.std.specs.Prelude.{◌≡◌, ℕ, true, List, Result, Ok}
use Rattle.sal_types.specs.Reading.{◌>>=◌}
use Rattle.sal_schema.specs.declared.table.SchemaTable.{SchemaTable}
use Rattle.sal_script.specs.Script.{Parts}
use Rattle.sal_script.specs.Tables.{last_among}
use Rattle.sal_client.specs.Malformed.{is_malformed}
use Rattle.sal_versions.specs.Versions.{tables_of}
use Rattle.sal_prepare.specs.declared.status.Status.{Status}
use Rattle.sal_prepare.specs.declared.status.Status.TheVariants.{BadSchema, NoMemory}
use Rattle.sal_prepare.specs.Scripted.{if_formed, own_versions, pattern_text}

-- the last one of some versions, whose patterns are all well formed
abbrev pub last_formed : List SchemaTable → Result SchemaTable Status
last_formed versions = if_formed 0 versions >>= (λ formed. Ok (last_among formed))

-- the table of the last version of domain 0's schema, or the status of the first fault of its versions
abbrev pub own_table : Parts → Result SchemaTable Status
own_table parts = own_versions parts >>= (λ own. last_formed (tables_of own))

-- the version has a malformed pattern, unless memory ran out
abbrev pub IsUnformedBy : ℕ → SchemaTable → Status → Type 0
IsUnformedBy v table NoMemory = Unit {0}
IsUnformedBy v table (BadSchema n text) = (is_malformed table ≡ true) × (n ≡ 0) × (text ≡ pattern_text v)
IsUnformedBy v table status = ⊥
