-- The text of `audit`: the line of the verdict on a report.
use Rattle.std.specs.Prelude.{ℕ, List, Option, Result, Ok, Err}
use Rattle.std.specs.Option.{option_map_or}
use Rattle.sal_types.specs.Reading.{◌>>=◌}
use Rattle.sal_prepare.specs.Parted.{Parted, parted}
use Rattle.sal_prepare.specs.Scripted.{Prepared, prepared}
use Rattle.sal_prepare.specs.declared.status.Status.{Status}
use Rattle.sal_prepare.specs.declared.status.Status.TheVariants.{NoPart}
use Rattle.sal_verdict.specs.Verdicts.{line_of, verdict}

-- the line of the verdict on a text, by a script that is prepared; its own order is not used
abbrev pub audited : List ℕ → Prepared → List ℕ
audited text script = line_of (verdict script.world script.parts.clients text)

-- A fault of the script, except for its order, is returned first.
abbrev pub audit_parts : Parted → Result (List ℕ) Status
audit_parts both = prepared both.first >>= (λ script. Ok (audited both.second script))

-- A script, a zero byte, and the text.
abbrev pub audit_text : List ℕ → Result (List ℕ) Status
audit_text bytes = option_map_or audit_parts (parted bytes) (Err NoPart)
