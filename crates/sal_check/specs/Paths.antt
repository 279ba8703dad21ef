-- Paths that are joined.
use Rattle.std.specs.Prelude.{List, ◌++◌, length, nat_le, Option, Some, None, if◌then◌else◌}
use Rattle.sal_types.specs.declared.value.Step.{Step}

-- a path with more steps; none if they are more than a path can have
abbrev pub joined : List Step → List Step → Option (List Step)
joined path steps = if nat_le (length (path ++ steps)) 32 then Some (path ++ steps) else None
