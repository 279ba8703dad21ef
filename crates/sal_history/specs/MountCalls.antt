-- The calls on mounts of a log, for those who make them once more.
use Rattle.std.specs.Prelude.{List, [], ◌∷◌, ◌++◌, Option, None, Some}
use Rattle.std.specs.List.{fold}
use Rattle.sal_mount.specs.declared.call.MountCall.{MountCall}
use Rattle.sal_history.specs.declared.call.Entry.{Entry}
use Rattle.sal_history.specs.Services.{mount_call}

-- one call more, if it is one on mounts
abbrev pub with_call : List MountCall → Option MountCall → List MountCall
with_call calls None = calls
with_call calls (Some call) = calls ++ call ∷ []

-- the calls on mounts of a log, in order
abbrev pub mounts_in : List Entry → List MountCall
mounts_in log = fold (λ calls e. with_call calls (mount_call e.call)) [] log
