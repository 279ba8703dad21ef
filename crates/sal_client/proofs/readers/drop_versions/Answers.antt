-- The versions before it are dropped, but not the last one.
use Rattle.std.proofs.Common.{◌≡◌, ◌+◌, ◌≤◌, length, ◌∙◌, arith}
use Rattle.std.proofs.lemmas.Grind.{common_steps}
use Rattle.sal_client.proofs.FromVersion.{few-dropped, last-left}
use Rattle.sal_client.proofs.readers.drop_versions.Goals as goal

pub returns-then-version-len : goal.returns-then-version-len
returns-then-version-len c = c.drop_first.ensures ∙ few-dropped c.args.readers.now.items c.args.version (grind (arith, common_steps))

pub returns : goal.returns
returns c =
    let past : length c.args.readers.now.items ≤ c.args.version = grind (arith, common_steps) in
    let some = c.requires in
    c.drop_first-2.ensures ∙ last-left c.args.readers.now.items _ c.args.version (grind (arith, common_steps)) past
