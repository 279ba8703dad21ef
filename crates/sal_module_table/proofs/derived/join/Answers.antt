use Rattle.std.proofs.Common.{◌<◌, ◌^◌, ℕ}
use Rattle.std.proofs.lemmas.List.Elements.{All-get_or}
use Rattle.sal_module_table.proofs.derived.join.Goals as goal

pub add_with-requires : goal.add_with-requires
add_with-requires c =
    let P : ℕ → Type 0 = λ b. b < 2 ^ 32 in
    All-get_or P c.args.bases.now c.loop-base.base-index _ c.loop-base-test.true c.requires.small
