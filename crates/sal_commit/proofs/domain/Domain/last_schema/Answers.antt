-- The last upgrade has the last number.
use Rattle.std.proofs.Common.{◌≡◌, ◌-◌, ◌≤◌, length, get_or, ap, sym, ◌∙◌, arith}
use Rattle.std.specs.declared.alloc.Global.{Global}
use Rattle.std.specs.declared.sync.Arc.{Arc}
use Rattle.std.proofs.lemmas.Grind.{common_steps}
use Rattle.std.proofs.lemmas.List.{length-map}
use Rattle.sal_schema.specs.declared.table.SchemaTable.{SchemaTable}
use Rattle.sal_commit.specs.Versions.{version_in}
use Rattle.sal_commit.proofs.VersionTables.{version-of}
use Rattle.sal_commit.proofs.domain.Domain.last_schema.Goals as goal

pub returns : goal.returns
returns c =
    let d = c.args.self.now in
    let count : c.len-count.result ≡ length d.upgrades.items = grind (arith, common_steps) in
    let some : 1 ≤ length d.upgrades.items = grind (arith, common_steps) in
    let at : c.index.result.now ≡ get_or d.upgrades.items (length d.upgrades.items - 1) c.index.result.now = c.index.ensures ∙ ap (λ n. get_or d.upgrades.items (n - 1) c.index.result.now) count in
    version-of d (length d.upgrades.items) c.index.result.now some (omega arith) at ∙ ap (version_in d) (sym (length-map d.upgrades.items (λ (v : Arc SchemaTable Global). v.value)))
