use Rattle.std.proofs.Common.{◌≡◌, ℕ, None, length, arith}
use Rattle.std.specs.BTreeMap.{get}
use Rattle.std.specs.Ordering.{nat_cmp}
use Rattle.std.proofs.lemmas.Grind.{common_steps}
use Rattle.std.proofs.lemmas.List.Elements.{All-get_or}
use Rattle.sal_typedefs.specs.Settled.{Slots}
use Rattle.sal_typedefs.proofs.SettledLists.{empty-tops}
use Rattle.sal_typedefs.proofs.tops.empty_slots.Goals as goal

pub returns : goal.returns
returns c w is =
    let kept = c.loop-stmt.kept.items in
    let count : length kept ≡ length c.args.stmts.now = grind (arith, common_steps) in
    empty-tops w c.args.stmts.now kept is count (λ i d h. All-get_or (λ (s : Slots). (q : ℕ) → get nat_cmp s q ≡ None) kept i d h c.loop-stmt.invariant.1)
