use Rattle.std.proofs.Common.{◌≡◌, ◌∙◌, ◌-◌, ◌∷◌, ap, arith, take}
use Rattle.std.specs.Prelude.{reverse}
use Rattle.std.specs.Option.{option_copied}
use Rattle.sal_module.specs.Statements.{subs_of}
use Rattle.sal_typedefs.specs.Scopes.{is_typedef_of, closest}
use Rattle.sal_typedefs.proofs.BlockLists.{find-none}
use Rattle.sal_typedefs.proofs.SpotLists.{found-later}
use Rattle.sal_typedefs.proofs.SettledLists.{front-last, outer-target, outer-less}
use Rattle.sal_typedefs.proofs.kept.settled_outer.Goals as goal

pub returns-in-Some : goal.returns-in-Some
returns-in-Some c w are =
    let inv = c.closest.invariant in
    outer-target w c.args.number c.args.name.now c.args.blocks.now c.args.kept.now c.closest.n c.in-Some.k c.index-blocks-n.result (option_copied c.slot_at.result) (inv.3 w are) (omega arith) inv.0 inv.1
    c.index-blocks-n.is inv.2 c.in-Some.ensures c.slot_at.ensures

pub closest-preserved : goal.closest-preserved
closest-preserved c =
    let inv = c.closest.invariant in
    let n = c.closest.n in
    let blocks = c.args.blocks.now in
    let block = c.index-blocks-n.result in
    let outer = reverse (take (n - 1) blocks) in
    let front : reverse (take n blocks) ≡ block ∷ outer = front-last blocks n block (omega arith) inv.0 c.index-blocks-n.is in
    let none = find-none (is_typedef_of c.args.name.now) (subs_of block) c.in_default.ensures in (
      omega (arith, inv.0),
      omega (arith, inv.1),
      inv.2 ∙ ap (closest c.args.number c.args.name.now) front ∙ found-later c.args.number c.args.name.now block outer none,
      λ w are. outer-less w c.args.number blocks c.args.kept.now n (omega arith) inv.0 inv.1 (inv.3 w are),
    )
