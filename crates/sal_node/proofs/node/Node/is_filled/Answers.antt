use Rattle.std.proofs.Common.{◌≡◌, Bool, false, Option, Some, None, ap, sym, ◌∙◌}
use Rattle.std.specs.Prelude.{is_some}
use Rattle.sal_types.specs.declared.value.Cell.{Cell}
use Rattle.sal_node.specs.Tree.{Tree, Forest, is_filled, grove}
use Rattle.sal_node.specs.Shape.{paged}
use Rattle.sal_node.proofs.node.Node.is_filled.Goals as goal

by_cell : (c : Option Cell) (ks : Forest) (b : Bool) → is_some c ≡ false → b ≡ is_filled None ks → b ≡ is_filled c ks
by_cell None ks b none e = e
by_cell (Some c) ks b none e = cc

pub returns-else-is_some : goal.returns-else-is_some
returns-else-is_some c = by_cell c.self.inside.cell (grove (paged c.self.inside.paging)) c.has_children.result (sym c.is_some.ensures ∙ c.if-is_some.false) c.has_children.ensures ∙ ap (λ (t : Tree). is_filled t.cell t.kids) c.self.view_is
