use Rattle.std.proofs.Common.{◌≡◌, ◌-◌, drop}
use Rattle.sal_node.specs.Shape.{seen}
use Rattle.sal_tree_text.specs.Trees.{do_names_rise}
use Rattle.sal_tree_text.proofs.members.do_names_rise.Given as goal

abbrev pub invariant-loop-i : goal.invariant-loop-i
invariant-loop-i l = do_names_rise l.schema (drop (l.i - 1) (seen l.children)) ≡ do_names_rise l.schema (seen l.children)
