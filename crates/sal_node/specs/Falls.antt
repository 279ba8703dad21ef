-- A child is smaller than its node.
use Rattle.std.specs.Prelude.{◌≤◌, List, [], ◌∷◌, ◌++◌}
use Rattle.std.proofs.Common.{arith}
use Rattle.std.specs.declared.sync.Arc.{Arc}
use Rattle.std.specs.declared.alloc.Global.{Global}
use denote.Param.Weighed.{most}
use Rattle.sal_types.specs.declared.value.Step.{Step}
use Rattle.sal_node.specs.Tree.{Tree, grove, weight}
use Rattle.sal_node.specs.Shape.{row_of, listed, sheeted, paged}
use Rattle.sal_node.specs.declared.node.Page.{Page}
use Rattle.sal_node.specs.declared.node.Sheet.{Sheet}
use Rattle.sal_node.specs.declared.node.Paging.{Paging}
use Rattle.sal_node.specs.declared.node.Paging.TheVariants.{Few, Pages, Sheets}
use Rattle.sal_node.specs.declared.node.Child.{Child}
use Rattle.sal_node.specs.declared.node.Node.TheInside.{Inside}
use Rattle.sal_node.specs.declared.node.Node.TheDeep.{deep-Node, deep-Paging, deep-Sheet, deep-Page, deep-Child}

children-fall : (cs : List (Arc Child Global)) (es : List (Step × Tree)) → most (λ (c : Arc Child Global). deep-Child c.value) cs ≤ weight (grove (row_of cs ++ es))
children-fall [] es = omega arith
children-fall (c ∷ cs) es = omega (arith, children-fall cs es)

rest-falls : (xs es : List (Step × Tree)) → weight (grove es) ≤ weight (grove (xs ++ es))
rest-falls [] es = omega arith
rest-falls (x ∷ xs) es = omega (arith, rest-falls xs es)

page-falls : (p : Page) (es : List (Step × Tree)) → deep-Page p ≤ weight (grove (row_of p.children.items ++ es))
page-falls p es = let h = children-fall p.children.items es in omega arith

pages-fall : (ps : List (Arc Page Global)) → most (λ (p : Arc Page Global). deep-Page p.value) ps ≤ weight (grove (listed ps))
pages-fall [] = omega arith
pages-fall (p ∷ ps) = omega (arith, page-falls p.value (listed ps), pages-fall ps, rest-falls (row_of p.value.children.items) (listed ps))

front-falls : (xs es : List (Step × Tree)) → weight (grove xs) ≤ weight (grove (xs ++ es))
front-falls [] es = omega arith
front-falls (x ∷ xs) es = omega (arith, front-falls xs es)

sheet-falls : (s : Sheet) (es : List (Step × Tree)) → deep-Sheet s ≤ weight (grove (listed s.pages.items ++ es))
sheet-falls s es = let h = pages-fall s.pages.items in let g = front-falls (listed s.pages.items) es in omega arith

sheets-fall : (ss : List (Arc Sheet Global)) → most (λ (s : Arc Sheet Global). deep-Sheet s.value) ss ≤ weight (grove (sheeted ss))
sheets-fall [] = omega arith
sheets-fall (s ∷ ss) = omega (arith, sheet-falls s.value (sheeted ss), sheets-fall ss, rest-falls (listed s.value.pages.items) (sheeted ss))

few-fall : (cs : List (Arc Child Global)) → most (λ (c : Arc Child Global). deep-Child c.value) cs ≤ weight (grove (row_of cs))
few-fall [] = omega arith
few-fall (c ∷ cs) = omega (arith, few-fall cs)

paging-falls : (k : Paging) → deep-Paging k ≤ weight (grove (paged k))
paging-falls (Few cs) = let h = few-fall cs.items in omega arith
paging-falls (Pages ps) = let h = pages-fall ps.items in omega arith
paging-falls (Sheets ss) = let h = sheets-fall ss.items in omega arith

pub falls : (a : Inside) → deep-Node a ≤ weight (grove (paged a.paging))
falls a = let h = paging-falls a.paging in omega arith
