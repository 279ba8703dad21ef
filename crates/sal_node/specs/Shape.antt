-- The children in a node's pages.
use Rattle.std.specs.Prelude.{ℕ, ◌≤◌, nat_eq, Bool, false, List, [], ◌∷◌, ◌++◌, length, Option, Some, None}
use Rattle.std.specs.List.{filter, list_any}
use Rattle.std.specs.Ordering.{is_gt}
use Rattle.std.specs.declared.sync.Arc.{Arc}
use Rattle.std.specs.declared.alloc.Global.{Global}
use Rattle.sal_types.specs.declared.value.Step.{Step}
use Rattle.sal_types.specs.Order.{step_cmp}
use Rattle.sal_node.specs.Tree.{Tree, grove}
use Rattle.std.specs.Borrow.{Bor}
use Rattle.sal_node.specs.declared.node.Node.{Node}
use Rattle.sal_node.specs.declared.node.Page.{Page}
use Rattle.sal_node.specs.declared.node.Sheet.{Sheet}
use Rattle.sal_node.specs.declared.node.Paging.{Paging}
use Rattle.sal_node.specs.declared.node.Paging.TheVariants.{Few, Pages, Sheets}
use Rattle.sal_node.specs.declared.node.Child.{Child}
use Rattle.sal_node.specs.declared.node.Node.TheInside.{Inside}

-- the children of a page
abbrev pub row_of : List (Arc Child Global) → List (Step × Tree)
row_of [] = []
row_of (c ∷ cs) = (c.value.step, c.value.node.value) ∷ row_of cs

-- the children of some pages
abbrev pub listed : List (Arc Page Global) → List (Step × Tree)
listed [] = []
listed (p ∷ ps) = row_of p.value.children.items ++ listed ps

-- the children of some sheets
abbrev pub sheeted : List (Arc Sheet Global) → List (Step × Tree)
sheeted [] = []
sheeted (s ∷ ss) = listed s.value.pages.items ++ sheeted ss

-- the children of a node
abbrev pub paged : Paging → List (Step × Tree)
paged (Few cs) = row_of cs.items
paged (Pages ps) = listed ps.items
paged (Sheets ss) = sheeted ss.items

abbrev pub view_of : Inside → Tree
view_of a = record { stamp = a.stamp; cell = a.cell; kids = grove (paged a.paging) }

-- no entry has a stamp above n
abbrev pub UpTo : ℕ → List (Step × Tree) → Type 0
UpTo n [] = Unit {0}
UpTo n (e ∷ es) = (e.1.stamp ≤ n) × UpTo n es

-- the entries with one of the stamps
abbrev pub made_by : List ℕ → List (Step × Tree) → List (Step × Tree)
made_by stamps es = filter (λ (e : Step × Tree). list_any (nat_eq e.1.stamp) stamps) es

-- none of the stamps is below n
abbrev pub AreFrom : ℕ → List ℕ → Type 0
AreFrom n [] = Unit {0}
AreFrom n (s ∷ ss) = (n ≤ s) × AreFrom n ss

-- each page has 1 to 64 children
abbrev pub ArePages : List (Arc Page Global) → Type 0
ArePages [] = Unit {0}
ArePages (p ∷ ps) = ((1 ≤ length p.value.children.items) × (length p.value.children.items ≤ 64) × UpTo p.value.newest (row_of p.value.children.items)) × ArePages ps

-- each sheet has 1 to 64 pages
abbrev pub AreSheets : List (Arc Sheet Global) → Type 0
AreSheets [] = Unit {0}
AreSheets (s ∷ ss) = ((1 ≤ length s.value.pages.items) × (length s.value.pages.items ≤ 64) × ArePages s.value.pages.items × UpTo s.value.newest (listed s.value.pages.items)) × AreSheets ss

abbrev pub ArePaged : Paging → Type 0
ArePaged (Few cs) = length cs.items ≤ 64
ArePaged (Pages ps) = ArePages ps.items × (length ps.items ≤ 64)
ArePaged (Sheets ss) = AreSheets ss.items

-- whether a page begins after a step
abbrev pub begins_after : Step → List (Arc Child Global) → Bool
begins_after x [] = false
begins_after x (c ∷ cs) = is_gt (step_cmp c.value.step x)

-- whether a sheet begins after a step
abbrev pub sheet_after : Step → List (Arc Page Global) → Bool
sheet_after x [] = false
sheet_after x (p ∷ ps) = begins_after x p.value.children.items

abbrev pub tree_in : Option (Arc Node Global) → Option Tree
tree_in None = None
tree_in (Some n) = Some n.value

abbrev pub tree_at : Option (Bor (Arc Node Global)) → Option Tree
tree_at None = None
tree_at (Some n) = Some n.now.value

-- the children that the references refer to
abbrev pub seen : List (Bor Child) → List (Step × Tree)
seen [] = []
seen (c ∷ cs) = (c.now.step, c.now.node.value) ∷ seen cs
