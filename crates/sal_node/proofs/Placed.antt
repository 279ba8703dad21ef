-- The sheets around the one that has a step.
use Rattle.std.proofs.Common.{◌≡◌, ℕ, ◌+◌, ◌<◌, ◌≤◌, Bool, true, false, List, [], ◌∷◌, ◌++◌, length, take, drop, get_or, Option, refl, sym, subst, append_assoc, arith}
use Rattle.std.specs.Prelude.{T}
use Rattle.std.specs.FinMap.{find, is_sorted}
use Rattle.std.specs.FinMap.Entries.{below_all}
use Rattle.std.specs.declared.sync.Arc.{Arc}
use Rattle.std.specs.declared.alloc.Global.{Global}
use Rattle.sal_types.specs.declared.value.Step.{Step}
use Rattle.sal_types.specs.Order.{step_cmp}
use Rattle.sal_node.specs.Tree.{Tree, change}
use Rattle.sal_node.specs.Shape.{row_of, listed, sheeted, ArePages, AreSheets, UpTo, sheet_after}
use Rattle.sal_node.specs.Places.{IsPlaced}
use Rattle.sal_node.specs.declared.node.Page.{Page}
use Rattle.sal_node.specs.declared.node.Sheet.{Sheet}
use Rattle.sal_node.proofs.SheetRows.{sheet_row, AreSheets-at}
use Rattle.sal_node.proofs.Parts as parts
use Rattle.sal_node.proofs.Targets.{front_of, back_of}
use Rattle.sal_node.proofs.Entries.{AllBefore}

abbrev Sheets : Type 0
Sheets = List (Arc Sheet Global)

front_of_sheet : (x : Step) (ps : List (Arc Page Global)) (front back : List (Step × Tree)) → 1 ≤ length ps → ArePages ps → T (is_sorted step_cmp (front ++ (listed ps ++ back))) → sheet_after x ps ≡ false → AllBefore x front
front_of_sheet x [] front back l f h g = absurd (omega arith)
front_of_sheet x (p ∷ ps) front back l f h g = front_of x p.value.children.items front (listed ps ++ back) f.0.0 (subst (λ es. T (is_sorted step_cmp (front ++ es))) (append_assoc (row_of p.value.children.items) (listed ps) back) h) g

back_of_sheet : (x : Step) (ps : List (Arc Page Global)) (back : List (Step × Tree)) → 1 ≤ length ps → ArePages ps → T (is_sorted step_cmp (listed ps ++ back)) → sheet_after x ps ≡ true → T (below_all step_cmp x (listed ps ++ back))
back_of_sheet x [] back l f h g = absurd (omega arith)
back_of_sheet x (p ∷ ps) back l f h g = subst (λ es. T (below_all step_cmp x es)) (sym (append_assoc (row_of p.value.children.items) (listed ps) back)) (back_of x p.value.children.items (listed ps ++ back) f.0.0 (subst (λ es. T (is_sorted step_cmp es)) (append_assoc (row_of p.value.children.items) (listed ps) back) h) g)

abbrev IsGoodSheet : Arc Sheet Global → Type 0
IsGoodSheet s = (1 ≤ length s.value.pages.items) × (length s.value.pages.items ≤ 64) × ArePages s.value.pages.items × UpTo s.value.newest (sheet_row s)

abbrev sheet_begins : Step → Arc Sheet Global → Bool
sheet_begins x s = sheet_after x s.value.pages.items

sheet-front : (x : Step) (s : Arc Sheet Global) (front back : List (Step × Tree)) → IsGoodSheet s → T (is_sorted step_cmp (front ++ (sheet_row s ++ back))) → sheet_begins x s ≡ false → AllBefore x front
sheet-front x s front back good = front_of_sheet x s.value.pages.items front back good.0 good.2

sheet-back : (x : Step) (s : Arc Sheet Global) (back : List (Step × Tree)) → IsGoodSheet s → T (is_sorted step_cmp (sheet_row s ++ back)) → sheet_begins x s ≡ true → T (below_all step_cmp x (sheet_row s ++ back))
sheet-back x s back good = back_of_sheet x s.value.pages.items back good.0 good.2

pub change-placed : (ps : Sheets) (x : Step) (o : Option Tree) (i : ℕ) (p : Arc Sheet Global) → IsPlaced ps x i → p ≡ get_or ps i p → AreSheets ps → T (is_sorted step_cmp (sheeted ps)) →
    change x o (sheeted ps) ≡ sheeted (take i ps) ++ (change x o (listed p.value.pages.items) ++ sheeted (drop (i + 1) ps))
change-placed ps x o i p placed at sheets =
    parts.change-part sheet_row sheeted refl (λ s ss. refl) sheet_begins IsGoodSheet sheet-front sheet-back ps (λ i d l. AreSheets-at ps i d sheets l) x o i p placed.bound placed.before placed.after at

pub find-placed : (ps : Sheets) (x : Step) (i : ℕ) (p : Arc Sheet Global) → IsPlaced ps x i → p ≡ get_or ps i p → AreSheets ps → T (is_sorted step_cmp (sheeted ps)) →
    find step_cmp x (sheeted ps) ≡ find step_cmp x (listed p.value.pages.items)
find-placed ps x i p placed at sheets =
    parts.find-part sheet_row sheeted refl (λ s ss. refl) sheet_begins IsGoodSheet sheet-front sheet-back ps (λ i d l. AreSheets-at ps i d sheets l) x i p placed.bound placed.before placed.after at

pub sheet-sorted : (ps : Sheets) (i : ℕ) (p : Arc Sheet Global) → i < length ps → p ≡ get_or ps i p → T (is_sorted step_cmp (sheeted ps)) → T (is_sorted step_cmp (listed p.value.pages.items))
sheet-sorted = parts.part-sorted sheet_row sheeted refl (λ s ss. refl)

pub sheet-fits : (ss : Sheets) (i : ℕ) (s : Arc Sheet Global) → i < length ss → s ≡ get_or ss i s → AreSheets ss → (1 ≤ length s.value.pages.items) × (length s.value.pages.items ≤ 64) × ArePages s.value.pages.items × UpTo s.value.newest (listed s.value.pages.items)
sheet-fits ss i s l at fits = subst (λ (q : Arc Sheet Global). (1 ≤ length q.value.pages.items) × (length q.value.pages.items ≤ 64) × ArePages q.value.pages.items × UpTo q.value.newest (listed q.value.pages.items)) (sym at) (AreSheets-at ss i s fits l)
