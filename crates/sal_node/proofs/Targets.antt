-- The pages around the one that has a step.
use Rattle.std.proofs.Common.{◌≡◌, ℕ, ◌+◌, ◌<◌, ◌≤◌, Bool, true, false, List, [], ◌∷◌, ◌++◌, length, take, drop, get_or, Option, refl, ap, sym, ◌∙◌, subst, arith}
use Rattle.std.specs.Prelude.{T}
use Rattle.std.specs.FinMap.{find, is_sorted}
use Rattle.std.specs.FinMap.Entries.{below_all}
use Rattle.std.specs.declared.sync.Arc.{Arc}
use Rattle.std.specs.declared.alloc.Global.{Global}
use Rattle.sal_types.specs.declared.value.Step.{Step}
use Rattle.sal_types.specs.Order.{step_cmp}
use Rattle.sal_node.specs.Tree.{Tree, change}
use Rattle.sal_node.specs.Shape.{row_of, listed, ArePages, UpTo, begins_after}
use Rattle.sal_node.specs.Places.{IsTarget}
use Rattle.sal_node.specs.declared.node.Page.{Page}
use Rattle.sal_node.specs.declared.node.Child.{Child}
use Rattle.sal_node.proofs.Rows.{page_row, ArePages-at, row_of-length}
use Rattle.sal_node.proofs.Parts as parts
use Rattle.sal_node.proofs.Entries.{AllBefore, sorted-front, sorted-above, change-length}

abbrev Pages : Type 0
Pages = List (Arc Page Global)

pub front_of : (x : Step) (cs : List (Arc Child Global)) (front back : List (Step × Tree)) → 1 ≤ length cs → T (is_sorted step_cmp (front ++ (row_of cs ++ back))) → begins_after x cs ≡ false → AllBefore x front
front_of x [] front back l h g = absurd (omega arith)
front_of x (c ∷ cs) front back l h g = sorted-front x front (c.value.step, c.value.node.value) (row_of cs ++ back) h g

pub back_of : (x : Step) (cs : List (Arc Child Global)) (back : List (Step × Tree)) → 1 ≤ length cs → T (is_sorted step_cmp (row_of cs ++ back)) → begins_after x cs ≡ true → T (below_all step_cmp x (row_of cs ++ back))
back_of x [] back l h g = absurd (omega arith)
back_of x (c ∷ cs) back l h g = sorted-above x (c.value.step, c.value.node.value) (row_of cs ++ back) h g

abbrev IsGoodPage : Arc Page Global → Type 0
IsGoodPage p = (1 ≤ length p.value.children.items) × (length p.value.children.items ≤ 64) × UpTo p.value.newest (page_row p)

abbrev page_begins : Step → Arc Page Global → Bool
page_begins x p = begins_after x p.value.children.items

page-front : (x : Step) (p : Arc Page Global) (front back : List (Step × Tree)) → IsGoodPage p → T (is_sorted step_cmp (front ++ (page_row p ++ back))) → page_begins x p ≡ false → AllBefore x front
page-front x p front back good = front_of x p.value.children.items front back good.0

page-back : (x : Step) (p : Arc Page Global) (back : List (Step × Tree)) → IsGoodPage p → T (is_sorted step_cmp (page_row p ++ back)) → page_begins x p ≡ true → T (below_all step_cmp x (page_row p ++ back))
page-back x p back good = back_of x p.value.children.items back good.0

pub change-target : (ps : Pages) (x : Step) (o : Option Tree) (i : ℕ) (p : Arc Page Global) → IsTarget ps x i → p ≡ get_or ps i p → ArePages ps → T (is_sorted step_cmp (listed ps)) →
    change x o (listed ps) ≡ listed (take i ps) ++ (change x o (row_of p.value.children.items) ++ listed (drop (i + 1) ps))
change-target ps x o i p target at pages =
    parts.change-part page_row listed refl (λ p ps. refl) page_begins IsGoodPage page-front page-back ps (λ i d l. ArePages-at ps i d pages l) x o i p target.bound target.before target.after at

pub find-target : (ps : Pages) (x : Step) (i : ℕ) (p : Arc Page Global) → IsTarget ps x i → p ≡ get_or ps i p → ArePages ps → T (is_sorted step_cmp (listed ps)) →
    find step_cmp x (listed ps) ≡ find step_cmp x (row_of p.value.children.items)
find-target ps x i p target at pages =
    parts.find-part page_row listed refl (λ p ps. refl) page_begins IsGoodPage page-front page-back ps (λ i d l. ArePages-at ps i d pages l) x i p target.bound target.before target.after at

pub page-sorted : (ps : Pages) (i : ℕ) (p : Arc Page Global) → i < length ps → p ≡ get_or ps i p → T (is_sorted step_cmp (listed ps)) → T (is_sorted step_cmp (row_of p.value.children.items))
page-sorted = parts.part-sorted page_row listed refl (λ p ps. refl)

pub changed-few : (ps : Pages) (x : Step) (o : Option Tree) (i : ℕ) (p : Arc Page Global) (cs new : List (Arc Child Global)) → i < length ps → p ≡ get_or ps i p → ArePages ps → cs ≡ p.value.children.items → row_of new ≡ change x o (row_of cs) → length new ≤ 65
changed-few ps x o i p cs new l at pages is e =
    let fits = subst (λ (q : Arc Page Global). length q.value.children.items ≤ 64) (sym at) (ArePages-at ps i p pages l).1 in
    let n = row_of-length new in
    let m = row_of-length cs in
    let f : length cs ≡ length p.value.children.items = ap length is in
    let g : length (row_of new) ≡ length (change x o (row_of cs)) = ap length e in
    let h = change-length x o (row_of cs) in
    omega arith

pub changed-row : (x : Step) (o : Option Tree) (cs new : List (Arc Child Global)) → length cs ≤ 64 → row_of new ≡ change x o (row_of cs) → length new ≤ 65
changed-row x o cs new fits e =
    let n = row_of-length new in
    let m = row_of-length cs in
    let g : length (row_of new) ≡ length (change x o (row_of cs)) = ap length e in
    let h = change-length x o (row_of cs) in
    omega arith

pub copied-few : (old new cs : List (Arc Child Global)) → old ≡ [] → length cs ≤ 64 → row_of new ≡ row_of old ++ row_of cs → length new ≤ 64
copied-few old new cs none fits e =
    let n = row_of-length new in
    let m = row_of-length cs in
    let g : length (row_of new) ≡ length (row_of cs) = ap length e ∙ ap (λ (os : List (Arc Child Global)). length (row_of os ++ row_of cs)) none in
    omega arith
