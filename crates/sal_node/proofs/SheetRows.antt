-- The children of sheets and of parts of them.
use Rattle.std.proofs.Common.{◌≡◌, ℕ, suc, zero, ◌+◌, ◌<◌, ◌≤◌, List, [], ◌∷◌, ◌++◌, length, take, drop, get_or, refl, ap, sym, ◌∙◌, subst, arith}
use Rattle.std.specs.declared.sync.Arc.{Arc}
use Rattle.std.specs.declared.alloc.Global.{Global}
use Rattle.std.specs.Borrow.{Bor}
use Rattle.sal_types.specs.declared.value.Step.{Step}
use Rattle.sal_node.specs.Tree.{Tree}
use Rattle.sal_node.specs.Shape.{listed, sheeted, ArePages, AreSheets, UpTo, seen}
use Rattle.sal_node.specs.declared.node.Page.{Page}
use Rattle.sal_node.specs.declared.node.Sheet.{Sheet}
use Rattle.sal_node.specs.declared.node.Child.{Child}
use Rattle.sal_node.proofs.Parts as parts
use Rattle.sal_node.proofs.Rows.{page_row}

-- the children of a sheet
abbrev pub sheet_row : Arc Sheet Global → List (Step × Tree)
sheet_row s = listed s.value.pages.items

pub sheeted-append : (ps qs : List (Arc Sheet Global)) → sheeted (ps ++ qs) ≡ sheeted ps ++ sheeted qs
sheeted-append = parts.append sheet_row sheeted refl (λ s ss. refl)

pub AreSheets-append : (ps qs : List (Arc Sheet Global)) → AreSheets ps → AreSheets qs → AreSheets (ps ++ qs)
AreSheets-append [] qs g h = h
AreSheets-append (p ∷ ps) qs g h = (g.0, AreSheets-append ps qs g.1 h)

pub AreSheets-at : (ps : List (Arc Sheet Global)) (i : ℕ) (d : Arc Sheet Global) → AreSheets ps → i < length ps → (1 ≤ length (get_or ps i d).value.pages.items) × (length (get_or ps i d).value.pages.items ≤ 64) × ArePages (get_or ps i d).value.pages.items × UpTo (get_or ps i d).value.newest (listed (get_or ps i d).value.pages.items)
AreSheets-at [] i d h l = absurd (omega arith)
AreSheets-at (p ∷ ps) zero d h l = h.0
AreSheets-at (p ∷ ps) (suc i) d h l = AreSheets-at ps i d h.1 (omega arith)

pub AreSheets-take : (ps : List (Arc Sheet Global)) (n : ℕ) → AreSheets ps → AreSheets (take n ps)
AreSheets-take ps zero h = tt
AreSheets-take [] (suc n) h = tt
AreSheets-take (p ∷ ps) (suc n) h = (h.0, AreSheets-take ps n h.1)

pub AreSheets-drop : (ps : List (Arc Sheet Global)) (n : ℕ) → AreSheets ps → AreSheets (drop n ps)
AreSheets-drop ps zero h = h
AreSheets-drop [] (suc n) h = tt
AreSheets-drop (p ∷ ps) (suc n) h = AreSheets-drop ps n h.1

-- one more sheet shared
pub sheeted-more : (into sheets : List (Arc Sheet Global)) (i : ℕ) (p : Arc Sheet Global) (new : Arc Sheet Global) (start after : List (Arc Sheet Global)) →
    i < length sheets → p ≡ get_or sheets i p → new.value ≡ p.value
    → sheeted into ≡ sheeted start ++ sheeted (take i sheets) → after ≡ into ++ new ∷ [] → sheeted after ≡ sheeted start ++ sheeted (take (i + 1) sheets)
sheeted-more into sheets i p new start after l at value =
    parts.one-more sheet_row sheeted refl (λ s ss. refl) into sheets i p new start after l (ap sheet_row (sym at) ∙ ap (λ (v : Sheet). listed v.pages.items) (sym value))

pub AreSheets-more : (into sheets : List (Arc Sheet Global)) (i : ℕ) (p : Arc Sheet Global) (new : Arc Sheet Global) (after : List (Arc Sheet Global)) →
    i < length sheets → p ≡ get_or sheets i p → new.value ≡ p.value
    → AreSheets into → AreSheets sheets → after ≡ into ++ new ∷ [] → AreSheets after
AreSheets-more into sheets i p new after l at value h g is =
    let fits = AreSheets-at sheets i p g l in
    rw is (AreSheets-append into (new ∷ []) h (rw (value, at) fits, tt))

pub sheeted-push : (ps : List (Arc Sheet Global)) (p : Arc Sheet Global) (cs : List (Arc Page Global)) (after : List (Arc Sheet Global)) → p.value.pages.items ≡ cs → after ≡ ps ++ p ∷ [] → sheeted after ≡ sheeted ps ++ listed cs
sheeted-push ps p cs after is = parts.pushed sheet_row sheeted refl (λ s ss. refl) ps p (listed cs) after (ap listed is)

pub AreSheets-push : (ps : List (Arc Sheet Global)) (p : Arc Sheet Global) (cs : List (Arc Page Global)) (after : List (Arc Sheet Global)) → p.value.pages.items ≡ cs → after ≡ ps ++ p ∷ [] → 1 ≤ length cs → length cs ≤ 64 → ArePages cs → UpTo p.value.newest (listed cs) → AreSheets ps → AreSheets after
AreSheets-push ps p cs after is e some few pages upto h = rw e (AreSheets-append ps (p ∷ []) h (subst (λ (r : List (Arc Page Global)). (1 ≤ length r) × (length r ≤ 64) × ArePages r × UpTo p.value.newest (listed r)) (sym is) (some, few, pages, upto), tt))

pub sheeted-two : (ps qs rs : List (Arc Sheet Global)) (all first last : List (Arc Page Global)) (n : ℕ) → first ≡ take n all → last ≡ drop n all → sheeted qs ≡ sheeted ps ++ listed first → sheeted rs ≡ sheeted qs ++ listed last → sheeted rs ≡ sheeted ps ++ listed all
sheeted-two ps qs rs = parts.two page_row listed refl (λ p ps. refl) (sheeted ps) (sheeted qs) (sheeted rs)

pub sheeted-next : (into : List (Bor Child)) (sheets : List (Arc Sheet Global)) (i : ℕ) (p : Arc Sheet Global) (cs : List (Arc Page Global)) (start after : List (Bor Child)) → i < length sheets → p ≡ get_or sheets i p → cs ≡ p.value.pages.items →
    seen into ≡ seen start ++ sheeted (take i sheets) → seen after ≡ seen into ++ listed cs → seen after ≡ seen start ++ sheeted (take (i + 1) sheets)
sheeted-next into sheets i p cs start after l at is =
    parts.next sheet_row sheeted refl (λ s ss. refl) sheets i p (listed cs) (seen start) (seen into) (seen after) l (ap sheet_row (sym at) ∙ ap listed (sym is))
