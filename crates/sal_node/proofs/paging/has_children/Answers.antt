use Rattle.std.proofs.Common.{◌≡◌, ℕ, ◌≤◌, ◌==◌, Bool, true, false, List, [], ◌∷◌, ◌++◌, None, length, refl, ap, sym, ◌∙◌, subst, arith, append_assoc}
use Rattle.std.specs.Prelude.{not}
use Rattle.std.proofs.lemmas.Bool.Decides.{nat_tests}
use Rattle.std.specs.declared.sync.Arc.{Arc}
use Rattle.std.specs.declared.alloc.Global.{Global}
use Rattle.sal_types.specs.declared.value.Step.{Step}
use Rattle.sal_node.specs.declared.node.Page.{Page}
use Rattle.sal_node.specs.declared.node.Sheet.{Sheet}
use Rattle.sal_node.specs.declared.node.Child.{Child}
use Rattle.sal_node.specs.Tree.{Tree, is_filled, grove}
use Rattle.sal_node.specs.Shape.{listed, sheeted, paged, row_of, ArePages, AreSheets, ArePaged}
use Rattle.sal_node.proofs.paging.has_children.Goals as goal

some_child : (cs : List (Arc Child Global)) (es : List (Step × Tree)) → 1 ≤ length cs → true ≡ is_filled None (grove (row_of cs ++ es))
some_child [] es l = absurd (omega arith)
some_child (c ∷ cs) es l = refl

none_zero : (n : ℕ) → n ≡ 0 → not (n == 0) ≡ false
none_zero n e = grind (arith, nat_tests)

more : (n : ℕ) → 1 ≤ n → not (n == 0) ≡ true
more n e = grind (arith, nat_tests)

by_pages : (ps : List (Arc Page Global)) (n : ℕ) (b : Bool) → ArePages ps → n ≡ length ps → b ≡ (n == 0) → not b ≡ is_filled None (grove (listed ps))
by_pages [] n b h l e = ap not e ∙ none_zero n l
by_pages (p ∷ ps) n b h l e = ap not e ∙ more n (omega arith) ∙ some_child p.value.children.items (listed ps) h.0.0

some_page : (ps : List (Arc Page Global)) (es : List (Step × Tree)) → 1 ≤ length ps → ArePages ps → true ≡ is_filled None (grove (listed ps ++ es))
some_page [] es l h = absurd (omega arith)
some_page (p ∷ ps) es l h = some_child p.value.children.items (listed ps ++ es) h.0.0 ∙ ap (λ (r : List (Step × Tree)). is_filled None (grove r)) (sym (append_assoc (row_of p.value.children.items) (listed ps) es))

by_sheets : (ss : List (Arc Sheet Global)) (n : ℕ) (b : Bool) → AreSheets ss → n ≡ length ss → b ≡ (n == 0) → not b ≡ is_filled None (grove (sheeted ss))
by_sheets [] n b h l e = ap not e ∙ none_zero n l
by_sheets (s ∷ ss) n b h l e = ap not e ∙ more n (omega arith) ∙ some_page s.value.pages.items (sheeted ss) h.0.0 h.0.2

by_few : (cs : List (Arc Child Global)) (n : ℕ) (b : Bool) → n ≡ length cs → b ≡ (n == 0) → not b ≡ is_filled None (grove (row_of cs))
by_few [] n b l e = ap not e ∙ none_zero n l
by_few (c ∷ cs) n b l e = ap not e ∙ more n (omega arith)

pub returns-in-Few : goal.returns-in-Few
returns-in-Few c = by_few c.in-Few.children.items c.in-Few.children.len c.is_empty.result c.in-Few.children.ok.0 c.is_empty.ensures ∙ sym (ap (λ k. is_filled None (grove (paged k))) c.in-Few.is)

pub returns-in-Pages : goal.returns-in-Pages
returns-in-Pages c = by_pages c.in-Pages.pages.items c.in-Pages.pages.len c.is_empty-in-Pages.result (subst (λ k. ArePaged k) c.in-Pages.is c.requires).0 c.in-Pages.pages.ok.0 c.is_empty-in-Pages.ensures ∙ sym (ap (λ k. is_filled None (grove (paged k))) c.in-Pages.is)

pub returns-in-Sheets : goal.returns-in-Sheets
returns-in-Sheets c = by_sheets c.in-Sheets.sheets.items c.in-Sheets.sheets.len c.is_empty-in-Sheets.result (subst (λ k. ArePaged k) c.in-Sheets.is c.requires) c.in-Sheets.sheets.ok.0 c.is_empty-in-Sheets.ensures ∙ sym (ap (λ k. is_filled None (grove (paged k))) c.in-Sheets.is)
