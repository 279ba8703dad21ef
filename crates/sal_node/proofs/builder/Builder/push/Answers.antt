use Rattle.std.specs.declared.sync.Arc.{Arc}
use Rattle.std.specs.declared.alloc.Global.{Global}
use Rattle.std.proofs.Common.{◌≡◌, List, [], ◌∷◌, ◌++◌, ap, sym, ◌∙◌, append_assoc}
use Rattle.sal_types.specs.declared.value.Step.{Step}
use Rattle.sal_node.specs.Tree.{Tree}
use Rattle.sal_node.specs.Shape.{row_of, listed, sheeted}
use Rattle.sal_node.specs.declared.node.Child.{Child}
use Rattle.sal_node.proofs.Rows.{row_of-append}
use Rattle.sal_node.proofs.builder.Builder.push.Goals as goal

one_more : (front : List (Step × Tree)) (last new : List (Arc Child Global)) (c : Arc Child Global) (d : Child) (was : List (Step × Tree)) → c.value ≡ d → front ++ row_of last ≡ was → new ≡ last ++ c ∷ [] → front ++ row_of new ≡ was ++ (d.step, d.node.value) ∷ []
one_more front last new c d was same view is = ap (λ (cs : List (Arc Child Global)). front ++ row_of cs) is ∙ ap (λ (es : List (Step × Tree)). front ++ es) (row_of-append last (c ∷ [])) ∙ sym (append_assoc front (row_of last) ((c.value.step, c.value.node.value) ∷ [])) ∙ ap (λ (es : List (Step × Tree)). es ++ (c.value.step, c.value.node.value) ∷ []) view ∙ ap (λ (e : Child). was ++ (e.step, e.node.value) ∷ []) same

assoc : (a b : List (Step × Tree)) (last : List (Arc Child Global)) (was : List (Step × Tree)) → a ++ (b ++ row_of last) ≡ was → (a ++ b) ++ row_of last ≡ was
assoc a b last was e = append_assoc a b (row_of last) ∙ e

pub returns-then-len-lt-PAGE : goal.returns-then-len-lt-PAGE
returns-then-len-lt-PAGE c = sym (append_assoc (sheeted c.self.inside.sheets.items) (listed c.self.inside.pages.items) (row_of c.push.new.self.items)) ∙ one_more (sheeted c.self.inside.sheets.items ++ listed c.self.inside.pages.items) c.self.inside.last.items c.push.new.self.items c.in_ok-child.child (record { step = c.args.step; node = c.args.node }) c.args.self c.in_ok-child.ensures.ok (assoc (sheeted c.self.inside.sheets.items) (listed c.self.inside.pages.items) c.self.inside.last.items c.args.self c.self.view_is) c.in_ok-push.ensures.items

pub returns : goal.returns
returns c =
    c.in_ok-builder.ensures
    ∙ ap (λ (es : List (Step × Tree)). sheeted c.self.inside.sheets.items ++ es) (c.in_ok-add_page.ensures.list ∙ ap (λ (es : List (Step × Tree)). listed c.self.inside.pages.items ++ es) c.page_of.ensures.list)
    ∙ sym (append_assoc (sheeted c.self.inside.sheets.items) (listed c.self.inside.pages.items) (row_of c.push.new.self.items))
    ∙ one_more (sheeted c.self.inside.sheets.items ++ listed c.self.inside.pages.items) c.self.inside.last.items c.push.new.self.items c.in_ok-child.child (record { step = c.args.step; node = c.args.node }) c.args.self c.in_ok-child.ensures.ok (assoc (sheeted c.self.inside.sheets.items) (listed c.self.inside.pages.items) c.self.inside.last.items c.args.self c.self.view_is) c.in_ok-push.ensures.items
