use Rattle.std.proofs.Common.{◌≡◌, ℕ, ◌+◌, ◌<◌, ◌≤◌, length, take, refl, sym, ◌∙◌, ap, arith}
use Rattle.sal_node.specs.declared.node.Page.{Page}
use Rattle.sal_node.specs.Shape.{listed}
use Rattle.sal_node.proofs.Parts as parts
use Rattle.sal_node.proofs.Rows.{page_row, row_of-length}
use Rattle.sal_node.proofs.pages.room_after.Goals as goal

pub returns-then-left-count : goal.returns-then-left-count
returns-then-left-count c =
    let is : c.len-count.result ≡ length (page_row c.page-item.result) = c.len-count.ensures ∙ c.deref.result.now.children.ok.0 ∙ ap (λ (p : Page). length p.children.items) c.deref.ensures ∙ sym (row_of-length c.page-item.result.value.children.items) in
    let within : length (listed (take c.loop-page.page-index c.args.pages.now)) + c.len-count.result ≤ length (listed c.args.pages.now) =
    parts.counted-within page_row listed refl (λ p ps. refl) c.args.pages.now c.loop-page.page-index c.page-item.result c.len-count.result (omega arith) c.page-item.is is in
    let kept : c.loop-page.left + length (listed (take c.loop-page.page-index c.args.pages.now)) ≡ c.args.room = c.loop-page.invariant in
    omega (arith, within, kept)

pub loop-page-preserved : goal.loop-page-preserved
loop-page-preserved c =
    let is : c.len-count.result ≡ length (page_row c.page-item.result) = c.len-count.ensures ∙ c.deref.result.now.children.ok.0 ∙ ap (λ (p : Page). length p.children.items) c.deref.ensures ∙ sym (row_of-length c.page-item.result.value.children.items) in
    let next : length (listed (take (c.loop-page.page-index + 1) c.args.pages.now)) ≡ length (listed (take c.loop-page.page-index c.args.pages.now)) + c.len-count.result =
    parts.counted-next page_row listed refl (λ p ps. refl) c.args.pages.now c.loop-page.page-index c.page-item.result c.len-count.result (omega arith) c.page-item.is is in
    let kept : c.loop-page.left + length (listed (take c.loop-page.page-index c.args.pages.now)) ≡ c.args.room = c.loop-page.invariant in
    omega (arith, next, kept)
