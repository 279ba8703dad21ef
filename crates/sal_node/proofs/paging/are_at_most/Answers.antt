use Rattle.std.proofs.Common.{◌≡◌, ℕ, ◌≤◌, ◌↔◌, IsTrue, nat_le, length, ap, subst, sym, ◌∙◌, arith}
use Rattle.std.proofs.lemmas.Bool.Decides.{nat_tests}
use Rattle.sal_node.specs.Shape.{paged}
use Rattle.sal_node.proofs.Rows.{row_of-length}
use Rattle.sal_node.proofs.paging.are_at_most.Goals as goal

decides : (n most m : ℕ) → n ≡ m → IsTrue (nat_le n most) ↔ (m ≤ most)
decides n most m e = (λ t. grind (arith, nat_tests), λ l. grind (arith, nat_tests))

pub returns-in-Few : goal.returns-in-Few
returns-in-Few c =
    decides c.len.result c.args.most (length (paged c.args.paging.now)) (c.len.ensures ∙ c.in-Few.children.ok.0 ∙ sym (row_of-length c.in-Few.children.items) ∙ sym (ap (λ k. length (paged k)) c.in-Few.is))
