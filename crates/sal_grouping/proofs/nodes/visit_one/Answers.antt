use Rattle.std.proofs.Common.{◌≡◌, ◌∙◌, ◌++◌, [], true, false, refl, sym, ap}
use Rattle.sal_grouping.specs.Rows.{keyword_at}
use Rattle.sal_grouping.specs.Growth.{is_node, nodes_within}
use Rattle.sal_grouping.specs.Visits.{all_left}
use Rattle.sal_grouping.proofs.VisitLists.{at-uses, at-none, bare-none, visit-none, step-now, step-later, steps-less, steps-used}
use Rattle.sal_grouping.proofs.nodes.visit_one.Goals as goal

pub returns-in-None-clause-left : goal.returns-in-None-clause-left
returns-in-None-clause-left c =
    let rows = c.args.plan.now.rows.items in
    let named = c.args.plan.now.named.items in
    let none = visit-none rows named c.args.visit (sym c.statement_at.ensures.value ∙ c.in-None.is) in
    ap (λ l. c.args.out.now.items ++ (l ++ all_left rows named c.args.visits.now.items)) (sym none)

pub returns-then-is_node-clause-left : goal.returns-then-is_node-clause-left
returns-then-is_node-clause-left c =
    let rows = c.args.plan.now.rows.items in
    let node : is_node (keyword_at rows c.in-Some.k) ≡ true = sym (rw c.deref.ensures.value at c.is_node.ensures) ∙ c.if-is_node.true in
    step-now rows c.args.plan.now.named.items c.args.visit c.in-Some.k c.args.visits.now.items c.push.new.self.items c.args.out.now.items
    (sym c.statement_at.ensures.value ∙ c.in-Some.is) c.in_ok-push.ensures.items c.push-then-is_node.new.self.items node c.in_ok-push-2.ensures.items

pub returns-in-None-named_at-clause-left : goal.returns-in-None-named_at-clause-left
returns-in-None-named_at-clause-left c =
    let rows = c.args.plan.now.rows.items in
    let named = c.args.plan.now.named.items in
    let node : is_node (keyword_at rows c.in-Some.k) ≡ false = sym (rw c.deref.ensures.value at c.is_node.ensures) ∙ c.if-is_node.false in
    let none = at-none (nodes_within c.args.visit.levels rows named) rows named c.in-Some.k node (rw c.deref-2.ensures.value at c.in-None-named_at.ensures) in
    step-later rows named c.args.visit c.in-Some.k c.args.visits.now.items c.push.new.self.items c.args.out.now.items
    (sym c.statement_at.ensures.value ∙ c.in-Some.is) c.in_ok-push.ensures.items c.push.new.self.items [] none refl

pub returns-then-is_marked-clause-left : goal.returns-then-is_marked-clause-left
returns-then-is_marked-clause-left c =
    let rows = c.args.plan.now.rows.items in
    let named = c.args.plan.now.named.items in
    let node : is_node (keyword_at rows c.in-Some.k) ≡ false = sym (rw c.deref.ensures.value at c.is_node.ensures) ∙ c.if-is_node.false in
    let g = c.in-Some-named_at.g in
    let marked = sym (rw c.deref-in-Some-named_at.ensures.value at c.is_marked.ensures) ∙ c.if-is_marked.true in
    let bare = at-uses (nodes_within c.args.visit.levels rows named) rows named c.in-Some.k node g (rw c.deref-2.ensures.value at c.in-Some-named_at.ensures)
    ∙ bare-none rows named c.args.plan.now.bare.items c.requires.bare c.args.visit.levels g marked in
    step-later rows named c.args.visit c.in-Some.k c.args.visits.now.items c.push.new.self.items c.args.out.now.items
    (sym c.statement_at.ensures.value ∙ c.in-Some.is) c.in_ok-push.ensures.items c.push.new.self.items [] bare refl

pub returns-in_ok-push_block-in-Some-named_at-clause-left : goal.returns-in_ok-push_block-in-Some-named_at-clause-left
returns-in_ok-push_block-in-Some-named_at-clause-left c =
    let rows = c.args.plan.now.rows.items in
    let named = c.args.plan.now.named.items in
    let node : is_node (keyword_at rows c.in-Some.k) ≡ false = sym (rw c.deref.ensures.value at c.is_node.ensures) ∙ c.if-is_node.false in
    let g = c.in-Some-named_at.g in
    let used = at-uses (nodes_within c.args.visit.levels rows named) rows named c.in-Some.k node g (rw c.deref-2.ensures.value at c.in-Some-named_at.ensures) in
    step-later rows named c.args.visit c.in-Some.k c.args.visits.now.items c.push.new.self.items c.args.out.now.items
    (sym c.statement_at.ensures.value ∙ c.in-Some.is) c.in_ok-push.ensures.items c.push_block.new.visits.items (nodes_within c.args.visit.levels rows named g) used
    (c.in_ok-push_block-in-Some-named_at.ensures.left rows named)

pub returns-then-is_node-clause-fewer : goal.returns-then-is_node-clause-fewer
returns-then-is_node-clause-fewer c =
    steps-less c.args.plan.now.rows.items c.args.plan.now.named.items c.args.visit c.in-Some.k c.args.visits.now.items c.push.new.self.items
    (sym c.statement_at.ensures.value ∙ c.in-Some.is) c.in_ok-push.ensures.items

pub returns-in-None-named_at-clause-fewer : goal.returns-in-None-named_at-clause-fewer
returns-in-None-named_at-clause-fewer c =
    steps-less c.args.plan.now.rows.items c.args.plan.now.named.items c.args.visit c.in-Some.k c.args.visits.now.items c.push.new.self.items
    (sym c.statement_at.ensures.value ∙ c.in-Some.is) c.in_ok-push.ensures.items

pub returns-then-is_marked-clause-fewer : goal.returns-then-is_marked-clause-fewer
returns-then-is_marked-clause-fewer c =
    steps-less c.args.plan.now.rows.items c.args.plan.now.named.items c.args.visit c.in-Some.k c.args.visits.now.items c.push.new.self.items
    (sym c.statement_at.ensures.value ∙ c.in-Some.is) c.in_ok-push.ensures.items

pub returns-in_ok-push_block-in-Some-named_at-clause-fewer : goal.returns-in_ok-push_block-in-Some-named_at-clause-fewer
returns-in_ok-push_block-in-Some-named_at-clause-fewer c =
    let rows = c.args.plan.now.rows.items in
    let named = c.args.plan.now.named.items in
    steps-used rows named c.args.visit c.in-Some.k c.args.visits.now.items c.push.new.self.items (sym c.statement_at.ensures.value ∙ c.in-Some.is) c.in_ok-push.ensures.items
    c.in-Some-named_at.g (rw c.deref-2.ensures.value at c.in-Some-named_at.ensures) c.push_block.new.visits.items (c.in_ok-push_block-in-Some-named_at.ensures.steps rows named)
