use Rattle.std.proofs.Common.{◌≡◌, ◌∙◌, ◌+◌, ◌<◌, ◌++◌, List, [], ◌∷◌, length, ap, arith, length-append}
use Rattle.std.proofs.lemmas.Grind.{common_steps}
use Rattle.sal_grouping.specs.declared.node.Node.{Node}
use Rattle.sal_grouping.proofs.FrameLists.{step-few, step-many}
use Rattle.sal_grouping.proofs.grow.grow_one.Goals as goal

pub returns-clause-few : goal.returns-clause-few
returns-clause-few c t =
    let a = c.args in
    let within : a.frame.next < length a.frame.seeds.items = grind (arith, common_steps) in
    let number : c.len-number.result ≡ length a.nodes.now.items = grind (arith, common_steps) in
    let put = c.in_ok-push-2.ensures.items ∙ ap (λ (n : Node). a.nodes.now.items ++ n ∷ []) c.node_of.ensures in
    step-few a.plan.now.rows.items a.plan.now.named.items a.owner a.frames.now.items c.push.new.self.items a.frame a.nodes.now.items c.push-2.new.self.items c.index-seed.result.now
    c.len-number.result within c.index-seed.ensures number put c.in_ok-push.ensures.items c.push_below.new.frames.items (c.in_ok-all.ensures.few t a.owner c.push-2.new.self.items)

pub returns-clause-many : goal.returns-clause-many
returns-clause-many c t =
    let a = c.args in
    let within : a.frame.next < length a.frame.seeds.items = grind (arith, common_steps) in
    let number : c.len-number.result ≡ length a.nodes.now.items = grind (arith, common_steps) in
    let put = c.in_ok-push-2.ensures.items ∙ ap (λ (n : Node). a.nodes.now.items ++ n ∷ []) c.node_of.ensures in
    let (pos, many) = c.in_ok-all.ensures.many t in
    step-many a.plan.now.rows.items a.plan.now.named.items a.owner a.frames.now.items c.push.new.self.items a.frame a.nodes.now.items c.push-2.new.self.items c.index-seed.result.now
    c.len-number.result within c.index-seed.ensures number put c.in_ok-push.ensures.items pos 65536 many

-- one more element after the others
one-more : {X : Type 0} (xs ys : List X) (x : X) → ys ≡ xs ++ x ∷ [] → length ys ≡ length xs + 1
one-more xs ys x e = ap length e ∙ length-append xs (x ∷ [])

pub returns-clause-paid : goal.returns-clause-paid
returns-clause-paid c =
    let frames = one-more c.args.frames.now.items c.push.new.self.items _ c.in_ok-push.ensures.items in
    let nodes = one-more c.args.nodes.now.items c.push-2.new.self.items _ c.in_ok-push-2.ensures.items in
    omega (arith, frames, nodes, c.in_ok-all.ensures.one)
