use Rattle.std.proofs.Common.{◌≡◌, ◌∙◌, ◌<◌, ◌≤◌, ◌*◌, ◌∷◌, [], List, length, sym, ap, subst, arith, length-append}
use Rattle.std.proofs.lemmas.Grind.{common_steps}
use Rattle.std.proofs.lemmas.Bool.Decides.{nat_tests}
use Rattle.sal_grouping.specs.declared.node.Node.{Node}
use Rattle.sal_grouping.specs.Growth.{grow}
use Rattle.sal_grouping.specs.Frames.{with_frames}
use Rattle.sal_grouping.proofs.FrameLists.{grow-none, frames-last, frames-one, frame-whole, frames-length}
use Rattle.sal_grouping.proofs.grow.grow.Goals as goal

pub returns-then-levels-eq0-clause-few : goal.returns-then-levels-eq0-clause-few
returns-then-levels-eq0-clause-few c t =
    let a = c.args in
    let rows = a.plan.now.rows.items in
    let named = a.plan.now.named.items in
    let none : 2 * length rows ≡ 0 = grind (arith, common_steps) in
    sym (ap (λ n. grow n rows named a.owner a.parent a.nodes.now.items a.seeds.items) none ∙ grow-none rows named a.owner a.parent a.nodes.now.items a.seeds.items)

pub frames-init : goal.frames-init
frames-init c =
    let a = c.args in
    let rows = a.plan.now.rows.items in
    let named = a.plan.now.named.items in
    let levels = 2 * c.len-levels.result in
    let count : levels ≡ 2 * length rows = grind (arith, common_steps) in
    let more : 0 < levels = omega arith in
    record {
      small = c.requires.small;
      left = frames-one rows named a.owner c.new-frames.result.items c.push.new.self.items _ a.nodes.now.items c.new-frames.ensures.items c.in_ok-push.ensures.items
          ∙ frame-whole rows named a.owner levels a.parent a.seeds a.nodes.now.items more
          ∙ ap (λ n. grow n rows named a.owner a.parent a.nodes.now.items a.seeds.items) count;
    }

pub returns-then-not-all-clause-many : goal.returns-then-not-all-clause-many
returns-then-not-all-clause-many c t =
    let a = c.args in
    let rows = a.plan.now.rows.items in
    let named = a.plan.now.named.items in
    let popped = ap (λ fs. with_frames rows named a.owner fs c.frames.nodes.items) c.in-Some.ensures.items
    ∙ frames-last rows named a.owner c.pop.new.self.items c.in-Some.frame c.frames.nodes.items in
    let P : List Node → Type 0 = λ f. 65536 < length f in
    subst P (sym popped ∙ c.frames.invariant.left) (c.in_ok-all.ensures.many (grind (arith, nat_tests, common_steps)))

pub returns-then-len-gt-MAX_NODES-clause-many : goal.returns-then-len-gt-MAX_NODES-clause-many
returns-then-len-gt-MAX_NODES-clause-many c t =
    let a = c.args in
    let rows = a.plan.now.rows.items in
    let named = a.plan.now.named.items in
    let popped = ap (λ fs. with_frames rows named a.owner fs c.frames.nodes.items) c.in-Some.ensures.items
    ∙ frames-last rows named a.owner c.pop.new.self.items c.in-Some.frame c.frames.nodes.items in
    let all = c.in_ok-all.ensures.few (grind (arith, nat_tests, common_steps)) ∙ sym popped ∙ c.frames.invariant.left in
    let past : 65536 < length c.grow_one.new.nodes.items = grind (arith, common_steps) in
    let count = frames-length rows named a.owner c.grow_one.new.frames.items c.grow_one.new.nodes.items in
    omega (arith, ap length all, past, count)

pub frames-preserved : goal.frames-preserved
frames-preserved c =
    let a = c.args in
    let rows = a.plan.now.rows.items in
    let named = a.plan.now.named.items in
    let popped = ap (λ fs. with_frames rows named a.owner fs c.frames.nodes.items) c.in-Some.ensures.items
    ∙ frames-last rows named a.owner c.pop.new.self.items c.in-Some.frame c.frames.nodes.items in
    record {
      small = grind (arith, common_steps);
      left = c.in_ok-all.ensures.few (grind (arith, nat_tests, common_steps)) ∙ sym popped ∙ c.frames.invariant.left;
    }

pub frames-smaller : goal.frames-smaller
frames-smaller c =
    let small : length c.grow_one.new.nodes.items ≤ 65536 = grind (arith, common_steps) in
    omega (arith, ap length c.in-Some.ensures.items, length-append c.pop.new.self.items (c.in-Some.frame ∷ []), c.in_ok-all.ensures.paid, small)
