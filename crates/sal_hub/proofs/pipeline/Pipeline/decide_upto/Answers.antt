-- One more is decided.
use Rattle.std.proofs.Common.{◌≡◌, ◌≤◌, ◌+◌, ◌-◌, length, ap, sym, ◌∙◌, subst, arith}
use Rattle.std.proofs.lemmas.Grind.{common_steps}
use Rattle.sal_hub.specs.PipelineView.{Decides, queue_of}
use Rattle.sal_hub.proofs.Deciding.{grown_none}
use Rattle.sal_hub.proofs.Cutting.{Decides-none, HasGrown-then, one_more}
use Rattle.sal_hub.proofs.pipeline.Pipeline.decide_upto.Goals as goal

pub loop-index-init : goal.loop-index-init
loop-index-init c =
    let start = length c.args.self.now.outcomes.items in
    let count : start ≡ c.len-index.result = grind (arith, common_steps) in
    let none : c.len-index.result - start ≡ 0 = omega (arith, count) in
    record {
      count = count;
      bound = omega (arith, none);
      kept = c.requires.kept;
      decided = subst (λ k. Decides (queue_of c.args.self.now) k (queue_of c.args.self.now)) (sym none) (Decides-none (queue_of c.args.self.now));
      grown = grown_none c.requires.sound.0 (queue_of c.args.self.now) c.requires.sound.1;
    }

pub decide_one-requires-clause-sound : goal.decide_one-requires-clause-sound
decide_one-requires-clause-sound c = (c.requires.sound.0, (c.loop-index.invariant.decided c.requires.sound.0 c.requires.sound.1).sound)

pub returns-in_err-decide_one-clause-grown : goal.returns-in_err-decide_one-clause-grown
returns-in_err-decide_one-clause-grown c =
    HasGrown-then (queue_of c.args.self.now) (queue_of c.loop-index.self) (queue_of c.decide_one.new.self) c.loop-index.invariant.grown c.in_err-decide_one.ensures.grown

pub loop-index-preserved : goal.loop-index-preserved
loop-index-preserved c =
    let start = length c.args.self.now.outcomes.items in
    let late : start ≤ c.loop-index.index = grind (arith, common_steps) in
    record {
      count = c.in_ok-decide_one.ensures.count ∙ ap (λ n. n + 1) c.loop-index.invariant.count;
      bound = omega (arith, c.loop-index-test.true, late);
      kept = c.in_ok-decide_one.ensures.kept;
      decided = one_more (queue_of c.args.self.now) (queue_of c.loop-index.self) (queue_of c.decide_one.new.self) start c.loop-index.index late c.loop-index.invariant.decided c.in_ok-decide_one.ensures.ok;
      grown = HasGrown-then (queue_of c.args.self.now) (queue_of c.loop-index.self) (queue_of c.decide_one.new.self) c.loop-index.invariant.grown c.in_ok-decide_one.ensures.grown;
    }

pub returns-clause-decided : goal.returns-clause-decided
returns-clause-decided c =
    let start = length c.args.self.now.outcomes.items in
    let all : c.loop-index.index - start ≡ c.args.upto - start = omega (arith, c.loop-index-test.false, c.loop-index.invariant.bound) in
    subst (λ k. Decides (queue_of c.args.self.now) k (queue_of c.loop-index.self)) all c.loop-index.invariant.decided
