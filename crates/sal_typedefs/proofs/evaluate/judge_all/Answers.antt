use Rattle.std.proofs.Common.{take, drop, map, arith}
use Rattle.sal_typedefs.specs.Walks.{node_of}
use Rattle.sal_typedefs.specs.Runs.{run}
use Rattle.sal_typedefs.proofs.LeastLists.{all-numbers, all-positions}
use Rattle.sal_typedefs.proofs.RunLists.{start-run, run-more}
use Rattle.sal_typedefs.proofs.evaluate.judge_all.Goals as goal

pub nodes-init : goal.nodes-init
nodes-init c = (omega arith, start-run c.args.typedefs.now c.args.nodes.now c.new-done.result.items c.new-done.ensures.items)

pub judge_next-requires-clause-numbers : goal.judge_next-requires-clause-numbers
judge_next-requires-clause-numbers c =
    let js = run c.args.typedefs.now (map node_of (drop c.nodes.n c.args.nodes.now)) in
    let taken = c.in_ok-below.ensures js c.nodes.invariant.1 in
    all-numbers c.in_ok-below.below.items _ taken.0

pub judge_next-requires-clause-positions : goal.judge_next-requires-clause-positions
judge_next-requires-clause-positions c =
    let js = run c.args.typedefs.now (map node_of (drop c.nodes.n c.args.nodes.now)) in
    let taken = c.in_ok-below.ensures js c.nodes.invariant.1 in
    all-positions c.in_ok-below.below.items _ taken.0

pub nodes-preserved : goal.nodes-preserved
nodes-preserved c =
    let modules = c.args.typedefs.now in
    let all = c.args.nodes.now in
    let node = c.index-nodes-n.result in
    let js = run modules (map node_of (drop c.nodes.n all)) in
    let taken = c.in_ok-below.ensures js c.nodes.invariant.1 in
    let one = c.in_ok-judgement.ensures (take node.below js) taken.0 in (
      omega (arith, c.nodes.invariant.0),
      run-more modules all c.nodes.n node c.in_ok-judgement.judgement c.take_last.new.done.items c.take_last.new.done.items c.append.new.list.items (omega arith) c.nodes.invariant.0 c.index-nodes-n.is
          c.in_ok-append.ensures one taken.1,
    )
