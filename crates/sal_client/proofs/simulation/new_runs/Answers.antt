-- One more client is at its beginning.
use Rattle.std.proofs.Common.{◌≡◌, ◌+◌, ◌<◌, ◌∷◌, [], List, length, get_or, ap, sym, ◌∙◌, subst, arith, length-append}
use Rattle.sal_script.specs.Play.{Run, PlayState}
use Rattle.sal_client.specs.declared.run.ClientRun.{ClientRun as CodeRun}
use Rattle.sal_client.proofs.Standing.{IsFresh, fresh_more, fresh_runs, AreRuns-fresh}
use Rattle.sal_client.proofs.simulation.new_runs.Goals as goal

pub loop-i-preserved : goal.loop-i-preserved
loop-i-preserved c =
    let items = c.in_ok-push.ensures.items in
    let long = c.loop-i.invariant.long in
    let new = c.new.ensures in
    let fresh : IsFresh c.new.result = record { at = new.at; client = new.client; sound = new.sound } in
    record {
      long = ap length items ∙ length-append c.loop-i.runs.items (c.new.result ∷ []) ∙ ap (λ n. n + 1) long;
      each = subst (λ (rs : List CodeRun). (k : _) (r : CodeRun) → k < length rs → r ≡ get_or rs k r → IsFresh r × (r.client.number ≡ k)) (sym items) (fresh_more c.loop-i.runs.items c.new.result c.loop-i.invariant.each fresh (new.number ∙ sym long));
    }

pub returns-clause-stand : goal.returns-clause-stand
returns-clause-stand c =
    let long : length c.loop-i.runs.items ≡ length c.args.programs.now = omega (arith, c.loop-i.invariant.long) in
    ap (λ (us : List Run). let s : PlayState = record { log = []; runs = us } in s) (fresh_runs c.args.programs.now c.loop-i.runs.items long (λ k r h at. (c.loop-i.invariant.each k r h at).0))

pub returns-clause-runs : goal.returns-clause-runs
returns-clause-runs c known none =
    let long : length c.loop-i.runs.items ≡ length c.args.programs.now = omega (arith, c.loop-i.invariant.long) in
    AreRuns-fresh known c.args.programs.now c.loop-i.runs.items none c.requires.limits c.requires.json long c.loop-i.invariant.each
