-- One more is put.
use Rattle.std.proofs.Common.{◌≡◌, ℕ, ◌+◌, ◌≤◌, ◌∷◌, None, List, take, length, ap, sym, ◌∙◌, arith}
use Rattle.std.proofs.lemmas.List.{length-set, take_all}
use Rattle.std.specs.Prelude.{slice_get}
use Rattle.sal_rows.specs.declared.clash.Rules.{Rules}
use Rattle.sal_history.specs.World.{Domain}
use Rattle.sal_history.specs.declared.opening.Opening.{Opening}
use Rattle.sal_hub.specs.Openings.{world_of}
use Rattle.sal_prepare.specs.Resumed.{with_opening_at, with_openings}
use Rattle.sal_prepare.proofs.Replaced.{behind_set, next_device}
use Rattle.sal_prepare.proofs.given.put_openings.Goals as goal

pub loop-index-preserved : goal.loop-index-preserved
loop-index-preserved c =
    let l = c.loop-index in
    let given = c.args.given.items in
    let o = c.taken-opening.result in
    let at = sym (l.invariant.rest l.index (omega arith)) ∙ c.taken-opening.ensures.taken in
    record {
      put = λ rules.
          c.put_opening.ensures rules ∙ ap (λ (w : List Domain). with_opening_at w (l.index + 1) o) (l.invariant.put rules)
          ∙ next_device (world_of rules c.args.devices.now.items) given l.index o at;
      rest = λ k past.
          ap (λ xs. slice_get xs k) c.taken-opening.ensures.left ∙ behind_set l.given.items l.index k None (omega (arith, past)) ∙ l.invariant.rest k (omega (arith, past));
      long = ap length c.taken-opening.ensures.left ∙ length-set l.given.items l.index None ∙ l.invariant.long;
    }
