use Rattle.std.proofs.Common.{◌≡◌, ◌∙◌, ◌+◌, [], ◌∷◌, ◌++◌, drop, refl, ap, sym}
use Rattle.serde_json.specs.View.{items_view}
use Rattle.sal_data.specs.Read.{followed, items_rows}
use Rattle.sal_data.proofs.Following.{gives_err, have_same_more}
use Rattle.sal_data.proofs.Walking.{mark_at, item-fails, item-here}
use Rattle.sal_data.proofs.reader.Reader.items_rows.Goals as goal

pub loop-item-init : goal.loop-item-init
loop-item-init c = (c.args.seen.now, (λ q. refl), refl)

pub returns-in_err-below : goal.returns-in_err-below
returns-in_err-below c =
    let l = c.loop-item in
    let table = c.args.self.now.schema.now in
    let xs = c.deref-item-items.result.now in
    let e = c.in_err-below.field-0.0 in
    gives_err _ _ _ e _ c.from_residual-in_err-below.ensures.1 (λ known.
    ap (λ ys. followed c.args.out.now.items (items_rows table c.args.node c.args.path.now c.args.seen.now (items_view ys))) (sym c.deref-item-items.ensures.value) ∙ l.invariant.2
    ∙ item-fails table c.args.node c.args.path.now l.invariant.0 xs l.item-index c.item-item.result c.loop-item-test.true c.item-item.is l.out.items l.seen l.invariant.1 c.in_ok-step.step e
    c.in_ok-step.ensures (c.in_err-below.ensures.value known))

pub loop-item-preserved : goal.loop-item-preserved
loop-item-preserved c =
    let l = c.loop-item in
    let table = c.args.self.now.schema.now in
    let xs = c.deref-item-items.result.now in
    let step = c.in_ok-step.step in
    let below = c.in_ok-below.below in
    let marked : c.mark.new.out.items ≡ l.out.items ++ mark_at below ∷ [] = c.in_ok-mark.ensures in (
      step ∷ l.invariant.0,
      have_same_more l.seen l.invariant.0 c.entered.new.seen step l.invariant.1 c.in_ok-below.ensures.one_more,
      l.invariant.2
          ∙ item-here table c.args.node c.args.path.now l.invariant.0 xs l.item-index c.item-item.result c.loop-item-test.true c.item-item.is l.out.items l.seen l.invariant.1 step below
          c.in_ok-step.ensures c.in_ok-below.ensures.value
          ∙ ap (λ rows. followed rows (items_rows table c.args.node c.args.path.now (step ∷ l.invariant.0) (items_view (drop (l.item-index + 1) xs)))) (sym marked),
    )
