use Rattle.std.proofs.Common.{◌≡◌, ◌∙◌, ◌+◌, [], ◌∷◌, ◌++◌, Some, Ok, string_bytes, drop, refl, ap, sym, rules}
use Rattle.serde_json.specs.View.{view, items_view, members_view}
use Rattle.serde_json.proofs.Views.{Entry}
use Rattle.sal_data.specs.Read.{followed, object_rows, members_rows, entries_rows}
use Rattle.sal_data.specs.Walked.{member_rows}
use Rattle.sal_data.proofs.Following.{gives_err, have_same_more}
use Rattle.sal_data.proofs.Walking.{mark_at, go_on, members-one, entry-fails, entry-here}
use Rattle.sal_data.proofs.reader.Reader.+walk.Goals as goal

pub entries_rows-loop-item-init : goal.entries_rows-loop-item-init
entries_rows-loop-item-init t c = (c.args.seen.now, (λ q. refl), refl)

pub entries_rows-returns-in_err-below : goal.entries_rows-returns-in_err-below
entries_rows-returns-in_err-below t c =
    let l = c.loop-item in
    let table = c.args.self.now.schema.now in
    let xs = c.deref-item-items.result.now in
    let e = c.in_err-below.field-0.0 in
    gives_err _ _ _ e _ c.from_residual-in_err-below.ensures.1 (λ known.
    ap (λ ys. followed c.args.out.now.items (entries_rows table c.args.node c.args.path.now c.args.seen.now (items_view ys))) (sym c.deref-item-items.ensures.value) ∙ l.invariant.2
    ∙ entry-fails table c.args.node c.args.path.now l.invariant.0 xs l.item-index c.item-item.result c.loop-item-test.true c.item-item.is l.out.items l.seen l.invariant.1 c.in_ok-step.step e
    c.in_ok-step.ensures (c.in_err-below.ensures.value known))

pub entries_rows-returns-in_err-object_rows : goal.entries_rows-returns-in_err-object_rows
entries_rows-returns-in_err-object_rows t c =
    let l = c.loop-item in
    let table = c.args.self.now.schema.now in
    let n = c.args.node in
    let xs = c.deref-item-items.result.now in
    let x = c.item-item.result in
    let step = c.in_ok-step.step in
    let below = c.in_ok-below.below in
    let marked : c.mark.new.out.items ≡ l.out.items ++ mark_at below ∷ [] = c.in_ok-mark.ensures in
    let e = c.in_err-object_rows.field-0.0 in
    gives_err _ _ _ e _ c.from_residual-in_err-object_rows.ensures.1 (λ known.
    ap (λ ys. followed c.args.out.now.items (entries_rows table n c.args.path.now c.args.seen.now (items_view ys))) (sym c.deref-item-items.ensures.value) ∙ l.invariant.2
    ∙ entry-here table n c.args.path.now l.invariant.0 xs l.item-index x c.loop-item-test.true c.item-item.is l.out.items l.seen l.invariant.1 step below c.in_ok-step.ensures c.in_ok-below.ensures.value
    ∙ ap (λ now. go_on now (entries_rows table n c.args.path.now (step ∷ l.invariant.0) (items_view (drop (l.item-index + 1) xs))))
    (ap (λ rows. followed rows (object_rows table (Some n) below (view x))) (sym marked) ∙ c.in_err-object_rows.ensures known))

pub entries_rows-loop-item-preserved : goal.entries_rows-loop-item-preserved
entries_rows-loop-item-preserved t c =
    let l = c.loop-item in
    let table = c.args.self.now.schema.now in
    let n = c.args.node in
    let x = c.item-item.result in
    let seen = l.invariant.0 in
    let step = c.in_ok-step.step in
    let below = c.in_ok-below.below in
    let marked : c.mark.new.out.items ≡ l.out.items ++ mark_at below ∷ [] = c.in_ok-mark.ensures in
    let read : followed (l.out.items ++ mark_at below ∷ []) (object_rows table (Some n) below (view x)) ≡ Ok c.object_rows.new.out.items =
    ap (λ rows. followed rows (object_rows table (Some n) below (view x))) (sym marked) ∙ c.in_ok-object_rows.ensures in (
      step ∷ seen,
      have_same_more l.seen seen c.entered.new.seen step l.invariant.1 c.in_ok-below.ensures.one_more,
      l.invariant.2
          ∙ entry-here table n c.args.path.now seen c.deref-item-items.result.now l.item-index x c.loop-item-test.true c.item-item.is l.out.items l.seen l.invariant.1 step below
          c.in_ok-step.ensures c.in_ok-below.ensures.value
          ∙ ap (λ now. go_on now (entries_rows table n c.args.path.now (step ∷ seen) (items_view (drop (l.item-index + 1) c.deref-item-items.result.now)))) read,
    )

pub members_rows-loop-name-preserved : goal.members_rows-loop-name-preserved
members_rows-loop-name-preserved t c =
    let l = c.loop-name in
    let table = c.args.self.now.schema.now in
    let e : Entry = (c.in-Some.name.now, c.in-Some.member.now) in
    let left = c.next.new.self in
    let step : l.name-iterator ≡ e ∷ left = c.in-Some.ensures.steps in
    let named : c.as_str.result.now ≡ string_bytes e.0 = search rules in
    let read : followed l.out.items (member_rows table c.args.parent c.args.path.now (string_bytes e.0) (view e.1)) ≡ Ok c.member_rows.new.out.items =
    ap (λ name. followed l.out.items (member_rows table c.args.parent c.args.path.now name (view e.1))) (sym named) ∙ c.in_ok-member_rows.ensures in
    l.invariant ∙ ap (λ es. followed l.out.items (members_rows table c.args.parent c.args.path.now (members_view es))) step
    ∙ members-one table c.args.parent c.args.path.now l.out.items (string_bytes e.0) (view e.1) (members_view left) ∙ ap (λ now. go_on now (members_rows table c.args.parent c.args.path.now (members_view left))) read

pub members_rows-returns-in_err-member_rows : goal.members_rows-returns-in_err-member_rows
members_rows-returns-in_err-member_rows t c =
    let l = c.loop-name in
    let table = c.args.self.now.schema.now in
    let e : Entry = (c.in-Some.name.now, c.in-Some.member.now) in
    let left = c.next.new.self in
    let step : l.name-iterator ≡ e ∷ left = c.in-Some.ensures.steps in
    let named : c.as_str.result.now ≡ string_bytes e.0 = search rules in
    let fault = c.in_err-member_rows.field-0.0 in
    gives_err _ _ _ fault _ c.from_residual.ensures.1 (λ known.
    l.invariant ∙ ap (λ es. followed l.out.items (members_rows table c.args.parent c.args.path.now (members_view es))) step
    ∙ members-one table c.args.parent c.args.path.now l.out.items (string_bytes e.0) (view e.1) (members_view left)
    ∙ ap (λ now. go_on now (members_rows table c.args.parent c.args.path.now (members_view left))) (ap (λ name. followed l.out.items (member_rows table c.args.parent c.args.path.now name (view e.1))) (sym named) ∙ c.in_err-member_rows.ensures known))
