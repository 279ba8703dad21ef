-- One more note is offered.
use Rattle.std.proofs.Common.{List, [], ◌∷◌, ◌++◌, ap, sym, ◌∙◌}
use Rattle.sal_types.specs.declared.row.Row.{Row}
use Rattle.sal_note.specs.declared.call.Note.{Note}
use Rattle.sal_feed_script.proofs.Notes.{one_offered}
use Rattle.sal_feed_script.proofs.rounds.offer_some.Goals as goal

pub loop-number-preserved : goal.loop-number-preserved
loop-number-preserved g c =
    let l = c.loop-number in (
      c.offer.ensures.feed ∙ l.invariant.0,
      c.in_default.ensures.told
          ∙ ap (λ (rows : List Row). l.seat.offered ++ record { note = l.number; rows = rows } ∷ []) c.new-rows.ensures
          ∙ ap (λ (notes : List Note). notes ++ record { note = l.number; rows = [] } ∷ []) l.invariant.1
          ∙ sym (one_offered l.number),
    )
