-- The walk is at its end.
use Rattle.std.proofs.Common.{◌++◌, List, ap, sym, ◌∙◌, append-nil, arith}
use Rattle.std.specs.List.{filter_map}
use Rattle.sal_draw_log.specs.Drawn.{Said, mounted_by}
use Rattle.sal_draw_log.proofs.Ends.{saids_past}
use Rattle.sal_draw_log.proofs.scenes.columns_of.Goals as goal

pub returns : goal.returns
returns c =
    let none = saids_past c.args.log.now c.args.replies.now c.loop-i.i (omega (arith, c.loop-i-test.false, c.min-i-end.ensures)) in
    sym (append-nil c.loop-i.columns.items)
    ∙ ap (λ (xs : List Said). c.loop-i.columns.items ++ filter_map (λ (s : Said). mounted_by s.entry.call s.reply) xs) (sym none)
    ∙ c.loop-i.invariant
