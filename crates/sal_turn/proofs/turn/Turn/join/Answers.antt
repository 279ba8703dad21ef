use Rattle.std.proofs.Common.{rules, List, length, ◌≤◌, sym, ap, subst}
use Rattle.sal_turn.specs.Lists.{shorter}
use Rattle.sal_turn.proofs.Lists.{shorter_le}
use Rattle.sal_turn.proofs.Join.{joins, compares}
use Rattle.sal_turn.proofs.turn.Turn.join.Goals as goal

pub join_seat-requires : goal.join_seat-requires
join_seat-requires g c = (search rules, search rules, search rules, search rules, joins g.V.Chronicle.entries g.V.Chronicle.client g.V.Chronicle.ground _ _ _ _ c.a.invariant.1 c.b.invariant.1)

pub load-requires : goal.load-requires
load-requires g c =
    let e = c.join_seat.ensures.2 in (
      search rules,
      search rules,
      compares g.V.Chronicle.entries g.V.Chronicle.client g.V.Chronicle.ground _ _ _ _ (ap (λ m. m.0.stage) e)
          (subst (λ (es : List g.row.V-Entry.Denot). length (shorter c.a.inside.token.me.0.seen c.b.inside.token.me.0.seen) ≤ length es) (ap (λ m. m.0.seen) (sym e)) (shorter_le c.a.inside.token.me.0.seen c.b.inside.token.me.0.seen)),
    )
