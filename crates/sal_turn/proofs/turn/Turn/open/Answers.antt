use Rattle.std.proofs.Common.{◌≡◌, [], ◌∷◌, ◌++◌, Some, ap, ◌∙◌}
use Rattle.sal_turn.proofs.Open.{begins}
use Rattle.sal_turn.proofs.turn.Turn.open.Goals as goal

pub new-requires : goal.new-requires
new-requires g c =
    let items : c.push.new.self.items ≡ Some c.args.value ∷ [] = c.in_ok-push.ensures.items ∙ ap (λ xs. xs ++ Some c.args.value ∷ []) c.in_ok-slots.ensures.items in
    rw (items, c.of.ensures) (begins g.V.Chronicle.entries g.V.Chronicle.client g.V.Chronicle.ground c.args.number c.args.value c.requires c.ranges.number.fits)
