use Rattle.std.proofs.Common.{◌≡◌, ◌++◌, ℕ, List, drop, ap, sym, subst, ◌∙◌}
use Rattle.sal_follow.specs.Front.{front}
use Rattle.sal_follow.specs.States.{IsStepped}
use Rattle.sal_follow.proofs.Feeding.{gained-by, gained-none}
use Rattle.sal_follow.proofs.follower.gained.Goals as goal

pub returns-in-Part-clause-told : goal.returns-in-Part-clause-told
returns-in-Part-clause-told c =
    let grown : c.append.new.rest.items ≡ c.args.rest.now.items ++ c.args.piece.now = c.in_ok-append.ensures.ok in
    gained-none c.args.reader.now.schema.now c.args.state.now c.args.rest.now.items c.args.piece.now c.append.new.rest.items c.requires.going c.requires.part (ap front (sym c.deref.ensures.value) ∙ sym c.front_of.ensures ∙ c.in-Part.is) c.requires.sound.within grown

pub returns-in-Ok-clause-told : goal.returns-in-Ok-clause-told
returns-in-Ok-clause-told c =
    let table = c.args.reader.now.schema.now in
    let start = c.args.state.now in
    let grown : c.append.new.rest.items ≡ c.args.rest.now.items ++ c.args.piece.now = c.in_ok-append.ensures.ok in
    let (used, stepped, left) = c.in-Ok.ensures.told in
    gained-by table start c.args.rest.now.items c.args.piece.now c.judged.new.state used c.judged.new.rest.items c.requires.going c.requires.part
    (subst (λ (bytes : List ℕ). IsStepped table start bytes c.judged.new.state used) grown stepped) (left ∙ ap (drop used) grown)
