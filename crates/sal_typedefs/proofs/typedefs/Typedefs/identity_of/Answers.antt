use Rattle.std.proofs.Common.{ℕ, ◌<◌, ◌^◌, Option, sym, subst}
use Rattle.std.specs.Prelude.{IfSome}
use Rattle.sal_typedefs.proofs.IdentityNumbers.{identity-small}
use Rattle.sal_typedefs.proofs.typedefs.Typedefs.identity_of.Goals as goal

pub returns-clause-small : goal.returns-clause-small
returns-clause-small c =
    let P : Option ℕ → Type 0 = λ found. IfSome found (λ k. k < 2 ^ 32) in
    subst P (sym c.found.ensures) (identity-small c.args.self.now c.args.number c.args.name.now c.are_counted.ensures)
