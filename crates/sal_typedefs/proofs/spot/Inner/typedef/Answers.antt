use Rattle.std.proofs.Common.{◌∙◌, sym, ap}
use Rattle.std.specs.Prelude.{find}
use Rattle.sal_stmt.specs.declared.stmt.Stmt.{Stmt}
use Rattle.sal_module.specs.Statements.{subs_of}
use Rattle.sal_typedefs.specs.Scopes.{is_typedef_of}
use Rattle.sal_typedefs.proofs.spot.Inner.typedef.Goals as goal

pub returns-then-self : goal.returns-then-self
returns-then-self c =
    let name = c.args.name.now in
    sym (c.self.invariant c.if-self.true name) ∙ ap (λ (s : Stmt). find (is_typedef_of name) (subs_of s)) c.self.view_is
