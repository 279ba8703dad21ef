use Rattle.std.proofs.Common.{◌≡◌, ◌∙◌, ◌==◌, length, true, nat_eq, sym, ap}
use Rattle.sal_module.specs.Statements.{subs_of}
use Rattle.sal_typedefs.specs.Builtins.{builtin_of}
use Rattle.sal_typedefs.proofs.WholeTypes.{empty-list}
use Rattle.sal_typedefs.proofs.whole.lone_builtin.Goals as goal

pub returns-in-Some : goal.returns-in-Some
returns-in-Some c =
    let none : (length (subs_of c.args.stmt.now) == 0) ≡ true = sym (c.is_empty.ensures ∙ ap (λ xs. nat_eq (length xs) 0) c.items.ensures) ∙ c.if-not-is_empty.false in
    record {
      alone = empty-list (subs_of c.args.stmt.now) none;
      named = ap builtin_of (sym c.argument_of.ensures) ∙ sym c.builtin_of.ensures ∙ c.in-Some.is;
    }
