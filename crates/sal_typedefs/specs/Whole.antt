-- Type statements that are only the name of a built-in type.
use Rattle.std.specs.Prelude.{◌≡◌, Bool, [], Some, is_none}
use Rattle.sal_stmt.specs.declared.stmt.Stmt.{Stmt}
use Rattle.sal_module.specs.Statements.{subs_of, argument_of}
use Rattle.sal_typedefs.specs.Builtins.{builtin_of, bare}
use Rattle.sal_typedefs.specs.Restrictions.{needed}
use Rattle.sal_typedefs.specs.declared.builtin.Builtin.{Builtin}

-- a built-in type whose statement requires no substatement
abbrev pub is_whole : Builtin → Bool
is_whole builtin = is_none (needed (bare builtin))

-- a statement that is only the name of a built-in type
pub record Names (stmt : Stmt) (builtin : Builtin) : Type 0 where
  pub alone : subs_of stmt ≡ []
  pub named : builtin_of (argument_of stmt) ≡ Some builtin
