-- Each example by computation.
use Rattle.std.proofs.Common.{refl}
use Rattle.sal_stmt.specs.declared.stmt.Stmt.TheViews.{out-roll-Stmt}
use Rattle.sal_module.specs.Keywords.{words, word_of}
use Rattle.sal_module.specs.Statements.{all_named, argument_of, is_named, subs_of, value_of}
use Rattle.examples_worked.proofs.modules.modules_by_prefix.Goals as goal

pub returns : goal.returns
unfolding words word_of
returns c = record {
  import = simp (out-roll-Stmt, all_named, argument_of, is_named, subs_of, value_of);
  own = simp (out-roll-Stmt, all_named, argument_of, is_named, subs_of, value_of);
  other = simp (out-roll-Stmt, all_named, argument_of, is_named, subs_of, value_of);
  no_module = refl;
}
