-- Each example by computation.
use Rattle.sal_stmt.specs.Words.{is_keyword}
use Rattle.sal_stmt.specs.declared.stmt.Stmt.TheViews.{out-roll-Stmt}
use Rattle.sal_module.specs.Keywords.{words, keyword_of, word_of}
use Rattle.sal_module.specs.Table.{rows, rule_at, rule_of}
use Rattle.sal_module.specs.Statements.{all_named, subs_of, is_named}
use Rattle.sal_module.specs.LeftOut.{calls_deref_after, bit_faults}
use Rattle.sal_module.specs.Profile.{level_faults, tree_faults, module_faults}
use Rattle.sal_module.proofs.vectors.examples.Goals as goal

pub returns-clause-missing : goal.returns-clause-missing
unfolding words keyword_of word_of rows rule_at rule_of calls_deref_after bit_faults level_faults tree_faults module_faults is_keyword
returns-clause-missing c = simp (out-roll-Stmt, all_named, subs_of, is_named)

pub returns-clause-twice : goal.returns-clause-twice
unfolding words keyword_of word_of rows rule_at rule_of calls_deref_after bit_faults level_faults tree_faults module_faults is_keyword
returns-clause-twice c = simp (out-roll-Stmt, all_named, subs_of, is_named)

pub returns-clause-left_out : goal.returns-clause-left_out
unfolding words keyword_of word_of rows rule_at rule_of calls_deref_after bit_faults level_faults tree_faults module_faults is_keyword
returns-clause-left_out c = simp out-roll-Stmt
