-- Each example by computation.
use Rattle.sal_stmt.specs.Words.{is_keyword}
use Rattle.sal_stmt.specs.declared.stmt.Stmt.TheViews.{out-roll-Stmt}
use Rattle.sal_restrict.specs.declared.yang_type.YangType.TheViews.{out-roll-YangType}
use Rattle.sal_module.specs.Keywords.{words, keyword_of, word_of}
use Rattle.sal_module.specs.Statements.{all_named, subs_of, is_named, argument_of, value_of}
use Rattle.sal_module.specs.Profile.{at_stmt}
use Rattle.sal_typedefs.specs.Scopes.{way_to, place_of, within}
use Rattle.sal_typedefs.specs.Builtins.{names, builtin_of}
use Rattle.sal_typedefs.specs.Names.{under, count, name_of}
use Rattle.sal_typedefs.specs.Restrictions.{is_needed, is_misplaced, layer_of}
use Rattle.sal_typedefs.specs.Types.{judge}
use Rattle.sal_typedefs.proofs.vectors.faults.Goals as goal

pub returns-clause-unknown : goal.returns-clause-unknown
unfolding words keyword_of word_of is_keyword way_to names builtin_of under count judge
returns-clause-unknown c = simp (place_of, subs_of, within, argument_of, is_named, all_named, value_of, at_stmt, name_of, is_needed, is_misplaced, layer_of, out-roll-Stmt, out-roll-YangType)

pub returns-clause-prefix : goal.returns-clause-prefix
unfolding words keyword_of word_of is_keyword way_to names builtin_of under count judge
returns-clause-prefix c = simp (place_of, subs_of, within, argument_of, is_named, all_named, value_of, at_stmt, name_of, is_needed, is_misplaced, layer_of, out-roll-Stmt, out-roll-YangType)

pub returns-clause-wider : goal.returns-clause-wider
unfolding words keyword_of word_of is_keyword way_to names builtin_of under count judge
returns-clause-wider c = simp (place_of, subs_of, within, argument_of, is_named, all_named, value_of, at_stmt, name_of, is_needed, is_misplaced, layer_of, out-roll-Stmt, out-roll-YangType)

pub returns-clause-circle : goal.returns-clause-circle
unfolding words keyword_of word_of is_keyword way_to names builtin_of under count judge
returns-clause-circle c = simp (place_of, subs_of, within, argument_of, is_named, all_named, value_of, at_stmt, name_of, is_needed, is_misplaced, layer_of, out-roll-Stmt, out-roll-YangType)

pub returns-clause-lacking : goal.returns-clause-lacking
unfolding words keyword_of word_of is_keyword way_to names builtin_of under count judge
returns-clause-lacking c = simp (place_of, subs_of, within, argument_of, is_named, all_named, value_of, at_stmt, name_of, is_needed, is_misplaced, layer_of, out-roll-Stmt, out-roll-YangType)

pub returns-clause-twice : goal.returns-clause-twice
unfolding words keyword_of word_of is_keyword way_to names builtin_of under count judge
returns-clause-twice c = simp (place_of, subs_of, within, argument_of, is_named, all_named, value_of, at_stmt, name_of, is_needed, is_misplaced, layer_of, out-roll-Stmt, out-roll-YangType)

pub returns-clause-absent : goal.returns-clause-absent
unfolding words keyword_of word_of is_keyword way_to names builtin_of under count judge
returns-clause-absent c = simp (place_of, subs_of, within, argument_of, is_named, all_named, value_of, at_stmt, name_of, is_needed, is_misplaced, layer_of, out-roll-Stmt, out-roll-YangType)

pub returns-clause-kind : goal.returns-clause-kind
unfolding words keyword_of word_of is_keyword way_to names builtin_of under count judge
returns-clause-kind c = simp (place_of, subs_of, within, argument_of, is_named, all_named, value_of, at_stmt, name_of, is_needed, is_misplaced, layer_of, out-roll-Stmt, out-roll-YangType)

pub returns-clause-path : goal.returns-clause-path
unfolding words keyword_of word_of is_keyword way_to names builtin_of under count judge
returns-clause-path c = simp (place_of, subs_of, within, argument_of, is_named, all_named, value_of, at_stmt, name_of, is_needed, is_misplaced, layer_of, out-roll-Stmt, out-roll-YangType)
