-- Each example by computation.
use Rattle.std.proofs.Common.{refl}
use Rattle.sal_stmt.specs.Words.{is_keyword}
use Rattle.sal_stmt.specs.declared.stmt.Stmt.TheViews.{out-roll-Stmt}
use Rattle.sal_restrict.specs.declared.yang_type.YangType.TheViews.{out-roll-YangType}
use Rattle.sal_module.specs.Keywords.{words, keyword_of, word_of}
use Rattle.sal_module.specs.Statements.{all_named, subs_of, is_named, argument_of, value_of}
use Rattle.sal_module.specs.Profile.{at_stmt}
use Rattle.sal_typedefs.specs.Scopes.{way_to, place_of, within}
use Rattle.sal_typedefs.specs.Builtins.{names, builtin_of}
use Rattle.sal_typedefs.specs.Names.{under, count, name_of}
use Rattle.sal_typedefs.specs.Restrictions.{is_needed, is_misplaced, layer_of}
use Rattle.sal_typedefs.specs.Patterns.{is_malformed}
use Rattle.sal_typedefs.specs.Types.{judge, restricted, judged, base_of, members_of}
use Rattle.regex.proofs.OnLiterals.{regex_on_literals}
use Rattle.std.specs.Str.{chars}
use Rattle.sal_typedefs.proofs.vectors.meanings.Goals as goal

pub returns-clause-narrowed : goal.returns-clause-narrowed
unfolding words keyword_of word_of is_keyword way_to names builtin_of under count judge
returns-clause-narrowed c = simp (place_of, subs_of, within, argument_of, is_named, all_named, value_of, at_stmt, name_of, is_needed, is_misplaced, layer_of, out-roll-Stmt, out-roll-YangType)

pub returns-clause-enumeration : goal.returns-clause-enumeration
unfolding words keyword_of word_of is_keyword way_to names builtin_of under count judge
returns-clause-enumeration c = simp (place_of, subs_of, within, argument_of, is_named, all_named, value_of, at_stmt, name_of, is_needed, is_misplaced, layer_of, out-roll-Stmt, out-roll-YangType)

pub returns-clause-subset : goal.returns-clause-subset
unfolding words keyword_of word_of is_keyword way_to names builtin_of under count judge
returns-clause-subset c = simp (place_of, subs_of, within, argument_of, is_named, all_named, value_of, at_stmt, name_of, is_needed, is_misplaced, layer_of, out-roll-Stmt, out-roll-YangType)

pub returns-clause-bits : goal.returns-clause-bits
unfolding words keyword_of word_of is_keyword way_to names builtin_of under count judge
returns-clause-bits c = simp (place_of, subs_of, within, argument_of, is_named, all_named, value_of, at_stmt, name_of, is_needed, is_misplaced, layer_of, out-roll-Stmt, out-roll-YangType)

pub returns-clause-flat : goal.returns-clause-flat
unfolding words keyword_of word_of is_keyword way_to names builtin_of under count judge
returns-clause-flat c = simp (restricted, judged, base_of, members_of, place_of, subs_of, within, argument_of, is_named, all_named, value_of, at_stmt, name_of, is_needed, is_misplaced, layer_of, out-roll-Stmt, out-roll-YangType)

pub returns-clause-open : goal.returns-clause-open
unfolding regex_on_literals is_malformed chars
returns-clause-open c = refl

pub returns-clause-joined : goal.returns-clause-joined
unfolding regex_on_literals is_malformed chars
returns-clause-joined c = refl
