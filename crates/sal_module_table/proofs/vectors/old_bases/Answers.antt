-- Each example by computation.
use Rattle.sal_stmt.specs.declared.stmt.Stmt.TheViews.{out-roll-Stmt}
use Rattle.sal_module.specs.Keywords.{words, keyword_of, word_of}
use Rattle.sal_module.specs.Statements.{all_named, subs_of, is_named, argument_of, value_of}
use Rattle.sal_module.specs.Profile.{at_stmt}
use Rattle.sal_module_table.specs.Identities.{identity_here, identities_in, identities_of}
use Rattle.sal_module_table.specs.OldBases.{base_faults, faults_of}
use Rattle.sal_module_table.proofs.vectors.old_bases.Goals as goal

pub returns-clause-old : goal.returns-clause-old
unfolding words keyword_of word_of
returns-clause-old c = simp (subs_of, argument_of, is_named, all_named, value_of, at_stmt, identity_here, identities_in, identities_of, base_faults, faults_of, out-roll-Stmt)

pub returns-clause-new : goal.returns-clause-new
unfolding words keyword_of word_of
returns-clause-new c = simp (subs_of, argument_of, is_named, all_named, value_of, at_stmt, identity_here, identities_in, identities_of, base_faults, faults_of, out-roll-Stmt)

pub returns-clause-none : goal.returns-clause-none
unfolding words keyword_of word_of
returns-clause-none c = simp (subs_of, argument_of, is_named, all_named, value_of, at_stmt, identity_here, identities_in, identities_of, base_faults, faults_of, out-roll-Stmt)

pub returns-clause-at_once : goal.returns-clause-at_once
unfolding words keyword_of word_of
returns-clause-at_once c = simp (subs_of, argument_of, is_named, all_named, value_of, at_stmt, identity_here, identities_in, identities_of, base_faults, faults_of, out-roll-Stmt)

pub returns-clause-before : goal.returns-clause-before
unfolding words keyword_of word_of
returns-clause-before c = simp (subs_of, argument_of, is_named, all_named, value_of, at_stmt, identity_here, identities_in, identities_of, base_faults, faults_of, out-roll-Stmt)
