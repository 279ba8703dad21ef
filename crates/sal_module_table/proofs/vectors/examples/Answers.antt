-- Each example by computation.
use Rattle.std.proofs.Common.{refl}
use Rattle.sal_stmt.specs.declared.stmt.Stmt.TheViews.{out-roll-Stmt}
use Rattle.sal_restrict.specs.declared.yang_type.YangType.TheViews.{out-roll-YangType}
use Rattle.sal_module.specs.Keywords.{words, keyword_of, word_of}
use Rattle.sal_module.specs.Statements.{all_named, subs_of, is_named, argument_of, value_of}
use Rattle.sal_module.specs.Places.{find_at}
use Rattle.sal_module.specs.Imports.{reaches}
use Rattle.sal_module.specs.Profile.{at_stmt}
use Rattle.sal_module_table.specs.Nodes.{stmt_of, own_stmt, has, keyword_in, kind_in, kind_of, argument_in, name_of, stated, own_config}
use Rattle.sal_module_table.specs.Inherited.{inherited}
use Rattle.sal_module_table.specs.Filled.{filled_member, filled_members, left_after}
use Rattle.sal_module_table.specs.Lists.{block_of, sub_faults, config_fault}
use Rattle.sal_module_table.specs.Identities.{identity_here, identities_in, bases_in, bases_of, base_faults}
use Rattle.sal_module_table.proofs.vectors.examples.Goals as goal

pub returns-clause-words : goal.returns-clause-words
returns-clause-words c = refl

pub returns-clause-good : goal.returns-clause-good
unfolding words keyword_of word_of find_at inherited reaches
returns-clause-good c = simp (subs_of, argument_of, is_named, all_named, value_of, at_stmt, stmt_of, own_stmt, has, keyword_in, kind_in, kind_of, argument_in, name_of, stated, own_config, block_of, sub_faults, config_fault, identity_here, identities_in, bases_in, bases_of, base_faults, out-roll-Stmt)

pub returns-clause-prefixed : goal.returns-clause-prefixed
unfolding words keyword_of word_of find_at inherited reaches
returns-clause-prefixed c = simp (subs_of, argument_of, is_named, all_named, value_of, at_stmt, stmt_of, own_stmt, has, keyword_in, kind_in, kind_of, argument_in, name_of, stated, own_config, block_of, sub_faults, config_fault, identity_here, identities_in, bases_in, bases_of, base_faults, out-roll-Stmt)

pub returns-clause-missing : goal.returns-clause-missing
unfolding words keyword_of word_of find_at inherited reaches
returns-clause-missing c = simp (subs_of, argument_of, is_named, all_named, value_of, at_stmt, stmt_of, own_stmt, has, keyword_in, kind_in, kind_of, argument_in, name_of, stated, own_config, block_of, sub_faults, config_fault, identity_here, identities_in, bases_in, bases_of, base_faults, out-roll-Stmt)

pub returns-clause-twice : goal.returns-clause-twice
unfolding words keyword_of word_of find_at inherited reaches
returns-clause-twice c = simp (subs_of, argument_of, is_named, all_named, value_of, at_stmt, stmt_of, own_stmt, has, keyword_in, kind_in, kind_of, argument_in, name_of, stated, own_config, block_of, sub_faults, config_fault, identity_here, identities_in, bases_in, bases_of, base_faults, out-roll-Stmt)

pub returns-clause-empty : goal.returns-clause-empty
unfolding words keyword_of word_of find_at inherited reaches
returns-clause-empty c = simp (subs_of, argument_of, is_named, all_named, value_of, at_stmt, stmt_of, own_stmt, has, keyword_in, kind_in, kind_of, argument_in, name_of, stated, own_config, block_of, sub_faults, config_fault, identity_here, identities_in, bases_in, bases_of, base_faults, out-roll-Stmt)

pub returns-clause-unique : goal.returns-clause-unique
unfolding words keyword_of word_of find_at inherited reaches
returns-clause-unique c = simp (subs_of, argument_of, is_named, all_named, value_of, at_stmt, stmt_of, own_stmt, has, keyword_in, kind_in, kind_of, argument_in, name_of, stated, own_config, block_of, sub_faults, config_fault, identity_here, identities_in, bases_in, bases_of, base_faults, out-roll-Stmt)

pub returns-clause-state : goal.returns-clause-state
unfolding words keyword_of word_of find_at inherited reaches
returns-clause-state c = simp (subs_of, argument_of, is_named, all_named, value_of, at_stmt, stmt_of, own_stmt, has, keyword_in, kind_in, kind_of, argument_in, name_of, stated, own_config, block_of, sub_faults, config_fault, identity_here, identities_in, bases_in, bases_of, base_faults, out-roll-Stmt)

pub returns-clause-base : goal.returns-clause-base
unfolding words keyword_of word_of find_at inherited reaches
returns-clause-base c = simp (subs_of, argument_of, is_named, all_named, value_of, at_stmt, stmt_of, own_stmt, has, keyword_in, kind_in, kind_of, argument_in, name_of, stated, own_config, block_of, sub_faults, config_fault, identity_here, identities_in, bases_in, bases_of, base_faults, out-roll-Stmt)

pub returns-clause-circle : goal.returns-clause-circle
unfolding words keyword_of word_of find_at inherited reaches
returns-clause-circle c = simp (subs_of, argument_of, is_named, all_named, value_of, at_stmt, stmt_of, own_stmt, has, keyword_in, kind_in, kind_of, argument_in, name_of, stated, own_config, block_of, sub_faults, config_fault, identity_here, identities_in, bases_in, bases_of, base_faults, out-roll-Stmt)

pub returns-clause-flat : goal.returns-clause-flat
returns-clause-flat c = simp (filled_members, filled_member, left_after, out-roll-YangType)
