-- Each node by computation.
use Rattle.std.proofs.Common.{◌≡◌, List, [], ◌∷◌, Some, None, codes, false, refl}
use Rattle.sal_stmt.specs.declared.stmt.Stmt.{Stmt}
use Rattle.sal_stmt.specs.declared.stmt.Stmt.TheViews.{out-roll-Stmt}
use Rattle.sal_module.specs.Keywords.{words, keyword_of, word_of}
use Rattle.sal_module.specs.Places.{find_at}
use Rattle.sal_module.specs.Statements.{subs_of, is_named, argument_of, all_named, value_of}
use Rattle.sal_module.specs.Profile.{at_stmt}
use Rattle.sal_schema.specs.declared.kind.Kind.TheVariants.{Container}
use Rattle.sal_schema.specs.Examples as table
use Rattle.sal_module_table.specs.Nodes.{stmt_of, own_stmt, has, keyword_in, kind_in, kind_of, argument_in, name_of, stated, own_config}
use Rattle.sal_module_table.specs.Inherited.{inherited}
use Rattle.sal_module_table.specs.Lists.{block_of}
use Rattle.sal_module_table.specs.Table.{info_of}
use Rattle.sal_module_table.specs.VersionExamples.{id, a_node, network, topo, site, map, geo, branch, first_nodes, later_nodes}
use Rattle.sal_module_table.proofs.vectors.versions.Goals as goal

-- ---- statements

at_network : find_at 64 10 topo ≡ Some network
unfolding find_at
at_network = simp (subs_of, out-roll-Stmt)

at_node : find_at 64 20 topo ≡ Some a_node
unfolding find_at
at_node = simp (subs_of, out-roll-Stmt)

at_id : find_at 64 30 topo ≡ Some id
unfolding find_at
at_id = simp (subs_of, out-roll-Stmt)

at_map : find_at 64 40 geo ≡ Some map
unfolding find_at
at_map = simp (subs_of, out-roll-Stmt)

at_site : find_at 64 30 geo ≡ Some site
unfolding find_at
at_site = simp (subs_of, out-roll-Stmt)

abbrev both : List Stmt
both = topo ∷ geo ∷ []

-- ---- nodes

first_network : info_of (topo ∷ []) first_nodes 0 (branch None 0 10) ≡ table.node None (Container false) 0 (codes "network")
unfolding words keyword_of word_of inherited
first_network = simp (at_network, at_node, at_id, at_map, at_site, subs_of, argument_of, is_named, all_named, value_of, at_stmt, stmt_of, own_stmt, has, keyword_in, kind_in, kind_of, argument_in, name_of, stated, own_config, block_of, out-roll-Stmt)

first_node : info_of (topo ∷ []) first_nodes 1 (branch (Some 0) 0 20) ≡ table.list (Some 0) 0 (codes "node") (2 ∷ [])
unfolding words keyword_of word_of inherited
first_node = simp (at_network, at_node, at_id, at_map, at_site, subs_of, argument_of, is_named, all_named, value_of, at_stmt, stmt_of, own_stmt, has, keyword_in, kind_in, kind_of, argument_in, name_of, stated, own_config, block_of, out-roll-Stmt)

first_id : info_of (topo ∷ []) first_nodes 2 (branch (Some 1) 0 30) ≡ table.leaf (Some 1) 0 (codes "id") 0
unfolding words keyword_of word_of inherited
first_id = simp (at_network, at_node, at_id, at_map, at_site, subs_of, argument_of, is_named, all_named, value_of, at_stmt, stmt_of, own_stmt, has, keyword_in, kind_in, kind_of, argument_in, name_of, stated, own_config, block_of, out-roll-Stmt)

later_network : info_of both later_nodes 0 (branch None 0 10) ≡ table.node None (Container false) 0 (codes "network")
unfolding words keyword_of word_of inherited
later_network = simp (at_network, at_node, at_id, at_map, at_site, subs_of, argument_of, is_named, all_named, value_of, at_stmt, stmt_of, own_stmt, has, keyword_in, kind_in, kind_of, argument_in, name_of, stated, own_config, block_of, out-roll-Stmt)

later_node : info_of both later_nodes 1 (branch (Some 0) 0 20) ≡ table.list (Some 0) 0 (codes "node") (2 ∷ [])
unfolding words keyword_of word_of inherited
later_node = simp (at_network, at_node, at_id, at_map, at_site, subs_of, argument_of, is_named, all_named, value_of, at_stmt, stmt_of, own_stmt, has, keyword_in, kind_in, kind_of, argument_in, name_of, stated, own_config, block_of, out-roll-Stmt)

later_id : info_of both later_nodes 2 (branch (Some 1) 0 30) ≡ table.leaf (Some 1) 0 (codes "id") 0
unfolding words keyword_of word_of inherited
later_id = simp (at_network, at_node, at_id, at_map, at_site, subs_of, argument_of, is_named, all_named, value_of, at_stmt, stmt_of, own_stmt, has, keyword_in, kind_in, kind_of, argument_in, name_of, stated, own_config, block_of, out-roll-Stmt)

later_map : info_of both later_nodes 3 (branch None 1 40) ≡ table.node None (Container false) 1 (codes "map")
unfolding words keyword_of word_of inherited
later_map = simp (at_network, at_node, at_id, at_map, at_site, subs_of, argument_of, is_named, all_named, value_of, at_stmt, stmt_of, own_stmt, has, keyword_in, kind_in, kind_of, argument_in, name_of, stated, own_config, block_of, out-roll-Stmt)

later_site : info_of both later_nodes 4 (branch (Some 1) 1 30) ≡ table.leaf (Some 1) 1 (codes "site") 1
unfolding words keyword_of word_of inherited
later_site = simp (at_network, at_node, at_id, at_map, at_site, subs_of, argument_of, is_named, all_named, value_of, at_stmt, stmt_of, own_stmt, has, keyword_in, kind_in, kind_of, argument_in, name_of, stated, own_config, block_of, out-roll-Stmt)

pub returns-clause-first : goal.returns-clause-first
returns-clause-first c = rw (first_network, first_node, first_id) refl

pub returns-clause-later : goal.returns-clause-later
returns-clause-later c = rw (later_network, later_node, later_id, later_map, later_site) refl
