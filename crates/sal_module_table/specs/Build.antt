-- The table of modules, or the first fault. Each check runs only if those before it found nothing.
use Rattle.std.specs.Prelude.{ℕ, List, ◌++◌, map, Result, Ok}
use Rattle.sal_types.specs.Reading.{◌>>=◌}
use Rattle.sal_stmt.specs.declared.stmt.Stmt.{Stmt}
use Rattle.sal_module.specs.declared.fault.BuildFault.{BuildFault}
use Rattle.sal_module.specs.declared.fault.Found.{Found}
use Rattle.sal_module.specs.Modules.{check}
use Rattle.sal_module.specs.Statements.{argument_of}
use Rattle.sal_grouping.specs.declared.forest.Branch.{Branch}
use Rattle.sal_grouping.specs.Expand.{expand, unless_any}
use Rattle.sal_schema.specs.declared.table.SchemaTable.{SchemaTable}
use Rattle.sal_module_table.specs.Identities as identities
use Rattle.sal_module_table.specs.Leafrefs as leafrefs
use Rattle.sal_module_table.specs.Lists as lists
use Rattle.sal_module_table.specs.OldBases as old_bases
use Rattle.sal_module_table.specs.Table.{infos_of}
use Rattle.sal_module_table.specs.Types as types

abbrev pub table_of : List Stmt → List Branch → SchemaTable
table_of stmts forest = record {
  nodes = infos_of stmts forest;
  types = leafrefs.types_of stmts forest;
  modules = map argument_of stmts;
  identities = identities.infos_of stmts;
}

-- names of types, of identities and of leafrefs
abbrev pub name_faults : List Stmt → List Branch → List Found
name_faults stmts forest = types.name_faults stmts ++ identities.all_faults stmts ++ leafrefs.all_faults stmts forest

-- the table of this forest, if its lists have no fault
abbrev pub listed : List Stmt → List Branch → Result SchemaTable BuildFault
listed stmts forest = unless_any (lists.all_faults stmts forest) forest >>= (λ forest. Ok (table_of stmts forest))

-- the table of this forest, if no later check finds a fault
abbrev pub judged : List Stmt → List Branch → Result SchemaTable BuildFault
judged stmts forest =
    unless_any (name_faults stmts forest) forest
    >>= (λ forest. unless_any (types.other_faults stmts) forest)
    >>= (λ forest. unless_any (lists.all_faults stmts forest) forest)
    >>= (λ forest. Ok (table_of stmts forest))

-- The faults of types that are not faults of names, where the modules before index `old` are those of an earlier version.
abbrev pub other_faults : ℕ → List Stmt → List Found
other_faults old stmts = types.other_faults stmts ++ old_bases.all_faults old stmts

-- the same for a later version, in which no new identity has an old one as a base
abbrev pub judged_on : ℕ → List Stmt → List Branch → Result SchemaTable BuildFault
judged_on old stmts forest =
    unless_any (name_faults stmts forest) forest
    >>= (λ forest. unless_any (other_faults old stmts) forest)
    >>= (λ forest. unless_any (lists.all_faults stmts forest) forest)
    >>= (λ forest. Ok (table_of stmts forest))

abbrev pub build : List Stmt → Result SchemaTable BuildFault
build stmts = check stmts >>= (λ modules. expand modules >>= judged modules)
