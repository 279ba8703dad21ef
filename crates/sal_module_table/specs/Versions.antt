-- Versions of modules: each table with the nodes with which the next one begins, or the first fault.
use Rattle.std.specs.Prelude.{ℕ, List, map, Result, Ok}
use Rattle.sal_types.specs.Reading.{◌>>=◌}
use Rattle.sal_stmt.specs.declared.stmt.Stmt.{Stmt}
use Rattle.sal_module.specs.declared.fault.BuildFault.{BuildFault}
use Rattle.sal_module.specs.Modules.{check}
use Rattle.sal_grouping.specs.declared.forest.Branch.{Branch}
use Rattle.sal_grouping.specs.declared.node.Node.{Node}
use Rattle.sal_grouping.specs.Expand.{expand, expanded, branch_of}
use Rattle.sal_grouping.specs.Rows.{rows_of}
use Rattle.sal_grouping.specs.Versions.{expanded_on}
use Rattle.sal_schema.specs.declared.table.SchemaTable.{SchemaTable}
use Rattle.sal_schema.specs.Versions.{table_on}
use Rattle.sal_module_table.specs.Build.{judged, judged_on}
use Rattle.sal_module_table.specs.declared.versions.Version.{Version}

abbrev pub branches : List Stmt → List Node → List Branch
branches stmts nodes = map (branch_of (rows_of stmts)) nodes

abbrev pub version : List Node → SchemaTable → Version
version nodes table = record { growth = nodes; table = table }

-- the version of these nodes, if no check of the table finds a fault
abbrev pub made : List Stmt → List Node → Result Version BuildFault
made stmts nodes = judged stmts (branches stmts nodes) >>= (λ table. Ok (version nodes table))

-- The same for a later version. Its table is the older one, extended by the lines of new numbers; the modules before index `old` are the older ones.
abbrev pub made_on : List Stmt → ℕ → SchemaTable → List Node → Result Version BuildFault
made_on stmts old older nodes = judged_on old stmts (branches stmts nodes) >>= (λ whole. Ok (version nodes (table_on older whole)))

-- The first version: the table of `build`, with its nodes.
abbrev pub first : List Stmt → Result Version BuildFault
first stmts =
    check stmts >>= (λ modules. expanded modules (rows_of modules) >>= made modules)

-- A later version of all these statements, of which the first `old` are those of the older version. Its faults are those of `build` over all of them,
-- and that of an identity whose base is an old one. The nodes of the older version keep their numbers, and the new nodes follow. The table has the
-- older table's lines at the older numbers, and at the new numbers those of all statements.
abbrev pub next : List Stmt → ℕ → Version → Result Version BuildFault
next stmts old older =
    check stmts >>= (λ modules. expand modules >>= (λ all. expanded_on modules old older.growth) >>= made_on modules old older.table)
