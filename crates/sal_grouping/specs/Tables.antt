-- The tables of modules.
use Rattle.std.specs.Prelude.{◌≡◌, List}
use Rattle.sal_stmt.specs.declared.stmt.Stmt.{Stmt}
use Rattle.sal_module.specs.declared.keyword.Keyword.TheVariants.{Grouping, Typedef, Identity}
use Rattle.sal_grouping.specs.declared.tables.Tables.{Tables}
use Rattle.sal_grouping.specs.Rows.{rows_of}
use Rattle.sal_grouping.specs.Indexes.{lists, AreTops, AreInside, AreFirsts}

pub record AreTables (stmts : List Stmt) (t : Tables) : Type 0 where
  pub rows : t.rows.items ≡ rows_of stmts
  pub tops : AreTops stmts t.tops.items
  pub inside : AreInside t.rows.items (lists t.inside.items)
  pub groupings : AreFirsts t.rows.items Grouping t.groupings.items
  pub typedefs : AreFirsts t.rows.items Typedef t.typedefs.items
  pub identities : AreFirsts t.rows.items Identity t.identities.items
