-- The names that are defined in the block of each statement.
use Rattle.std.specs.Prelude.{List}
use Rattle.sal_module.specs.declared.keyword.Keyword.TheVariants.{Grouping, Typedef, Identity}
use Rattle.sal_grouping.specs.declared.rows.Row.{Row}
use Rattle.sal_grouping.specs.declared.tables.Defined.{Defined}
use Rattle.sal_grouping.specs.Indexes.{AreFirsts}

pub record AreDefined (rows : List Row) (d : Defined) : Type 0 where
  pub groupings : AreFirsts rows Grouping d.groupings.items
  pub typedefs : AreFirsts rows Typedef d.typedefs.items
  pub identities : AreFirsts rows Identity d.identities.items
