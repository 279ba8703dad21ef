-- The patterns of the older version begin these.
use Rattle.std.proofs.Common.{rules, List, sym, subst}
use Rattle.sal_schema.specs.Versions.{BeginsWith}
use Rattle.sal_json.specs.Patterns.{Text, patterns_of}
use Rattle.sal_json.proofs.Fronts.{patterns_begin}
use Rattle.sal_json.proofs.patterns.Patterns.of_older.Goals as goal

pub front-requires : goal.front-requires
front-requires c =
    subst (λ (ps : List (List (List Text))). BeginsWith ps (patterns_of c.args.older.now)) (sym c.requires) (patterns_begin c.args.newer.now c.args.older.now (search rules))
