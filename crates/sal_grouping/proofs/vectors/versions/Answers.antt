-- Each example by computation.
use Rattle.std.proofs.Common.{◌≡◌, ℕ, [], ◌∷◌, Option, Some, None, codes, length, ap, refl}
use Prim.Native.String.{String}
use Rattle.sal_module.specs.declared.keyword.Keyword.{Keyword}
use Rattle.sal_module.specs.declared.keyword.Keyword.TheVariants.{Augment, Container, Leaf, Module}
use Rattle.sal_module.specs.Keywords.{words, keyword_of}
use Rattle.sal_module.specs.Imports.{reaches}
use Rattle.sal_grouping.specs.declared.rows.Row.{Row}
use Rattle.sal_grouping.specs.VersionExamples as example
use Rattle.sal_grouping.specs.Rows.{rows_of, top_of}
use Rattle.sal_grouping.specs.Groupings.{from_block}
use Rattle.sal_grouping.specs.Names.{home}
use Rattle.sal_grouping.specs.Growth.{nodes_within, grow, trees_until}
use Rattle.sal_grouping.specs.Augments.{rounds}
use Rattle.sal_grouping.specs.Children.{data_parent}
use Rattle.sal_grouping.specs.Versions.{trees_from}
use Rattle.sal_grouping.proofs.Rolled.{with_rows-roll}
use Rattle.sal_grouping.proofs.vectors.versions.Goals as goal

abbrev row : ℕ → Option ℕ → Keyword → String → ℕ → Row
row m around keyword name at = record { «module» = m; around = around; keyword = keyword; name = codes name; at = at }

rows-first : rows_of example.first ≡ row 0 None Module "a" 0 ∷ row 0 (Some 0) Container "c" 10 ∷ row 0 (Some 0) Augment "/c" 20 ∷ row 0 (Some 2) Leaf "x" 30 ∷ []
unfolding words keyword_of
rows-first = simp (with_rows-roll 63, with_rows-roll 62, with_rows-roll 61)

rows-both : rows_of example.both ≡ row 0 None Module "a" 0 ∷ row 0 (Some 0) Container "c" 10 ∷ row 0 (Some 0) Augment "/c" 20 ∷ row 0 (Some 2) Leaf "x" 30
    ∷ row 1 None Module "b" 0 ∷ row 1 (Some 4) Container "d" 10 ∷ row 1 (Some 4) Augment "/d" 20 ∷ row 1 (Some 6) Leaf "y" 30 ∷ []
unfolding words keyword_of
rows-both = simp (with_rows-roll 63, with_rows-roll 62, with_rows-roll 61)

-- where the second module's rows begin
top : top_of example.both 1 ≡ 4
top = ap length rows-first

pub returns-clause-at_once : goal.returns-clause-at_once
unfolding reaches from_block home nodes_within grow trees_until rounds data_parent
returns-clause-at_once c = rw (rows-both, top) refl

pub returns-clause-later : goal.returns-clause-later
unfolding reaches from_block home nodes_within grow trees_until trees_from rounds data_parent
returns-clause-later c = rw (rows-first, rows-both, top) refl
