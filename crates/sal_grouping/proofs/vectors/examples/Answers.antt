-- Each example by computation.
use Rattle.std.proofs.Common.{◌≡◌, ℕ, [], ◌∷◌, Option, Some, None, codes, refl}
use Prim.Native.String.{String}
use Rattle.sal_stmt.specs.declared.stmt.Stmt.TheViews.{out-roll-Stmt}
use Rattle.sal_module.specs.declared.keyword.Keyword.{Keyword}
use Rattle.sal_module.specs.declared.keyword.Keyword.TheVariants.{Augment, Case, Choice, Container, Grouping, Leaf, Module, Output, Rpc, Typedef, Uses}
use Rattle.sal_module.specs.Keywords.{words, word_of, keyword_of}
use Rattle.sal_module.specs.Statements.{all_named, subs_of, is_named}
use Rattle.sal_module.specs.Modules.{imported}
use Rattle.sal_module.specs.Imports.{reaches}
use Rattle.sal_grouping.specs.declared.rows.Row.{Row}
use Rattle.sal_grouping.specs.Examples as example
use Rattle.sal_grouping.specs.Rows.{rows_of}
use Rattle.sal_grouping.specs.Groupings.{from_block}
use Rattle.sal_grouping.specs.Names.{home}
use Rattle.sal_grouping.specs.Growth.{nodes_within, grow, trees_until}
use Rattle.sal_grouping.specs.Augments.{rounds}
use Rattle.sal_grouping.specs.Children.{data_parent}
use Rattle.sal_grouping.proofs.Rolled.{with_rows-roll}
use Rattle.sal_grouping.proofs.vectors.examples.Goals as goal

abbrev row : Option ℕ → Keyword → String → ℕ → Row
row around keyword name at = record { «module» = 0; around = around; keyword = keyword; name = codes name; at = at }

rows-uses : rows_of example.a_uses ≡ row None Module "m" 0 ∷ row (Some 0) Grouping "g" 10 ∷ row (Some 1) Leaf "a" 20 ∷ row (Some 0) Uses "g" 30 ∷ []
unfolding words keyword_of
rows-uses = simp (with_rows-roll 63, with_rows-roll 62, with_rows-roll 61)

pub returns-clause-uses : goal.returns-clause-uses
unfolding reaches from_block home nodes_within grow trees_until rounds data_parent
returns-clause-uses c = rw rows-uses refl

rows-shadow : rows_of example.a_shadow ≡ row None Module "m" 0 ∷ row (Some 0) Grouping "g" 10 ∷ row (Some 1) Leaf "a" 20 ∷ row (Some 0) Container "c" 30 ∷ row (Some 3) Uses "g" 35 ∷ row (Some 3) Grouping "g" 40 ∷ row (Some 5) Leaf "b" 50 ∷ []
unfolding words keyword_of
rows-shadow = simp (with_rows-roll 63, with_rows-roll 62, with_rows-roll 61, with_rows-roll 60)

pub returns-clause-shadow : goal.returns-clause-shadow
unfolding reaches from_block home nodes_within grow trees_until rounds data_parent
returns-clause-shadow c = rw rows-shadow refl

rows-choice : rows_of example.a_choice ≡ row None Module "m" 0 ∷ row (Some 0) Choice "c" 10 ∷ row (Some 1) Leaf "a" 20 ∷ row (Some 1) Case "b" 30 ∷ row (Some 3) Leaf "b" 40 ∷ []
unfolding words keyword_of
rows-choice = simp (with_rows-roll 63, with_rows-roll 62, with_rows-roll 61, with_rows-roll 60)

pub returns-clause-choice : goal.returns-clause-choice
unfolding reaches from_block home nodes_within grow trees_until rounds data_parent
returns-clause-choice c = rw rows-choice refl

rows-rpc : rows_of example.an_rpc ≡ row None Module "m" 0 ∷ row (Some 0) Rpc "r" 10 ∷ row (Some 1) Output "" 20 ∷ row (Some 2) Leaf "a" 30 ∷ []
unfolding words keyword_of
rows-rpc = simp (with_rows-roll 63, with_rows-roll 62, with_rows-roll 61, with_rows-roll 60)

pub returns-clause-rpc : goal.returns-clause-rpc
unfolding reaches from_block home nodes_within grow trees_until rounds data_parent
returns-clause-rpc c = rw rows-rpc refl

rows-augments : rows_of example.two_augments ≡ row None Module "m" 0 ∷ row (Some 0) Container "c" 10 ∷ row (Some 0) Augment "/c/d" 20 ∷ row (Some 2) Leaf "x" 30 ∷ row (Some 0) Augment "/c" 40 ∷ row (Some 4) Container "d" 50 ∷ []
unfolding words keyword_of
rows-augments = simp (with_rows-roll 63, with_rows-roll 62, with_rows-roll 61)

pub returns-clause-augments : goal.returns-clause-augments
unfolding reaches from_block home nodes_within grow trees_until rounds data_parent
returns-clause-augments c = rw rows-augments refl

rows-cycle : rows_of example.a_cycle ≡ row None Module "m" 0 ∷ row (Some 0) Grouping "g" 10 ∷ row (Some 1) Uses "g" 20 ∷ []
unfolding words keyword_of
rows-cycle = simp (with_rows-roll 63, with_rows-roll 62, with_rows-roll 61)

pub returns-clause-cycle : goal.returns-clause-cycle
unfolding reaches from_block home nodes_within grow trees_until rounds data_parent
returns-clause-cycle c = rw rows-cycle refl

rows-detour : rows_of example.a_detour ≡ row None Module "m" 0 ∷ row (Some 0) Grouping "f" 10 ∷ row (Some 1) Uses "g" 20 ∷ row (Some 0) Grouping "g" 30 ∷ row (Some 3) Uses "h" 40 ∷ row (Some 0) Grouping "h" 50 ∷ row (Some 5) Uses "g" 60 ∷ []
unfolding words keyword_of
rows-detour = simp (with_rows-roll 63, with_rows-roll 62, with_rows-roll 61)

pub returns-clause-detour : goal.returns-clause-detour
unfolding reaches from_block home nodes_within grow trees_until rounds data_parent
returns-clause-detour c = rw rows-detour refl

rows-unknown : rows_of example.an_unknown_uses ≡ row None Module "m" 0 ∷ row (Some 0) Uses "h" 10 ∷ []
unfolding words keyword_of
rows-unknown = simp (with_rows-roll 63, with_rows-roll 62)

pub returns-clause-unknown : goal.returns-clause-unknown
unfolding reaches from_block home nodes_within grow trees_until rounds data_parent
returns-clause-unknown c = rw rows-unknown refl

rows-prefix : rows_of example.an_unknown_prefix ≡ row None Module "m" 0 ∷ row (Some 0) Augment "/q:c" 10 ∷ []
unfolding words keyword_of
rows-prefix = simp (with_rows-roll 63, with_rows-roll 62)

unknown : imported example.an_unknown_prefix 0 (codes "q") ≡ None
unfolding words word_of
unknown = simp (out-roll-Stmt, all_named, subs_of, is_named)

pub returns-clause-prefix : goal.returns-clause-prefix
unfolding reaches from_block home nodes_within grow trees_until rounds data_parent
returns-clause-prefix c = rw (rows-prefix, unknown) refl

rows-groupings : rows_of example.two_groupings ≡ row None Module "m" 0 ∷ row (Some 0) Grouping "g" 10 ∷ row (Some 0) Typedef "g" 20 ∷ row (Some 0) Grouping "g" 30 ∷ []
unfolding words keyword_of
rows-groupings = simp (with_rows-roll 63, with_rows-roll 62)

pub returns-clause-groupings : goal.returns-clause-groupings
unfolding reaches from_block home nodes_within grow trees_until rounds data_parent
returns-clause-groupings c = rw rows-groupings refl

rows-target : rows_of example.no_target ≡ row None Module "m" 0 ∷ row (Some 0) Leaf "a" 10 ∷ row (Some 0) Augment "/a" 20 ∷ row (Some 2) Leaf "b" 30 ∷ []
unfolding words keyword_of
rows-target = simp (with_rows-roll 63, with_rows-roll 62, with_rows-roll 61)

pub returns-clause-target : goal.returns-clause-target
unfolding reaches from_block home nodes_within grow trees_until rounds data_parent
returns-clause-target c = rw rows-target refl

rows-children : rows_of example.two_children ≡ row None Module "m" 0 ∷ row (Some 0) Choice "a" 10 ∷ row (Some 1) Leaf "a" 20 ∷ row (Some 0) Leaf "a" 30 ∷ []
unfolding words keyword_of
rows-children = simp (with_rows-roll 63, with_rows-roll 62, with_rows-roll 61)

pub returns-clause-children : goal.returns-clause-children
unfolding reaches from_block home nodes_within grow trees_until rounds data_parent
returns-clause-children c = rw rows-children refl
