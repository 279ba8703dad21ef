-- The statement at a place, for any place; the first hundred are computed.
use Rattle.std.proofs.Common.{◌≡◌, ℕ, ◌==◌, [], ◌∷◌, Option, Some, None, if◌then◌else◌, refl, ◌∙◌}
use Rattle.std.specs.Prelude.{is_some}
use Rattle.sal_stmt.specs.declared.stmt.Stmt.{Stmt}
use Rattle.sal_stmt.specs.declared.stmt.Stmt.TheViews.{out-roll-Stmt}
use Rattle.sal_stmt.specs.Words.{word_len, is_keyword}
use Rattle.sal_stmt.specs.Quoted.{content, join_lines, without_indent, unescape, last_columns}
use Rattle.sal_stmt.specs.Text.{read, statement, statements, header, argument, joined, quoted, double, single, within, separators, block_comment, line_comment}
use Rattle.sal_module.specs.Statements.{subs_of}
use Rattle.sal_module.specs.Modules.{stmt_at}
use Rattle.sal_module.specs.Places.{find_at}
use Rattle.examples_worked.specs.ModuleCases.{container, leaf, namespace, places, prefix, standing, turned, type, written}
use Rattle.examples_worked.proofs.modules.statements_by_place.Goals as goal

-- the statement of place k, or what is below it
abbrev here : ℕ → ℕ → Stmt → Option Stmt → Option Stmt
here at k stmt below = if k == at then Some stmt else below

abbrev first_of : Option Stmt → Option Stmt → Option Stmt
first_of one other = if is_some one then one else other

abbrev in_container : ℕ → Option Stmt
in_container at = here at 34 container (first_of (here at 48 leaf (first_of (here at 57 type None) None)) None)

abbrev in_written : ℕ → Option Stmt
in_written at = here at 0 written (first_of (here at 11 namespace None) (first_of (here at 24 prefix None) (first_of (in_container at) None)))

abbrev in_turned : ℕ → Option Stmt
in_turned at = here at 0 turned (first_of (in_container at) (first_of (here at 24 prefix None) (first_of (here at 11 namespace None) None)))

written_at : (at : ℕ) → stmt_at (written ∷ []) 0 at ≡ in_written at
unfolding find_at
written_at at = simp (subs_of, out-roll-Stmt)

turned_at : (at : ℕ) → stmt_at (turned ∷ []) 0 at ≡ in_turned at
unfolding find_at
turned_at at = simp (subs_of, out-roll-Stmt)

pub returns-clause-text : goal.returns-clause-text
unfolding read statement statements header argument joined quoted double single within separators block_comment line_comment content join_lines without_indent unescape last_columns is_keyword word_len
returns-clause-text c = refl

pub returns-clause-written : goal.returns-clause-written
returns-clause-written c =
    let computed : places in_written 0 100 ≡ standing written = refl in
    (λ i. places (λ at. written_at at i) 0 100) ∙ computed

pub returns-clause-turned : goal.returns-clause-turned
returns-clause-turned c =
    let computed : places in_turned 0 100 ≡ standing turned = refl in
    (λ i. places (λ at. turned_at at i) 0 100) ∙ computed
