-- The text of the load's module is this statement.
use Rattle.std.proofs.Common.{◌≡◌, ◌+◌, ℕ, List, [], ◌∷◌, Some, Ok, codes, refl}
use Prim.Native.String.{String}
use Rattle.sal_stmt.specs.declared.stmt.Stmt.{Stmt, roll-Stmt}
use Rattle.sal_stmt.specs.Words.{word_len, is_keyword}
use Rattle.sal_stmt.specs.Quoted.{content, join_lines, without_indent, unescape, last_columns}
use Rattle.sal_stmt.specs.Text.{read, statement, statements, header, argument, joined, quoted, double, single, within, separators, block_comment, line_comment}
use Rattle.sal_script.specs.declared.load.TheConstants.{LOAD_MODULE}

abbrev pub stmt : String → String → ℕ → List Stmt → Stmt
stmt keyword arg at subs = roll-Stmt (record { keyword = codes keyword; arg = Some (codes arg); at = at; subs = subs })

abbrev pub leaf_at : String → ℕ → Stmt
leaf_at name at = stmt "leaf" name at (stmt "type" "uint32" (at + 9) [] ∷ [])

abbrev pub cell_list : Stmt
cell_list = stmt "list" "cell" 46 (stmt "key" "k" 58 [] ∷ leaf_at "k" 65 ∷ leaf_at "v" 89 ∷ [])

abbrev pub module_stmt : Stmt
module_stmt = stmt "module" "load" 0 (stmt "namespace" "urn:load" 14 [] ∷ stmt "prefix" "l" 36 [] ∷ cell_list ∷ [])

abbrev pub its_stmts : List Stmt
its_stmts = module_stmt ∷ []

pub its_text : read LOAD_MODULE.now ≡ Ok module_stmt
unfolding read statement statements header argument joined quoted double single within separators block_comment line_comment content join_lines without_indent unescape last_columns is_keyword word_len
its_text = refl
