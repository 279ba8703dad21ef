-- By the laws, from what the texts are read as.
use Rattle.std.proofs.Common.{refl}
use Rattle.sal_stmt.specs.Words.{word_len, is_keyword}
use Rattle.sal_stmt.specs.Quoted.{content, join_lines, without_indent, unescape, last_columns}
use Rattle.sal_stmt.specs.Text.{read, statement, statements, header, argument, joined, quoted, double, single, within, separators, block_comment, line_comment}
use Rattle.sal_stmt.proofs.Spelled.{read_is_spelled}
use Rattle.sal_stmt.proofs.Readable.{spells_none}
use Rattle.sal_stmt.proofs.laws.spelling_examples.Goals as goal

pub returns-clause-joined : goal.returns-clause-joined
unfolding read statement statements header argument joined quoted double single within separators block_comment line_comment content join_lines without_indent unescape last_columns is_keyword word_len
returns-clause-joined c = read_is_spelled _ _ refl

pub returns-clause-gaps : goal.returns-clause-gaps
unfolding read statement statements header argument joined quoted double single within separators block_comment line_comment content join_lines without_indent unescape last_columns is_keyword word_len
returns-clause-gaps c = read_is_spelled _ _ refl

pub returns-clause-block : goal.returns-clause-block
unfolding read statement statements header argument joined quoted double single within separators block_comment line_comment content join_lines without_indent unescape last_columns is_keyword word_len
returns-clause-block c = read_is_spelled _ _ refl

pub returns-clause-two_words : goal.returns-clause-two_words
unfolding read statement statements header argument joined quoted double single within separators block_comment line_comment content join_lines without_indent unescape last_columns is_keyword word_len
returns-clause-two_words c = spells_none _ _ refl

pub returns-clause-open_block : goal.returns-clause-open_block
unfolding read statement statements header argument joined quoted double single within separators block_comment line_comment content join_lines without_indent unescape last_columns is_keyword word_len
returns-clause-open_block c = spells_none _ _ refl
