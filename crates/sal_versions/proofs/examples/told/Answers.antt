-- The text is computed.
use Rattle.std.proofs.Common.{refl}
use Rattle.std.specs.Fmt.{digits}
use Rattle.sal_stmt.specs.Words.{word_len, is_keyword}
use Rattle.sal_stmt.specs.Text.{read, statement, statements, header, argument, joined, quoted, double, single, within, separators, block_comment, line_comment}
use Rattle.sal_versions.proofs.examples.told.Goals as goal

pub returns : goal.returns
unfolding digits read statement statements header argument joined quoted double single within separators block_comment line_comment is_keyword word_len
returns c = record { name = refl; of_a_folder = refl; of_a_comment = refl; other_ending = refl; second = refl; not_the_first = refl; of_an_upgrade = refl }
