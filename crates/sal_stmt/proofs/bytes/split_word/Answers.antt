use Rattle.sal_stmt.proofs.Words.{IsCharBoundary-word_len}
use Rattle.sal_stmt.proofs.bytes.split_word.Goals as goal

pub split_at-requires : goal.split_at-requires
split_at-requires c = rw (c.word_len.ensures.len, c.as_bytes.ensures.value) (IsCharBoundary-word_len c.args.s.now)
