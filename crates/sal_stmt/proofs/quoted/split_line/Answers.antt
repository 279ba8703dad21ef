use Rattle.sal_stmt.proofs.Quotes.{IsCharBoundary-line_len}
use Rattle.sal_stmt.proofs.quoted.split_line.Goals as goal

pub split_at-requires : goal.split_at-requires
split_at-requires c = rw (c.line_len.ensures.value, c.as_bytes.ensures.value) (IsCharBoundary-line_len c.args.s.now)
