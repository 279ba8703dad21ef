use Rattle.sal_stmt.proofs.Quotes.{IsCharBoundary-plain_len}
use Rattle.sal_stmt.proofs.quoted.split_plain.Goals as goal

pub split_at-requires : goal.split_at-requires
split_at-requires c = rw (c.plain_len.ensures.value, c.as_bytes.ensures.value) (IsCharBoundary-plain_len c.args.s.now)
