use Rattle.sal_stmt.proofs.Quotes.{IsCharBoundary-blank_end}
use Rattle.sal_stmt.proofs.quoted.trim_end.Goals as goal

pub range-requires-clause-end_boundary : goal.range-requires-clause-end_boundary
range-requires-clause-end_boundary c = rw (c.blank_end_len.ensures.value, c.as_bytes.ensures.value) (IsCharBoundary-blank_end c.args.s.now)
