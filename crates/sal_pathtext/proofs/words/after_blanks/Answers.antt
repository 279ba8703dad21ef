use Rattle.sal_pathtext.proofs.Runs.{blanks_end}
use Rattle.sal_pathtext.proofs.words.after_blanks.Goals as goal

pub split_at-requires : goal.split_at-requires
split_at-requires c = rw (c.blank_len.ensures.len, c.as_bytes.ensures.value) (blanks_end c.args.s.now c.utf8.s)
