use Rattle.sal_pathtext.proofs.Runs.{word_ends}
use Rattle.sal_pathtext.proofs.words.split_word.Goals as goal

pub split_at-requires : goal.split_at-requires
split_at-requires c = rw (c.word_len.ensures.len, c.as_bytes.ensures.value) (word_ends c.args.s.now c.utf8.s)
