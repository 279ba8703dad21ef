-- The remaining elements to search.
use Rattle.std.proofs.Common.{◌≡◌, drop, map}
use Rattle.sal_module.specs.Keywords.{word_among, word_view}
use Rattle.sal_module.proofs.keyword.find_text.Given as goal

abbrev pub invariant-loop-word : goal.invariant-loop-word
invariant-loop-word l = word_among (map word_view l.words) l.keyword ≡ word_among (map word_view (drop l.word-index l.words)) l.keyword
