-- The remaining elements to search.
use Rattle.std.proofs.Common.{◌≡◌, drop, map}
use Rattle.sal_module.specs.Keywords.{keyword_among, word_view}
use Rattle.sal_module.proofs.keyword.find_word.Given as goal

abbrev pub invariant-loop-word : goal.invariant-loop-word
invariant-loop-word l = keyword_among (map word_view l.words) l.text ≡ keyword_among (map word_view (drop l.word-index l.words)) l.text
