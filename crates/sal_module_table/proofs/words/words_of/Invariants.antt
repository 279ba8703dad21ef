-- The rest of the text.
use Rattle.std.proofs.Common.{◌≡◌, ◌++◌, length}
use denote.Text.{Utf8}
use denote.Shadow.{shadow}
use Rattle.sal_module_table.specs.Lists.{words_of}
use Rattle.sal_module_table.proofs.words.words_of.Given as goal

abbrev pub invariant-words : goal.invariant-words
invariant-words l =
    record {
      text : shadow (Utf8 l.rest);
      words : words_of l.text ≡ l.words.items ++ words_of l.rest;
    }

abbrev pub decreases-words : goal.decreases-words
decreases-words l = length l.rest
