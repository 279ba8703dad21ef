use Rattle.std.proofs.Common.{◌∙◌, ◌<◌, ◌+◌, length, take, drop, rules, sym, ap, arith}
use Rattle.sal_module_table.proofs.Pieces.{word_len, words-last, words-more}
use Rattle.sal_module_table.proofs.words.words_of.Goals as goal

pub returns-in-None : goal.returns-in-None
returns-in-None c = sym (c.words.invariant.words ∙ words-last c.words.words.items c.push_word.new.words.items c.words.rest.now c.in-None.ensures c.in_ok-push_word-in-None.ensures)

pub words-preserved : goal.words-preserved
words-preserved c =
    let rest = c.words.rest.now in
    let (at, inside, ascii) = c.in-Some.ensures in
    let less : word_len rest < length rest = omega (arith, at) in
    record {
      text = search rules;
      words = c.words.invariant.words ∙ words-more c.words.words.items _ rest _ _ less (c.front.ensures ∙ ap (λ n. take n rest) at) (c.tail-rest.ensures.rest ∙ ap (λ n. drop (n + 1) rest) at) c.in_ok-push_word-in-Some.ensures;
    }
