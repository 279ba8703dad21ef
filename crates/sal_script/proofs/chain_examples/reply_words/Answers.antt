-- The words are computed.
use Rattle.std.proofs.Common.{refl}
use Rattle.std.specs.Fmt.{digits}
use Rattle.sal_script.proofs.chain_examples.reply_words.Goals as goal

pub returns : goal.returns
unfolding digits
returns c = record { chain = refl; decided = refl; decided_as_failed = refl; nothing = refl; found = refl; late = refl; settled = refl; «open» = refl; failed = refl; closed = refl }
