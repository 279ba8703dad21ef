-- The set so far and what is left of the text give the same bits.
use Rattle.std.proofs.Common.{◌≡◌, length, Ok}
use Rattle.sal_json.proofs.Parted.{bits_after, parts}
use Rattle.sal_json.proofs.named.bits_of.Given as goal

abbrev pub invariant-names : goal.invariant-names
invariant-names l = bits_after l.names l.positions (Ok 0) (parts l.text) ≡ bits_after l.names l.positions (Ok l.set) (parts l.rest)

abbrev pub decreases-names : goal.decreases-names
decreases-names l = length l.rest
