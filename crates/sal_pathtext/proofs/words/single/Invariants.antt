use Rattle.std.proofs.Common.{◌≡◌, ◌≤◌, length, string_bytes}
use denote.Text.{Utf8}
use denote.Shadow.{shadow}
use Rattle.sal_types.specs.Reading.{with_front}
use Rattle.sal_pathtext.specs.Words.{single}
use Rattle.sal_pathtext.proofs.words.single.Given as goal

abbrev pub invariant-pieces : goal.invariant-pieces
invariant-pieces l =
    shadow (Utf8 l.rest)
    × (length l.rest ≤ length l.s)
    × (single l.whole l.s ≡ with_front (string_bytes l.out) (single l.whole l.rest))

abbrev pub decreases-pieces : goal.decreases-pieces
decreases-pieces l = length l.rest
