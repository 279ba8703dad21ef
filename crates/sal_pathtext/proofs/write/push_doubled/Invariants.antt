use Rattle.std.proofs.Common.{◌≡◌, ◌++◌, length, string_bytes}
use denote.Text.{Utf8}
use denote.Shadow.{shadow}
use Rattle.sal_pathtext.specs.Written.{doubled}
use Rattle.sal_pathtext.proofs.write.push_doubled.Given as goal

abbrev pub invariant-pieces : goal.invariant-pieces
invariant-pieces l = shadow (Utf8 l.rest) × (string_bytes l.fn.out ++ doubled l.text ≡ string_bytes l.out ++ doubled l.rest)

abbrev pub decreases-pieces : goal.decreases-pieces
decreases-pieces l = length l.rest
