use Rattle.std.proofs.Common.{◌≡◌, ℕ, ◌≤◌, length}
use denote.Text.{Utf8}
use denote.Shadow.{shadow}
use Rattle.sal_pathtext.specs.Read.{predicates}
use Rattle.sal_pathtext.proofs.reader.Reader.add_predicates.Given as goal

abbrev pub invariant-predicates : goal.invariant-predicates
invariant-predicates l =
    shadow (Utf8 l.rest)
    × (length l.rest ≤ length l.s)
    × ((m : ℕ) × (length l.rest ≤ m)
    × (predicates l.self.schema.now l.self.text.now (length l.s) l.node l.initial.given.items l.s ≡ predicates l.self.schema.now l.self.text.now m l.node l.given.items l.rest))

abbrev pub decreases-predicates : goal.decreases-predicates
decreases-predicates l = length l.rest
