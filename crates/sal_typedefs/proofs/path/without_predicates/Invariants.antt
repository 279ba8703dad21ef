-- The part of the path that is kept, before the rest of it.
use Rattle.std.proofs.Common.{◌≡◌, length, string_bytes}
use denote.Text.{Utf8}
use denote.Shadow.{shadow}
use Rattle.sal_typedefs.specs.Names.{outside}
use Rattle.sal_typedefs.proofs.PathLists.{behind}
use Rattle.sal_typedefs.proofs.path.without_predicates.Given as goal

abbrev pub invariant-predicates : goal.invariant-predicates
invariant-predicates l =
    record {
      text : shadow (Utf8 l.rest);
      path : outside l.path ≡ behind (string_bytes l.kept) (outside l.rest);
    }

abbrev pub decreases-predicates : goal.decreases-predicates
decreases-predicates l = length l.rest
