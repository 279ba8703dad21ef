-- The stamps of two trees at a path.
use Rattle.std.specs.Prelude.{Bool, true, false, ◌==◌, Option, Some, None}
use Rattle.sal_node.specs.Tree.{Tree}

-- whether a path is absent in both trees, or present in both with one stamp
abbrev pub alike : Option Tree → Option Tree → Bool
alike None None = true
alike None (Some u) = false
alike (Some t) None = false
alike (Some t) (Some u) = t.stamp == u.stamp
