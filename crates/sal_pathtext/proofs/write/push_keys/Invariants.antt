use Rattle.std.proofs.Common.{◌≡◌, ◌++◌, drop, string_bytes}
use Rattle.sal_pathtext.specs.Written.{keys_text}
use Rattle.sal_pathtext.proofs.write.push_keys.Given as goal

abbrev pub invariant-loop-i : goal.invariant-loop-i
invariant-loop-i l = string_bytes l.fn.out ++ keys_text l.schema l.node l.keys l.values ≡ string_bytes l.out ++ keys_text l.schema l.node (drop l.i l.keys) (drop l.i l.values)
