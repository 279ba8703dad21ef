-- The names so far are after the old text.
use Rattle.std.proofs.Common.{◌≡◌, ℕ, ◌++◌, take, string_bytes}
use Rattle.std.specs.List.{flat_map}
use Rattle.sal_schema.specs.Table.{name_of}
use Rattle.sal_schema.specs.Text.{next_word}
use Rattle.sal_schema.proofs.schema.Schema.push_keys.Given as goal

abbrev pub invariant-loop-leaf : goal.invariant-loop-leaf
invariant-loop-leaf l = string_bytes l.text ≡ string_bytes l.initial.text ++ flat_map (λ (leaf : ℕ). next_word (name_of l.self leaf)) (take l.leaf-index l.leaf-items)
