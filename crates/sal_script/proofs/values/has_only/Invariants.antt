use Rattle.std.proofs.Common.{◌≡◌, map}
use Rattle.serde_json.specs.View.{members_view}
use Rattle.sal_script.specs.Json.{all_named}
use Rattle.sal_script.proofs.values.has_only.Given as goal

-- what is left decides
abbrev pub invariant-loop-key : goal.invariant-loop-key
invariant-loop-key l = all_named (map (λ name. name.now) l.names) (members_view l.key-iterator) ≡ all_named (map (λ name. name.now) l.names) (members_view l.initial.key-iterator)
