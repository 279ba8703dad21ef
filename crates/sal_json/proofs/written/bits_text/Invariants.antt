-- The names of the bits so far, and whether there are some.
use Rattle.std.proofs.Common.{◌≡◌, ◌∷◌, [], string_bytes}
use Rattle.std.specs.List.{filter, join_by, range_with_len}
use Rattle.sal_schema.specs.Values.{has_bit}
use Rattle.sal_json.specs.Named.{name_with}
use Rattle.sal_json.proofs.Joined.{is_some_list}
use Rattle.sal_json.proofs.written.bits_text.Given as goal

abbrev pub invariant-loop-position : goal.invariant-loop-position
invariant-loop-position l = record {
  text : string_bytes l.text ≡ join_by (name_with l.names l.positions) (32 ∷ []) (filter (has_bit l.set) (range_with_len 0 l.position));
  some : l.has_others ≡ is_some_list (filter (has_bit l.set) (range_with_len 0 l.position));
}
