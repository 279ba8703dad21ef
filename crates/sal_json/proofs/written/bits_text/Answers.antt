use Rattle.std.proofs.Common.{◌≡◌, ◌∷◌, [], string_bytes, ap, ◌∙◌, arith}
use Rattle.std.specs.List.{filter, join_by, range_with_len}
use Rattle.sal_schema.specs.Values.{has_bit}
use Rattle.sal_json.specs.Named.{name_with}
use Rattle.sal_json.proofs.Joined.{joined_next}
use Rattle.sal_json.proofs.written.bits_text.Goals as goal

pub loop-position-preserved : goal.loop-position-preserved
loop-position-preserved c =
    let l = c.loop-position in
    let text = rw c.bit_name-name.ensures at c.in_ok-has_others.ensures.text in
    let (a, b) = joined_next (name_with c.args.names.now c.args.positions.now) (32 ∷ []) (has_bit c.args.set) l.position (string_bytes l.text) (string_bytes c.add_bit.new.text)
    l.has_others c.in_ok-has_others.has_others l.invariant.text l.invariant.some text c.in_ok-has_others.ensures.some in
    record { text = a; some = b }

pub returns : goal.returns
returns c =
    let all : c.loop-position.position ≡ 64 = omega arith in
    c.loop-position.invariant.text ∙ ap (λ n. join_by (name_with c.args.names.now c.args.positions.now) (32 ∷ []) (filter (has_bit c.args.set) (range_with_len 0 n))) all
