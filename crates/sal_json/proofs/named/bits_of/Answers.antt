use Rattle.std.proofs.Common.{◌<◌, ◌≤◌, ◌+◌, length, take, drop, Ok, ap, sym, ◌∙◌, arith}
use Rattle.sal_json.specs.Named.{with_name}
use Rattle.sal_json.proofs.Parted.{parts, part_len, bits_after, bits-refused, bits-last, bits-more, bits_of-parts}
use Rattle.sal_json.proofs.named.bits_of.Goals as goal

pub returns-in-Err : goal.returns-in-Err
returns-in-Err c =
    let names = c.args.names.now in
    let positions = c.args.positions.now in
    let rest = c.names.rest.now in
    let first = c.front.ensures ∙ ap (λ n. take n rest) c.place_of-len.ensures.value in
    let refused = sym (c.in-Err.ensures ∙ ap (with_name names positions c.names.set) first) in
    sym (bits_of-parts names positions c.args.text.now (sym c.is_empty.ensures ∙ c.if-is_empty.false) ∙ c.names.invariant ∙ bits-refused names positions c.names.set rest _ refused)

pub returns-then-len-rest : goal.returns-then-len-rest
returns-then-len-rest c =
    let names = c.args.names.now in
    let positions = c.args.positions.now in
    let rest = c.names.rest.now in
    let first = c.front.ensures ∙ ap (λ n. take n rest) c.place_of-len.ensures.value in
    let taken = sym (c.in-Ok.ensures ∙ ap (with_name names positions c.names.set) first) in
    let last : length rest ≤ part_len rest = omega (arith, c.place_of-len.ensures.value) in
    sym (bits_of-parts names positions c.args.text.now (sym c.is_empty.ensures ∙ c.if-is_empty.false) ∙ c.names.invariant ∙ bits-last names positions c.names.set _ rest taken last)

pub names-preserved : goal.names-preserved
names-preserved c =
    let names = c.args.names.now in
    let positions = c.args.positions.now in
    let rest = c.names.rest.now in
    let first = c.front.ensures ∙ ap (λ n. take n rest) c.place_of-len.ensures.value in
    let taken = sym (c.in-Ok.ensures ∙ ap (with_name names positions c.names.set) first) in
    let more : part_len rest < length rest = omega (arith, c.place_of-len.ensures.value, c.place_of-len.ensures.within) in
    let left = c.behind-rest.ensures ∙ ap (λ n. drop (n + 1) rest) c.place_of-len.ensures.value in
    c.names.invariant ∙ bits-more names positions c.names.set _ rest taken more ∙ ap (λ t. bits_after names positions (Ok c.in-Ok.more) (parts t)) (sym left)
