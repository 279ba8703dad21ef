-- One receipt more, up to the last.
use Rattle.std.proofs.Common.{◌≡◌, ◌≤◌, ◌+◌, ◌-◌, ◌++◌, ℕ, List, Option, max, ap, sym, ◌∙◌, arith}
use Rattle.std.specs.Prelude.{map}
use Rattle.std.specs.List.{flat_map, range_with_len}
use Rattle.std.proofs.lemmas.List.{flat_map_more}
use Rattle.std.proofs.lemmas.List.FromFn.{map-range_with_len_more}
use Rattle.sal_shapes.specs.declared.scene.Act.{Act}
use Rattle.sal_shapes.specs.declared.scene.Made.{Made}
use Rattle.sal_draw.specs.Acts.{made_acts, made_in}
use Rattle.sal_draw.proofs.acts.add_decided.Goals as goal

pub loop-i-preserved : goal.loop-i-preserved
loop-i-preserved c =
    let acts = c.args.acts.now.items in
    let made = made_in c.args.made.now in
    let before = c.args.before in
    let i = c.loop-i.i in
    let from : before ≤ i = c.loop-i.auto.i in
    let count : i + 1 - before ≡ (i - before) + 1 = omega arith in
    let last : before + (i - before) ≡ i = omega arith in (
      c.in_ok-add_made.ensures
          ∙ ap (λ (o : Option Made). c.loop-i.acts.items ++ made_acts o) c.made_at.ensures
          ∙ ap (λ (list : List Act). list ++ made_acts (made i)) c.loop-i.invariant.0
          ∙ flat_map_more made_acts acts (map made (range_with_len before (i - before))) (made i)
          ∙ ap (λ (list : List (Option Made)). acts ++ flat_map made_acts list) (sym (map-range_with_len_more made before (i - before) i last) ∙ ap (λ (n : ℕ). map made (range_with_len before n)) (sym count)),
      omega (arith, c.loop-i-test.true),
    )

pub returns : goal.returns
returns c =
    let acts = c.args.acts.now.items in
    let made = made_in c.args.made.now in
    let before = c.args.before in
    let i = c.loop-i.i in
    let from : before ≤ i = c.loop-i.auto.i in
    let to : i ≤ max before c.args.upto = c.loop-i.invariant.1 in
    let count : i - before ≡ c.args.upto - before = omega (arith, c.loop-i-test.false) in
    c.loop-i.invariant.0 ∙ ap (λ (n : ℕ). acts ++ flat_map made_acts (map made (range_with_len before n))) count
