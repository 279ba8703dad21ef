use Rattle.std.proofs.Common.{◌≡◌, ◌≤◌, ◌<◌, ◌+◌, ◌-◌, length, take, drop, ap, sym, ◌∙◌, arith, length-drop, rules}
use Rattle.sal_follow.specs.declared.front.Front.TheVariants.{Part, Broken, Whole}
use Rattle.sal_follow.specs.Front.{front, text_in}
use Rattle.sal_follow.proofs.Advancing.{to_end, text-length, one_more, none_there, ends-part, ends-all, ends-broken, ends-fault}
use Rattle.sal_follow.proofs.Fronts.{whole-there}
use Rattle.sal_follow.proofs.state.advanced.Goals as goal

pub returns-in-Part-clause-stepped : goal.returns-in-Part-clause-stepped
returns-in-Part-clause-stepped c =
    let l = c.loop-used in
    let bytes = c.args.bytes.now in
    let part : front (drop l.used bytes) ≡ Part = ap front (sym (to_end bytes l.used)) ∙ sym c.front_of.ensures ∙ c.in-Part.is in
    ends-part c.args.reader.now.schema.now c.args.state l.state bytes l.used l.invariant.0 l.invariant.1 part l.invariant.3 l.invariant.2.within

pub returns-in-Broken-clause-stepped : goal.returns-in-Broken-clause-stepped
returns-in-Broken-clause-stepped c =
    let l = c.loop-used in
    let bytes = c.args.bytes.now in
    let broken : front (drop l.used bytes) ≡ Broken = ap front (sym (to_end bytes l.used)) ∙ sym c.front_of.ensures ∙ c.in-Broken.is in
    ends-broken c.args.reader.now.schema.now c.args.state l.state bytes l.used l.invariant.0 l.invariant.1 c.failed.result broken c.failed.ensures.held (search rules)

pub text_of-requires : goal.text_of-requires
text_of-requires c = (whole-there (take (length c.args.bytes.now - c.loop-used.used) (drop c.loop-used.used c.args.bytes.now)) c.in-Whole.len (sym c.front_of.ensures ∙ c.in-Whole.is)).0

pub taken-requires-clause-room : goal.taken-requires-clause-room
taken-requires-clause-room c =
    let l = c.loop-used in
    let bytes = c.args.bytes.now in
    let rest = take (length bytes - l.used) (drop l.used bytes) in
    let whole : front rest ≡ Whole c.in-Whole.len = sym c.front_of.ensures ∙ c.in-Whole.is in
    let there : c.in-Whole.len + 9 < length rest = (whole-there rest c.in-Whole.len whole).0 in
    let len : length c.text_of.result.now ≡ c.in-Whole.len = ap length c.text_of.ensures ∙ text-length rest c.in-Whole.len whole in
    let size : length rest ≡ length bytes - l.used = ap length (to_end bytes l.used) ∙ length-drop l.used bytes in
    omega (arith, l.invariant.4)

pub returns-then-is_some-clause-stepped : goal.returns-then-is_some-clause-stepped
returns-then-is_some-clause-stepped c =
    let l = c.loop-used in
    let bytes = c.args.bytes.now in
    let whole : front (drop l.used bytes) ≡ Whole c.in-Whole.len = ap front (sym (to_end bytes l.used)) ∙ sym c.front_of.ensures ∙ c.in-Whole.is in
    let text : c.text_of.result.now ≡ text_in (drop l.used bytes) c.in-Whole.len = c.text_of.ensures ∙ ap (λ r. text_in r c.in-Whole.len) (to_end bytes l.used) in
    ends-fault c.args.reader.now.schema.now c.args.state l.state bytes l.used l.invariant.0 l.invariant.1 c.in_ok-state-in-Whole.state c.in-Whole.len c.text_of.result.now whole text c.in_ok-state-in-Whole.ensures.held
    (sym c.is_some.ensures ∙ c.if-is_some.true) c.in_ok-state-in-Whole.ensures.sound.within

pub loop-used-preserved : goal.loop-used-preserved
loop-used-preserved c =
    let l = c.loop-used in
    let bytes = c.args.bytes.now in
    let n = c.in-Whole.len in
    let whole : front (drop l.used bytes) ≡ Whole n = ap front (sym (to_end bytes l.used)) ∙ sym c.front_of.ensures ∙ c.in-Whole.is in
    let text : c.text_of.result.now ≡ text_in (drop l.used bytes) n = c.text_of.ensures ∙ ap (λ r. text_in r n) (to_end bytes l.used) in
    let len : length c.text_of.result.now ≡ n = ap length text ∙ text-length (drop l.used bytes) n whole in
    let there : n + 9 < length (drop l.used bytes) = (whole-there (drop l.used bytes) n whole).0 in
    let size : length (drop l.used bytes) ≡ length bytes - l.used = length-drop l.used bytes in
    let at : c.in_ok-state-in-Whole.state.first + c.in_ok-state-in-Whole.state.at ≤ l.state.first + l.state.at + (length c.text_of.result.now + 10) = c.in_ok-state-in-Whole.ensures.at in
    let room = l.invariant.4 in
    let inside = l.invariant.3 in (
      one_more c.args.reader.now.schema.now l.state c.in_ok-state-in-Whole.state bytes c.text_of.result.now l.used n l.invariant.1 whole text c.in_ok-state-in-Whole.ensures.held ∙ l.invariant.0,
      none_there c.in_ok-state-in-Whole.state.fault (sym c.is_some.ensures ∙ c.if-is_some.false),
      c.in_ok-state-in-Whole.ensures.sound,
      omega arith,
      omega (arith, room),
    )

pub returns-clause-stepped : goal.returns-clause-stepped
returns-clause-stepped c =
    let l = c.loop-used in
    let all : length c.args.bytes.now ≤ l.used = omega arith in
    ends-all c.args.reader.now.schema.now c.args.state l.state c.args.bytes.now l.used l.invariant.0 l.invariant.1 all l.invariant.3 l.invariant.2.within

pub overflow_add-used : goal.overflow_add-used
overflow_add-used c =
    let l = c.loop-used in
    let bytes = c.args.bytes.now in
    let rest = take (length bytes - l.used) (drop l.used bytes) in
    let there : c.in-Whole.len + 9 < length rest = (whole-there rest c.in-Whole.len (sym c.front_of.ensures ∙ c.in-Whole.is)).0 in
    let size : length rest ≡ length bytes - l.used = ap length (to_end bytes l.used) ∙ length-drop l.used bytes in
    omega (arith, c.requires.room)

pub overflow_add-used-in-Whole : goal.overflow_add-used-in-Whole
overflow_add-used-in-Whole c =
    let l = c.loop-used in
    let bytes = c.args.bytes.now in
    let rest = take (length bytes - l.used) (drop l.used bytes) in
    let there : c.in-Whole.len + 9 < length rest = (whole-there rest c.in-Whole.len (sym c.front_of.ensures ∙ c.in-Whole.is)).0 in
    let size : length rest ≡ length bytes - l.used = ap length (to_end bytes l.used) ∙ length-drop l.used bytes in
    let inside = l.invariant.3 in
    omega (arith, c.requires.room)
