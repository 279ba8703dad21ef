use Rattle.std.proofs.Common.{◌≡◌, ap, sym, ◌∙◌}
use Rattle.std.specs.BTreeMap.{is_at}
use Rattle.std.specs.Map.{set_value}
use Rattle.std.specs.Option.{option_copied_mut}
use Rattle.std.proofs.lemmas.Map.Steps.{set_value_same}
use Rattle.sal_owner.specs.Kept.{text_cmp}
use Rattle.sal_owner.proofs.Maps.{on_err}
use Rattle.sal_owner.proofs.shifts.number.Goals as goal

pub returns-in-Some-clause-err : goal.returns-in-Some-clause-err
returns-in-Some-clause-err c =
    on_err (c.add.new.self ≡ c.in-Some.of_kind.now) ((c.get_mut.follows.lender c.add.new.self).entries ≡ c.args.numbers.now.entries) c.add.result
    (λ same. (c.get_mut.follows.holds c.add.new.self).0 ∙ ap (set_value (is_at (text_cmp c.args.kind.now)) c.args.numbers.now.entries) same
    ∙ set_value_same (is_at (text_cmp c.args.kind.now)) c.args.numbers.now.entries c.in-Some.of_kind.now (sym c.get_mut.ensures.value ∙ ap option_copied_mut c.in-Some.is))
    c.add.ensures.err
