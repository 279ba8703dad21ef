use Rattle.std.proofs.Common.{◌≡◌, ◌||◌, ◌<◌, ℕ, Bool, List, false, length, nat_eq, slice_index_or, rules, ap, sym, ◌∙◌, subst}
use Rattle.std.specs.List.{All, filter, range_with_len}
use Rattle.sal_report.proofs.Replayed.{all_below, told-is}
use Rattle.sal_report.proofs.mounted.told_domains.Goals as goal

pub returns-clause-told : goal.returns-clause-told
returns-clause-told c = λ world many.
    let same : c.deref.result.now ≡ c.in_ok-marks.marks.items = search rules in
    c.in_ok-told.ensures.told
    ∙ told-is world c.args.log.now c.args.domains c.deref.result.now many (ap length same ∙ c.in_ok-marks.ensures.long)
    (λ d less. ap (λ (marks : List Bool). slice_index_or marks d false) same ∙ c.in_ok-marks.ensures.each d less)

pub returns-clause-within : goal.returns-clause-within
returns-clause-within c =
    let same : c.deref.result.now ≡ c.in_ok-marks.marks.items = search rules in
    let long : length c.deref.result.now ≡ c.args.domains = ap length same ∙ c.in_ok-marks.ensures.long in
    let test : ℕ → Bool = λ d. nat_eq d 0 || slice_index_or c.deref.result.now d false in
    subst (All (λ d. d < c.args.domains)) (sym c.in_ok-told.ensures.told)
    (subst (λ n. All (λ d. d < c.args.domains) (filter test (range_with_len 0 n))) (sym long) (all_below test c.args.domains))
