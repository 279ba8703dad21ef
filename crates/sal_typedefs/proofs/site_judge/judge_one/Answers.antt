use Rattle.std.proofs.Common.{◌≡◌, ◌∙◌, ◌++◌, [], true, false, None, List, map, if◌then◌else◌, refl, sym, ap, append-nil, append_assoc}
use Rattle.std.specs.Prelude.{is_some}
use Rattle.std.specs.List.{list_any}
use Rattle.sal_module.specs.declared.fault.Found.{Found}
use Rattle.sal_module.specs.Faults.{least}
use Rattle.sal_module.specs.Statements.{argument_of}
use Rattle.sal_restrict.specs.declared.yang_type.YangType.{YangType}
use Rattle.sal_typedefs.specs.Builtins.{builtin_of}
use Rattle.sal_typedefs.specs.declared.judgement.Judgement.{Judgement}
use Rattle.sal_typedefs.specs.Restrictions.{Base, layer_of, restriction_faults, pattern_faults}
use Rattle.sal_typedefs.specs.Spots.{site_of}
use Rattle.sal_typedefs.specs.Types.{Judged, is_faulty, base_of, entries_in}
use Rattle.sal_typedefs.specs.Judgements.{base_seen, base_by, meaning_of}
use Rattle.sal_typedefs.proofs.EntryLists.{least-two}
use Rattle.sal_typedefs.proofs.LeastLists.{all_faults, stays-some, good-types, base-same}
use Rattle.sal_typedefs.proofs.site_judge.judge_one.Goals as goal

pub returns-then-is_faulty : goal.returns-then-is_faulty
returns-then-is_faulty c judged are =
    let spot = c.args.spot.now in
    let site = site_of spot in
    let best = c.fault_below-best.result in
    let some : is_some best ≡ true = sym c.is_some-is_faulty.ensures ∙ c.if-is_faulty.true in
    let any : list_any is_faulty judged ≡ true = sym (c.fault_below-best.ensures.some judged are) ∙ some in
    let first : best ≡ least None (all_faults judged) = c.fault_below-best.ensures.least judged are in
    let patterns : List Found = pattern_faults spot.module spot.stmt.now in
    let fault : c.faulty.result.fault ≡ least best patterns = c.faulty.ensures.fault ∙ c.in_ok-best.ensures in
    let own : patterns ++ (if list_any is_faulty judged then [] else restriction_faults (base_of site judged) spot.module spot.stmt.now) ≡ patterns = rw any (append-nil patterns) in
    record {
      fault = fault ∙ ap (λ b. least b patterns) first ∙ least-two None (all_faults judged) patterns ∙ ap (λ o. least None (all_faults judged ++ o)) (sym own);
      type = λ none. absurd (stays-some best patterns some (sym fault ∙ none));
      entries = λ none. absurd (stays-some best patterns some (sym fault ∙ none));
      numbers = c.faulty.ensures.numbers;
      positions = c.faulty.ensures.positions;
    }

pub returns : goal.returns
returns c judged are =
    let spot = c.args.spot.now in
    let site = site_of spot in
    let m = spot.module in
    let stmt = spot.stmt.now in
    let modules = c.args.typedefs.now in
    let below = c.args.below.now in
    let best = c.fault_below-best.result in
    let none : is_some best ≡ false = sym c.is_some-is_faulty.ensures ∙ c.if-is_faulty.false in
    let good : list_any is_faulty judged ≡ false = sym (c.fault_below-best.ensures.some judged are) ∙ none in
    let first : best ≡ least None (all_faults judged) = c.fault_below-best.ensures.least judged are in
    let patterns : List Found = pattern_faults m stmt in
    let base : Base = base_of site judged in
    let name = c.builtin_of.ensures ∙ ap builtin_of c.argument_of.ensures in
    let base-is : base_seen c.in_ok-basis.basis ≡ base = c.in_ok-basis.ensures.value ∙ ap (λ b. base_by b below) name ∙ base-same (builtin_of (argument_of stmt)) below judged are good in
    let kept : List YangType = map (λ (d : Judgement). d.ty) below in
    let types-are : kept ≡ map (λ (j : Judged). j.type) judged = good-types below judged are good in
    let rest : List Found = restriction_faults base m stmt in
    let own : patterns ++ (if list_any is_faulty judged then [] else restriction_faults base m stmt) ≡ patterns ++ rest = rw good refl in
    record {
      fault =
          c.in_ok-judgement.ensures.fault ∙ ap (λ b. least b (restriction_faults (base_seen c.in_ok-basis.basis) m stmt)) (c.in_ok-best.ensures ∙ ap (λ b. least b patterns) first)
          ∙ ap (λ (b : Base). least (least (least None (all_faults judged)) patterns) (restriction_faults b m stmt)) base-is
          ∙ ap (λ b. least b rest) (least-two None (all_faults judged) patterns) ∙ least-two None (all_faults judged ++ patterns) rest
          ∙ ap (least None) (append_assoc (all_faults judged) patterns rest) ∙ ap (λ o. least None (all_faults judged ++ o)) (sym own);
      type = λ fine. c.in_ok-judgement.ensures.meant fine ∙ ap (λ (b : Base). meaning_of modules m b stmt kept) base-is
          ∙ ap (λ (ts : List YangType). meaning_of modules m base stmt ts) types-are;
      entries = λ fine. c.in_ok-judgement.ensures.entries fine ∙ ap (λ (b : Base). entries_in b stmt (layer_of b stmt)) base-is;
      numbers = c.in_ok-judgement.ensures.numbers;
      positions = c.in_ok-judgement.ensures.positions;
    }
