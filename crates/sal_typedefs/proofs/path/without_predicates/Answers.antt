use Rattle.std.proofs.Common.{◌≡◌, ◌∙◌, ◌++◌, ◌∷◌, [], Some, rules, sym, ap, string_bytes}
use Rattle.sal_typedefs.specs.Names.{outside}
use Rattle.sal_typedefs.proofs.PathLists.{behind, behind-nothing, behind-two, predicates-none, predicates-some}
use Rattle.sal_typedefs.proofs.path.without_predicates.Goals as goal

pub predicates-init : goal.predicates-init
predicates-init c =
    let path = outside c.args.path.now in
    record {
      text = search rules;
      path = sym (ap (λ kept. behind kept path) c.new-kept.ensures.bytes ∙ behind-nothing path);
    }

pub returns-in-None : goal.returns-in-None
returns-in-None c =
    let kept = string_bytes c.predicates.kept in
    let rest = c.predicates.rest.now in
    let whole = predicates-none rest c.split_once.result c.split_once.ensures.cases c.in-None.is in
    ap Some c.in_ok-push_str-in-None.ensures.bytes ∙ sym (c.predicates.invariant.path ∙ ap (behind kept) whole)

pub returns-in-None-behind_predicate : goal.returns-in-None-behind_predicate
returns-in-None-behind_predicate c =
    let kept = string_bytes c.predicates.kept in
    let rest = c.predicates.rest.now in
    let front = c.in-Some.front.now in
    let parts = predicates-some rest c.split_once.result c.split_once.ensures.cases _ c.in-Some.is in
    sym (c.predicates.invariant.path ∙ ap (behind kept) (parts ∙ ap (behind front) c.in-None-behind_predicate.ensures.value))

pub predicates-preserved : goal.predicates-preserved
predicates-preserved c =
    let kept = string_bytes c.predicates.kept in
    let rest = c.predicates.rest.now in
    let front = c.in-Some.front.now in
    let left = outside c.in-Some-behind_predicate.behind.now in
    let parts = predicates-some rest c.split_once.result c.split_once.ensures.cases _ c.in-Some.is in
    let bytes : string_bytes c.push_str-in-Some-behind_predicate.new.self ≡ (kept ++ front) ++ 93 ∷ []
    = c.in_ok-push_str-in-Some-behind_predicate.ensures.bytes ∙ ap (λ k. k ++ 93 ∷ []) c.in_ok-push_str-in-Some.ensures.bytes in
    record {
      text = search rules;
      path = c.predicates.invariant.path ∙ ap (behind kept) (parts ∙ ap (behind front) c.in-Some-behind_predicate.ensures.value)
          ∙ behind-two kept front (behind (93 ∷ []) left) ∙ behind-two (kept ++ front) (93 ∷ []) left ∙ ap (λ k. behind k left) (sym bytes);
    }
