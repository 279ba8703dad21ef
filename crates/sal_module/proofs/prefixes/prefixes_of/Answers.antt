use Rattle.std.proofs.Common.{◌≡◌, ◌∙◌, ℕ, List, [], ◌∷◌, ◌++◌, true, false, map, take, filter, Option, is_some, refl, sym, ap, arith}
use Rattle.std.specs.List.{list_any}
use Rattle.std.specs.String.{string_bytes}
use Rattle.std.proofs.lemmas.Bool.Decides.{nat_tests}
use Rattle.std.proofs.lemmas.Grind.{common_steps}
use Rattle.sal_module.specs.declared.keyword.Keyword.TheVariants as word
use Rattle.sal_module.specs.Keywords.{same}
use Rattle.sal_module.specs.Statements.{is_named, subs_of, argument_of}
use Rattle.sal_module.specs.Imports.{prefix_of, place_of, Named, find_named, named_prefixes, named_import}
use Rattle.sal_module.proofs.NamedPrefixes.{find_named-put, find_named-known, named_prefixes-last, named_prefixes-any, filter-take, prefix_faults-more}
use Rattle.sal_module.proofs.prefixes.prefixes_of.Goals as goal

pub loop-sub-preserved-then-contains_key : goal.loop-sub-preserved-then-contains_key
loop-sub-preserved-then-contains_key c =
    let stmts = c.args.stmts.now in
    let stmt = c.args.stmt.now in
    let sub = c.sub-item.result in
    let imports = filter (is_named word.Import) (take c.loop-sub.sub-index (subs_of stmt)) in
    let grown = filter-take (is_named word.Import) (subs_of stmt) c.loop-sub.sub-index sub (grind (arith, common_steps)) (grind (arith, common_steps)) (grind (arith, nat_tests)) in
    let prefix : c.value_of-prefix.result.now ≡ prefix_of sub = c.value_of-prefix.ensures in
    let names = named_prefixes stmts c.args.number stmt imports in
    let known : is_some (find_named names (prefix_of sub)) ≡ true =
    ap (λ (b : List ℕ). is_some (find_named names b)) (sym prefix) ∙ sym (ap is_some (c.loop-sub.invariant.names c.value_of-prefix.result.now)) ∙ sym c.contains_key.ensures ∙ c.if-contains_key.true in
    let any : list_any (same (prefix_of sub)) ((prefix_of stmt ∷ []) ++ map prefix_of imports) ≡ true = sym (named_prefixes-any stmts c.args.number stmt imports (prefix_of sub)) ∙ known in
    rw grown (record {
      names = λ q. c.loop-sub.invariant.names q ∙ find_named-known (named_prefixes stmts c.args.number stmt imports) (named_import stmts sub) known q ∙ ap (λ names. find_named names q) (sym (named_prefixes-last stmts c.args.number stmt imports sub));
      fault = prefix_faults-more c.args.number (prefix_of stmt) imports sub c.args.best c.loop-sub.best c.with_fault-best.result c.loop-sub.invariant.fault (rw any c.with_fault-best.ensures);
    })

pub loop-sub-preserved : goal.loop-sub-preserved
loop-sub-preserved c =
    let stmts = c.args.stmts.now in
    let stmt = c.args.stmt.now in
    let sub = c.sub-item.result in
    let imports = filter (is_named word.Import) (take c.loop-sub.sub-index (subs_of stmt)) in
    let grown = filter-take (is_named word.Import) (subs_of stmt) c.loop-sub.sub-index sub (grind (arith, common_steps)) (grind (arith, common_steps)) (grind (arith, nat_tests)) in
    let key : string_bytes c.in_ok-from_str.field-0 ≡ prefix_of sub = c.in_ok-from_str.ensures.ok ∙ c.value_of-prefix.ensures in
    let place : c.place_of-place.result ≡ place_of stmts (argument_of sub) = rw c.argument_of.ensures at c.place_of-place.ensures in
    let names = named_prefixes stmts c.args.number stmt imports in
    let unknown : is_some (find_named names (prefix_of sub)) ≡ false =
    ap (λ (b : List ℕ). is_some (find_named names b)) (sym c.value_of-prefix.ensures) ∙ sym (ap is_some (c.loop-sub.invariant.names c.value_of-prefix.result.now)) ∙ sym c.contains_key.ensures ∙ c.if-contains_key.false in
    let none : list_any (same (prefix_of sub)) ((prefix_of stmt ∷ []) ++ map prefix_of imports) ≡ false = sym (named_prefixes-any stmts c.args.number stmt imports (prefix_of sub)) ∙ unknown in
    let put = find_named-put c.loop-sub.map c.insert.new.self c.in_ok-from_str.field-0 c.place_of-place.result c.in_ok-insert.ensures.updates names c.loop-sub.invariant.names (ap (λ (b : List ℕ). is_some (find_named names b)) key ∙ unknown) in
    rw grown (record {
      names = λ q. put q ∙ ap (λ (b : List ℕ). find_named (names ++ (b, c.place_of-place.result) ∷ []) q) key ∙ ap (λ (p : Option ℕ). find_named (names ++ (prefix_of sub, p) ∷ []) q) place
          ∙ ap (λ (all : List Named). find_named all q) (sym (named_prefixes-last stmts c.args.number stmt imports sub));
      fault = prefix_faults-more c.args.number (prefix_of stmt) imports sub c.args.best c.loop-sub.best c.loop-sub.best c.loop-sub.invariant.fault (rw none refl);
    })
