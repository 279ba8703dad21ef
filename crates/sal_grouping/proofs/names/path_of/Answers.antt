use Rattle.std.proofs.Common.{◌≡◌, ◌∙◌, List, ℕ, [], ◌∷◌, map, drop, sym, ap, subst, IfOk}
use Rattle.sal_grouping.specs.Groupings.{Step, step_of, path_of}
use Rattle.sal_module.proofs.Paths.{names, names-whole, names-parts}
use Rattle.sal_grouping.proofs.names.path_of.Goals as goal

pub returns-in-None : goal.returns-in-None
returns-in-None c =
    let text = c.as_str.result.now in
    let whole : names text ≡ text ∷ [] = names-whole text c.split_once.result c.split_once.ensures.cases c.in-None.is in
    let f = step_of c.args.modules.now c.args.row.now.module in
    c.new.ensures.items ∙ ap (λ (n : List (List ℕ)). map f (drop 1 n)) (sym whole) ∙ ap (λ t. map f (drop 1 (names t))) c.as_str.ensures

pub returns-in-Some : goal.returns-in-Some
returns-in-Some c =
    let text = c.as_str.result.now in
    let parts = names-parts text c.split_once.result c.split_once.ensures.cases _ c.in-Some.is in
    let f = step_of c.args.modules.now c.args.row.now.module in
    let all : map f (names c.in-Some.rest.now) ≡ path_of c.args.modules.now c.args.row.now =
    ap (λ (n : List (List ℕ)). map f (drop 1 n)) (sym parts) ∙ ap (λ t. map f (drop 1 (names t))) c.as_str.ensures in
    let P : List Step → Type 0 = λ xs. IfOk c.steps_of.result (λ path. path.items ≡ xs) in
    subst P all c.steps_of.ensures
