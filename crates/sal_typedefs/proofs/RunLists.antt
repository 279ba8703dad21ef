-- Statements that are judged from the last one to the first, one step on.
use Rattle.std.proofs.Common.{◌≡◌, ℕ, zero, suc, ◌+◌, ◌-◌, ◌<◌, ◌≤◌, List, [], ◌∷◌, ◌++◌, length, map, take, drop, get_or, reverse, refl, ◌∙◌, sym, ap, subst, arith, append_assoc, append-nil}
use Rattle.std.specs.List.{flat_map}
use Rattle.std.proofs.lemmas.List.{take_at, drop_at, take_all, drop_all, length-map, length-drop, reverse-append, drop_more}
use Rattle.sal_stmt.specs.declared.stmt.Stmt.{Stmt}
use Rattle.sal_typedefs.specs.declared.judgement.Judgement.{Judgement}
use Rattle.sal_typedefs.specs.declared.walk.Gone.{Gone}
use Rattle.sal_typedefs.specs.Scopes.{Site}
use Rattle.sal_typedefs.specs.Names.{rests_on}
use Rattle.sal_typedefs.specs.Types.{Judged, judged, base_of, judge, judge_last}
use Rattle.sal_typedefs.specs.Walks.{Node, nodes, node_of}
use Rattle.sal_typedefs.specs.Judgements.{IsJudged, AreJudged}
use Rattle.sal_typedefs.specs.Runs.{run}

-- ---- what the run of a way is

run-flat : (modules : List Stmt) (f : Site → List Node) (g : Site → Judged) → ((site : Site) (rest : List Node) → run modules (f site ++ rest) ≡ g site ∷ run modules rest)
    → (sites : List Site) (rest : List Node) → run modules (flat_map f sites ++ rest) ≡ map g sites ++ run modules rest
run-flat modules f g each [] rest = refl
run-flat modules f g each (site ∷ sites) rest =
    ap (run modules) (append_assoc (f site) (flat_map f sites) rest) ∙ each site (flat_map f sites ++ rest) ∙ ap (λ js. g site ∷ js) (run-flat modules f g each sites rest)

run-one : (modules : List Stmt) (node : Node) (rest : List Node) (below after : List Judged) → run modules rest ≡ below ++ after → length below ≡ node.below
    → run modules (node ∷ rest) ≡ judged modules node.site (base_of node.site below) below ∷ after
unfolding run
run-one modules node rest below after e count =
    let front : take node.below (run modules rest) ≡ below = ap (take node.below) e ∙ take_at below after node.below count in
    let back : drop node.below (run modules rest) ≡ after = ap (drop node.below) e ∙ drop_at below after node.below count in
    rw (front, back) refl

pub run-way : (steps : ℕ) (modules : List Stmt) (site : Site) (rest : List Node) → run modules (nodes steps modules site ++ rest) ≡ judge steps modules site ∷ run modules rest
unfolding nodes judge judge_last
run-way zero modules site rest = run-one modules (record { site = site; below = 0 }) rest [] (run modules rest) refl refl
run-way (suc steps) modules site rest =
    let sites = rests_on modules site in
    run-one modules (record { site = site; below = length sites }) (flat_map (nodes steps modules) sites ++ rest) (map (judge steps modules) sites) (run modules rest)
    (run-flat modules (nodes steps modules) (judge steps modules) (run-way steps modules) sites rest) (length-map sites (judge steps modules))

-- ---- those judged last

take-step : (i : ℕ) (js : List Judged) (d : Judgement) (rest below : List Judgement) → AreJudged (d ∷ rest) (drop i js) → AreJudged below (take i js)
    → AreJudged (below ++ d ∷ []) (take (suc i) js) × AreJudged rest (drop (suc i) js)
take-step zero [] d rest below are ok = absurd are
take-step zero (x ∷ js) d rest [] are ok = ((are.0, tt), are.1)
take-step zero (x ∷ js) d rest (b ∷ bs) are ok = absurd ok
take-step (suc i) [] d rest below are ok = absurd are
take-step (suc i) (x ∷ js) d rest [] are ok = absurd ok
take-step (suc i) (x ∷ js) d rest (b ∷ bs) are ok = let r = take-step i js d rest bs are ok.1 in ((ok.0, r.0), r.1)

pub taken-more : (i : ℕ) (js : List Judged) (d : Judgement) (done old below new : List Judgement) → old ≡ done ++ d ∷ [] → new ≡ below ++ d ∷ []
    → AreJudged (reverse old) (drop i js) → AreJudged below (take i js) → AreJudged new (take (i + 1) js) × AreJudged (reverse done) (drop (i + 1) js)
taken-more i js d done old below new pop push are ok =
    let back : reverse old ≡ d ∷ reverse done = ap reverse pop ∙ reverse-append done (d ∷ []) in
    let P : List Judgement → Type 0 = λ ds. AreJudged ds (drop i js) in
    let r = take-step i js d (reverse done) below (subst P back are) ok in
    let more : i + 1 ≡ suc i = omega arith in
    let Q : List Judgement → Type 0 = λ ds. AreJudged ds (take (suc i) js) in
    rw more (subst Q (sym push) r.0, r.1)

none-left : (xs : List Judged) → AreJudged [] xs → length xs ≡ 0
none-left [] are = refl
none-left (x ∷ xs) are = absurd are

pub taken-all : (i count : ℕ) (js : List Judged) (old below : List Judgement) → old ≡ [] → i ≤ count → AreJudged (reverse old) (drop i js) → AreJudged below (take i js)
    → AreJudged below (take count js) × AreJudged (reverse old) (drop count js)
taken-all i count js old below none h are ok =
    let P : List Judgement → Type 0 = λ ds. AreJudged (reverse ds) (drop i js) in
    let zero-left : length (drop i js) ≡ 0 = none-left (drop i js) (subst P none are) in
    let short : length js ≤ i = omega (arith, length-drop i js, zero-left) in
    let front : take count js ≡ take i js = take_all count js (omega arith) ∙ sym (take_all i js short) in
    let back : drop count js ≡ drop i js = drop_all count js (omega arith) ∙ sym (drop_all i js short) in
    rw (front, back) (ok, are)

-- one more node
pub run-more : (modules : List Stmt) (all : List Gone) (n : ℕ) (node : Gone) (d : Judgement) (old done new : List Judgement) → 0 < n → n ≤ length all → node ≡ get_or all (n - 1) node
    → new ≡ old ++ d ∷ [] → IsJudged d (judged modules (node_of node).site (base_of (node_of node).site (take node.below (run modules (map node_of (drop n all))))) (take node.below (run modules (map node_of (drop n all)))))
    → AreJudged (reverse old) (drop node.below (run modules (map node_of (drop n all)))) → AreJudged (reverse new) (run modules (map node_of (drop (n - 1) all)))
unfolding run
run-more modules all n node d old done new some within is push one rest =
    let count : n - 1 + 1 ≡ n = omega arith in
    let more : drop (n - 1) all ≡ node ∷ drop n all = drop_more all (n - 1) node (omega arith) ∙ ap (λ k. get_or all (n - 1) node ∷ drop k all) count ∙ ap (λ (g : Gone). g ∷ drop n all) (sym is) in
    let back : reverse new ≡ d ∷ reverse old = ap reverse push ∙ reverse-append old (d ∷ []) in
    rw (more, back) (one, rest)

pub start-run : (modules : List Stmt) (all : List Gone) (done : List Judgement) → done ≡ [] → AreJudged (reverse done) (run modules (map node_of (drop (length all) all)))
unfolding run
start-run modules all done e = rw (e, drop_all (length all) all (omega arith)) tt

pub top-judged : (steps : ℕ) (modules : List Stmt) (site : Site) (rest : List Judgement) (d : Judgement) (old : List Judgement) → old ≡ rest ++ d ∷ []
    → AreJudged (reverse old) (run modules (nodes steps modules site)) → IsJudged d (judge steps modules site)
top-judged steps modules site rest d old pop are =
    let back : reverse old ≡ d ∷ reverse rest = ap reverse pop ∙ reverse-append rest (d ∷ []) in
    let way : run modules (nodes steps modules site) ≡ judge steps modules site ∷ run modules [] = ap (run modules) (sym (append-nil (nodes steps modules site))) ∙ run-way steps modules site [] in
    let P : List Judgement → Type 0 = λ ds. AreJudged ds (run modules (nodes steps modules site)) in
    let Q : List Judged → Type 0 = λ js. AreJudged (d ∷ reverse rest) js in
    (subst Q way (subst P back are)).0

-- the statement itself is judged
pub top-there : (steps : ℕ) (modules : List Stmt) (site : Site) (old : List Judgement) → old ≡ [] → AreJudged (reverse old) (run modules (nodes steps modules site)) → ⊥
top-there steps modules site old none are =
    let way : run modules (nodes steps modules site) ≡ judge steps modules site ∷ run modules [] = ap (run modules) (sym (append-nil (nodes steps modules site))) ∙ run-way steps modules site [] in
    let P : List Judgement → Type 0 = λ ds. AreJudged (reverse ds) (run modules (nodes steps modules site)) in
    let Q : List Judged → Type 0 = λ js. AreJudged [] js in
    subst Q way (subst P none are)
