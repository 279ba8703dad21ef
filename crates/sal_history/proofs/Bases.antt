-- The trees of bases over the commits of a domain: what one more commit makes of them, and the newest base.
use Rattle.std.proofs.Common.{◌≡◌, ℕ, ◌+◌, ◌-◌, ◌≤◌, true, false, List, [], ◌∷◌, ◌++◌, length, take, drop, Option, None, Some, ap, sym, ◌∙◌, subst, cond, arith, length-append}
use Rattle.std.specs.Prelude.{map}
use Rattle.std.specs.List.{fold}
use Rattle.std.proofs.lemmas.Bool.{eqb-true}
use Rattle.std.proofs.lemmas.List.{drop_all, drop-append-le, length-map, map-append, take_all, take-append-le}
use Rattle.std.proofs.lemmas.List.Sums.{fold-append}
use Rattle.sal_types.specs.declared.value.Store.{Store}
use Rattle.sal_types.specs.declared.row.Row.{Row}
use Rattle.sal_rows.specs.declared.op.Op.{Op}
use Rattle.sal_rows.specs.declared.clash.Span.{Span}
use Rattle.sal_rows.specs.Apply.{apply_ops}
use Rattle.sal_rows.specs.Commits.{tree_after, tree_at}
use Rattle.sal_rows.specs.Quiet.{with_own}
use Rattle.sal_rows.specs.Spans.{is_of_chain, own_commits, spans}
use Rattle.sal_history.specs.Submissions.{Base, Sent, is_in, view_of}
use Rattle.sal_history.proofs.Spans.{on_top, own_step, split}

-- the operations of the commits, and their chains
abbrev pub ops_in : List Sent → List (List Op)
ops_in ds = map (λ (x : Sent). x.ops) ds

abbrev pub chains_in : List Sent → List (Option ℕ)
chains_in ds = map (λ (x : Sent). x.base.chain) ds

-- the tree at a commit with the chain's own later ones on top
abbrev pub tree_over : (Store → List Row) → List Sent → ℕ → Option ℕ → Store → List Row
tree_over opening ds commit chain s = with_own (ops_in ds) s (tree_at opening (ops_in ds) s commit) (drop 1 (spans commit chain (chains_in ds)))

-- the base has these trees
abbrev pub IsOver : (Store → List Row) → List Sent → Base → Type 0
IsOver opening ds b = (b.commit ≤ length (ops_in ds)) × ((s : Store) → b.trees s ≡ tree_over opening ds b.commit b.chain s)

-- the base is on a submission that is pending
abbrev pub Follows : Base → Sent → Type 0
Follows b x = (x.base.domain ≡ b.domain) × (x.base.commit ≡ b.commit) × ((s : Store) → b.trees s ≡ view_of x s)

-- an element of a chain has its id
pub same_chain : (a b : Option ℕ) → is_of_chain a b ≡ true → a ≡ b
same_chain None b e = cc
same_chain (Some m) None e = cc
same_chain (Some m) (Some n) e = ap Some (eqb-true m n e)

module _ (opening : Store → List Row) (commit : ℕ) (chain : Option ℕ) (s : Store) where
  -- the same tree, commit by commit
  abbrev folded : List Sent → List Row
  folded ds = fold (own_step chain s) (tree_at opening (ops_in ds) s commit) (drop commit ds)

  is_folded : (ds : List Sent) → commit ≤ length ds → tree_over opening ds commit chain s ≡ folded ds
  is_folded ds le =
      let t = length (chains_in ds) in
      let all : t ≡ length ds = length-map ds (λ x. x.base.chain) in
      let ends : commit + (t - commit) ≡ length ds = omega (arith, le, all) in
      ap (λ (l : List Span). with_own (ops_in ds) s (tree_at opening (ops_in ds) s commit) (drop 1 l)) (split commit (own_commits commit chain (chains_in ds)) t)
      ∙ on_top chain ds s (t - commit) commit t (tree_at opening (ops_in ds) s commit) ends

  folded-push : (ds : List Sent) (x : Sent) → commit ≤ length ds → folded (ds ++ x ∷ []) ≡ own_step chain s (folded ds) x
  folded-push ds x le =
      let short : commit ≤ length (ops_in ds) = omega (arith, le, length-map ds (λ (y : Sent). y.ops)) in
      let front : take commit (ops_in (ds ++ x ∷ [])) ≡ take commit (ops_in ds) =
      ap (take commit) (map-append (λ (y : Sent). y.ops) ds (x ∷ [])) ∙ take-append-le commit (ops_in ds) (x.ops ∷ []) short in
      ap (λ (cs : List (List Op)). fold (own_step chain s) (tree_after s (opening s) cs) (drop commit (ds ++ x ∷ []))) front
      ∙ ap (fold (own_step chain s) (tree_at opening (ops_in ds) s commit)) (drop-append-le commit ds (x ∷ []) le)
      ∙ fold-append (own_step chain s) (tree_at opening (ops_in ds) s commit) (drop commit ds) (x ∷ [])

  -- one more commit, which counts if it is of the chain
  tree_over-push : (ds : List Sent) (x : Sent) → commit ≤ length ds → tree_over opening (ds ++ x ∷ []) commit chain s ≡ own_step chain s (tree_over opening ds commit chain s) x
  tree_over-push ds x le =
      let longer : commit ≤ length (ds ++ x ∷ []) = omega (arith, le, length-append ds (x ∷ [])) in
      is_folded (ds ++ x ∷ []) longer ∙ folded-push ds x le ∙ ap (λ (tree : List Row). own_step chain s tree x) (sym (is_folded ds le))

-- ---- bases

module _ (opening : Store → List Row) (ds : List Sent) (x : Sent) (b : Base) where
  still_within : b.commit ≤ length (ops_in ds) → b.commit ≤ length (ops_in (ds ++ x ∷ []))
  still_within le = omega (arith, le, length-map ds (λ (y : Sent). y.ops), length-map (ds ++ x ∷ []) (λ (y : Sent). y.ops), length-append ds (x ∷ []))

  short : b.commit ≤ length (ops_in ds) → b.commit ≤ length ds
  short le = omega (arith, le, length-map ds (λ (y : Sent). y.ops))

  -- a commit of another chain, or of none
  pub over_other : is_in b.chain x ≡ false → IsOver opening ds b → IsOver opening (ds ++ x ∷ []) b
  over_other other was = (
    still_within was.0,
    λ s.
        was.1 s
        ∙ sym (tree_over-push opening b.commit b.chain s ds x (short was.0)
        ∙ ap (λ o. cond o (apply_ops (tree_over opening ds b.commit b.chain s) s x.ops) (tree_over opening ds b.commit b.chain s)) other),
  )

  -- the commit on which the base was before it was one
  pub over_own : is_in b.chain x ≡ true → Follows b x → IsOver opening ds x.base → IsOver opening (ds ++ x ∷ []) b
  over_own own on was =
      let chains : x.base.chain ≡ b.chain = sym (same_chain b.chain x.base.chain own) in
      let le : b.commit ≤ length (ops_in ds) = subst (λ k. k ≤ length (ops_in ds)) on.1 was.0 in (
        still_within le,
        λ s.
            let same : tree_over opening ds x.base.commit x.base.chain s ≡ tree_over opening ds b.commit b.chain s = λ i. tree_over opening ds (on.1 i) (chains i) s in
            on.2 s ∙ ap (λ (tree : List Row). apply_ops tree s x.ops) (was.1 s ∙ same)
            ∙ sym (tree_over-push opening b.commit b.chain s ds x (short le)
            ∙ ap (λ o. cond o (apply_ops (tree_over opening ds b.commit b.chain s) s x.ops) (tree_over opening ds b.commit b.chain s)) own),
      )

-- a base at the newest commit
pub over_newest : (opening : Store → List Row) (ds : List Sent) (domain : ℕ) (chain : Option ℕ)
    → IsOver opening ds (record { domain = domain; commit = length (ops_in ds); chain = chain; trees = λ s. tree_after s (opening s) (ops_in ds) })
over_newest opening ds domain chain =
    let all : length (ops_in ds) ≡ length ds = length-map ds (λ x. x.ops) in
    let nothing : drop (length (ops_in ds)) ds ≡ [] = drop_all (length (ops_in ds)) ds (omega (arith, all)) in
    let whole : take (length (ops_in ds)) (ops_in ds) ≡ ops_in ds = take_all (length (ops_in ds)) (ops_in ds) (omega arith) in (
      omega arith,
      λ s.
          sym (is_folded opening (length (ops_in ds)) chain s ds (omega (arith, all))
          ∙ ap (fold (own_step chain s) (tree_at opening (ops_in ds) s (length (ops_in ds)))) nothing
          ∙ ap (tree_after s (opening s)) whole),
    )
