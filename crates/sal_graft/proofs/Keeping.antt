-- An opening is kept, and one more commit is.
use Rattle.std.proofs.Common.{◌≡◌, ℕ, zero, suc, ◌-◌, ◌<◌, ◌≤◌, List, [], ◌∷◌, ◌++◌, length, take, get_or, refl, ap, sym, ◌∙◌, arith, length-append, inl, inr}
use Rattle.std.specs.Prelude.{map}
use Rattle.std.proofs.lemmas.List.{take_all, get_or_append_left, take-append-le}
use Rattle.std.proofs.lemmas.Bool.{cases_lt}
use Rattle.std.proofs.lemmas.Grind.{fold-append}
use Rattle.std.proofs.Math.Seq.{get_or-append_seam}
use Rattle.sal_types.specs.declared.value.Store.{Store}
use Rattle.sal_types.specs.declared.row.Row.{Row}
use Rattle.sal_rows.specs.declared.op.Op.{Op}
use Rattle.sal_rows.specs.Apply.{apply_ops}
use Rattle.sal_rows.specs.Commits.{next_tree, tree_after, tree_at}
use Rattle.sal_tree.specs.declared.commit.Commit.{Commit}
use Rattle.sal_graft.specs.Kept.{AreKept, chains_of, opening_in, all_ops, ops_of, rows_in}
use Rattle.sal_graft.proofs.KeptLemmas.{length-ops_of}

pub AreKept-opening : (c : Commit) → c.number ≡ 0 → AreKept (c ∷ [])
AreKept-opening c first = record {
  opened = omega arith;
  numbers = numbered;
  trees = at;
}
  where
    numbered : (k : ℕ) (x : Commit) → k < 1 → x ≡ get_or (c ∷ []) k x → x.number ≡ k
    numbered zero x h is = ap (λ (y : Commit). y.number) is ∙ first
    numbered (suc k) x h is = absurd (omega arith)

    at : (k : ℕ) (x : Commit) (s : Store) → k < 1 → x ≡ get_or (c ∷ []) k x → rows_in x.trees s ≡ tree_at (opening_in (c ∷ [])) [] s k
    at zero x s h is = ap (λ (y : Commit). rows_in y.trees s) is
    at (suc k) x s h is = absurd (omega arith)

all_ops-push : (commits : List Commit) (c : Commit) → all_ops (commits ++ c ∷ []) ≡ all_ops commits ++ c.ops.value ∷ []
all_ops-push [] c = refl
all_ops-push (d ∷ commits) c = ap (λ (cs : List (List Op)). d.ops.value ∷ cs) (all_ops-push commits c)

pub opening_in-push : (kept : List Commit) (c : Commit) (s : Store) → 1 ≤ length kept → opening_in (kept ++ c ∷ []) s ≡ opening_in kept s
opening_in-push [] c s h = absurd (omega arith)
opening_in-push (opening ∷ commits) c s h = refl

pub ops_of-push : (kept : List Commit) (c : Commit) → 1 ≤ length kept → ops_of (kept ++ c ∷ []) ≡ ops_of kept ++ c.ops.value ∷ []
ops_of-push [] c h = absurd (omega arith)
ops_of-push (opening ∷ commits) c h = all_ops-push commits c

chains-push : (commits : List Commit) (c : Commit) → map (λ (x : Commit). x.chain) (commits ++ c ∷ []) ≡ map (λ (x : Commit). x.chain) commits ++ c.chain ∷ []
chains-push [] c = refl
chains-push (d ∷ commits) c = ap (λ chains. d.chain ∷ chains) (chains-push commits c)

pub chains_of-push : (kept : List Commit) (c : Commit) → 1 ≤ length kept → chains_of (kept ++ c ∷ []) ≡ chains_of kept ++ c.chain ∷ []
chains_of-push [] c h = absurd (omega arith)
chains_of-push (opening ∷ commits) c h = chains-push commits c

-- a tree at a commit stays when a later commit is added
tree_at-push : (opening : Store → List Row) (ops : List (List Op)) (new : List Op) (s : Store) (k : ℕ) → k ≤ length ops → tree_at opening (ops ++ new ∷ []) s k ≡ tree_at opening ops s k
tree_at-push opening ops new s k h = ap (tree_after s (opening s)) (take-append-le k ops (new ∷ []) h)

tree_at-all : (opening : Store → List Row) (ops : List (List Op)) (s : Store) (k : ℕ) → length ops ≤ k → tree_at opening ops s k ≡ tree_after s (opening s) ops
tree_at-all opening ops s k h = ap (tree_after s (opening s)) (take_all k ops h)

module _ (kept : List Commit) (last next : Commit) (are : AreKept kept) (numbered : next.number ≡ length kept) (at_last : last ≡ get_or kept (length kept - 1) last) (after : (s : Store) → rows_in next.trees s ≡ apply_ops (rows_in last.trees s) s next.ops.value) where
  long : length (ops_of kept) ≡ length kept - 1
  long = length-ops_of kept are.opened

  ops : ops_of (kept ++ next ∷ []) ≡ ops_of kept ++ next.ops.value ∷ []
  ops = ops_of-push kept next are.opened

  -- a tree at a commit, over the commits before it came and after
  at_both : (s : Store) (k : ℕ) → tree_at (opening_in kept) (ops_of (kept ++ next ∷ [])) s k ≡ tree_at (opening_in (kept ++ next ∷ [])) (ops_of (kept ++ next ∷ [])) s k
  at_both s k = sym (ap (λ t. tree_after s t (take k (ops_of (kept ++ next ∷ [])))) (opening_in-push kept next s are.opened))

  before : (k : ℕ) (c : Commit) (s : Store) → k < length kept → c ≡ get_or (kept ++ next ∷ []) k c → rows_in c.trees s ≡ tree_at (opening_in (kept ++ next ∷ [])) (ops_of (kept ++ next ∷ [])) s k
  before k c s h is =
      are.trees k c s h (is ∙ get_or_append_left kept (next ∷ []) c k h) ∙ sym (tree_at-push (opening_in kept) (ops_of kept) next.ops.value s k (omega (arith, long)))
      ∙ ap (λ (cs : List (List Op)). tree_at (opening_in kept) cs s k) (sym ops) ∙ at_both s k

  newest : (s : Store) → rows_in next.trees s ≡ tree_after s (opening_in kept s) (ops_of kept ++ next.ops.value ∷ [])
  newest s =
      after s
      ∙ ap (λ (t : List Row). next_tree s t next.ops.value) (are.trees (length kept - 1) last s (omega (arith, are.opened)) at_last ∙ tree_at-all (opening_in kept) (ops_of kept) s (length kept - 1) (omega (arith, long)))
      ∙ sym (fold-append (next_tree s) (opening_in kept s) (ops_of kept) (next.ops.value ∷ []))

  at_end : (k : ℕ) (c : Commit) (s : Store) → k ≡ length kept → c ≡ get_or (kept ++ next ∷ []) k c → rows_in c.trees s ≡ tree_at (opening_in (kept ++ next ∷ [])) (ops_of (kept ++ next ∷ [])) s k
  at_end k c s h is =
      let all : length (ops_of (kept ++ next ∷ [])) ≤ k = omega (arith, ap length ops, length-append (ops_of kept) (next.ops.value ∷ []), long, are.opened) in
      ap (λ (x : Commit). rows_in x.trees s) (is ∙ ap (λ i. get_or (kept ++ next ∷ []) i c) h ∙ pushed c)
      ∙ newest s ∙ ap (tree_after s (opening_in kept s)) (sym ops) ∙ sym (tree_at-all (opening_in kept) (ops_of (kept ++ next ∷ [])) s k all) ∙ at_both s k
    where
      pushed : (d : Commit) → get_or (kept ++ next ∷ []) (length kept) d ≡ next
      pushed d = get_or-append_seam kept next [] d

  number_at : (k : ℕ) (c : Commit) → k ≡ length kept → c ≡ get_or (kept ++ next ∷ []) k c → c.number ≡ k
  number_at k c h is =
      ap (λ (x : Commit). x.number) (is ∙ ap (λ i. get_or (kept ++ next ∷ []) i c) h ∙ get_or-append_seam kept next [] c)
      ∙ numbered ∙ sym h

  -- a commit after the last one, with the next number, whose trees are those of the last one after its operations
  pub AreKept-push : AreKept (kept ++ next ∷ [])
  AreKept-push = record {
    opened = omega (arith, length-append kept (next ∷ []));
    numbers = λ k c h is.
        elim (cases_lt k (length kept)) [
          | inl less ↦ are.numbers k c less (is ∙ get_or_append_left kept (next ∷ []) c k less)
          | inr more ↦ number_at k c (omega (arith, length-append kept (next ∷ []))) is
        ];
    trees = λ k c s h is.
        elim (cases_lt k (length kept)) [
          | inl less ↦ before k c s less is
          | inr more ↦ at_end k c s (omega (arith, length-append kept (next ∷ []))) is
        ];
  }
