-- One operation more, on both trees.
use Rattle.std.proofs.Common.{◌≡◌, ℕ, ◌+◌, ◌-◌, ◌<◌, true, false, List, [], ◌∷◌, ◌++◌, length, get_or, take, refl, ap, sym, ◌∙◌}
use Rattle.std.proofs.lemmas.List.{take_more}
use Rattle.sal_types.specs.declared.value.Store.{Store}
use Rattle.sal_types.specs.declared.value.Store.TheVariants.{Config, Oper}
use Rattle.sal_types.specs.declared.value.Step.{Step}
use Rattle.sal_types.specs.declared.row.Row.{Row}
use Rattle.sal_types.specs.Tree.{cell}
use Rattle.sal_rows.specs.declared.op.Op.{Op}
use Rattle.sal_rows.specs.Apply.{same_store, act_setting, setting, cell_by, apply_ops}
use Rattle.sal_rows.proofs.Applied.{apply_ops-unique, cell-apply_ops, cell_after_push, IsAscending-apply_ops, setting-same, setting-other}
use Rattle.sal_node.specs.Tree.{Tree, IsGrove}
use Rattle.sal_tree.specs.Rows.{rows_of}
use Rattle.sal_tree.proofs.Cells.{ascending-rows_of}
use Rattle.sal_tree.specs.declared.commit.Commit.{Commit}
use Rattle.sal_tree.specs.declared.commit.Pair.{Pair}
use Rattle.sal_rows.specs.Clash.{tip}
use Rattle.sal_graft.specs.Kept.{AreKept, opening_in, ops_of, rows_in}
use Rattle.sal_graft.proofs.KeptLemmas.{tip-kept}

-- no operation
pub after-none : (tree : Tree) (s : Store) → IsGrove tree.kids → rows_of tree ≡ apply_ops (rows_of tree) s []
after-none tree s grove = apply_ops-unique (rows_of tree) s [] (rows_of tree) (ascending-rows_of tree grove) (λ r. refl)

-- an operation of the other store
pub after-other : (tree : Tree) (s : Store) (op : Op) → IsGrove tree.kids → same_store op.store s ≡ false → rows_of tree ≡ apply_ops (rows_of tree) s (op ∷ [])
after-other tree s op grove other =
    apply_ops-unique (rows_of tree) s (op ∷ []) (rows_of tree) (ascending-rows_of tree grove) (λ r.
    ap (λ x. cell_by x (cell (rows_of tree) r)) (sym (setting-other s op r other)) ∙ sym (cell_after_push (rows_of tree) s [] op r))

-- an operation of this store
pub after-same : (tree next : Tree) (s : Store) (op : Op) → IsGrove next.kids → same_store op.store s ≡ true
    → ((r : List Step) → cell (rows_of next) r ≡ cell_by (act_setting op.path op.act r) (cell (rows_of tree) r))
    → rows_of next ≡ apply_ops (rows_of tree) s (op ∷ [])
after-same tree next s op grove same cells =
    apply_ops-unique (rows_of tree) s (op ∷ []) (rows_of next) (ascending-rows_of next grove) (λ r.
    cells r ∙ ap (λ x. cell_by x (cell (rows_of tree) r)) (sym (setting-same s op r same)) ∙ sym (cell_after_push (rows_of tree) s [] op r))

apply_ops-push : (tree : List Row) (s : Store) (ops : List Op) (op : Op) → apply_ops (apply_ops tree s ops) s (op ∷ []) ≡ apply_ops tree s (ops ++ op ∷ [])
apply_ops-push tree s ops op =
    apply_ops-unique tree s (ops ++ op ∷ []) (apply_ops (apply_ops tree s ops) s (op ∷ [])) (IsAscending-apply_ops (apply_ops tree s ops) s (op ∷ [])) (λ r.
    cell-apply_ops (apply_ops tree s ops) s (op ∷ []) r ∙ cell_after_push (apply_ops tree s ops) s [] op r
    ∙ ap (cell_by (setting s op r)) (cell-apply_ops tree s ops r) ∙ sym (cell_after_push tree s ops op r))

-- a step of a loop over the operations
pub apply_ops-more : (tree : List Row) (s : Store) (ops : List Op) (i : ℕ) (op : Op) (now next : List Row) → i < length ops → op ≡ get_or ops i op
    → now ≡ apply_ops tree s (take i ops) → next ≡ apply_ops now s (op ∷ []) → next ≡ apply_ops tree s (take (i + 1) ops)
apply_ops-more tree s ops i op now next short at was is =
    is ∙ ap (λ t. apply_ops t s (op ∷ [])) was ∙ apply_ops-push tree s (take i ops) op
    ∙ ap (apply_ops tree s) (ap (λ (o : Op). take i ops ++ o ∷ []) at ∙ sym (take_more ops i op short))

-- the newest trees, copied
pub newest-none : (kept : List Commit) (c : Commit) (copy : Pair) (s : Store) → AreKept kept → c ≡ get_or kept (length kept - 1) c → copy ≡ c.trees
    → IsGrove copy.config.kids → IsGrove copy.oper.kids → rows_in copy s ≡ apply_ops (tip (opening_in kept) (ops_of kept) s) s []
newest-none kept c copy s are at same grove other = nothing s ∙ ap (λ t. apply_ops t s []) (ap (λ p. rows_in p s) same ∙ tip-kept kept c s are at)
  where
    nothing : (s : Store) → rows_in copy s ≡ apply_ops (rows_in copy s) s []
    nothing Config = after-none copy.config Config grove
    nothing Oper = after-none copy.oper Oper other
