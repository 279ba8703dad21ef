-- The JSON value of a tree by its nodes is what is written for its rows.
use Rattle.std.proofs.Common.{◌≡◌, ℕ, zero, suc, ◌+◌, Bool, true, false, List, [], ◌∷◌, ◌++◌, length, Option, Some, None, refl, ap, sym, subst, ◌∙◌, append_assoc, append-nil, arith, ◌≤◌, get_or, Bor}
use Rattle.std.specs.Prelude.{T, if◌then◌else◌, fold}
use Rattle.std.specs.List.{slice_get}
use Rattle.std.specs.Ordering.{is_eq, is_lt}
use Rattle.std.specs.FinMap.Entries.{below_all}
use Rattle.serde_json.specs.Data.{Data, array, object, Members, no_members, put}
use Rattle.serde_json.specs.View.{items_of}
use Rattle.sal_types.specs.declared.value.Cell.{Cell}
use Rattle.sal_types.specs.declared.value.Step.{Step}
use Rattle.sal_types.specs.declared.value.Step.TheVariants.{Node, Key, Item}
use Rattle.sal_types.specs.declared.row.Row.{Row}
use Rattle.sal_types.specs.Order.{step_cmp}
use Rattle.sal_types.specs.Tree.{under}
use Rattle.sal_types.proofs.Handy.{less}
use Rattle.sal_schema.specs.declared.table.SchemaTable.{SchemaTable}
use Rattle.sal_schema.specs.Kinds.{is_leaf, is_leaf_list, is_list}
use Rattle.sal_schema.specs.Table.{is_kind}
use Rattle.sal_data.specs.Members.{member_name}
use Rattle.sal_data.specs.Read.{same_step}
use Rattle.sal_data.specs.Written.{next_step, same_next, step_of, with_row, runs_of, leaf_json, item_json, items_json, Writer, with_member, with_run, members_json, entry_json, entries_json, node_json, write_data}
use Rattle.sal_data.proofs.Fronts.{slice_get-behind, length-more}
use Rattle.sal_data.proofs.RunsApart.{same_step-itself}
use Rattle.sal_node.specs.Tree.{Tree, Forest, bare, grown, pairs, IsGrove, is_filled}
use Rattle.sal_node.specs.Shape.{seen}
use Rattle.sal_node.specs.declared.node.Child.{Child}
use Rattle.sal_node.proofs.Entries.{first, second}
use Rattle.sal_tree.specs.Rows.{here, below, rows_in, rows_of, from_path}
use Rattle.sal_tree.proofs.Wholes.{from_path-root}
use Rattle.sal_tree_text.specs.Trees.{first_cell, Teller, leaf_value, with_child, members_value, items_values, entry_value, entries_values, node_value}

-- ---- rows of children

from_path-append : (p : List Step) (xs ys : List Row) → from_path p (xs ++ ys) ≡ from_path p xs ++ from_path p ys
from_path-append p [] ys = refl
from_path-append p (r ∷ xs) ys = ap (λ (l : List Row). record { path = p ++ r.path; cell = r.cell } ∷ l) (from_path-append p xs ys)

from_path-below : (p : List Step) (x : Step) (rows : List Row) → from_path p (below x rows) ≡ from_path (p ++ x ∷ []) rows
from_path-below p x [] = refl
from_path-below p x (r ∷ rows) = λ i. record { path = sym (append_assoc p (x ∷ []) r.path) i; cell = r.cell } ∷ from_path-below p x rows i

-- a node that is present has rows
pub has_rows : (c : Option Cell) (kids : Forest) → T (is_filled c kids) → IsGrove kids → (row : Row) × (rows : List Row) × (here c ++ rows_in kids ≡ row ∷ rows)
has_rows (Some c) kids filled grove = (record { path = []; cell = c }, rows_in kids, refl)
has_rows None bare filled grove = absurd filled
has_rows None (grown x s c kids rest) filled grove =
    let (row, rows, is) = has_rows c kids grove.0.1 grove.1.0 in
    (record { path = x ∷ row.path; cell = row.cell }, below x rows ++ rows_in rest, ap (λ (l : List Row). below x l ++ rows_in rest) is)

-- the step after a path
step_behind : (p : List Step) (x : Step) (q : List Step) → slice_get ((p ++ x ∷ []) ++ q) (length p) ≡ Some x
step_behind p x q = ap (λ (r : List Step). slice_get r (length p)) (append_assoc p (x ∷ []) q) ∙ slice_get-behind p (x ∷ q)

-- ---- runs

-- the first run has another step
abbrev Apart : ℕ → Option Step → List (List Row) → Type 0
Apart k o [] = Unit {0}
Apart k o (run ∷ runs) = same_next o (step_of k run) ≡ false

alone : (k : ℕ) (row : Row) (o : Option Step) (runs : List (List Row)) → next_step k row ≡ o → Apart k o runs → with_row k row runs ≡ (row ∷ []) ∷ runs
alone k row o [] is apart = refl
alone k row o (run ∷ runs) is apart = ap (λ b. if b then (row ∷ run) ∷ runs else (row ∷ []) ∷ run ∷ runs) (ap (λ n. same_next n (step_of k run)) is ∙ apart)

joined : (k : ℕ) (row : Row) (x : Step) (run : List Row) (runs : List (List Row)) → next_step k row ≡ Some x → step_of k run ≡ Some x → with_row k row (run ∷ runs) ≡ (row ∷ run) ∷ runs
joined k row x run runs is here =
    ap (λ b. if b then (row ∷ run) ∷ runs else (row ∷ []) ∷ run ∷ runs) ((λ i. same_next (is i) (here i)) ∙ same_step-itself x)

-- the rows of a child are one run
one_run : (p : List Step) (x : Step) (row : Row) (rows rest : List Row) → Apart (length p) (Some x) (runs_of (length p) rest)
    → runs_of (length p) (from_path (p ++ x ∷ []) (row ∷ rows) ++ rest) ≡ from_path (p ++ x ∷ []) (row ∷ rows) ∷ runs_of (length p) rest
unfolding runs_of
one_run p x row [] rest apart = alone (length p) (record { path = (p ++ x ∷ []) ++ row.path; cell = row.cell }) (Some x) (runs_of (length p) rest) (step_behind p x row.path) apart
one_run p x row (next ∷ rows) rest apart =
    ap (with_row (length p) (record { path = (p ++ x ∷ []) ++ row.path; cell = row.cell })) (one_run p x next rows rest apart)
    ∙ joined (length p) (record { path = (p ++ x ∷ []) ++ row.path; cell = row.cell }) x (from_path (p ++ x ∷ []) (next ∷ rows)) (runs_of (length p) rest) (step_behind p x row.path) (step_behind p x next.path)

-- the runs of children
abbrev child_runs : List Step → Forest → List (List Row)
child_runs p bare = []
child_runs p (grown x s c kids rest) = from_path (p ++ x ∷ []) (here c ++ rows_in kids) ∷ child_runs p rest

-- a child's run has its step
step_of_child : (p : List Step) (x : Step) (c : Option Cell) (kids : Forest) → T (is_filled c kids) → IsGrove kids → step_of (length p) (from_path (p ++ x ∷ []) (here c ++ rows_in kids)) ≡ Some x
step_of_child p x c kids filled grove =
    let (row, rows, is) = has_rows c kids filled grove in
    ap (λ (l : List Row). step_of (length p) (from_path (p ++ x ∷ []) l)) is ∙ step_behind p x row.path

apart_child : (p : List Step) (x : Step) (f : Forest) → T (below_all step_cmp x (pairs f)) → IsGrove f → Apart (length p) (Some x) (child_runs p f)
apart_child p x bare under grove = tt
apart_child p x (grown y s c kids rest) under grove =
    let other : same_step x y ≡ false = ap is_eq (less (step_cmp x y) (first _ _ under)) in
    ap (same_next (Some x)) (step_of_child p y c kids grove.0.1 grove.1.0) ∙ other

runs_in : (p : List Step) (f : Forest) → IsGrove f → runs_of (length p) (from_path p (rows_in f)) ≡ child_runs p f
unfolding runs_of
runs_in p bare grove = refl
runs_in p (grown x s c kids rest) grove =
    let (row, rows, is) = has_rows c kids grove.0.1 grove.1.0 in
    let others = runs_in p rest grove.1.1 in
    let apart : Apart (length p) (Some x) (runs_of (length p) (from_path p (rows_in rest))) = subst (Apart (length p) (Some x)) (sym others) (apart_child p x rest grove.0.0 grove.1.1) in
    let split : from_path p (rows_in (grown x s c kids rest)) ≡ from_path (p ++ x ∷ []) (row ∷ rows) ++ from_path p (rows_in rest) =
    from_path-append p (below x (here c ++ rows_in kids)) (rows_in rest) ∙ ap (λ (l : List Row). l ++ from_path p (rows_in rest)) (from_path-below p x (here c ++ rows_in kids) ∙ ap (from_path (p ++ x ∷ [])) is) in
    ap (runs_of (length p)) split ∙ one_run p x row rows (from_path p (rows_in rest)) apart
    ∙ (λ i. from_path (p ++ x ∷ []) (sym is i) ∷ others i)

-- the run of a node's own row
abbrev own_run : List Step → Option Cell → List (List Row)
own_run p None = []
own_run p (Some c) = (record { path = p ++ []; cell = c } ∷ []) ∷ []

apart_own : (p : List Step) (f : Forest) → IsGrove f → Apart (length p) None (child_runs p f)
apart_own p bare grove = tt
apart_own p (grown y s c kids rest) grove = ap (same_next None) (step_of_child p y c kids grove.0.1 grove.1.0)

runs_at : (p : List Step) (c : Option Cell) (f : Forest) → IsGrove f → runs_of (length p) (from_path p (here c ++ rows_in f)) ≡ own_run p c ++ child_runs p f
unfolding runs_of
runs_at p None f grove = runs_in p f grove
runs_at p (Some c) f grove =
    ap (with_row (length p) (record { path = p ++ []; cell = c })) (runs_in p f grove)
    ∙ alone (length p) (record { path = p ++ []; cell = c }) None (child_runs p f) (slice_get-behind p []) (apart_own p f grove)

-- no step leads on from a node's own row
no_step : (p : List Step) (c : Cell) → next_step (length p) (record { path = p ++ []; cell = c }) ≡ None
no_step p c = slice_get-behind p []

-- ---- values

-- the first row's cell
first_row : (table : SchemaTable) (n : ℕ) (p : List Step) (c : Option Cell) (kids : Forest) → IsGrove kids → leaf_json table n (from_path p (here c ++ rows_in kids)) ≡ leaf_value table n (first_cell c kids)
first_row table n p (Some c) kids grove = refl
first_row table n p None bare grove = refl
first_row table n p None (grown x s c kids rest) grove =
    let (row, rows, is) = has_rows c kids grove.0.1 grove.1.0 in
    let one : leaf_json table n (from_path p (below x (here c ++ rows_in kids) ++ rows_in rest)) ≡ leaf_json table n (row ∷ rows) = ap (λ (l : List Row). leaf_json table n (from_path p (below x l ++ rows_in rest))) is in
    let two : leaf_json table n (from_path p (here c ++ rows_in kids)) ≡ leaf_json table n (row ∷ rows) = ap (λ (l : List Row). leaf_json table n (from_path p l)) is in
    one ∙ sym two ∙ first_row table n p c kids grove.1.0

module _ (table : SchemaTable) (f : Writer) (g : Teller) where
  -- what is written for the rows of a node is its value
  abbrev Tells : Type 0
  Tells = (n : ℕ) (p : List Step) (t : Tree) → IsGrove t.kids → f n (length p) (from_path p (rows_of t)) ≡ g n t

  more_rows : (tells : Tells) (n : ℕ) (p : List Step) (x : Step) (t : Tree) → IsGrove t.kids → f n (length p + 1) (from_path (p ++ x ∷ []) (rows_of t)) ≡ g n t
  more_rows tells n p x t grove = ap (λ k. f n k (from_path (p ++ x ∷ []) (rows_of t))) (sym (length-more p x)) ∙ tells n (p ++ x ∷ []) t grove

  module _ (tells : Tells) where
    member_same : (parent : Option ℕ) (p : List Step) (ms : Members) (x : Step) (t : Tree) → IsGrove t.kids → with_member table parent f (length p) ms (Some x) (from_path (p ++ x ∷ []) (rows_of t)) ≡ with_child table parent g ms x t
    member_same parent p ms (Node n) t grove = ap (λ (d : Data). put (member_name table parent n) d ms) (more_rows tells n p (Node n) t grove)
    member_same parent p ms (Key values) t grove = refl
    member_same parent p ms (Item value) t grove = refl

    members_fold : (parent : Option ℕ) (p : List Step) (ms : Members) (kids : Forest) → IsGrove kids
        → fold (with_run table parent f (length p)) ms (child_runs p kids) ≡ fold (λ ms (e : Step × Tree). with_child table parent g ms e.0 e.1) ms (pairs kids)
    members_fold parent p ms bare grove = refl
    members_fold parent p ms (grown x s c kids rest) grove =
        let t : Tree = record { stamp = s; cell = c; kids = kids } in
        let run : List Row = from_path (p ++ x ∷ []) (rows_of t) in
        let one : with_run table parent f (length p) ms run ≡ with_child table parent g ms x t =
        ap (λ o. with_member table parent f (length p) ms o run) (step_of_child p x c kids grove.0.1 grove.1.0) ∙ member_same parent p ms x t grove.1.0 in
        ap (λ m. fold (with_run table parent f (length p)) m (child_runs p rest)) one ∙ members_fold parent p (with_child table parent g ms x t) rest grove.1.1

    own_member : (parent : Option ℕ) (p : List Step) (c : Option Cell) (kids : Forest)
        → fold (with_run table parent f (length p)) no_members (own_run p c ++ child_runs p kids) ≡ fold (with_run table parent f (length p)) no_members (child_runs p kids)
    own_member parent p None kids = refl
    own_member parent p (Some c) kids =
        let run : List Row = record { path = p ++ []; cell = c } ∷ [] in
        ap (λ o. fold (with_run table parent f (length p)) (with_member table parent f (length p) no_members o run) (child_runs p kids)) (no_step p c)

    pub members_same : (parent : Option ℕ) (p : List Step) (t : Tree) → IsGrove t.kids → members_json table parent f (length p) (from_path p (rows_of t)) ≡ members_value table parent g t
    members_same parent p t grove =
        ap (λ runs. object (fold (with_run table parent f (length p)) no_members runs)) (runs_at p t.cell t.kids grove)
        ∙ ap object (own_member parent p t.cell t.kids ∙ members_fold parent p no_members t.kids grove)

    entry_same : (n : ℕ) (p : List Step) (x : Step) (t : Tree) → IsGrove t.kids → entry_json table n f (length p) (Some x) (from_path (p ++ x ∷ []) (rows_of t)) ≡ entry_value table n g x t
    entry_same n p (Node m) t grove = refl
    entry_same n p (Key values) t grove =
        let e = ap (λ (k : ℕ). members_json table (Some n) f k (from_path (p ++ Key values ∷ []) (rows_of t))) (sym (length-more p (Key values))) ∙ members_same (Some n) (p ++ Key values ∷ []) t grove in
        ap (λ d. d ∷ []) e
    entry_same n p (Item value) t grove = refl

    entries_fold : (n : ℕ) (p : List Step) (kids : Forest) → IsGrove kids → entries_json table n f (length p) (child_runs p kids) ≡ entries_values table n g (pairs kids)
    entries_fold n p bare grove = refl
    entries_fold n p (grown x s c kids rest) grove =
        let t : Tree = record { stamp = s; cell = c; kids = kids } in
        let run : List Row = from_path (p ++ x ∷ []) (rows_of t) in
        let one : entry_json table n f (length p) (step_of (length p) run) run ≡ entry_value table n g x t =
        ap (λ o. entry_json table n f (length p) o run) (step_of_child p x c kids grove.0.1 grove.1.0) ∙ entry_same n p x t grove.1.0 in
        (λ i. one i ++ entries_fold n p rest grove.1.1 i)

    own_entry : (n : ℕ) (p : List Step) (c : Option Cell) (kids : Forest) → entries_json table n f (length p) (own_run p c ++ child_runs p kids) ≡ entries_json table n f (length p) (child_runs p kids)
    own_entry n p None kids = refl
    own_entry n p (Some c) kids =
        let run : List Row = record { path = p ++ []; cell = c } ∷ [] in
        ap (λ o. entry_json table n f (length p) o run ++ entries_json table n f (length p) (child_runs p kids)) (no_step p c)

    entries_same : (n : ℕ) (p : List Step) (t : Tree) → IsGrove t.kids → entries_json table n f (length p) (runs_of (length p) (from_path p (rows_of t))) ≡ entries_values table n g (pairs t.kids)
    entries_same n p t grove = ap (entries_json table n f (length p)) (runs_at p t.cell t.kids grove) ∙ own_entry n p t.cell t.kids ∙ entries_fold n p t.kids grove

-- ---- leaf-lists

items_fold : (table : SchemaTable) (n : ℕ) (p : List Step) (kids : Forest) → IsGrove kids → items_json table n (length p) (child_runs p kids) ≡ items_values table n (pairs kids)
items_fold table n p bare grove = refl
items_fold table n p (grown x s c kids rest) grove =
    let one = ap (item_json table n) (step_of_child p x c kids grove.0.1 grove.1.0) in
    (λ i. one i ++ items_fold table n p rest grove.1.1 i)

own_item : (table : SchemaTable) (n : ℕ) (p : List Step) (c : Option Cell) (kids : Forest) → items_json table n (length p) (own_run p c ++ child_runs p kids) ≡ items_json table n (length p) (child_runs p kids)
own_item table n p None kids = refl
own_item table n p (Some c) kids = ap (λ o. item_json table n o ++ items_json table n (length p) (child_runs p kids)) (no_step p c)

items_same : (table : SchemaTable) (n : ℕ) (p : List Step) (t : Tree) → IsGrove t.kids → items_json table n (length p) (runs_of (length p) (from_path p (rows_of t))) ≡ items_values table n (pairs t.kids)
items_same table n p t grove = ap (items_json table n (length p)) (runs_at p t.cell t.kids grove) ∙ own_item table n p t.cell t.kids ∙ items_fold table n p t.kids grove

-- ---- nodes and trees

pub node_same : (levels : ℕ) (table : SchemaTable) → Tells table (node_json levels table) (node_value table levels)
unfolding node_json node_value
node_same zero table = λ n p t grove. refl
node_same (suc levels) table = λ n p t grove.
    let below = node_same levels table in
    (λ i.
    if is_kind is_leaf table n then first_row table n p t.cell t.kids grove i
    else if is_kind is_leaf_list table n then array (items_of (items_same table n p t grove i))
    else if is_kind is_list table n then array (items_of (entries_same table (node_json levels table) (node_value table levels) below n p t grove i))
    else members_same table (node_json levels table) (node_value table levels) below (Some n) p t grove i)

under-root : (rows : List Row) → under rows [] ≡ rows
under-root [] = refl
under-root (row ∷ rows) = ap (λ rest. row ∷ rest) (under-root rows)

-- what is written for the rows of a tree
pub tree_same : (table : SchemaTable) (t : Tree) → IsGrove t.kids → write_data table [] (rows_of t) ≡ members_value table None (node_value table 32) t
tree_same table t grove =
    ap (members_json table None (node_json 32 table) 0) (under-root (rows_of t) ∙ sym (from_path-root (rows_of t)))
    ∙ members_same table (node_json 32 table) (node_value table 32) (node_same 32 table) None [] t grove

-- ---- the first cell, from the first child

abbrev first_of : List (Step × Tree) → Option Cell
first_of [] = None
first_of (e ∷ es) = first_cell e.1.cell e.1.kids

pub first_of_child : (c : Option Cell) (kids : Forest) (cs : List (Bor Child)) (child : Bor Child) → c ≡ None → seen cs ≡ pairs kids → 1 ≤ length cs → child ≡ get_or cs 0 child
    → first_cell c kids ≡ first_cell child.now.node.value.cell child.now.node.value.kids
first_of_child c kids [] child none same l at = absurd (omega arith)
first_of_child c bare (d ∷ cs) child none same l at = cc
first_of_child c (grown x s k below rest) (d ∷ cs) child none same l at =
    ap (λ o. first_cell o (grown x s k below rest)) none ∙ sym (ap first_of same) ∙ sym (ap (λ (b : Bor Child). first_cell b.now.node.value.cell b.now.node.value.kids) at)
