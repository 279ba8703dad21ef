-- One operation more.
use Rattle.std.proofs.Common.{◌≡◌, ℕ, zero, suc, ◌<◌, length, get_or, arith, Bool, true, false, ◌&&◌, IsTrue, List, [], ◌∷◌, ◌++◌, None, sym, refl, ap, subst, ◌∙◌}
use Rattle.std.proofs.lemmas.Bool.{and_parts}
use Rattle.std.proofs.lemmas.List.{append_assoc, append-nil}
use Rattle.std.proofs.lemmas.List.Folds.{list_any-append}
use Rattle.std.specs.Prelude.{◌||◌, not, if◌then◌else◌, Option, Some, IfSome, Result, Ok, Err, OnOk, OnErr}
use Rattle.std.specs.List.{list_all}
use Rattle.sal_types.specs.declared.value.Store.{Store}
use Rattle.sal_types.specs.declared.value.Step.{Step}
use Rattle.sal_types.specs.declared.row.Row.{Row}
use Rattle.sal_types.specs.Prefix.{is_prefix}
use Rattle.sal_types.specs.Tree.{cell, under}
use Rattle.sal_types.specs.declared.value.Cell.{Cell}
use Rattle.sal_rows.specs.declared.op.Act.{Act}
use Rattle.sal_rows.specs.declared.op.Act.TheVariants.{Put, Merge, Delete, Read}
use Rattle.sal_rows.specs.declared.op.Op.{Op}
use Rattle.sal_rows.specs.declared.outcome.Mode.{Mode}
use Rattle.sal_rows.specs.declared.outcome.Mode.TheVariants.{Ro, Wo, Rw, Checked}
use Rattle.sal_rows.specs.Apply.{same_store, act_setting, cell_by, cell_after, apply_ops, is_read, rows_of_act, setting}
use Rattle.sal_rows.specs.Reads.{is_known, read_of, recorded}
use Rattle.sal_rows.specs.Touch.{touches, op_touches}
use Rattle.sal_rows.proofs.Applied.{cell_after_push, cell-apply_ops, apply_ops-unique, IsAscending-apply_ops, setting-same, setting-other}
use Rattle.sal_node.specs.Tree.{Tree, IsGrove}
use Rattle.sal_tree.specs.Follows.{Follows, exactly}
use Rattle.sal_tree.specs.Rows.{rows_of}
use Rattle.sal_tree.specs.Touched.{act_touches}
use Rattle.sal_tree.proofs.Cells.{ascending-rows_of}
use Rattle.sal_tree.proofs.Commits.{Follows-next, itself}
use Rattle.sal_tree.proofs.Follows.{Follows-by, Follows-same}
use Rattle.sal_tree.proofs.Parts.{filter-all}
use Rattle.sal_tree.proofs.Touches.{read-touches}
use Rattle.sal_tree.specs.declared.commit.Pair.{Pair}
use Rattle.sal_schema.specs.declared.table.SchemaTable.{SchemaTable}
use Rattle.sal_schema.specs.Fitting.{fits, row_fits}
use Rattle.sal_schema.specs.Paths.{fits_path}
use Rattle.sal_rules.specs.Refusals.{refusal}
use Rattle.sal_rules.specs.declared.fault.TxFault.{TxFault}
use Rattle.sal_rules.specs.declared.fault.TxFault.TheVariants.{WriteOnly, NotConfig, KeyLeaf, ParentMissing, RootPath, NoMemory}
use Rattle.sal_tx.specs.Views.{after_read, after_refusal, records_reads, IsAfter, IsRight, HasOneMore, IsSeen, IsView, AreLawful, LieBelow, Shows, refused, rows_in, tree_in, stamp_of, with_tree}
use Rattle.sal_rules.specs.Writes.{IsForSchema}
use Rattle.sal_tx.specs.declared.writing.Writing.{Writing}
use Rattle.sal_types.specs.declared.value.Store.TheVariants.{Config, Oper}

-- the tree of the operation's store
pub IsAfter-more : (stamp : ℕ) (ops : List Op) (op : Op) (base view next : Tree) → IsGrove base.kids → IsGrove view.kids → IsGrove next.kids
    → same_store op.store op.store ≡ true → IsAfter stamp op.store ops base view
    → ((r : List Step) → cell (rows_of next) r ≡ cell_by (act_setting op.path op.act r) (cell (rows_of view) r))
    → Follows (exactly stamp) (act_touches (rows_of view) op.path op.act) view next
    → IsAfter stamp op.store (ops ++ op ∷ []) base next
IsAfter-more stamp ops op base view next g h k same was cells stamps = record {
  rows = apply_ops-unique (rows_of base) op.store (ops ++ op ∷ []) (rows_of next) (ascending-rows_of next k) (λ r.
      cells r
      ∙ ap (λ x. cell_by x (cell (rows_of view) r)) (sym (setting-same op.store op r same))
      ∙ ap (λ rows. cell_by (setting op.store op r) (cell rows r)) was.rows
      ∙ ap (cell_by (setting op.store op r)) (cell-apply_ops (rows_of base) op.store ops r)
      ∙ sym (cell_after_push (rows_of base) op.store ops op r));
  stamps = Follows-next (exactly stamp) op.store ops op base view next g h same was.stamps stamps;
}

quiet : (b d : Bool) → b ≡ false → d ≡ (d || (b || false))
quiet true d e = cc
quiet false true e = refl
quiet false false e = refl

-- a tree of a store that the operation does not set and does not touch
IsAfter-still : (stamp : ℕ) (store : Store) (ops : List Op) (op : Op) (base view : Tree) → ((r : List Step) → setting store op r ≡ None)
    → ((q : List Step) → (same_store op.store store && op_touches (rows_of base) op q) ≡ false)
    → IsAfter stamp store ops base view → IsAfter stamp store (ops ++ op ∷ []) base view
IsAfter-still stamp store ops op base view none untouched was = record {
  rows = was.rows ∙ apply_ops-unique (rows_of base) store (ops ++ op ∷ []) (apply_ops (rows_of base) store ops) (IsAscending-apply_ops (rows_of base) store ops) (λ r.
      cell-apply_ops (rows_of base) store ops r
      ∙ ap (λ x. cell_by x (cell_after (rows_of base) store ops r)) (sym (none r))
      ∙ sym (cell_after_push (rows_of base) store ops op r));
  stamps = Follows-by (exactly stamp) (touches (rows_of base) store ops) (touches (rows_of base) store (ops ++ op ∷ [])) base view (λ q.
      quiet (same_store op.store store && op_touches (rows_of base) op q) (touches (rows_of base) store ops q) (untouched q)
      ∙ sym (list_any-append (λ (o : Op). same_store o.store store && op_touches (rows_of base) o q) ops (op ∷ []))) was.stamps;
}

-- the tree of the other store
pub IsAfter-other : (stamp : ℕ) (store : Store) (ops : List Op) (op : Op) (base view : Tree) → same_store op.store store ≡ false
    → IsAfter stamp store ops base view → IsAfter stamp store (ops ++ op ∷ []) base view
IsAfter-other stamp store ops op base view other was =
    IsAfter-still stamp store ops op base view (λ r. setting-other store op r other) (λ q. ap (λ b. b && op_touches (rows_of base) op q) other) was

either_way : (x : Option (Option Cell)) (b : Bool) → (if b then x else x) ≡ x
either_way x true = refl
either_way x false = refl

both_false : (a b : Bool) → b ≡ false → (a && b) ≡ false
both_false true b e = e
both_false false b e = refl

-- each tree after a read
pub IsAfter-read : (stamp : ℕ) (store : Store) (ops : List Op) (s : Store) (p : List Step) (base view : Tree) → IsAfter stamp store ops base view
    → IsAfter stamp store (ops ++ read_of s p ∷ []) base view
IsAfter-read stamp store ops s p base view was =
    IsAfter-still stamp store ops (read_of s p) base view (λ r. either_way None (same_store s store))
    (λ q. both_false (same_store s store) (op_touches (rows_of base) (read_of s p) q) (read-touches (rows_of base) p q)) was

-- no operation yet
pub IsAfter-none : (stamp : ℕ) (store : Store) (base : Tree) → IsGrove base.kids → IsAfter stamp store [] base base
IsAfter-none stamp store base g = record {
  rows = apply_ops-unique (rows_of base) store [] (rows_of base) (ascending-rows_of base g) (λ r. refl);
  stamps = Follows-same (exactly stamp) base;
}

-- operations that are lawful, and one more
pub AreLawful-more : (table : SchemaTable) (base : Pair) (earlier ops : List Op) (op : Op) → AreLawful table base earlier ops
    → (is_read op.act ≡ false → IsForSchema table op × (refusal table (apply_ops (rows_in base op.store) op.store (earlier ++ ops)) op ≡ None)) → AreLawful table base earlier (ops ++ op ∷ [])
AreLawful-more table base earlier [] op lawful may =
    (λ e. ((may e).0, ap (λ os. refusal table (apply_ops (rows_in base op.store) op.store os) op) (sym (append-nil earlier)) ∙ (may e).1), tt)
AreLawful-more table base earlier (o ∷ ops) op lawful may = (
  lawful.0,
  AreLawful-more table base (earlier ++ o ∷ []) ops op lawful.1 (λ e.
      ((may e).0, ap (λ os. refusal table (apply_ops (rows_in base op.store) op.store os) op) (append_assoc earlier (o ∷ []) ops) ∙ (may e).1)),
)

-- ---- rows that fit are under their path

all_lie : (table : SchemaTable) (p : List Step) (all rows : List Row) → list_all (row_fits table p all) rows ≡ true → list_all (λ (row : Row). is_prefix p row.path) rows ≡ true
all_lie table p all [] h = refl
all_lie table p all (row ∷ rows) h =
    let here = (and_parts (row_fits table p all row) (list_all (row_fits table p all) rows) h).0 in
    let lies : is_prefix p row.path ≡ true = (and_parts (fits_path table row.path) (is_prefix p row.path) (and_parts _ _ (and_parts _ _ here).0).0).1 in
    ap (λ b. b && list_all (λ (r : Row). is_prefix p r.path) rows) lies ∙ all_lie table p all rows (and_parts (row_fits table p all row) _ h).1

pub lie_under : (table : SchemaTable) (p : List Step) (rows : List Row) → IsTrue (fits table p rows) → under rows p ≡ rows
lie_under table p rows h = filter-all (λ (row : Row). is_prefix p row.path) rows (all_lie table p rows rows h)

-- the rows of an act are below its path if those of a write fit there
lie_act : (table : SchemaTable) (p : List Step) (act : Act) → (is_read act ≡ false → IsTrue (fits table p (rows_of_act act))) → under (rows_of_act act) p ≡ rows_of_act act
lie_act table p (Put rows) h = lie_under table p rows (h refl)
lie_act table p (Merge rows) h = lie_under table p rows (h refl)
lie_act table p Delete h = refl
lie_act table p Read h = refl

-- the rows of lawful operations are below their paths
pub lie_below : (table : SchemaTable) (base : Pair) (earlier ops : List Op) → AreLawful table base earlier ops → LieBelow ops
lie_below table base earlier [] l = tt
lie_below table base earlier (op ∷ ops) l = (lie_act table op.path op.act (λ e. (l.0 e).0.rows), lie_below table base (earlier ++ op ∷ []) ops l.1)

pub LieBelow-at : (ops : List Op) (i : ℕ) (op : Op) → LieBelow ops → i < length ops → op ≡ get_or ops i op → under (rows_of_act op.act) op.path ≡ rows_of_act op.act
LieBelow-at [] i op lie short at = absurd (omega arith)
LieBelow-at (o ∷ ops) zero op lie short at = rw at lie.0
LieBelow-at (o ∷ ops) (suc i) op lie short at = LieBelow-at ops i op lie.1 (omega (arith, short)) at

-- ---- what a transaction sees

seen_in : (stamp : ℕ) (ops : List Op) (base view : Pair) → IsSeen stamp ops base view → (s : Store) → IsAfter stamp s ops (tree_in base s) (tree_in view s)
seen_in stamp ops base view seen Config = seen.config
seen_in stamp ops base view seen Oper = seen.oper

pub shows : (stamp : ℕ) (ops : List Op) (base view : Pair) → IsSeen stamp ops base view → Shows base ops view
shows stamp ops base view seen Config = seen.config.rows
shows stamp ops base view seen Oper = seen.oper.rows

-- of a view that was made
pub shown_if : (w : Writing) (o : Option Pair) → IfSome o (IsView w) → IfSome o (Shows w.base w.changes)
shown_if w None has = tt
shown_if w (Some view) has = shows (stamp_of w.begun.place) w.changes w.base view has

-- no operation yet
pub IsSeen-none : (stamp : ℕ) (base view : Pair) → view ≡ base → IsGrove base.config.kids → IsGrove base.oper.kids → IsSeen stamp [] base view
IsSeen-none stamp base view same g h = rw same (record { config = IsAfter-none stamp Config base.config g; oper = IsAfter-none stamp Oper base.oper h })

-- and one more, by the tree of its store
pub IsSeen-more : (stamp : ℕ) (ops : List Op) (op : Op) (base view : Pair) (next : Tree) → IsGrove (tree_in base op.store).kids → IsGrove (tree_in view op.store).kids → IsGrove next.kids
    → ((r : List Step) → cell (rows_of next) r ≡ cell_by (act_setting op.path op.act r) (cell (rows_in view op.store) r))
    → Follows (exactly stamp) (act_touches (rows_in view op.store) op.path op.act) (tree_in view op.store) next
    → IsSeen stamp ops base view → IsSeen stamp (ops ++ op ∷ []) base (with_tree view op.store next)
IsSeen-more stamp ops op base view next g h k cells stamps seen = more op.store refl
  where
    now : IsAfter stamp op.store (ops ++ op ∷ []) (tree_in base op.store) next
    now = IsAfter-more stamp ops op (tree_in base op.store) (tree_in view op.store) next g h k (itself op.store) (seen_in stamp ops base view seen op.store) cells stamps

    after : (s : Store) → op.store ≡ s → IsAfter stamp s (ops ++ op ∷ []) (tree_in base s) next
    after s here = let P : Store → Type 0 = λ t. IsAfter stamp t (ops ++ op ∷ []) (tree_in base t) next in subst P here now

    more : (s : Store) → op.store ≡ s → IsSeen stamp (ops ++ op ∷ []) base (with_tree view s next)
    more Config here = record {
      config = after Config here;
      oper = IsAfter-other stamp Oper ops op base.oper view.oper (ap (λ s. same_store s Oper) here) seen.oper;
    }
    more Oper here = record {
      config = IsAfter-other stamp Config ops op base.config view.config (ap (λ s. same_store s Config) here) seen.config;
      oper = after Oper here;
    }

-- ---- one write

-- the rows that a write is looked at over: of the base, for the first one
pub rows-first : (w : Writing) (store : Store) (tree : Tree) → w.changes ≡ [] → tree ≡ tree_in w.base store → IsGrove tree.kids → rows_of tree ≡ apply_ops (rows_in w.base store) store w.changes
rows-first w store tree none is g = (IsAfter-none 0 store tree g).rows ∙ (λ i. apply_ops (rows_of (is i)) store (sym none i))

-- and of the view
pub rows-seen : (w : Writing) (view : Pair) (store : Store) (tree : Tree) → IsView w view → tree ≡ tree_in view store → rows_of tree ≡ apply_ops (rows_in w.base store) store w.changes
rows-seen w view store tree seen is = ap rows_of is ∙ shows (stamp_of w.begun.place) w.changes w.base view seen store

-- one more operation is lawful
pub IsRight-more : (w v : Writing) (op : Op) → IsRight w → IsForSchema w.begun.schema.value op → refused w op ≡ None
    → v ≡ record { begun = w.begun; mode = w.mode; base = w.base; changes = w.changes ++ op ∷ [] } → IsRight v
IsRight-more w v op right good allowed of = rw of (record {
  writes = right.writes;
  low = right.low;
  lawful = AreLawful-more w.begun.schema.value w.base [] w.changes op right.lawful (λ e. (good, allowed));
})

pub one_more : (w v : Writing) (op : Op) → IsRight w → IsForSchema w.begun.schema.value op → refused w op ≡ None
    → v ≡ record { begun = w.begun; mode = w.mode; base = w.base; changes = w.changes ++ op ∷ [] } → (refused w op ≡ None) × HasOneMore w op v
one_more w v op right good allowed of =
    (allowed, (ap (λ (x : Writing). x.changes) of, ap (λ (x : Writing). x.begun) of, ap (λ (x : Writing). x.mode) of, ap (λ (x : Writing). x.base) of, IsRight-more w v op right good allowed of))

-- ---- one read

-- in another mode than `Checked`, and where the path is known, nothing changes
pub read_known : (w : Writing) (s : Store) (p : List Step) → (records_reads w.mode && not (is_known w.changes s p)) ≡ false → w ≡ after_read s p w
read_known w s p e = ap (λ (ops : List Op). record { begun = w.begun; mode = w.mode; base = w.base; changes = ops }) (sym (same w.mode e))
  where
    same : (mode : Mode) → (records_reads mode && not (is_known w.changes s p)) ≡ false → recorded mode s p w.changes ≡ w.changes
    same Ro e = refl
    same Wo e = refl
    same Rw e = refl
    same Checked e = elim (is_known w.changes s p) as (λ b. not b ≡ false → (if b then w.changes else w.changes ++ read_of s p ∷ []) ≡ w.changes) [ true ↦ λ f. refl | false ↦ λ f. absurd (let wrong : true ≡ false = f in cc) ] e

-- and else it is one operation more
pub read_more : (w : Writing) (s : Store) (p : List Step) → (records_reads w.mode && not (is_known w.changes s p)) ≡ true
    → record { begun = w.begun; mode = w.mode; base = w.base; changes = w.changes ++ read_of s p ∷ [] } ≡ after_read s p w
read_more w s p e = ap (λ (ops : List Op). record { begun = w.begun; mode = w.mode; base = w.base; changes = ops }) (sym (more w.mode e))
  where
    more : (mode : Mode) → (records_reads mode && not (is_known w.changes s p)) ≡ true → recorded mode s p w.changes ≡ w.changes ++ read_of s p ∷ []
    more Ro e = absurd (let wrong : true ≡ false = sym e in cc)
    more Wo e = absurd (let wrong : true ≡ false = sym e in cc)
    more Rw e = absurd (let wrong : true ≡ false = sym e in cc)
    more Checked e = elim (is_known w.changes s p) as (λ b. not b ≡ true → (if b then w.changes else w.changes ++ read_of s p ∷ []) ≡ w.changes ++ read_of s p ∷ []) [ true ↦ λ f. absurd (let wrong : true ≡ false = sym f in cc) | false ↦ λ f. refl ] e

read_right : (w : Writing) (s : Store) (p : List Step) → IsRight w → IsRight (record { begun = w.begun; mode = w.mode; base = w.base; changes = w.changes ++ read_of s p ∷ [] })
read_right w s p right = record {
  writes = right.writes;
  low = right.low;
  lawful = AreLawful-more w.begun.schema.value w.base [] w.changes (read_of s p) right.lawful (λ e. absurd (let wrong : true ≡ false = e in cc));
}

read_seen : (w : Writing) (s : Store) (p : List Step) (view : Pair) → IsView w view → IsView (record { begun = w.begun; mode = w.mode; base = w.base; changes = w.changes ++ read_of s p ∷ [] }) view
read_seen w s p view seen = record {
  config = IsAfter-read (stamp_of w.begun.place) Config w.changes s p w.base.config view.config seen.config;
  oper = IsAfter-read (stamp_of w.begun.place) Oper w.changes s p w.base.oper view.oper seen.oper;
}

-- what holds of a transaction holds after a read of it
after_by : (P : Writing → Type 0) (w : Writing) (s : Store) (p : List Step) → P w → P (record { begun = w.begun; mode = w.mode; base = w.base; changes = w.changes ++ read_of s p ∷ [] }) → P (after_read s p w)
after_by P w s p known more = elim (records_reads w.mode && not (is_known w.changes s p)) as (λ b. (records_reads w.mode && not (is_known w.changes s p)) ≡ b → P (after_read s p w)) [
  | true ↦ λ e. subst P (read_more w s p e) more
  | false ↦ λ e. subst P (read_known w s p e) known
] refl

pub IsRight-read : (w : Writing) (s : Store) (p : List Step) → IsRight w → IsRight (after_read s p w)
IsRight-read w s p right = after_by IsRight w s p right (read_right w s p right)

pub IsView-read : (w : Writing) (s : Store) (p : List Step) (view : Pair) → IsView w view → IsView (after_read s p w) view
IsView-read w s p view seen = after_by (λ (v : Writing). IsView v view) w s p seen (read_seen w s p view seen)

pub seen_if-read : (w : Writing) (s : Store) (p : List Step) (o : Option Pair) → IfSome o (IsView w) → IfSome o (IsView (after_read s p w))
seen_if-read w s p None has = tt
seen_if-read w s p (Some view) has = IsView-read w s p view has

-- what holds of a transaction, and of the view that was made
abbrev Holds : Option Pair → Writing → Type 0
Holds view w = IsRight w × IfSome view (IsView w)

holds-read : (view : Option Pair) (w : Writing) (s : Store) (p : List Step) → Holds view w → Holds view (after_read s p w)
holds-read view w s p has = (IsRight-read w s p has.0, seen_if-read w s p view has.1)

pub holds-recorded : {E : Type 0} (view : Option Pair) (w v : Writing) (s : Store) (p : List Step) (result : Result (Unit {0}) E) → OnOk result (v ≡ after_read s p w) → OnErr result (v ≡ w) → Holds view w → Holds view v
holds-recorded view w v s p (Ok done) ok err has = subst (Holds view) (sym ok) (holds-read view w s p has)
holds-recorded view w v s p (Err e) ok err has = subst (Holds view) (sym err) has

pub holds-refused : (view : Option Pair) (w v : Writing) (s : Store) (fault : TxFault) → v ≡ after_refusal fault s w → Holds view w → Holds view v
holds-refused view w v s fault is has = subst (Holds view) (sym is) (by fault)
  where
    by : (fault : TxFault) → Holds view (after_refusal fault s w)
    by (ParentMissing path) = holds-read view w s path has
    by WriteOnly = has
    by (NotConfig path) = has
    by (KeyLeaf path) = has
    by RootPath = has
    by NoMemory = has
