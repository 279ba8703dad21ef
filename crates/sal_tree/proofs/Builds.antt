-- A node built of its children, one run of rows after another.
use Rattle.std.proofs.Common.{◌≡◌, ℕ, suc, zero, ◌+◌, ◌-◌, ◌<◌, ◌≤◌, true, false, List, [], ◌∷◌, ◌++◌, ◌&&◌, length, take, drop, get_or, Option, Some, None, refl, ap, sym, ◌∙◌, subst, cond, append_assoc, arith, length-drop}
use Rattle.std.specs.Prelude.{T}
use lib.Dec.{leb}
use Rattle.std.proofs.lemmas.Bool.Decides.{nat_tests}
use Rattle.std.specs.Ordering.{is_lt}
use Rattle.std.specs.declared.cmp.Ordering.TheVariants.{Less}
use Rattle.std.specs.FinMap.{find, is_sorted}
use Rattle.std.specs.FinMap.Entries.{below_all}
use Rattle.std.proofs.lemmas.List.{take-append-drop}
use Rattle.sal_types.specs.declared.value.Step.{Step}
use Rattle.sal_types.specs.declared.value.Cell.{Cell}
use Rattle.sal_types.specs.declared.row.Row.{Row}
use Rattle.sal_types.specs.Order.{step_cmp}
use Rattle.sal_types.specs.Tree.{IsAscending}
use Rattle.sal_types.proofs.Trees.{IsTrue-from_T, T-from_IsTrue}
use Rattle.sal_node.specs.Tree.{Tree, Forest, bare, grown, grove, is_filled, height}
use Rattle.sal_node.proofs.Entries.{pairs-grove, first, second, both, Entries}
use Rattle.sal_tree.specs.Grow.{at}
use Rattle.sal_tree.specs.Follows.{IsStamped}
use Rattle.sal_tree.specs.Rows.{here, below, rows_in, rows_of, from_depth, first_cell, other_rows, is_root, leading}
use Rattle.sal_tree.specs.Built.{IsBuilt}
use Rattle.sal_tree.specs.Whole.{IsWhole}
use Rattle.sal_tree.proofs.Laws.{eq, IsFull, AllFull, grove-made}
use Rattle.sal_tree.proofs.ByChildren.{rows_by, rows_in-pairs, rows_by-append, append_none}
use Rattle.sal_tree.proofs.Heights.{AllLow, low-grove}
use Rattle.sal_tree.proofs.Follows.{some_same}
use Rattle.sal_tree.proofs.Parts.{Rising, rising-take, rising-drop}
use Rattle.sal_tree.proofs.Runs.{root-long, AllBelow, IsAfter, AllAfter, after-drop, below-drop, run-below, run-after, run-some, rising-unbelow, first-others, others-below, others-rising, from_depth-next, from_depth-take, from_depth-drop}

abbrev pub AllStamped : ℕ → Entries → Type 0
AllStamped s [] = Unit {0}
AllStamped s (e ∷ es) = IsStamped s e.1 × AllStamped s es

-- the rows begin with later steps than the entries have
abbrev pub AllEarlier : Entries → List Row → Type 0
AllEarlier [] rows = Unit {0}
AllEarlier (e ∷ es) rows = AllAfter e.0 rows × AllEarlier es rows

-- The entries are the children of the first rows, at depth d + 1, and some rows are left.
pub record IsPartly (s d : ℕ) (all : List Row) (es : Entries) (left : List Row) : Type 0 where
  pub listed : all ≡ rows_by es ++ left
  pub sorted : T (is_sorted step_cmp es)
  pub full : AllFull es
  pub low : AllLow (32 - d) es
  pub stamped : AllStamped s es
  pub earlier : AllEarlier es left
  pub rising : Rising left
  pub lower : AllBelow left

pub partly-none : (s d : ℕ) (rows : List Row) (es : Entries) (left : List Row) → es ≡ [] → left ≡ other_rows rows → IsAscending rows → IsPartly s d (other_rows rows) es left
partly-none s d rows es left none is h = subst (λ (fs : Entries). IsPartly s d (other_rows rows) fs left) (sym none) (record {
  listed = sym is;
  sorted = tt;
  full = tt;
  low = tt;
  stamped = tt;
  earlier = tt;
  rising = subst Rising (sym is) (others-rising rows (T-from_IsTrue _ h));
  lower = subst AllBelow (sym is) (others-below rows (T-from_IsTrue _ h));
})

-- a node with rows is filled
pub filled-rows : (c : Option Cell) (f : Forest) (row : Row) (rows : List Row) → here c ++ rows_in f ≡ row ∷ rows → T (is_filled c f)
filled-rows (Some c) f row rows e = tt
filled-rows None bare row rows e = cc
filled-rows None (grown x s c ks rest) row rows e = tt

-- one more entry at the end
sorted-snoc : (es : Entries) (x : Step) (t : Tree) (row : Row) (rows : List Row) (p : List Step) → row.path ≡ x ∷ p → T (is_sorted step_cmp es) → AllEarlier es (row ∷ rows) → T (is_sorted step_cmp (es ++ (x, t) ∷ []))
sorted-snoc [] x t row rows p e h g = tt
sorted-snoc (f ∷ es) x t row rows p e h g = both _ _ (below-snoc es (first _ (is_sorted step_cmp es) h)) (sorted-snoc es x t row rows p e (second (below_all step_cmp f.0 es) _ h) g.1)
  where
    before : step_cmp f.0 x ≡ Less
    before = let h : IsAfter f.0 (x ∷ p) = subst (IsAfter f.0) e g.0.0 in h

    below-snoc : (fs : Entries) → T (below_all step_cmp f.0 fs) → T (below_all step_cmp f.0 (fs ++ (x, t) ∷ []))
    below-snoc [] h = subst (λ r. T (is_lt r && true)) (sym before) tt
    below-snoc (k ∷ fs) h = both _ _ (first _ _ h) (below-snoc fs (second (is_lt (step_cmp f.0 k.0)) _ h))

full-snoc : (es : Entries) (x : Step) (t : Tree) → AllFull es → IsFull (Some t) → AllFull (es ++ (x, t) ∷ [])
full-snoc [] x t h g = (g, tt)
full-snoc (e ∷ es) x t h g = (h.0, full-snoc es x t h.1 g)

low-snoc : (n : ℕ) (es : Entries) (x : Step) (t : Tree) → AllLow n es → height t.kids + 1 ≤ n → AllLow n (es ++ (x, t) ∷ [])
low-snoc n [] x t h g = (g, tt)
low-snoc n (e ∷ es) x t h g = (h.0, low-snoc n es x t h.1 g)

stamped-snoc : (s : ℕ) (es : Entries) (x : Step) (t : Tree) → AllStamped s es → IsStamped s t → AllStamped s (es ++ (x, t) ∷ [])
stamped-snoc s [] x t h g = (g, tt)
stamped-snoc s (e ∷ es) x t h g = (h.0, stamped-snoc s es x t h.1 g)

earlier-snoc : (es : Entries) (x : Step) (t : Tree) (n : ℕ) (rows : List Row) → AllEarlier es rows → AllAfter x (drop n rows) → AllEarlier (es ++ (x, t) ∷ []) (drop n rows)
earlier-snoc [] x t n rows h g = (g, tt)
earlier-snoc (e ∷ es) x t n rows h g = (after-drop n e.0 rows h.0, earlier-snoc es x t n rows h.1 g)

listed-snoc : (es : Entries) (x : Step) (t : Tree) (n : ℕ) (all rows run : List Row) → all ≡ rows_by es ++ rows → take n rows ≡ below x run → rows_of t ≡ run → all ≡ rows_by (es ++ (x, t) ∷ []) ++ drop n rows
listed-snoc es x t n all rows run was is made =
    was ∙ ap (λ (l : List Row). rows_by es ++ l) (sym (take-append-drop n rows)) ∙ sym (append_assoc (rows_by es) (take n rows) (drop n rows))
    ∙ ap (λ (l : List Row). (rows_by es ++ l) ++ drop n rows) (is ∙ ap (below x) (sym made) ∙ sym (append_none (below x (rows_of t))))
    ∙ ap (λ (l : List Row). l ++ drop n rows) (sym (rows_by-append es ((x, t) ∷ [])))

-- the run of the first row's step is built as one more child
pub partly-more : (s d : ℕ) (all : List Row) (es : Entries) (row : Row) (rest : List Row) (x : Step) (p : List Step) (n : ℕ) (t : Tree) →
    d < 32 → row.path ≡ x ∷ p → n ≡ leading x (row ∷ rest) → IsPartly s d all es (row ∷ rest) → IsBuilt s (d + 1) (from_depth 1 (take n (row ∷ rest))) t
    → IsPartly s d all (es ++ (x, t) ∷ []) (drop n (row ∷ rest))
partly-more s d all es row rest x p n t deep e is partly built = record {
  listed = listed-snoc es x t n all (row ∷ rest) _ partly.listed (subst (λ m. take m (row ∷ rest) ≡ below x (from_depth 1 (take m (row ∷ rest)))) (sym is) (run-below x (row ∷ rest))) built.listed;
  sorted = sorted-snoc es x t row rest p e partly.sorted partly.earlier;
  full = full-snoc es x t partly.full (filled n (subst (λ m. 1 ≤ m) (sym is) (run-some x row rest p e)) built.listed, built.ordered);
  low = low-snoc (32 - d) es x t partly.low (omega (arith, built.low));
  stamped = stamped-snoc s es x t partly.stamped built.stamped;
  earlier = earlier-snoc es x t n (row ∷ rest) partly.earlier (subst (λ m. AllAfter x (drop m (row ∷ rest))) (sym is) (run-after x row rest p e partly.rising));
  rising = rising-drop n (row ∷ rest) partly.rising;
  lower = below-drop n (row ∷ rest) partly.lower;
}
  where
    filled : (m : ℕ) → 1 ≤ m → rows_of t ≡ from_depth 1 (take m (row ∷ rest)) → T (is_filled t.cell t.kids)
    filled zero l h = absurd (omega arith)
    filled (suc m) l h = filled-rows t.cell t.kids _ _ h

-- the rows of the run rise one step further down
pub run-ascending : (x : Step) (rows : List Row) (n d : ℕ) (left : List Row) → left ≡ from_depth d rows → n ≡ leading x left → Rising left → IsAscending (from_depth (d + 1) (take n rows))
run-ascending x rows n d left is run h = IsTrue-from_T _ (subst Rising (sym same) (rising-unbelow x _ (subst Rising below_run (rising-take n left h))))
  where
    below_run : take n left ≡ below x (from_depth 1 (take n left))
    below_run = subst (λ m. take m left ≡ below x (from_depth 1 (take m left))) (sym run) (run-below x left)

    same : from_depth (d + 1) (take n rows) ≡ from_depth 1 (take n left)
    same = from_depth-next d (take n rows) ∙ ap (from_depth 1) (from_depth-take d n rows ∙ ap (take n) (sym is))

-- all runs are built
stamped-kids : (s : ℕ) (es : Entries) (y : Step) (p : List Step) (n : Tree) → AllStamped s es → at (find step_cmp y es) p ≡ Some n → n.stamp ≡ s
stamped-kids s [] y p n h = λ e. let none = at_none p in cc
  where
    at_none : (p : List Step) → at None p ≡ None
    at_none [] = refl
    at_none (x ∷ p) = at_none p
stamped-kids s (f ∷ es) y p n h = elim (eq y f.0) as (λ b. at (cond b (Some f.1) (find step_cmp y es)) p ≡ Some n → n.stamp ≡ s) [ true ↦ λ e. h.0 p n e | false ↦ λ e. stamped-kids s es y p n h.1 e ]

pub built-all : (s d : ℕ) (rows : List Row) (es : Entries) (left : List Row) (c : Option Cell) (t : Tree) → d ≤ 32 → left ≡ [] → c ≡ first_cell rows → t ≡ record { stamp = s; cell = c; kids = grove es } → IsPartly s d (other_rows rows) es left → IsBuilt s d rows t
built-all s d rows es left c t deep none cell is partly = subst (IsBuilt s d rows) (sym is) (record {
  listed =
      ap (λ (l : List Row). here c ++ l) (rows_in-pairs (grove es) ∙ ap rows_by (pairs-grove es) ∙ sym (partly.listed ∙ ap (λ (l : List Row). rows_by es ++ l) none ∙ append_none (rows_by es)))
      ∙ ap (λ o. here o ++ other_rows rows) cell ∙ sym (first-others rows);
  ordered = grove-made es partly.sorted partly.full;
  low = let l = low-grove (32 - d) es partly.low in omega arith;
  stamped = stamps;
})
  where
    stamps : IsStamped s (record { stamp = s; cell = c; kids = grove es })
    stamps [] n e = sym (ap (λ (k : Tree). k.stamp) (some_same _ n e))
    stamps (y ∷ p) n e = stamped-kids s es y p n partly.stamped (ap (λ (fs : Entries). at (find step_cmp y fs) p) (sym (pairs-grove es)) ∙ e)

-- the root
pub built-whole : (s : ℕ) (rows : List Row) (t : Tree) → IsBuilt s 0 rows t → IsWhole t
built-whole s rows t h = record { ordered = h.ordered; low = omega (arith, h.low) }

-- the first of some rows
head_of : (rows : List Row) (row : Row) → 1 ≤ length rows → row ≡ get_or rows 0 row → rows ≡ row ∷ drop 1 rows
head_of [] row l at = absurd (omega arith)
head_of (r ∷ rows) row l at = ap (λ (s : Row). s ∷ rows) (sym at)

head_at : (d : ℕ) (rows : List Row) (row : Row) → 1 ≤ length rows → row ≡ get_or rows 0 row → from_depth d rows ≡ record { path = drop d row.path; cell = row.cell } ∷ from_depth d (drop 1 rows)
head_at d rows row l at = ap (from_depth d) (head_of rows row l at)

pub first-deep : (s d : ℕ) (all : List Row) (es : Entries) (rows : List Row) (row : Row) → 1 ≤ length rows → row ≡ get_or rows 0 row → IsPartly s d all es (from_depth d rows) → d < length row.path
first-deep s d all es rows row l at partly = deeper row.path (subst AllBelow (head_at d rows row l at) partly.lower).0
  where
    deeper : (p : List Step) → is_root (drop d p) ≡ false → d < length p
    deeper p e = elim (leb (length p) d) as (λ b. leb (length p) d ≡ b → d < length p) [
      | true ↦ λ b. let yes = root-long p d (grind (arith, nat_tests)) in cc
      | false ↦ λ b. grind (arith, nat_tests)
    ] refl

pub next-ascending : (s d : ℕ) (all : List Row) (es : Entries) (rows run : List Row) (x : Step) (n : ℕ) → IsPartly s d all es (from_depth d rows) → n ≡ leading x (from_depth d rows) → run ≡ take n rows → IsAscending (from_depth (d + 1) run)
next-ascending s d all es rows run x n partly is e = subst (λ l. IsAscending (from_depth (d + 1) l)) (sym e) (run-ascending x rows n d (from_depth d rows) refl is partly.rising)

pub partly-next : (s d : ℕ) (all : List Row) (es after : Entries) (rows run left : List Row) (row : Row) (x y : Step) (p : List Step) (n : ℕ) (t u : Tree) →
    d < 32 → 1 ≤ length rows → row ≡ get_or rows 0 row → drop d row.path ≡ x ∷ p → n ≡ leading x (from_depth d rows) → run ≡ take n rows → left ≡ drop n rows → y ≡ x → u ≡ t → after ≡ es ++ (y, u) ∷ []
    → IsPartly s d all es (from_depth d rows) → IsBuilt s (d + 1) (from_depth (d + 1) run) t → IsPartly s d all after (from_depth d left)
partly-next s d all es after rows run left row x y p n t u deep l at step is front_is left_is same_step same_node e partly built =
    let first : Row = record { path = drop d row.path; cell = row.cell } in
    let rest : List Row = from_depth d (drop 1 rows) in
    let head : from_depth d rows ≡ first ∷ rest = head_at d rows row l at in
    let more = partly-more s d all es first rest x p n t deep step (is ∙ ap (leading x) head) (subst (IsPartly s d all es) head partly)
    (subst (λ (r : List Row). IsBuilt s (d + 1) r t) (ap (from_depth (d + 1)) front_is ∙ from_depth-next d (take n rows) ∙ ap (from_depth 1) (from_depth-take d n rows ∙ ap (take n) head)) built) in
    subst (λ (fs : Entries). IsPartly s d all fs (from_depth d left)) (sym (e ∙ (λ i. es ++ (same_step i, same_node i) ∷ [])))
    (subst (IsPartly s d all (es ++ (x, t) ∷ [])) (ap (drop n) (sym head) ∙ sym (from_depth-drop d n rows) ∙ ap (from_depth d) (sym left_is)) more)

no_rows : (rows : List Row) → length rows < 1 → rows ≡ []
no_rows [] l = refl
no_rows (r ∷ rows) l = absurd (omega arith)

pub built-end : (s d : ℕ) (rows : List Row) (es : Entries) (left : List Row) (c : Option Cell) (t : Tree) → d ≤ 32 → length left < 1 → c ≡ first_cell (from_depth d rows) → t ≡ record { stamp = s; cell = c; kids = grove es } → IsPartly s d (other_rows (from_depth d rows)) es (from_depth d left) → IsBuilt s d (from_depth d rows) t
built-end s d rows es left c t deep none cell is partly = built-all s d (from_depth d rows) es (from_depth d left) c t deep (ap (from_depth d) (no_rows left none)) cell is partly

pub left-shorter : (d : ℕ) (rows left : List Row) (row : Row) (x : Step) (p : List Step) (n : ℕ) → 1 ≤ length rows → row ≡ get_or rows 0 row → drop d row.path ≡ x ∷ p → n ≡ leading x (from_depth d rows) → left ≡ drop n rows → length left < length rows
left-shorter d rows left row x p n l at step is e =
    let some : 1 ≤ n = subst (λ m. 1 ≤ m) (sym (is ∙ ap (leading x) (head_at d rows row l at))) (run-some x (record { path = drop d row.path; cell = row.cell }) (from_depth d (drop 1 rows)) p step) in
    omega (arith, ap length e, length-drop n rows)
