-- The substatements of statements: the profile allows them there.
use Rattle.std.proofs.Common.{◌≡◌, ℕ, zero, suc, ◌+◌, ◌-◌, ◌<◌, Bool, true, false, not, ◌&&◌, IsTrue, List, [], ◌∷◌, ◌++◌, fold, take, length, Option, Some, None, refl, sym, ap, ◌∙◌, subst, inl, inr, arith, append_assoc, append-nil}
use Rattle.std.specs.Prelude.{◌||◌, is_none, option_map, if◌then◌else◌}
use Rattle.std.specs.List.{list_all, flat_map, enumerate_from, slice_get}
use Rattle.std.specs.Option.{option_map_or}
use Rattle.std.proofs.lemmas.Bool.{cases_Bool, or_left, or_right}
use Rattle.sal_stmt.specs.declared.stmt.Stmt.{Stmt, out-Stmt}
use Rattle.sal_module.specs.declared.keyword.Keyword.{Keyword}
use Rattle.sal_module.specs.declared.keyword.Keyword.TheVariants as word
use Rattle.sal_module.specs.Keywords.{keyword_of, word_of, words}
use Rattle.sal_module.specs.Profile.{is_prefixed, allows, allows_keyword, is_judged, tree_faults, module_faults, sub_faults}
use Rattle.sal_module.specs.Statements.{is_named, subs_of}
use Rattle.sal_module.specs.Table.{rule_of, rule_at}
use Rattle.sal_module.specs.Table as table
use Rattle.sal_module.proofs.Levels.{below}
use Rattle.sal_grouping.proofs.Parts.{TreeRow}
use Rattle.sal_grouping.specs.Growth.{is_node}
use Rattle.sal_grouping.specs.Rows.{part_of, part_among, row_of, with_row, with_rows, rows_of, top_of, is_keyword, keyword_at}
use Rattle.sal_schema.proofs.Conjuncts.{and_first, and_second}
use Rattle.sal_build.proofs.NamedModules.{rule-named}
use Rattle.sal_build.proofs.NamedNodes.{rule_given, rule-by}
use Rattle.sal_build.proofs.OwnStatements.{part-is, not-extension, split-quiet, subs-quiet, sub-judged, module-quiet}
use Rattle.sal_build.proofs.Quiet.{both, front-nil}
use Rattle.sal_build.proofs.Shapes.{all-joined}
use Rattle.sal_build.proofs.Entries.{wrong}

-- ---- the substatements that a statement can have

-- a leaf or a leaf-list
abbrev pub is_leafy : Option Keyword → Bool
is_leafy (Some word.Leaf) = true
is_leafy (Some word.LeafList) = true
is_leafy keyword = false

-- an RPC or a notification
abbrev pub is_call : Option Keyword → Bool
is_call (Some word.Rpc) = true
is_call (Some word.Notification) = true
is_call keyword = false

-- a node, or what brings some
abbrev pub adds : Option Keyword → Bool
adds (Some word.Uses) = true
adds keyword = is_node keyword

-- Cases are in choices and augments, RPCs and notifications in modules, and leafs have no nodes.
abbrev pub can_stand : Option Keyword → Option Keyword → Bool
can_stand parent child =
    ((not (is_keyword word.Case child) || (is_keyword word.Choice parent || is_keyword word.Augment parent)) && (not (is_call child) || is_keyword word.Module parent)) && (not (adds child) || not (is_leafy parent))

abbrev holds_word : Keyword → Keyword → Bool
holds_word parent child = allows_keyword (rule_given (Some parent)) (Some child)

case-parent : (parent : Keyword) → holds_word parent word.Case ≡ true → IsTrue (is_keyword word.Choice (Some parent) || is_keyword word.Augment (Some parent))
unfolding rule_at table.rows
case-parent word.Choice e = refl
case-parent word.Augment e = refl
case-parent parent e = absurd (wrong e)

rpc-parent : (parent : Keyword) → holds_word parent word.Rpc ≡ true → IsTrue (is_keyword word.Module (Some parent))
unfolding rule_at table.rows
rpc-parent word.Module e = refl
rpc-parent parent e = absurd (wrong e)

notification-parent : (parent : Keyword) → holds_word parent word.Notification ≡ true → IsTrue (is_keyword word.Module (Some parent))
unfolding rule_at table.rows
notification-parent word.Module e = refl
notification-parent parent e = absurd (wrong e)

leaf-adds : (child : Keyword) → holds_word word.Leaf child ≡ true → IsTrue (not (adds (Some child)))
unfolding rule_at table.rows
leaf-adds word.Container e = absurd (wrong e)
leaf-adds word.Leaf e = absurd (wrong e)
leaf-adds word.LeafList e = absurd (wrong e)
leaf-adds word.List e = absurd (wrong e)
leaf-adds word.Choice e = absurd (wrong e)
leaf-adds word.Case e = absurd (wrong e)
leaf-adds word.Rpc e = absurd (wrong e)
leaf-adds word.Notification e = absurd (wrong e)
leaf-adds word.Uses e = absurd (wrong e)
leaf-adds child e = refl

leaf-list-adds : (child : Keyword) → holds_word word.LeafList child ≡ true → IsTrue (not (adds (Some child)))
unfolding rule_at table.rows
leaf-list-adds word.Container e = absurd (wrong e)
leaf-list-adds word.Leaf e = absurd (wrong e)
leaf-list-adds word.LeafList e = absurd (wrong e)
leaf-list-adds word.List e = absurd (wrong e)
leaf-list-adds word.Choice e = absurd (wrong e)
leaf-list-adds word.Case e = absurd (wrong e)
leaf-list-adds word.Rpc e = absurd (wrong e)
leaf-list-adds word.Notification e = absurd (wrong e)
leaf-list-adds word.Uses e = absurd (wrong e)
leaf-list-adds child e = refl

case-stands : (parent child : Keyword) → holds_word parent child ≡ true → IsTrue (not (is_keyword word.Case (Some child)) || (is_keyword word.Choice (Some parent) || is_keyword word.Augment (Some parent)))
case-stands parent word.Case e = case-parent parent e
case-stands parent child e = refl

call-stands : (parent child : Keyword) → holds_word parent child ≡ true → IsTrue (not (is_call (Some child)) || is_keyword word.Module (Some parent))
call-stands parent word.Rpc e = rpc-parent parent e
call-stands parent word.Notification e = notification-parent parent e
call-stands parent child e = refl

leaf-stands : (parent child : Keyword) → holds_word parent child ≡ true → IsTrue (not (adds (Some child)) || not (is_leafy (Some parent)))
leaf-stands word.Leaf child e = or_left (not (adds (Some child))) false (leaf-adds child e)
leaf-stands word.LeafList child e = or_left (not (adds (Some child))) false (leaf-list-adds child e)
leaf-stands parent child e = or_right (not (adds (Some child))) true refl

held-stands : (parent child : Keyword) → holds_word parent child ≡ true → IsTrue (can_stand (Some parent) (Some child))
held-stands parent child e =
    let cases = not (is_keyword word.Case (Some child)) || (is_keyword word.Choice (Some parent) || is_keyword word.Augment (Some parent)) in
    let calls = not (is_call (Some child)) || is_keyword word.Module (Some parent) in
    both (cases && calls) (not (adds (Some child)) || not (is_leafy (Some parent))) (both cases calls (case-stands parent child e) (call-stands parent child e)) (leaf-stands parent child e)

judged-stands : (parent sub : Stmt) (outer inner : Keyword) → keyword_of (out-Stmt parent).keyword ≡ Some outer → keyword_of (out-Stmt sub).keyword ≡ Some inner → is_judged parent sub ≡ true → IsTrue (can_stand (Some outer) (Some inner))
judged-stands parent sub outer inner at_outer at_inner judged =
    let placed = and_first (not (is_prefixed (out-Stmt sub).keyword) && allows (rule_of (out-Stmt parent).keyword) (out-Stmt sub).keyword) (not (is_named word.Extension parent)) judged in
    let allowed : allows (rule_of (out-Stmt parent).keyword) (out-Stmt sub).keyword ≡ true = and_second (not (is_prefixed (out-Stmt sub).keyword)) (allows (rule_of (out-Stmt parent).keyword) (out-Stmt sub).keyword) placed in
    let rule : rule_of (out-Stmt parent).keyword ≡ rule_given (Some outer) = rule-by (out-Stmt parent).keyword ∙ ap rule_given at_outer in
    let given : allows_keyword (rule_given (Some outer)) (Some inner) ≡ true = sym (λ i. allows_keyword (rule i) (at_inner i)) ∙ allowed in
    held-stands outer inner given

-- ---- rows

-- A row without parent is a module, and any other one is where its keyword is allowed.
abbrev pub is_held : List TreeRow → TreeRow → Bool
is_held rows row = option_map_or (λ b. option_map_or (λ (above : TreeRow). can_stand (Some above.keyword) (Some row.keyword)) (slice_get rows b) false) row.around (is_keyword word.Module (Some row.keyword))

abbrev pub AreHeld : List TreeRow → Type 0
AreHeld rows = IsTrue (list_all (is_held rows) rows)

pub got-front : {X : Type 0} (xs ys : List X) (k : ℕ) (x : X) → slice_get xs k ≡ Some x → slice_get (xs ++ ys) k ≡ Some x
got-front [] ys k x e = cc
got-front (z ∷ xs) ys zero x e = e
got-front (z ∷ xs) ys (suc k) x e = got-front xs ys k x e

pub got-last : {X : Type 0} (xs : List X) (x : X) → slice_get (xs ++ x ∷ []) (length xs) ≡ Some x
got-last [] x = refl
got-last (y ∷ xs) x = got-last xs x

held-front : (rows more : List TreeRow) (row : TreeRow) → IsTrue (is_held rows row) → IsTrue (is_held (rows ++ more) row)
held-front rows more row h =
    elim row.around as (λ o. IsTrue (option_map_or (λ b. option_map_or (λ (above : TreeRow). can_stand (Some above.keyword) (Some row.keyword)) (slice_get rows b) false) o (is_keyword word.Module (Some row.keyword)))
    → IsTrue (option_map_or (λ b. option_map_or (λ (above : TreeRow). can_stand (Some above.keyword) (Some row.keyword)) (slice_get (rows ++ more) b) false) o (is_keyword word.Module (Some row.keyword)))) [
      | None ↦ λ h. h
      | Some b ↦
          (elim (slice_get rows b) as (λ o. slice_get rows b ≡ o → IsTrue (option_map_or (λ (above : TreeRow). can_stand (Some above.keyword) (Some row.keyword)) o false)
          → IsTrue (option_map_or (λ (above : TreeRow). can_stand (Some above.keyword) (Some row.keyword)) (slice_get (rows ++ more) b) false)) [
            | None ↦ λ at h. absurd (wrong h)
            | Some above ↦ λ at h.
                subst (λ (o : Option TreeRow). IsTrue (option_map_or (λ (above : TreeRow). can_stand (Some above.keyword) (Some row.keyword)) o false)) (sym (got-front rows more b above at)) h
          ] refl)
    ] h

all-front : (rows more some : List TreeRow) → IsTrue (list_all (is_held rows) some) → IsTrue (list_all (is_held (rows ++ more)) some)
all-front rows more [] h = refl
all-front rows more (row ∷ some) h =
    both (is_held (rows ++ more) row) (list_all (is_held (rows ++ more)) some) (held-front rows more row (and_first (is_held rows row) (list_all (is_held rows) some) h)) (all-front rows more some (and_second (is_held rows row) (list_all (is_held rows) some) h))

one-held : (rows : List TreeRow) (row : TreeRow) → AreHeld rows → IsTrue (is_held rows row) → AreHeld (rows ++ row ∷ [])
one-held rows row h k =
    all-joined (is_held (rows ++ row ∷ [])) rows (row ∷ []) (all-front rows (row ∷ []) rows h) (both (is_held (rows ++ row ∷ []) row) true (held-front rows (row ∷ []) row k) refl)

-- ---- of a statement and its substatements

-- rows that were allowed, with others after them
record Holds (rows result : List TreeRow) : Type 0 where
  more : List TreeRow
  is : result ≡ rows ++ more
  held : AreHeld result

module _ (m : ℕ) where
  -- the row of a statement would be allowed among these
  abbrev WouldStand : List TreeRow → Option ℕ → Stmt → Type 0
  WouldStand rows around stmt = (keyword : Keyword) → part_of stmt ≡ Some keyword → IsTrue (is_held rows (row_of m around stmt keyword))

  row-holds : (around : Option ℕ) (rows : List TreeRow) (stmt : Stmt) (keyword : Option Keyword) → part_of stmt ≡ keyword → WouldStand rows around stmt → AreHeld rows → Holds rows (with_row m around rows stmt keyword)
  row-holds around rows stmt None e stands h = record { more = []; is = sym (append-nil rows); held = h }
  row-holds around rows stmt (Some keyword) e stands h = record { more = row_of m around stmt keyword ∷ []; is = refl; held = one-held rows (row_of m around stmt keyword) h (stands keyword e) }

  sub-stands : (rows : List TreeRow) (b : ℕ) (above : TreeRow) (parent sub : Stmt) → slice_get rows b ≡ Some above → keyword_of (out-Stmt parent).keyword ≡ Some above.keyword → (is_none (part_of sub) ≡ false → is_judged parent sub ≡ true)
      → WouldStand rows (Some b) sub
  sub-stands rows b above parent sub at outer judged keyword e =
      subst (λ (o : Option TreeRow). IsTrue (option_map_or (λ (above : TreeRow). can_stand (Some above.keyword) (Some keyword)) o false)) (sym at)
      (judged-stands parent sub above.keyword keyword outer (part-is (keyword_of (out-Stmt sub).keyword) keyword e) (judged (ap is_none e)))

  fold-holds : (levels b : ℕ) (above : TreeRow) (parent : Stmt) → is_named word.Extension parent ≡ false → keyword_of (out-Stmt parent).keyword ≡ Some above.keyword
      → ((rows : List TreeRow) (sub : Stmt) → (is_none (part_of sub) ≡ false → tree_faults m levels sub ≡ []) → WouldStand rows (Some b) sub → AreHeld rows → Holds rows (with_rows levels m (Some b) rows sub))
      → (rows : List TreeRow) (subs : List Stmt) → slice_get rows b ≡ Some above → flat_map (sub_faults m parent (rule_of (out-Stmt parent).keyword)) subs ≡ [] → flat_map (below m levels parent) subs ≡ [] → AreHeld rows
      → Holds rows (fold (λ front sub. with_rows levels m (Some b) front sub) rows subs)
  fold-holds levels b above parent plain outer each rows [] at allowed quiet h = record { more = []; is = sym (append-nil rows); held = h }
  fold-holds levels b above parent plain outer each rows (sub ∷ subs) at allowed quiet h =
      let (here, others) = front-nil (sub_faults m parent (rule_of (out-Stmt parent).keyword) sub) (flat_map (sub_faults m parent (rule_of (out-Stmt parent).keyword)) subs) allowed in
      let (level, rest) = front-nil (below m levels parent sub) (flat_map (below m levels parent) subs) quiet in
      let judged = λ (some : is_none (part_of sub) ≡ false). sub-judged m parent sub plain some here in
      let deep = λ (some : is_none (part_of sub) ≡ false). (rw (sub-judged m parent sub plain some here) at level) in
      let one = each rows sub deep (sub-stands rows b above parent sub at outer judged) h in
      let next = with_rows levels m (Some b) rows sub in
      let still : slice_get next b ≡ Some above = ap (λ (xs : List TreeRow). slice_get xs b) one.is ∙ got-front rows one.more b above at in
      let later = fold-holds levels b above parent plain outer each next subs still others rest one.held in
      record { more = one.more ++ later.more; is = later.is ∙ ap (λ (xs : List TreeRow). xs ++ later.more) one.is ∙ append_assoc rows one.more later.more; held = later.held }

  tree-holds : (levels : ℕ) (around : Option ℕ) (rows : List TreeRow) (stmt : Stmt) → (is_none (part_of stmt) ≡ false → tree_faults m levels stmt ≡ []) → WouldStand rows around stmt → AreHeld rows → Holds rows (with_rows levels m around rows stmt)
  unfolding with_rows
  tree-holds zero around rows stmt quiet stands h = row-holds around rows stmt (part_of stmt) refl stands h
  tree-holds (suc levels) around rows stmt quiet stands h =
      elim (part_of stmt) as (λ p. part_of stmt ≡ p → Holds rows (if is_none p then rows else fold (λ below sub. with_rows levels m (Some (length rows)) below sub) (with_row m around rows stmt p) (subs_of stmt))) [
        | None ↦ λ e. record { more = []; is = sym (append-nil rows); held = h }
        | Some keyword ↦ λ e.
            let some : is_none (part_of stmt) ≡ false = ap is_none e in
            let (level, rest) = split-quiet m levels stmt (quiet some) in
            let plain = not-extension stmt some in
            let row = row_of m around stmt keyword in
            let first = one-held rows row h (stands keyword e) in
            let inner = fold-holds levels (length rows) row stmt plain (part-is (keyword_of (out-Stmt stmt).keyword) keyword e) (λ front sub deep stand held. tree-holds levels (Some (length rows)) front sub deep stand held)
            (rows ++ row ∷ []) (subs_of stmt) (got-last rows row) (subs-quiet m stmt plain level) rest first in
            record { more = (row ∷ []) ++ inner.more; is = inner.is ∙ append_assoc rows (row ∷ []) inner.more; held = inner.held }
      ] refl

-- ---- rows that stay where they are

pub fold-stable : {X : Type 0} (step : List TreeRow → X → List TreeRow) (k : ℕ) (row : TreeRow) → ((rows : List TreeRow) (x : X) → slice_get rows k ≡ Some row → slice_get (step rows x) k ≡ Some row) → (rows : List TreeRow) (xs : List X)
    → slice_get rows k ≡ Some row → slice_get (fold step rows xs) k ≡ Some row
fold-stable step k row each rows [] at = at
fold-stable step k row each rows (x ∷ xs) at = fold-stable step k row each (step rows x) xs (each rows x at)

row-stable : (m : ℕ) (around : Option ℕ) (rows : List TreeRow) (stmt : Stmt) (keyword : Option Keyword) (k : ℕ) (row : TreeRow) → slice_get rows k ≡ Some row → slice_get (with_row m around rows stmt keyword) k ≡ Some row
row-stable m around rows stmt None k row at = at
row-stable m around rows stmt (Some keyword) k row at = got-front rows (row_of m around stmt keyword ∷ []) k row at

pub tree-stable : (m levels : ℕ) (around : Option ℕ) (rows : List TreeRow) (stmt : Stmt) (k : ℕ) (row : TreeRow) → slice_get rows k ≡ Some row → slice_get (with_rows levels m around rows stmt) k ≡ Some row
unfolding with_rows
tree-stable m zero around rows stmt k row at = row-stable m around rows stmt (part_of stmt) k row at
tree-stable m (suc levels) around rows stmt k row at = elim (cases_Bool (is_none (part_of stmt))) [
  | inl none ↦ rw none at
  | inr some ↦
      rw some
      (fold-stable (λ below sub. with_rows levels m (Some (length rows)) below sub) k row (λ below sub here. tree-stable m levels (Some (length rows)) below sub k row here) (with_row m around rows stmt (part_of stmt)) (subs_of stmt)
      (row-stable m around rows stmt (part_of stmt) k row at))
]

-- a statement has the first of its rows
tree-first : (m levels : ℕ) (around : Option ℕ) (rows : List TreeRow) (stmt : Stmt) (keyword : Keyword) → 0 < levels → part_of stmt ≡ Some keyword → slice_get (with_rows levels m around rows stmt) (length rows) ≡ Some (row_of m around stmt keyword)
unfolding with_rows
tree-first m zero around rows stmt keyword h e = absurd (omega arith)
tree-first m (suc levels) around rows stmt keyword h e =
    let row = row_of m around stmt keyword in
    rw e
    (fold-stable (λ below sub. with_rows levels m (Some (length rows)) below sub) (length rows) row (λ below sub here. tree-stable m levels (Some (length rows)) below sub (length rows) row here) (rows ++ row ∷ []) (subs_of stmt)
    (got-last rows row))

-- ---- of all modules

module-word : part_among (keyword_of (word_of word.Module)) ≡ Some word.Module
unfolding keyword_of word_of words
module-word = refl

module-part : (stmt : Stmt) → is_named word.Module stmt ≡ true → part_of stmt ≡ Some word.Module
module-part stmt e = ap (λ w. part_among (keyword_of w)) (rule-named word.Module stmt e) ∙ module-word

module-named : (m : ℕ) (stmt : Stmt) → module_faults m stmt ≡ [] → is_named word.Module stmt ≡ true
unfolding module_faults
module-named m stmt e = elim (cases_Bool (is_named word.Module stmt)) [ inl t ↦ t | inr f ↦ (let no = rw f at e in cc) ]

module-stands : (m : ℕ) (rows : List TreeRow) (stmt : Stmt) → module_faults m stmt ≡ [] → WouldStand m rows None stmt
module-stands m rows stmt quiet keyword e =
    let is : Some word.Module ≡ Some keyword = sym (module-part stmt (module-named m stmt quiet)) ∙ e in
    let same : word.Module ≡ keyword = cc in
    subst (λ (k : Keyword). IsTrue (is_keyword word.Module (Some k))) same refl

module-holds : (m : ℕ) (rows : List TreeRow) (stmt : Stmt) → module_faults m stmt ≡ [] → AreHeld rows → Holds rows (with_rows 64 m None rows stmt)
module-holds m rows stmt quiet h = tree-holds m 64 None rows stmt (λ some. module-quiet m stmt quiet) (module-stands m rows stmt quiet) h

modules-hold : (n : ℕ) (stmts : List Stmt) (rows : List TreeRow) → flat_map (λ (e : ℕ × Stmt). module_faults e.0 e.1) (enumerate_from n stmts) ≡ [] → AreHeld rows
    → Holds rows (fold (λ rows (e : ℕ × Stmt). with_rows 64 e.0 None rows e.1) rows (enumerate_from n stmts))
modules-hold n [] rows quiet h = record { more = []; is = sym (append-nil rows); held = h }
modules-hold n (stmt ∷ stmts) rows quiet h =
    let (here, others) = front-nil (module_faults n stmt) (flat_map (λ (e : ℕ × Stmt). module_faults e.0 e.1) (enumerate_from (n + 1) stmts)) quiet in
    let one = module-holds n rows stmt here h in
    let later = modules-hold (n + 1) stmts (with_rows 64 n None rows stmt) others one.held in
    record { more = one.more ++ later.more; is = later.is ∙ ap (λ (xs : List TreeRow). xs ++ later.more) one.is ∙ append_assoc rows one.more later.more; held = later.held }

pub rows-held : (stmts : List Stmt) → flat_map (λ (e : ℕ × Stmt). module_faults e.0 e.1) (enumerate_from 0 stmts) ≡ [] → AreHeld (rows_of stmts)
rows-held stmts quiet = (modules-hold 0 stmts [] quiet refl).held

-- a module begins with its row
modules-first : (n : ℕ) (stmts : List Stmt) (rows : List TreeRow) (m : ℕ) → m < length stmts → flat_map (λ (e : ℕ × Stmt). module_faults e.0 e.1) (enumerate_from n stmts) ≡ []
    → keyword_at (fold (λ rows (e : ℕ × Stmt). with_rows 64 e.0 None rows e.1) rows (enumerate_from n stmts)) (length (fold (λ rows (e : ℕ × Stmt). with_rows 64 e.0 None rows e.1) rows (enumerate_from n (take m stmts)))) ≡ Some word.Module
modules-first n [] rows m h quiet = absurd (omega arith)
modules-first n (stmt ∷ stmts) rows zero h quiet =
    let (here, others) = front-nil (module_faults n stmt) (flat_map (λ (e : ℕ × Stmt). module_faults e.0 e.1) (enumerate_from (n + 1) stmts)) quiet in
    let first = tree-first n 64 None rows stmt word.Module (omega arith) (module-part stmt (module-named n stmt here)) in
    let later = fold-stable (λ rows (e : ℕ × Stmt). with_rows 64 e.0 None rows e.1) (length rows) (row_of n None stmt word.Module) (λ below e at. tree-stable e.0 64 None below e.1 (length rows) (row_of n None stmt word.Module) at)
    (with_rows 64 n None rows stmt) (enumerate_from (n + 1) stmts) first in
    ap (λ (o : Option TreeRow). option_map (λ (row : TreeRow). row.keyword) o) later
modules-first n (stmt ∷ stmts) rows (suc m) h quiet =
    let (here, others) = front-nil (module_faults n stmt) (flat_map (λ (e : ℕ × Stmt). module_faults e.0 e.1) (enumerate_from (n + 1) stmts)) quiet in
    modules-first (n + 1) stmts (with_rows 64 n None rows stmt) m (omega arith) others

pub top-keyword : (stmts : List Stmt) → flat_map (λ (e : ℕ × Stmt). module_faults e.0 e.1) (enumerate_from 0 stmts) ≡ [] → (m : ℕ) → m < length stmts → keyword_at (rows_of stmts) (top_of stmts m) ≡ Some word.Module
top-keyword stmts quiet m h = modules-first 0 stmts [] m h quiet
