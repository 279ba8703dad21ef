-- Operations one after another, over the base and over newer trees.
use Rattle.std.proofs.Common.{◌≡◌, ℕ, Bool, true, false, ◌&&◌, not, List, [], ◌∷◌, ◌++◌, take, Option, Some, None, refl, sym, ap, subst, ◌∙◌, append_assoc, append-nil, if◌then◌else◌}
use Rattle.std.specs.Prelude.{is_some, length, option_map, unwrap_or}
use Rattle.std.specs.Option.{option_or}
use Rattle.sal_types.specs.declared.value.Store.{Store}
use Rattle.sal_types.specs.declared.value.Step.{Step}
use Rattle.sal_types.specs.declared.value.Cell.{Cell}
use Rattle.sal_types.specs.declared.row.Row.{Row}
use Rattle.sal_types.specs.Tree.{cell, has}
use Rattle.sal_rows.specs.declared.clash.Clash.{Clash}
use Rattle.sal_rows.specs.declared.clash.Rules.{Rules}
use Rattle.sal_rows.specs.declared.clash.Span.{Span}
use Rattle.sal_rows.specs.declared.op.Act.{Act}
use Rattle.sal_rows.specs.declared.op.Act.TheVariants.{Put, Merge, Delete, Read}
use Rattle.sal_rows.specs.declared.op.Op.{Op}
use Rattle.sal_rows.specs.declared.outcome.ClashKind.TheVariants.{Deleted}
use Rattle.sal_rows.specs.Apply.{same_store, is_read, last_setting, cell_by, apply_ops, rows_of_act}
use Rattle.sal_rows.specs.Clash.{clash_from, leaf_clash, op_clash, parent_clash, path_clash, lost_parent, is_lost, reads_from, tip, last_touch_over}
use Rattle.sal_rows.specs.Clash.{needs_parents}
use Rattle.sal_rows.proofs.Applied.{cell-apply_ops, IsAscending-apply_ops}
use Rattle.sal_schema.specs.declared.table.SchemaTable.{SchemaTable}
use Rattle.sal_schema.specs.Fitting.{has_mark, fits, is_key_leaf, is_root}
use Rattle.sal_schema.specs.Paths.{last_step}
use Rattle.sal_schema.specs.Valid.{IsTable}
use Rattle.sal_rules.specs.declared.fault.TxFault.{TxFault}
use Rattle.sal_rules.specs.declared.fault.TxFault.TheVariants.{RootPath, KeyLeaf, NotConfig, ParentMissing}
use Rattle.sal_rules.specs.Refusals.{missing_parent, missing_of, not_config, or_else, when, refusal}
use Rattle.sal_rules.specs.Writes.{IsForSchema}
use Rattle.sal_history_laws.specs.Laws.{LawfulKeepsClosed, WithoutConflictStaysClosed, WithoutConflictStaysLawful}
use Rattle.sal_history_laws.specs.Lawful.{AreLawful}
use Rattle.sal_history_laws.proofs.Acts.{HasParents, IsAllowed, act_fits}
use Rattle.sal_history_laws.proofs.Fronts.{above_none, none_above, none_by_depth, front_itself}
use Rattle.sal_history_laws.proofs.Standing.{some_there, stands_below, has_where, same_stores, cell-mine, apply-other, apply-read}
use Rattle.sal_history_laws.proofs.Wholes.{AllFit, fits-AllFit, AllFit-fits, AllFit-same, whole-row}
use Rattle.sal_rows.proofs.Quiet.{no_map}

-- ---- an operation that is not refused

pub no_first : (a b : Option TxFault) → or_else a b ≡ None → a ≡ None
no_first None b e = refl
no_first (Some f) b e = cc

pub no_second : (a b : Option TxFault) → or_else a b ≡ None → b ≡ None
no_second None b e = e
no_second (Some f) b e = cc

not_when : (b : Bool) (f : TxFault) → when b f ≡ None → b ≡ false
not_when true f e = cc
not_when false f e = refl

none_first : {X : Type 0} (a b : Option X) → option_or a b ≡ None → a ≡ None
none_first None b e = refl
none_first (Some x) b e = cc

none_second : {X : Type 0} (a b : Option X) → option_or a b ≡ None → b ≡ None
none_second None b e = e
none_second (Some x) b e = cc

module _ (table : SchemaTable) (tree : List Row) (op : Op) (allowed : refusal table tree op ≡ None) where
  rest_one : or_else (when (is_key_leaf table op.path) (KeyLeaf op.path)) (or_else (option_map NotConfig (not_config table op.store op.path (rows_of_act op.act))) (option_map ParentMissing (missing_of table tree op))) ≡ None
  rest_one = no_second (when (is_root op.path) RootPath) _ allowed

  allowed-inside : is_root op.path ≡ false
  allowed-inside = not_when (is_root op.path) RootPath (no_first (when (is_root op.path) RootPath) _ allowed)

  allowed-key : is_key_leaf table op.path ≡ false
  allowed-key = not_when (is_key_leaf table op.path) (KeyLeaf op.path) (no_first (when (is_key_leaf table op.path) (KeyLeaf op.path)) _ rest_one)

  none_missing : missing_of table tree op ≡ None
  none_missing = no_map ParentMissing (missing_of table tree op) (no_second (option_map NotConfig (not_config table op.store op.path (rows_of_act op.act))) _ (no_second (when (is_key_leaf table op.path) (KeyLeaf op.path)) _ rest_one))

  -- the parents of a path that is not refused are there
  allowed-parents : needs_parents op.act ≡ true → HasParents table tree op.path
  allowed-parents needs q inside over out marked =
      let none : missing_parent table tree op.path ≡ None = ap (λ b. if b then missing_parent table tree op.path else None) (sym needs) ∙ none_missing in
      let here = none_above (λ x. has_mark table (last_step x) && not (has tree x)) op.path q none inside over out in
      there (has tree q) (ap (λ b. b && not (has tree q)) (sym marked) ∙ here)
    where
      there : (b : Bool) → (true && not b) ≡ false → b ≡ true
      there true e = refl
      there false e = cc

  op-allowed : IsForSchema table op → IsAllowed table op.path op.act
  op-allowed right = record {
    inside = allowed-inside;
    no_key = allowed-key;
    outside = right.data_path;
    rows = fits-AllFit table op.path (rows_of_act op.act) right.rows;
  }

-- the properties of an operation that is not a read
abbrev IsAllowedOver : SchemaTable → List Row → Op → Type 0
IsAllowedOver table tree op = IsForSchema table op × (refusal table tree op ≡ None)

-- after a read a tree is as it was, and what holds after each other operation holds after each
module _ (table : SchemaTable) (tree : List Row) (s : Store) (earlier : List Op) (op : Op) (closed : AllFit table [] (apply_ops tree s earlier)) where
  read-or : (is_read op.act ≡ false → AllFit table [] (apply_ops tree s (earlier ++ op ∷ []))) → AllFit table [] (apply_ops tree s (earlier ++ op ∷ []))
  read-or written =
      elim (is_read op.act) as (λ b. is_read op.act ≡ b → AllFit table [] (apply_ops tree s (earlier ++ op ∷ []))) [
        | true ↦ λ reads. subst (AllFit table []) (sym (apply-read tree s earlier op reads)) closed
        | false ↦ λ writes. written writes
      ] refl

-- ---- over the base

module _ (table : SchemaTable) (good : IsTable table) (base : Store → List Row) (s : Store) where
  -- one operation more
  base-more : (earlier : List Op) (op : Op) → IsForSchema table op → refusal table (apply_ops (base op.store) op.store earlier) op ≡ None
      → AllFit table [] (apply_ops (base s) s earlier) → AllFit table [] (apply_ops (base s) s (earlier ++ op ∷ []))
  base-more earlier op right allowed closed =
      elim (same_store op.store s) as (λ b. same_store op.store s ≡ b → AllFit table [] (apply_ops (base s) s (earlier ++ op ∷ []))) [
        | true ↦ λ mine.
            let here : refusal table (apply_ops (base s) s earlier) op ≡ None = ap (λ t. refusal table (apply_ops (base t) t earlier) op) (sym (same_stores op.store s mine)) ∙ allowed in
            act_fits table op.path op.act (apply_ops (base s) s earlier) (apply_ops (base s) s (earlier ++ op ∷ [])) good (op-allowed table (apply_ops (base s) s earlier) op here right) closed
            (cell-mine (base s) s earlier op mine) (allowed-parents table (apply_ops (base s) s earlier) op here)
        | false ↦ λ other. subst (AllFit table []) (sym (apply-other (base s) s earlier op other)) closed
      ] refl

  base-next : (earlier : List Op) (op : Op) → (is_read op.act ≡ false → IsAllowedOver table (apply_ops (base op.store) op.store earlier) op) → AllFit table [] (apply_ops (base s) s earlier)
      → AllFit table [] (apply_ops (base s) s (earlier ++ op ∷ []))
  base-next earlier op lawful closed = read-or table (base s) s earlier op closed (λ writes. let (right, allowed) = lawful writes in base-more earlier op right allowed closed)

  base-all : (earlier ops : List Op) → AreLawful table base earlier ops → AllFit table [] (apply_ops (base s) s earlier) → AllFit table [] (apply_ops (base s) s (earlier ++ ops))
  base-all earlier [] lawful closed = subst (λ os. AllFit table [] (apply_ops (base s) s os)) (sym (append-nil earlier)) closed
  base-all earlier (op ∷ ops) lawful closed =
      subst (λ os. AllFit table [] (apply_ops (base s) s os)) (append_assoc earlier (op ∷ []) ops)
      (base-all (earlier ++ op ∷ []) ops lawful.1 (base-next earlier op lawful.0 closed))

-- no operation changes no cell
none_applied : (table : SchemaTable) (tree : List Row) (s : Store) → fits table [] tree ≡ true → AllFit table [] (apply_ops tree s [])
none_applied table tree s closed = AllFit-same table [] tree (apply_ops tree s []) (cell-apply_ops tree s []) (fits-AllFit table [] tree closed)

pub lawful_keeps_closed : LawfulKeepsClosed
lawful_keeps_closed table base ops good closed lawful s =
    AllFit-fits table [] (apply_ops (base s) s ops) (IsAscending-apply_ops (base s) s ops) (base-all table good base s [] ops lawful (none_applied table (base s) s (closed s)))

-- ---- over a newer tree

-- there is a row at or below a marked path exactly if the path has its own row
own_row : (table : SchemaTable) (tree : List Row) (q : List Step) → AllFit table [] tree → has_mark table (last_step q) ≡ true → has tree q ≡ true → (d : Cell) × (cell tree q ≡ Some d)
own_row table tree q closed marked there =
    let (r, c, below, e) = stands_below tree q there in
    some_there (cell tree q) (whole-row table tree q marked ((closed r c e).whole q below refl))

-- the conflict that a lost parent is
abbrev pub lost_clash : (Store → List Row) → List (List Op) → List Span → List Op → Op → ℕ → Clash
lost_clash opening commits spans earlier op d = record { op = length earlier; row = None; depth = d; kind = Deleted; commit = unwrap_or (last_touch_over opening commits spans op.store (take d op.path)) 0 }

module _ (table : SchemaTable) (good : IsTable table) (opening : Store → List Row) (commits : List (List Op)) (base : Store → List Row) (s : Store) (newest : AllFit table [] (tip opening commits s)) where
  -- if no parent is lost, the parents of the path in the transaction's view are in the newer tree
  newer-parents : (earlier : List Op) (p : List Step) → AllFit table [] (apply_ops (base s) s earlier) → lost_parent opening commits base earlier s p ≡ None
      → HasParents table (apply_ops (base s) s earlier) p → HasParents table (apply_ops (tip opening commits s) s earlier) p
  newer-parents earlier p seen none parents q inside over out marked =
      let (d, is) = own_row table (apply_ops (base s) s earlier) q seen marked (parents q inside over out marked) in
      let (c, there) = by (last_setting s earlier q) refl d (sym (cell-apply_ops (base s) s earlier q) ∙ is) in
      has_where (apply_ops (tip opening commits s) s earlier) q q c (cell-apply_ops (tip opening commits s) s earlier q ∙ there) (front_itself q)
    where
      kept : (a b : Bool) → a ≡ true → (a && (not b && not false)) ≡ false → b ≡ true
      kept true true is e = refl
      kept true false is e = cc
      kept false b is e = cc

      by : (set : Option (Option Cell)) → last_setting s earlier q ≡ set → (d : Cell) → cell_by (last_setting s earlier q) (cell (base s) q) ≡ Some d
          → (c : Cell) × (cell_by (last_setting s earlier q) (cell (tip opening commits s) q) ≡ Some c)
      by (Some x) e d is = (d, ap (λ o. cell_by o (cell (tip opening commits s) q)) e ∙ sym (ap (λ o. cell_by o (cell (base s) q)) e) ∙ is)
      by None e d is =
          let stood : is_some (cell (base s) q) ≡ true = ap is_some (sym (ap (λ o. cell_by o (cell (base s) q)) e) ∙ is) in
          let no : (is_some (cell (base s) q) && (not (has (tip opening commits s) q) && not (is_some (last_setting s earlier q)))) ≡ false = none_by_depth (is_lost opening commits base earlier s) p q none inside over out in
          let stands = kept (is_some (cell (base s) q)) (has (tip opening commits s) q) stood (ap (λ o. is_some (cell (base s) q) && (not (has (tip opening commits s) q) && not (is_some o))) (sym e) ∙ no) in
          let (c, there) = own_row table (tip opening commits s) q newest marked stands in
          (c, ap (λ o. cell_by o (cell (tip opening commits s) q)) e ∙ there)

  -- a put or merge without conflict has lost no parent
  none_lost : (rules : Rules) (spans : List Span) (earlier : List Op) (op : Op) → op_clash opening commits rules base spans earlier op ≡ None → needs_parents op.act ≡ true → lost_parent opening commits base earlier op.store op.path ≡ None
  none_lost rules spans earlier op none needs =
      no_map (lost_clash opening commits spans earlier op) (lost_parent opening commits base earlier op.store op.path)
      (by op.act needs (none_first (parent_clash opening commits base spans earlier op) (option_or (path_clash opening commits spans earlier op) (leaf_clash opening commits rules base spans earlier op)) none))
    where
      by : (act : Act) → needs_parents act ≡ true → (if needs_parents act then option_map (lost_clash opening commits spans earlier op) (lost_parent opening commits base earlier op.store op.path) else None) ≡ None
          → option_map (lost_clash opening commits spans earlier op) (lost_parent opening commits base earlier op.store op.path) ≡ None
      by (Put rows) needs e = e
      by (Merge rows) needs e = e
      by Delete needs e = cc
      by Read needs e = cc

  -- one operation more
  newer-more : (rules : Rules) (spans : List Span) (earlier : List Op) (op : Op) → IsForSchema table op → refusal table (apply_ops (base op.store) op.store earlier) op ≡ None
      → op_clash opening commits rules base spans earlier op ≡ None → AllFit table [] (apply_ops (base s) s earlier)
      → AllFit table [] (apply_ops (tip opening commits s) s earlier) → AllFit table [] (apply_ops (tip opening commits s) s (earlier ++ op ∷ []))
  newer-more rules spans earlier op right allowed none seen closed =
      elim (same_store op.store s) as (λ b. same_store op.store s ≡ b → AllFit table [] (apply_ops (tip opening commits s) s (earlier ++ op ∷ []))) [
        | true ↦ λ mine.
            let store = same_stores op.store s mine in
            let here : refusal table (apply_ops (base s) s earlier) op ≡ None = ap (λ t. refusal table (apply_ops (base t) t earlier) op) (sym store) ∙ allowed in
            act_fits table op.path op.act (apply_ops (tip opening commits s) s earlier) (apply_ops (tip opening commits s) s (earlier ++ op ∷ [])) good (op-allowed table (apply_ops (base s) s earlier) op here right) closed
            (cell-mine (tip opening commits s) s earlier op mine)
            (λ needs. newer-parents earlier op.path seen (ap (λ t. lost_parent opening commits base earlier t op.path) (sym store) ∙ none_lost rules spans earlier op none needs) (allowed-parents table (apply_ops (base s) s earlier) op here needs))
        | false ↦ λ other. subst (AllFit table []) (sym (apply-other (tip opening commits s) s earlier op other)) closed
      ] refl

  newer-all : (rules : Rules) (spans : List Span) (earlier ops : List Op) → AreLawful table base earlier ops → clash_from opening commits rules base spans earlier ops ≡ None → AllFit table [] (apply_ops (base s) s earlier)
      → AllFit table [] (apply_ops (tip opening commits s) s earlier) → AllFit table [] (apply_ops (tip opening commits s) s (earlier ++ ops))
  newer-all rules spans earlier [] lawful none seen closed = subst (λ os. AllFit table [] (apply_ops (tip opening commits s) s os)) (sym (append-nil earlier)) closed
  newer-all rules spans earlier (op ∷ ops) lawful none seen closed =
      let here = none_first (op_clash opening commits rules base spans earlier op) (clash_from opening commits rules base spans (earlier ++ op ∷ []) ops) none in
      let rest = none_second (op_clash opening commits rules base spans earlier op) (clash_from opening commits rules base spans (earlier ++ op ∷ []) ops) none in
      subst (λ os. AllFit table [] (apply_ops (tip opening commits s) s os)) (append_assoc earlier (op ∷ []) ops)
      (newer-all rules spans (earlier ++ op ∷ []) ops lawful.1 rest (base-next table good base s earlier op lawful.0 seen)
      (read-or table (tip opening commits s) s earlier op closed (λ writes. let (right, allowed) = lawful.0 writes in newer-more rules spans earlier op right allowed here seen closed)))

pub without_conflict_stays_closed : WithoutConflictStaysClosed
without_conflict_stays_closed table opening commits rules base spans ops good closed newest lawful none s =
    let writes = none_first (clash_from opening commits rules base spans [] ops) (reads_from opening commits spans [] ops) none in
    AllFit-fits table [] (apply_ops (tip opening commits s) s ops) (IsAscending-apply_ops (tip opening commits s) s ops)
    (newer-all table good opening commits base s (fits-AllFit table [] (tip opening commits s) (newest s)) rules spans [] ops lawful writes (none_applied table (base s) s (closed s)) (none_applied table (tip opening commits s) s (newest s)))

-- ---- an operation that was not refused is not refused over the newer trees

-- if all parents are there, none is missing
none_missing_by : (table : SchemaTable) (tree : List Row) (op : Op) → (needs_parents op.act ≡ true → HasParents table tree op.path) → missing_of table tree op ≡ None
none_missing_by table tree op parents =
    elim (needs_parents op.act) as (λ b. needs_parents op.act ≡ b → (if b then missing_parent table tree op.path else None) ≡ None) [
      | true ↦ λ needs. above_none (λ q. has_mark table (last_step q) && not (has tree q)) op.path (λ q inside over out. by q (has_mark table (last_step q)) (parents needs q inside over out))
      | false ↦ λ free. refl
    ] refl
  where
    by : (q : List Step) (b : Bool) → (b ≡ true → has tree q ≡ true) → (b && not (has tree q)) ≡ false
    by q true there = ap not (there refl)
    by q false there = refl

module _ (table : SchemaTable) (good : IsTable table) (opening : Store → List Row) (commits : List (List Op)) (base : Store → List Row) (newest : (s : Store) → AllFit table [] (tip opening commits s)) where
  -- only the parents depend on a tree
  still-allowed : (rules : Rules) (spans : List Span) (earlier : List Op) (op : Op) → op_clash opening commits rules base spans earlier op ≡ None → AllFit table [] (apply_ops (base op.store) op.store earlier)
      → refusal table (apply_ops (base op.store) op.store earlier) op ≡ None → refusal table (apply_ops (tip opening commits op.store) op.store earlier) op ≡ None
  still-allowed rules spans earlier op none seen allowed =
      let view = apply_ops (base op.store) op.store earlier in
      let newer = apply_ops (tip opening commits op.store) op.store earlier in
      let there : missing_of table newer op ≡ None =
      none_missing_by table newer op (λ needs.
      newer-parents table good opening commits base op.store (newest op.store) earlier op.path seen (none_lost table good opening commits base op.store (newest op.store) rules spans earlier op none needs) (allowed-parents table view op allowed needs)) in
      ap (λ (m : Option (List Step)). or_else (when (is_root op.path) RootPath) (or_else (when (is_key_leaf table op.path) (KeyLeaf op.path)) (or_else (option_map NotConfig (not_config table op.store op.path (rows_of_act op.act))) (option_map ParentMissing m))))
      (there ∙ sym (none_missing table view op allowed))
      ∙ allowed

  newer-lawful : (rules : Rules) (spans : List Span) (earlier ops : List Op) → AreLawful table base earlier ops → clash_from opening commits rules base spans earlier ops ≡ None
      → ((s : Store) → AllFit table [] (apply_ops (base s) s earlier)) → AreLawful table (tip opening commits) earlier ops
  newer-lawful rules spans earlier [] lawful none seen = tt
  newer-lawful rules spans earlier (op ∷ ops) lawful none seen =
      let here = none_first (op_clash opening commits rules base spans earlier op) (clash_from opening commits rules base spans (earlier ++ op ∷ []) ops) none in
      let rest = none_second (op_clash opening commits rules base spans earlier op) (clash_from opening commits rules base spans (earlier ++ op ∷ []) ops) none in (
        λ writes. let (right, allowed) = lawful.0 writes in (right, still-allowed rules spans earlier op here (seen op.store) allowed),
        newer-lawful rules spans (earlier ++ op ∷ []) ops lawful.1 rest (λ s. base-next table good base s earlier op lawful.0 (seen s)),
      )

pub without_conflict_stays_lawful : WithoutConflictStaysLawful
without_conflict_stays_lawful table opening commits rules base spans ops good closed newest lawful none =
    let writes = none_first (clash_from opening commits rules base spans [] ops) (reads_from opening commits spans [] ops) none in
    newer-lawful table good opening commits base (λ s. fits-AllFit table [] (tip opening commits s) (newest s)) rules spans [] ops lawful writes (λ s. none_applied table (base s) s (closed s))
