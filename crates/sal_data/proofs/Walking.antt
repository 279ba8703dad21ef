-- The walk: what is read of members and of entries, the first and those after it.
use Rattle.std.proofs.Common.{◌≡◌, ℕ, ◌+◌, ◌<◌, true, List, [], ◌∷◌, ◌++◌, length, drop, get_or, Option, Some, Result, Ok, Err, ap, sym, ◌∙◌}
use Rattle.std.proofs.lemmas.List.{drop_more}
use Rattle.serde_json.specs.Data.{Data, Items, item, Members, member}
use Rattle.serde_json.specs.View.{view, items_view}
use Rattle.serde_json.specs.declared.value.Value.{Value as Json}
use Rattle.sal_types.specs.declared.value.Step.{Step}
use Rattle.sal_types.specs.declared.value.Step.TheVariants.{Node}
use Rattle.sal_types.specs.declared.value.Cell.TheVariants.{Mark}
use Rattle.sal_types.specs.declared.row.Row.{Row}
use Rattle.sal_types.specs.Reading.{◌>>=◌}
use Rattle.sal_schema.specs.declared.table.SchemaTable.{SchemaTable}
use Rattle.sal_data.specs.declared.fault.DataFault.{DataFault}
use Rattle.sal_data.specs.Members.{member_node}
use Rattle.sal_data.specs.Read.{Reading, followed, marked, longer, one_more, key_step, item_step, node_rows, object_rows, members_rows, entries_rows, items_rows}
use Rattle.sal_data.specs.Walked.{HaveSame, new_entry, member_rows}
use Rattle.sal_data.proofs.Following.{followed-followed, followed-then, after_three, entered-ok, entered-err}

abbrev pub mark_at : List Step → Row
mark_at path = record { path = path; cell = Mark }

-- these rows, and those that are read after them
abbrev pub go_on : Reading → Reading → Reading
go_on now rest = now >>= λ rows. followed rows rest

-- ---- members

pub members-one : (table : SchemaTable) (parent : Option ℕ) (path : List Step) (out : List Row) (name : List ℕ) (json : Data) (ms : Members)
    → followed out (members_rows table parent path (member name json ms)) ≡ go_on (followed out (member_rows table parent path name json)) (members_rows table parent path ms)
members-one table parent path out name json ms =
    ap (followed out) (after_three (member_node table parent path name) (λ n. longer path (Node n)) (λ n below. node_rows table n below json) (λ rows. followed rows (members_rows table parent path ms)))
    ∙ followed-then out (member_rows table parent path name json) (members_rows table parent path ms)

-- ---- entries

module _ (path seen : List Step) (on : List Step → List Step → Reading) where
  abbrev pub enters : Result Step DataFault → Reading
  enters first = first >>= λ step. (longer path step >>= λ below. (one_more seen step below >>= λ now. on below now))

  module _ (keys : List Step) (same : HaveSame keys seen) (first : Result Step DataFault) (step : Step) (is : first ≡ Ok step) where
    pub enters-err : (fault : DataFault) → new_entry keys path step ≡ Err fault → enters first ≡ Err fault
    enters-err fault e = ap enters is ∙ entered-err keys seen step on (same step) (longer path step) fault e

    pub enters-ok : (below : List Step) → new_entry keys path step ≡ Ok below → enters first ≡ on below (step ∷ seen)
    enters-ok below e = ap enters is ∙ entered-ok keys seen step on (same step) (longer path step) below e

module _ (table : SchemaTable) (n : ℕ) (path seen : List Step) (json : Data) (items : Items) (out : List Row) where
  abbrev on_item : List Step → List Step → Reading
  on_item below now = marked true below (items_rows table n path now items)

  abbrev items_all : Reading
  items_all = followed out (items_rows table n path seen (item json items))

  pub items-no_step : (fault : DataFault) → item_step table n path json ≡ Err fault → items_all ≡ Err fault
  items-no_step fault e = ap (λ first. followed out (enters path seen on_item first)) e

  abbrev on_entry : List Step → List Step → Reading
  on_entry below now = marked true below (object_rows table (Some n) below json) >>= λ rows. followed rows (entries_rows table n path now items)

  abbrev entries_all : Reading
  entries_all = followed out (entries_rows table n path seen (item json items))

  pub entries-no_step : (fault : DataFault) → key_step table n path json ≡ Err fault → entries_all ≡ Err fault
  entries-no_step fault e = ap (λ first. followed out (enters path seen on_entry first)) e

  module _ (keys : List Step) (same : HaveSame keys seen) (step : Step) where
    pub items-no_entry : (fault : DataFault) → item_step table n path json ≡ Ok step → new_entry keys path step ≡ Err fault → items_all ≡ Err fault
    items-no_entry fault is e = ap (followed out) (enters-err path seen on_item keys same (item_step table n path json) step is fault e)

    pub items-one : (below : List Step) → item_step table n path json ≡ Ok step → new_entry keys path step ≡ Ok below
        → items_all ≡ followed (out ++ mark_at below ∷ []) (items_rows table n path (step ∷ seen) items)
    items-one below is e =
        ap (followed out) (enters-ok path seen on_item keys same (item_step table n path json) step is below e) ∙ followed-followed out (mark_at below ∷ []) (items_rows table n path (step ∷ seen) items)

    pub entries-no_entry : (fault : DataFault) → key_step table n path json ≡ Ok step → new_entry keys path step ≡ Err fault → entries_all ≡ Err fault
    entries-no_entry fault is e = ap (followed out) (enters-err path seen on_entry keys same (key_step table n path json) step is fault e)

    pub entries-one : (below : List Step) → key_step table n path json ≡ Ok step → new_entry keys path step ≡ Ok below
        → entries_all ≡ go_on (followed (out ++ mark_at below ∷ []) (object_rows table (Some n) below json)) (entries_rows table n path (step ∷ seen) items)
    entries-one below is e =
        ap (followed out) (enters-ok path seen on_entry keys same (key_step table n path json) step is below e)
        ∙ followed-then out (marked true below (object_rows table (Some n) below json)) (entries_rows table n path (step ∷ seen) items)
        ∙ ap (λ now. go_on now (entries_rows table n path (step ∷ seen) items)) (followed-followed out (mark_at below ∷ []) (object_rows table (Some n) below json))

-- ---- the entry at an index

module _ (table : SchemaTable) (n : ℕ) (path seen : List Step) (xs : List Json) (i : ℕ) (x : Json) (inside : i < length xs) (is : x ≡ get_or xs i x) (out : List Row) where
  abbrev others : Items
  others = items_view (drop (i + 1) xs)

  here : drop i xs ≡ x ∷ drop (i + 1) xs
  here = drop_more xs i x inside ∙ ap (λ y. y ∷ drop (i + 1) xs) (sym is)

  module _ (keys : List Step) (same : HaveSame keys seen) (step : Step) where
    pub item-fails : (fault : DataFault) → item_step table n path (view x) ≡ Ok step → new_entry keys path step ≡ Err fault
        → followed out (items_rows table n path seen (items_view (drop i xs))) ≡ Err fault
    item-fails fault first e = ap (λ ys. followed out (items_rows table n path seen (items_view ys))) here ∙ items-no_entry table n path seen (view x) others out keys same step fault first e

    pub item-here : (below : List Step) → item_step table n path (view x) ≡ Ok step → new_entry keys path step ≡ Ok below
        → followed out (items_rows table n path seen (items_view (drop i xs))) ≡ followed (out ++ mark_at below ∷ []) (items_rows table n path (step ∷ seen) others)
    item-here below first e = ap (λ ys. followed out (items_rows table n path seen (items_view ys))) here ∙ items-one table n path seen (view x) others out keys same step below first e

    pub entry-fails : (fault : DataFault) → key_step table n path (view x) ≡ Ok step → new_entry keys path step ≡ Err fault
        → followed out (entries_rows table n path seen (items_view (drop i xs))) ≡ Err fault
    entry-fails fault first e = ap (λ ys. followed out (entries_rows table n path seen (items_view ys))) here ∙ entries-no_entry table n path seen (view x) others out keys same step fault first e

    pub entry-here : (below : List Step) → key_step table n path (view x) ≡ Ok step → new_entry keys path step ≡ Ok below
        → followed out (entries_rows table n path seen (items_view (drop i xs)))
        ≡ go_on (followed (out ++ mark_at below ∷ []) (object_rows table (Some n) below (view x))) (entries_rows table n path (step ∷ seen) others)
    entry-here below first e = ap (λ ys. followed out (entries_rows table n path seen (items_view ys))) here ∙ entries-one table n path seen (view x) others out keys same step below first e
