-- A table of more statements, whose nodes grew after those of an older version, has the older nodes and identities at their numbers.
use Rattle.std.proofs.Common.{◌≡◌, ℕ, zero, suc, ◌+◌, ◌<◌, Bool, IsTrue, List, [], ◌∷◌, ◌++◌, length, take, map, filter, Option, Some, None, refl, sym, ap, ◌∙◌, inl, inr, arith, length-append}
use Rattle.std.specs.Prelude.{option_map, option_and_then}
use Rattle.std.specs.List.{list_all, flat_map, slice_get, enumerate_from}
use Rattle.std.proofs.Math.Seq.{take-append_seam}
use Rattle.std.proofs.lemmas.Bool.{cases_Bool}
use Rattle.std.proofs.lemmas.Grind.{flat_map-append}
use Rattle.std.proofs.lemmas.List.{map-append}
use Rattle.std.proofs.lemmas.List.Elements.{filter-append}
use Rattle.sal_stmt.specs.declared.stmt.Stmt.{Stmt}
use Rattle.sal_module.specs.Modules.{stmt_at}
use Rattle.sal_module.specs.Places.{find_at}
use Rattle.sal_module.specs.Statements.{argument_of}
use Rattle.sal_grouping.proofs.Parts.{TreeNode, TreeRow}
use Rattle.sal_grouping.specs.declared.forest.Branch.{Branch}
use Rattle.sal_grouping.specs.Expand.{branch_of, source_of, place_of}
use Rattle.sal_grouping.specs.Rows.{rows_of, keyword_at}
use Rattle.sal_schema.specs.declared.table.SchemaTable.{SchemaTable}
use Rattle.sal_schema.specs.Kinds.{has_type}
use Rattle.sal_schema.specs.Outlines.{Outline, outline, outlines, Label, label, labels, IsPartOf}
use Rattle.sal_schema.specs.Table.{all_from}
use Rattle.sal_schema.specs.Versions.{BeginsWith, table_on}
use Rattle.sal_schema.proofs.Conjuncts.{and_first, and_second}
use Rattle.sal_schema.proofs.Fronts.{both, front-is, on-long, on-mapped}
use Rattle.sal_module_table.specs.Build.{table_of}
use Rattle.sal_module_table.specs.Identities.{Identity, identities_in, identities_of, edges_of}
use Rattle.sal_module_table.specs.Identities as identities
use Rattle.sal_module_table.specs.Nodes.{kind_in, name_in, argument_in}
use Rattle.sal_module_table.specs.Table.{is_typed, infos_from}
use Rattle.sal_module_table.specs.declared.versions.Version.{Version}
use Rattle.sal_module_table.specs.Versions.{version}
use Rattle.sal_build.proofs.Appending.{HasFront}
use Rattle.sal_build.proofs.Built.{forest_by}
use Rattle.sal_build.proofs.Grown.{at-row, rows-of-modules}
use Rattle.sal_build.proofs.NamedNodes.{none-fits}
use Rattle.sal_build.proofs.Numbers.{types-count}
use Rattle.sal_build.proofs.Shapes.{is_seed}
use Rattle.sal_build.proofs.Staged.{IsGrown, row-stays}
use Rattle.sal_build.proofs.Entries.{wrong}

begins : {X : Type 0} (xs front rest : List X) → xs ≡ front ++ rest → BeginsWith xs front
begins xs front rest e = ap (take (length front)) e ∙ take-append_seam front rest

-- ---- the outline of a node

abbrev outline_with : Option Stmt → Branch → Outline
outline_with o b = record { parent = b.parent; kind = kind_in o b.implied; «module» = b.module; name = name_in (kind_in o b.implied) (argument_in o) }

abbrev pub outline_of : List Stmt → Branch → Outline
outline_of stmts b = outline_with (stmt_at stmts b.source b.at) b

abbrev pub label_of : Identity → Label
label_of one = record { «module» = one.0; name = argument_of one.1 }

outlines-from : (stmts : List Stmt) (forest : List Branch) (k : ℕ) (rest : List Branch) → map outline (infos_from stmts forest k rest) ≡ map (outline_of stmts) rest
outlines-from stmts forest k [] = refl
outlines-from stmts forest k (b ∷ rest) = ap (λ l. outline_of stmts b ∷ l) (outlines-from stmts forest (k + 1) rest)

labels-from : (edges : List (List ℕ)) (i : ℕ) (all : List Identity) → map label (identities.infos_from edges i all) ≡ map label_of all
labels-from edges i [] = refl
labels-from edges i (one ∷ all) = ap (λ l. label_of one ∷ l) (labels-from edges (i + 1) all)

-- what is known of a version by its nodes and statements
pub record IsKnown (stmts : List Stmt) (v : Version) : Type 0 where
  pub grown : IsGrown stmts v.growth
  pub nodes : outlines v.table ≡ map (outline_of stmts) (forest_by stmts v.growth)
  pub types : length v.table.types ≡ length (filter (is_typed stmts) (forest_by stmts v.growth))
  pub modules : v.table.modules ≡ map argument_of stmts
  pub identities : labels v.table ≡ map label_of (identities_of stmts)

pub whole-known : (stmts : List Stmt) (nodes : List TreeNode) → IsGrown stmts nodes → IsKnown stmts (version nodes (table_of stmts (forest_by stmts nodes)))
whole-known stmts nodes grown =
    let forest = forest_by stmts nodes in
    record {
      grown = grown;
      nodes = outlines-from stmts forest 0 forest;
      types = types-count stmts forest 0 forest;
      modules = refl;
      identities = labels-from (edges_of stmts) 0 (identities_of stmts);
    }

-- ---- older statements

enumerated : {X : Type 0} (n : ℕ) (xs ys : List X) → enumerate_from n (xs ++ ys) ≡ enumerate_from n xs ++ enumerate_from (n + length xs) ys
enumerated n [] ys = let none : n + 0 ≡ n = omega arith in ap (λ k. enumerate_from k ys) (sym none)
enumerated n (x ∷ xs) ys = let same : n + 1 + length xs ≡ n + length (x ∷ xs) = omega arith in ap (λ l. (n, x) ∷ l) (enumerated (n + 1) xs ys ∙ ap (λ k. enumerate_from (n + 1) xs ++ enumerate_from k ys) same)

got-before : {X : Type 0} (xs ys : List X) (k : ℕ) → k < length xs → slice_get (xs ++ ys) k ≡ slice_get xs k
got-before [] ys k h = absurd (omega arith)
got-before (x ∷ xs) ys zero h = refl
got-before (x ∷ xs) ys (suc k) h = got-before xs ys k (omega arith)

module _ (first rest : List Stmt) where
  abbrev old_rows : List TreeRow
  old_rows = rows_of first

  abbrev all_rows : List TreeRow
  all_rows = rows_of (first ++ rest)

  abbrev is_worded : TreeNode → Bool
  is_worded node = is_seed node.implied (keyword_at old_rows node.row)

  -- the row of a node, and its module
  record IsRow (node : TreeNode) : Type 0 where
    row : TreeRow
    old : slice_get old_rows node.row ≡ Some row
    new : slice_get all_rows node.row ≡ Some row
    inside : row.module < length first

  rowed : (node : TreeNode) → IsTrue (is_worded node) → IsRow node
  rowed node h =
      elim (slice_get old_rows node.row) as (λ o. slice_get old_rows node.row ≡ o → IsTrue (is_seed node.implied (option_map (λ (row : TreeRow). row.keyword) o)) → IsRow node) [
        | None ↦ λ at h. absurd (wrong (sym (none-fits node.implied) ∙ h))
        | Some row ↦ λ at h. record { row = row; old = at; new = row-stays first rest node.row row at; inside = at-row (length first) node.row old_rows row (rows-of-modules first) at }
      ] refl h

  branch-stays : (node : TreeNode) → IsTrue (is_worded node) → branch_of all_rows node ≡ branch_of old_rows node
  branch-stays node h =
      let it = rowed node h in
      ap (λ (o : Option TreeRow). record { parent = node.parent; «module» = node.module; source = source_of o; at = place_of o; implied = node.implied }) (it.new ∙ sym it.old)

  stmt-stays : (node : TreeNode) → IsTrue (is_worded node) → stmt_at (first ++ rest) (branch_of old_rows node).source (branch_of old_rows node).at ≡ stmt_at first (branch_of old_rows node).source (branch_of old_rows node).at
  stmt-stays node h =
      let it = rowed node h in
      let source : (branch_of old_rows node).source ≡ it.row.module = ap source_of it.old in
      let inside : (branch_of old_rows node).source < length first = omega (arith, source, it.inside) in
      ap (option_and_then (find_at 64 (branch_of old_rows node).at)) (got-before first rest (branch_of old_rows node).source inside)

  outline-stays : (node : TreeNode) → IsTrue (is_worded node) → outline_of (first ++ rest) (branch_of all_rows node) ≡ outline_of first (branch_of old_rows node)
  outline-stays node h = ap (outline_of (first ++ rest)) (branch-stays node h) ∙ ap (λ o. outline_with o (branch_of old_rows node)) (stmt-stays node h)

  typed-stays : (node : TreeNode) → IsTrue (is_worded node) → is_typed (first ++ rest) (branch_of all_rows node) ≡ is_typed first (branch_of old_rows node)
  typed-stays node h = ap (λ (o : Outline). has_type o.kind) (outline-stays node h)

  outlines-stay : (nodes : List TreeNode) → IsTrue (list_all is_worded nodes) → map (outline_of (first ++ rest)) (forest_by (first ++ rest) nodes) ≡ map (outline_of first) (forest_by first nodes)
  outlines-stay [] h = refl
  outlines-stay (node ∷ nodes) h =
      let here = outline-stays node (and_first (is_worded node) (list_all is_worded nodes) h) in
      let more = outlines-stay nodes (and_second (is_worded node) (list_all is_worded nodes) h) in
      λ i. here i ∷ more i

  types-stay : (nodes : List TreeNode) → IsTrue (list_all is_worded nodes) → length (filter (is_typed (first ++ rest)) (forest_by (first ++ rest) nodes)) ≡ length (filter (is_typed first) (forest_by first nodes))
  types-stay [] h = refl
  types-stay (node ∷ nodes) h =
      let here = typed-stays node (and_first (is_worded node) (list_all is_worded nodes) h) in
      let more = types-stay nodes (and_second (is_worded node) (list_all is_worded nodes) h) in
      elim (cases_Bool (is_typed first (branch_of old_rows node))) [
        | inl t ↦ rw (here ∙ t, t) (ap suc more)
        | inr f ↦ rw (here ∙ f, f) more
      ]

  worded-all : (nodes : List TreeNode) → IsGrown first nodes → IsTrue (list_all is_worded nodes)
  worded-all nodes g = plain 0 nodes (g.each (λ k node. is_worded node) (λ owner k parent seed h before fit. fit))
    where
      plain : (i : ℕ) (nodes : List TreeNode) → IsTrue (all_from (λ k node. is_worded node) i nodes) → IsTrue (list_all is_worded nodes)
      plain i [] h = refl
      plain i (node ∷ nodes) h = both (is_worded node) (list_all is_worded nodes) (and_first (is_worded node) (all_from (λ k node. is_worded node) (i + 1) nodes) h) (plain (i + 1) nodes (and_second (is_worded node) (all_from (λ k node. is_worded node) (i + 1) nodes) h))

  identities-more : (more : List Identity) × (identities_of (first ++ rest) ≡ identities_of first ++ more)
  identities-more =
      let f = λ (entry : ℕ × Stmt). identities_in entry.0 entry.1 in
      (flat_map f (enumerate_from (0 + length first) rest), ap (flat_map f) (enumerated 0 first rest) ∙ flat_map-append f (enumerate_from 0 first) (enumerate_from (0 + length first) rest))

  -- the table of all statements, over nodes that begin with the older ones
  pub part-of : (older v : Version) → IsKnown first older → IsKnown (first ++ rest) v → HasFront older.growth v.growth → IsPartOf older.table v.table
  part-of older v known all front =
      let stmts = first ++ rest in
      let worded = worded-all older.growth known.grown in
      let forest : forest_by stmts v.growth ≡ forest_by stmts older.growth ++ forest_by stmts front.more = ap (forest_by stmts) front.is ∙ map-append (branch_of all_rows) older.growth front.more in
      let nodes : outlines v.table ≡ outlines older.table ++ map (outline_of stmts) (forest_by stmts front.more) =
      all.nodes ∙ ap (map (outline_of stmts)) forest ∙ map-append (outline_of stmts) (forest_by stmts older.growth) (forest_by stmts front.more)
      ∙ ap (λ l. l ++ map (outline_of stmts) (forest_by stmts front.more)) (outlines-stay older.growth worded ∙ sym known.nodes) in
      let types : length v.table.types ≡ length older.table.types + length (filter (is_typed stmts) (forest_by stmts front.more)) =
      all.types ∙ ap (λ l. length (filter (is_typed stmts) l)) forest ∙ ap length (filter-append (is_typed stmts) (forest_by stmts older.growth) (forest_by stmts front.more))
      ∙ length-append (filter (is_typed stmts) (forest_by stmts older.growth)) (filter (is_typed stmts) (forest_by stmts front.more))
      ∙ ap (λ n. n + length (filter (is_typed stmts) (forest_by stmts front.more))) (types-stay older.growth worded ∙ sym known.types) in
      let modules : v.table.modules ≡ older.table.modules ++ map argument_of rest = all.modules ∙ map-append argument_of first rest ∙ ap (λ l. l ++ map argument_of rest) (sym known.modules) in
      let (more, is) = identities-more in
      let identities : labels v.table ≡ labels older.table ++ map label_of more =
      all.identities ∙ ap (map label_of) is ∙ map-append label_of (identities_of first) more ∙ ap (λ l. l ++ map label_of more) (sym known.identities) in
      record {
        nodes = begins (outlines v.table) (outlines older.table) (map (outline_of stmts) (forest_by stmts front.more)) nodes;
        types = omega (arith, types);
        modules = begins v.table.modules older.table.modules (map argument_of rest) modules;
        identities = begins (labels v.table) (labels older.table) (map label_of more) identities;
      }

-- an older table with the new lines of a whole is known as the whole is
pub on-known : (stmts : List Stmt) (older whole : SchemaTable) (nodes : List TreeNode) → IsPartOf older whole → IsKnown stmts (version nodes whole) → IsKnown stmts (version nodes (table_on older whole))
on-known stmts older whole nodes part known = record {
  grown = known.grown;
  nodes = on-mapped outline older.nodes whole.nodes part.nodes ∙ known.nodes;
  types = on-long older.types whole.types part.types ∙ known.types;
  modules = sym (front-is whole.modules older.modules part.modules) ∙ known.modules;
  identities = on-mapped label older.identities whole.identities part.identities ∙ known.identities;
}
