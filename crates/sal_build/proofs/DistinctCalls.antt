-- Each name of a module names at most one RPC and one notification: they are at the top level, where the tree's pass compares their names.
use Rattle.sal_build.specs.Readable.{has_own_places}
use Rattle.sal_build.proofs.Grown.{AreGrown, built-grown}
use Rattle.std.proofs.Common.{◌≡◌, ℕ, ◌+◌, ◌<◌, Bool, true, false, not, ◌&&◌, IsTrue, List, [], ◌∷◌, take, length, Option, Some, None, refl, sym, ap, ◌∙◌, subst, inl, inr, arith}
use Rattle.std.specs.Prelude.{◌||◌, option_map, unwrap_or, is_none, if◌then◌else◌}
use Rattle.std.specs.List.{list_all, list_any, slice_get}
use Rattle.std.proofs.lemmas.Bool.{cases_Bool}
use Rattle.sal_stmt.specs.declared.stmt.Stmt.{Stmt, out-Stmt}
use Rattle.sal_module.specs.declared.keyword.Keyword.{Keyword}
use Rattle.sal_module.specs.declared.keyword.Keyword.TheVariants as word
use Rattle.sal_module.specs.Keywords.{keyword_of}
use Rattle.sal_module.specs.Modules.{stmt_at}
use Rattle.sal_module.specs.Statements.{argument_of}
use Rattle.sal_grouping.proofs.DataParents.{data-stop}
use Rattle.sal_grouping.proofs.Parts.{TreeNode, TreeRow}
use Rattle.sal_grouping.specs.declared.forest.Implied.{Implied}
use Rattle.sal_grouping.specs.declared.forest.Implied.TheVariants as implied
use Rattle.sal_grouping.specs.Augments as tree
use Rattle.sal_grouping.specs.Children.{data_parent, key_of, same_key, child_faults}
use Rattle.sal_grouping.specs.Expand.{branch_of, source_of, place_of}
use Rattle.sal_grouping.specs.Rows.{is_keyword, keyword_at, rows_of}
use Rattle.sal_schema.specs.declared.kind.Kind.{Kind}
use Rattle.sal_schema.specs.declared.kind.Kind.TheVariants as kinds
use Rattle.sal_schema.specs.declared.names.Named.{Named}
use Rattle.sal_schema.specs.declared.table.SchemaTable.{SchemaTable}
use Rattle.sal_schema.specs.Kinds.{kind_eq}
use Rattle.sal_schema.specs.Names.{is_called, are_distinct, named, name_of_parts, kind_at, kind_names}
use Rattle.sal_schema.specs.Table.{all_from}
use Rattle.sal_schema.proofs.Conjuncts.{and_first, and_second}
use Rattle.sal_module_table.specs.Nodes.{kind_among, kind_in, argument_in, name_in, has}
use Rattle.sal_module_table.specs.Nodes as nodes
use Rattle.sal_module_table.specs.Table.{info_of}
use Rattle.sal_build.specs.Laws.{CallNamesDiffer}
use Rattle.sal_build.proofs.Built.{IsBuiltOn, built_on, nodes_of}
use Rattle.sal_build.proofs.Distinct.{called-same, true-is, all-more, pairwise, pairs, are_apart, distinct-pairs}
use Rattle.sal_build.proofs.DistinctNodes.{each-same, each-infos, all-two, is_fit, nodes-fit, is_fresh, fresh-from, is_double, none-double, is_itself, is_known, known-fresh, same-keys, forest_of, table_over}
use Rattle.sal_build.proofs.HeldRows.{is_call, rows-held}
use Rattle.sal_build.proofs.LoneCalls.{calls-alone, is_alone_in}
use Rattle.sal_build.proofs.NamedNodes.{none-fits}
use Rattle.sal_build.proofs.OwnStatements.{AreOwn, own-rows}
use Rattle.sal_build.proofs.Quiet.{both}
use Rattle.sal_build.proofs.Shapes.{is_before, is_seed, is_shape}
use Rattle.sal_build.proofs.Entries.{wrong}

abbrev and_both : (ℕ → TreeNode → Bool) → (ℕ → TreeNode → ℕ → TreeNode → Bool) → ℕ → TreeNode → ℕ → TreeNode → Bool
and_both good r i x j y = (good i x && good j y) && r i x j y

-- what holds of each node holds of both of a pair
pairwise-both : (good : ℕ → TreeNode → Bool) (r : ℕ → TreeNode → ℕ → TreeNode → Bool) (i : ℕ) (xs : List TreeNode) → IsTrue (all_from good i xs) → IsTrue (pairwise r i xs) → IsTrue (pairwise (and_both good r) i xs)
pairwise-both good r i [] h k = refl
pairwise-both good r i (x ∷ xs) h k =
    let here = and_first (good i x) (all_from good (i + 1) xs) h in
    let later = and_second (good i x) (all_from good (i + 1) xs) h in
    let those = all-two good (r i x) (i + 1) xs later (and_first (all_from (r i x) (i + 1) xs) (pairwise r (i + 1) xs) k) in
    both (all_from (and_both good r i x) (i + 1) xs) (pairwise (and_both good r) (i + 1) xs)
    (all-more (λ j y. good j y && r i x j y) (and_both good r i x) (i + 1) xs (λ j y less h. both (good i x && good j y) (r i x j y) (both (good i x) (good j y) here (and_first (good j y) (r i x j y) h)) (and_second (good j y) (r i x j y) h)) those)
    (pairwise-both good r (i + 1) xs later (and_second (all_from (r i x) (i + 1) xs) (pairwise r (i + 1) xs) k))

all-from : (test : TreeNode → Bool) (k : ℕ) (xs : List TreeNode) → IsTrue (list_all test xs) → IsTrue (all_from (λ k x. test x) k xs)
all-from test k [] h = refl
all-from test k (x ∷ xs) h = both (test x) (all_from (λ k x. test x) (k + 1) xs) (and_first (test x) (list_all test xs) h) (all-from test (k + 1) xs (and_second (test x) (list_all test xs) h))

-- ---- a kind of calls, and the word of its statements

record IsKindOfCalls (kind : Kind) (keyword : Keyword) : Type 0 where
  plain : (presence : Bool) (k : Keyword) → IsTrue (is_shape (Some k)) → kind_eq (kind_among presence (Some k)) kind ≡ is_keyword keyword (Some k)
  cases : kind_eq kinds.Case kind ≡ is_keyword keyword (Some word.Case)
  input : kind_eq kinds.Input kind ≡ is_keyword keyword (Some word.Input)
  output : kind_eq kinds.Output kind ≡ is_keyword keyword (Some word.Output)
  name : (presence : Bool) (k : Keyword) (name : List ℕ) → is_keyword keyword (Some k) ≡ true → name_in (kind_among presence (Some k)) name ≡ tree.name_among name (Some k)
  no_case : (k : Option Keyword) → is_keyword keyword k ≡ true → is_keyword word.Case k ≡ false
  no_choice : (k : Option Keyword) → is_keyword keyword k ≡ true → is_keyword word.Choice k ≡ false
  call : (k : Option Keyword) → is_keyword keyword k ≡ true → is_call k ≡ true

rpc-plain : (presence : Bool) (k : Keyword) → IsTrue (is_shape (Some k)) → kind_eq (kind_among presence (Some k)) kinds.Rpc ≡ is_keyword word.Rpc (Some k)
rpc-plain presence word.Container h = refl
rpc-plain presence word.Leaf h = refl
rpc-plain presence word.LeafList h = refl
rpc-plain presence word.List h = refl
rpc-plain presence word.Choice h = refl
rpc-plain presence word.Case h = refl
rpc-plain presence word.Rpc h = refl
rpc-plain presence word.Input h = refl
rpc-plain presence word.Output h = refl
rpc-plain presence word.Notification h = refl
rpc-plain presence k h = absurd (wrong h)

rpc-name : (presence : Bool) (k : Keyword) (name : List ℕ) → is_keyword word.Rpc (Some k) ≡ true → name_in (kind_among presence (Some k)) name ≡ tree.name_among name (Some k)
rpc-name presence word.Rpc name h = refl
rpc-name presence k name h = absurd (wrong h)

rpc-case : (k : Option Keyword) → is_keyword word.Rpc k ≡ true → is_keyword word.Case k ≡ false
rpc-case None h = refl
rpc-case (Some word.Case) h = absurd (wrong h)
rpc-case (Some k) h = refl

rpc-choice : (k : Option Keyword) → is_keyword word.Rpc k ≡ true → is_keyword word.Choice k ≡ false
rpc-choice None h = refl
rpc-choice (Some word.Choice) h = absurd (wrong h)
rpc-choice (Some k) h = refl

rpc-call : (k : Option Keyword) → is_keyword word.Rpc k ≡ true → is_call k ≡ true
rpc-call None h = absurd (wrong h)
rpc-call (Some word.Rpc) h = refl
rpc-call (Some k) h = absurd (wrong h)

rpcs : IsKindOfCalls kinds.Rpc word.Rpc
rpcs = record { plain = rpc-plain; cases = refl; input = refl; output = refl; name = rpc-name; no_case = rpc-case; no_choice = rpc-choice; call = rpc-call }

note-plain : (presence : Bool) (k : Keyword) → IsTrue (is_shape (Some k)) → kind_eq (kind_among presence (Some k)) kinds.Notification ≡ is_keyword word.Notification (Some k)
note-plain presence word.Container h = refl
note-plain presence word.Leaf h = refl
note-plain presence word.LeafList h = refl
note-plain presence word.List h = refl
note-plain presence word.Choice h = refl
note-plain presence word.Case h = refl
note-plain presence word.Rpc h = refl
note-plain presence word.Input h = refl
note-plain presence word.Output h = refl
note-plain presence word.Notification h = refl
note-plain presence k h = absurd (wrong h)

note-name : (presence : Bool) (k : Keyword) (name : List ℕ) → is_keyword word.Notification (Some k) ≡ true → name_in (kind_among presence (Some k)) name ≡ tree.name_among name (Some k)
note-name presence word.Notification name h = refl
note-name presence k name h = absurd (wrong h)

note-case : (k : Option Keyword) → is_keyword word.Notification k ≡ true → is_keyword word.Case k ≡ false
note-case None h = refl
note-case (Some word.Case) h = absurd (wrong h)
note-case (Some k) h = refl

note-choice : (k : Option Keyword) → is_keyword word.Notification k ≡ true → is_keyword word.Choice k ≡ false
note-choice None h = refl
note-choice (Some word.Choice) h = absurd (wrong h)
note-choice (Some k) h = refl

note-call : (k : Option Keyword) → is_keyword word.Notification k ≡ true → is_call k ≡ true
note-call None h = absurd (wrong h)
note-call (Some word.Notification) h = refl
note-call (Some k) h = absurd (wrong h)

notifications : IsKindOfCalls kinds.Notification word.Notification
notifications = record { plain = note-plain; cases = refl; input = refl; output = refl; name = note-name; no_case = note-case; no_choice = note-choice; call = note-call }

-- ---- one node

record IsSeen (kind : Kind) (keyword : Keyword) (stmt : Option Stmt) (side : Option Implied) (k : Option Keyword) (name : List ℕ) : Type 0 where
  same_kind : kind_eq (kind_in stmt side) kind ≡ is_keyword keyword (tree.kind_among k side)
  same_name : is_keyword keyword (tree.kind_among k side) ≡ true → name_in (kind_in stmt side) (argument_in stmt) ≡ tree.name_among name (tree.kind_among k side)

module _ (kind : Kind) (keyword : Keyword) (calls : IsKindOfCalls kind keyword) where
  implied-name : (k : Keyword) → is_keyword keyword (Some k) ≡ true → is_call (Some k) ≡ false → ⊥
  implied-name k t quiet = wrong (sym quiet ∙ calls.call (Some k) t)

  seen-stmt : (k : Keyword) (stmt : Stmt) (side : Option Implied) (name : List ℕ) → keyword_of (out-Stmt stmt).keyword ≡ Some k → argument_of stmt ≡ name → IsTrue (is_seed side (Some k)) → IsSeen kind keyword (Some stmt) side (Some k) name
  seen-stmt k stmt None name e is h =
      let presence = has word.Presence (Some stmt) in
      let same : kind_in (Some stmt) None ≡ kind_among presence (Some k) = ap (kind_among presence) e in
      record {
        same_kind = ap (λ one. kind_eq one kind) same ∙ calls.plain presence k h;
        same_name = λ t. (λ i. name_in (same i) (is i)) ∙ calls.name presence k name t;
      }
  seen-stmt k stmt (Some implied.Case) name e is h = record { same_kind = calls.cases; same_name = λ t. absurd (implied-name word.Case t refl) }
  seen-stmt k stmt (Some implied.Input) name e is h = record { same_kind = calls.input; same_name = λ t. absurd (implied-name word.Input t refl) }
  seen-stmt k stmt (Some implied.Output) name e is h = record { same_kind = calls.output; same_name = λ t. absurd (implied-name word.Output t refl) }

  module _ (stmts : List Stmt) (owns : AreOwn stmts (rows_of stmts)) (all : List TreeNode) (grown : AreGrown stmts all) where
    abbrev rows : List TreeRow
    rows = rows_of stmts

    seen-row : (k : ℕ) (side : Option Implied) (row : Option TreeRow) → slice_get rows k ≡ row → IsTrue (is_seed side (option_map (λ (row : TreeRow). row.keyword) row))
        → IsSeen kind keyword (stmt_at stmts (source_of row) (place_of row)) side (option_map (λ (row : TreeRow). row.keyword) row) (unwrap_or (option_map (λ (row : TreeRow). row.name) row) [])
    seen-row k side None e h = absurd (wrong (sym (none-fits side) ∙ h))
    seen-row k side (Some row) e h =
        let own = owns k row e in
        subst (λ (o : Option Stmt). IsSeen kind keyword o side (Some row.keyword) row.name) (sym own.found) (seen-stmt row.keyword own.stmt side row.name own.keyword own.name h)

    -- by the tree alone
    abbrev name_at : ℕ → TreeNode → List Named
    name_at k node = if is_keyword keyword (tree.kind_of rows node) then named None node.module (tree.name_of rows node) k ∷ [] else []

    same-name : (k : ℕ) (node : TreeNode) → k < length all → IsTrue (is_fit stmts owns all grown k node) → kind_at kind k (info_of stmts (forest_of stmts all) k (branch_of rows node)) ≡ name_at k node
    same-name k node h fit =
        let view = seen-row node.row node.implied (slice_get rows node.row) refl (and_second (is_before k node.parent) (is_seed node.implied (keyword_at rows node.row)) fit) in
        elim (cases_Bool (is_keyword keyword (tree.kind_of rows node))) [
          | inl t ↦
              let one : kind_eq (nodes.kind_of stmts (branch_of rows node)) kind ≡ true = view.same_kind ∙ t in
              let name : nodes.name_of stmts (branch_of rows node) ≡ tree.name_of rows node = view.same_name t in
              rw (one, t) (λ i. named None node.module (name i) k ∷ [])
          | inr f ↦
              let one : kind_eq (nodes.kind_of stmts (branch_of rows node)) kind ≡ false = view.same_kind ∙ f in
              rw (one, f) refl
        ]

    -- ---- no two have one name

    abbrev is_good : ℕ → TreeNode → Bool
    is_good k node = is_known stmts owns all grown k node && (is_none node.parent || not (is_call (tree.kind_of rows node)))

    top-is : (parent : Option ℕ) → IsTrue (is_none parent || false) → parent ≡ None
    top-is None h = refl
    top-is (Some p) h = absurd (wrong h)

    at-top : (k : ℕ) (node : TreeNode) → IsTrue (is_good k node) → is_keyword keyword (tree.kind_of rows node) ≡ true → node.parent ≡ None
    at-top k node h t =
        let alone = and_second (is_known stmts owns all grown k node) (is_none node.parent || not (is_call (tree.kind_of rows node))) h in
        let call = calls.call (tree.kind_of rows node) t in
        let only : IsTrue (is_none node.parent || false) = rw call at alone in
        top-is node.parent only

    top-parent : (node : TreeNode) → node.parent ≡ None → data_parent (length all) rows all node.parent ≡ None
    top-parent node e = ap (data_parent (length all) rows all) e ∙ data-stop (length all) rows all None refl

    apart-two : (i : ℕ) (x : TreeNode) (j : ℕ) (y : TreeNode) → IsTrue (and_both is_good (λ i x j y. not (is_double stmts owns all grown y x)) i x j y) → IsTrue (are_apart (name_at i x) (name_at j y))
    apart-two i x j y h = elim (cases_Bool (is_keyword keyword (tree.kind_of rows x))) [
      | inr f ↦ rw f refl
      | inl t ↦
          (elim (cases_Bool (is_keyword keyword (tree.kind_of rows y))) [
            | inr f ↦ rw (t, f) refl
            | inl u ↦
                (elim (cases_Bool (is_called (name_of_parts None x.module (tree.name_of rows x)) (named None y.module (tree.name_of rows y) j))) [
                  | inr f ↦ rw (t, u, f) refl
                  | inl e ↦
                      (let goods = and_first (is_good i x && is_good j y) (not (is_double stmts owns all grown y x)) h in
                      let good_x = and_first (is_good i x) (is_good j y) goods in
                      let good_y = and_second (is_good i x) (is_good j y) goods in
                      let alike = called-same None None x.module y.module j (tree.name_of rows x) (tree.name_of rows y) e in
                      let parents = top-parent y (at-top j y good_y u) ∙ sym (top-parent x (at-top i x good_x t)) in
                      let keys = same-keys stmts owns all grown x y (calls.no_case (tree.kind_of rows x) t) (calls.no_case (tree.kind_of rows y) u) parents alike.1.0 alike.1.1 in
                      let plain_x = calls.no_choice (tree.kind_of rows x) t in
                      let plain_y = calls.no_choice (tree.kind_of rows y) u in
                      let known : IsTrue (is_known stmts owns all grown j y) = and_first (is_known stmts owns all grown j y) (is_none y.parent || not (is_call (tree.kind_of rows y))) good_y in
                      let itself : is_itself stmts owns all grown y ≡ true = rw plain_y at known in
                      let has : same_key (key_of rows all y) (key_of rows all x) ≡ true = ap (same_key (key_of rows all y)) (sym keys) ∙ itself in
                      let double : is_double stmts owns all grown y x ≡ true = rw (plain_x, plain_y) has in
                      let no = true-is (is_double stmts owns all grown y x) (and_second (is_good i x && is_good j y) (not (is_double stmts owns all grown y x)) h) in
                      absurd (wrong (sym no ∙ double)))
                ])
          ])
    ]

    alone : (k : ℕ) (node : TreeNode) → IsTrue (are_distinct (name_at k node))
    alone k node = elim (cases_Bool (is_keyword keyword (tree.kind_of rows node))) [ inl t ↦ rw t refl | inr f ↦ rw f refl ]

    calls-distinct : IsTrue (list_all (is_alone_in rows) all) → child_faults rows all ≡ [] → IsTrue (are_distinct (kind_names kind (table_over stmts all)))
    calls-distinct lone quiet =
        let fresh = fresh-from stmts owns all grown [] all 0 refl refl (nodes-fit stmts owns all grown) quiet in
        let news = all-more (is_fresh stmts owns all grown) (λ k node. not (list_any (is_double stmts owns all grown node) (take k all))) 0 all (λ k node less h. none-double stmts owns all grown k node h) fresh in
        let known = all-more (is_fresh stmts owns all grown) (is_known stmts owns all grown) 0 all (λ k node less h. known-fresh stmts owns all grown k node h) fresh in
        let top = all-from (λ node. is_none node.parent || not (is_call (tree.kind_of rows node))) 0 all lone in
        let good = all-two (is_known stmts owns all grown) (λ k node. is_none node.parent || not (is_call (tree.kind_of rows node))) 0 all known top in
        let apart = pairwise-both is_good (λ i x j y. not (is_double stmts owns all grown y x)) 0 all good (pairs (is_double stmts owns all grown) all [] all 0 refl refl news) in
        let names = distinct-pairs name_at (and_both is_good (λ i x j y. not (is_double stmts owns all grown y x))) alone apart-two 0 all apart in
        let same = each-infos stmts (forest_of stmts all) (kind_at kind) (branch_of rows) 0 all
        ∙ each-same (λ k node. kind_at kind k (info_of stmts (forest_of stmts all) k (branch_of rows node))) name_at (is_fit stmts owns all grown) (length all) (λ k node h fit. same-name k node h fit) 0 all (omega arith) (nodes-fit stmts owns all grown) in
        subst (λ (list : List Named). IsTrue (are_distinct list)) (sym same) names

pub call-names-differ-on : (stmts : List Stmt) (nodes : List TreeNode) (table : SchemaTable) → IsTrue (list_all has_own_places stmts) → IsBuiltOn stmts nodes table → AreGrown stmts nodes → IsTrue (list_all (is_alone_in (rows_of stmts)) nodes)
    → IsTrue (are_distinct (kind_names kinds.Rpc table)) × IsTrue (are_distinct (kind_names kinds.Notification table))
call-names-differ-on stmts nodes table differ built grown lone =
    let owns = own-rows stmts differ built.checked.profile in (
      subst (λ (t : SchemaTable). IsTrue (are_distinct (kind_names kinds.Rpc t))) built.is (calls-distinct kinds.Rpc word.Rpc rpcs stmts owns nodes grown lone built.children),
      subst (λ (t : SchemaTable). IsTrue (are_distinct (kind_names kinds.Notification t))) built.is (calls-distinct kinds.Notification word.Notification notifications stmts owns nodes grown lone built.children),
    )

pub call_names_differ : CallNamesDiffer
call_names_differ stmts table differ e = call-names-differ-on stmts (nodes_of stmts) table differ (built_on stmts table e) (built-grown stmts) (calls-alone stmts (rows-held stmts (built_on stmts table e).checked.profile))
