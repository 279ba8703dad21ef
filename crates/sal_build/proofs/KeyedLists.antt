-- Only lists have keys, each at least one and none twice: the profile requires the statement, and its names are judged.
use Rattle.sal_build.specs.Readable.{has_own_places}
use Rattle.std.proofs.Common.{◌≡◌, ℕ, ◌+◌, ◌<◌, Bool, true, false, not, ◌&&◌, ◌==◌, nat_eq, IsTrue, List, [], ◌∷◌, ◌++◌, filter, map, length, Option, Some, None, refl, sym, ap, ◌∙◌, subst, inl, inr, arith, append-nil}
use Rattle.std.specs.Prelude.{◌||◌, option_map, is_some, is_none, if◌then◌else◌}
use Rattle.std.specs.List.{list_all, list_any, flat_map, enumerate_from, slice_get}
use Rattle.std.proofs.lemmas.Bool.{cases_Bool}
use Rattle.std.proofs.lemmas.Bool.Decides.{nat_tests}
use Rattle.sal_stmt.specs.declared.stmt.Stmt.{Stmt, out-Stmt}
use Rattle.sal_module.specs.declared.keyword.Keyword.{Keyword}
use Rattle.sal_module.specs.declared.keyword.Keyword.TheVariants as word
use Rattle.sal_module.specs.declared.table.Often.TheVariants.{Optional}
use Rattle.sal_module.specs.Keywords.{Word, same, word_of, keyword_of, keyword_among, words}
use Rattle.sal_module.specs.LeftOut.{is_left_out, lacks_keys, is_ordered_by_user, is_instance_identifier, is_calling_path, is_past_the_last_bit}
use Rattle.sal_module.specs.Modules.{stmt_at}
use Rattle.sal_module.specs.Profile.{often_faults, standing_of, entry_faults, sub_faults, type_faults, argument_faults, left_out_faults, level_faults}
use Rattle.sal_module.specs.Statements.{is_named, subs_of, argument_of, all_named}
use Rattle.sal_module.specs.Table.{Entry, Rule, rule_of, rule_at}
use Rattle.sal_module.specs.Table as table
use Rattle.sal_grouping.proofs.Parts.{TreeNode, TreeRow}
use Rattle.sal_grouping.specs.declared.forest.Branch.{Branch}
use Rattle.sal_grouping.specs.declared.forest.Implied.{Implied}
use Rattle.sal_grouping.specs.declared.forest.Implied.TheVariants as implied
use Rattle.sal_grouping.specs.Expand.{branch_of, source_of, place_of}
use Rattle.sal_grouping.specs.Rows.{rows_of, part_of}
use Rattle.sal_schema.specs.declared.table.NodeInfo.{NodeInfo}
use Rattle.sal_schema.specs.declared.table.SchemaTable.{SchemaTable}
use Rattle.sal_schema.specs.Kinds.{is_list}
use Rattle.sal_schema.specs.Table.{all_from}
use Rattle.sal_schema.specs.Valid.{agree, all_differ, is_empty}
use Rattle.sal_schema.proofs.Conjuncts.{and_first, and_second, or_first, or_second}
use Rattle.sal_grouping.proofs.IndexLists.{not-false}
use Rattle.sal_build.specs.Laws.{KeysAreThere}
use Rattle.sal_module_table.specs.Lists.{keys_named, given, has_none, is_missing, differs, is_bad_key, keys_in, keys_of, block_of, own_stmt, list_faults, config_faults, node_faults}
use Rattle.sal_module_table.specs.Lists as lists
use Rattle.sal_module_table.specs.Nodes.{kind_among, kind_in, kind_of, has}
use Rattle.sal_module_table.specs.Table.{infos_from}
use Rattle.sal_build.proofs.Built.{IsBuiltOn, built_on, forest_by, nodes_of}
use Rattle.sal_build.proofs.Grown.{AreGrown, built-grown}
use Rattle.sal_module.proofs.Initials.{same-text}
use Rattle.sal_build.proofs.NamedNodes.{rule_given, rule-by, none-fits}
use Rattle.sal_build.proofs.OwnStatements.{AreOwn, own-rows, not-extension, block-quiet}
use Rattle.sal_build.proofs.Quiet.{both, front-nil}
use Rattle.sal_build.proofs.Shapes.{is_seed}
use Rattle.sal_build.proofs.Entries.{wrong}

-- ---- the statement of a list

-- what holds of each word holds of one that has a keyword
among : (test : List ℕ → Keyword → Bool) (all : List Word) (text : List ℕ) (keyword : Keyword) → IsTrue (list_all (λ (w : Word). test w.0 w.1) all) → keyword_among all text ≡ Some keyword → IsTrue (test text keyword)
among test [] text keyword h e = cc
among test (w ∷ all) text keyword h e = elim (cases_Bool (same w.0 text)) [
  | inl t ↦
      let found : Some w.1 ≡ Some keyword = rw t at e in
      let is : w.1 ≡ keyword = cc in
      subst (λ (x : List ℕ). IsTrue (test x keyword)) (same-text w.0 text t) (subst (λ (k : Keyword). IsTrue (test w.0 k)) is (and_first (test w.0 w.1) (list_all (λ (v : Word). test v.0 v.1) all) h))
  | inr f ↦ among test all text keyword (and_second (test w.0 w.1) (list_all (λ (v : Word). test v.0 v.1) all) h) (rw f at e)
]

abbrev is_list_word : List ℕ → Keyword → Bool
is_list_word text word.List = same text (word_of word.List)
is_list_word text keyword = true

list-named : (stmt : Stmt) → keyword_of (out-Stmt stmt).keyword ≡ Some word.List → is_named word.List stmt ≡ true
unfolding keyword_of word_of words
list-named stmt e = among is_list_word words (out-Stmt stmt).keyword word.List refl e

-- a list has keys, as none is left out
has-key : (m : ℕ) (stmt : Stmt) → keyword_of (out-Stmt stmt).keyword ≡ Some word.List → level_faults m stmt ≡ [] → list_any (is_named word.Key) (subs_of stmt) ≡ true
unfolding level_faults
has-key m stmt e quiet =
    let rule = rule_of (out-Stmt stmt).keyword in
    let (fronts, block) = front-nil (argument_faults m stmt rule ++ left_out_faults m stmt) _ quiet in
    let (argument, left) = front-nil (argument_faults m stmt rule) (left_out_faults m stmt) fronts in
    elim (cases_Bool (is_left_out stmt)) [
      | inl t ↦ (let no = rw t at left in cc)
      | inr f ↦
          let lacks = or_first (lacks_keys stmt) (is_ordered_by_user stmt) (or_first (lacks_keys stmt || is_ordered_by_user stmt) (is_instance_identifier stmt)
          (or_first ((lacks_keys stmt || is_ordered_by_user stmt) || is_instance_identifier stmt) (is_calling_path stmt)
          (or_first (((lacks_keys stmt || is_ordered_by_user stmt) || is_instance_identifier stmt) || is_calling_path stmt) (is_past_the_last_bit stmt) f))) in
          let keyless : not (list_any (is_named word.Key) (subs_of stmt)) ≡ false = rw (list-named stmt e) at lacks in
          not-false (list_any (is_named word.Key) (subs_of stmt)) keyless
    ]

abbrev first_entry : List Entry → Option Entry
first_entry [] = None
first_entry (entry ∷ more) = Some entry

list-entry : first_entry (rule_given (Some word.List)).entries ≡ Some (word.Key, Optional)
unfolding rule_at table.rows
list-entry = refl

first-quiet : {Y : Type 0} (f : Entry → List Y) (entries : List Entry) (entry : Entry) → first_entry entries ≡ Some entry → flat_map f entries ≡ [] → f entry ≡ []
first-quiet f [] entry e quiet = cc
first-quiet f (one ∷ more) entry e quiet = let is : one ≡ entry = cc in subst (λ (x : Entry). f x ≡ []) is (front-nil (f one) (flat_map f more) quiet).0

-- and no more than one statement for them
few-standing : (m at : ℕ) (found : List Stmt) → often_faults m at word.Key Optional (standing_of found) ≡ [] → length found < 2
few-standing m at [] e = omega arith
few-standing m at (one ∷ []) e = omega arith
few-standing m at (one ∷ two ∷ more) e = cc

few-keys : (m : ℕ) (stmt : Stmt) → keyword_of (out-Stmt stmt).keyword ≡ Some word.List → is_none (part_of stmt) ≡ false → level_faults m stmt ≡ [] → length (all_named word.Key stmt) < 2
few-keys m stmt e part quiet =
    let rule = rule_of (out-Stmt stmt).keyword in
    let (front, types) = front-nil (flat_map (entry_faults m stmt) rule.entries ++ flat_map (sub_faults m stmt rule) (subs_of stmt)) (type_faults m stmt) (block-quiet m stmt (not-extension stmt part) quiet) in
    let (entries, subs) = front-nil (flat_map (entry_faults m stmt) rule.entries) (flat_map (sub_faults m stmt rule) (subs_of stmt)) front in
    let first = ap (λ (r : Rule). first_entry r.entries) (rule-by (out-Stmt stmt).keyword ∙ ap rule_given e) ∙ list-entry in
    few-standing m (out-Stmt stmt).at (all_named word.Key stmt) (first-quiet (entry_faults m stmt) rule.entries (word.Key, Optional) first entries)

some-kept : {X : Type 0} (p : X → Bool) (xs : List X) → list_any p xs ≡ true → 0 < length (filter p xs)
some-kept p [] e = cc
some-kept p (x ∷ xs) e = elim (cases_Bool (p x)) [ inl t ↦ rw t (omega arith) | inr f ↦ rw f (some-kept p xs (rw f at e)) ]

abbrev has_one_key : List Stmt → Bool
has_one_key subs = length (filter (is_named word.Key) subs) == 1

one-key : (m : ℕ) (stmt : Stmt) → keyword_of (out-Stmt stmt).keyword ≡ Some word.List → is_none (part_of stmt) ≡ false → level_faults m stmt ≡ [] → IsTrue (has_one_key (subs_of stmt))
one-key m stmt e part quiet =
    let some = some-kept (is_named word.Key) (subs_of stmt) (has-key m stmt e quiet) in
    let few = few-keys m stmt e part quiet in
    grind (arith, nat_tests)

-- ---- its node

abbrev is_keyed : Bool → List Stmt → Bool
is_keyed listed subs = if listed then has_one_key subs else true

keyed-plain : (keyword : Keyword) (presence : Bool) (subs : List Stmt) → (Some keyword ≡ Some word.List → IsTrue (has_one_key subs)) → IsTrue (is_keyed (is_list (kind_among presence (Some keyword))) subs)
keyed-plain word.List presence subs good = good refl
keyed-plain keyword presence subs good = refl

abbrev is_keyed_at : Option Stmt → Option Implied → Bool
is_keyed_at stmt side = is_keyed (is_list (kind_in stmt side)) (block_of (if is_some side then None else stmt))

keyed-good : (keyword : Keyword) (stmt : Stmt) (side : Option Implied) → keyword_of (out-Stmt stmt).keyword ≡ Some keyword → (Some keyword ≡ Some word.List → IsTrue (has_one_key (subs_of stmt))) → IsTrue (is_keyed_at (Some stmt) side)
keyed-good keyword stmt None e good =
    subst (λ (k : Option Keyword). IsTrue (is_keyed (is_list (kind_among (has word.Presence (Some stmt)) k)) (subs_of stmt))) (sym e) (keyed-plain keyword (has word.Presence (Some stmt)) (subs_of stmt) good)
keyed-good keyword stmt (Some implied.Case) e good = refl
keyed-good keyword stmt (Some implied.Input) e good = refl
keyed-good keyword stmt (Some implied.Output) e good = refl

module _ (stmts : List Stmt) (owns : AreOwn stmts (rows_of stmts)) where
  abbrev is_keyed_node : ℕ → TreeNode → Bool
  is_keyed_node k node = is_keyed (is_list (kind_of stmts (branch_of (rows_of stmts) node))) (block_of (own_stmt stmts (branch_of (rows_of stmts) node)))

  row-keyed : (k : ℕ) (side : Option Implied) (row : Option TreeRow) → slice_get (rows_of stmts) k ≡ row → IsTrue (is_seed side (option_map (λ (row : TreeRow). row.keyword) row))
      → IsTrue (is_keyed_at (stmt_at stmts (source_of row) (place_of row)) side)
  row-keyed k side None e h = absurd (wrong (sym (none-fits side) ∙ h))
  row-keyed k side (Some row) e h =
      let own = owns k row e in
      subst (λ (o : Option Stmt). IsTrue (is_keyed_at o side)) (sym own.found) (keyed-good row.keyword own.stmt side own.keyword (λ is. one-key row.module own.stmt (own.keyword ∙ is) own.part own.good))

  nodes-keyed : (nodes : List TreeNode) → AreGrown stmts nodes → IsTrue (all_from is_keyed_node 0 nodes)
  nodes-keyed nodes grown = grown is_keyed_node (λ owner k parent seed h before fit. row-keyed seed.0 seed.1 (slice_get (rows_of stmts) seed.0) refl fit)

-- ---- its keys

abbrev is_good_key_list : List ℕ → Bool
is_good_key_list keys = not (is_empty keys) && all_differ nat_eq keys

abbrev has_keys : Bool → List ℕ → Bool
has_keys listed keys = agree listed (not (is_empty keys)) && all_differ nat_eq keys

some-given : (named : List (Option ℕ)) → is_missing named ≡ false → IsTrue (not (is_empty (given named)))
some-given [] e = absurd (let no : true ≡ false = e in cc)
some-given (None ∷ named) e = absurd (let no : true ≡ false = or_second (length (None ∷ named) == 0) (has_none (None ∷ named)) e in cc)
some-given (Some n ∷ named) e = let long : (length (n ∷ given named) == 0) ≡ false = grind (arith, nat_tests) in rw long refl

module _ (stmts : List Stmt) (forest : List Branch) (k : ℕ) (b : Branch) where
  no-keys : (subs : List Stmt) → length (filter (is_named word.Key) subs) ≡ 0 → flat_map (keys_in stmts forest k b) subs ≡ []
  no-keys [] e = refl
  no-keys (sub ∷ subs) e = elim (cases_Bool (is_named word.Key sub)) [
    | inl t ↦ (let some = rw t at e in absurd (omega (arith, some)))
    | inr f ↦ rw f (no-keys subs (rw f at e))
  ]

  good-given : (text : List ℕ) → is_bad_key stmts forest k b text ≡ false → IsTrue (is_good_key_list (given (keys_named stmts forest k b text)))
  good-given text e =
      let named = keys_named stmts forest k b text in
      let first = or_first (is_missing named || not (all_differ nat_eq (given named))) (list_any (differs stmts forest k) (given named)) e in
      both (not (is_empty (given named))) (all_differ nat_eq (given named)) (some-given named (or_first (is_missing named) (not (all_differ nat_eq (given named))) first))
      (not-false (all_differ nat_eq (given named)) (or_second (is_missing named) (not (all_differ nat_eq (given named))) first))

  good-keys : (subs : List Stmt) → length (filter (is_named word.Key) subs) ≡ 1 → flat_map (lists.sub_faults stmts forest k b) subs ≡ [] → IsTrue (is_good_key_list (flat_map (keys_in stmts forest k b) subs))
  good-keys [] e quiet = absurd (omega (arith, e))
  good-keys (sub ∷ subs) e quiet =
      let (here, rest) = front-nil (lists.sub_faults stmts forest k b sub) (flat_map (lists.sub_faults stmts forest k b) subs) quiet in
      elim (cases_Bool (is_named word.Key sub)) [
        | inl t ↦
            let count = rw t at e in
            let none = no-keys subs (omega (arith, count)) in
            let given_here = given (keys_named stmts forest k b (argument_of sub)) in
            let keys : flat_map (keys_in stmts forest k b) (sub ∷ subs) ≡ given_here = rw t (ap (λ more. given_here ++ more) none ∙ append-nil given_here) in
            subst (λ (xs : List ℕ). IsTrue (is_good_key_list xs)) (sym keys) (elim (cases_Bool (is_bad_key stmts forest k b (argument_of sub))) [
              | inl bad ↦ (let no = rw (t, bad) at here in cc)
              | inr good ↦ good-given (argument_of sub) good
            ])
        | inr f ↦ rw f (good-keys subs (rw f at e) rest)
      ]

  node-keys : IsTrue (is_keyed (is_list (kind_of stmts b)) (block_of (own_stmt stmts b))) → node_faults stmts forest k b ≡ [] → IsTrue (has_keys (is_list (kind_of stmts b)) (keys_of stmts forest k b))
  node-keys keyed quiet =
      let (listed, configs) = front-nil (list_faults stmts forest k b (block_of (own_stmt stmts b))) (config_faults stmts forest b (block_of (own_stmt stmts b))) quiet in
      elim (cases_Bool (is_list (kind_of stmts b))) [
        | inl t ↦
            let count : IsTrue (has_one_key (block_of (own_stmt stmts b))) = rw t at keyed in
            let faults = rw t at listed in
            rw t (good-keys (block_of (own_stmt stmts b)) (grind (arith, nat_tests)) faults)
        | inr f ↦ rw f refl
      ]

infos-keyed : (stmts : List Stmt) (forest : List Branch) (k : ℕ) (nodes : List TreeNode)
    → IsTrue (all_from (λ j (node : TreeNode). is_keyed (is_list (kind_of stmts (branch_of (rows_of stmts) node))) (block_of (own_stmt stmts (branch_of (rows_of stmts) node)))) k nodes)
    → flat_map (λ (e : ℕ × Branch). node_faults stmts forest e.0 e.1) (enumerate_from k (map (branch_of (rows_of stmts)) nodes)) ≡ []
    → IsTrue (list_all (λ (node : NodeInfo). agree (is_list node.kind) (not (is_empty node.keys)) && all_differ nat_eq node.keys) (infos_from stmts forest k (map (branch_of (rows_of stmts)) nodes)))
infos-keyed stmts forest k [] h quiet = refl
infos-keyed stmts forest k (node ∷ nodes) h quiet =
    let b = branch_of (rows_of stmts) node in
    let test = λ (j : ℕ) (node : TreeNode). is_keyed (is_list (kind_of stmts (branch_of (rows_of stmts) node))) (block_of (own_stmt stmts (branch_of (rows_of stmts) node))) in
    let (here, rest) = front-nil (node_faults stmts forest k b) (flat_map (λ (e : ℕ × Branch). node_faults stmts forest e.0 e.1) (enumerate_from (k + 1) (map (branch_of (rows_of stmts)) nodes))) quiet in
    both (agree (is_list (kind_of stmts b)) (not (is_empty (keys_of stmts forest k b))) && all_differ nat_eq (keys_of stmts forest k b)) _
    (node-keys stmts forest k b (and_first (test k node) (all_from test (k + 1) nodes) h) here) (infos-keyed stmts forest (k + 1) nodes (and_second (test k node) (all_from test (k + 1) nodes) h) rest)

pub keys-are-there-on : (stmts : List Stmt) (nodes : List TreeNode) (table : SchemaTable) → IsTrue (list_all has_own_places stmts) → IsBuiltOn stmts nodes table → AreGrown stmts nodes
    → IsTrue (list_all (λ (node : NodeInfo). agree (is_list node.kind) (not (is_empty node.keys)) && all_differ nat_eq node.keys) table.nodes)
keys-are-there-on stmts nodes table differ built grown =
    let owns = own-rows stmts differ built.checked.profile in
    let forest = forest_by stmts nodes in
    subst (λ (t : SchemaTable). IsTrue (list_all (λ (node : NodeInfo). agree (is_list node.kind) (not (is_empty node.keys)) && all_differ nat_eq node.keys) t.nodes)) built.is
    (infos-keyed stmts forest 0 nodes (nodes-keyed stmts owns nodes grown) built.lists)

pub keys_are_there : KeysAreThere
keys_are_there stmts table differ e = keys-are-there-on stmts (nodes_of stmts) table differ (built_on stmts table e) (built-grown stmts)
