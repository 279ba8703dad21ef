-- What is written for an object reads as the rows below it.
use Rattle.std.proofs.Common.{◌≡◌, inl, inr, ℕ, true, false, List, [], ◌∷◌, ◌++◌, length, Option, Some, None, Ok, Err, refl, sym, ap, subst, ◌∙◌, append_assoc}
use Rattle.std.specs.Option.{option_map_or}
use Rattle.std.specs.Ordering.{eq_by_cmp}
use Rattle.std.specs.Cmp.{Equal-is}
use Rattle.std.proofs.lemmas.Bool.{and_parts}
use Rattle.serde_json.specs.Data.{Data, Members, no_members}
use Rattle.serde_json.specs.Find.{get_member}
use Rattle.sal_types.specs.declared.value.Value.{Value}
use Rattle.sal_types.specs.declared.value.Cell.{Cell}
use Rattle.sal_types.specs.declared.value.Cell.TheVariants.{Leaf}
use Rattle.sal_types.specs.declared.value.Step.{Step}
use Rattle.sal_types.specs.declared.value.Step.TheVariants.{Node}
use Rattle.sal_types.specs.declared.row.Row.{Row}
use Rattle.sal_types.specs.Order.{cell_cmp, cell_cmp-IsAntisymmetric}
use Rattle.sal_types.specs.Prefix.{is_prefix}
use Rattle.sal_types.specs.Reading.{◌>>=◌}
use Rattle.sal_types.specs.Tree.{cell}
use Rattle.sal_schema.specs.declared.table.SchemaTable.{SchemaTable}
use Rattle.sal_schema.specs.Fitting.{has_cell, has_key_leafs}
use Rattle.sal_schema.specs.Paths.{are_of_nodes}
use Rattle.sal_schema.specs.Table.{is_data_child}
use Rattle.sal_schema.specs.Valid.{IsTable}
use Rattle.sal_schema.specs.Values.{is_of_node}
use Rattle.sal_data.specs.declared.fault.DataFault.TheVariants.{MissingKey}
use Rattle.sal_data.specs.Laws.{IsWhole}
use Rattle.sal_data.specs.Members.{member_name, member_node}
use Rattle.sal_data.specs.Read.{at_path, node_scalar, key_value, key_values, node_rows, members_rows}
use Rattle.sal_data.specs.Written.{Writer, runs_of}
use Rattle.sal_data.proofs.Listed.{In}
use Rattle.sal_data.proofs.ObjectMembers.{Has, Has-found, found, IsOf, build, of_runs, each_named}
use Rattle.sal_data.proofs.MemberNames.{member_node-name, same_child}
use Rattle.sal_data.proofs.Fronts.{length-more}
use Rattle.sal_data.proofs.PathsFit.{root, after, at_object}
use Rattle.sal_data.proofs.Lawful.{child_step, is_room}
use Rattle.sal_data.proofs.Composed.{Gives, GivesBelow, MemberGives, MembersGive, members_give, at_row, bind_is}
use Rattle.sal_data.proofs.Parts.{IsPart, part_of, run_of, row_of_step}

same_number : (n m : ℕ) → ◌≡◌ {A = Step} (Node n) (Node m) → n ≡ m
same_number n m e = cc

has_cell-is : (rows : List Row) (path : List Step) (c : Cell) → has_cell rows path c ≡ true → cell rows path ≡ Some c
has_cell-is rows path c e = by (cell rows path) e
  where
    by : (o : Option Cell) → option_map_or (λ d. eq_by_cmp cell_cmp d c) o false ≡ true → o ≡ Some c
    by None e = cc
    by (Some d) e = ap Some (cell_cmp-IsAntisymmetric d c ((Equal-is _).0 e))

module _ (table : SchemaTable) (good : IsTable table) (at : List Step) (rows : List Row) (whole : IsWhole table at rows) (f : Writer) (parent : Option ℕ) (path : List Step) (here : List Row)
    (part : IsPart rows path here) (place : after table (root table) path ≡ at_object table parent) (below : is_prefix at path ≡ true) (empty : parent ≡ None → path ≡ []) where
  abbrev pub members : Members
  members = build table parent f (length path) no_members (runs_of (length path) here)

  abbrev Of : List ℕ → Data → Type 0
  Of name d = IsOf table parent f (length path) (runs_of (length path) here) name d

  -- a node that has a row is a child
  child_of_row : (n : ℕ) (q : List Step) (c : Cell) → cell rows (path ++ Node n ∷ q) ≡ Some c → is_data_child table parent n ≡ true
  child_of_row n q c e =
      let (m, is, child) = child_step table good at rows whole path parent (Node n) q c place below empty e in
      ap (is_data_child table parent) (same_number n m is) ∙ child

  of_member : (name : List ℕ) (d : Data) → Has name d members → Of name d
  of_member name d h = elim (of_runs table parent f (length path) (runs_of (length path) here) no_members name d h) [ inl none ↦ absurd none | inr of ↦ of ]

  row_there : (name : List ℕ) (d : Data) (o : Of name d) → (q : List Step) × (c : Cell) × (cell rows (path ++ Node o.node ∷ q) ≡ Some c)
  row_there name d o = row_of_step rows path here part o.run (Node o.node) o.there o.step

  part_there : (name : List ℕ) (d : Data) (o : Of name d) → IsPart rows (path ++ Node o.node ∷ []) o.run
  part_there name d o = part_of rows path here part o.run (Node o.node) o.there o.step

  value_there : (name : List ℕ) (d : Data) (o : Of name d) → d ≡ f o.node (length (path ++ Node o.node ∷ [])) o.run
  value_there name d o = o.value ∙ ap (λ k. f o.node k o.run) (sym (length-more path (Node o.node)))

  -- the values of nodes below read as their rows
  abbrev pub EachGives : Type 0
  EachGives = (n : ℕ) (run : List Row) → IsPart rows (path ++ Node n ∷ []) run → (q : List Step) (c : Cell) → cell rows ((path ++ Node n ∷ []) ++ q) ≡ Some c
      → Gives rows (path ++ Node n ∷ []) (node_rows table n (path ++ Node n ∷ []) (f n (length (path ++ Node n ∷ [])) run))

  member_gives : EachGives → (name : List ℕ) (d : Data) → Has name d members → MemberGives rows table parent path name d
  member_gives each name d h =
      let o = of_member name d h in
      let (q, c, e) = row_there name d o in
      let child = child_of_row o.node q c e in
      let given = each o.node o.run (part_there name d o) q c (ap (cell rows) (append_assoc path (Node o.node ∷ []) q) ∙ e) in
      record {
        node = o.node;
        found = ap (member_node table parent path) o.named ∙ member_node-name table good parent o.node path child;
        room = is_room table good at rows whole path (Node o.node) q c e;
        gives = subst (λ x. Gives rows (path ++ Node o.node ∷ []) (node_rows table o.node (path ++ Node o.node ∷ []) x)) (sym (value_there name d o)) given;
      }

  pub object_gives : EachGives → GivesBelow rows path (members_rows table parent path members)
  object_gives each =
      let given = members_give rows table parent path members (member_gives each) in
      record {
        read = given.read;
        is = given.is;
        sound = given.sound;
        all = λ s q c e. by given s q c e;
      }
    where
      by : (given : MembersGive rows table parent path members) (s : Step) (q : List Step) (c : Cell) → cell rows (path ++ s ∷ q) ≡ Some c → In (at_row rows (path ++ s ∷ q) c) given.read
      by given s q c e =
          let (n, is, child) = child_step table good at rows whole path parent s q c place below empty e in
          let e' : cell rows (path ++ Node n ∷ q) ≡ Some c = ap (λ t. cell rows (path ++ t ∷ q)) (sym is) ∙ e in
          let (run, there, step) = run_of rows path here part (Node n) q c e' in
          let (d, has) = each_named table parent f (length path) (runs_of (length path) here) no_members run n there step in
          subst (λ t. In (at_row rows (path ++ t ∷ q) c) given.read) (sym is)
          (given.all (member_name table parent n) d n q c has (member_node-name table good parent n path child) e')

  -- ---- the keys of an entry

  -- the value of a leaf below reads as this value
  abbrev pub LeafReads : Type 0
  LeafReads = (n : ℕ) (value : Value) (run : List Row) → IsPart rows (path ++ Node n ∷ []) run → cell rows (path ++ Node n ∷ []) ≡ Some (Leaf value)
      → node_scalar table n (f n (length (path ++ Node n ∷ [])) run) ≡ Ok value

  leaf_member : LeafReads → (n : ℕ) (value : Value) → cell rows (path ++ Node n ∷ []) ≡ Some (Leaf value) → (d : Data) × (get_member (member_name table parent n) members ≡ Some d) × (node_scalar table n d ≡ Ok value)
  leaf_member reads n value e =
      let name = member_name table parent n in
      let (run, there, step) = run_of rows path here part (Node n) [] (Leaf value) e in
      let (d0, has0) = each_named table parent f (length path) (runs_of (length path) here) no_members run n there step in
      let (d, is) = found name d0 members has0 in
      let o = of_member name d (Has-found name d members is) in
      let (q, c, row) = row_there name d o in
      let same : n ≡ o.node = same_child table good parent n o.node (child_of_row n [] (Leaf value) e) (child_of_row o.node q c row) o.named in
      let read : node_scalar table o.node (f o.node (length (path ++ Node o.node ∷ [])) o.run) ≡ Ok value =
      reads o.node value o.run (part_there name d o) (ap (λ m. cell rows (path ++ Node m ∷ [])) (sym same) ∙ e) in
      (d, is, (λ i. node_scalar table (same i) (value_there name d o i)) ∙ read)

module _ (table : SchemaTable) (good : IsTable table) (at : List Step) (rows : List Row) (whole : IsWhole table at rows) (f : Writer) (n : ℕ) (path : List Step) (here : List Row)
    (part : IsPart rows path here) (place : after table (root table) path ≡ at_object table (Some n)) (below : is_prefix at path ≡ true) (empty : (Some n ≡ None) → path ≡ []) where
  abbrev ms : Members
  ms = members table good at rows whole f (Some n) path here part place below empty

  -- the values of the keys, from the members of the entry
  pub keys_read : LeafReads table good at rows whole f (Some n) path here part place below empty → (seen : List Step) (leafs : List ℕ) (values : List Value)
      → has_key_leafs rows path leafs values ≡ true → are_of_nodes table leafs values ≡ true → key_values table n seen ms leafs ≡ Ok values
  keys_read reads seen [] [] has fit = refl
  keys_read reads seen [] (value ∷ values) has fit = cc
  keys_read reads seen (leaf ∷ leafs) [] has fit = cc
  keys_read reads seen (leaf ∷ leafs) (value ∷ values) has fit =
      let (mine, others) = and_parts (has_cell rows (path ++ Node leaf ∷ []) (Leaf value)) (has_key_leafs rows path leafs values) has in
      let (fits, more) = and_parts (is_of_node table leaf value) (are_of_nodes table leafs values) fit in
      let (d, is, read) = leaf_member table good at rows whole f (Some n) path here part place below empty reads leaf value (has_cell-is rows (path ++ Node leaf ∷ []) (Leaf value) mine) in
      let one : key_value table n seen ms leaf ≡ Ok value =
      ap (λ o. option_map_or (λ json. at_path seen (node_scalar table leaf json)) o (Err (MissingKey seen))) is ∙ ap (at_path seen) read in
      let rest = keys_read reads seen leafs values others more in
      bind_is (key_value table n seen ms leaf) (λ value. (key_values table n seen ms leafs >>= λ values. Ok (value ∷ values))) value one
      ∙ bind_is (key_values table n seen ms leafs) (λ values. Ok (value ∷ values)) values rest
