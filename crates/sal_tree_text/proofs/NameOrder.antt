-- Members whose names rise are in the order in which they were put; and members in a map by name.
use Rattle.std.proofs.Common.{◌≡◌, ℕ, zero, suc, ◌+◌, ◌-◌, ◌<◌, ◌≤◌, Bool, true, false, ◌&&◌, List, [], ◌∷◌, ◌++◌, length, drop, take, get_or, Option, Some, None, refl, ap, sym, subst, ◌∙◌, arith, Bor, String, Global, string_bytes, string_cmp, nat_cmp, Ordering, Less, Equal, Greater}
use Rattle.std.specs.Prelude.{fold, if◌then◌else◌, not}
use Rattle.std.specs.Ordering.{is_eq, is_lt, match_ordering, ordering_then, ordering_reverse}
use Rattle.std.specs.Cmp.{tied_itself}
use Rattle.std.specs.Cmp.{nat_cmp_total}
use Rattle.std.specs.Cmp.Lexicographic.{slice_cmp}
use Rattle.std.specs.BTreeMap.{insert_entry}
use Rattle.std.specs.Map.{values_of}
use Rattle.std.specs.Option.{option_map_or}
use Rattle.std.proofs.lemmas.Bool.{and_parts}
use Rattle.std.proofs.lemmas.Cmp.{nat_list_cmp_total}
use Rattle.std.proofs.lemmas.Map.Text.{is_eq-slice_cmp}
use Rattle.std.proofs.lemmas.Slice.Eq.{bytes_eq-Decides}
use Rattle.std.proofs.lemmas.List.Sums.{fold-append}
use Rattle.serde_json.specs.Data.{Data, Members, no_members, member, put}
use Rattle.sal_types.specs.declared.value.Step.{Step}
use Rattle.sal_types.specs.declared.value.Step.TheVariants.{Node, Key, Item}
use Rattle.sal_rows.proofs.Found.{less}
use Rattle.sal_schema.specs.declared.table.SchemaTable.{SchemaTable}
use Rattle.sal_schema.specs.Table.{is_same, module_name, module_of, name_of}
use Rattle.sal_schema.specs.Lookups.{own_module, full_name}
use Rattle.sal_schema.proofs.Children.{same-is}
use Rattle.sal_data.specs.Members.{is_qualified, member_name}
use Rattle.sal_node.specs.Tree.{Tree}
use Rattle.sal_node.specs.Shape.{seen}
use Rattle.sal_node.specs.declared.node.Child.{Child}
use Rattle.sal_tree.proofs.ByChildren.{seen-at, seen-length, take_all}
use Rattle.sal_tree_text.specs.Named.{Entry, child_value, members_named, AreNamed}
use Rattle.sal_tree_text.specs.Trees.{Children, Teller, with_child, then_child, members_in, members_by_name, is_before, do_names_rise}
use Rattle.sal_tree_text.proofs.TreeTexts.{seen-drop, seen-past}

abbrev Text : Type 0
Text = List ℕ

turned : (a b : Text) → slice_cmp nat_cmp a b ≡ Less → slice_cmp nat_cmp b a ≡ Greater
turned a b e = nat_list_cmp_total.antisymm b a ∙ ap ordering_reverse e

-- ---- names

nat_cmp-itself : (n : ℕ) → nat_cmp n n ≡ Equal
nat_cmp-itself n = tied_itself nat_cmp_total n

cmp-behind : (front a b : Text) → slice_cmp nat_cmp (front ++ a) (front ++ b) ≡ slice_cmp nat_cmp a b
cmp-behind [] a b = refl
cmp-behind (x ∷ front) a b = ap (λ o. ordering_then o (slice_cmp nat_cmp (front ++ a) (front ++ b))) (nat_cmp-itself x) ∙ cmp-behind front a b

module _ (table : SchemaTable) (parent : Option ℕ) where
  qualified_same : (a b : ℕ) → module_of table a ≡ module_of table b → (o : Option ℕ) → is_qualified table o a ≡ is_qualified table o b
  qualified_same a b e None = refl
  qualified_same a b e (Some p) = ap (λ m. not (is_same m (module_of table p))) e

  full_less : (a b : ℕ) → module_of table a ≡ module_of table b → slice_cmp nat_cmp (name_of table a) (name_of table b) ≡ Less → slice_cmp nat_cmp (full_name table a) (full_name table b) ≡ Less
  full_less a b e lt =
      let same : own_module table a ≡ own_module table b = ap (λ m. option_map_or (module_name table) m []) e in
      ap (λ front. slice_cmp nat_cmp (front ++ 58 ∷ name_of table a) (full_name table b)) same
      ∙ cmp-behind (own_module table b) (58 ∷ name_of table a) (58 ∷ name_of table b) ∙ cmp-behind (58 ∷ []) (name_of table a) (name_of table b) ∙ lt

  names_less : (a b : ℕ) → is_before table (Node a) (Node b) ≡ true → slice_cmp nat_cmp (member_name table parent a) (member_name table parent b) ≡ Less
  names_less a b h =
      let (modules, names) = and_parts (is_same (module_of table a) (module_of table b)) (is_lt (slice_cmp nat_cmp (name_of table a) (name_of table b))) h in
      let same = same-is (module_of table a) (module_of table b) modules in
      let lt = less (slice_cmp nat_cmp (name_of table a) (name_of table b)) names in
      ap (λ q. slice_cmp nat_cmp (if q then full_name table a else name_of table a) (member_name table parent b)) (qualified_same a b same parent)
      ∙ elim (is_qualified table parent b) as (λ q. slice_cmp nat_cmp (if q then full_name table a else name_of table a) (if q then full_name table b else name_of table b) ≡ Less) [ true ↦ full_less a b same lt | false ↦ lt ]

-- ---- members that rise

abbrev onto : Members → Members → Members
onto no_members rest = rest
onto (member k d ms) rest = member k d (onto ms rest)

onto-none : (ms : Members) → onto ms no_members ≡ ms
onto-none no_members = refl
onto-none (member k d ms) = ap (member k d) (onto-none ms)

onto-onto : (ms more rest : Members) → onto (onto ms more) rest ≡ onto ms (onto more rest)
onto-onto no_members more rest = refl
onto-onto (member k d ms) more rest = ap (member k d) (onto-onto ms more rest)

-- the names of all members come before k
abbrev AreBelow : Text → Members → Type 0
AreBelow k no_members = Unit {0}
AreBelow k (member l d ms) = (slice_cmp nat_cmp l k ≡ Less) × AreBelow k ms

put_last : (k : Text) (d : Data) (ms : Members) → AreBelow k ms → put k d ms ≡ onto ms (member k d no_members)
put_last k d no_members h = refl
put_last k d (member l e ms) h =
    ap (λ o. match_ordering o (member k d (member l e ms)) (member l d ms) (member l e (put k d ms))) (turned l k h.0) ∙ ap (member l e) (put_last k d ms h.1)

below_more : (k l : Text) (ms : Members) → slice_cmp nat_cmp k l ≡ Less → AreBelow k ms → AreBelow l ms
below_more k l no_members lt h = tt
below_more k l (member m d ms) lt h = (nat_list_cmp_total.trans m k l h.0 lt, below_more k l ms lt h.1)

below_onto : (k l : Text) (d : Data) (ms : Members) → slice_cmp nat_cmp k l ≡ Less → AreBelow l ms → AreBelow l (onto ms (member k d no_members))
below_onto k l d no_members lt h = (lt, tt)
below_onto k l d (member m e ms) lt h = (h.0, below_onto k l d ms lt h.1)

module _ (table : SchemaTable) (parent : Option ℕ) (f : Teller) where
  abbrev name : ℕ → Text
  name n = member_name table parent n

  -- the names before the first child
  abbrev AreAhead : Members → Children → Type 0
  AreAhead ms [] = Unit {0}
  AreAhead ms ((Node n, t) ∷ es) = AreBelow (name n) ms
  AreAhead ms ((Key values, t) ∷ es) = Unit {0}
  AreAhead ms ((Item value, t) ∷ es) = Unit {0}

  abbrev with_all : Members → Children → Members
  with_all ms es = fold (λ ms (e : Step × Tree). with_child table parent f ms e.0 e.1) ms es

  in_order : (es : Children) (ms : Members) → do_names_rise table es ≡ true → AreAhead ms es → with_all ms es ≡ onto ms (members_in table parent f es)
  in_order [] ms h ahead = sym (onto-none ms)
  in_order ((Node n, t) ∷ []) ms h ahead = put_last (name n) (f n t) ms ahead
  in_order ((Key values, t) ∷ []) ms h ahead = sym (onto-none ms)
  in_order ((Item value, t) ∷ []) ms h ahead = sym (onto-none ms)
  in_order ((Node n, t) ∷ (Node m, u) ∷ es) ms h ahead =
      let (now, rest) = and_parts (is_before table (Node n) (Node m)) (do_names_rise table ((Node m, u) ∷ es)) h in
      let lt = names_less table parent n m now in
      let more = onto ms (member (name n) (f n t) no_members) in
      ap (λ ms. with_all ms ((Node m, u) ∷ es)) (put_last (name n) (f n t) ms ahead)
      ∙ in_order ((Node m, u) ∷ es) more rest (below_onto (name n) (name m) (f n t) ms lt (below_more (name n) (name m) ms lt ahead))
      ∙ onto-onto ms (member (name n) (f n t) no_members) (members_in table parent f ((Node m, u) ∷ es))
  in_order ((Node n, t) ∷ (Key values, u) ∷ es) ms h ahead = cc
  in_order ((Node n, t) ∷ (Item value, u) ∷ es) ms h ahead = cc
  in_order ((Key values, t) ∷ e ∷ es) ms h ahead = cc
  in_order ((Item value, t) ∷ e ∷ es) ms h ahead = cc

  ahead_none : (es : Children) → AreAhead no_members es
  ahead_none [] = tt
  ahead_none ((Node n, t) ∷ es) = tt
  ahead_none ((Key values, t) ∷ es) = tt
  ahead_none ((Item value, t) ∷ es) = tt

  pub names_in_order : (es : Children) → do_names_rise table es ≡ true → members_in table parent f es ≡ members_by_name table parent f es
  names_in_order es h = sym (in_order es no_members h (ahead_none es))

-- ---- the test, child by child

module _ (table : SchemaTable) (cs : List (Bor Child)) (i : ℕ) (a b : Bor Child) (low : 1 ≤ i) (high : i < length cs) (at_a : a ≡ get_or cs (i - 1) a) (at_b : b ≡ get_or cs i b) where
  two_seen : drop (i - 1) (seen cs) ≡ (a.now.step, a.now.node.value) ∷ (b.now.step, b.now.node.value) ∷ drop (i + 1) (seen cs)
  two_seen =
      let next : i - 1 + 1 ≡ i = omega arith in
      seen-drop cs (i - 1) a (omega arith) at_a ∙ ap (λ (es : Children). (a.now.step, a.now.node.value) ∷ es) (ap (λ n. drop n (seen cs)) next ∙ seen-drop cs i b high at_b)

  pub still_rise : is_before table a.now.step b.now.step ≡ true → do_names_rise table (drop (i + 1 - 1) (seen cs)) ≡ do_names_rise table (drop (i - 1) (seen cs))
  still_rise e =
      let here : i + 1 - 1 ≡ i = omega arith in
      let rest : Children = drop (i + 1) (seen cs) in
      ap (λ n. do_names_rise table (drop n (seen cs))) here ∙ ap (do_names_rise table) (seen-drop cs i b high at_b)
      ∙ sym (ap (do_names_rise table) two_seen ∙ ap (λ t. t && do_names_rise table ((b.now.step, b.now.node.value) ∷ rest)) e)

  pub rise_no_more : is_before table a.now.step b.now.step ≡ false → do_names_rise table (drop (i - 1) (seen cs)) ≡ false
  rise_no_more e = ap (do_names_rise table) two_seen ∙ ap (λ t. t && do_names_rise table ((b.now.step, b.now.node.value) ∷ drop (i + 1) (seen cs))) e

pub rise_to_end : (table : SchemaTable) (cs : List (Bor Child)) (i : ℕ) → 1 ≤ i → length cs ≤ i → do_names_rise table (drop (i - 1) (seen cs)) ≡ true
rise_to_end table [] i low high = ap (do_names_rise table) (seen-past [] (i - 1) (omega arith))
rise_to_end table (c ∷ []) i low high = elim (i - 1) as (λ n. do_names_rise table (drop n (seen (c ∷ []))) ≡ true) [ zero ↦ refl | suc n ↦ ap (do_names_rise table) (seen-past [] n (omega arith)) ]
rise_to_end table (c ∷ d ∷ cs) i low high =
    elim i as (λ i. 1 ≤ i → length (c ∷ d ∷ cs) ≤ i → do_names_rise table (drop (i - 1) (seen (c ∷ d ∷ cs))) ≡ true) [
      | zero ↦ λ low high. absurd (omega arith)
      | suc i ↦ λ low high. let e : suc i - 1 ≡ suc (i - 1) = omega arith in ap (λ n. do_names_rise table (drop n (seen (c ∷ d ∷ cs)))) e ∙ rise_to_end table (d ∷ cs) i (omega arith) (omega arith)
    ] low high

-- one child more put by its name
pub by_name-more : (table : SchemaTable) (parent : Option ℕ) (f : Teller) (cs : List (Bor Child)) (i : ℕ) (c : Bor Child) → i < length cs → c ≡ get_or cs i c
    → with_child table parent f (members_by_name table parent f (take i (seen cs))) c.now.step c.now.node.value ≡ members_by_name table parent f (take (i + 1) (seen cs))
by_name-more table parent f cs i c l at =
    sym (ap (members_by_name table parent f) (seen-at cs i c l at) ∙ fold-append (λ ms (e : Step × Tree). with_child table parent f ms e.0 e.1) no_members (take i (seen cs)) ((c.now.step, c.now.node.value) ∷ []))

pub by_name-all : (table : SchemaTable) (parent : Option ℕ) (f : Teller) (cs : List (Bor Child)) (i : ℕ) → length cs ≤ i → members_by_name table parent f (take i (seen cs)) ≡ members_by_name table parent f (seen cs)
by_name-all table parent f cs i l = ap (members_by_name table parent f) (take_all (seen cs) i (omega (arith, seen-length cs)))

-- ---- a map by name

module _ (table : SchemaTable) (parent : Option ℕ) where
  abbrev IsNamed : Entry → Type 0
  IsNamed e = (n : ℕ) × (e.1.now.step ≡ Node n) × (string_bytes e.0 ≡ member_name table parent n)

  same_name : (k l : String Global) → string_cmp k l ≡ Equal → string_bytes k ≡ string_bytes l
  same_name k l e = (bytes_eq-Decides (string_bytes k) (string_bytes l)).0 (sym (is_eq-slice_cmp (string_bytes k) (string_bytes l)) ∙ ap is_eq e)

  pub named-insert : (es : List Entry) (k : String Global) (c : Bor Child) → AreNamed table parent es → IsNamed (k, c) → AreNamed table parent (insert_entry string_cmp es k c)
  named-insert [] k c all one = (one, tt)
  named-insert (e ∷ es) k c all one = let (n, at_node, named) = one in elim (string_cmp k e.0) as (λ o. string_cmp k e.0 ≡ o → AreNamed table parent (match_ordering o ((k, c) ∷ e ∷ es) ((e.0, c) ∷ es) (e ∷ insert_entry string_cmp es k c))) [
    | Less ↦ λ is. (one, all)
    | Equal ↦ λ is. ((n, at_node, sym (same_name k e.0 is) ∙ named), all.1)
    | Greater ↦ λ is. (all.0, named-insert es k c all.1 one)
  ] refl

members-match : (f : Teller) (o : Ordering) (a b c : List Entry) → members_named f (match_ordering o a b c) ≡ match_ordering o (members_named f a) (members_named f b) (members_named f c)
members-match f Less a b c = refl
members-match f Equal a b c = refl
members-match f Greater a b c = refl

members-insert : (f : Teller) (es : List Entry) (k : String Global) (c : Bor Child)
    → members_named f (insert_entry string_cmp es k c) ≡ put (string_bytes k) (child_value f c.now.step c.now.node.value) (members_named f es)
members-insert f [] k c = refl
members-insert f (e ∷ es) k c =
    members-match f (string_cmp k e.0) _ _ _
    ∙ ap (λ ms. match_ordering (string_cmp k e.0) (member (string_bytes k) (child_value f c.now.step c.now.node.value) (members_named f (e ∷ es))) (member (string_bytes e.0) (child_value f c.now.step c.now.node.value) (members_named f es)) (member (string_bytes e.0) (child_value f e.1.now.step e.1.now.node.value) ms)) (members-insert f es k c)

-- one child more in the map
pub members-more : (table : SchemaTable) (parent : Option ℕ) (f : Teller) (es after : List Entry) (k : String Global) (c : Bor Child) (n : ℕ) → c.now.step ≡ Node n → string_bytes k ≡ member_name table parent n
    → after ≡ insert_entry string_cmp es k c → members_named f after ≡ with_child table parent f (members_named f es) c.now.step c.now.node.value
members-more table parent f es after k c n at_node named is =
    ap (members_named f) is ∙ members-insert f es k c
    ∙ (λ i. put (named i) (child_value f (at_node i) c.now.node.value) (members_named f es))
    ∙ ap (λ s. with_child table parent f (members_named f es) s c.now.node.value) (sym at_node)

-- the children of the map, in its order
pub members_of_map : (table : SchemaTable) (parent : Option ℕ) (f : Teller) (es : List Entry) → AreNamed table parent es → members_in table parent f (seen (values_of es)) ≡ members_named f es
members_of_map table parent f [] all = refl
members_of_map table parent f (e ∷ es) all =
    let (n, at_node, named) = all.0 in
    ap (λ s. then_child table parent f s e.1.now.node.value (members_in table parent f (seen (values_of es)))) at_node
    ∙ (λ i. member (sym named i) (child_value f (sym at_node i) e.1.now.node.value) (members_of_map table parent f es all.1 i))
