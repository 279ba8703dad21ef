-- The leafs of a `unique` statement in the entries of a list.
use Rattle.std.proofs.Common.{◌≡◌, ℕ, ◌+◌, ◌<◌, ◌≤◌, true, false, List, [], ◌∷◌, ◌++◌, inl, inr, length, take, get_or, map, Option, Some, refl, sym, ap, ◌∙◌, append_assoc}
use Rattle.std.specs.Prelude.{is_some, if◌then◌else◌}
use Rattle.std.specs.List.{flat_map}
use Rattle.std.specs.Option.{option_to_list}
use Rattle.std.specs.FinMap.{find}
use Rattle.std.specs.Borrow.{Bor}
use Rattle.std.specs.declared.alloc.Global.{Global}
use Rattle.std.specs.declared.vec.Vec.{Vec}
use Rattle.sal_types.specs.declared.value.Step.{Step}
use Rattle.sal_types.specs.declared.value.Step.TheVariants.{Node}
use Rattle.sal_types.specs.declared.value.Cell.{Cell}
use Rattle.sal_types.specs.Order.{step_cmp}
use Rattle.sal_node.specs.Tree.{Tree, pairs}
use Rattle.sal_node.specs.Shape.{seen}
use Rattle.sal_node.specs.declared.node.Child.{Child}
use Rattle.sal_schema.specs.declared.table.SchemaTable.{SchemaTable}
use Rattle.sal_tree.specs.Grow.{at, kid, kids_in, IsSound}
use Rattle.sal_tree.proofs.Laws.{sorted-kids, sound-kid}
use Rattle.sal_rules.specs.Contexts.{way_in_entry}
use Rattle.sal_check.specs.Nodes.{seen_in, own_steps}
use Rattle.sal_rules.specs.Rules.{cells_at, combinations}
use Rattle.sal_rules.specs.Seen.{further}
use Rattle.sal_check.specs.Uniques.{cells_in, all_cells_in, ways_in, combination, all_combinations}
use Rattle.sal_check.proofs.Counted.{seen-at, seen-all}
use Rattle.sal_check.proofs.Members.{In}
use Rattle.sal_check.proofs.SeenTrees.{further-seen}
use Rattle.sal_check.proofs.Walked.{find-in}
use Rattle.sal_node.proofs.Entries.{Entries}

pub all_cells_in-push : (vs : List (Vec (Bor Cell) Global)) (v : Vec (Bor Cell) Global) → all_cells_in (vs ++ v ∷ []) ≡ all_cells_in vs ++ cells_in v.items ∷ []
all_cells_in-push [] v = refl
all_cells_in-push (w ∷ vs) v = ap (λ (l : List (List Cell)). cells_in w.items ∷ l) (all_cells_in-push vs v)

pub ways_in-push : (vs : List (Vec Step Global)) (v : Vec Step Global) → ways_in (vs ++ v ∷ []) ≡ ways_in vs ++ v.items ∷ []
ways_in-push [] v = refl
ways_in-push (w ∷ vs) v = ap (λ (l : List (List Step)). w.items ∷ l) (ways_in-push vs v)

pub combination-some : (ways : List (List Step)) (e : Step × Tree) (cs : List Cell) → is_some e.1.cell ≡ true → cells_at (seen_in (Some e.1)) ways ≡ Some cs → cs ∷ [] ≡ combination ways e
combination-some ways e cs filled found = sym ((λ i. if filled i then option_to_list (found i) else []))

all_combinations-append : (ways : List (List Step)) (xs ys : Entries) → all_combinations ways (xs ++ ys) ≡ all_combinations ways xs ++ all_combinations ways ys
all_combinations-append ways [] ys = refl
all_combinations-append ways (e ∷ xs) ys = ap (λ (l : List (List Cell)). combination ways e ++ l) (all_combinations-append ways xs ys) ∙ sym (append_assoc (combination ways e) (all_combinations ways xs) (all_combinations ways ys))

append_none : (xs : List (List Cell)) → xs ++ [] ≡ xs
append_none [] = refl
append_none (x ∷ xs) = ap (λ (l : List (List Cell)). x ∷ l) (append_none xs)

-- one more child
pub combinations-more : (ways : List (List Step)) (cs : List (Bor Child)) (i : ℕ) (c : Bor Child) (was now : List (List Cell)) → i < length cs → c ≡ get_or cs i c
    → was ≡ all_combinations ways (take i (seen cs)) → now ≡ was ++ combination ways (c.now.step, c.now.node.value) → now ≡ all_combinations ways (take (i + 1) (seen cs))
combinations-more ways cs i c was now l at before is =
    let e : Step × Tree = (c.now.step, c.now.node.value) in
    is ∙ (λ k. before k ++ combination ways e)
    ∙ ap (λ (l : List (List Cell)). all_combinations ways (take i (seen cs)) ++ l) (sym (append_none (combination ways e)))
    ∙ sym (all_combinations-append ways (take i (seen cs)) (e ∷ []))
    ∙ ap (all_combinations ways) (sym (seen-at cs i c l at))

pub combinations-all : (ways : List (List Step)) (o : Option Tree) (t : Tree) (cs : List (Bor Child)) (i : ℕ) (now : List (List Cell)) → o ≡ Some t → seen cs ≡ pairs t.kids → length cs ≤ i
    → now ≡ all_combinations ways (take i (seen cs)) → now ≡ all_combinations ways (kids_in o)
combinations-all ways o t cs i now is same l was = was ∙ ap (all_combinations ways) (seen-all cs i l ∙ same) ∙ sym (ap (λ o. all_combinations ways (kids_in o)) is)

-- as seen from further up
module _ (o : Option Tree) (n : ℕ) (ways : List (List Step)) where
  abbrev list : Option Tree
  list = kid o (Node n)

  abbrev from_here : Step → List (List Cell)
  from_here entry = option_to_list (cells_at (further (seen_in o) (Node n ∷ entry ∷ [])) ways)

  one_entry : (e : Step × Tree) → find step_cmp e.0 (kids_in list) ≡ Some e.1 → from_here e.0 ≡ option_to_list (cells_at (seen_in (Some e.1)) ways)
  one_entry e is = ap (λ see. option_to_list (cells_at see ways)) (further-seen o (Node n ∷ e.0 ∷ []) ∙ ap seen_in is)

  some_entries : (es : Entries) → ((e : Step × Tree) → In e es → find step_cmp e.0 (kids_in list) ≡ Some e.1) → flat_map from_here (own_steps es) ≡ all_combinations ways es
  some_entries [] known = refl
  some_entries (e ∷ es) known = elim (is_some e.1.cell) as (λ b. flat_map from_here (if b then e.0 ∷ own_steps es else own_steps es) ≡ (if b then option_to_list (cells_at (seen_in (Some e.1)) ways) else []) ++ all_combinations ways es) [
    | true ↦ λ k. one_entry e (known e (inl refl)) k ++ some_entries es (λ d i. known d (inr i)) k
    | false ↦ some_entries es (λ d i. known d (inr i))
  ]

pub combinations-seen : (table : SchemaTable) (o : Option Tree) (n : ℕ) (leafs : List ℕ) → IsSound o → combinations table (seen_in o) n leafs ≡ all_combinations (map (way_in_entry table) leafs) (kids_in (kid o (Node n)))
combinations-seen table o n leafs sound =
    some_entries o n (map (way_in_entry table) leafs) (kids_in (kid o (Node n))) (λ e i. find-in e.0 e.1 (kids_in (kid o (Node n))) (sorted-kids (kid o (Node n)) (sound-kid o (Node n) sound)) i)
