-- A property of the types of type statements is one of the types of nodes, where each leafref has its target's type.
use Rattle.std.proofs.Common.{◌≡◌, ℕ, zero, suc, Bool, true, false, IsTrue, List, [], ◌∷◌, map, drop, length, Option, Some, None, refl, sym, subst, inl, inr}
use Rattle.std.specs.Prelude.{◌||◌, if◌then◌else◌}
use Rattle.std.specs.List.{list_all, enumerate_from}
use Rattle.std.proofs.lemmas.Bool.{cases_Bool}
use Rattle.sal_stmt.specs.declared.stmt.Stmt.{Stmt}
use Rattle.sal_restrict.specs.declared.yang_type.YangType.{YangType, out-YangType, roll-YangType}
use Rattle.sal_restrict.specs.declared.yang_type.YangType.TheOpen.{YangType-F}
use Rattle.sal_restrict.specs.declared.yang_type.YangType.TheViews.{out-roll-YangType}
use Rattle.sal_typedefs.specs.Restrictions.{Layer}
use Rattle.sal_typedefs.specs.Scopes.{Site}
use Rattle.sal_typedefs.specs.Types.{members_of, is_faulty, judgement}
use Rattle.sal_grouping.specs.declared.forest.Branch.{Branch}
use Rattle.sal_schema.specs.Kinds.{has_type}
use Rattle.sal_schema.proofs.Conjuncts.{and_first, and_second}
use Rattle.sal_module_table.specs.Filled.{empty, type_at, is_reference, filled_member, left_after, filled_members, filled_layer, node_type}
use Rattle.sal_module_table.specs.Leafrefs as leafrefs
use Rattle.sal_module_table.specs.Leafrefs.{stated_type, own_types, edges_of}
use Rattle.sal_module_table.specs.Nodes.{kind_of}
use Rattle.sal_module_table.proofs.Fillings.{type-zero, type-suc}
use Rattle.sal_build.specs.Laws.{of_each}
use Rattle.sal_build.proofs.Quiet.{both, all-joined}
use Rattle.sal_build.proofs.Shapes.{all-flat}

-- as its statement means it: a leafref passes too
abbrev pub stated : (Layer → Bool) → Layer → Bool
stated test layer = is_reference layer || test layer

-- a type by itself, and with the types of its targets
abbrev pub is_stated : (Layer → Bool) → YangType → Bool
is_stated test t = of_each (stated test) (out-YangType t)

abbrev pub is_closed : (Layer → Bool) → YangType → Bool
is_closed test t = of_each test (out-YangType t)

pub rolled : (test : Layer → Bool) (layer : Layer) → IsTrue (of_each test layer) → IsTrue (of_each test (out-YangType (roll-YangType layer)))
rolled test layer h = rw out-roll-YangType h

pub made : {X Y : Type 0} (f : X → Y) (test : Y → Bool) → ((x : X) → IsTrue (test (f x))) → (xs : List X) → IsTrue (list_all test (map f xs))
made f test each [] = refl
made f test each (x ∷ xs) = both (test (f x)) (list_all test (map f xs)) (each x) (made f test each xs)

-- ---- members

pub members-pass : (test : Layer → Bool) (t : YangType) (layer : Layer) → out-YangType t ≡ layer → IsTrue (of_each test layer) → IsTrue (list_all (λ m. test (out-YangType m)) (members_of t layer))
members-pass test t (YangType-F.Union members) e h = h
members-pass test t layer e h = both (test (out-YangType t)) true (subst (λ (l : Layer). IsTrue (test l)) (sym e) h) refl

-- ---- with the types of targets

at-pass : (p : YangType → Bool) → IsTrue (p empty) → (types : List YangType) (k : ℕ) → IsTrue (list_all p types) → IsTrue (p (type_at types k))
at-pass p e [] zero h = e
at-pass p e [] (suc k) h = e
at-pass p e (t ∷ types) zero h = and_first (p t) (list_all p types) h
at-pass p e (t ∷ types) (suc k) h = at-pass p e types k (and_second (p t) (list_all p types) h)

rest-pass : (p : YangType → Bool) (types : List YangType) → IsTrue (list_all p types) → IsTrue (list_all p (drop 1 types))
rest-pass p [] h = refl
rest-pass p (t ∷ types) h = and_second (p t) (list_all p types) h

left-pass : (p : YangType → Bool) (member : YangType) (types : List YangType) → IsTrue (list_all p types) → IsTrue (list_all p (left_after member types))
left-pass p member types h = elim (cases_Bool (is_reference (out-YangType member))) [ inl t ↦ rw t (rest-pass p types h) | inr f ↦ rw f h ]

module _ (test : Layer → Bool) (none : IsTrue (test YangType-F.Empty)) where
  empty-closed : IsTrue (is_closed test empty)
  empty-closed = rolled test YangType-F.Empty none

  pub empty-stated : IsTrue (is_stated test empty)
  empty-stated = rolled (stated test) YangType-F.Empty none

  one-filled : (member : YangType) (types : List YangType) → IsTrue (stated test (out-YangType member)) → IsTrue (list_all (is_closed test) types)
      → IsTrue (list_all (λ m. test (out-YangType m)) (filled_member member types))
  one-filled member types h all = elim (cases_Bool (is_reference (out-YangType member))) [
    | inl t ↦ rw t (members-pass test (type_at types 0) (out-YangType (type_at types 0)) refl (at-pass (is_closed test) empty-closed types 0 all))
    | inr f ↦ (let own : IsTrue (test (out-YangType member)) = rw f at h in rw f (both (test (out-YangType member)) true own refl))
  ]

  members-filled : (members types : List YangType) → IsTrue (list_all (λ m. stated test (out-YangType m)) members) → IsTrue (list_all (is_closed test) types)
      → IsTrue (list_all (λ m. test (out-YangType m)) (filled_members members types))
  members-filled [] types h all = refl
  members-filled (member ∷ members) types h all =
      let here = and_first (stated test (out-YangType member)) (list_all (λ m. stated test (out-YangType m)) members) h in
      let rest = and_second (stated test (out-YangType member)) (list_all (λ m. stated test (out-YangType m)) members) h in
      all-joined (λ m. test (out-YangType m)) (filled_member member types) (filled_members members (left_after member types)) (one-filled member types here all)
      (members-filled members (left_after member types) rest (left-pass (is_closed test) member types all))

  layer-filled : (t : YangType) (types : List YangType) (layer : Layer) → out-YangType t ≡ layer → IsTrue (of_each (stated test) layer) → IsTrue (list_all (is_closed test) types)
      → IsTrue (is_closed test (filled_layer t types layer))
  layer-filled t types (YangType-F.Leafref path) e h all = at-pass (is_closed test) empty-closed types 0 all
  layer-filled t types (YangType-F.Union members) e h all = rolled test (YangType-F.Union (filled_members members types)) (members-filled members types h all)
  layer-filled t types layer e h all = subst (λ (l : Layer). IsTrue (of_each test l)) (sym e) h

  node-filled : (own : List YangType) (edges : List (List ℕ)) → IsTrue (list_all (is_stated test) own) → (n k : ℕ) → IsTrue (is_closed test (node_type own edges n k))
  node-filled own edges h zero k = subst (λ (t : YangType). IsTrue (is_closed test t)) (sym (type-zero own edges k)) empty-closed
  node-filled own edges h (suc n) k =
      let t = type_at own k in
      subst (λ (t : YangType). IsTrue (is_closed test t)) (sym (type-suc own edges n k))
      (layer-filled t _ (out-YangType t) refl (at-pass (is_stated test) empty-stated own k h) (made (node_type own edges n) (is_closed test) (λ j. node-filled own edges h n j) _))

  -- ---- of all nodes

  pub types-filled : (stmts : List Stmt) (forest : List Branch) → IsTrue (list_all (is_stated test) (own_types stmts forest)) → IsTrue (list_all (is_closed test) (leafrefs.types_of stmts forest))
  types-filled stmts forest own =
      let one = λ (entry : ℕ × Branch). node-filled (own_types stmts forest) (edges_of stmts forest) own (length (edges_of stmts forest)) entry.0 in
      all-flat (is_closed test) (λ (entry : ℕ × Branch). if has_type (kind_of stmts entry.1) then leafrefs.node_type stmts forest entry.0 ∷ [] else []) (λ entry.
      elim (cases_Bool (has_type (kind_of stmts entry.1))) [ inl t ↦ rw t (both (is_closed test (leafrefs.node_type stmts forest entry.0)) true (one entry) refl) | inr f ↦ rw f refl ]) (enumerate_from 0 forest)

  module _ (stmts : List Stmt) (sound : (site : Site) → is_faulty (judgement stmts site) ≡ false → IsTrue (is_stated test (judgement stmts site).type)) where
    stated-passes : (site : Option Site) → IsTrue (is_stated test (stated_type stmts site))
    stated-passes None = empty-stated
    stated-passes (Some site) = elim (cases_Bool (is_faulty (judgement stmts site))) [ inl t ↦ rw t empty-stated | inr f ↦ rw f (sound site f) ]

    pub types-closed : (forest : List Branch) → IsTrue (list_all (is_closed test) (leafrefs.types_of stmts forest))
    types-closed forest = types-filled stmts forest (made (λ b. stated_type stmts (leafrefs.type_of stmts b)) (is_stated test) (λ b. stated-passes (leafrefs.type_of stmts b)) forest)
