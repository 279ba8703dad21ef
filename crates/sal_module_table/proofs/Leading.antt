-- Leafrefs of nodes, from one node to the next.
use Rattle.std.proofs.Common.{◌≡◌, ℕ, ◌+◌, ◌<◌, List, [], ◌∷◌, ◌++◌, length, take, get_or, map, Bool, Option, if◌then◌else◌, refl, sym, ap, ◌∙◌, arith, slice_index_or, append_assoc, append-nil, None}
use Rattle.std.specs.List.{flat_map}
use Rattle.std.specs.Option.{option_to_list}
use Rattle.std.specs.declared.alloc.Global.{Global}
use Rattle.std.specs.declared.vec.Vec.{Vec}
use Rattle.sal_grouping.specs.Indexes.{lists}
use Rattle.std.proofs.lemmas.List.{get_or-map, length-map, map-append, take_more}
use Rattle.sal_stmt.specs.declared.stmt.Stmt.{Stmt}
use Rattle.sal_module.specs.declared.fault.Found.{Found}
use Rattle.sal_module.specs.Faults.{least}
use Rattle.sal_restrict.specs.declared.yang_type.YangType.{YangType}
use Rattle.sal_grouping.specs.declared.forest.Branch.{Branch}
use Rattle.sal_grouping.proofs.Places.{numbered, least_more}
use Rattle.sal_typedefs.specs.declared.leafrefs.Leafref.{Leafref}
use Rattle.sal_typedefs.specs.Leafrefs.{leafref_seen}
use Rattle.sal_module_table.specs.Leafrefs.{Reference, seen, references_at, target_of, targets_of, edges_of, leafref_faults, node_faults, own_types, node_type}
use Rattle.sal_module_table.specs.Filled.{type_at, type_of_node}
use Rattle.sal_module_table.specs.Nodes.{kind_of}
use Rattle.sal_schema.specs.Kinds.{has_type}
use Rattle.sal_typedefs.proofs.EntryLists.{least-two}
use Rattle.sal_module_table.proofs.Seen.{numbered-more}

-- the leafrefs of the node of this number
pub here : (stmts : List Stmt) (forest : List Branch) (all : List (List Reference)) (k : ℕ) (b : Branch) → all ≡ map (references_at stmts) forest → k < length forest
    → b ≡ get_or forest k b → slice_index_or all k [] ≡ references_at stmts b
here stmts forest all k b are h is =
    ap (λ xs. slice_index_or xs k []) are ∙ get_or-map (references_at stmts) forest k b [] h ∙ ap (references_at stmts) (sym is)

-- as many as nodes
count-from : {X A : Type 0} (f : ℕ → X → A) (n : ℕ) (xs : List X) → length (numbered (λ k x. f k x ∷ []) n xs) ≡ length xs
count-from f n [] = refl
count-from f n (x ∷ xs) = let rest = count-from f (n + 1) xs in omega (arith, rest)

pub count-edges : (stmts : List Stmt) (forest : List Branch) → length (edges_of stmts forest) ≡ length forest
count-edges stmts forest = count-from (targets_of stmts forest) 0 forest

-- ---- one node more

module _ (stmts : List Stmt) (forest : List Branch) (k : ℕ) (b : Branch) (all : List (List Reference)) (own : List Reference)
    (h : k < length forest) (is : b ≡ get_or forest k b) (are : all ≡ map (references_at stmts) forest) (at : own ≡ slice_index_or all k []) where
  same : own ≡ references_at stmts b
  same = at ∙ here stmts forest all k b are h is

  pub edges-more : (old new : List (Vec ℕ Global)) (t : Vec ℕ Global) → lists old ≡ numbered (λ k b. targets_of stmts forest k b ∷ []) 0 (take k forest) → new ≡ old ++ t ∷ []
      → t.items ≡ flat_map (λ one. option_to_list (target_of stmts forest k b one)) own → lists new ≡ numbered (λ k b. targets_of stmts forest k b ∷ []) 0 (take (k + 1) forest)
  edges-more old new t so_far put found =
      let targets : t.items ≡ targets_of stmts forest k b = found ∙ ap (λ ones. flat_map (λ one. option_to_list (target_of stmts forest k b one)) ones) same in
      numbered-more (λ k b. targets_of stmts forest k b ∷ []) forest k b (lists old) (lists new) h is so_far
      (ap lists put ∙ map-append (λ (v : Vec ℕ Global). v.items) old (t ∷ []) ∙ ap (λ ts. lists old ++ ts ∷ []) targets)

  pub fault-more : (edges : List (List ℕ)) (best next : Option Found) → best ≡ least None (numbered (node_faults stmts forest edges) 0 (take k forest))
      → next ≡ least best (flat_map (leafref_faults stmts forest edges k b) own) → next ≡ least None (numbered (node_faults stmts forest edges) 0 (take (k + 1) forest))
  fault-more edges best next so_far step =
      least_more (node_faults stmts forest edges) forest k b None best next h is so_far (step ∙ ap (λ ones. least best (flat_map (leafref_faults stmts forest edges k b) ones)) same)

-- ---- one leafref more

flat_last : (f : Reference → List Found) (xs : List Reference) (x : Reference) → flat_map f (xs ++ x ∷ []) ≡ flat_map f xs ++ f x
flat_last f [] x = append-nil (f x)
flat_last f (y ∷ xs) x = ap (λ rest. f y ++ rest) (flat_last f xs x) ∙ sym (append_assoc (f y) (flat_map f xs) (f x))

pub leafref-more : (f : Reference → List Found) (all : List Leafref) (i : ℕ) (one : Leafref) (start best next : Option Found) → i < length all → one ≡ get_or all i one
    → best ≡ least start (flat_map f (seen (take i all))) → next ≡ least best (f (leafref_seen one)) → next ≡ least start (flat_map f (seen (take (i + 1) all)))
leafref-more f all i one start best next h is so_far step =
    step ∙ ap (λ b. least b (f (leafref_seen one))) so_far ∙ least-two start (flat_map f (seen (take i all))) (f (leafref_seen one)) ∙ ap (least start) (sym last)
  where
    last : flat_map f (seen (take (i + 1) all)) ≡ flat_map f (seen (take i all)) ++ f (leafref_seen one)
    last = ap (λ ones. flat_map f (seen ones)) (take_more all i one h) ∙ ap (λ x. flat_map f (seen (take i all ++ x ∷ []))) (sym is)
        ∙ ap (flat_map f) (map-append leafref_seen (take i all) (one ∷ [])) ∙ flat_last f (seen (take i all)) (leafref_seen one)

-- ---- the type of one node more

abbrev pub typed_one : List Stmt → List Branch → ℕ → Branch → List YangType
typed_one stmts forest k b = if has_type (kind_of stmts b) then node_type stmts forest k ∷ [] else []

pub types-more : (stmts : List Stmt) (forest : List Branch) (own : List YangType) (edges : List (Vec ℕ Global)) (filled : List YangType) (k : ℕ) (b : Branch) (typed : Bool) (old new : List YangType)
    → own ≡ own_types stmts forest → lists edges ≡ edges_of stmts forest → ((k : ℕ) → k < length edges → type_at filled k ≡ type_of_node own (lists edges) k) → k < length forest → b ≡ get_or forest k b
    → typed ≡ has_type (kind_of stmts b) → old ≡ numbered (typed_one stmts forest) 0 (take k forest) → new ≡ old ++ (if typed then type_at filled k ∷ [] else [])
    → new ≡ numbered (typed_one stmts forest) 0 (take (k + 1) forest)
types-more stmts forest own edges filled k b typed old new owns leads each h is tests so_far put =
    let lt : k < length edges = omega (arith, h, length-map edges (λ (v : Vec ℕ Global). v.items), ap length leads, count-edges stmts forest) in
    let type : type_at filled k ≡ node_type stmts forest k = each k lt ∙ ap (λ ts. type_of_node ts (lists edges) k) owns ∙ ap (λ es. type_of_node (own_types stmts forest) es k) leads in
    let step : new ≡ old ++ typed_one stmts forest k b =
    put ∙ ap (λ t. old ++ (if typed then t ∷ [] else [])) type ∙ ap (λ c. old ++ (if c then node_type stmts forest k ∷ [] else [])) tests in
    numbered-more (typed_one stmts forest) forest k b old new h is so_far step
