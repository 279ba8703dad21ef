-- A number past the nodes of a table is that of no parent.
use Rattle.std.proofs.Common.{◌≡◌, ℕ, zero, suc, ◌+◌, ◌<◌, ◌≤◌, List, [], ◌∷◌, length, get_or, Option, None, Some, if◌then◌else◌, refl, ap, ◌∙◌, arith}
use Rattle.std.specs.Option.{IfSome}
use Rattle.std.proofs.lemmas.Bool.{ne_eqb}
use Rattle.sal_schema.specs.declared.table.NodeInfo.{NodeInfo}
use Rattle.sal_schema.specs.declared.table.SchemaTable.{SchemaTable}
use Rattle.sal_schema.specs.Table.{child_at, children_of, each_from, is_same}
use Rattle.sal_schema.specs.Valid.{IsTable}
use Rattle.sal_schema.proofs.Facts.{parent_before}

no_child : (parent : Option ℕ) (i n : ℕ) → IfSome parent (λ p. p < n) → (if is_same parent (Some n) then i ∷ [] else []) ≡ []
no_child None i n below = refl
no_child (Some p) i n below = ap (λ b. if b then i ∷ [] else []) (ne_eqb p n (λ same. absurd (omega (arith, below, same))))

no_children : (i n : ℕ) (nodes : List NodeInfo) → ((k : ℕ) (node : NodeInfo) → k < length nodes → node ≡ get_or nodes k node → IfSome node.parent (λ p. p < n)) → each_from (child_at (Some n)) i nodes ≡ []
no_children i n [] each = refl
no_children i n (x ∷ nodes) each =
    let rest : each_from (child_at (Some n)) (i + 1) nodes ≡ [] = no_children (i + 1) n nodes (λ k node h at. each (suc k) node (omega (arith, h)) at) in
    let first = no_child x.parent i n (each 0 x (omega arith) refl) in
    rw first rest

below : (parent : Option ℕ) (k n : ℕ) → k ≤ n → IfSome parent (λ p. p < k) → IfSome parent (λ p. p < n)
below None k n h is = tt
below (Some p) k n h is = omega (arith, h, is)

pub childless : (table : SchemaTable) (n : ℕ) → IsTable table → length table.nodes ≤ n → children_of table (Some n) ≡ []
childless table n good past =
    no_children 0 n table.nodes (λ k node h at. below node.parent k n (omega (arith, h, past)) (parent_before table table.nodes k node good refl h at))
