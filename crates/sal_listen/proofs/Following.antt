-- Batches that follow one another.
use Rattle.std.proofs.Common.{◌≡◌, ℕ, zero, suc, ◌+◌, ◌-◌, ◌≤◌, Bool, List, [], ◌∷◌, ◌++◌, refl, ap, ◌∙◌, arith}
use Rattle.sal_types.specs.declared.value.Step.{Step}
use Rattle.sal_types.specs.declared.row.Row.{Row}
use Rattle.sal_types.specs.Tree.{under, IsAscending}
use Rattle.sal_rows.specs.declared.batch.Batch.{Batch}
use Rattle.sal_rows.specs.declared.batch.Part.{Part}
use Rattle.sal_rows.specs.Batches.{batch, part, parts_after}
use Rattle.sal_rows.specs.Patch.{with_parts}
use Rattle.sal_rows.proofs.Patched.{parts-append, with-after}
use Rattle.sal_listen.specs.Following.{AreBatches, end_of, parts_in, with_batches}

with-one : (own : Bool) (trees : ℕ → List Row) (p : List Step) (k to : ℕ) → ((j : ℕ) → IsAscending (trees j)) → k ≤ to → with_parts (under (trees k) p) (parts_after own trees p k (to - k)) ≡ under (trees to) p
with-one own trees p k to h le = with-after own trees p h (to - k) k ∙ ap (λ m. under (trees m) p) (let e : k + (to - k) ≡ to = omega (arith, le) in e)

pub with-all : (own : Bool) (trees : ℕ → List Row) (p : List Step) (k : ℕ) (bs : List Batch) → ((j : ℕ) → IsAscending (trees j)) → AreBatches own trees p k bs → with_batches (under (trees k) p) bs ≡ under (trees (end_of k bs)) p
with-all own trees p k [] h are = refl
with-all own trees p k (b ∷ bs) h are =
    ap (λ (rows : List Row). with_batches rows bs) (ap (λ (x : Batch). with_parts (under (trees k) p) x.lists) are.1 ∙ with-one own trees p k b.to h are.0)
    ∙ with-all own trees p b.to bs h are.2

pub ends-after : (own : Bool) (trees : ℕ → List Row) (p : List Step) (k : ℕ) (bs : List Batch) → AreBatches own trees p k bs → k ≤ end_of k bs
ends-after own trees p k [] are = omega arith
ends-after own trees p k (b ∷ bs) are = omega (arith, are.0, ends-after own trees p b.to bs are.2)

pub parts-all : (own : Bool) (trees : ℕ → List Row) (p : List Step) (k : ℕ) (bs : List Batch) → AreBatches own trees p k bs → parts_in bs ≡ parts_after own trees p k (end_of k bs - k)
parts-all own trees p k [] are = ap (parts_after own trees p k) (let e : 0 ≡ k - k = omega arith in e)
parts-all own trees p k (b ∷ bs) are =
    let last = end_of b.to bs in
    let after : b.to ≤ last = ends-after own trees p b.to bs are.2 in
    let at : b.to ≡ k + (b.to - k) = omega (arith, are.0) in
    let sum : (b.to - k) + (last - b.to) ≡ last - k = omega (arith, are.0, after) in
    ap (λ (x : Batch). x.lists ++ parts_in bs) are.1
    ∙ ap (λ (ps : List Part). parts_after own trees p k (b.to - k) ++ ps) (parts-all own trees p b.to bs are.2)
    ∙ ap (λ j. parts_after own trees p k (b.to - k) ++ parts_after own trees p j (last - b.to)) at
    ∙ parts-append own trees p (b.to - k) (last - b.to) k
    ∙ ap (parts_after own trees p k) sum

pub parts-stay : (own : Bool) (trees more : ℕ → List Row) (p : List Step) (n k : ℕ) → ((j : ℕ) → 1 ≤ n → j ≤ k + n → trees j ≡ more j) → parts_after own trees p k n ≡ parts_after own more p k n
parts-stay own trees more p zero k same = refl
parts-stay own trees more p (suc n) k same =
    let here : trees k ≡ more k = same k (omega arith) (omega arith) in
    let next : trees (k + 1) ≡ more (k + 1) = same (k + 1) (omega arith) (omega arith) in
    let rest : parts_after own trees p (k + 1) n ≡ parts_after own more p (k + 1) n = parts-stay own trees more p n (k + 1) (λ j some le. same j (omega arith) (omega (arith, le))) in
    λ i. part own (here i) (next i) p (k + 1) ++ rest i

pub batch-stays : (own : Bool) (trees more : ℕ → List Row) (p : List Step) (from to : ℕ) → ((j : ℕ) → j ≤ to → trees j ≡ more j) → batch own trees p from to ≡ batch own more p from to
batch-stays own trees more p from to same =
    let lists : parts_after own trees p from (to - from) ≡ parts_after own more p from (to - from) = parts-stay own trees more p (to - from) from (λ j some le. same j (omega (arith, some, le))) in
    λ i. record { from = from; to = to; lists = lists i }
