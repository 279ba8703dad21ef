-- The types of nodes, in an order in which a target is before the nodes that take its type.
use Rattle.std.proofs.Common.{◌≡◌, ◌≢◌, ℕ, zero, suc, ◌+◌, ◌-◌, ◌<◌, ◌==◌, List, [], ◌∷◌, map, length, get_or, Bool, true, refl, sym, ap, ◌∙◌, inl, inr, arith, get_or-set_other, get_or-set_same}
use Rattle.std.proofs.Math.ListN.{set}
use Rattle.std.specs.Prelude.{if◌then◌else◌}
use Rattle.std.specs.List.{list_all}
use Rattle.std.proofs.lemmas.Bool.{cases_Bool, and_parts}
use Rattle.sal_restrict.specs.declared.yang_type.YangType.{YangType}
use Rattle.sal_module_table.specs.Orders.{rank_of, IsOrdered}
use Rattle.sal_module_table.specs.Filled.{empty, type_at, filled, filled_at, node_type, type_of_node}
use Rattle.sal_module_table.proofs.Derivations.{equal, unequal}
use Rattle.sal_module_table.proofs.Ranked.{values-more}

pub type-zero : (own : List YangType) (edges : List (List ℕ)) (k : ℕ) → node_type own edges 0 k ≡ empty
unfolding node_type
type-zero own edges k = refl

pub type-suc : (own : List YangType) (edges : List (List ℕ)) (n k : ℕ) → node_type own edges (suc n) k ≡ filled_at own edges (node_type own edges n) k
unfolding node_type
type-suc own edges n k = refl

pub type-some : (own : List YangType) (edges : List (List ℕ)) (n k : ℕ) → 0 < n → node_type own edges n k ≡ filled_at own edges (node_type own edges (n - 1)) k
type-some own edges zero k h = absurd (omega arith)
type-some own edges (suc n) k h = let under : suc n - 1 ≡ n = omega arith in rw under (type-suc own edges n k)

map-same : {A : Type 0} (test : ℕ → Bool) (f g : ℕ → A) (xs : List ℕ) → list_all test xs ≡ true → ((b : ℕ) → test b ≡ true → f b ≡ g b) → map f xs ≡ map g xs
map-same test f g [] all agree = refl
map-same test f g (x ∷ xs) all agree =
    let here = agree x (and_parts (test x) (list_all test xs) all).0 in
    let rest = map-same test f g xs (and_parts (test x) (list_all test xs) all).1 agree in
    ap (λ y. y ∷ map f xs) here ∙ ap (λ ys. g x ∷ ys) rest

alike : (own : List YangType) (edges : List (List ℕ)) (test : ℕ → Bool) (f g : ℕ → YangType) (i : ℕ) → list_all test (get_or edges i []) ≡ true → ((b : ℕ) → test b ≡ true → f b ≡ g b)
    → filled_at own edges f i ≡ filled_at own edges g i
alike own edges test f g i all agree = ap (filled (type_at own i)) (map-same test f g (get_or edges i []) all agree)

pub types-more : (edges : List (List ℕ)) (ranks order : List ℕ) (good : IsOrdered edges ranks order) (own rows next : List YangType) (r i : ℕ) → i ≡ get_or order r (length edges)
    → ((j : ℕ) → j < length edges → rank_of ranks j < r → type_at rows j ≡ type_of_node own edges j)
    → ((k : ℕ) → k < length edges → type_at next k ≡ (if i == k then filled_at own edges (type_at rows) k else type_at rows k))
    → (j : ℕ) → j < length edges → rank_of ranks j < r + 1 → type_at next j ≡ type_of_node own edges j
types-more edges ranks order good own rows next r i is known put =
    values-more edges ranks order good empty (filled_at own edges) (node_type own edges) (type-suc own edges) (alike own edges) rows next r i is known put

pub put-type : (own : List YangType) (edges : List (List ℕ)) (all : List YangType) (k : ℕ) (t : YangType) → k < length all → t ≡ filled_at own edges (type_at all) k
    → (j : ℕ) → type_at (set all k t) j ≡ (if k == j then filled_at own edges (type_at all) j else type_at all j)
put-type own edges all k t h is j = elim (cases_Bool (k == j)) [
  | inl e ↦
      let here : k ≡ j = equal k j e in
      rw e (rw (← here) (rw get_or-set_same is))
  | inr e ↦
      let other : j ≢ k = λ same. unequal k j e (sym same) in
      rw e (rw get_or-set_other refl)
]
