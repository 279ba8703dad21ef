-- A map with lists of steps for keys, by the steps.
use Rattle.std.proofs.Common.{◌≡◌, ℕ, List, [], ◌∷◌, Some, refl, ap, cond}
use Rattle.std.specs.Ordering.{is_eq, match_ordering}
use Rattle.std.specs.declared.cmp.Ordering.TheVariants.{Less, Equal, Greater}
use Rattle.std.specs.declared.vec.Vec.{Vec}
use Rattle.std.specs.declared.alloc.Global.{Global}
use Rattle.std.specs.BTreeMap.{insert_entry}
use Rattle.std.specs.Map.{lookup}
use Rattle.std.specs.FinMap.{find, put}
use Rattle.std.specs.FinMap.Entries.{by_order}
use Rattle.sal_types.specs.declared.value.Step.{Step}
use Rattle.sal_types.specs.Order.{path_cmp}
use Rattle.sal_mod.specs.Places.{by_path}

pub lookup-by_path : (p : List Step) (es : List (Vec Step Global × ℕ)) → lookup (λ k. is_eq (path_cmp p k.items)) es ≡ find path_cmp p (by_path es)
lookup-by_path p [] = refl
lookup-by_path p (e ∷ es) = ap (cond (is_eq (path_cmp p e.0.items)) (Some e.1)) (lookup-by_path p es)

pub insert-by_path : (k : Vec Step Global) (v : ℕ) (es : List (Vec Step Global × ℕ)) → by_path (insert_entry (λ x y. path_cmp x.items y.items) es k v) ≡ put path_cmp k.items v (by_path es)
insert-by_path k v [] = refl
insert-by_path k v (e ∷ es) = elim (path_cmp k.items e.0.items) as (λ r. by_path (match_ordering r ((k, v) ∷ e ∷ es) ((e.0, v) ∷ es) (e ∷ insert_entry (λ x y. path_cmp x.items y.items) es k v)) ≡ by_order r ((k.items, v) ∷ by_path (e ∷ es)) ((e.0.items, v) ∷ by_path es) ((e.0.items, e.1) ∷ put path_cmp k.items v (by_path es))) [
  | Less ↦ refl
  | Equal ↦ refl
  | Greater ↦ ap (λ (l : List (List Step × ℕ)). (e.0.items, e.1) ∷ l) (insert-by_path k v es)
]
