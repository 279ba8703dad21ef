-- The operations at the prefixes of a path: puts and deletes of its store, which cover it, and reads.
use Rattle.std.specs.Prelude.{◌≡◌, ℕ, ◌+◌, Bool, ◌&&◌, List, [], ◌∷◌, Option, Some, None, take, if◌then◌else◌}
use Rattle.std.specs.List.{list_any}
use Rattle.std.specs.Option.{option_map, option_or}
use Rattle.std.specs.FinMap.{find}
use Rattle.sal_types.specs.declared.value.Step.{Step}
use Rattle.sal_types.specs.declared.value.Store.{Store}
use Rattle.sal_types.specs.Order.{path_cmp, path_eq}
use Rattle.sal_types.specs.Prefix.{is_prefix}
use Rattle.sal_rows.specs.declared.op.Act.{Act}
use Rattle.sal_rows.specs.declared.op.Op.{Op}
use Rattle.sal_rows.specs.Apply.{same_store, checks_path}

-- the operation passes the test, and its path is a prefix of p
abbrev pub stands_over : (Act → Bool) → Store → List Step → Op → Bool
stands_over t s p op = same_store op.store s && (t op.act && is_prefix op.path p)

-- the operation puts or deletes a prefix of p
abbrev pub covers : Store → List Step → Op → Bool
covers s p op = stands_over checks_path s p op

-- one of the operations before an index covers the path
abbrev pub is_covered : Store → List Op → List Step → ℕ → Bool
is_covered s ops p before = list_any (covers s p) (take before ops)

-- the operation passes the test at the path p itself
abbrev pub stands_at : (Act → Bool) → Store → List Step → Op → Bool
stands_at t s p op = same_store op.store s && (t op.act && path_eq p op.path)

-- the index of the first operation that does
abbrev pub first_at : (Act → Bool) → Store → List Op → List Step → Option ℕ
first_at t s [] p = None
first_at t s (op ∷ ops) p = if stands_at t s p op then Some 0 else option_map (λ n. 1 + n) (first_at t s ops p)

-- the numbers by path are the indexes of the first operations that pass the test there
abbrev pub IsFirst : (Act → Bool) → Store → List Op → List (List Step × ℕ) → Type 0
IsFirst t s ops places = (p : List Step) → find path_cmp p places ≡ first_at t s ops p

-- the number at p after `place` was recorded at the path w, unless there was one
abbrev pub noted_at : List Step → ℕ → List Step → Option ℕ → Option ℕ
noted_at w place p old = option_or old (if path_eq p w then Some place else None)

-- the number at p in a store after the index of an operation was recorded
abbrev pub noted : Store → Op → ℕ → List Step → Option ℕ → Option ℕ
noted s op place p old = option_or old (if same_store op.store s && path_eq p op.path then Some place else None)
