-- Where a path differs over spans of commits. The parents above it are tested in `Clash`.
use Rattle.std.specs.Prelude.{ℕ, ◌<◌, ◌≤◌, Bool, IsTrue, not, ◌&&◌, List, find, Option, unwrap_or}
use Rattle.std.specs.List.{list_any}
use Rattle.std.specs.Option.{option_map}
use Rattle.sal_types.specs.declared.value.Store.{Store}
use Rattle.sal_types.specs.declared.value.Step.{Step}
use Rattle.sal_types.specs.declared.row.Row.{Row}
use Rattle.sal_types.specs.Prefix.{is_prefix}
use Rattle.sal_rows.specs.declared.clash.Span.{Span}
use Rattle.sal_rows.specs.declared.op.Op.{Op}
use Rattle.sal_rows.specs.declared.outcome.ClashKind.{ClashKind}
use Rattle.sal_rows.specs.Apply.{same_store, checks_path}
use Rattle.sal_rows.specs.Commits.{touches_at, is_unchanged, last_touch, kind_over}

-- a path that differs, how, and the last commit that touched it
pub record Difference : Type 0 where
  pub store : Store
  pub path : List Step
  pub kind : ClashKind
  pub commit : ℕ

-- an earlier put or delete of the same store is at a prefix of the path
abbrev pub is_covered : List Op → Store → List Step → Bool
is_covered earlier s p = list_any (λ op. (same_store op.store s && checks_path op.act) && is_prefix op.path p) earlier

module _ (opening : Store → List Row) (commits : List (List Op)) where
  -- the first span over which p is not unchanged, and how
  abbrev pub difference : Store → List Span → List Step → Option Difference
  difference s spans p =
      option_map (λ span. record { store = s; path = p; kind = kind_over opening commits s p span; commit = unwrap_or (last_touch opening commits s p span) 0 })
      (find (λ span. not (is_unchanged opening commits s p span)) spans)

  -- the named commit is in the span and touched the path
  abbrev pub IsNamedIn : Difference → Span → Type 0
  IsNamedIn d span = (span.from < d.commit) × (d.commit ≤ span.to) × IsTrue (touches_at opening commits d.store d.path d.commit)
