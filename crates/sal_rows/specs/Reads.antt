-- The reads of a transaction that its submission checks: each path that it read is in its list of operations once.
use Rattle.std.specs.Prelude.{Bool, ◌&&◌, ◌||◌, List, [], ◌∷◌, ◌++◌, if◌then◌else◌}
use Rattle.std.specs.List.{list_any}
use Rattle.sal_types.specs.declared.value.Store.{Store}
use Rattle.sal_types.specs.declared.value.Step.{Step}
use Rattle.sal_types.specs.Prefix.{is_prefix}
use Rattle.sal_rows.specs.declared.op.Act.TheVariants.{Read}
use Rattle.sal_rows.specs.declared.op.Op.{Op}
use Rattle.sal_rows.specs.declared.outcome.Mode.{Mode}
use Rattle.sal_rows.specs.declared.outcome.Mode.TheVariants.{Ro, Wo, Rw, Checked}
use Rattle.sal_rows.specs.Apply.{is_read, same_store}
use Rattle.sal_rows.specs.PathClash.{is_covered}

-- one of the operations read a prefix of the path in the store
abbrev pub was_read : List Op → Store → List Step → Bool
was_read ops s p = list_any (λ op. (same_store op.store s && is_read op.act) && is_prefix op.path p) ops

-- Another read of the path adds nothing: a put or delete of the transaction covers the path, or the transaction read a prefix of it.
abbrev pub is_known : List Op → Store → List Step → Bool
is_known ops s p = is_covered ops s p || was_read ops s p

abbrev pub read_of : Store → List Step → Op
read_of s p = record { store = s; path = p; act = Read }

-- the operations with a read of the path, unless it is known
abbrev pub with_read : Store → List Step → List Op → List Op
with_read s p ops = if is_known ops s p then ops else ops ++ read_of s p ∷ []

-- the operations after a read of the path
abbrev pub recorded : Mode → Store → List Step → List Op → List Op
recorded Ro s p ops = ops
recorded Wo s p ops = ops
recorded Rw s p ops = ops
recorded Checked s p ops = with_read s p ops
