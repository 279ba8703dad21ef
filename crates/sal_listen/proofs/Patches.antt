-- The changes of a batch, done to rows.
use Rattle.std.proofs.Common.{◌≡◌, List, ap, ◌∙◌}
use Rattle.sal_types.specs.declared.row.Row.{Row}
use Rattle.sal_rows.specs.declared.batch.Batch.{Batch}
use Rattle.sal_rows.specs.Patch.{with_parts}
use Rattle.sal_rows.proofs.Patched.{with-batch}
use Rattle.sal_listen.specs.Mirrors.{CarriesOn}

pub carries-on : (b : Batch) (before after : List Row) → after ≡ with_parts before b.lists → CarriesOn b before after
carries-on b before after is trees p h batch was = is ∙ ap (λ rows. with_parts rows b.lists) was ∙ with-batch trees p b h batch
