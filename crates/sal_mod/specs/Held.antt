-- The operations of an owned or a shared list.
use Rattle.std.specs.Prelude.{Bool, List}
use Rattle.std.specs.List.{list_any}
use Rattle.sal_rows.specs.declared.op.Op.{Op}
use Rattle.sal_rows.specs.Apply.{is_read}
use Rattle.sal_mod.specs.declared.held.Held.{Held}
use Rattle.sal_mod.specs.declared.held.Held.TheVariants.{Own, Shared}

abbrev pub held : Held → List Op
held (Own list) = list.items
held (Shared list) = list.value

-- one of the operations is a read
abbrev pub has_reads : List Op → Bool
has_reads ops = list_any (λ op. is_read op.act) ops
