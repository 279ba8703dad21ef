-- The schemas before the index have readers.
use Rattle.std.proofs.Common.{◌≡◌, false, length, take}
use Rattle.std.specs.List.{list_any}
use Rattle.sal_client.specs.Malformed.{is_malformed, shared_tables}
use Rattle.sal_client.proofs.readers.add_all.Given as goal

abbrev pub invariant-loop-schema : goal.invariant-loop-schema
invariant-loop-schema l = record {
  long : length l.list.items ≡ l.schema-index;
  made : l.list.items ≡ take l.schema-index (shared_tables l.schemas);
  formed : list_any is_malformed l.list.items ≡ false;
}
