use Rattle.std.proofs.Common.{◌≡◌, drop}
use Rattle.serde_json.specs.Find.{as_str}
use Rattle.sal_script.proofs.Each.{each_from, before}
use Rattle.sal_script.proofs.Readers.{item_at}
use Rattle.sal_script.proofs.texts.texts_of.Given as goal

abbrev pub invariant-loop-value : goal.invariant-loop-value
invariant-loop-value l =
    before l.texts.items (each_from (item_at as_str l.name) l.value-index (drop l.value-index l.list)) ≡ each_from (item_at as_str l.name) 0 l.list
