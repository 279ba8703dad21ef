use Rattle.sal_json.specs.Named.{text_eq}
use Rattle.std.specs.List.{position}
use Rattle.sal_json.proofs.Parted.{number_of_name}
use Rattle.sal_json.proofs.named.with_name.Goals as goal

pub with_bit-requires : goal.with_bit-requires
with_bit-requires c = number_of_name c.args.positions.now (position (text_eq c.args.name.now) c.args.names.now) c.in-Some.position c.in-Some.ensures c.requires
