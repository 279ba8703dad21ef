use Rattle.std.proofs.Common.{sym, arith}
use Rattle.sal_json.proofs.Nulls.{many_values}
use Rattle.sal_json.proofs.json_read.is_one_null.Goals as goal

pub returns-in_default-2 : goal.returns-in_default-2
returns-in_default-2 c = sym (many_values c.args.list.now (omega (arith, c.in_default.len_at_least)))
