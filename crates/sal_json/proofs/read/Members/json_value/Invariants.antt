-- No member so far takes it.
use Rattle.std.proofs.Common.{◌≡◌, drop}
use Rattle.sal_json.specs.Read.{first_own, own_json}
use Rattle.serde_json.specs.View.{view}
use Rattle.sal_json.proofs.read.Members.json_value.Given as goal

abbrev pub invariant-loop-i : goal.invariant-loop-i
invariant-loop-i l = first_own (own_json l.self.schema.now l.self.«module» (view l.json)) 0 l.self.types.now ≡ first_own (own_json l.self.schema.now l.self.«module» (view l.json)) l.i (drop l.i l.self.types.now)
