-- No member so far takes it.
use Rattle.std.proofs.Common.{◌≡◌, drop}
use Rattle.sal_json.specs.Read.{first_own, own_text}
use Rattle.sal_json.proofs.read.Members.text_value.Given as goal

abbrev pub invariant-loop-i : goal.invariant-loop-i
invariant-loop-i l = first_own (own_text l.self.schema.now l.self.«module» l.text) 0 l.self.types.now ≡ first_own (own_text l.self.schema.now l.self.«module» l.text) l.i (drop l.i l.self.types.now)
