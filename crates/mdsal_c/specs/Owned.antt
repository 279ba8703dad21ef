-- What C owns of a session in addition to its pointer: the box, if there is a session. Assumes nothing: this is a definition.
use mir.Syntax.{Ty}
use base.Fml.{Fml, ftrue}
use denote.RattleType.{RattleType}
use denote.RawPtr.{Ptr}
use Rattle.std.specs.Box.Ownership.{box_owns}
use Rattle.std.specs.declared.option.Option.{Option}
use Rattle.std.specs.declared.option.Option.TheVariants.{None, Some}

abbrev pub held_owns : (Ty → Ptr → Fml) → (R : RattleType) → Ptr → Option R.Denot → Fml
held_owns token R p None = ftrue
held_owns token R p (Some x) = box_owns token R p x
