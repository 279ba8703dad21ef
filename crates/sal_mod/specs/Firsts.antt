-- The indexes of the first operations at their paths, for both stores: of those that cover, and of reads.
use Rattle.std.specs.Prelude.{ℕ, Bool, List, Option, None, Some}
use Rattle.sal_types.specs.declared.value.Step.{Step}
use Rattle.sal_types.specs.declared.value.Store.{Store}
use Rattle.sal_types.specs.declared.value.Store.TheVariants.{Config, Oper}
use Rattle.sal_rows.specs.declared.op.Act.{Act}
use Rattle.sal_rows.specs.declared.op.Op.{Op}
use Rattle.sal_rows.specs.Apply.{checks_path, is_read}
use Rattle.sal_mod.specs.declared.covers.Covers.{Covers}
use Rattle.sal_mod.specs.declared.firsts.Firsts.{Firsts}
use Rattle.sal_mod.specs.Covers.{IsFirst}

-- the numbers of a store
abbrev pub places_in : Firsts → Store → List (List Step × ℕ)
places_in firsts Config = firsts.config
places_in firsts Oper = firsts.oper

-- the numbers by path are the indexes of the first of these operations that pass the test
abbrev pub AreFirstBy : (Act → Bool) → List Op → Firsts → Type 0
AreFirstBy t ops firsts = (s : Store) → IsFirst t s ops (places_in firsts s)

abbrev pub AreFirst : List Op → Covers → Type 0
AreFirst ops covers = AreFirstBy checks_path ops covers.writes × AreFirstBy is_read ops covers.reads

-- the same, if there are such numbers
abbrev pub AreFirstIn : List Op → Option Covers → Type 0
AreFirstIn ops None = Unit {0}
AreFirstIn ops (Some covers) = AreFirst ops covers
