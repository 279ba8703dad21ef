-- The code's result for a type statement.
use Rattle.std.specs.Prelude.{◌≡◌, ⊤, ℕ, true, false, List, [], ◌∷◌, ◌++◌, Option, Some, None}
use Rattle.std.specs.List.{flat_map}
use Rattle.sal_stmt.specs.declared.stmt.Stmt.{Stmt}
use Rattle.sal_module.specs.Statements.{argument_of, subs_of}
use Rattle.sal_module.specs.declared.fault.Found.{Found}
use Rattle.sal_module.specs.Faults.{least, better}
use Rattle.sal_restrict.specs.declared.yang_type.YangType.{YangType, out-YangType, roll-YangType}
use Rattle.sal_typedefs.specs.declared.judgement.Judgement.{Judgement}
use Rattle.sal_typedefs.specs.declared.judgement.Basis.{Basis}
use Rattle.sal_restrict.specs.declared.yang_type.YangType.TheOpen.{YangType-F}
use Rattle.sal_typedefs.specs.declared.builtin.Builtin.{Builtin}
use Rattle.sal_typedefs.specs.Builtins.{builtin_of, type_of}
use Rattle.sal_typedefs.specs.Restrictions.{Base, HasNumbers, HasPositions, numbering_of, with_digits, layer_of, absent_faults, sub_faults, list_faults}
use Rattle.sal_typedefs.specs.Types.{Judged, entries_in, restricted}

-- the least of two faults: of equals the first
abbrev pub merged : Option Found → Option Found → Option Found
merged best None = best
merged best (Some found) = better best found

-- its least fault, and its type and names if there is none
pub record IsJudged (d : Judgement) (j : Judged) : Type 0 where
  pub fault : d.fault ≡ least None j.faults
  pub type : d.fault ≡ None → d.ty ≡ j.type
  pub entries : d.fault ≡ None → d.entries.items ≡ j.entries
  pub numbers : HasNumbers (out-YangType d.ty)
  pub positions : HasPositions (out-YangType d.ty) d.entries.items

abbrev pub AreJudged : List Judgement → List Judged → Type 0
AreJudged [] [] = ⊤
AreJudged (d ∷ ds) (j ∷ js) = IsJudged d j × AreJudged ds js
AreJudged ds js = ⊥

-- the type that a statement restricts, in the code's form
abbrev pub base_seen : Basis → Base
base_seen b = record { type = b.ty; entries = b.entries.items; itself = b.itself }

-- the faults of restrictions of a type whose fraction digits are set
abbrev pub layer_faults : Base → ℕ → Stmt → List Found
layer_faults base m stmt = absent_faults base m stmt ++ flat_map (sub_faults base (out-YangType base.type) m) (subs_of stmt) ++ list_faults base m stmt

-- the type of such a statement
abbrev pub layer_meaning : List Stmt → ℕ → Base → Stmt → List YangType → YangType
layer_meaning modules m base stmt below =
    roll-YangType (restricted modules m base stmt below (entries_in base stmt (out-YangType base.type)) (out-YangType base.type))

-- the type that a statement restricts, with the fraction digits that it states
abbrev pub with_layer : Base → ℕ → Base
with_layer base digits = record { type = roll-YangType (with_digits digits (out-YangType base.type)); entries = base.entries; itself = base.itself }

abbrev pub meaning_of : List Stmt → ℕ → Base → Stmt → List YangType → YangType
meaning_of modules m base stmt below = roll-YangType (restricted modules m base stmt below (entries_in base stmt (layer_of base stmt)) (layer_of base stmt))

-- the type of the first of these, or one without values
abbrev pub first_base : List Judgement → Base
first_base [] = record { type = roll-YangType YangType-F.Empty; entries = []; itself = false }
first_base (d ∷ ds) = record { type = d.ty; entries = d.entries.items; itself = false }

abbrev pub base_by : Option Builtin → List Judgement → Base
base_by (Some builtin) below = record { type = type_of builtin; entries = []; itself = true }
base_by None below = first_base below

abbrev pub AllNumbers : List Judgement → Type 0
AllNumbers [] = ⊤
AllNumbers (d ∷ ds) = HasNumbers (out-YangType d.ty) × AllNumbers ds

abbrev pub AllPositions : List Judgement → Type 0
AllPositions [] = ⊤
AllPositions (d ∷ ds) = HasPositions (out-YangType d.ty) d.entries.items × AllPositions ds

-- A statement without substatements that is no built-in type, over one type: that of its typedef. A type without names has no
-- entries.
pub record HasType (stmt : Stmt) (d : Judgement) : Type 0 where
  pub alone : subs_of stmt ≡ []
  pub other : builtin_of (argument_of stmt) ≡ None
  pub listed : numbering_of (out-YangType d.ty) ≡ None → d.entries.items ≡ []

abbrev pub IsOnlyName : Stmt → List Judgement → Type 0
IsOnlyName stmt [] = ⊥
IsOnlyName stmt (d ∷ []) = HasType stmt d
IsOnlyName stmt (d ∷ e ∷ ds) = ⊥
