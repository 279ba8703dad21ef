-- A type statement that is only the name of a typedef denotes the typedef's type, and has the typedef's faults.
use Rattle.std.proofs.Common.{◌≡◌, ◌∙◌, ℕ, List, [], ◌∷◌, ◌++◌, Bool, true, false, Option, Some, None, if◌then◌else◌, refl, sym, ap, subst, length, get_or, arith, append-nil}
use Rattle.std.specs.List.{flat_map, list_any}
use Rattle.std.specs.Option.{option_to_list}
use Rattle.sal_stmt.specs.declared.stmt.Stmt.{Stmt}
use Rattle.sal_module.specs.declared.fault.Found.{Found}
use Rattle.sal_module.specs.Faults.{least}
use Rattle.sal_module.specs.Statements.{subs_of}
use Rattle.sal_restrict.specs.declared.yang_type.YangType.{YangType, out-YangType, roll-YangType}
use Rattle.sal_restrict.specs.declared.yang_type.YangType.TheOpen.{YangType-F}
use Rattle.sal_restrict.specs.declared.yang_type.YangType.TheViews.{roll-out-YangType}
use Rattle.sal_typedefs.specs.declared.entry.Entry.{Entry}
use Rattle.sal_typedefs.specs.declared.entry.Numbering.{Numbering}
use Rattle.sal_typedefs.specs.declared.judgement.Judgement.{Judgement}
use Rattle.sal_typedefs.specs.Builtins.{builtin_of}
use Rattle.sal_typedefs.specs.Scopes.{Site}
use Rattle.sal_typedefs.specs.Names.{name_of}
use Rattle.sal_typedefs.specs.Restrictions.{Base, Layer, faults_by, numbering_of, pattern_faults, restriction_faults}
use Rattle.sal_typedefs.specs.Types.{Judged, base_of, entries_by, entries_in, is_faulty, judged, own_faults, restricted}
use Rattle.sal_typedefs.specs.Judgements.{AreJudged, HasType, IsJudged, IsOnlyName}

-- the type below, as a base
abbrev derived : Judged → Base
derived j = record { type = j.type; entries = j.entries; itself = false }

only-base : (site : Site) (j : Judged) → builtin_of (name_of site) ≡ None → base_of site (j ∷ []) ≡ derived j
only-base site j other = rw other refl

only-layer : (modules : List Stmt) (m : ℕ) (base : Base) (stmt : Stmt) (below : List YangType) (entries : List Entry) (layer : Layer)
    → subs_of stmt ≡ [] → base.itself ≡ false → restricted modules m base stmt below entries layer ≡ layer
only-layer modules m base stmt below entries (YangType-F.Int bits signed range) alone derived = rw alone refl
only-layer modules m base stmt below entries (YangType-F.Dec digits range) alone derived = rw alone refl
only-layer modules m base stmt below entries (YangType-F.Text length patterns) alone derived = rw alone (ap (YangType-F.Text length) (append-nil patterns))
only-layer modules m base stmt below entries (YangType-F.Bool) alone derived = refl
only-layer modules m base stmt below entries (YangType-F.Enum names places) alone derived = rw (alone, derived) refl
only-layer modules m base stmt below entries (YangType-F.Bits names positions) alone derived = rw (alone, derived) refl
only-layer modules m base stmt below entries (YangType-F.Bin length) alone derived = rw alone refl
only-layer modules m base stmt below entries (YangType-F.Ident bases) alone derived = rw derived refl
only-layer modules m base stmt below entries (YangType-F.Empty) alone derived = refl
only-layer modules m base stmt below entries (YangType-F.Union members) alone derived = rw derived refl
only-layer modules m base stmt below entries (YangType-F.Leafref path) alone derived = rw derived refl

only-entries : (base : Base) (stmt : Stmt) (n : Option Numbering) → subs_of stmt ≡ [] → base.itself ≡ false → (n ≡ None → base.entries ≡ []) → entries_by base stmt n ≡ base.entries
only-entries base stmt None alone derived none = sym (none refl)
only-entries base stmt (Some n) alone derived none = rw (alone, derived) refl

listed-none : (base : Base) (m : ℕ) (stmt : Stmt) (n : Option Numbering) → subs_of stmt ≡ [] → flat_map (faults_by base m stmt) (option_to_list n) ≡ []
listed-none base m stmt None alone = refl
listed-none base m stmt (Some n) alone = rw alone refl

only-restrictions : (j : Judged) (m : ℕ) (stmt : Stmt) → subs_of stmt ≡ [] → restriction_faults (derived j) m stmt ≡ []
only-restrictions j m stmt alone = rw alone (listed-none (derived j) m stmt (numbering_of (out-YangType j.type)) alone)

either : (b : Bool) (xs : List Found) → xs ≡ [] → (if b then [] else xs) ≡ []
either true xs e = refl
either false xs e = e

only-own : (site : Site) (j : Judged) → subs_of site.stmt ≡ [] → own_faults site (derived j) (j ∷ []) ≡ []
only-own site j alone =
    let patterns : pattern_faults site.module site.stmt ≡ [] = rw alone refl in
    ap (λ fs. fs ++ (if list_any is_faulty (j ∷ []) then [] else restriction_faults (derived j) site.module site.stmt)) patterns
    ∙ either (list_any is_faulty (j ∷ [])) (restriction_faults (derived j) site.module site.stmt) (only-restrictions j site.module site.stmt alone)

only-judged : (modules : List Stmt) (site : Site) (d : Judgement) (j : Judged) → subs_of site.stmt ≡ [] → (numbering_of (out-YangType d.ty) ≡ None → d.entries.items ≡ []) → IsJudged d j
    → IsJudged d (judged modules site (derived j) (j ∷ []))
only-judged modules site d j alone listed is =
    let faults : (j.faults ++ []) ++ own_faults site (derived j) (j ∷ []) ≡ j.faults =
    ap (λ fs. (j.faults ++ []) ++ fs) (only-own site j alone) ∙ append-nil (j.faults ++ []) ∙ append-nil j.faults in
    let layer = out-YangType j.type in
    let entries = entries_in (derived j) site.stmt layer in
    record {
      fault = is.fault ∙ ap (least None) (sym faults);
      type = λ fine. is.type fine ∙ sym (roll-out-YangType j.type) ∙ ap roll-YangType (sym (only-layer modules site.module (derived j) site.stmt (j.type ∷ []) entries layer alone refl));
      entries = λ fine.
          let none : numbering_of layer ≡ None → j.entries ≡ [] = λ e. sym (is.entries fine) ∙ listed (ap (λ t. numbering_of (out-YangType t)) (is.type fine) ∙ e) in
          is.entries fine ∙ sym (only-entries (derived j) site.stmt (numbering_of layer) alone refl none);
      numbers = is.numbers;
      positions = is.positions;
    }

-- the last of one
one-last : (d e : Judgement) (rest : List Judgement) → e ∷ [] ≡ rest ++ d ∷ [] → d ≡ e
one-last d e [] is = cc
one-last d e (x ∷ []) is = cc
one-last d e (x ∷ y ∷ rest) is = cc

pub only-name : (modules : List Stmt) (site : Site) (below rest : List Judgement) (d : Judgement) (js : List Judged) → IsOnlyName site.stmt below → below ≡ rest ++ d ∷ []
    → AreJudged below js → IsJudged d (judged modules site (base_of site js) js)
only-name modules site [] rest d js only pop are = absurd only
only-name modules site (e ∷ []) rest d [] only pop are = absurd are
only-name modules site (e ∷ []) rest d (j ∷ []) only pop are =
    let same : d ≡ e = one-last d e rest pop in
    let P : Base → Type 0 = λ base. IsJudged e (judged modules site base (j ∷ [])) in
    let Q : Judgement → Type 0 = λ d. IsJudged d (judged modules site (base_of site (j ∷ [])) (j ∷ [])) in
    subst Q (sym same) (subst P (sym (only-base site j only.other)) (only-judged modules site e j only.alone only.listed are.0))
only-name modules site (e ∷ []) rest d (j ∷ k ∷ js) only pop are = absurd are.1
only-name modules site (e ∷ f ∷ es) rest d js only pop are = absurd only

-- there is one
pub some-name : (stmt : Stmt) (below : List Judgement) → IsOnlyName stmt below → below ≡ [] → ⊥
some-name stmt [] only e = only
some-name stmt (d ∷ ds) only e = cc

pub only-one : (stmt : Stmt) (below : List Judgement) (d : Judgement) → length below ≡ 1 → d ≡ get_or below 0 d → HasType stmt d → IsOnlyName stmt below
only-one stmt [] d one is has = cc
only-one stmt (e ∷ []) d one is has = subst (HasType stmt) is has
only-one stmt (e ∷ f ∷ ds) d one is has = absurd (omega (arith, one))
