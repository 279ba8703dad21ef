-- One statement over the type that it restricts.
use Rattle.std.proofs.Common.{◌≡◌, ℕ, ◌≤◌, List, [], ◌∷◌, ◌++◌, length, filter, Bool, true, false, not, ◌&&◌, ◌||◌, ◌==◌, nat_le, None, is_some, option_map, unwrap_or, if◌then◌else◌, refl, ◌∙◌, sym, ap, inl, inr, arith}
use Rattle.std.specs.Prelude.{find}
use Rattle.std.specs.List.{flat_map, list_any}
use Rattle.std.proofs.lemmas.Bool.{cases_Bool, and_parts}
use Rattle.std.proofs.lemmas.Bool.Decides.{nat_tests}
use Rattle.sal_stmt.specs.declared.stmt.Stmt.{Stmt}
use Rattle.sal_module.specs.declared.keyword.Keyword.TheVariants as word
use Rattle.sal_module.specs.declared.fault.Cause.TheVariants.{BadRestriction}
use Rattle.sal_module.specs.declared.fault.Found.{Found}
use Rattle.sal_module.specs.Arguments.{decimal, is_whole}
use Rattle.sal_module.specs.Faults.{least}
use Rattle.sal_module.specs.Profile.{at_stmt}
use Rattle.sal_module.specs.Statements.{is_named, subs_of, argument_of}
use Rattle.sal_restrict.specs.declared.yang_type.YangType.{YangType, out-YangType}
use Rattle.sal_restrict.specs.declared.yang_type.YangType.TheViews.{out-roll-YangType}
use Rattle.sal_restrict.specs.declared.yang_type.YangType.TheOpen.{YangType-F}
use Rattle.sal_typedefs.specs.Restrictions.{Base, Layer, is_wider, numbers, lengths, with_digits, digits_of, digit_fault, digit_faults, are_fraction_digits, absent_faults, sub_faults, list_faults, is_misplaced, layer_of, restriction_faults, is_decimal}
use Rattle.sal_typedefs.specs.Judgements.{layer_faults, with_layer}
use Rattle.sal_typedefs.proofs.LeastLists.{some-faulty}

-- ---- no names

pub none-named : {X : Type 0} (p : X → Bool) (xs : List X) → not (list_any p xs) ≡ true → filter p xs ≡ []
none-named p [] e = refl
none-named p (x ∷ xs) e = elim (cases_Bool (p x)) [ inl t ↦ (let h = rw t at e in cc) | inr n ↦ (let h = rw n at e in rw n (none-named p xs h)) ]

-- ---- fraction digits

front-none : (a b : List Found) → length (a ++ b) ≡ 0 → (length a ≡ 0) × (length b ≡ 0)
front-none [] b e = (refl, e)
front-none (x ∷ a) b e = absurd (omega (arith, e))

good-digits : (t : List ℕ) → are_fraction_digits t ≡ true → decimal t ≤ 18
good-digits t e = let h = (and_parts (is_whole t) _ e).1 in let k = (and_parts _ (nat_le (decimal t) 18) h).1 in grind (arith, nat_tests)

sub-digits : (m : ℕ) (sub : Stmt) → is_named word.FractionDigits sub ≡ true → length (digit_fault m sub) ≡ 0 → are_fraction_digits (argument_of sub) ≡ true
sub-digits m sub e h = elim (cases_Bool (are_fraction_digits (argument_of sub))) [ inl t ↦ t | inr n ↦ (let k = rw (e, n) at h in absurd (omega (arith, k))) ]

pub few-digits : (m : ℕ) (subs : List Stmt) → length (flat_map (digit_fault m) subs) ≡ 0 → decimal (unwrap_or (option_map argument_of (find (is_named word.FractionDigits) subs)) []) ≤ 18
few-digits m [] h = omega arith
few-digits m (x ∷ subs) h =
    let parts = front-none (digit_fault m x) (flat_map (digit_fault m) subs) h in
    elim (cases_Bool (is_named word.FractionDigits x)) [
      | inl t ↦ rw t (good-digits (argument_of x) (sub-digits m x t parts.0))
      | inr n ↦ rw n (few-digits m subs parts.1)
    ]

pub no-faults : (xs : List Found) → is_some (least None xs) ≡ false → (length xs == 0) ≡ true
no-faults xs e = flip (length xs == 0) (sym (some-faulty xs) ∙ e)
  where
    flip : (b : Bool) → not b ≡ false → b ≡ true
    flip true h = refl
    flip false h = cc

pub some-faults : (xs : List Found) → is_some (least None xs) ≡ true → (length xs == 0) ≡ false
some-faults xs e = flip (length xs == 0) (sym (some-faulty xs) ∙ e)
  where
    flip : (b : Bool) → not b ≡ true → b ≡ false
    flip true h = cc
    flip false h = refl

-- ---- layers

-- a type that has its digits is of the same kind
module _ (base : Base) (ty : YangType) (d m : ℕ) (stmt : Stmt) where
  abbrev next : Base
  next = record { type = ty; entries = base.entries; itself = base.itself }

  pub same-absent : (t : Layer) → out-YangType base.type ≡ t → out-YangType ty ≡ with_digits d t → absent_faults base m stmt ≡ absent_faults next m stmt
  same-absent (YangType-F.Dec digits range) e f = rw (e, f) refl
  same-absent (YangType-F.Int bits signed range) e f = rw (e, f) refl
  same-absent (YangType-F.Text length patterns) e f = rw (e, f) refl
  same-absent YangType-F.Bool e f = rw (e, f) refl
  same-absent (YangType-F.Enum names places) e f = rw (e, f) refl
  same-absent (YangType-F.Bits names positions) e f = rw (e, f) refl
  same-absent (YangType-F.Bin length) e f = rw (e, f) refl
  same-absent (YangType-F.Ident bases) e f = rw (e, f) refl
  same-absent YangType-F.Empty e f = rw (e, f) refl
  same-absent (YangType-F.Union members) e f = rw (e, f) refl
  same-absent (YangType-F.Leafref path) e f = rw (e, f) refl

  pub same-list : (t : Layer) → out-YangType base.type ≡ t → out-YangType ty ≡ with_digits d t → list_faults base m stmt ≡ list_faults next m stmt
  same-list (YangType-F.Dec digits range) e f = rw (e, f) refl
  same-list (YangType-F.Int bits signed range) e f = rw (e, f) refl
  same-list (YangType-F.Text length patterns) e f = rw (e, f) refl
  same-list YangType-F.Bool e f = rw (e, f) refl
  same-list (YangType-F.Enum names places) e f = rw (e, f) refl
  same-list (YangType-F.Bits names positions) e f = rw (e, f) refl
  same-list (YangType-F.Bin length) e f = rw (e, f) refl
  same-list (YangType-F.Ident bases) e f = rw (e, f) refl
  same-list YangType-F.Empty e f = rw (e, f) refl
  same-list (YangType-F.Union members) e f = rw (e, f) refl
  same-list (YangType-F.Leafref path) e f = rw (e, f) refl

  same-misplaced : (sub : Stmt) (t : Layer) → out-YangType base.type ≡ t → out-YangType ty ≡ with_digits d t → is_misplaced base sub ≡ is_misplaced next sub
  same-misplaced sub (YangType-F.Dec digits range) e f = rw (e, f) refl
  same-misplaced sub (YangType-F.Int bits signed range) e f = rw (e, f) refl
  same-misplaced sub (YangType-F.Text length patterns) e f = rw (e, f) refl
  same-misplaced sub YangType-F.Bool e f = rw (e, f) refl
  same-misplaced sub (YangType-F.Enum names places) e f = rw (e, f) refl
  same-misplaced sub (YangType-F.Bits names positions) e f = rw (e, f) refl
  same-misplaced sub (YangType-F.Bin length) e f = rw (e, f) refl
  same-misplaced sub (YangType-F.Ident bases) e f = rw (e, f) refl
  same-misplaced sub YangType-F.Empty e f = rw (e, f) refl
  same-misplaced sub (YangType-F.Union members) e f = rw (e, f) refl
  same-misplaced sub (YangType-F.Leafref path) e f = rw (e, f) refl

-- ---- all faults

all-subs : (base after : Base) (layer : Layer) (m : ℕ) (subs : List Stmt) → ((sub : Stmt) → is_misplaced base sub ≡ is_misplaced after sub) → flat_map (sub_faults base layer m) subs ≡ flat_map (sub_faults after layer m) subs
all-subs base after layer m [] same = refl
all-subs base after layer m (x ∷ subs) same =
    let here : sub_faults base layer m x ≡ sub_faults after layer m x = ap (λ b. if b || ((is_named word.Range x && is_wider (numbers layer) x) || (is_named word.Length x && is_wider (lengths layer) x)) then at_stmt BadRestriction m x else []) (same x) in
    ap (λ l. l ++ flat_map (sub_faults base layer m) subs) here ∙ ap (λ l. sub_faults after layer m x ++ l) (all-subs base after layer m subs same)

pick : (a b : Bool) → a ≡ true → b ≡ true → (x y : List Found) → (if a && not b then x else y) ≡ y
pick true true e f x y = refl
pick true false e f x y = cc
pick false b e f x y = cc

module _ (base : Base) (m : ℕ) (stmt : Stmt) where
  abbrev kind : Layer
  kind = out-YangType base.type

  out-layer : out-YangType (with_layer base (digits_of stmt)).type ≡ with_digits (digits_of stmt) (out-YangType base.type)
  out-layer = out-roll-YangType (with_digits (digits_of stmt) (out-YangType base.type))

  pub faults-plain : is_decimal base ≡ false → layer_faults base m stmt ≡ restriction_faults base m stmt
  faults-plain e = rw e refl

  pub faults-digits : is_decimal base ≡ true → (length (digit_faults m stmt) == 0) ≡ false → digit_faults m stmt ≡ restriction_faults base m stmt
  faults-digits e f = rw (e, f) refl

  pub layer-decimal : is_decimal base ≡ true → out-YangType (with_layer base (digits_of stmt)).type ≡ layer_of base stmt
  layer-decimal e = out-layer ∙ rw e refl

  whole : is_decimal base ≡ true → (length (digit_faults m stmt) == 0) ≡ true
      → (absent_faults base m stmt ++ flat_map (sub_faults base (layer_of base stmt) m) (subs_of stmt)) ++ list_faults base m stmt ≡ restriction_faults base m stmt
  whole e f =
      sym (pick (is_decimal base) (length (digit_faults m stmt) == 0) e f (digit_faults m stmt)
      ((absent_faults base m stmt ++ flat_map (sub_faults base (layer_of base stmt) m) (subs_of stmt)) ++ list_faults base m stmt))

  pub faults-layer : is_decimal base ≡ true → (length (digit_faults m stmt) == 0) ≡ true → layer_faults (with_layer base (digits_of stmt)) m stmt ≡ restriction_faults base m stmt
  faults-layer e f =
      let after : Base = with_layer base (digits_of stmt) in
      let absent : absent_faults base m stmt ≡ absent_faults after m stmt = same-absent base after.type (digits_of stmt) m stmt kind refl out-layer in
      let listed : list_faults base m stmt ≡ list_faults after m stmt = same-list base after.type (digits_of stmt) m stmt kind refl out-layer in
      let subs : flat_map (sub_faults base (layer_of base stmt) m) (subs_of stmt) ≡ flat_map (sub_faults after (layer_of base stmt) m) (subs_of stmt) =
      all-subs base after (layer_of base stmt) m (subs_of stmt) (λ sub. same-misplaced base after.type (digits_of stmt) m stmt sub kind refl out-layer) in
      sym (sym (whole e f)
      ∙ ap (λ a. (a ++ flat_map (sub_faults base (layer_of base stmt) m) (subs_of stmt)) ++ list_faults base m stmt) absent
      ∙ ap (λ s. (absent_faults after m stmt ++ s) ++ list_faults base m stmt) subs
      ∙ ap (λ l. (absent_faults after m stmt ++ flat_map (sub_faults after (layer_of base stmt) m) (subs_of stmt)) ++ l) listed
      ∙ ap (λ layer. (absent_faults after m stmt ++ flat_map (sub_faults after layer m) (subs_of stmt)) ++ list_faults after m stmt) (sym (layer-decimal e)))

  pub layer-plain : is_decimal base ≡ false → out-YangType base.type ≡ layer_of base stmt
  layer-plain e = rw e refl
