-- Which nodes are present at a place, one level of choices and cases at a time.
use Rattle.std.proofs.Common.{◌≡◌, ℕ, zero, suc, ◌+◌, ◌-◌, ◌<◌, ◌≤◌, Bool, true, false, cond, List, [], ◌∷◌, ◌++◌, length, take, get_or, Some, refl, sym, ap, ◌∙◌, arith}
use Rattle.std.specs.Prelude.{if◌then◌else◌}
use Rattle.std.specs.List.{list_any, filter}
use Rattle.std.proofs.lemmas.List.{take_more}
use Rattle.std.proofs.lemmas.List.Elements.{filter-append}
use Rattle.std.proofs.Common.{length-append}
use Rattle.sal_types.specs.declared.value.Step.TheVariants.{Node}
use Rattle.sal_schema.specs.declared.kind.Kind.{Kind}
use Rattle.sal_schema.specs.declared.table.SchemaTable.{SchemaTable}
use Rattle.sal_schema.specs.Kinds.{is_choice_or_case}
use Rattle.sal_schema.specs.Table.{is_kind, kind_of, children_of}
use Rattle.sal_rules.specs.Rules.{is_there}
use Rattle.sal_rules.specs.Seen.{Seen}
use Rattle.sal_check.proofs.Climbs.{kind_says}

module _ (table : SchemaTable) (see : Seen) where
  pub there-zero : (n : ℕ) → is_there table see zero n ≡ false
  unfolding is_there
  there-zero n = refl

  there-suc : (deep n : ℕ) → is_there table see (suc deep) n ≡ cond (is_kind is_choice_or_case table n) (list_any (is_there table see deep) (children_of table (Some n))) (see.has (Node n ∷ []))
  unfolding is_there
  there-suc deep n = refl

  pub there-step : (deep n : ℕ) → 1 ≤ deep → is_there table see deep n ≡ cond (is_kind is_choice_or_case table n) (list_any (is_there table see (deep - 1)) (children_of table (Some n))) (see.has (Node n ∷ []))
  there-step deep n h = ap (λ k. is_there table see k n) (let e : deep ≡ suc (deep - 1) = omega arith in e) ∙ there-suc (deep - 1) n

  module _ (deep n : ℕ) (some : 1 ≤ deep) (kind : Kind) (is : kind_of table n ≡ Some kind) where
    -- by the kind of the node
    pub there-kind : (test : Bool) → is_choice_or_case kind ≡ test → is_there table see deep n ≡ cond test (list_any (is_there table see (deep - 1)) (children_of table (Some n))) (see.has (Node n ∷ []))
    there-kind test e = there-step deep n some ∙ ap (λ b. cond b (list_any (is_there table see (deep - 1)) (children_of table (Some n))) (see.has (Node n ∷ []))) (kind_says is_choice_or_case table n kind is ∙ e)

    -- a choice or a case, by its children
    pub there-among : is_choice_or_case kind ≡ true → (kids : List ℕ) → kids ≡ children_of table (Some n) → is_there table see deep n ≡ list_any (is_there table see (deep - 1)) kids
    there-among e kids are = there-kind true e ∙ ap (list_any (is_there table see (deep - 1))) (sym are)

pub take-all : {X : Type 0} (xs : List X) (n : ℕ) → length xs ≤ n → take n xs ≡ xs
take-all [] zero l = refl
take-all [] (suc n) l = refl
take-all (x ∷ xs) zero l = absurd (omega arith)
take-all {X} (x ∷ xs) (suc n) l = ap (λ (ys : List X). x ∷ ys) (take-all xs n (omega arith))

length-one : (b : Bool) (n : ℕ) → length (if b then n ∷ [] else []) ≡ (if b then 1 else 0)
length-one true n = refl
length-one false n = refl

-- one more number that may be kept
pub kept-more : (test : ℕ → Bool) (xs : List ℕ) (i x n more : ℕ) → i < length xs → x ≡ get_or xs i x → n ≡ length (filter test (take i xs)) → more ≡ (if test x then 1 else 0) → n + more ≡ length (filter test (take (i + 1) xs))
kept-more test xs i x n more l at was is =
    (λ k. was k + (is ∙ sym (length-one (test x) x)) k)
    ∙ sym (length-append (filter test (take i xs)) (filter test (x ∷ [])))
    ∙ ap length (sym (filter-append test (take i xs) (x ∷ [])))
    ∙ ap (λ ys. length (filter test ys)) (sym (take_more xs i x l ∙ ap (λ y. take i xs ++ y ∷ []) (sym at)))
