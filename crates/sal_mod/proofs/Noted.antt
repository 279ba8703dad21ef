-- The places of first operations, with one operation more.
use Rattle.std.proofs.Common.{◌≡◌, ℕ, suc, ◌+◌, Bool, true, false, List, [], ◌∷◌, ◌++◌, ◌&&◌, length, Option, Some, None, refl, ap, sym, ◌∙◌, cond, if◌then◌else◌, arith}
use Rattle.std.specs.Option.{option_map, option_or}
use Rattle.std.specs.FinMap.{find, put}
use Rattle.std.specs.FinMap.Entries.{find-put}
use Rattle.sal_types.specs.declared.value.Step.{Step}
use Rattle.sal_types.specs.declared.value.Store.{Store}
use Rattle.sal_types.specs.Order.{path_cmp, path_eq, path_cmp-IsTotalOrder}
use Rattle.sal_rows.specs.declared.op.Act.{Act}
use Rattle.sal_rows.specs.declared.op.Act.TheVariants.{Put, Merge, Delete, Read}
use Rattle.sal_rows.specs.declared.op.Op.{Op}
use Rattle.sal_rows.specs.Apply.{checks_path, is_read, same_store}
use Rattle.sal_rows.proofs.Cells.{same_path}
use Rattle.sal_mod.specs.declared.firsts.Firsts.{Firsts}
use Rattle.sal_mod.specs.Covers.{stands_at, first_at, noted, noted_at}
use Rattle.sal_mod.specs.Firsts.{AreFirstBy, places_in}

or_none : (o : Option ℕ) → option_or o None ≡ o
or_none None = refl
or_none (Some n) = refl

and_true : (a b c : Bool) → b ≡ true → (a && (b && c)) ≡ (a && c)
and_true a true c h = refl
and_true a false c h = cc

pub and_false : (a b c : Bool) → b ≡ false → (a && (b && c)) ≡ false
and_false true false c h = refl
and_false false false c h = refl
and_false a true c h = cc

-- with one operation more
first-more : (t : Act → Bool) (s : Store) (ops : List Op) (op : Op) (p : List Step) → first_at t s (ops ++ op ∷ []) p ≡ option_or (first_at t s ops p) (if stands_at t s p op then Some (length ops) else None)
first-more t s [] op p = refl
first-more t s (o ∷ ops) op p = elim (stands_at t s p o) as (λ b. (if b then Some 0 else option_map (λ n. 1 + n) (first_at t s (ops ++ op ∷ []) p)) ≡ option_or (if b then Some 0 else option_map (λ n. 1 + n) (first_at t s ops p)) (if stands_at t s p op then Some (suc (length ops)) else None)) [
  | true ↦ refl
  | false ↦ ap (option_map (λ n. 1 + n)) (first-more t s ops op p) ∙ shifted (first_at t s ops p) (stands_at t s p op)
]
  where
    shifted : (o : Option ℕ) (b : Bool) → option_map (λ n. 1 + n) (option_or o (if b then Some (length ops) else None)) ≡ option_or (option_map (λ n. 1 + n) o) (if b then Some (suc (length ops)) else None)
    shifted None true = ap Some (let q : 1 + length ops ≡ suc (length ops) = omega arith in q)
    shifted None false = refl
    shifted (Some n) b = refl

-- an operation that passes the test is recorded
pub noted-more : (t : Act → Bool) (ops : List Op) (op : Op) (n : ℕ) (old new : Firsts) → t op.act ≡ true → n ≡ length ops → AreFirstBy t ops old
    → ((s : Store) (p : List Step) → find path_cmp p (places_in new s) ≡ noted s op n p (find path_cmp p (places_in old s))) → AreFirstBy t (ops ++ op ∷ []) new
noted-more t ops op n old new passes l h g s p =
    g s p ∙ (λ i. noted s op (l i) p (h s p i))
    ∙ ap (λ b. option_or (first_at t s ops p) (if b then Some (length ops) else None)) (sym (and_true (same_store op.store s) (t op.act) (path_eq p op.path) passes))
    ∙ sym (first-more t s ops op p)

-- and any other one is not
pub skipped-more : (t : Act → Bool) (ops : List Op) (op : Op) (places : Firsts) → t op.act ≡ false → AreFirstBy t ops places → AreFirstBy t (ops ++ op ∷ []) places
skipped-more t ops op places fails h s p =
    h s p ∙ sym (or_none (first_at t s ops p))
    ∙ ap (λ b. option_or (first_at t s ops p) (if b then Some (length ops) else None)) (sym (and_false (same_store op.store s) (t op.act) (path_eq p op.path) fails))
    ∙ sym (first-more t s ops op p)

-- what checks its path is no read, and the other way round
pub no_read : (act : Act) → checks_path act ≡ true → is_read act ≡ false
no_read (Put rows) h = refl
no_read (Merge rows) h = refl
no_read Delete h = refl
no_read Read h = cc

find_same : (p w : List Step) (es : List (List Step × ℕ)) → path_eq p w ≡ true → find path_cmp p es ≡ find path_cmp w es
find_same p w es e = ap (λ q. find path_cmp q es) (same_path p w e)

-- a place that is recorded stays
pub noted-there : (w : List Step) (n m : ℕ) (es : List (List Step × ℕ)) (p : List Step) → find path_cmp w es ≡ Some m → find path_cmp p es ≡ noted_at w n p (find path_cmp p es)
noted-there w n m es p e = elim (path_eq p w) as (λ b. path_eq p w ≡ b → find path_cmp p es ≡ option_or (find path_cmp p es) (if b then Some n else None)) [
  | true ↦ λ b. let is = find_same p w es b ∙ e in is ∙ sym (ap (λ o. option_or o (Some n)) is)
  | false ↦ λ b. sym (or_none (find path_cmp p es))
] refl

pub noted-new : (w : List Step) (n : ℕ) (es after : List (List Step × ℕ)) (p : List Step) → find path_cmp w es ≡ None → after ≡ put path_cmp w n es → find path_cmp p after ≡ noted_at w n p (find path_cmp p es)
noted-new w n es after p e is = ap (find path_cmp p) is ∙ find-put path_cmp path_cmp-IsTotalOrder p w n es ∙ elim (path_eq p w) as (λ b. path_eq p w ≡ b → cond b (Some n) (find path_cmp p es) ≡ option_or (find path_cmp p es) (if b then Some n else None)) [
  | true ↦ λ b. sym (ap (λ o. option_or o (Some n)) (find_same p w es b ∙ e))
  | false ↦ λ b. sym (or_none (find path_cmp p es))
] refl
