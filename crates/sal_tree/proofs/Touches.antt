-- An edit stamps exactly the paths that its operation touches.
use Rattle.std.proofs.Common.{◌≡◌, ℕ, Bool, true, false, List, [], ◌∷◌, ◌&&◌, ◌||◌, Option, Some, None, refl, ap, sym, ◌∙◌, if◌then◌else◌}
use Rattle.std.proofs.lemmas.Bool.{and_parts}
use Rattle.std.specs.Prelude.{is_some}
use Rattle.std.specs.List.{list_any}
use Rattle.std.specs.Option.{option_map}
use Rattle.sal_types.specs.declared.value.Step.{Step}
use Rattle.sal_types.specs.declared.value.Cell.{Cell}
use Rattle.sal_types.specs.declared.row.Row.{Row}
use Rattle.sal_types.specs.Order.{path_eq}
use Rattle.sal_types.specs.Prefix.{is_prefix}
use Rattle.sal_types.specs.Tree.{cell, has, under}
use Rattle.sal_rows.specs.declared.op.Act.{Act}
use Rattle.sal_rows.specs.declared.op.Act.TheVariants.{Put, Merge, Delete, Read}
use Rattle.sal_rows.specs.Apply.{act_setting}
use Rattle.sal_rows.proofs.Cells.{same_path}
use Rattle.sal_node.specs.Tree.{Tree, IsGrove}
use Rattle.sal_tree.specs.Rows.{rows_of}
use Rattle.sal_tree.specs.Follows.{Follows, exactly}
use Rattle.sal_tree.specs.Edit.{edit_by}
use Rattle.sal_tree.specs.Touched.{act_touches}
use Rattle.sal_tree.proofs.Laws.{eq, same, self_tie}
use Rattle.sal_tree.proofs.Cells.{has-rows_of}
use Rattle.sal_tree.proofs.Follows.{Follows-by, Follows-same}
use Rattle.sal_tree.proofs.Edited.{clears, Follows-without, Follows-rows, Follows-put}
use Rattle.sal_rows.proofs.Numbers.{or_swap}

pub and_no : (b : Bool) → (b && false) ≡ false
and_no true = refl
and_no false = refl

both_steps : (a b c d A B P Q : Bool) → (Q && P) ≡ ((A && Q) || (B && P)) → (a ≡ true → b ≡ true → c ≡ true) → (a ≡ true → b ≡ true → d ≡ true) → (a ≡ true → b ≡ false → c ≡ false) → (a ≡ false → b ≡ true → d ≡ false)
    → ((a && Q) && (b && P)) ≡ (((c && A) && (a && Q)) || ((d && B) && (b && P)))
both_steps true true c d A B P Q is c1 d1 c0 d0 = is ∙ (λ i. ((sym (c1 refl refl) i && A) && Q) || ((sym (d1 refl refl) i && B) && P))
both_steps true false c d A B P Q is c1 d1 c0 d0 = and_no Q ∙ sym ((λ i. ((c0 refl refl i && A) && Q) || and_no (d && B) i))
both_steps false true c d A B P Q is c1 d1 c0 d0 = sym ((λ i. and_no (c && A) i || ((d0 refl refl i && B) && P)))
both_steps false false c d A B P Q is c1 d1 c0 d0 = sym ((λ i. and_no (c && A) i || and_no (d && B) i))

eq_as : (x y z : Step) → eq x y ≡ true → eq x z ≡ eq y z
eq_as x y z e = ap (λ (w : Step). eq w z) (same x y e)

pub eq_back : (x y : Step) → eq x y ≡ true → eq y x ≡ true
eq_back x y e = ap (λ (w : Step). eq y w) (same x y e) ∙ self_tie y

not_tied : (x y : Step) (b : Bool) → (eq x y ≡ true → b ≡ true) → b ≡ false → eq x y ≡ false
not_tied x y b h e = elim (eq x y) as (λ c. (c ≡ true → b ≡ true) → c ≡ false) [ true ↦ λ f. let t = f refl in cc | false ↦ λ f. refl ] h

-- two paths that begin one path: one of them begins the other
pub both_begin : (p q r : List Step) → (is_prefix q r && is_prefix p r) ≡ ((is_prefix p q && is_prefix q r) || (is_prefix q p && is_prefix p r))
both_begin [] [] r = refl
both_begin [] (y ∷ q) [] = refl
both_begin [] (y ∷ q) (z ∷ r) = elim (is_prefix (y ∷ q) (z ∷ r)) as (λ b. (b && true) ≡ (b || false)) [ true ↦ refl | false ↦ refl ]
both_begin (x ∷ p) [] [] = refl
both_begin (x ∷ p) [] (z ∷ r) = refl
both_begin (x ∷ p) (y ∷ q) [] = sym (λ i. and_no (eq x y && is_prefix p q) i || and_no (eq y x && is_prefix q p) i)
both_begin (x ∷ p) (y ∷ q) (z ∷ r) =
    both_steps (eq y z) (eq x z) (eq x y) (eq y x) (is_prefix p q) (is_prefix q p) (is_prefix p r) (is_prefix q r) (both_begin p q r)
    (λ a b. eq_as x z y b ∙ eq_back y z a)
    (λ a b. eq_as y z x a ∙ eq_back x z b)
    (λ a b. not_tied x y (eq x z) (λ t. eq_as x y z t ∙ a) b)
    (λ a b. not_tied y x (eq y z) (λ t. eq_as y x z t ∙ b) a)

spread : (a b x y v w : Bool) → (((a && x) || (b && y)) || ((a && v) || (b && w))) ≡ ((a && (x || v)) || (b && (y || w)))
spread false false x y v w = refl
spread false true x y v w = refl
spread true false true y v w = refl
spread true false false y v w = refl
spread true true true y v w = refl
spread true true false true v w = elim v as (λ v. true ≡ (v || true)) [ true ↦ refl | false ↦ refl ]
spread true true false false v w = refl

any_both : (p q : List Step) (rows : List Row) → list_any (λ row. is_prefix q row.path && is_prefix p row.path) rows ≡ ((is_prefix p q && has rows q) || (is_prefix q p && has rows p))
any_both p q [] = elim (is_prefix p q) as (λ a. false ≡ ((a && false) || (is_prefix q p && false))) [ true ↦ no (is_prefix q p) | false ↦ no (is_prefix q p) ]
  where
    no : (b : Bool) → false ≡ (b && false)
    no true = refl
    no false = refl
any_both p q (row ∷ rows) =
    (λ i. both_begin p q row.path i || any_both p q rows i)
    ∙ spread (is_prefix p q) (is_prefix q p) (is_prefix q row.path) (is_prefix p row.path) (has rows q) (has rows p)

pub set_by_delete : (b : Bool) → is_some {T = Option Cell} (if b then Some None else None) ≡ b
set_by_delete true = refl
set_by_delete false = refl

pub any_alike : (f g : Row → Bool) (rows : List Row) → ((row : Row) → f row ≡ g row) → list_any f rows ≡ list_any g rows
any_alike f g [] h = refl
any_alike f g (row ∷ rows) h = λ i. h row i || any_alike f g rows h i

-- clearing a path stamps what a put or a delete there sets
pub clears-any : (t : Tree) (p q : List Step) (set : List Step → Option (Option Cell)) → ((r : List Step) → is_some (set r) ≡ is_prefix p r) → IsGrove t.kids → clears p t q ≡ list_any (λ row. is_prefix q row.path && is_some (set row.path)) (rows_of t)
clears-any t p q set h g =
    (λ i. (is_prefix p q && sym (has-rows_of t g q) i) || (is_prefix q p && sym (has-rows_of t g p) i)) ∙ sym (any_both p q (rows_of t))
    ∙ any_alike (λ row. is_prefix q row.path && is_prefix p row.path) (λ row. is_prefix q row.path && is_some (set row.path)) (rows_of t) (λ row. ap (λ b. is_prefix q row.path && b) (sym (h row.path)))

pub set_by_put : (b : Bool) (c : Option Cell) → is_some {T = Option Cell} (if b then Some c else None) ≡ b
set_by_put true c = refl
set_by_put false c = refl

-- a row that a merge sets is one of its rows
merged : (rows : List Row) (q r : List Step) → (is_prefix q r && is_some (option_map Some (cell rows r))) ≡ true → has rows q ≡ true
merged [] q r e = let no = and_no (is_prefix q r) in cc
merged (row ∷ rows) q r e = elim (path_eq r row.path) as (λ b. path_eq r row.path ≡ b → (is_prefix q r && is_some (option_map Some (if b then Some row.cell else cell rows r))) ≡ true → (is_prefix q row.path || has rows q) ≡ true) [
  | true ↦ λ b f. ap (λ c. c || has rows q) (ap (is_prefix q) (sym (same_path r row.path b)) ∙ (and_parts (is_prefix q r) true f).0)
  | false ↦ λ b f. ap (λ c. is_prefix q row.path || c) (merged rows q r f) ∙ or_true (is_prefix q row.path)
] refl e
  where
    or_true : (a : Bool) → (a || true) ≡ true
    or_true true = refl
    or_true false = refl

pub absorbed : (rows before : List Row) (q : List Step) → (has rows q || list_any (λ row. is_prefix q row.path && is_some (option_map Some (cell rows row.path))) before) ≡ has rows q
absorbed rows before q = elim (has rows q) as (λ b. has rows q ≡ b → (b || list_any (λ row. is_prefix q row.path && is_some (option_map Some (cell rows row.path))) before) ≡ b) [
  | true ↦ λ b. refl
  | false ↦ λ b. none before b
] refl
  where
    none : (l : List Row) → has rows q ≡ false → list_any (λ row. is_prefix q row.path && is_some (option_map Some (cell rows row.path))) l ≡ false
    none [] b = refl
    none (row ∷ l) b = elim (is_prefix q row.path && is_some (option_map Some (cell rows row.path))) as (λ c. (is_prefix q row.path && is_some (option_map Some (cell rows row.path))) ≡ c → (c || list_any (λ row. is_prefix q row.path && is_some (option_map Some (cell rows row.path))) l) ≡ false) [
      | true ↦ λ c. let yes = merged rows q row.path c in cc
      | false ↦ λ c. none l b
    ] refl

-- the rows of an act are below its path, as each act requires
abbrev pub IsLawful : List Step → Act → Type 0
IsLawful p (Put rows) = under rows p ≡ rows
IsLawful p (Merge rows) = Unit {0}
IsLawful p Delete = Unit {0}
IsLawful p Read = Unit {0}

-- a read touches nothing
pub read-touches : (before : List Row) (p q : List Step) → act_touches before p Read q ≡ false
read-touches [] p q = refl
read-touches (row ∷ before) p q = elim (is_prefix q row.path) as (λ b. ((b && false) || act_touches before p Read q) ≡ false) [ true ↦ read-touches before p q | false ↦ read-touches before p q ]

-- an edit stamps what its operation touches, and nothing else
pub Follows-act : (s : ℕ) (t : Tree) (p : List Step) (act : Act) → IsGrove t.kids → IsLawful p act → Follows (exactly s) (act_touches (rows_of t) p act) t (edit_by s t p act)
Follows-act s t p (Put rows) h lawful = Follows-by (exactly s) (λ q. clears p t q || has (under rows p) q) (act_touches (rows_of t) p (Put rows)) t _ (λ q.
    (λ i. clears-any t p q (λ r. act_setting p (Put rows) r) (λ r. set_by_put (is_prefix p r) (cell rows r)) h i || has (lawful i) q)
    ∙ or_swap (list_any (λ row. is_prefix q row.path && is_some (act_setting p (Put rows) row.path)) (rows_of t)) (has rows q)) (Follows-put s t p rows h)
Follows-act s t p (Merge rows) h lawful = Follows-by (exactly s) (has rows) (act_touches (rows_of t) p (Merge rows)) t _ (λ q. sym (absorbed rows (rows_of t) q)) (Follows-rows s rows t h)
Follows-act s t p Delete h lawful = Follows-by (exactly s) (clears p t) (act_touches (rows_of t) p Delete) t _ (λ q. clears-any t p q (λ r. act_setting p Delete r) (λ r. set_by_delete (is_prefix p r)) h) (Follows-without s t p h)
Follows-act s t p Read h lawful = Follows-by (exactly s) (λ q. false) (act_touches (rows_of t) p Read) t t (λ q. sym (read-touches (rows_of t) p q)) (Follows-same (exactly s) t)
