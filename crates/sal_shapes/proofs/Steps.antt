-- Loops over rows and lanes: one more, and all.
use Rattle.std.proofs.Common.{◌≡◌, ℕ, ◌+◌, ◌<◌, ◌≤◌, Bool, true, false, List, [], ◌∷◌, ◌++◌, length, get_or, take, drop, refl, ap, sym, ◌∙◌, append_assoc, arith}
use Rattle.std.specs.Prelude.{if◌then◌else◌, not}
use Rattle.std.specs.List.{flat_map, fold, enumerate_from}
use Rattle.std.proofs.lemmas.List.{append-nil, drop_all, drop_more, take_more}
use Rattle.std.proofs.lemmas.List.Sums.{fold_push}
use Rattle.sal_shapes.specs.declared.frame.Here.{Here}
use Rattle.sal_shapes.specs.declared.scene.Act.{Act}
use Rattle.sal_shapes.specs.declared.scene.Act.TheVariants.{Joins, Sets, Spans}
use Rattle.sal_shapes.specs.declared.scene.Row.{Row}
use Rattle.sal_shapes.specs.Shapes.{Drawn, act, acts, draw_row, here_of, with_words}

-- one item more of a fold
pub fold_more : {A B : Type 0} (f : B → A → B) (a : B) (xs : List A) (i : ℕ) (x : A) → i < length xs → x ≡ get_or xs i x → fold f a (take (i + 1) xs) ≡ f (fold f a (take i xs)) x
fold_more f a xs i x h e = ap (fold f a) (take_more xs i x h) ∙ fold_push f a (take i xs) (get_or xs i x) ∙ ap (f (fold f a (take i xs))) (sym e)

-- what is left of numbered items
pub numbered_more : {X A : Type 0} (f : ℕ × X → List A) (xs : List X) (i : ℕ) (x : X) (out : List A) → i < length xs → x ≡ get_or xs i x → (out ++ f (i, x)) ++ flat_map f (enumerate_from (i + 1) (drop (i + 1) xs)) ≡ out ++ flat_map f (enumerate_from i (drop i xs))
numbered_more {X} f xs i x out h e =
    append_assoc out (f (i, x)) (flat_map f (enumerate_from (i + 1) (drop (i + 1) xs)))
    ∙ ap (λ (ys : List X). out ++ flat_map f (enumerate_from i ys)) (ap (λ (y : X). y ∷ drop (i + 1) xs) e ∙ sym (drop_more xs i x h))

pub numbered_all : {X A : Type 0} (f : ℕ × X → List A) (xs : List X) (i : ℕ) (out : List A) → length xs ≤ i → out ++ flat_map f (enumerate_from i (drop i xs)) ≡ out
numbered_all {X} f xs i out h = ap (λ (ys : List X). out ++ flat_map f (enumerate_from i ys)) (drop_all i xs h) ∙ append-nil out

-- ---- how many rows there are

act_rows : (here : Here) (d : Drawn) (a : Act) → (act here d a).rows ≡ d.rows
act_rows here d (Sets p) = refl
act_rows here d (Joins style p) = refl
act_rows here d (Spans place) = refl

acts_rows : (here : Here) (list : List Act) (d : Drawn) → (acts here list d).rows ≡ d.rows
acts_rows here [] d = refl
acts_rows here (a ∷ list) d = acts_rows here list (act here d a) ∙ act_rows here d a

one_at_most : (n : ℕ) (b : Bool) → n + (if b then 1 else 0) ≤ n + 1
one_at_most n true = omega arith
one_at_most n false = omega arith

pub one_row : (d : Drawn) (row : Row) → (draw_row d row).rows ≤ d.rows + 1
one_row d row =
    let e : (draw_row d row).rows ≡ d.rows + (if not row.hidden then 1 else 0) = acts_rows (here_of row d) row.acts (with_words (here_of row d) row d) in
    let h = one_at_most d.rows (not row.hidden) in
    omega (arith, e, h)
