-- The groupings that each one names, from one statement to the next.
use Rattle.std.proofs.Common.{◌≡◌, ℕ, zero, suc, ◌+◌, ◌<◌, List, [], ◌∷◌, ◌++◌, map, length, take, get_or, if◌then◌else◌, refl, sym, ap, ◌∙◌, arith, append_assoc, append-nil}
use Rattle.std.specs.List.{flat_map, enumerate_from}
use Rattle.std.proofs.lemmas.List.{take_more}
use Rattle.sal_stmt.specs.declared.stmt.Stmt.{Stmt}
use Rattle.sal_grouping.specs.declared.rows.Row.{Row}
use Rattle.sal_grouping.specs.Rows.{option_list, is_block}
use Rattle.sal_grouping.specs.Indexes.{picked}
use Rattle.sal_grouping.specs.Groupings.{named_by}
use Rattle.sal_grouping.specs.Names.{home_of, used_in, edges_of}

abbrev pub used_among : List Stmt → List Row → ℕ → List Row → List ℕ
used_among stmts rows g some = flat_map (λ (row : Row). if is_block g (home_of rows row) then option_list (named_by stmts rows row) else []) some

pub flat-last : {X A : Type 0} (f : X → List A) (xs : List X) (x : X) → flat_map f (xs ++ x ∷ []) ≡ flat_map f xs ++ f x
flat-last f [] x = append-nil (f x)
flat-last f (y ∷ xs) x = ap (λ rest. f y ++ rest) (flat-last f xs x) ∙ sym (append_assoc (f y) (flat_map f xs) (f x))

pub used-take : (stmts : List Stmt) (rows : List Row) (g i : ℕ) (row : Row) → i < length rows → row ≡ get_or rows i row
    → used_among stmts rows g (take (i + 1) rows) ≡ used_among stmts rows g (take i rows) ++ picked g (home_of rows row) (named_by stmts rows row)
used-take stmts rows g i row h is =
    let f : Row → List ℕ = λ r. picked g (home_of rows r) (named_by stmts rows r) in
    ap (flat_map f) (take_more rows i row h) ∙ flat-last f (take i rows) (get_or rows i row) ∙ ap (λ r. flat_map f (take i rows) ++ f r) (sym is)

-- ---- lists that agree at each place

pub same-lists : {X : Type 0} (xs ys : List X) (d : X) → length xs ≡ length ys → ((k : ℕ) → k < length xs → get_or xs k d ≡ get_or ys k d) → xs ≡ ys
same-lists [] [] d count each = refl
same-lists [] (y ∷ ys) d count each = absurd (omega arith)
same-lists (x ∷ xs) [] d count each = absurd (omega arith)
same-lists (x ∷ xs) (y ∷ ys) d count each =
    let first : x ≡ y = each 0 (omega arith) in
    let rest = same-lists xs ys d (omega arith) (λ k h. each (suc k) (omega arith)) in
    λ i. first i ∷ rest i

mapped-length : {X : Type 0} (f : ℕ → List ℕ) (n : ℕ) (xs : List X) → length (map (λ (entry : ℕ × X). f entry.0) (enumerate_from n xs)) ≡ length xs
mapped-length f n [] = refl
mapped-length f n (x ∷ xs) = ap suc (mapped-length f (n + 1) xs)

mapped-at : {X : Type 0} (f : ℕ → List ℕ) (n : ℕ) (xs : List X) (k : ℕ) → k < length xs → get_or (map (λ (entry : ℕ × X). f entry.0) (enumerate_from n xs)) k [] ≡ f (n + k)
mapped-at f n [] k h = absurd (omega arith)
mapped-at f n (x ∷ xs) zero h = let none : n ≡ n + 0 = omega arith in ap f none
mapped-at f n (x ∷ xs) (suc k) h = let more : n + 1 + k ≡ n + suc k = omega arith in mapped-at f (n + 1) xs k (omega arith) ∙ ap f more

pub edges-all : (stmts : List Stmt) (rows : List Row) (edges : List (List ℕ)) → length edges ≡ length rows → ((g : ℕ) → g < length rows → get_or edges g [] ≡ used_in stmts rows g)
    → edges ≡ edges_of stmts rows
edges-all stmts rows edges count each =
    same-lists edges (edges_of stmts rows) [] (count ∙ sym (mapped-length (used_in stmts rows) 0 rows))
    (λ k h. let none : 0 + k ≡ k = omega arith in each k (omega arith) ∙ ap (used_in stmts rows) (sym none) ∙ sym (mapped-at (used_in stmts rows) 0 rows k (omega arith)))
