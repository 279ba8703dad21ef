-- The rows of a node by its children.
use Rattle.std.proofs.Common.{◌≡◌, ℕ, suc, zero, ◌+◌, ◌<◌, ◌≤◌, List, [], ◌∷◌, ◌++◌, length, take, get_or, refl, ap, sym, ◌∙◌, append_assoc, arith}
use Rattle.std.specs.Borrow.{Bor}
use Rattle.sal_types.specs.declared.value.Step.{Step}
use Rattle.sal_types.specs.declared.row.Row.{Row}
use Rattle.sal_node.specs.Tree.{Tree, Forest, bare, grown, pairs, weight, size_of, height}
use Rattle.sal_node.specs.Shape.{seen}
use Rattle.sal_node.specs.declared.node.Child.{Child}
use Rattle.sal_tree.specs.Rows.{here, below, rows_in, rows_of, from_path}
use Rattle.sal_node.proofs.Entries.{Entries}

abbrev pub rows_by : List (Step × Tree) → List Row
rows_by [] = []
rows_by (e ∷ es) = below e.0 (rows_of e.1) ++ rows_by es

pub rows_in-pairs : (f : Forest) → rows_in f ≡ rows_by (pairs f)
rows_in-pairs bare = refl
rows_in-pairs (grown x s c ks rest) = ap (λ (l : List Row). below x (here c ++ rows_in ks) ++ l) (rows_in-pairs rest)

pub rows_by-append : (xs ys : Entries) → rows_by (xs ++ ys) ≡ rows_by xs ++ rows_by ys
rows_by-append [] ys = refl
rows_by-append (e ∷ xs) ys = ap (λ (l : List Row). below e.0 (rows_of e.1) ++ l) (rows_by-append xs ys) ∙ sym (append_assoc (below e.0 (rows_of e.1)) (rows_by xs) (rows_by ys))

from_path-append : (p : List Step) (xs ys : List Row) → from_path p (xs ++ ys) ≡ from_path p xs ++ from_path p ys
from_path-append p [] ys = refl
from_path-append p (r ∷ xs) ys = ap (λ (l : List Row). record { path = p ++ r.path; cell = r.cell } ∷ l) (from_path-append p xs ys)

from_path-below : (p : List Step) (x : Step) (rows : List Row) → from_path p (below x rows) ≡ from_path (p ++ x ∷ []) rows
from_path-below p x [] = refl
from_path-below p x (r ∷ rows) = λ i. record { path = sym (append_assoc p (x ∷ []) r.path) i; cell = r.cell } ∷ from_path-below p x rows i

pub append_none : (xs : List Row) → xs ++ [] ≡ xs
append_none [] = refl
append_none (x ∷ xs) = ap (λ (r : List Row). x ∷ r) (append_none xs)

pub seen-at : (cs : List (Bor Child)) (i : ℕ) (c : Bor Child) → i < length cs → c ≡ get_or cs i c → take (i + 1) (seen cs) ≡ take i (seen cs) ++ ((c.now.step, c.now.node.value) ∷ [])
seen-at [] i c l at = absurd (omega arith)
seen-at (d ∷ cs) zero c l at = ap (λ (e : Bor Child). (e.now.step, e.now.node.value) ∷ []) (sym at)
seen-at (d ∷ cs) (suc i) c l at = ap (λ n. take n (seen (d ∷ cs))) (let q : suc i + 1 ≡ suc (i + 1) = omega arith in q) ∙ ap (λ (es : Entries). (d.now.step, d.now.node.value) ∷ es) (seen-at cs i c (omega arith) at)

-- one more child listed
pub listed-child : (cs : List (Bor Child)) (i : ℕ) (c : Bor Child) (p q : List Step) (start into after : List Row) → i < length cs → c ≡ get_or cs i c → q ≡ p ++ c.now.step ∷ []
    → into ≡ start ++ from_path p (rows_by (take i (seen cs))) → after ≡ into ++ from_path q (rows_of c.now.node.value) → after ≡ start ++ from_path p (rows_by (take (i + 1) (seen cs)))
listed-child cs i c p q start into after l at path was is =
    is ∙ (λ k. was k ++ from_path (path k) (rows_of c.now.node.value)) ∙ append_assoc start _ _
    ∙ ap (λ (l : List Row). start ++ l) (
    ap (λ (l : List Row). from_path p (rows_by (take i (seen cs))) ++ l) (sym (from_path-below p c.now.step (rows_of c.now.node.value)) ∙ ap (from_path p) (sym (append_none (below c.now.step (rows_of c.now.node.value)))))
    ∙ sym (from_path-append p (rows_by (take i (seen cs))) (rows_by ((c.now.step, c.now.node.value) ∷ [])))
    ∙ ap (from_path p) (sym (ap rows_by (seen-at cs i c l at) ∙ rows_by-append (take i (seen cs)) ((c.now.step, c.now.node.value) ∷ []))))

pub take_all : (es : Entries) (n : ℕ) → length es ≤ n → take n es ≡ es
take_all [] zero l = refl
take_all [] (suc n) l = refl
take_all (e ∷ es) zero l = absurd (omega arith)
take_all (e ∷ es) (suc n) l = ap (λ (fs : Entries). e ∷ fs) (take_all es n (omega arith))

pub seen-length : (cs : List (Bor Child)) → length (seen cs) ≡ length cs
seen-length [] = refl
seen-length (c ∷ cs) = ap suc (seen-length cs)

-- all children listed
pub listed-all : (t : Tree) (cs : List (Bor Child)) (n : ℕ) (p : List Step) (start first last : List Row) → seen cs ≡ pairs t.kids → length cs ≤ n → first ≡ start ++ from_path p (here t.cell)
    → last ≡ first ++ from_path p (rows_by (take n (seen cs))) → last ≡ start ++ from_path p (rows_of t)
listed-all t cs n p start first last same l a b =
    b ∙ ap (λ (es : Entries). first ++ from_path p (rows_by es)) (take_all (seen cs) n (omega (arith, seen-length cs)) ∙ same)
    ∙ (λ k. a k ++ from_path p (sym (rows_in-pairs t.kids) k)) ∙ append_assoc start _ _ ∙ ap (λ (l : List Row). start ++ l) (sym (from_path-append p (here t.cell) (rows_in t.kids)))

abbrev head_size : Entries → ℕ
head_size [] = 0
head_size (e ∷ es) = size_of e.1

abbrev head_height : Entries → ℕ
head_height [] = 0
head_height (e ∷ es) = height e.1.kids

abbrev tail_of : Entries → Entries
tail_of [] = []
tail_of (e ∷ es) = es

-- a child is smaller than its node
pub lighter : (f : Forest) (cs : List (Bor Child)) (i : ℕ) (c : Bor Child) → seen cs ≡ pairs f → i < length cs → c ≡ get_or cs i c → size_of c.now.node.value < weight f
lighter bare [] i c same l at = absurd (omega arith)
lighter bare (d ∷ cs) i c same l at = cc
lighter (grown x s k ks rest) [] i c same l at = absurd (omega arith)
lighter (grown x s k ks rest) (d ∷ cs) zero c same l at =
    let e : size_of c.now.node.value ≡ weight ks = ap (λ (b : Bor Child). size_of b.now.node.value) at ∙ ap head_size same in
    omega arith
lighter (grown x s k ks rest) (d ∷ cs) (suc i) c same l at =
    let h = lighter rest cs i c (ap tail_of same) (omega arith) at in
    omega arith

-- a child with its step is within the height of its node
pub lower-child : (n : ℕ) (f : Forest) (cs : List (Bor Child)) (i : ℕ) (c : Bor Child) → height f ≤ n → seen cs ≡ pairs f → i < length cs → c ≡ get_or cs i c → height c.now.node.value.kids + 1 ≤ n
lower-child n bare [] i c h same l at = absurd (omega arith)
lower-child n bare (d ∷ cs) i c h same l at = cc
lower-child n (grown x s k ks rest) [] i c h same l at = absurd (omega arith)
lower-child n (grown x s k ks rest) (d ∷ cs) zero c h same l at =
    let e : height c.now.node.value.kids ≡ height ks = ap (λ (b : Bor Child). height b.now.node.value.kids) at ∙ ap head_height same in
    omega arith
lower-child n (grown x s k ks rest) (d ∷ cs) (suc i) c h same l at = lower-child n rest cs i c (omega arith) (ap tail_of same) (omega arith) at
