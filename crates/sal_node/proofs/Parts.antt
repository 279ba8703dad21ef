-- The entries of a list of parts, as of children, pages or sheets, part by part.
use Rattle.std.proofs.Common.{◌≡◌, ℕ, suc, zero, ◌+◌, ◌<◌, ◌≤◌, Bool, true, false, List, [], ◌∷◌, ◌++◌, length, take, drop, get_or, Option, refl, ap, sym, ◌∙◌, subst, append_assoc, append-nil, arith}
use Rattle.std.specs.Prelude.{T}
use Rattle.std.proofs.Math.Seq.{drop-cons}
use Rattle.std.proofs.lemmas.List.{length-append, take_more, take-append-drop}
use Rattle.std.specs.FinMap.{find, is_sorted}
use Rattle.std.specs.FinMap.Entries.{below_all}
use Rattle.sal_types.specs.declared.value.Step.{Step}
use Rattle.sal_types.specs.Order.{step_cmp}
use Rattle.sal_node.specs.Tree.{Tree, change}
use Rattle.sal_node.proofs.Entries.{Entries, AllBefore, change-front, change-back, find-front, find-back, sorted-tail, sorted-front_part}

abbrev IsSorted : Entries → Type 0
IsSorted es = T (is_sorted step_cmp es)

drop_more : {X : Type 0} (xs : List X) (n : ℕ) (q : X) (qs : List X) → q ∷ qs ≡ drop n xs → (n < length xs) × (q ≡ get_or xs n q)
drop_more [] zero q qs e = cc
drop_more [] (suc n) q qs e = cc
drop_more (x ∷ xs) zero q qs e = (omega arith, cc)
drop_more (x ∷ xs) (suc n) q qs e = let r = drop_more xs n q qs e in (omega (arith, r.0), r.1)

-- what is in a part, and in a list of parts
module _ {P : Type 0} (content : P → Entries) (all : List P → Entries) (none : all [] ≡ []) (more : (p : P) (ps : List P) → all (p ∷ ps) ≡ content p ++ all ps) where
  pub append : (ps qs : List P) → all (ps ++ qs) ≡ all ps ++ all qs
  append [] qs = sym (ap (λ (es : Entries). es ++ all qs) none)
  append (p ∷ ps) qs =
      more p (ps ++ qs) ∙ ap (λ (es : Entries). content p ++ es) (append ps qs) ∙ sym (append_assoc (content p) (all ps) (all qs))
      ∙ sym (ap (λ (es : Entries). es ++ all qs) (more p ps))

  one : (p : P) → all (p ∷ []) ≡ content p
  one p = more p [] ∙ ap (λ (es : Entries). content p ++ es) none ∙ append-nil (content p)

  -- the entries of one more part
  pub next : (ps : List P) (i : ℕ) (p : P) (es base so_far now : Entries) → i < length ps → content (get_or ps i p) ≡ es → so_far ≡ base ++ all (take i ps) → now ≡ so_far ++ es → now ≡ base ++ all (take (i + 1) ps)
  next ps i p es base so_far now l at was e =
      e ∙ ap (λ (r : Entries). r ++ es) was ∙ append_assoc base (all (take i ps)) es
      ∙ ap (λ (r : Entries). base ++ r) (sym (ap all (take_more ps i p l) ∙ append (take i ps) (get_or ps i p ∷ []) ∙ ap (λ (r : Entries). all (take i ps) ++ r) (one (get_or ps i p) ∙ at)))

  -- one more part is put behind the others
  pub pushed : (ps : List P) (p : P) (es : Entries) (after : List P) → content p ≡ es → after ≡ ps ++ p ∷ [] → all after ≡ all ps ++ es
  pushed ps p es after is e = ap all e ∙ append ps (p ∷ []) ∙ ap (λ (r : Entries). all ps ++ r) (one p ∙ is)

  pub one-more : (into ps : List P) (i : ℕ) (p new : P) (start after : List P) → i < length ps → content (get_or ps i p) ≡ content new
      → all into ≡ all start ++ all (take i ps) → after ≡ into ++ new ∷ [] → all after ≡ all start ++ all (take (i + 1) ps)
  one-more into ps i p new start after l same was is = next ps i p (content new) (all start) (all into) (all after) l same was (pushed into new (content new) after refl is)

  -- the parts in two steps
  pub two : (base mid end : Entries) (ps first last : List P) (n : ℕ) → first ≡ take n ps → last ≡ drop n ps → mid ≡ base ++ all first → end ≡ mid ++ all last → end ≡ base ++ all ps
  two base mid end ps first last n f l a b =
      b ∙ ap (λ (r : Entries). r ++ all last) a ∙ append_assoc base (all first) (all last)
      ∙ ap (λ (r : Entries). base ++ r) (sym (append first last) ∙ ap all ((λ i. f i ++ l i) ∙ take-append-drop n ps))

  pub split : (ps : List P) (i : ℕ) (p : P) → i < length ps → p ≡ get_or ps i p → all ps ≡ all (take i ps) ++ (content p ++ all (drop (i + 1) ps))
  split ps i p l at =
      let n : suc i ≡ i + 1 = omega arith in
      ap all (sym (take-append-drop i ps)) ∙ append (take i ps) (drop i ps)
      ∙ ap (λ (qs : List P). all (take i ps) ++ all qs) (drop-cons ps i p l)
      ∙ ap (λ (r : Entries). all (take i ps) ++ r) (more (get_or ps i p) (drop (suc i) ps))
      ∙ ap (λ (q : P). all (take i ps) ++ (content q ++ all (drop (suc i) ps))) (sym at)
      ∙ ap (λ m. all (take i ps) ++ (content p ++ all (drop m ps))) n

  -- how many entries the first parts have, and all parts
  pub counted-next : (ps : List P) (i : ℕ) (p : P) (n : ℕ) → i < length ps → p ≡ get_or ps i p → n ≡ length (content p) → length (all (take (i + 1) ps)) ≡ length (all (take i ps)) + n
  counted-next ps i p n l at is =
      sym (ap length (next ps i p (content p) [] (all (take i ps)) (all (take i ps) ++ content p) l (ap content (sym at)) refl refl))
      ∙ length-append (all (take i ps)) (content p) ∙ ap (λ m. length (all (take i ps)) + m) (sym is)

  pub counted-within : (ps : List P) (i : ℕ) (p : P) (n : ℕ) → i < length ps → p ≡ get_or ps i p → n ≡ length (content p) → length (all (take i ps)) + n ≤ length (all ps)
  counted-within ps i p n l at is =
      let back = all (drop (i + 1) ps) in
      omega (arith, ap length (split ps i p l at), length-append (all (take i ps)) (content p ++ back), length-append (content p) back, is)

  pub part-sorted : (ps : List P) (i : ℕ) (p : P) → i < length ps → p ≡ get_or ps i p → IsSorted (all ps) → IsSorted (content p)
  part-sorted ps i p l at h = sorted-front_part (content p) (all (drop (i + 1) ps)) (sorted-tail (all (take i ps)) _ (subst IsSorted (split ps i p l at) h))

  -- where a part begins: each good part that does not begin after the step has all before it below the step
  module _ (begins : Step → P → Bool) (Good : P → Type 0)
      (front : (x : Step) (p : P) (fs bs : Entries) → Good p → IsSorted (fs ++ (content p ++ bs)) → begins x p ≡ false → AllBefore x fs)
      (back : (x : Step) (p : P) (bs : Entries) → Good p → IsSorted (content p ++ bs) → begins x p ≡ true → T (below_all step_cmp x (content p ++ bs))) where
    module _ (ps : List P) (good : (i : ℕ) (d : P) → i < length ps → Good (get_or ps i d)) (x : Step) where
      before_part : (i : ℕ) (p : P) → i < length ps → ((d : P) → 0 < i → begins x (get_or ps i d) ≡ false) → p ≡ get_or ps i p → IsSorted (all ps) → AllBefore x (all (take i ps))
      before_part zero p bound before at h = subst (AllBefore x) (sym none) tt
      before_part (suc i) p bound before at h =
          front x p (all (take (suc i) ps)) (all (drop (suc i + 1) ps)) (subst Good (sym at) (good (suc i) p bound)) (subst IsSorted (split ps (suc i) p bound at) h)
          (ap (begins x) at ∙ before p (omega arith))

      after_part : (i : ℕ) (p : P) → i < length ps → ((d : P) → i + 1 < length ps → begins x (get_or ps (i + 1) d) ≡ true) → p ≡ get_or ps i p → IsSorted (all ps) → T (below_all step_cmp x (all (drop (i + 1) ps)))
      after_part i p bound after at h = by_rest (drop (i + 1) ps) refl
        where
          by_rest : (rest : List P) → rest ≡ drop (i + 1) ps → T (below_all step_cmp x (all rest))
          by_rest [] e = subst (λ (es : Entries). T (below_all step_cmp x es)) (sym none) tt
          by_rest (q ∷ qs) e =
              let (longer, at_q) = drop_more ps (i + 1) q qs e in
              let behind : IsSorted (all (drop (i + 1) ps)) = sorted-tail (content p) (all (drop (i + 1) ps)) (sorted-tail (all (take i ps)) _ (subst IsSorted (split ps i p bound at) h)) in
              let sorted : IsSorted (content q ++ all qs) = subst IsSorted (ap all (sym e) ∙ more q qs) behind in
              subst (λ (es : Entries). T (below_all step_cmp x es)) (sym (more q qs))
              (back x q (all qs) (subst Good (sym at_q) (good (i + 1) q longer)) sorted (ap (begins x) at_q ∙ after q longer))

      -- a change at the step is in one part
      pub change-part : (o : Option Tree) (i : ℕ) (p : P) → i < length ps → ((d : P) → 0 < i → begins x (get_or ps i d) ≡ false) → ((d : P) → i + 1 < length ps → begins x (get_or ps (i + 1) d) ≡ true)
          → p ≡ get_or ps i p → IsSorted (all ps) → change x o (all ps) ≡ all (take i ps) ++ (change x o (content p) ++ all (drop (i + 1) ps))
      change-part o i p bound before after at h =
          ap (change x o) (split ps i p bound at) ∙ change-front x o (all (take i ps)) _ (before_part i p bound before at h)
          ∙ ap (λ (es : Entries). all (take i ps) ++ es) (change-back x o (content p) _ (after_part i p bound after at h))

      -- and so is what is found there
      pub find-part : (i : ℕ) (p : P) → i < length ps → ((d : P) → 0 < i → begins x (get_or ps i d) ≡ false) → ((d : P) → i + 1 < length ps → begins x (get_or ps (i + 1) d) ≡ true)
          → p ≡ get_or ps i p → IsSorted (all ps) → find step_cmp x (all ps) ≡ find step_cmp x (content p)
      find-part i p bound before after at h =
          ap (find step_cmp x) (split ps i p bound at) ∙ find-front x (all (take i ps)) _ (before_part i p bound before at h) ∙ find-back x (content p) _ (after_part i p bound after at h)
