-- The receipts of commits: each is one of those that were decided.
use Rattle.std.proofs.Common.{◌≡◌, ℕ, zero, suc, ◌+◌, ◌-◌, ◌<◌, ◌≤◌, true, false, List, [], ◌∷◌, ◌++◌, length, map, get_or, Some, refl, ap, sym, ◌∙◌, subst, arith, append_assoc, append-nil, if◌then◌else◌, nat_eq}
use Rattle.std.specs.Prelude.{slice_get}
use Rattle.std.proofs.lemmas.Option.{same_Some}
use Rattle.std.proofs.lemmas.Bool.Decides.{nat_tests}
use Rattle.sal_rows.specs.declared.outcome.Outcome.{Outcome}
use Rattle.sal_tree.specs.declared.commit.Commit.{Commit}
use Rattle.sal_commit.specs.Stamps.{first_receipt, receipts_of}
use Rattle.sal_history.specs.Submissions.{Sent, if_done, is_done}
use Rattle.sal_hub.specs.CommitReceipts.{commit_receipts, receipts_from}

-- ---- one more submission or outcome

abbrev pub added_receipt : ℕ → Sent → Outcome → ℕ → List ℕ
added_receipt n s o r = if nat_eq s.base.domain n then if_done o r else []

undone : (r n : ℕ) (ss : List Sent) → receipts_from r n ss [] ≡ []
undone r n [] = refl
undone r n (s ∷ ss) = refl

-- a submission that is not decided adds no commit
pub receipts-submit : (r n : ℕ) (ss : List Sent) (os : List Outcome) (s : Sent) → length os ≤ length ss → receipts_from r n (ss ++ s ∷ []) os ≡ receipts_from r n ss os
receipts-submit r n [] [] s l = refl
receipts-submit r n [] (o ∷ os) s l = absurd (omega arith)
receipts-submit r n (x ∷ ss) [] s l = refl
receipts-submit r n (x ∷ ss) (o ∷ os) s l = ap (λ (rs : List ℕ). added_receipt n x o r ++ rs) (receipts-submit (r + 1) n ss os s (omega arith))

-- one more outcome
pub receipts-decide : (r n : ℕ) (ss : List Sent) (os : List Outcome) (s : Sent) (o : Outcome) → slice_get ss (length os) ≡ Some s → receipts_from r n ss (os ++ o ∷ []) ≡ receipts_from r n ss os ++ added_receipt n s o (r + length os)
receipts-decide r n [] os s o e = cc
receipts-decide r n (x ∷ ss) [] s o e =
    let same : x ≡ s = same_Some x s e in
    let here : r ≡ r + 0 = omega arith in
    (λ i. added_receipt n (same i) o (here i) ++ undone (r + 1) n ss i) ∙ append-nil (added_receipt n s o (r + 0))
receipts-decide r n (x ∷ ss) (p ∷ os) s o e =
    let next : r + 1 + length os ≡ r + suc (length os) = omega arith in
    ap (λ (rs : List ℕ). added_receipt n x p r ++ rs) (receipts-decide (r + 1) n ss os s o e ∙ ap (λ k. receipts_from (r + 1) n ss os ++ added_receipt n s o k) next)
    ∙ sym (append_assoc (added_receipt n x p r) (receipts_from (r + 1) n ss os) (added_receipt n s o (r + suc (length os))))

pub receipt-here : (n : ℕ) (s : Sent) (o : Outcome) (r : ℕ) → n ≡ s.base.domain → added_receipt n s o r ≡ if_done o r
receipt-here n s o r e = let own : nat_eq s.base.domain n ≡ true = grind (arith, nat_tests) in ap (λ b. if b then if_done o r else []) own

pub receipt-other : (n : ℕ) (s : Sent) (o : Outcome) (r : ℕ) → (n ≡ s.base.domain → ⊥) → added_receipt n s o r ≡ []
receipt-other n s o r differs = let other : nat_eq s.base.domain n ≡ false = grind (arith, nat_tests) in ap (λ b. if b then if_done o r else []) other

-- ---- each is less than a bound

abbrev AreBelow : ℕ → List ℕ → Type 0
AreBelow bound [] = Unit {0}
AreBelow bound (r ∷ rs) = (r < bound) × AreBelow bound rs

below-more : (bound : ℕ) (rs qs : List ℕ) → AreBelow bound rs → AreBelow bound qs → AreBelow bound (rs ++ qs)
below-more bound [] qs low more = more
below-more bound (r ∷ rs) qs low more = (low.0, below-more bound rs qs low.1 more)

below-added : (bound n : ℕ) (s : Sent) (o : Outcome) (r : ℕ) → r < bound → AreBelow bound (added_receipt n s o r)
below-added bound n s o r low =
    elim (nat_eq s.base.domain n) as (λ b. AreBelow bound (if b then if_done o r else [])) [
      | true ↦ elim (is_done o) as (λ b. AreBelow bound (if b then r ∷ [] else [])) [ true ↦ (low, tt) | false ↦ tt ]
      | false ↦ tt
    ]

below-from : (bound r n : ℕ) (ss : List Sent) (os : List Outcome) → r + length os ≤ bound → AreBelow bound (receipts_from r n ss os)
below-from bound r n [] os h = tt
below-from bound r n (s ∷ ss) [] h = tt
below-from bound r n (s ∷ ss) (o ∷ os) h =
    below-more bound (added_receipt n s o r) (receipts_from (r + 1) n ss os) (below-added bound n s o r (omega (arith, h))) (below-from bound (r + 1) n ss os (omega (arith, h)))

below-at : (bound first : ℕ) (commits : List Commit) (k : ℕ) (c : Commit) → AreBelow bound (map (λ (x : Commit). x.receipt - first) commits) → k < length commits → c ≡ get_or commits k c → c.receipt - first < bound
below-at bound first [] k c low h at = absurd (omega arith)
below-at bound first (d ∷ commits) zero c low h at = subst (λ (x : Commit). x.receipt - first < bound) (sym at) low.0
below-at bound first (d ∷ commits) (suc k) c low h at = below-at bound first commits k c low.1 (omega (arith, h)) at

-- a commit's receipt is that of the opening, or one of those decided
pub receipt-decided : (n : ℕ) (ss : List Sent) (os : List Outcome) (commits : List Commit) (k : ℕ) (c : Commit) → receipts_of commits ≡ commit_receipts n ss os → k < length commits → c ≡ get_or commits k c → c.receipt < first_receipt commits + (length os + 1)
receipt-decided n ss os commits k c are h at =
    let bound : ℕ = length os + 1 in
    let low : AreBelow bound (commit_receipts n ss os) = (omega arith, below-from bound 1 n ss os (omega arith)) in
    omega (arith, below-at bound (first_receipt commits) commits k c (subst (AreBelow bound) (sym are) low) h at)
