-- One more submission and one more outcome: the commits of a domain, the failed chains, and the pending submissions.
use Rattle.std.proofs.Common.{◌≡◌, ℕ, suc, ◌+◌, ◌-◌, ◌<◌, ◌≤◌, Bool, true, false, List, [], ◌∷◌, ◌++◌, ◌&&◌, length, Option, None, Some, refl, ap, sym, ◌∙◌, subst, cond, arith, inl, inr, append-nil, append_assoc}
use Rattle.std.specs.Prelude.{not, slice_get, option_and_then, if◌then◌else◌, nat_eq, nat_lt}
use Rattle.std.specs.Option.{option_or}
use Rattle.std.proofs.lemmas.Bool.{le-ltb, lt-ltb}
use Rattle.std.proofs.lemmas.Option.{cond_some, none-some, same_Some, slice_get_cases}
use Rattle.sal_rows.specs.declared.outcome.Outcome.{Outcome}
use Rattle.sal_history.specs.Numbered.{numbered}
use Rattle.sal_history.specs.Submissions.{Sent, done, failing_from, if_done, is_done, is_in, last_from, last_receipt, pending_receipt}
use Rattle.sal_history.proofs.Numbered.{numbered-low}

-- the last submission of the chain that is not decided
abbrev pub waiting : Option ℕ → List Sent → List Outcome → Option Sent
waiting chain [] os = None
waiting chain (s ∷ ss) [] = option_or (waiting chain ss []) (if is_in chain s then Some s else None)
waiting chain (s ∷ ss) (o ∷ os) = waiting chain ss os

-- ---- commits

-- the commits that a submission with this outcome adds to a domain
abbrev pub added : ℕ → Sent → Outcome → List Sent
added domain s o = if nat_eq s.base.domain domain then if_done o s else []

pub done_none : (domain : ℕ) (ss : List Sent) → done domain ss [] ≡ []
done_none domain [] = refl
done_none domain (s ∷ ss) = refl

-- a submission that is not decided makes no commit
pub done-more : (domain : ℕ) (ss : List Sent) (s : Sent) (os : List Outcome) → length os ≤ length ss → done domain (ss ++ s ∷ []) os ≡ done domain ss os
done-more domain [] s [] le = refl
done-more domain [] s (o ∷ os) le = absurd (omega (arith, le))
done-more domain (t ∷ ss) s [] le = refl
done-more domain (t ∷ ss) s (o ∷ os) le = ap (λ (ds : List Sent). added domain t o ++ ds) (done-more domain ss s os (omega (arith, le)))

-- a decided one makes a commit if it is done
pub done-next : (domain : ℕ) (ss : List Sent) (s : Sent) (os : List Outcome) (o : Outcome) → slice_get ss (length os) ≡ Some s → done domain ss (os ++ o ∷ []) ≡ done domain ss os ++ added domain s o
done-next domain [] s os o at = absurd (none-some s at)
done-next domain (t ∷ ss) s [] o at =
    ap (λ (ds : List Sent). added domain t o ++ ds) (done_none domain ss) ∙ append-nil (added domain t o) ∙ ap (λ (x : Sent). added domain x o) (same_Some t s at)
done-next domain (t ∷ ss) s (p ∷ os) o at =
    ap (λ (ds : List Sent). added domain t p ++ ds) (done-next domain ss s os o at) ∙ sym (append_assoc (added domain t p) (done domain ss os) (added domain s o))

-- ---- chains that failed

if_none : (b : Bool) (x : ℕ) (r : Option ℕ) → cond b (Some x) r ≡ None → (b ≡ false) × (r ≡ None)
if_none true x r e = cc
if_none false x r e = (refl, e)

abbrev pub fails : Option ℕ → Sent → Outcome → Bool
fails chain s o = is_in chain s && not (is_done o)

pub failing-more : (n : ℕ) (chain : Option ℕ) (ss : List Sent) (s : Sent) (os : List Outcome) → length os ≤ length ss → failing_from n chain (ss ++ s ∷ []) os ≡ failing_from n chain ss os
failing-more n chain [] s [] le = refl
failing-more n chain [] s (o ∷ os) le = absurd (omega (arith, le))
failing-more n chain (t ∷ ss) s [] le = refl
failing-more n chain (t ∷ ss) s (o ∷ os) le = ap (λ (r : Option ℕ). cond (fails chain t o) (Some n) r) (failing-more (n + 1) chain ss s os (omega (arith, le)))

-- a chain that has not failed after an outcome had not before, and its submission was done
pub failing-next : (n : ℕ) (chain : Option ℕ) (ss : List Sent) (s : Sent) (os : List Outcome) (o : Outcome) → slice_get ss (length os) ≡ Some s → failing_from n chain ss (os ++ o ∷ []) ≡ None
    → (failing_from n chain ss os ≡ None) × (fails chain s o ≡ false)
failing-next n chain [] s os o at e = absurd (none-some s at)
failing-next n chain (t ∷ ss) s [] o at e =
    (refl, subst (λ (x : Sent). fails chain x o ≡ false) (same_Some t s at) (if_none (fails chain t o) n (failing_from (n + 1) chain ss []) e).0)
failing-next n chain (t ∷ ss) s (p ∷ os) o at e =
    let parts = if_none (fails chain t p) n (failing_from (n + 1) chain ss (os ++ o ∷ [])) e in
    let later = failing-next (n + 1) chain ss s os o at parts.1 in
    (ap (λ b. cond b (Some n) (failing_from (n + 1) chain ss os)) parts.0 ∙ later.0, later.1)

-- ---- pending submissions

-- no submission waits if all are decided
pub waiting_none : (chain : Option ℕ) (ss : List Sent) (os : List Outcome) → length ss ≤ length os → waiting chain ss os ≡ None
waiting_none chain [] os le = refl
waiting_none chain (s ∷ ss) [] le = absurd (omega (arith, le))
waiting_none chain (s ∷ ss) (o ∷ os) le = waiting_none chain ss os (omega (arith, le))

-- nor without a chain
pub waiting_plain : (ss : List Sent) (os : List Outcome) → waiting None ss os ≡ None
waiting_plain [] os = refl
waiting_plain (s ∷ ss) [] = ap (λ (w : Option Sent). option_or w None) (waiting_plain ss [])
waiting_plain (s ∷ ss) (o ∷ os) = waiting_plain ss os

pub waiting-more : (chain : Option ℕ) (ss : List Sent) (s : Sent) (os : List Outcome) → length os ≤ length ss → waiting chain (ss ++ s ∷ []) os ≡ (if is_in chain s then Some s else waiting chain ss os)
waiting-more chain [] s [] le = refl
waiting-more chain [] s (o ∷ os) le = absurd (omega (arith, le))
waiting-more chain (t ∷ ss) s [] le =
    let here : Option Sent = if is_in chain t then Some t else None in
    ap (λ (w : Option Sent). option_or w here) (waiting-more chain ss s [] (omega arith))
    ∙ elim (is_in chain s) as (λ b. option_or (cond b (Some s) (waiting chain ss [])) here ≡ cond b (Some s) (option_or (waiting chain ss []) here)) [ true ↦ refl | false ↦ refl ]
waiting-more chain (t ∷ ss) s (o ∷ os) le = waiting-more chain ss s os (omega (arith, le))

pub waiting-next : (chain : Option ℕ) (ss : List Sent) (s : Sent) (os : List Outcome) (o : Outcome) → slice_get ss (length os) ≡ Some s
    → waiting chain ss os ≡ option_or (waiting chain ss (os ++ o ∷ [])) (if is_in chain s then Some s else None)
waiting-next chain [] s os o at = absurd (none-some s at)
waiting-next chain (t ∷ ss) s [] o at = ap (λ (x : Sent). option_or (waiting chain ss []) (if is_in chain x then Some x else None)) (same_Some t s at)
waiting-next chain (t ∷ ss) s (p ∷ os) o at = waiting-next chain ss s os o at

-- ---- the pending receipt of a chain is what waits

last_within : {X : Type 0} (n : ℕ) (test : X → Bool) (xs : List X) (k : ℕ) → last_from n test xs ≡ Some k → (n ≤ k) × (k < n + length xs)
last_within n test [] k e = absurd (none-some k e)
last_within n test (x ∷ xs) k e =
    elim (last_from (n + 1) test xs) as (λ (o : Option ℕ). last_from (n + 1) test xs ≡ o → option_or o (if test x then Some n else None) ≡ Some k → (n ≤ k) × (k < n + length (x ∷ xs))) [
      | None ↦ λ e h. let same = (cond_some (test x) n k h).1 in (omega (arith, same), omega (arith, same))
      | Some j ↦ λ e h. let same = same_Some j k h in let rest = last_within (n + 1) test xs j e in (omega (arith, same, rest.0), omega (arith, same, rest.1))
    ] refl e

-- the element with this number, counted from `n`, if it is above the bound
abbrev pub found : {X : Type 0} → ℕ → ℕ → List X → Option ℕ → Option X
found n bound xs o = option_and_then (λ k. slice_get xs (k - n)) (option_and_then (λ k. if nat_lt bound k then Some k else None) o)

found_later : {X : Type 0} (n bound : ℕ) (x : X) (xs : List X) (k : ℕ) → n + 1 ≤ k → found n bound (x ∷ xs) (Some k) ≡ found (n + 1) bound xs (Some k)
found_later n bound x xs k le =
    let next : k - n ≡ suc (k - (n + 1)) = omega (arith, le) in
    elim (nat_lt bound k) as (λ b. option_and_then (λ j. slice_get (x ∷ xs) (j - n)) (cond b (Some k) None) ≡ option_and_then (λ j. slice_get xs (j - (n + 1))) (cond b (Some k) None)) [
      | true ↦ ap (slice_get (x ∷ xs)) next
      | false ↦ refl
    ]

found_here : {X : Type 0} (n bound k : ℕ) (xs : List X) → bound < k → found n bound xs (Some k) ≡ slice_get xs (k - n)
found_here n bound k xs lt = ap (λ b. option_and_then (λ j. slice_get xs (j - n)) (cond b (Some k) None)) (lt-ltb bound k lt)

found_not : {X : Type 0} (n bound k : ℕ) (xs : List X) → k ≤ bound → found n bound xs (Some k) ≡ None
found_not n bound k xs le = ap (λ b. option_and_then (λ j. slice_get xs (j - n)) (cond b (Some k) None)) (le-ltb bound k le)

waits_from : (n bound : ℕ) (chain : Option ℕ) (ss : List Sent) (os : List Outcome) → bound + 1 ≡ length os + n → found n bound ss (last_from n (is_in chain) ss) ≡ waiting chain ss os
waits_from n bound chain [] os e = refl
waits_from n bound chain (s ∷ ss) [] e =
    let here : Option Sent = if is_in chain s then Some s else None in
    let later = waits_from (n + 1) n chain ss [] (omega arith) in
    elim (last_from (n + 1) (is_in chain) ss) as (λ (o : Option ℕ). last_from (n + 1) (is_in chain) ss ≡ o → found (n + 1) n ss o ≡ waiting chain ss []
    → found n bound (s ∷ ss) (option_or o (if is_in chain s then Some n else None)) ≡ option_or (waiting chain ss []) here) [
      | None ↦ λ f w.
          let start : n - n ≡ 0 = omega arith in
          elim (is_in chain s) as (λ b. found n bound (s ∷ ss) (cond b (Some n) None) ≡ cond b (Some s) None) [
            | true ↦ found_here n bound n (s ∷ ss) (omega (arith, e)) ∙ ap (slice_get (s ∷ ss)) start
            | false ↦ refl
          ]
          ∙ ap (λ (x : Option Sent). option_or x here) w
      | Some k ↦ λ f w.
          let near = last_within (n + 1) (is_in chain) ss k f in
          let same : slice_get ss (k - (n + 1)) ≡ waiting chain ss [] = sym (found_here (n + 1) n k ss (omega (arith, near.0))) ∙ w in
          found_later n bound s ss k near.0 ∙ found_here (n + 1) bound k ss (omega (arith, near.0, e))
          ∙ elim ((slice_get_cases ss (k - (n + 1))).1) [
            | inl x ↦ x.2 ∙ ap (λ (y : Option Sent). option_or y here) (sym x.2 ∙ same)
            | inr x ↦ absurd (omega (arith, near.0, near.1, x.0))
          ]
    ] refl later
waits_from n bound chain (s ∷ ss) (o ∷ os) e =
    elim (last_from (n + 1) (is_in chain) ss) as (λ (o : Option ℕ). last_from (n + 1) (is_in chain) ss ≡ o → found (n + 1) bound ss o ≡ waiting chain ss os
    → found n bound (s ∷ ss) (option_or o (if is_in chain s then Some n else None)) ≡ waiting chain ss os) [
      | None ↦ λ f w.
          elim (is_in chain s) as (λ b. found n bound (s ∷ ss) (cond b (Some n) None) ≡ None) [ true ↦ found_not n bound n (s ∷ ss) (omega (arith, e)) | false ↦ refl ] ∙ w
      | Some k ↦ λ f w. found_later n bound s ss k (last_within (n + 1) (is_in chain) ss k f).0 ∙ w
    ] refl (waits_from (n + 1) bound chain ss os (omega (arith, e)))

-- the submission of a chain's pending receipt
pub pending_waits : (chain : Option ℕ) (ss : List Sent) (os : List Outcome) → option_and_then (λ n. numbered ss n) (pending_receipt ss os chain) ≡ waiting chain ss os
pending_waits chain ss os = by_number (last_receipt ss chain) refl ∙ waits_from 1 (length os) chain ss os (omega arith)
  where
    by_number : (o : Option ℕ) → last_receipt ss chain ≡ o
        → option_and_then (λ n. numbered ss n) (option_and_then (λ n. if nat_lt (length os) n then Some n else None) o) ≡ found 1 (length os) ss o
    by_number None e = refl
    by_number (Some k) e =
        elim (nat_lt (length os) k) as (λ b. option_and_then (λ n. numbered ss n) (cond b (Some k) None) ≡ option_and_then (λ n. slice_get ss (n - 1)) (cond b (Some k) None)) [
          | true ↦ numbered-low ss k (omega (arith, (last_within 1 (is_in chain) ss k e).0))
          | false ↦ refl
        ]
