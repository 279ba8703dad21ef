-- The commits of a chain, one after another, and the spans that they part.
use Rattle.std.proofs.Common.{◌≡◌, ℕ, zero, suc, ◌+◌, ◌-◌, ◌<◌, ◌≤◌, true, false, List, [], ◌∷◌, ◌++◌, length, get_or, Option, None, Some, refl, ap, sym, ◌∙◌, cond, arith, append_assoc}
use Rattle.std.specs.Prelude.{map, slice_get, unwrap_or}
use Rattle.std.specs.List.{filter}
use Rattle.sal_rows.specs.Commits.{numbers_after}
use Rattle.sal_rows.specs.declared.clash.Span.{Span}
use Rattle.sal_rows.specs.Spans.{is_of_chain, is_own, own_commits, spans, spans_between}
use Rattle.sal_tree.specs.declared.commit.Commit.{Commit}
use Rattle.sal_graft.specs.Kept.{chains_of}
use Rattle.sal_graft.proofs.Clashes.{numbers-front}

-- ---- chains of the kept commits

length_chains : (commits : List Commit) → length (map (λ (c : Commit). c.chain) commits) ≡ length commits
length_chains [] = refl
length_chains (c ∷ commits) = ap suc (length_chains commits)

pub length-chains_of : (kept : List Commit) → 1 ≤ length kept → length (chains_of kept) ≡ length kept - 1
length-chains_of [] h = absurd (omega arith)
length-chains_of (opening ∷ commits) h = length_chains commits ∙ omega arith

get_chain : (commits : List Commit) (k : ℕ) (c : Commit) → k < length commits → c ≡ get_or commits k c → slice_get (map (λ (x : Commit). x.chain) commits) k ≡ Some c.chain
get_chain [] k c h e = absurd (omega arith)
get_chain (d ∷ commits) zero c h e = ap (λ (x : Commit). Some x.chain) (sym e)
get_chain (d ∷ commits) (suc k) c h e = get_chain commits k c (omega arith) e

chain_at : (kept : List Commit) (k : ℕ) (c : Commit) → suc k < length kept → c ≡ get_or kept (suc k) c → slice_get (chains_of kept) k ≡ Some c.chain
chain_at [] k c h e = absurd (omega arith)
chain_at (opening ∷ commits) k c h e = get_chain commits k c (omega arith) e

-- the test of the code for a commit
pub is_own-kept : (chain : Option ℕ) (kept : List Commit) (number : ℕ) (c : Commit) → 1 ≤ number → number < length kept → c ≡ get_or kept number c → is_own chain (chains_of kept) number ≡ is_of_chain chain c.chain
is_own-kept chain kept zero c low high e = absurd (omega arith)
is_own-kept chain kept (suc k) c low high e =
    let n : suc k - 1 ≡ k = omega arith in
    ap (λ i. is_of_chain chain (unwrap_or (slice_get (chains_of kept) i) None)) n ∙ ap (λ o. is_of_chain chain (unwrap_or o None)) (chain_at kept k c high e)

-- ---- the commits of a chain

-- a submission without a chain has no own commits
none-own : (chains : List (Option ℕ)) (numbers : List ℕ) → filter (is_own None chains) numbers ≡ []
none-own chains [] = refl
none-own chains (n ∷ numbers) = none-own chains numbers

pub spans-plain : (base : ℕ) (kept : List Commit) → 1 ≤ length kept → spans base None (chains_of kept) ≡ record { from = base; to = length kept - 1 } ∷ []
spans-plain base kept h =
    ap (λ cs. spans_between base cs (length (chains_of kept))) (none-own (chains_of kept) (numbers_after base (length (chains_of kept) - base)))
    ∙ ap (spans_between base []) (length-chains_of kept h)

-- one number is looked at
pub own-more : (chain : Option ℕ) (chains : List (Option ℕ)) (k : ℕ) → 1 ≤ k → k ≤ length chains
    → own_commits (k - 1) chain chains ≡ cond (is_own chain chains k) (k ∷ own_commits (k + 1 - 1) chain chains) (own_commits (k + 1 - 1) chain chains)
own-more chain chains k low high =
    let front = numbers-front (k - 1) (length chains - (k - 1)) (omega arith) in
    let here : k - 1 + 1 ≡ k = omega arith in
    let there : k - 1 + 1 ≡ k + 1 - 1 = omega arith in
    let fewer : length chains - (k - 1) - 1 ≡ length chains - (k + 1 - 1) = omega arith in
    ap (filter (is_own chain chains)) front ∙ (λ i. filter (is_own chain chains) (here i ∷ numbers_after (there i) (fewer i)))

-- none is left
pub own-end : (chain : Option ℕ) (chains : List (Option ℕ)) (k : ℕ) → length chains < k → own_commits (k - 1) chain chains ≡ []
own-end chain chains k h = let none : length chains - (k - 1) ≡ 0 = omega arith in ap (λ n. filter (is_own chain chains) (numbers_after (k - 1) n)) none

-- ---- spans

-- the spans that are done, and those that the commits of the chain from this number on part
abbrev pub parted_from : List Span → ℕ → Option ℕ → List (Option ℕ) → ℕ → List Span
parted_from done from chain chains k = done ++ spans_between from (own_commits (k - 1) chain chains) (length chains)

-- no span so far
pub parted-none : (base : ℕ) (chain : Option ℕ) (chains : List (Option ℕ)) → parted_from [] base chain chains (base + 1) ≡ spans base chain chains
parted-none base chain chains = let e : base + 1 - 1 ≡ base = omega arith in ap (λ k. spans_between base (own_commits k chain chains) (length chains)) e

-- a commit of the chain ends a span
pub parted-own : (done : List Span) (from : ℕ) (chain : Option ℕ) (chains : List (Option ℕ)) (k : ℕ) → 1 ≤ k → k ≤ length chains → is_own chain chains k ≡ true
    → parted_from (done ++ record { from = from; to = k - 1 } ∷ []) k chain chains (k + 1) ≡ parted_from done from chain chains k
parted-own done from chain chains k low high own =
    append_assoc done (record { from = from; to = k - 1 } ∷ []) (spans_between k (own_commits (k + 1 - 1) chain chains) (length chains))
    ∙ sym (ap (λ cs. done ++ spans_between from cs (length chains)) (own-more chain chains k low high ∙ ap (λ b. cond b (k ∷ own_commits (k + 1 - 1) chain chains) (own_commits (k + 1 - 1) chain chains)) own))

-- and no other one does
pub parted-other : (done : List Span) (from : ℕ) (chain : Option ℕ) (chains : List (Option ℕ)) (k : ℕ) → 1 ≤ k → k ≤ length chains → is_own chain chains k ≡ false
    → parted_from done from chain chains (k + 1) ≡ parted_from done from chain chains k
parted-other done from chain chains k low high own =
    sym (ap (λ cs. done ++ spans_between from cs (length chains)) (own-more chain chains k low high ∙ ap (λ b. cond b (k ∷ own_commits (k + 1 - 1) chain chains) (own_commits (k + 1 - 1) chain chains)) own))

-- the last one ends at the newest commit
pub parted-end : (done : List Span) (from : ℕ) (chain : Option ℕ) (chains : List (Option ℕ)) (k : ℕ) → length chains < k
    → done ++ record { from = from; to = length chains } ∷ [] ≡ parted_from done from chain chains k
parted-end done from chain chains k h = sym (ap (λ cs. done ++ spans_between from cs (length chains)) (own-end chain chains k h))
