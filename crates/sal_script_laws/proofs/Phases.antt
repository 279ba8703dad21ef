-- The state of each of the four clients of a load between two turns, by numbers, and sums over the four.
use Rattle.std.proofs.Common.{◌≡◌, ℕ, zero, suc, ◌+◌, ◌-◌, ◌*◌, ◌<◌, ◌≤◌, Bool, true, false, Option, None, Some, if◌then◌else◌, nat_le, refl, ap, sym, ◌∙◌, subst, arith, eqb-true, eq-eqb, le-leb, leb-true}
use Rattle.std.specs.Prelude.{nat_eq}

-- A client with this many rounds done and this many to come: ready for the next one; in a round whose transaction began at the
-- place; in one whose transaction was submitted with the receipt.
pub data Phase : Type 0 where
  ready : ℕ → ℕ → Phase
  begun : ℕ → ℕ → ℕ → Phase
  submitted : ℕ → ℕ → ℕ → Phase

-- how many calls it has made
abbrev pub calls_by : Phase → ℕ
calls_by (ready round left) = 3 * round
calls_by (begun round left place) = 3 * round + 1
calls_by (submitted round left receipt) = 3 * round + 2

-- how many rounds it has submitted
abbrev pub put_by : Phase → ℕ
put_by (ready round left) = round
put_by (begun round left place) = round
put_by (submitted round left receipt) = suc round

-- the receipt that it is to settle next
abbrev pub receipt_of : Phase → Option ℕ
receipt_of (ready round left) = None
receipt_of (begun round left place) = None
receipt_of (submitted round left receipt) = Some receipt

-- each client's
abbrev pub Phases : Type 0
Phases = ℕ → Phase

abbrev pub set_phase : ℕ → Phase → Phases → Phases
set_phase c phase phases = λ d. if nat_eq d c then phase else phases d

pub set_own : (c d : ℕ) (phase : Phase) (phases : Phases) → d ≡ c → set_phase c phase phases d ≡ phase
set_own c d phase phases same = ap (λ (b : Bool). if b then phase else phases d) (eq-eqb d c same)

pub set_other : (c d : ℕ) (phase : Phase) (phases : Phases) → (d ≡ c → ⊥) → set_phase c phase phases d ≡ phases d
set_other c d phase phases other = by (nat_eq d c) refl
  where
    by : (b : Bool) → nat_eq d c ≡ b → (if b then phase else phases d) ≡ phases d
    by true is = absurd (other (eqb-true d c is))
    by false is = refl

-- a count that only grows with a client's phase
pub set_grows : (f : Phase → ℕ) (c d : ℕ) (phase : Phase) (phases : Phases) → f (phases c) ≤ f phase → f (phases d) ≤ f (set_phase c phase phases d)
set_grows f c d phase phases grows = by (nat_eq d c) refl
  where
    by : (b : Bool) → nat_eq d c ≡ b → f (phases d) ≤ f (if b then phase else phases d)
    by true is = subst (λ k. f (phases k) ≤ f phase) (sym (eqb-true d c is)) grows
    by false is = omega arith

-- ---- sums over the four

abbrev pub four : (ℕ → ℕ) → ℕ
four f = f 0 + f 1 + f 2 + f 3

pub four_set : (g : ℕ → Phase → ℕ) (phases : Phases) (c : ℕ) (phase : Phase) → c < 4 → four (λ d. g d (set_phase c phase phases d)) + g c (phases c) ≡ four (λ d. g d (phases d)) + g c phase
four_set g phases zero phase h = omega arith
four_set g phases (suc zero) phase h = omega arith
four_set g phases (suc (suc zero)) phase h = omega arith
four_set g phases (suc (suc (suc zero))) phase h = omega arith
four_set g phases (suc (suc (suc (suc c)))) phase h = absurd (omega (arith, h))

four_more : (f g : ℕ → ℕ) → ((d : ℕ) → f d ≤ g d) → (c : ℕ) → c < 4 → f c < g c → four f < four g
four_more f g more zero h lt = omega (arith, lt, more 1, more 2, more 3)
four_more f g more (suc zero) h lt = omega (arith, lt, more 0, more 2, more 3)
four_more f g more (suc (suc zero)) h lt = omega (arith, lt, more 0, more 1, more 3)
four_more f g more (suc (suc (suc zero))) h lt = omega (arith, lt, more 0, more 1, more 2)
four_more f g more (suc (suc (suc (suc c)))) h lt = absurd (omega (arith, h))

-- ---- receipts that clients have

-- one of the four is to settle the receipt
abbrev pub IsHeld : Phases → ℕ → Type 0
IsHeld phases n = (c : ℕ) × (c < 4) × (receipt_of (phases c) ≡ Some n)

-- another client has it
pub held_still : (phases : Phases) (c : ℕ) (phase : Phase) (n : ℕ) → (receipt_of (phases c) ≡ Some n → ⊥) → IsHeld phases n → IsHeld (set_phase c phase phases) n
held_still phases c phase n other held =
    (held.0, held.1, ap receipt_of (set_other c held.0 phase phases (λ same. other (ap (λ d. receipt_of (phases d)) (sym same) ∙ held.2))) ∙ held.2)

-- 1 if the receipt is at most this number, else 0
abbrev up_to : ℕ → Option ℕ → ℕ
up_to b None = 0
up_to b (Some n) = if nat_le n b then 1 else 0

up_to-in : (b n : ℕ) → n ≤ b → up_to b (Some n) ≡ 1
up_to-in b n h = ap (λ (t : Bool). if t then 1 else 0) (le-leb n b h)

up_to-out : (b n : ℕ) → b < n → up_to b (Some n) ≡ 0
up_to-out b n h = by (nat_le n b) refl
  where
    by : (t : Bool) → nat_le n b ≡ t → ◌≡◌ {A = ℕ} (if t then 1 else 0) 0
    by true is = let le : n ≤ b = leb-true n b is in absurd (omega (arith, le, h))
    by false is = refl

up_to-one : (b : ℕ) (o : Option ℕ) → up_to b o ≤ 1
up_to-one b None = omega arith
up_to-one b (Some n) = by (nat_le n b)
  where
    by : (t : Bool) → (if t then 1 else 0) ≤ 1
    by true = omega arith
    by false = omega arith

up_to-more : (b : ℕ) (o : Option ℕ) → up_to b o ≤ up_to (suc b) o
up_to-more b None = omega arith
up_to-more b (Some n) = by (nat_le n b) refl
  where
    by : (t : Bool) → nat_le n b ≡ t → (if t then 1 else 0) ≤ up_to (suc b) (Some n)
    by true is = let le : n ≤ b = leb-true n b is in let one = up_to-in (suc b) n (omega (arith, le)) in omega (arith, one)
    by false is = omega arith

held_count : (phases : Phases) (a k : ℕ) → ((n : ℕ) → a < n → n ≤ a + k → IsHeld phases n) → k ≤ four (λ c. up_to (a + k) (receipt_of (phases c)))
held_count phases a zero held = omega arith
held_count phases a (suc k) held =
    let so_far = held_count phases a k (λ n low high. held n low (omega (arith, high))) in
    let last = held (a + suc k) (omega arith) (omega arith) in
    let sums : suc (a + k) ≡ a + suc k = omega arith in
    let before : up_to (a + k) (receipt_of (phases last.0)) ≡ 0 = ap (up_to (a + k)) last.2 ∙ up_to-out (a + k) (a + suc k) (omega arith) in
    let after : up_to (a + suc k) (receipt_of (phases last.0)) ≡ 1 = ap (up_to (a + suc k)) last.2 ∙ up_to-in (a + suc k) (a + suc k) (omega arith) in
    let more = four_more (λ c. up_to (a + k) (receipt_of (phases c))) (λ c. up_to (a + suc k) (receipt_of (phases c)))
    (λ c. subst (λ b. up_to (a + k) (receipt_of (phases c)) ≤ up_to b (receipt_of (phases c))) sums (up_to-more (a + k) (receipt_of (phases c))))
    last.0 last.1 (omega (arith, before, after)) in
    omega (arith, so_far, more)

-- four clients hold at most four receipts
pub held_few : (phases : Phases) (a b : ℕ) → a ≤ b → ((n : ℕ) → a < n → n ≤ b → IsHeld phases n) → b ≤ a + 4
held_few phases a b le held =
    let one : (c : ℕ) → up_to b (receipt_of (phases c)) ≤ 1 = λ c. up_to-one b (receipt_of (phases c)) in
    let sums : (k : ℕ) × (a + k ≡ b) = (b - a, omega (arith, le)) in
    let count = subst (λ n. sums.0 ≤ four (λ c. up_to n (receipt_of (phases c)))) sums.1 (held_count phases a sums.0 (λ n low high. held n low (omega (arith, high, sums.1)))) in
    omega (arith, count, sums.1, one 0, one 1, one 2, one 3)
