-- The slots when a client registers or unregisters.
use Rattle.std.proofs.Common.{◌≡◌, ℕ, zero, suc, ◌+◌, ◌<◌, ◌≤◌, Bool, true, false, not, ◌||◌, List, [], ◌∷◌, ◌++◌, Option, Some, None, length, take, refl, ap, sym, ◌∙◌, cond, add-one, arith, filter, if◌then◌else◌, nat_eq, slice_get, get_or, unwrap_or}
use Rattle.std.proofs.lemmas.Bool.{or_right}
use Rattle.std.specs.Prelude.{is_some}
use Rattle.std.specs.BTreeMap.{is_at}
use Rattle.std.specs.List.{list_any, slice_set as set}
use Rattle.std.specs.Map.{lookup}
use Rattle.std.specs.Ordering.{nat_cmp}
use Rattle.std.proofs.lemmas.Bool.Decides.{nat_tests}
use Rattle.std.proofs.lemmas.List.{take_all}
use Rattle.std.proofs.lemmas.List.Elements.{filter-append}
use Rattle.sal_owner.specs.Slots.{IsPlaced, but, clients_in, in_slot}
use Rattle.sal_owner.proofs.CarryingOn.{own}

abbrev Slots : Type 0
Slots = List (Option ℕ)

same : (c d : ℕ) → nat_eq c d ≡ true → c ≡ d
same c d e = grind (arith, nat_tests)

zero-suc : (j : ℕ) → nat_eq 0 (suc j) ≡ false
zero-suc j = grind (arith, nat_tests)

suc-zero : (i : ℕ) → nat_eq (suc i) 0 ≡ false
suc-zero i = grind (arith, nat_tests)

suc-suc : (i j : ℕ) → nat_eq (suc i) (suc j) ≡ nat_eq i j
suc-suc i j = grind (arith, nat_tests)

at-client : (c d : ℕ) → is_at (nat_cmp c) d ≡ nat_eq c d
at-client c d = grind (arith, nat_tests)

-- ---- one slot

pub slot-is : (slots : Slots) (i : ℕ) (d : Option ℕ) → i < length slots → get_or slots i d ≡ in_slot slots i
slot-is [] i d h = absurd (omega (arith, h))
slot-is (s ∷ slots) zero d h = refl
slot-is (s ∷ slots) (suc i) d h = slot-is slots i d (omega (arith, h))

pub none-some : {X : Type 0} {x : X} → None ≡ Some x → ⊥
none-some e = let no : true ≡ false = ap is_some (sym e) in cc

pub slot-within : (slots : Slots) (i c : ℕ) → in_slot slots i ≡ Some c → i < length slots
slot-within [] i c e = cc
slot-within (s ∷ slots) zero c e = omega arith
slot-within (s ∷ slots) (suc i) c e = let h = slot-within slots i c e in omega (arith, h)

pub slot-past : (slots : Slots) (i : ℕ) → length slots ≤ i → in_slot slots i ≡ None
slot-past [] i h = refl
slot-past (s ∷ slots) zero h = absurd (omega (arith, h))
slot-past (s ∷ slots) (suc i) h = slot-past slots i (omega (arith, h))

-- the client in it
abbrev pub who : Option ℕ → List ℕ
who None = []
who (Some c) = c ∷ []

take-suc : (slots : Slots) (i : ℕ) → clients_in (take (suc i) slots) ≡ clients_in (take i slots) ++ who (in_slot slots i)
take-suc [] zero = refl
take-suc [] (suc i) = refl
take-suc (None ∷ slots) zero = refl
take-suc (Some c ∷ slots) zero = refl
take-suc (None ∷ slots) (suc i) = take-suc slots i
take-suc (Some c ∷ slots) (suc i) = ap (λ l. c ∷ l) (take-suc slots i)

pub take-slot : (slots : Slots) (i : ℕ) → clients_in (take (i + 1) slots) ≡ clients_in (take i slots) ++ who (in_slot slots i)
take-slot slots i = ap (λ n. clients_in (take n slots)) (add-one i) ∙ take-suc slots i

-- the client at a slot with only gaps before it
pub first-is : (slots : Slots) (i c : ℕ) → in_slot slots i ≡ Some c → clients_in (take i slots) ≡ [] → slice_get (clients_in slots) 0 ≡ Some c
first-is [] i c e none = cc
first-is (None ∷ slots) zero c e none = cc
first-is (Some d ∷ slots) zero c e none = e
first-is (None ∷ slots) (suc i) c e none = first-is slots i c e none
first-is (Some d ∷ slots) (suc i) c e none = let no : false ≡ true = ap (λ (l : List ℕ). is_some (slice_get l 0)) (sym none) in cc

pub first-but-is : (p : ℕ → Bool) (slots : Slots) (i c : ℕ) → in_slot slots i ≡ Some c → p c ≡ true → filter p (clients_in (take i slots)) ≡ [] → slice_get (filter p (clients_in slots)) 0 ≡ Some c
first-but-is p [] i c e keep none = cc
first-but-is p (None ∷ slots) zero c e keep none = cc
first-but-is p (Some d ∷ slots) zero c e keep none =
    let is : p d ≡ true = ap (λ (o : Option ℕ). p (unwrap_or o c)) e ∙ keep in
    ap (λ b. slice_get (cond b (d ∷ filter p (clients_in slots)) (filter p (clients_in slots))) 0) is ∙ e
first-but-is p (None ∷ slots) (suc i) c e keep none = first-but-is p slots i c e keep none
first-but-is p (Some d ∷ slots) (suc i) c e keep none =
    elim (p d) as (λ b. p d ≡ b → cond b (d ∷ filter p (clients_in (take i slots))) (filter p (clients_in (take i slots))) ≡ [] → slice_get (cond b (d ∷ filter p (clients_in slots)) (filter p (clients_in slots))) 0 ≡ Some c) [
      | true ↦ λ is some. let no : true ≡ false = ap (λ (l : List ℕ). is_some (slice_get l 0)) some in cc
      | false ↦ λ is rest. first-but-is p slots i c e keep rest
    ] refl none

but-is : (c d : ℕ) (o : Option ℕ) → but c o ≡ Some d → (o ≡ Some d) × (not (nat_eq c d) ≡ true)
but-is c d None e = absurd (none-some e)
but-is c d (Some k) e = by (nat_eq k c) refl e
  where
    by : (b : Bool) → nat_eq k c ≡ b → (if b then None else Some k) ≡ Some d → (Some k ≡ Some d) × (not (nat_eq c d) ≡ true)
    by true is h = absurd (none-some h)
    by false is h = let same : k ≡ d = ap (λ (o : Option ℕ). unwrap_or o d) h in (h, apart k same is)
      where
        apart : (k : ℕ) → k ≡ d → nat_eq k c ≡ false → not (nat_eq c d) ≡ true
        apart k same is = grind (arith, nat_tests, same, is)

who-but : (c : ℕ) (o : Option ℕ) → filter (λ k. not (nat_eq c k)) (who o) ≡ who (but c o)
who-but c None = refl
who-but c (Some k) = ap (λ b. cond (not b) (k ∷ []) []) (turned c k) ∙ by (nat_eq k c)
  where
    turned : (c k : ℕ) → nat_eq c k ≡ nat_eq k c
    turned c k = grind (arith, nat_tests)

    by : (b : Bool) → cond (not b) (k ∷ []) [] ≡ who (if b then None else Some k)
    by true = refl
    by false = refl

pub take-but : (slots : Slots) (c i : ℕ) → filter (λ k. not (nat_eq c k)) (clients_in (take (i + 1) slots)) ≡ filter (λ k. not (nat_eq c k)) (clients_in (take i slots)) ++ who (but c (in_slot slots i))
take-but slots c i =
    ap (filter (λ k. not (nat_eq c k))) (take-slot slots i) ∙ filter-append (λ k. not (nat_eq c k)) (clients_in (take i slots)) (who (in_slot slots i))
    ∙ ap (λ l. filter (λ k. not (nat_eq c k)) (clients_in (take i slots)) ++ l) (who-but c (in_slot slots i))

-- the first but for one client, where only that client and gaps precede it
pub other-is : (slots : Slots) (c i d : ℕ) → but c (in_slot slots i) ≡ Some d → filter (λ k. not (nat_eq c k)) (clients_in (take i slots)) ≡ [] → slice_get (filter (λ k. not (nat_eq c k)) (clients_in slots)) 0 ≡ Some d
other-is slots c i d e none = let is = but-is c d (in_slot slots i) e in first-but-is (λ k. not (nat_eq c k)) slots i d is.0 is.1 none

-- only gaps
pub all-gaps : (slots : Slots) (i : ℕ) → length slots ≤ i → clients_in (take i slots) ≡ clients_in slots
all-gaps slots i h = ap clients_in (take_all i slots h)

-- ---- whom the slots have

stands : (slots : Slots) (i c : ℕ) → in_slot slots i ≡ Some c → list_any (nat_eq c) (clients_in slots) ≡ true
stands [] i c e = cc
stands (None ∷ slots) zero c e = cc
stands (Some d ∷ slots) zero c e = let is : d ≡ c = ap (λ (o : Option ℕ). unwrap_or o c) e in ap (λ b. b || list_any (nat_eq c) (clients_in slots)) (ap (nat_eq c) is ∙ own c)
stands (None ∷ slots) (suc i) c e = stands slots i c e
stands (Some d ∷ slots) (suc i) c e = or_right (nat_eq c d) (list_any (nat_eq c) (clients_in slots)) (stands slots i c e)

absent : (slots : Slots) (c : ℕ) → ((i : ℕ) → in_slot slots i ≡ Some c → ⊥) → list_any (nat_eq c) (clients_in slots) ≡ false
absent [] c none = refl
absent (None ∷ slots) c none = absent slots c (λ i. none (suc i))
absent (Some d ∷ slots) c none =
    elim (nat_eq c d) as (λ b. nat_eq c d ≡ b → (b || list_any (nat_eq c) (clients_in slots)) ≡ false) [
      | true ↦ λ e. absurd (none 0 (ap Some (sym (same c d e))))
      | false ↦ λ e. absent slots c (λ i. none (suc i))
    ] refl

-- a client that is not in the slots is not removed
filter-absent : (slots : Slots) (c : ℕ) → ((i : ℕ) → in_slot slots i ≡ Some c → ⊥) → clients_in slots ≡ filter (λ k. not (nat_eq c k)) (clients_in slots)
filter-absent [] c none = refl
filter-absent (None ∷ slots) c none = filter-absent slots c (λ i. none (suc i))
filter-absent (Some d ∷ slots) c none =
    elim (nat_eq c d) as (λ b. nat_eq c d ≡ b → d ∷ clients_in slots ≡ cond (not b) (d ∷ filter (λ k. not (nat_eq c k)) (clients_in slots)) (filter (λ k. not (nat_eq c k)) (clients_in slots))) [
      | true ↦ λ e. absurd (none 0 (ap Some (sym (same c d e))))
      | false ↦ λ e. ap (λ l. d ∷ l) (filter-absent slots c (λ i. none (suc i)))
    ] refl

module _ (slots : Slots) (places : List (ℕ × ℕ)) (first : ℕ) (is : IsPlaced slots places first) where
  nowhere : (c : ℕ) → lookup (is_at (nat_cmp c)) places ≡ None → (i : ℕ) → in_slot slots i ≡ Some c → ⊥
  nowhere c none i e = none-some (sym none ∙ is.noted c i e)

  pub has-is : (c : ℕ) → is_some (lookup (is_at (nat_cmp c)) places) ≡ list_any (nat_eq c) (clients_in slots)
  has-is c = by (lookup (is_at (nat_cmp c)) places) refl
    where
      by : (o : Option ℕ) → lookup (is_at (nat_cmp c)) places ≡ o → is_some (lookup (is_at (nat_cmp c)) places) ≡ list_any (nat_eq c) (clients_in slots)
      by None e = ap is_some e ∙ sym (absent slots c (nowhere c e))
      by (Some i) e = ap is_some e ∙ sym (stands slots i c (is.placed c i e))

  pub not-there : (c : ℕ) → lookup (is_at (nat_cmp c)) places ≡ None → clients_in slots ≡ filter (λ k. not (nat_eq c k)) (clients_in slots)
  not-there c none = filter-absent slots c (nowhere c none)

  -- the first slot without a gap is the first client's
  pub leads : in_slot slots first ≡ slice_get (clients_in slots) 0
  leads = by (in_slot slots first) refl
    where
      by : (o : Option ℕ) → in_slot slots first ≡ o → in_slot slots first ≡ slice_get (clients_in slots) 0
      by (Some c) e = e ∙ sym (first-is slots first c e is.passed)
      by None e =
          let end : first ≡ length slots = is.ends e in
          let none : clients_in slots ≡ [] = sym (all-gaps slots first (omega (arith, end))) ∙ is.passed in
          e ∙ sym (ap (λ (l : List ℕ). slice_get l 0) none)

  pub first-within : first ≤ length slots
  first-within = by (in_slot slots first) refl
    where
      by : (o : Option ℕ) → in_slot slots first ≡ o → first ≤ length slots
      by (Some c) e = let h = slot-within slots first c e in omega (arith, h)
      by None e = let h = is.ends e in omega (arith, h)

-- ---- a client unregisters

gap-at : (slots : Slots) (i j : ℕ) → i < length slots → in_slot (set slots i None) j ≡ (if nat_eq i j then None else in_slot slots j)
gap-at [] i j h = absurd (omega (arith, h))
gap-at (s ∷ slots) zero zero h = refl
gap-at (s ∷ slots) zero (suc j) h = sym (ap (λ b. if b then None else in_slot slots j) (zero-suc j))
gap-at (s ∷ slots) (suc i) zero h = sym (ap (λ b. if b then None else s) (suc-zero i))
gap-at (s ∷ slots) (suc i) (suc j) h = gap-at slots i j (omega (arith, h)) ∙ sym (ap (λ b. if b then None else in_slot slots j) (suc-suc i j))

pub length-gap : (slots : Slots) (i : ℕ) → length (set slots i None) ≡ length slots
length-gap [] i = refl
length-gap (s ∷ slots) zero = refl
length-gap (s ∷ slots) (suc i) = ap suc (length-gap slots i)

gaps-stay : (slots : Slots) (i n : ℕ) → clients_in (take n slots) ≡ [] → clients_in (take n (set slots i None)) ≡ []
gaps-stay [] i n e = e
gaps-stay (s ∷ slots) zero zero e = refl
gaps-stay (s ∷ slots) (suc i) zero e = refl
gaps-stay (None ∷ slots) zero (suc n) e = e
gaps-stay (Some c ∷ slots) zero (suc n) e = let no : true ≡ false = ap (λ (l : List ℕ). is_some (slice_get l 0)) e in cc
gaps-stay (None ∷ slots) (suc i) (suc n) e = gaps-stay slots i n e
gaps-stay (Some c ∷ slots) (suc i) (suc n) e = let no : true ≡ false = ap (λ (l : List ℕ). is_some (slice_get l 0)) e in cc

gap-is : (slots : Slots) (i c : ℕ) → in_slot slots i ≡ Some c → ((j : ℕ) → in_slot slots j ≡ Some c → j ≡ i) → clients_in (set slots i None) ≡ filter (λ k. not (nat_eq c k)) (clients_in slots)
gap-is [] i c e once = cc
gap-is (None ∷ slots) zero c e once = cc
gap-is (Some d ∷ slots) zero c e once =
    let is : nat_eq c d ≡ true = ap (λ (o : Option ℕ). nat_eq c (unwrap_or o c)) e ∙ own c in
    filter-absent slots c (λ j h. let k : suc j ≡ 0 = once (suc j) h in absurd (omega (arith, k)))
    ∙ sym (ap (λ b. cond (not b) (d ∷ filter (λ k. not (nat_eq c k)) (clients_in slots)) (filter (λ k. not (nat_eq c k)) (clients_in slots))) is)
gap-is (None ∷ slots) (suc i) c e once = gap-is slots i c e (λ j h. let k = once (suc j) h in omega (arith, k))
gap-is (Some d ∷ slots) (suc i) c e once =
    elim (nat_eq c d) as (λ b. nat_eq c d ≡ b → d ∷ clients_in (set slots i None) ≡ cond (not b) (d ∷ filter (λ k. not (nat_eq c k)) (clients_in slots)) (filter (λ k. not (nat_eq c k)) (clients_in slots))) [
      | true ↦ λ is. let k : 0 ≡ suc i = once 0 (ap Some (sym (same c d is))) in absurd (omega (arith, k))
      | false ↦ λ is. ap (λ l. d ∷ l) (gap-is slots i c e (λ j h. let k = once (suc j) h in omega (arith, k)))
    ] refl

module _ (slots : Slots) (places later : List (ℕ × ℕ)) (first c i : ℕ) (is : IsPlaced slots places first) (here : lookup (is_at (nat_cmp c)) places ≡ Some i)
    (written : (q : ℕ) → lookup (is_at (nat_cmp q)) later ≡ cond (is_at (nat_cmp c) q) None (lookup (is_at (nat_cmp q)) places)) where
  pub place-within : i < length slots
  place-within = slot-within slots i c (is.placed c i here)

  once : (j : ℕ) → in_slot slots j ≡ Some c → j ≡ i
  once j e = ap (λ (o : Option ℕ). unwrap_or o 0) (sym (is.noted c j e) ∙ here)

  pub left-is : clients_in (set slots i None) ≡ filter (λ k. not (nat_eq c k)) (clients_in slots)
  left-is = gap-is slots i c (is.placed c i here) once

  pub still-passed : clients_in (take first (set slots i None)) ≡ []
  still-passed = gaps-stay slots i first is.passed

  pub left-placed : (next : ℕ) → clients_in (take next (set slots i None)) ≡ [] → (in_slot (set slots i None) next ≡ None → next ≡ length (set slots i None)) → IsPlaced (set slots i None) later next
  left-placed next passed ends = record {
    placed = λ k j e. by_client k j (nat_eq c k) refl e;
    noted = λ k j e. by_slot k j (nat_eq i j) refl e;
    passed = passed;
    ends = ends;
  }
    where
      by_client : (k j : ℕ) (b : Bool) → nat_eq c k ≡ b → lookup (is_at (nat_cmp k)) later ≡ Some j → in_slot (set slots i None) j ≡ Some k
      by_client k j true e h =
          let none : lookup (is_at (nat_cmp k)) later ≡ None = written k ∙ ap (λ b. cond b None (lookup (is_at (nat_cmp k)) places)) (at-client c k ∙ e) in
          absurd (none-some (sym none ∙ h))
      by_client k j false e h =
          let there : lookup (is_at (nat_cmp k)) places ≡ Some j = sym (written k ∙ ap (λ b. cond b None (lookup (is_at (nat_cmp k)) places)) (at-client c k ∙ e)) ∙ h in
          let stood : in_slot slots j ≡ Some k = is.placed k j there in
          gap-at slots i j place-within ∙ other (nat_eq i j) refl stood
        where
          other : (b : Bool) → nat_eq i j ≡ b → in_slot slots j ≡ Some k → (if b then None else in_slot slots j) ≡ Some k
          other true at stood =
              let both : Some c ≡ Some k = sym (is.placed c i here) ∙ ap (in_slot slots) (same i j at) ∙ stood in
              let no : true ≡ false = sym (own c) ∙ ap (λ (o : Option ℕ). nat_eq c (unwrap_or o c)) both ∙ e in cc
          other false apart stood = stood

      by_slot : (k j : ℕ) (b : Bool) → nat_eq i j ≡ b → in_slot (set slots i None) j ≡ Some k → lookup (is_at (nat_cmp k)) later ≡ Some j
      by_slot k j true here e = absurd (none-some (sym (gap-at slots i j place-within ∙ ap (λ b. if b then None else in_slot slots j) here) ∙ e))
      by_slot k j false away e =
          let stood : in_slot slots j ≡ Some k = sym (gap-at slots i j place-within ∙ ap (λ b. if b then None else in_slot slots j) away) ∙ e in
          written k ∙ other (nat_eq c k) refl stood
        where
          other : (b : Bool) → nat_eq c k ≡ b → in_slot slots j ≡ Some k → cond (is_at (nat_cmp c) k) None (lookup (is_at (nat_cmp k)) places) ≡ Some j
          other true it stood =
              let at : j ≡ i = once j (stood ∙ ap (λ n. Some n) (sym (same c k it))) in
              let no : true ≡ false = sym (own i) ∙ ap (nat_eq i) (sym at) ∙ away in cc
          other false apart stood = ap (λ b. cond b None (lookup (is_at (nat_cmp k)) places)) (at-client c k ∙ apart) ∙ is.noted k j stood

-- ---- a client registers

pub clients-append : (slots more : Slots) → clients_in (slots ++ more) ≡ clients_in slots ++ clients_in more
clients-append [] more = refl
clients-append (None ∷ slots) more = clients-append slots more
clients-append (Some c ∷ slots) more = ap (λ l. c ∷ l) (clients-append slots more)

end-from : (slots : Slots) (s : Option ℕ) (n j : ℕ) → n ≡ length slots → in_slot (slots ++ s ∷ []) j ≡ (if nat_eq n j then s else in_slot slots j)
end-from [] s zero zero e = refl
end-from [] s zero (suc j) e = sym (ap (λ b. if b then s else None) (zero-suc j))
end-from [] s (suc n) j e = absurd (omega (arith, e))
end-from (t ∷ slots) s zero j e = absurd (omega (arith, e))
end-from (t ∷ slots) s (suc n) zero e = sym (ap (λ b. if b then s else t) (suc-zero n))
end-from (t ∷ slots) s (suc n) (suc j) e = end-from slots s n j (omega (arith, e)) ∙ sym (ap (λ b. if b then s else in_slot slots j) (suc-suc n j))

end-at : (slots : Slots) (s : Option ℕ) (j : ℕ) → in_slot (slots ++ s ∷ []) j ≡ (if nat_eq (length slots) j then s else in_slot slots j)
end-at slots s j = end-from slots s (length slots) j refl

take-before : (slots : Slots) (s : Option ℕ) (n : ℕ) → n ≤ length slots → take n (slots ++ s ∷ []) ≡ take n slots
take-before [] s zero h = refl
take-before (t ∷ slots) s zero h = refl
take-before [] s (suc n) h = absurd (omega (arith, h))
take-before (t ∷ slots) s (suc n) h = ap (λ l. t ∷ l) (take-before slots s n (omega (arith, h)))

module _ (slots : Slots) (places later : List (ℕ × ℕ)) (first c : ℕ) (is : IsPlaced slots places first) (free : list_any (nat_eq c) (clients_in slots) ≡ false)
    (written : (q : ℕ) → lookup (is_at (nat_cmp q)) later ≡ cond (is_at (nat_cmp c) q) (Some (length slots)) (lookup (is_at (nat_cmp q)) places)) where
  pub came-placed : IsPlaced (slots ++ Some c ∷ []) later first
  came-placed = record {
    placed = λ k j e. by_client k j (nat_eq c k) refl e;
    noted = λ k j e. by_slot k j (nat_eq (length slots) j) refl e;
    passed = ap clients_in (take-before slots (Some c) first (first-within slots places first is)) ∙ is.passed;
    ends = λ e. by_first (nat_eq (length slots) first) refl e;
  }
    where
      by_client : (k j : ℕ) (b : Bool) → nat_eq c k ≡ b → lookup (is_at (nat_cmp k)) later ≡ Some j → in_slot (slots ++ Some c ∷ []) j ≡ Some k
      by_client k j true e h =
          let end : length slots ≡ j = ap (λ (o : Option ℕ). unwrap_or o j) (sym (written k ∙ ap (λ b. cond b (Some (length slots)) (lookup (is_at (nat_cmp k)) places)) (at-client c k ∙ e)) ∙ h) in
          end-at slots (Some c) j ∙ ap (λ b. if b then Some c else in_slot slots j) (ap (nat_eq (length slots)) (sym end) ∙ own (length slots)) ∙ ap (λ n. Some n) (same c k e)
      by_client k j false e h =
          let stood : in_slot slots j ≡ Some k = is.placed k j (sym (written k ∙ ap (λ b. cond b (Some (length slots)) (lookup (is_at (nat_cmp k)) places)) (at-client c k ∙ e)) ∙ h) in
          let within : j < length slots = slot-within slots j k stood in
          let before : nat_eq (length slots) j ≡ false = grind (arith, nat_tests, within) in
          end-at slots (Some c) j ∙ ap (λ b. if b then Some c else in_slot slots j) before ∙ stood

      by_slot : (k j : ℕ) (b : Bool) → nat_eq (length slots) j ≡ b → in_slot (slots ++ Some c ∷ []) j ≡ Some k → lookup (is_at (nat_cmp k)) later ≡ Some j
      by_slot k j true end e =
          let is_c : c ≡ k = ap (λ (o : Option ℕ). unwrap_or o k) (sym (end-at slots (Some c) j ∙ ap (λ b. if b then Some c else in_slot slots j) end) ∙ e) in
          written k ∙ ap (λ b. cond b (Some (length slots)) (lookup (is_at (nat_cmp k)) places)) (at-client c k ∙ ap (nat_eq c) (sym is_c) ∙ own c) ∙ ap (λ n. Some n) (same (length slots) j end)
      by_slot k j false before e =
          let stood : in_slot slots j ≡ Some k = sym (end-at slots (Some c) j ∙ ap (λ b. if b then Some c else in_slot slots j) before) ∙ e in
          written k ∙ other (nat_eq c k) refl stood
        where
          other : (b : Bool) → nat_eq c k ≡ b → in_slot slots j ≡ Some k → cond (is_at (nat_cmp c) k) (Some (length slots)) (lookup (is_at (nat_cmp k)) places) ≡ Some j
          other true it stood =
              let no : true ≡ false = sym (stands slots j c (stood ∙ ap (λ n. Some n) (sym (same c k it)))) ∙ free in cc
          other false apart stood = ap (λ b. cond b (Some (length slots)) (lookup (is_at (nat_cmp k)) places)) (at-client c k ∙ apart) ∙ is.noted k j stood

      by_first : (b : Bool) → nat_eq (length slots) first ≡ b → in_slot (slots ++ Some c ∷ []) first ≡ None → first ≡ length (slots ++ Some c ∷ [])
      by_first true end e = let no : true ≡ false = ap is_some (sym (end-at slots (Some c) first ∙ ap (λ b. if b then Some c else in_slot slots first) end) ∙ e) in cc
      by_first false before e =
          let end : first ≡ length slots = is.ends (sym (end-at slots (Some c) first ∙ ap (λ b. if b then Some c else in_slot slots first) before) ∙ e) in
          let no : true ≡ false = sym (own (length slots)) ∙ ap (nat_eq (length slots)) (sym end) ∙ before in cc

-- a list without a first one
pub none-first : (l : List ℕ) → slice_get l 0 ≡ None → l ≡ []
none-first [] e = refl
none-first (c ∷ l) e = absurd (none-some (sym e))
