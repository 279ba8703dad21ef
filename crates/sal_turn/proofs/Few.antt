-- Fewer seats wait than there are low parts of tickets.
use Rattle.std.proofs.Common.{◌≡◌, ℕ, ◌+◌, ◌^◌, ◌<◌, ◌≤◌, eqb, true, false, List, length, get_or, sym, ap, ◌∙◌, subst, inl, arith, Option, map, ne_eqb}
use Rattle.std.proofs.lemmas.List.{length-map}
use Rattle.std.specs.List.{list_any}
use Rattle.std.proofs.lemmas.Map.Keys.{IsDistinct-from_apart}
use Rattle.std.proofs.lemmas.Map.Steps.{length-le_from_distinct_below}
use mathlib.Core.Option.{some, none, some-injective, some-ne-none}
use mathlib.Core.Option as maybe
use lib.ListN.{get_elem?}
use Rattle.atomic_table.specs.Table.{State}
use Rattle.atomic_table.proofs.Lists.{at_map}
use Rattle.sal_turn.specs.declared.view.View.{View}
use Rattle.sal_turn.specs.declared.view.Stage.{Stage}
use Rattle.sal_turn.specs.declared.view.Stage.TheVariants.{Spent, Idle, Names, Waits, HasTurn, Compares}
use Rattle.sal_turn.specs.Rule.{LockRule}
use Rattle.sal_turn.specs.Stages.{IsLive, ticket}
use Rattle.sal_turn.proofs.Lists.{one_there, below, any_at, get_there}

module _ {V E G : Type 0} (entries : V → List E) (client : E → ℕ) (ground : V → G) where
  abbrev Rule : State (Option V) (View E G) → Type 0
  Rule = LockRule entries client ground

  live_by_ticket : (st : Stage E) (t : ℕ) → ticket st ≡ some t → IsLive st
  live_by_ticket Spent t e = some-ne-none t (sym e)
  live_by_ticket Idle t e = tt
  live_by_ticket (Names n) t e = tt
  live_by_ticket (Waits n) t e = tt
  live_by_ticket (HasTurn n found) t e = tt
  live_by_ticket (Compares l) t e = tt

  number_or : maybe.Option (View E G) → ℕ
  number_or (some v) = v.number
  number_or none = 0

  abbrev number_at : List (View E G) → ℕ → ℕ
  number_at vs id = number_or (get_elem? vs id)

  number_there : (vs : List (View E G)) (id : ℕ) (v : View E G) → get_elem? vs id ≡ some v → number_at vs id ≡ v.number
  unfolding number_or
  number_there vs id v e = ap number_or e

  -- the seats with a ticket have different numbers, of 32 bits
  pub few : (s : State (Option V) (View E G)) (r : Rule s) → length r.queue ≤ 2 ^ 32
  few s r =
      let f : ℕ → ℕ = number_at s.views in
      let xs : List ℕ = map f r.queue in
      let same : length xs ≡ length r.queue = length-map r.queue f in
      let seat : (i : ℕ) → i < length xs → get_elem? r.queue i ≡ some (get_or r.queue i 0) = λ i l. get_there r.queue i 0 (omega arith) in
      let is : (i d : ℕ) (l : i < length xs) → get_or xs i d ≡ f (get_or r.queue i 0) = λ i d l. one_there xs i _ _ (get_there xs i d l) (at_map f r.queue i (get_or r.queue i 0) (seat i l)) in
      let apart : (i j d : ℕ) → i < j → j < length xs → eqb (get_or xs i d) (get_or xs j d) ≡ false = λ i j d lt l.
      let li : i < length xs = omega arith in
      let a = get_or r.queue i 0 in
      let b = get_or r.queue j 0 in
      let p = r.queued i a (seat i li) in
      let q = r.queued j b (seat j l) in
      ne_eqb (get_or xs i d) (get_or xs j d) (λ e.
      let numbers : q.0.number ≡ p.0.number = sym (number_there s.views b q.0 q.1) ∙ sym (is j d l) ∙ sym e ∙ is i d li ∙ number_there s.views a p.0 p.1 in
      let one : a ≡ b = r.apart a p.0 p.1 (live_by_ticket p.0.stage _ p.2) b q.0 q.1 (live_by_ticket q.0.stage _ q.2) (inl numbers) in
      let views : p.0 ≡ q.0 = one_there s.views b p.0 q.0 (subst (λ k. get_elem? s.views k ≡ some p.0) one p.1) q.1 in
      let tickets : r.served + i ≡ r.served + j = some-injective _ _ (sym p.2 ∙ ap (λ (x : View E G). ticket x.stage) views ∙ q.2) in
      omega arith)
      in
      let small : (q : ℕ) → list_any (eqb q) xs ≡ true → q < 2 ^ 32 = λ q any.
      let at = any_at q xs any in
      let l : at.0 < length xs = below xs at.0 q at.1 in
      let a = get_or r.queue at.0 0 in
      let p = r.queued at.0 a (seat at.0 l) in
      let number : p.0.number ≡ q = sym (number_there s.views a p.0 p.1) ∙ one_there xs at.0 _ _ (at_map f r.queue at.0 a (seat at.0 l)) at.1 in
      subst (λ n. n < 2 ^ 32) number (r.small p.0.number (r.fits a p.0 p.1 (live_by_ticket p.0.stage _ p.2)).counts)
      in
      subst (λ n. n ≤ 2 ^ 32) same (length-le_from_distinct_below xs (2 ^ 32) (IsDistinct-from_apart eqb xs apart) small)
