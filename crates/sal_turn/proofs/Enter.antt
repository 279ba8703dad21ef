-- From the looks of a seat to its turn.
use Rattle.std.proofs.Common.{◌≡◌, ◌≢◌, ℕ, ◌%◌, ◌^◌, List, [], ◌∷◌, sym, ap, ◌∙◌, subst, Option, Some, None}
use mathlib.Core.Option.{none, some-injective}
use mathlib.Core.List.{IsPrefix}
use Rattle.atomic_table.specs.Table.{Me, step, rest}
use Rattle.sal_turn.specs.declared.view.View.{View}
use Rattle.sal_turn.specs.declared.view.Stage.{Stage}
use Rattle.sal_turn.specs.declared.view.Stage.TheVariants.{Idle, Waits, HasTurn}
use Rattle.sal_turn.specs.Entries.{entries_by}
use Rattle.sal_turn.specs.Stages.{ticket, entries_found}
use Rattle.sal_turn.specs.Tells.{Begun, FitsSeat, LookTells}
use Rattle.sal_turn.specs.Views.{at_stage}

first_out : {A : Type 0} → A → List (ℕ × A) → A
first_out d [] = d
first_out d (x ∷ xs) = x.1

pub same_out : {A : Type 0} (a b : A) (xs ys : List (ℕ × A)) → (0, a) ∷ xs ≡ (0, b) ∷ ys → a ≡ b
unfolding first_out
same_out a b xs ys e = ap (first_out a) e

module _ {V E G : Type 0} (entries : V → List E) (client : E → ℕ) (ground : V → G) where
  pub restaging : (st : Stage E) (v : View E G) → v.stage ≡ st → at_stage st v ≡ v
  restaging st v e = λ i. record v { stage = sym e i }

  same_ticket : (a b : ℕ) (st : Stage E) → st ≡ Waits a → st ≡ Waits b → a ≡ b
  same_ticket a b st p q = some-injective a b (sym (ap ticket p) ∙ ap ticket q)

  -- a look that finds the turn
  pub hits : (slots t r own : ℕ) (m m1 : Me (Option V) (View E G)) → m.1 ≡ [] → m.0.stage ≡ Waits t → t % 2 ^ 64 ≡ own → r ≡ own → LookTells entries client ground (step slots 1 0 0 none) m r m1
      → (x : V) × (m1 ≡ (at_stage (HasTurn t (entries x)) m.0, (0, Some x) ∷ [])) × FitsSeat entries client ground x m.0
  hits slots t r own m m1 none_out waits low hit l =
      let is : l.0 ≡ t = same_ticket l.0 t m.0.stage l.1 waits in
      let o = l.2 (hit ∙ sym low ∙ ap (λ t. t % 2 ^ 64) (sym is)) in
      (o.0, o.1 ∙ (λ i. (at_stage (HasTurn (is i) (entries o.0)) m.0, (0, Some o.0) ∷ none_out i)), o.2)

  pub lifts : (slots t r own : ℕ) (u : View E G) (m m1 m2 : Me (Option V) (View E G)) (out : Option V) (y : V) → m.1 ≡ [] → at_stage Idle m.0 ≡ u → m.0.stage ≡ Waits t → t % 2 ^ 64 ≡ own → r ≡ own → LookTells entries client ground (step slots 1 0 0 none) m r m1
      → m1.1 ≡ (0, out) ∷ rest m1.1 → m2 ≡ (m1.0, (0, None) ∷ rest m1.1) → out ≡ Some y → Begun entries client ground u m2 y
  lifts slots t r own u m m1 m2 out y none_out view waits low hit l found left is =
      let h = hits slots t r own m m1 none_out waits low hit l in
      let x = h.0 in
      let outs : Some x ≡ out = same_out (Some x) out [] (rest m1.1) (sym (ap (λ (m : Me (Option V) (View E G)). m.1) h.1) ∙ found) in
      let value : x ≡ y = cc (outs, is) in
      let now : m2 ≡ (at_stage (HasTurn t (entries y)) m.0, (0, None) ∷ []) = left ∙ ap (λ (m : Me (Option V) (View E G)). (m.0, (0, None) ∷ rest m.1)) h.1 ∙ ap (λ (z : V). (at_stage (HasTurn t (entries z)) m.0, (0, None) ∷ [])) value in
      let stage : m2.0.stage ≡ HasTurn t (entries y) = ap (λ (m : Me (Option V) (View E G)). m.0.stage) now in
      let es : entries y ≡ entries_found m2.0.stage = sym (ap entries_found stage) in
      let all : entries x ≡ entries_found m2.0.stage = ap entries value ∙ es in
      let same : at_stage Idle m2.0 ≡ at_stage Idle m.0 = ap (λ (m : Me (Option V) (View E G)). at_stage Idle m.0) now in record {
        carries = ap (λ (m : Me (Option V) (View E G)). m.1) now;
        staged = (t, stage ∙ ap (HasTurn t) es);
        found = es;
        same = same ∙ view;
        seen = subst (λ (z : List E × List E). IsPrefix z.0 z.1) (λ i. ((view i).seen, all i)) h.2.0;
        own = subst (λ (z : View E G × List E). entries_by client z.0.number z.1 ≡ z.0.own) (λ i. (view i, all i)) h.2.2;
        mine = subst (λ (z : View E G × List E). entries_by client z.0.number z.1 ≡ z.0.own) (λ i. (sym same i, all i)) h.2.2;
        grounded = sym (ap (λ (v : View E G). v.ground) view) ∙ h.2.1 ∙ ap (λ (z : V). Some (ground z)) value;
      }

  pub misses : (slots t r own : ℕ) (m m1 : Me (Option V) (View E G)) → m.0.stage ≡ Waits t → t % 2 ^ 64 ≡ own → r ≢ own → LookTells entries client ground (step slots 1 0 0 none) m r m1 → m1 ≡ m
  misses slots t r own m m1 waits low miss l = let is : l.0 ≡ t = same_ticket l.0 t m.0.stage l.1 waits in l.3 (λ e. miss (e ∙ ap (λ t. t % 2 ^ 64) is ∙ low))
