-- Each step keeps the rule of the feed.
use Rattle.std.proofs.Common.{◌≡◌, ◌≢◌, ℕ, zero, suc, true, false, true≢false, List, [], ◌∷◌, ◌++◌, length, set, sym, refl, ap, ◌∙◌, subst, ⊎_elim, append_assoc}
use mathlib.Core.Option.{some, some-ne-none}
use lib.ListN.{get_elem?}
use Rattle.crossbeam_queue.specs.Fifo.{Pushes, Pops, Forks, Merges, Learns}
use Rattle.crossbeam_queue.proofs.Lists.{at_set, at_snoc}
use Rattle.sal_note.specs.declared.call.Note.{Note}
use Rattle.sal_feed.specs.declared.rule.Log.{Log}
use Rattle.sal_feed.specs.Rule.{log, with_offered, with_taken, Knows, Carries, Waits, Follows, Leaves}
use Rattle.sal_feed.specs.Seats.{OfferKeeps, TakeKeeps}

-- ---- views

-- F holds of each seat's view
abbrev All : (ℕ → Log → Type 0) → List Log → Type 0
All F views = (seat : ℕ) (v : Log) → get_elem? views seat ≡ some v → F seat v

at_end : (l : List Log) (a b : Log) (j : ℕ) → get_elem? l j ≢ some b → get_elem? (l ++ a ∷ []) j ≡ some b → j ≡ length l
at_end [] a b zero n e = refl
at_end [] a b (suc j) n e = absurd (some-ne-none b (sym e))
at_end (x ∷ xs) a b zero n e = absurd (n e)
at_end (x ∷ xs) a b (suc j) n e = ap suc (at_end xs a b j n e)

-- after one view was set
all_set : (F : ℕ → Log → Type 0) (views : List Log) (seat : ℕ) (w : Log) → F seat w → ((j : ℕ) (u : Log) → j ≢ seat → get_elem? views j ≡ some u → F j u) → All F (set views seat w)
all_set F views seat w mine others j u e =
    ⊎_elim (λ (x : (j ≡ seat) × (w ≡ u)). subst (λ (y : ℕ × Log). F y.0 y.1) (λ i. (sym x.0 i, x.1 i)) mine)
    (λ (x : (j ≢ seat) × (get_elem? views j ≡ some u)). others j u x.0 x.1) (at_set views seat j w u e)

-- ---- the steps

-- what a program says of each moment of its feed
abbrev Moments : Type 1
Moments = List Note → List Note → Type 0

pub begins : (holds : Moments) → holds [] [] → Carries holds [] (log true true [] [] ∷ [])
begins holds first = record {
  offerer = 0;
  taker = 0;
  offered = [];
  taken = [];
  whole = refl;
  kept = first;
  known = all_set (Knows 0 0 [] []) (log true true [] [] ∷ []) 0 (log true true [] []) (record { offers = λ _. (refl, refl); takes = λ _. (refl, refl) })
      (λ j u other e. absurd (other (at_end [] _ u j (λ x. some-ne-none u (sym x)) e)));
}

pub offers : (holds : Moments) (n seat : ℕ) (v : Log) (x : Note) → OfferKeeps holds n v.offered x → v.offers ≡ true → Pushes (Carries holds) n seat v x (λ w. w ≡ with_offered v x)
offers holds n seat v x keeps may items views room h at =
    let mine = h.known seat v at in
    let same : v.offered ≡ h.offered = (mine.offers may).1 in
    let w : Log = with_offered v x in
    let offered : List Note = h.offered ++ x ∷ [] in (
      w,
      record {
        offerer = h.offerer;
        taker = h.taker;
        offered = offered;
        taken = h.taken;
        whole = ap (λ l. l ++ x ∷ []) h.whole ∙ append_assoc h.taken items (x ∷ []);
        kept = subst (λ (l : List Note). holds (l ++ x ∷ []) h.taken) same (keeps h.taken items (same ∙ h.whole) room (subst (λ (l : List Note). holds l h.taken) (sym same) h.kept));
        known = all_set (Knows h.offerer h.taker offered h.taken) views seat w
            (record { offers = λ _. ((mine.offers may).0, ap (λ l. l ++ x ∷ []) (mine.offers may).1); takes = mine.takes })
            (λ j u other e. record { offers = λ p. absurd (other (((h.known j u e).offers p).0 ∙ sym (mine.offers may).0)); takes = (h.known j u e).takes });
      },
      refl,
    )

pub takes : (holds : Moments) (seat : ℕ) (v : Log) → TakeKeeps holds v.taken → v.takes ≡ true → Pops (Carries holds) seat v (λ x w. w ≡ with_taken v x)
takes holds seat v keeps may x items views h at =
    let mine = h.known seat v at in
    let same : v.taken ≡ h.taken = (mine.takes may).1 in
    let first : h.offered ≡ v.taken ++ x ∷ items = h.whole ∙ ap (λ (l : List Note). l ++ x ∷ items) (sym same) in
    let w : Log = with_taken v x in
    let taken : List Note = h.taken ++ x ∷ [] in (
      w,
      record {
        offerer = h.offerer;
        taker = h.taker;
        offered = h.offered;
        taken = taken;
        whole = h.whole ∙ sym (append_assoc h.taken (x ∷ []) items);
        kept = subst (λ (l : List Note). holds h.offered (l ++ x ∷ [])) same (keeps h.offered x items first (subst (λ (l : List Note). holds h.offered l) (sym same) h.kept));
        known = all_set (Knows h.offerer h.taker h.offered taken) views seat w
            (record { offers = mine.offers; takes = λ _. ((mine.takes may).0, ap (λ l. l ++ x ∷ []) (mine.takes may).1) })
            (λ j u other e. record { offers = (h.known j u e).offers; takes = λ p. absurd (other (((h.known j u e).takes p).0 ∙ sym (mine.takes may).0)) });
      },
      refl,
    )

-- a seat with both rights sees what is left
pub empties : (holds : Moments) (seat : ℕ) (v : Log) → TakeKeeps holds v.taken → v.offers ≡ true → v.takes ≡ true → Pops (Carries holds) seat v (λ x w. (w ≡ with_taken v x) × Leaves v x)
empties holds seat v keeps a b x items views h at =
    let mine = h.known seat v at in
    let step = takes holds seat v keeps b x items views h at in
    (step.0, step.1, (step.2, (items, (mine.offers a).1 ∙ h.whole ∙ ap (λ l. l ++ x ∷ items) (sym (mine.takes b).1))))

pub forks : (holds : Moments) (seat : ℕ) (v : Log) → v.offers ≡ true → v.takes ≡ true → Forks (Carries holds) seat v (log true false v.offered []) (log false true [] v.taken)
forks holds seat v a b items views h at =
    let l : Log = log true false v.offered [] in
    let r : Log = log false true [] v.taken in
    let mine = h.known seat v at in
    let vs : List Log = set views seat l in
    let Old : ℕ → Log → Type 0 = λ j u. (u.offers ≡ true → (j ≡ h.offerer) × (u.offered ≡ h.offered)) × (u.takes ≢ true) in
    let old : All Old vs = all_set Old views seat l ((λ _. mine.offers a), λ p. true≢false (sym p))
    (λ j u other e. ((h.known j u e).offers, λ p. other (((h.known j u e).takes p).0 ∙ sym (mine.takes b).0))) in
    record {
      offerer = h.offerer;
      taker = length vs;
      offered = h.offered;
      taken = h.taken;
      whole = h.whole;
      kept = h.kept;
      known = λ j u e. ⊎_elim (λ x. record { offers = (old j u x).0; takes = λ p. absurd ((old j u x).1 p) })
          (λ (is : r ≡ u). record {
            offers = λ p. absurd (true≢false (sym (ap (λ (y : Log). y.offers) is ∙ p)));
            takes = λ p. (at_end vs r u j (λ x. (old j u x).1 p) e, ap (λ (y : Log). y.taken) (sym is) ∙ (mine.takes b).1);
          }) (at_snoc vs r u j e);
    }

pub merges : (holds : Moments) (seat : ℕ) (v : Log) (other : ℕ) (u : Log) → v.offers ≡ true → u.takes ≡ true → Merges (Carries holds) seat v other u (log true true v.offered u.taken) (log false false [] [])
merges holds seat v other u a b items views h at two at' =
    let both : Log = log true true v.offered u.taken in
    let mine = h.known seat v at in
    let vs : List Log = set views seat both in
    let was : get_elem? views other ≡ some u = ⊎_elim (λ x. absurd (two x.0)) (λ x. x.1) (at_set views seat other both u at') in
    let theirs = (h.known other u was).takes b in
    let Now : ℕ → Log → Type 0 = λ j y. j ≢ other → Knows h.offerer seat h.offered h.taken j y in
    let now : All Now vs = all_set Now views seat both (λ _. record { offers = λ _. mine.offers a; takes = λ _. (refl, theirs.1) })
    (λ j y _ e apart. record { offers = (h.known j y e).offers; takes = λ p. absurd (apart (((h.known j y e).takes p).0 ∙ sym theirs.0)) }) in
    record {
      offerer = h.offerer;
      taker = seat;
      offered = h.offered;
      taken = h.taken;
      whole = h.whole;
      kept = h.kept;
      known = all_set (Knows h.offerer seat h.offered h.taken) vs other (log false false [] [])
          (record { offers = λ p. absurd (true≢false (sym p)); takes = λ p. absurd (true≢false (sym p)) }) (λ j y apart e. now j y e apart);
    }

-- ---- what a seat learns

pub waits : (holds : Moments) (seat : ℕ) (v : Log) → v.offers ≡ true → Learns (Carries holds) seat v (λ items. Waits holds v.offered items)
waits holds seat v may items views h at =
    let same : v.offered ≡ h.offered = ((h.known seat v at).offers may).1 in
    (h.taken, same ∙ h.whole, subst (λ (l : List Note). holds l h.taken) (sym same) h.kept)

pub follows : (holds : Moments) (seat : ℕ) (v : Log) → v.takes ≡ true → Learns (Carries holds) seat v (λ items. Follows holds v.taken items)
follows holds seat v may items views h at =
    let same : v.taken ≡ h.taken = ((h.known seat v at).takes may).1 in
    (h.offered, h.whole ∙ ap (λ (l : List Note). l ++ items) (sym same), subst (λ (l : List Note). holds h.offered l) (sym same) h.kept)

pub rests : (holds : Moments) (seat : ℕ) (v : Log) → v.offers ≡ true → v.takes ≡ true → Learns (Carries holds) seat v (λ items. v.offered ≡ v.taken ++ items)
rests holds seat v a b items views h at = let mine = h.known seat v at in (mine.offers a).1 ∙ h.whole ∙ ap (λ l. l ++ items) (sym (mine.takes b).1)
