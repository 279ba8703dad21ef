-- A whole turn: what its call leaves may be put back, and what the seat knows then.
use Rattle.std.proofs.Common.{◌≡◌, ℕ, [], List, MutBor, sym, ap, ◌∙◌, subst, Option, Some}
use Rattle.std.specs.Fn.{Once}
use mathlib.Core.List.{IsPrefix}
use Rattle.atomic_table.specs.Table.{Me}
use Rattle.sal_turn.specs.declared.view.View.{View}
use Rattle.sal_turn.specs.Entries.{AddsAtMostOne, Leaves, entries_by}
use Rattle.sal_turn.specs.Stages.{entries_found}
use Rattle.sal_turn.specs.Tells.{Begun, FitsSeat, after_turn}
use Rattle.sal_turn.specs.Turns.{Adds, Does, Turned}
use Rattle.sal_turn.proofs.Grown.{own_then}
use Rattle.sal_turn.proofs.Lists.{by_own}

module _ {V E G : Type 0} (entries : V → List E) (client : E → ℕ) (ground : V → G) (u v : View E G) (m : Me (Option V) (View E G)) (x : V) (same : u ≡ v) (b : Begun entries client ground u m x) where
  pub fits : FitsSeat entries client ground x v
  fits = subst (FitsSeat entries client ground x) same (subst (IsPrefix u.seen) (sym b.found) b.seen, b.grounded, ap (entries_by client u.number) b.found ∙ b.own)

  module _ {F T : Type 0} (g : Once F (MutBor V × (ℕ × Unit {0})) (T × (MutBor V × Unit {0}))) (call : F) (y : V) (r : T) (adds : Adds entries client ground g call v) (does : Does entries client ground g call v x r y) where
    pub grounded : m.0.ground ≡ Some (ground y)
    grounded = ap (λ (w : View E G). w.ground) b.same ∙ b.grounded ∙ ap Some (sym (adds x y r fits does).0)

    pub added : AddsAtMostOne client m.0.number (entries_found m.0.stage) (entries y)
    added = subst (λ (p : ℕ × List E). AddsAtMostOne client p.0 p.1 (entries y)) (λ i. (sym (ap (λ (w : View E G). w.number) (b.same ∙ same)) i, b.found i)) (adds x y r fits does).1

    pub turned : (m' : Me (Option V) (View E G)) → m' ≡ (after_turn entries client ground y m.0, []) → Turned entries client ground g call v r m'.0
    turned m' is = record {
      found = x;
      left = y;
      fits = fits;
      does = does;
      now = ap (λ (m : Me (Option V) (View E G)). m.0.seen) is;
      own = own_then client v.number (entries x) v.own (entries y) m'.0.own (subst (Leaves client v.number (entries x) v.own (entries y)) (sym (ap (λ (m : Me (Option V) (View E G)). m.0.own) is ∙ ap (λ (k : ℕ). entries_by client k (entries y)) (ap (λ (w : View E G). w.number) (b.same ∙ same)))) (by_own client v.number (entries x) v.own (entries y) fits.2 (adds x y r fits does).1));
    }
