-- How many bytes a follower has had.
use Rattle.std.proofs.Common.{◌≡◌, inl, inr, ℕ, ◌+◌, ◌≤◌, ◌<◌, ◌^◌, List, [], ◌++◌, length, Option, Result, ap, sym, ◌∙◌, subst, arith}
use Rattle.std.proofs.lemmas.List.{length-append}
use Rattle.std.proofs.lemmas.List.Sums.{fold-append}
use Rattle.sal_schema.specs.declared.table.SchemaTable.{SchemaTable}
use Rattle.sal_follow.specs.declared.fault.FollowFault.{FollowFault}
use Rattle.sal_follow.specs.Laws.{IsCounted, PlacesCountBytes}
use Rattle.sal_follow.specs.States.{Feeds, Following}
use Rattle.sal_follow.specs.Stream.{Held, after_byte, followed, fresh, fresh_at}
use Rattle.sal_follow.specs.Fed.{IsFedBy}

pub new_fed : (f : Following) → f.held ≡ fresh → IsFedBy 0 f
unfolding followed
new_fed f is = record { first = 0; bytes = []; few = omega (arith); held = is }

pub begun_fed : (first : ℕ) (f : Following) → f.held ≡ fresh_at first → IsFedBy first f
unfolding followed
begun_fed first f is = record { first = first; bytes = []; few = omega (arith); held = is }

-- two pieces are one
pub joined : (table : SchemaTable) (h : Held) (a b : List ℕ) → followed table (followed table h a) b ≡ followed table h (a ++ b)
unfolding followed
joined table h a b = sym (fold-append (after_byte table) h a b)

pub has_room : PlacesCountBytes → (n : ℕ) (f : Following) (piece : ℕ) → IsFedBy n f → n + piece < 2 ^ 64 → f.held.first + f.held.at + length f.held.rest + piece < 2 ^ 64
has_room places n f piece is small =
    let counted : IsCounted is.first is.bytes f.held = subst (IsCounted is.first is.bytes) (sym is.held) (places f.schema is.first is.bytes) in
    let first = counted.first in
    let bound = counted.most in
    omega (arith, first, bound, is.few, small)

pub more_fed : (n : ℕ) (f g : Following) (piece : List ℕ) (result : Result (Option ℕ) FollowFault) → IsFedBy n f → Feeds piece f g result → IsFedBy (n + length piece) g
more_fed n f g piece result is (inl (taken, told)) = record {
  first = is.first;
  bytes = is.bytes ++ piece;
  few = omega (arith, is.few, length-append is.bytes piece);
  held =
      ap (λ (x : Following). x.held) taken ∙ ap (λ (h : Held). followed f.schema h piece) is.held ∙ joined f.schema (fresh_at is.first) is.bytes piece
      ∙ ap (λ (x : Following). followed x.schema (fresh_at is.first) (is.bytes ++ piece)) (sym taken);
}
more_fed n f g piece result is (inr (none, same, going)) = record {
  first = is.first;
  bytes = is.bytes;
  few = omega (arith, is.few);
  held = ap (λ (x : Following). x.held) same ∙ is.held ∙ ap (λ (x : Following). followed x.schema (fresh_at is.first) is.bytes) (sym same);
}
