-- A stream that is fed in pieces.
use Rattle.std.proofs.Common.{◌≡◌, ◌⊎◌, inl, inr, ℕ, zero, suc, ◌+◌, ◌-◌, ◌<◌, ◌≤◌, ◌^◌, List, [], ◌∷◌, ◌++◌, length, take, drop, Option, Some, None, Result, Ok, Err, refl, ap, sym, ◌∙◌, subst, arith}
use Rattle.std.specs.Option.{option_map_or}
use Rattle.std.proofs.lemmas.List.{length-take, take_all}
use Rattle.sal_follow.specs.declared.fault.FollowFault.{FollowFault}
use Rattle.sal_follow.specs.declared.fault.FollowFault.TheVariants.{BadFrame, Gap, NoMemory}
use Rattle.sal_follow.specs.Laws.{IsCounted, PlacesCountBytes}
use Rattle.sal_follow.specs.States.{Following, Feeds}
use Rattle.sal_follow.specs.Stream.{Held, answer, followed, fresh}
use Rattle.sal_follow.proofs.Counted.{joined}
use Rattle.sal_follow.proofs.Feeding.{stays-faulty}
use Rattle.sal_follow_script.specs.Taken.{IsTaken}

-- `fed` bytes of the stream were taken without a fault
pub record IsFed (stream : List ℕ) (start : Following) (now : Following) (fed : ℕ) : Type 0 where
  pub held : now ≡ record { schema = start.schema; held = followed start.schema fresh (take fed stream) }
  pub going : now.held.fault ≡ None
  pub within : fed ≤ length stream

pub none_fed : (stream : List ℕ) (start : Following) → start.held ≡ fresh → IsFed stream start start 0
unfolding followed
none_fed stream start is = record {
  held = λ i. record { schema = start.schema; held = is i };
  going = ap (λ (h : Held). h.fault) is;
  within = omega (arith);
}

-- there is room for a piece
pub has_room : PlacesCountBytes → (stream : List ℕ) (start now : Following) (fed piece : ℕ) → IsFed stream start now fed → fed + piece ≤ length stream → length stream < 2 ^ 64
    → now.held.first + now.held.at + length now.held.rest + piece < 2 ^ 64
has_room places stream start now fed piece is inside small =
    let taken : List ℕ = take fed stream in
    let counted = places start.schema 0 taken in
    let long : length taken ≤ fed = omega (arith, length-take fed stream) in
    let same : now.held ≡ followed start.schema fresh taken = ap (λ (f : Following). f.held) is.held in
    let now_counted : IsCounted 0 taken now.held = subst (IsCounted 0 taken) (sym same) counted in
    let first = now_counted.first in
    let bound = now_counted.most in
    omega (arith, first, bound, long, inside, small)

take_none : (n : ℕ) → take {A = ℕ} n [] ≡ []
take_none zero = refl
take_none (suc n) = refl

-- the bytes up to here, and then those of a piece
upto : (stream : List ℕ) (fed end : ℕ) → fed ≤ end → take fed stream ++ take (end - fed) (drop fed stream) ≡ take end stream
upto stream zero end before = let all : end - 0 ≡ end = omega (arith) in ap (λ n. take n stream) all
upto [] (suc fed) zero before = take_none (0 - suc fed)
upto [] (suc fed) (suc end) before = take_none (suc end - suc fed)
upto (b ∷ stream) (suc fed) zero before = absurd (omega (arith, before))
upto (b ∷ stream) (suc fed) (suc end) before =
    let same : suc end - suc fed ≡ end - fed = omega (arith) in
    ap (λ n. b ∷ (take fed stream ++ take n (drop fed stream))) same ∙ ap (λ bs. b ∷ bs) (upto stream fed end (omega (arith, before)))

all_upto : (stream : List ℕ) (end : ℕ) → take end stream ++ drop end stream ≡ stream
all_upto stream zero = refl
all_upto [] (suc end) = refl
all_upto (b ∷ stream) (suc end) = ap (λ bs. b ∷ bs) (all_upto stream end)

module _ (stream : List ℕ) (start now next : Following) (fed end : ℕ) (piece : List ℕ) (result : Result (Option ℕ) FollowFault) (is : IsFed stream start now fed) (before : fed ≤ end) (inside : end ≤ length stream)
    (cut : piece ≡ take (end - fed) (drop fed stream)) (feeds : Feeds piece now next result) where
  after : next ≡ record { schema = now.schema; held = followed now.schema now.held piece } → next ≡ record { schema = start.schema; held = followed start.schema fresh (take end stream) }
  after e =
      e ∙ ap (λ (f : Following). record { schema = f.schema; held = followed f.schema f.held piece }) is.held
      ∙ ap (λ (h : Held). record { schema = start.schema; held = h }) (joined start.schema fresh (take fed stream) piece)
      ∙ ap (λ bs. record { schema = start.schema; held = followed start.schema fresh bs }) (ap (λ p. take fed stream ++ p) cut ∙ upto stream fed end before)

  going : (o : Option FollowFault) (v v' : Option ℕ) → option_map_or (λ fault. Err fault) o (Ok v) ≡ Ok v' → o ≡ None
  going None v v' e = refl
  going (Some fault) v v' e = cc

  fault_of : (o : Option FollowFault) (v : Option ℕ) (fault : FollowFault) → (let r : Result (Option ℕ) FollowFault = option_map_or (λ fault. Err fault) o (Ok v) in r) ≡ Err fault → o ≡ Some fault
  fault_of None v fault e = cc
  fault_of (Some f) v fault e = cc

  -- the piece was taken
  pub more_fed : (v : Option ℕ) → result ≡ Ok v → IsFed stream start next end
  more_fed v e = by feeds
    where
      by : ((next ≡ record { schema = now.schema; held = followed now.schema now.held piece }) × (result ≡ answer next.held)) ⊎ ((result ≡ Err NoMemory) × (next ≡ now) × (now.held.fault ≡ None)) → IsFed stream start next end
      by (inl (is_next, told)) = record { held = after is_next; going = going next.held.fault next.held.version v (sym told ∙ e); within = inside }
      by (inr (none, same, going)) = absurd (other (sym none ∙ e))
        where
          other : (let r : Result (Option ℕ) FollowFault = Err NoMemory in r) ≡ Ok v → ⊥
          other x = cc

  same_err : {a b : FollowFault} → (let r : Result (Option ℕ) FollowFault = Err a in r) ≡ Err b → a ≡ b
  same_err e = cc

  held_at : (fault : FollowFault) → result ≡ Err fault → (fault ≡ NoMemory → ⊥) → (next ≡ record { schema = start.schema; held = followed start.schema fresh (take end stream) }) × (next.held.fault ≡ Some fault)
  held_at fault e apart = by feeds
    where
      by : ((next ≡ record { schema = now.schema; held = followed now.schema now.held piece }) × (result ≡ answer next.held)) ⊎ ((result ≡ Err NoMemory) × (next ≡ now) × (now.held.fault ≡ None))
          → (next ≡ record { schema = start.schema; held = followed start.schema fresh (take end stream) }) × (next.held.fault ≡ Some fault)
      by (inl (is_next, told)) = (after is_next, fault_of next.held.fault next.held.version fault (sym told ∙ e))
      by (inr (none, same, going)) = absurd (apart (same_err (sym e ∙ none)))

  faulty : (fault : FollowFault) → (next ≡ record { schema = start.schema; held = followed start.schema fresh (take end stream) }) × (next.held.fault ≡ Some fault) → (followed start.schema fresh stream).fault ≡ Some fault
  faulty fault both =
      let front : Held = followed start.schema fresh (take end stream) in
      let there : front.fault ≡ Some fault = sym (ap (λ (f : Following). f.held.fault) both.0) ∙ both.1 in
      let whole : followed start.schema fresh stream ≡ front =
      ap (followed start.schema fresh) (sym (all_upto stream end)) ∙ sym (joined start.schema fresh (take end stream) (drop end stream)) ∙ stays-faulty start.schema front fault (drop end stream) there in
      ap (λ (h : Held). h.fault) whole ∙ there

  -- the first fault is in it
  pub ends_at : (fault : FollowFault) → result ≡ Err fault → IsTaken stream start next (Err fault)
  ends_at NoMemory e = tt
  ends_at (BadFrame at) e = faulty (BadFrame at) (held_at (BadFrame at) e (λ x. cc))
  ends_at (Gap want got) e = faulty (Gap want got) (held_at (Gap want got) e (λ x. cc))

-- the whole stream was taken
pub all_fed : (stream : List ℕ) (start now : Following) (fed : ℕ) → IsFed stream start now fed → length stream ≤ fed → IsTaken stream start now (Ok tt)
all_fed stream start now fed is all =
    (is.held ∙ ap (λ bs. record { schema = start.schema; held = followed start.schema fresh bs }) (take_all fed stream all), is.going)

-- then the follower has counted its bytes
pub counted : PlacesCountBytes → (stream : List ℕ) (old new : Following) → IsTaken stream old new (Ok tt) → new.held.at + length new.held.rest ≡ length stream
counted places stream old new taken =
    let same : new.held ≡ followed old.schema fresh stream = ap (λ (f : Following). f.held) taken.0 in
    let none : (followed old.schema fresh stream).fault ≡ None = sym (ap (λ (h : Held). h.fault) same) ∙ taken.1 in
    ap (λ (h : Held). h.at + length h.rest) same ∙ (places old.schema 0 stream).exact none
