-- Steps that check their reads are as many, and have the same values.
use Rattle.std.proofs.Common.{◌≡◌, ℕ, zero, suc, ◌+◌, ◌<◌, Bool, true, false, List, [], ◌∷◌, ◌++◌, length, map, take, drop, get_or, IsTrue, refl, ap, ◌∙◌, arith}
use Rattle.std.specs.Prelude.{slice_set}
use Rattle.std.specs.List.{list_all}
use Rattle.std.proofs.lemmas.List.{length-map}
use Rattle.sal_script.specs.declared.script.ScriptStep.{ScriptStep}
use Rattle.sal_script.specs.CheckedReads.{checked_step, step_with, with_reads}
use Rattle.sal_script.specs.JsonMoves.{IsJsonMove, AreJsonMoves, HaveJsonMoves, is_json_move, have_json_moves}
use Rattle.sal_script.specs.Limits.{within_limits}
use Rattle.sal_script.specs.Moves.{Move, Begin, ChainBegin, clients_of}
use Rattle.sal_script.proofs.Limits.{same_limits, short}

-- ---- values

same_value : (m : Move) → is_json_move (checked_step m) ≡ is_json_move m
same_value (Begin slot domain mode) = refl
same_value (ChainBegin chain slot mode) = refl
same_value step = refl

pub json_step : (checked : Bool) (m : Move) → is_json_move (step_with checked m) ≡ is_json_move m
json_step true m = same_value m
json_step false m = refl

same_values : (ms : List Move) → list_all is_json_move (map checked_step ms) ≡ list_all is_json_move ms
same_values [] = refl
same_values (m ∷ ms) = rw (same_value m, same_values ms) refl

pub json_with : (checked : Bool) (clients : List (List Move)) → have_json_moves (with_reads checked clients) ≡ have_json_moves clients
json_with false clients = refl
json_with true [] = refl
json_with true (ms ∷ clients) = rw (same_values ms, json_with true clients) refl

value_checked : (m : Move) → IsJsonMove m → IsJsonMove (checked_step m)
value_checked (Begin slot domain mode) is = tt
value_checked (ChainBegin chain slot mode) is = tt
value_checked step is = is

values_checked : (ms : List Move) → AreJsonMoves ms → AreJsonMoves (map checked_step ms)
values_checked [] are = tt
values_checked (m ∷ ms) are = (value_checked m are.0, values_checked ms are.1)

pub values_with : (checked : Bool) (clients : List (List Move)) → HaveJsonMoves clients → HaveJsonMoves (with_reads checked clients)
values_with false clients have = have
values_with true [] have = tt
values_with true (ms ∷ clients) have = (values_checked ms have.0, values_with true clients have.1)

-- ---- limits

same_lengths : (checked : Bool) (clients : List (List Move)) → (length (with_reads checked clients) ≡ length clients) × (short (with_reads checked clients) ≡ short clients)
same_lengths false clients = (refl, refl)
same_lengths true [] = (refl, refl)
same_lengths true (ms ∷ clients) =
    let more = same_lengths true clients in
    (ap suc more.0, rw (length-map ms checked_step, more.1) refl)

pub limits_with : (checked : Bool) (old new : List (List ScriptStep)) → clients_of new ≡ with_reads checked (clients_of old) → IsTrue (within_limits old) → IsTrue (within_limits new)
limits_with checked old new made limits =
    let was = same_limits old in
    let is = same_limits new in
    let same = same_lengths checked (clients_of old) in
    rw (← is.0, ← is.1, made, same.0, same.1, was.0, was.1) limits

-- ---- in place

-- one element more is changed, as it is seen
mapped_next : {A B : Type 0} (f : B → B) (g : A → B) (was now : List A) (i : ℕ) (x y : A) → i < length was → g y ≡ f (g (get_or now i x))
    → map g now ≡ map f (map g (take i was)) ++ map g (drop i was) → map g (slice_set now i y) ≡ map f (map g (take (suc i) was)) ++ map g (drop (suc i) was)
mapped_next f g [] now i x y within is so_far = absurd (omega (arith, within))
mapped_next f g (w ∷ was) [] zero x y within is so_far = let none : [] ≡ g w ∷ map g was = so_far in absurd cc
mapped_next f g (w ∷ was) [] (suc i) x y within is so_far = let none : [] ≡ f (g w) ∷ (map f (map g (take i was)) ++ map g (drop i was)) = so_far in absurd cc
mapped_next f g (w ∷ was) (n ∷ now) zero x y within is so_far =
    let all : g n ∷ map g now ≡ g w ∷ map g was = so_far in
    let first : g n ≡ g w = cc in
    let rest : map g now ≡ map g was = cc in
    let changed : g y ≡ f (g w) = is ∙ ap f first in
    λ k. changed k ∷ rest k
mapped_next f g (w ∷ was) (n ∷ now) (suc i) x y within is so_far =
    let all : g n ∷ map g now ≡ f (g w) ∷ (map f (map g (take i was)) ++ map g (drop i was)) = so_far in
    let first : g n ≡ f (g w) = cc in
    let rest : map g now ≡ map f (map g (take i was)) ++ map g (drop i was) = cc in
    let more = mapped_next f g was now i x y (omega (arith, within)) is rest in
    λ k. first k ∷ more k

pub mapped_more : {A B : Type 0} (f : B → B) (g : A → B) (was now : List A) (i : ℕ) (x y : A) → i < length was → g y ≡ f (g (get_or now i x))
    → map g now ≡ map f (map g (take i was)) ++ map g (drop i was) → map g (slice_set now i y) ≡ map f (map g (take (i + 1) was)) ++ map g (drop (i + 1) was)
mapped_more f g was now i x y within is so_far =
    let next : suc i ≡ i + 1 = omega arith in
    mapped_next f g was now i x y within is so_far ∙ ap (λ n. map f (map g (take n was)) ++ map g (drop n was)) next
