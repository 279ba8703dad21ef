-- Readings, one after another.
use Rattle.std.proofs.Common.{◌≡◌, Bool, true, false, List, [], ◌∷◌, ◌++◌, Result, Ok, Err, cond, if◌then◌else◌, refl, sym, ap, ◌∙◌, append_assoc}
use Rattle.std.specs.Prelude.{◌||◌, IsErrAnd}
use Rattle.std.specs.List.{list_any}
use Rattle.std.specs.Cmp.{eq_by_cmp_equiv}
use Rattle.sal_types.specs.declared.value.Value.{Value}
use Rattle.sal_types.specs.declared.value.Step.{Step}
use Rattle.sal_types.specs.declared.row.Row.{Row}
use Rattle.sal_types.specs.Order.{step_cmp-IsTotalOrder}
use Rattle.sal_types.specs.Reading.{◌>>=◌, GivesUnless}
use Rattle.sal_data.specs.declared.fault.DataFault.{DataFault}
use Rattle.sal_data.specs.declared.fault.DataFault.TheVariants.{DoubleEntry}
use Rattle.sal_data.specs.Read.{Reading, followed, one_more, same_step}
use Rattle.sal_data.specs.Walked.{HaveSame}

pub followed-none : (read : Reading) → followed [] read ≡ read
followed-none (Ok rows) = refl
followed-none (Err fault) = refl

pub followed-followed : (out rows : List Row) (read : Reading) → followed out (followed rows read) ≡ followed (out ++ rows) read
followed-followed out rows (Ok more) = ap Ok (sym (append_assoc out rows more))
followed-followed out rows (Err fault) = refl

pub followed-then : (out : List Row) (first rest : Reading) → followed out (first >>= λ rows. followed rows rest) ≡ (followed out first >>= λ now. followed now rest)
followed-then out (Ok rows) rest = followed-followed out rows rest
followed-then out (Err fault) rest = refl

-- the fault that a `?` passes on
pub gives_err : {X Y F : Type 0} (memory : F) (view : X → Y) (result : Result X F) (e : F) (read : Result Y F) → IsErrAnd result (λ d. d ≡ e) → ((e ≡ memory → ⊥) → read ≡ Err e) → GivesUnless memory view result read
gives_err memory view (Ok x) e read is fault = absurd is
gives_err memory view (Err d) e read is fault = rw is fault

-- these values before those that are read
abbrev pub in_front : List Value → Result (List Value) DataFault → Result (List Value) DataFault
in_front front read = read >>= λ others. Ok (front ++ others)

pub in_front-none : (read : Result (List Value) DataFault) → in_front [] read ≡ read
in_front-none (Ok values) = refl
in_front-none (Err fault) = refl

pub in_front-one : (front : List Value) (value : Value) (read : Result (List Value) DataFault) → in_front front (read >>= λ values. Ok (value ∷ values)) ≡ in_front (front ++ value ∷ []) read
in_front-one front value (Ok values) = ap Ok (sym (append_assoc front (value ∷ []) values))
in_front-one front value (Err fault) = refl

-- what follows two steps, or three, follows them together
pub after_two : {B C D F : Type 0} (r : Result B F) (g : B → Result C F) (h : C → Result D F) → (r >>= λ b. (g b >>= h)) ≡ ((r >>= g) >>= h)
after_two (Ok b) g h = refl
after_two (Err e) g h = refl

pub after_three : {A B C D F : Type 0} (r : Result A F) (f : A → Result B F) (g : A → B → Result C F) (h : C → Result D F) → (r >>= λ a. (f a >>= λ b. (g a b >>= h))) ≡ ((r >>= λ a. (f a >>= g a)) >>= h)
after_three (Ok a) f g h = after_two (f a) (g a) h
after_three (Err e) f g h = refl

-- ---- entries that are none of those before

as_or : (a b : Bool) → cond a true b ≡ (a || b)
as_or true b = refl
as_or false b = refl

-- the steps and one more
pub have_more : (old new : List Step) (step : Step) → ((q : Step) → list_any (same_step q) new ≡ cond (same_step step q) true (list_any (same_step q) old)) → HaveSame new (step ∷ old)
have_more old new step updated q = updated q ∙ as_or (same_step step q) (list_any (same_step q) old) ∙ ap (λ b. b || list_any (same_step q) old) ((eq_by_cmp_equiv step_cmp-IsTotalOrder).symm step q)

pub have_same_more : (old others new : List Step) (step : Step) → HaveSame old others → HaveSame new (step ∷ old) → HaveSame new (step ∷ others)
have_same_more old others new step same more q = more q ∙ ap (λ b. same_step q step || b) (same q)

abbrev new_place : List Step → Step → Result (List Step) DataFault → Result (List Step) DataFault
new_place seen step place = place >>= λ below. (one_more seen step below >>= λ now. Ok below)

module _ (keys seen : List Step) (step : Step) (on : List Step → List Step → Reading) where
  abbrev goes_on : Bool → List Step → Reading
  goes_on is below = (if is then Err (DoubleEntry below) else Ok (step ∷ seen)) >>= λ now. on below now

  abbrev is_new : Bool → List Step → Result (List Step) DataFault
  is_new is below = (if is then Err (DoubleEntry below) else Ok (step ∷ keys)) >>= λ now. Ok below

  ok_at : (is : Bool) (place below : List Step) → is_new is place ≡ Ok below → goes_on is place ≡ on below (step ∷ seen)
  ok_at true place below e = cc
  ok_at false place below e = let same : place ≡ below = cc in ap (λ p. on p (step ∷ seen)) same

  err_at : (is : Bool) (place : List Step) (fault : DataFault) → is_new is place ≡ Err fault → goes_on is place ≡ Err fault
  err_at true place fault e = cc
  err_at false place fault e = cc

  pub entered-ok : list_any (same_step step) keys ≡ list_any (same_step step) seen → (place : Result (List Step) DataFault) (below : List Step) → new_place keys step place ≡ Ok below
      → (place >>= λ b. (one_more seen step b >>= λ now. on b now)) ≡ on below (step ∷ seen)
  entered-ok same (Ok place) below e = rw (sym same) (ok_at (list_any (same_step step) keys) place below e)
  entered-ok same (Err fault) below e = cc

  pub entered-err : list_any (same_step step) keys ≡ list_any (same_step step) seen → (place : Result (List Step) DataFault) (fault : DataFault) → new_place keys step place ≡ Err fault
      → (place >>= λ b. (one_more seen step b >>= λ now. on b now)) ≡ Err fault
  entered-err same (Ok place) fault e = rw (sym same) (err_at (list_any (same_step step) keys) place fault e)
  entered-err same (Err first) fault e = cc
