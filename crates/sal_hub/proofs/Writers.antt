-- Each submission of a log is of an entry.
use Rattle.std.proofs.Common.{◌≡◌, ℕ, zero, suc, Bool, true, false, List, [], ◌∷◌, ◌++◌, Option, None, Some, refl, ◌∙◌, if◌then◌else◌, nat_eq}
use Rattle.std.specs.Prelude.{slice_get}
use Rattle.std.specs.List.{cons_option, filter_map}
use Rattle.sal_types.specs.declared.row.Row.{Row}
use Rattle.sal_types.specs.declared.value.Store.{Store}
use Rattle.sal_rows.specs.declared.outcome.Outcome.{Outcome}
use Rattle.sal_history.specs.History.{Answered, sents}
use Rattle.sal_history.specs.Submissions.{Sent, done, is_done}
use Rattle.sal_history_laws.specs.Serial.{AreSerial, IsOfBegun, played}
use Rattle.sal_hub.specs.Begins.{AreOfWriters}

-- the element that gave the found one
abbrev Comes : {X Y : Type 0} → (X → Option Y) → List X → Y → Type 0
Comes {X} f xs y = (k : ℕ) × (x : X) × (slice_get xs k ≡ Some x) × (f x ≡ Some y)

found_here : {X Y : Type 0} (f : X → Option Y) (x : X) (xs : List X) (y : Y) (o : Option Y) → f x ≡ o → ((j : ℕ) → slice_get (filter_map f xs) j ≡ Some y → Comes f xs y) → (j : ℕ) → slice_get (cons_option o (filter_map f xs)) j ≡ Some y → Comes f (x ∷ xs) y
found_here f x xs y None is later j at = let was = later j at in (suc was.0, was.1, was.2, was.3)
found_here f x xs y (Some z) is later zero at = (0, x, refl, is ∙ at)
found_here f x xs y (Some z) is later (suc j) at = let was = later j at in (suc was.0, was.1, was.2, was.3)

found_from : {X Y : Type 0} (f : X → Option Y) (xs : List X) (i : ℕ) (y : Y) → slice_get (filter_map f xs) i ≡ Some y → Comes f xs y
found_from f [] i y e = cc
found_from f (x ∷ xs) i y e = found_here f x xs y (f x) refl (λ j at. found_from f xs j y at) i e

-- so its transaction began
pub sents_begun : (answered : List Answered) → AreOfWriters answered → (i : ℕ) (t : Sent) → slice_get (sents answered) i ≡ Some t → IsOfBegun answered t
sents_begun answered are i t at =
    let from = found_from (λ (a : Answered). a.sent) answered i t at in
    let writer = are from.0 from.1 t from.2 from.3 in
    (writer.place, writer.began)

-- a property of all submissions is one of the done ones
serial_here : (Holds : Sent → Type 0) (s : Sent) (rest : List Sent) (trees : Store → List Row) (own was_done : Bool) → Holds s → ((later : Store → List Row) → AreSerial Holds later rest → AreSerial (λ t. Unit {0}) later rest)
    → AreSerial Holds trees ((if own then (if was_done then s ∷ [] else []) else []) ++ rest) → AreSerial (λ t. Unit {0}) trees ((if own then (if was_done then s ∷ [] else []) else []) ++ rest)
serial_here Holds s rest trees true true holds next is = (λ u. is.0 holds, next (played trees s) is.1)
serial_here Holds s rest trees true false holds next is = next trees is
serial_here Holds s rest trees false was_done holds next is = next trees is

pub all_serial : (Holds : Sent → Type 0) (domain : ℕ) (ss : List Sent) (os : List Outcome) → ((i : ℕ) (t : Sent) → slice_get ss i ≡ Some t → Holds t) → (trees : Store → List Row) → AreSerial Holds trees (done domain ss os) → AreSerial (λ t. Unit {0}) trees (done domain ss os)
all_serial Holds domain [] os each trees serial = tt
all_serial Holds domain (s ∷ ss) [] each trees serial = tt
all_serial Holds domain (s ∷ ss) (o ∷ os) each trees serial =
    serial_here Holds s (done domain ss os) trees (nat_eq s.base.domain domain) (is_done o) (each 0 s refl) (λ later is. all_serial Holds domain ss os (λ i t at. each (suc i) t at) later is) serial
