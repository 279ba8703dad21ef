-- One frame more.
use Rattle.std.proofs.Common.{◌≡◌, ℕ, zero, suc, ◌+◌, ◌-◌, ◌<◌, ◌≤◌, List, [], ◌∷◌, take, drop, length, Option, Some, None, refl, ap, sym, ◌∙◌, arith, length-drop}
use Rattle.std.specs.Prelude.{true, false, is_some}
use Rattle.std.proofs.lemmas.List.{drop-drop, length-take-le, drop_all}
use Rattle.sal_schema.specs.declared.table.SchemaTable.{SchemaTable}
use Rattle.sal_follow.specs.declared.fault.FollowFault.{FollowFault}
use Rattle.sal_follow.specs.declared.fault.FollowFault.TheVariants.{BadFrame}
use Rattle.sal_follow.specs.declared.front.Front.TheVariants.{Part, Broken, Whole}
use Rattle.sal_follow.specs.declared.state.State.{State}
use Rattle.sal_follow.specs.Front.{front, text_in, size_of}
use Rattle.sal_follow.specs.States.{held, IsStepped, IsWithin}
use Rattle.sal_follow.specs.Stream.{failed, taken, followed}
use Rattle.sal_follow.proofs.Feeding.{stays-faulty}
use Rattle.sal_follow.proofs.Fronts.{whole-there}
use Rattle.sal_follow.proofs.Streams.{part-held, broken-held, whole-taken}

-- the text of a frame that is there has its length
pub text-length : (bytes : List ℕ) (n : ℕ) → front bytes ≡ Whole n → length (text_in bytes n) ≡ n
text-length bytes n whole = let there : n + 9 < length bytes = (whole-there bytes n whole).0 in length-take-le n (drop 9 bytes) (omega (arith, length-drop 9 bytes))

module _ (table : SchemaTable) (state next : State) (bytes text : List ℕ) (used n : ℕ) where
  -- the bytes from the first one that was not used, and those after one frame more
  pub one_more : state.fault ≡ None → front (drop used bytes) ≡ Whole n → text ≡ text_in (drop used bytes) n → held next [] ≡ taken table (held state []) (size_of (length text)) text
      → followed table (held next []) (drop (used + (n + 10)) bytes) ≡ followed table (held state []) (drop used bytes)
  one_more going whole is took =
      let rest : List ℕ = drop used bytes in
      let len : length text ≡ n = ap length is ∙ text-length rest n whole in
      sym (whole-taken table (held state []) rest n going refl whole
      ∙ (λ i. followed table (taken table (held state []) (size_of (sym len i)) (sym is i)) (drop-drop (size_of n) used bytes i))
      ∙ ap (λ h. followed table h (drop (used + (n + 10)) bytes)) (sym took))

some_there : (o : Option FollowFault) → is_some o ≡ true → (x : FollowFault) × (o ≡ Some x)
some_there None e = cc
some_there (Some x) e = (x, refl)

pub none_there : (o : Option FollowFault) → is_some o ≡ false → o ≡ None
none_there None e = refl
none_there (Some x) e = cc

take-whole : (xs : List ℕ) (n : ℕ) → length xs ≤ n → take n xs ≡ xs
take-whole [] zero e = refl
take-whole [] (suc n) e = refl
take-whole (x ∷ xs) zero e = absurd (omega arith)
take-whole (x ∷ xs) (suc n) e = ap (λ t. x ∷ t) (take-whole xs n (omega arith))

-- a slice to the end
pub to_end : (bytes : List ℕ) (used : ℕ) → take (length bytes - used) (drop used bytes) ≡ drop used bytes
to_end bytes used = take-whole (drop used bytes) (length bytes - used) (omega (arith, length-drop used bytes))

module _ (table : SchemaTable) (start state : State) (bytes : List ℕ) (used : ℕ) (kept : followed table (held state []) (drop used bytes) ≡ followed table (held start []) bytes) (going : state.fault ≡ None) where
  pub ends-part : front (drop used bytes) ≡ Part → used ≤ length bytes → IsWithin state → IsStepped table start bytes state used
  ends-part part inside within = record { state = sym (part-held table (held state []) going (drop used bytes) part) ∙ kept; part = part; inside = inside; within = within }

  -- all bytes are after a fault
  pub ends-broken : (s : State) → front (drop used bytes) ≡ Broken → held s [] ≡ failed (held state []) (BadFrame state.at) → IsWithin s → IsStepped table start bytes s (length bytes)
  ends-broken s broken is within =
      let none : drop (length bytes) bytes ≡ [] = drop_all (length bytes) bytes (omega arith) in record {
        state = ap (held s) none ∙ is ∙ sym (broken-held table (held state []) going (drop used bytes) broken) ∙ kept;
        part = ap front none;
        inside = omega arith;
        within = within;
      }

  pub ends-all : length bytes ≤ used → used ≤ length bytes → IsWithin state → IsStepped table start bytes state used
  ends-all all inside within = ends-part (ap front (drop_all used bytes all)) inside within

  -- a fault of the frame at the front
  pub ends-fault : (s : State) (n : ℕ) (text : List ℕ) → front (drop used bytes) ≡ Whole n → text ≡ text_in (drop used bytes) n → held s [] ≡ taken table (held state []) (size_of (length text)) text → is_some s.fault ≡ true → IsWithin s
      → IsStepped table start bytes s (length bytes)
  ends-fault s n text whole is took faulty within =
      let none : drop (length bytes) bytes ≡ [] = drop_all (length bytes) bytes (omega arith) in
      let (fault, e) = some_there s.fault faulty in record {
        state = ap (held s) none ∙ sym (stays-faulty table (held s []) fault (drop (used + (n + 10)) bytes) e) ∙ one_more table state s bytes text used n going whole is took ∙ kept;
        part = ap front none;
        inside = omega arith;
        within = within;
      }
