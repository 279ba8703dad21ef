-- The effect of a piece of bytes.
use Rattle.std.proofs.Common.{◌≡◌, inl, ℕ, List, [], ◌∷◌, ◌++◌, take, drop, length, Option, Some, None, Ok, Err, if◌then◌else◌, refl, ap, sym, ◌∙◌}
use Rattle.std.specs.Prelude.{is_some}
use Rattle.std.specs.Option.{option_map_or}
use Rattle.std.proofs.lemmas.List.Sums.{fold-append}
use Rattle.sal_schema.specs.declared.table.SchemaTable.{SchemaTable}
use Rattle.sal_follow.specs.declared.fault.FollowFault.{FollowFault}
use Rattle.sal_follow.specs.declared.front.Front.TheVariants.{Part}
use Rattle.sal_follow.specs.declared.state.State.{State}
use Rattle.sal_follow.specs.Front.{front}
use Rattle.sal_follow.specs.States.{held, Following, Feeds, IsWithin, IsStepped, IsGained}
use Rattle.sal_follow.specs.Stream.{Held, judged, with_byte, after_byte, followed, answer}
use Rattle.sal_follow.proofs.Streams.{part-held}

-- a fault stays
pub stays-faulty : (table : SchemaTable) (h : Held) (fault : FollowFault) (bytes : List ℕ) → h.fault ≡ Some fault → followed table h bytes ≡ h
unfolding followed
stays-faulty table h fault [] e = refl
stays-faulty table h fault (b ∷ bytes) e =
    ap (λ s. followed table s bytes) (ap (λ (o : Option FollowFault). if is_some o then h else judged table (with_byte h b) (front (h.rest ++ b ∷ []))) e) ∙ stays-faulty table h fault bytes e

pub fed-failed : (f : Following) (fault : FollowFault) (piece : List ℕ) → f.held.fault ≡ Some fault → Feeds piece f f (Err fault)
fed-failed f fault piece e =
    inl ((λ i. record { schema = f.schema; held = sym (stays-faulty f.schema f.held fault piece e) i }), sym (ap (λ (o : Option FollowFault). option_map_or (λ fault. Err fault) o (Ok f.held.version)) e))

-- the bytes before, and then the piece
pub behind-part : (table : SchemaTable) (start : State) (before piece : List ℕ) → start.fault ≡ None → front before ≡ Part
    → followed table (held start []) (before ++ piece) ≡ followed table (held start before) piece
unfolding followed
behind-part table start before piece going part =
    fold-append (after_byte table) (held start []) before piece ∙ ap (λ h. followed table h piece) (part-held table (held start before) going before part)

pub gained-by : (table : SchemaTable) (start : State) (before piece : List ℕ) (s : State) (used : ℕ) (rest : List ℕ) → start.fault ≡ None → front before ≡ Part
    → IsStepped table start (before ++ piece) s used → rest ≡ drop used (before ++ piece) → IsGained table start before piece s rest
gained-by table start before piece s used rest going part it same = record {
  state = ap (held s) same ∙ it.state ∙ behind-part table start before piece going part;
  part = ap front same ∙ it.part;
  within = it.within;
}

-- nothing was judged
pub gained-none : (table : SchemaTable) (start : State) (before piece rest : List ℕ) → start.fault ≡ None → front before ≡ Part → front rest ≡ Part → IsWithin start → rest ≡ before ++ piece → IsGained table start before piece start rest
gained-none table start before piece rest going part still within same = record {
  state =
      ap (held start) same ∙ sym (part-held table (held start []) going (before ++ piece) (ap front (sym same) ∙ still)) ∙ behind-part table start before piece going part;
  part = still;
  within = within;
}

-- a piece was taken
pub fed-gained : (f : Following) (start : State) (before piece : List ℕ) (s : State) (rest : List ℕ) (new : Following) → f ≡ record { schema = f.schema; held = held start before }
    → new ≡ record { schema = f.schema; held = held s rest } → IsGained f.schema start before piece s rest → Feeds piece f new (answer (held s []))
fed-gained f start before piece s rest new was is it =
    let now : held s rest ≡ followed f.schema f.held piece = it.state ∙ ap (λ (g : Following). followed f.schema g.held piece) (sym was) in
    inl (is ∙ (λ i. record { schema = f.schema; held = now i }), sym (ap (λ (g : Following). answer g.held) is))

pub cut-back : (x y z : List ℕ) (n : ℕ) → n ≡ length x → z ≡ take n (x ++ y) → z ≡ x
cut-back [] y z n e is = is ∙ ap (λ k. take k y) e
cut-back (c ∷ x) y z n e is = is ∙ ap (λ k. take k (c ∷ (x ++ y))) e ∙ ap (λ t. c ∷ t) (cut-back x y (take (length x) (x ++ y)) (length x) refl refl)
