-- Places in a stream.
use Rattle.std.proofs.Common.{◌≡◌, ℕ, ◌+◌, ◌≤◌, ◌<◌, ◌⊎◌, inl, inr, ◌==◌, Bool, true, false, List, [], ◌∷◌, ◌++◌, length, Option, Some, None, refl, ap, sym, subst, ◌∙◌, length-append, arith, if◌then◌else◌}
use Rattle.std.specs.Prelude.{is_some}
use Rattle.std.specs.Option.{option_map_or}
use Rattle.sal_types.specs.declared.row.Row.{Row}
use Rattle.sal_rows.specs.Patch.{patched}
use Rattle.sal_schema.specs.declared.table.SchemaTable.{SchemaTable}
use Rattle.sal_follow.specs.declared.fault.FollowFault.{FollowFault}
use Rattle.sal_follow.specs.declared.fault.FollowFault.TheVariants.{BadFrame, Gap}
use Rattle.sal_follow.specs.declared.frame.Frame.{Frame}
use Rattle.sal_follow.specs.declared.front.Front.{Front}
use Rattle.sal_follow.specs.declared.front.Front.TheVariants.{Part, Broken, Whole}
use Rattle.sal_follow.specs.Frames.{frame_in}
use Rattle.sal_follow.specs.Front.{front, text_in, size_of}
use Rattle.sal_follow.specs.Laws.{IsCounted}
use Rattle.sal_follow.specs.Stream.{Held, fresh_at, failed, next, are_trees, moved, if_trees, if_next, taken, judged, with_byte, after_byte, followed}
use Rattle.sal_follow.proofs.Feeding.{stays-faulty}
use Rattle.sal_follow.proofs.Fronts.{whole-there, at_last_byte}

none_some : (x : FollowFault) → Some x ≡ None → ⊥
none_some x e = cc

-- a frame of this size was taken, or there is a fault, at the same place
abbrev Took : Held → ℕ → Held → Type 0
Took h size s = (s.rest ≡ []) × (((s.at ≡ h.at) × (s.fault ≡ None → ⊥)) ⊎ (s.at ≡ h.at + size))

module _ (table : SchemaTable) where
  took_failed : (h : Held) (size : ℕ) (fault : FollowFault) → Took h size (failed h fault)
  took_failed h size fault = (refl, inl (refl, none_some fault))

  took_frame : (h : Held) (size : ℕ) (o : Option Frame) → Took h size (option_map_or (if_next table h size) o (failed h (BadFrame h.at)))
  took_frame h size None = took_failed h size (BadFrame h.at)
  took_frame h size (Some f) = by_number (f.commit == next h)
    where
      config : List Row
      config = patched h.config f.config

      oper : List Row
      oper = patched h.oper f.oper

      by_trees : (b : Bool) → Took h size (if b then moved h size f.commit config oper else failed h (BadFrame h.at))
      by_trees true = (refl, inr refl)
      by_trees false = took_failed h size (BadFrame h.at)

      by_number : (b : Bool) → Took h size (if b then if_trees table h size f.commit config oper else failed h (Gap (next h) f.commit))
      by_number true = by_trees (are_trees table config oper)
      by_number false = took_failed h size (Gap (next h) f.commit)

  -- ---- no more bytes than were fed

  one_byte : (h : Held) (b : ℕ) → (after_byte table h b).at + length (after_byte table h b).rest ≤ h.at + length h.rest + 1
  one_byte h b = by_fault (is_some h.fault)
    where
      longer : length (h.rest ++ b ∷ []) ≡ length h.rest + 1
      longer = length-append h.rest (b ∷ [])

      by_front : (f : Front) → front (h.rest ++ b ∷ []) ≡ f → (judged table (with_byte h b) f).at + length (judged table (with_byte h b) f).rest ≤ h.at + length h.rest + 1
      by_front Part e = omega (arith, longer)
      by_front Broken e = omega arith
      by_front (Whole n) e =
          let there : n + 9 < length (h.rest ++ b ∷ []) = (whole-there (h.rest ++ b ∷ []) n e).0 in
          let s : Held = taken table (with_byte h b) (size_of n) (text_in (h.rest ++ b ∷ []) n) in
          let took : Took (with_byte h b) (size_of n) s = took_frame (with_byte h b) (size_of n) (frame_in table (text_in (h.rest ++ b ∷ []) n)) in
          let none : length s.rest ≡ 0 = ap length took.0 in
          elim took.1 [
            | inl same ↦ let at : s.at ≡ h.at = same.0 in omega (arith, longer)
            | inr more ↦ let at : s.at ≡ h.at + (n + 10) = more in omega (arith, longer)
          ]

      by_fault : (f : Bool) → (if f then h else judged table (with_byte h b) (front (h.rest ++ b ∷ []))).at + length (if f then h else judged table (with_byte h b) (front (h.rest ++ b ∷ []))).rest ≤ h.at + length h.rest + 1
      by_fault true = omega arith
      by_fault false = by_front (front (h.rest ++ b ∷ [])) refl

  no_more : (h : Held) (bytes : List ℕ) → (followed table h bytes).at + length (followed table h bytes).rest ≤ h.at + length h.rest + length bytes
  unfolding followed
  no_more h [] = omega arith
  no_more h (b ∷ bytes) =
      let one : (after_byte table h b).at + length (after_byte table h b).rest ≤ h.at + length h.rest + 1 = one_byte h b in
      let rest : (followed table (after_byte table h b) bytes).at + length (followed table (after_byte table h b) bytes).rest ≤ (after_byte table h b).at + length (after_byte table h b).rest + length bytes = no_more (after_byte table h b) bytes in
      omega arith

  -- ---- exactly as many, without a fault

  -- the bytes before, and these
  abbrev Counts : Held → ℕ → Held → Type 0
  Counts s more h = s.at + length s.rest ≡ h.at + length h.rest + more

  stopped : (s : Held) (bytes : List ℕ) → (s.fault ≡ None → ⊥) → (followed table s bytes).fault ≡ None → ⊥
  stopped s bytes faulty ends = by s.fault refl
    where
      by : (o : Option FollowFault) → s.fault ≡ o → ⊥
      by None e = faulty e
      by (Some x) e = faulty (sym (ap (λ (t : Held). t.fault) (stays-faulty table s x bytes e)) ∙ ends)

  going_on : (s : Held) (bytes : List ℕ) → (followed table s bytes).fault ≡ None → s.fault ≡ None
  going_on s bytes ends = by s.fault refl
    where
      by : (o : Option FollowFault) → s.fault ≡ o → s.fault ≡ None
      by None e = e
      by (Some x) e = absurd (stopped s bytes (λ none. none_some x (sym e ∙ none)) ends)

  module _ (h : Held) (b : ℕ) (bytes : List ℕ) (part : front h.rest ≡ Part) (going : h.fault ≡ None)
      (later : (s : Held) → s.fault ≡ None → front s.rest ≡ Part → (followed table s bytes).fault ≡ None → Counts (followed table s bytes) (length bytes) s) where
    longer : length (h.rest ++ b ∷ []) ≡ length h.rest + 1
    longer = length-append h.rest (b ∷ [])

    counted_by : (f : Front) → front (h.rest ++ b ∷ []) ≡ f → (followed table (judged table (with_byte h b) f) bytes).fault ≡ None
        → Counts (followed table (judged table (with_byte h b) f) bytes) (length (b ∷ bytes)) h
    counted_by Part e ends = let rest = later (with_byte h b) going e ends in omega (arith, longer, rest)
    counted_by Broken e ends = absurd (stopped (failed (with_byte h b) (BadFrame h.at)) bytes (none_some (BadFrame h.at)) ends)
    counted_by (Whole n) e ends =
        let text : List ℕ = text_in (h.rest ++ b ∷ []) n in
        let s : Held = taken table (with_byte h b) (size_of n) text in
        let took : Took (with_byte h b) (size_of n) s = took_frame (with_byte h b) (size_of n) (frame_in table text) in
        let size : length (h.rest ++ b ∷ []) ≡ size_of n = at_last_byte h.rest b n part e in
        elim took.1 [
          | inl same ↦ absurd (stopped s bytes same.1 ends)
          | inr more ↦
              let at : s.at ≡ h.at + (n + 10) = more in
              let none : length s.rest ≡ 0 = ap length took.0 in
              let rest = later s (going_on s bytes ends) (ap front took.0) ends in
              omega (arith, longer, size, rest)
        ]

  counted : (bytes : List ℕ) (h : Held) → h.fault ≡ None → front h.rest ≡ Part → (followed table h bytes).fault ≡ None → Counts (followed table h bytes) (length bytes) h
  unfolding followed
  counted [] h going part ends = omega arith
  counted (b ∷ bytes) h going part ends =
      subst (λ (s : Held). (followed table s bytes).fault ≡ None → Counts (followed table s bytes) (length (b ∷ bytes)) h)
      (sym (ap (λ (o : Option FollowFault). if is_some o then h else judged table (with_byte h b) (front (h.rest ++ b ∷ []))) going))
      (counted_by h b bytes part going (counted bytes) (front (h.rest ++ b ∷ [])) refl) ends

  -- ---- the number of the first frame

  same_first : (h : Held) (f : Front) → (judged table h f).first ≡ h.first
  same_first h Part = refl
  same_first h Broken = refl
  same_first h (Whole n) = by (frame_in table (text_in h.rest n))
    where
      by_trees : (b : Bool) (k : ℕ) (config oper : List Row) → (if b then moved h (size_of n) k config oper else failed h (BadFrame h.at)).first ≡ h.first
      by_trees true k config oper = refl
      by_trees false k config oper = refl

      by_number : (b : Bool) (f : Frame) → (if b then if_trees table h (size_of n) f.commit (patched h.config f.config) (patched h.oper f.oper) else failed h (Gap (next h) f.commit)).first ≡ h.first
      by_number true f = by_trees (are_trees table (patched h.config f.config) (patched h.oper f.oper)) f.commit (patched h.config f.config) (patched h.oper f.oper)
      by_number false f = refl

      by : (o : Option Frame) → (option_map_or (if_next table h (size_of n)) o (failed h (BadFrame h.at))).first ≡ h.first
      by None = refl
      by (Some f) = by_number (f.commit == next h) f

  byte_first : (h : Held) (b : ℕ) → (after_byte table h b).first ≡ h.first
  byte_first h b = by (is_some h.fault)
    where
      by : (f : Bool) → (if f then h else judged table (with_byte h b) (front (h.rest ++ b ∷ []))).first ≡ h.first
      by true = refl
      by false = same_first (with_byte h b) (front (h.rest ++ b ∷ []))

  pub stays_first : (h : Held) (bytes : List ℕ) → (followed table h bytes).first ≡ h.first
  unfolding followed
  stays_first h [] = refl
  stays_first h (b ∷ bytes) = stays_first (after_byte table h b) bytes ∙ byte_first h b

  pub places : (first : ℕ) (bytes : List ℕ) → IsCounted first bytes (followed table (fresh_at first) bytes)
  places first bytes = record {
    first = stays_first (fresh_at first) bytes;
    most = omega (arith, no_more (fresh_at first) bytes);
    exact = λ ends. omega (arith, counted bytes (fresh_at first) refl refl ends);
  }
