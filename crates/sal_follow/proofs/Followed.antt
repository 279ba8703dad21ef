-- An exported stream is followed.
use Rattle.std.proofs.Common.{◌≡◌, ◌⊎◌, inl, inr, ℕ, suc, ◌+◌, ◌<◌, ◌≤◌, ◌&&◌, Bool, true, false, not, List, [], ◌∷◌, ◌++◌, length, drop, Option, Some, None, All, refl, ap, sym, subst, ◌∙◌, length-append, arith, if◌then◌else◌}
use Rattle.std.specs.Prelude.{option_and_then, nat_le, slice_index_or, Ok}
use Rattle.std.specs.List.{slice_get}
use Rattle.std.specs.Option.{option_map_or}
use Rattle.std.specs.Str.{chars}
use Rattle.std.proofs.lemmas.Bool.{cases_lt, eq-eqb}
use Rattle.std.proofs.lemmas.Bool.Decides.{nat_tests}
use Rattle.std.proofs.lemmas.Grind.{flat_map-append}
use Rattle.std.proofs.lemmas.List.{drop_more}
use Rattle.std.proofs.lemmas.List.Elements.{All-head, All-tail}
use Rattle.serde_json.specs.Find.{as_object}
use Rattle.sal_schema.specs.declared.table.SchemaTable.{SchemaTable}
use Rattle.sal_rows.specs.Patch.{patched}
use Rattle.sal_follow.specs.declared.fault.FollowFault.TheVariants.{BadFrame, Gap}
use Rattle.sal_follow.specs.declared.frame.Frame.{Frame}
use Rattle.sal_follow.specs.declared.front.Front.{Front}
use Rattle.sal_follow.specs.declared.front.Front.TheVariants.{Part, Broken, Whole}
use Rattle.sal_follow.specs.Framed.{Trees, nothing, frame_of, frames_from, frames_on, snapshot, stream_of, frame_bytes, bytes_of, streamed, too_long, IsText, AreTexts, ExportsOn, IsSnapshot}
use Rattle.sal_follow.specs.Frames.{both, frame, members_in, frame_in}
use Rattle.sal_follow.specs.Front.{front, framed, size_of}
use Rattle.sal_follow.specs.Head.{max_text, head}
use Rattle.sal_follow.specs.Laws.{IsReadableTree, AreFollowed, trees_held, AreTreesAt, HoldsOneOf}
use Rattle.sal_follow.specs.Stream.{Held, fresh_at, failed, next, are_trees, moved, if_trees, if_next, taken, followed}
use Rattle.sal_follow.specs.Written.{frame_json, frame_text}
use Rattle.sal_follow.proofs.Fronts.{stays, whole-there, frame-read}
use Rattle.sal_follow.proofs.JsonData.{data_in-text}
use Rattle.sal_follow.proofs.ReadableRows.{store_read, patches_lead}
use Rattle.sal_follow.proofs.Streams.{part-held, whole-taken}

-- ---- the parts of bytes

-- bytes that begin as others do, and have all of these
split : (a b x y : List ℕ) → x ++ y ≡ a ++ b → length a ≤ length x → (x ≡ a ++ drop (length a) x) × (drop (length a) x ++ y ≡ b)
split [] b x y e long = (refl, e)
split (c ∷ a) b [] y e long = absurd (omega arith)
split (c ∷ a) b (d ∷ x) y e long =
    let same : d ≡ c = ap first_of e in
    let rest = split a b x y (ap rest_of e) (omega arith) in
    ((λ i. same i ∷ rest.0 i), rest.1)
  where
    first_of : List ℕ → ℕ
    first_of [] = d
    first_of (z ∷ zs) = z

    rest_of : List ℕ → List ℕ
    rest_of [] = []
    rest_of (z ∷ zs) = zs

-- with no bytes all stays
no_bytes : (table : SchemaTable) (h : Held) → followed table h [] ≡ h
unfolding followed
no_bytes table h = refl

no_front : (x y : List ℕ) → x ++ y ≡ [] → x ≡ []
no_front [] y e = refl
no_front (b ∷ x) y e = absurd (some_none (x ++ y) e)
  where
    some_none : (l : List ℕ) → b ∷ l ≡ [] → ⊥
    some_none l e = cc

head_size : (n : ℕ) → length (head n) ≡ 9
head_size n = refl

frame_size : (text : List ℕ) → length (framed text) ≡ size_of (length text)
frame_size text = omega (arith, length-append (head (length text)) (text ++ 10 ∷ []), length-append text (10 ∷ []), head_size (length text))

no_broken : (n : ℕ) → Broken ≡ Whole n → ⊥
no_broken n e = cc

whole_size : (m n : ℕ) → Whole m ≡ Whole n → m ≡ n
whole_size m n e = cc

-- an incomplete frame is not judged
not_all : (text rest bytes more : List ℕ) → length text ≤ max_text → bytes ++ more ≡ framed text ++ rest → length bytes < size_of (length text) → front bytes ≡ Part
not_all text rest bytes more small same few = by (front bytes) refl
  where
    judged : (f : Front) → front bytes ≡ f → (f ≡ Part → ⊥) → f ≡ Whole (length text)
    judged f e some = sym e ∙ sym (stays bytes more (λ part. some (sym e ∙ part))) ∙ ap front same ∙ (frame-read text rest small).0

    by : (f : Front) → front bytes ≡ f → front bytes ≡ Part
    by Part e = e
    by Broken e = absurd (no_broken (length text) (judged Broken e (λ part. cc)))
    by (Whole m) e =
        let n : m ≡ length text = whole_size m (length text) (judged (Whole m) e (λ part. cc)) in
        let there : m + 9 < length bytes = (whole-there bytes m e).0 in
        absurd (omega arith)

-- ---- one frame

module _ (table : SchemaTable) where
  -- a frame between readable trees reads as it is written
  frame_read : (k : ℕ) (before after : Trees) → IsReadableTree table before.config → IsReadableTree table before.oper → AreFollowed table after → IsText table (frame_of k before after) → frame_in table (frame_text table (frame_of k before after)) ≡ Some (frame_of k before after)
  unfolding chars
  frame_read k before after c o it text =
      let f : Frame = frame_of k before after in
      let t : List ℕ = frame_text table f in
      ap (λ d. option_and_then (members_in table) (option_and_then as_object d)) (data_in-text t t (Some (frame_json table f)) refl text.0 text.1)
      ∙ (λ i. both (frame k) (store_read table before.config after.config c it.config i) (store_read table before.oper after.oper o it.oper i))

  are_all : (t : Trees) → AreFollowed table t → are_trees table t.config t.oper ≡ true
  are_all t it = λ i. (it.config.closed i && not (it.stateless i)) && it.oper.closed i

  -- a follower of a readable tree takes the next one
  frame_taken : (h : Held) (k size : ℕ) (before after : Trees) → next h ≡ k → trees_held h ≡ before → IsReadableTree table before.config → IsReadableTree table before.oper → AreFollowed table after → IsText table (frame_of k before after)
      → taken table h size (frame_text table (frame_of k before after)) ≡ moved h size k after.config after.oper
  frame_taken h k size before after number holds c o it text =
      let f : Frame = frame_of k before after in
      ap (λ read. option_map_or (if_next table h size) read (failed h (BadFrame h.at))) (frame_read k before after c o it text)
      ∙ ap (λ b. if b then if_trees table h size k (patched h.config f.config) (patched h.oper f.oper) else failed h (Gap (next h) k)) (eq-eqb k (next h) (sym number))
      ∙ (λ i. if_trees table h size k (patched (holds i).config f.config) (patched (holds i).oper f.oper))
      ∙ (λ i. if_trees table h size k (patches_lead table before.config after.config c it.config i) (patches_lead table before.oper after.oper o it.oper i))
      ∙ ap (λ b. if b then moved h size k after.config after.oper else failed h (BadFrame h.at)) (are_all after it)

  -- ---- all frames

  -- A follower's state from commit k on: the trees before it, with the version v, or those of one of these commits.
  abbrev Reached : ℕ → Option ℕ → Trees → List Trees → Held → Type 0
  Reached k v before trees h = (h.fault ≡ None) × (((h.version ≡ v) × (trees_held h ≡ before)) ⊎ ((j : ℕ) × (h.version ≡ Some (k + j)) × (slice_get trees j ≡ Some (trees_held h))))

  -- one commit more
  later : (k : ℕ) (v : Option ℕ) (before t : Trees) (trees : List Trees) (h : Held) → Reached (k + 1) (Some k) t trees h → Reached k v before (t ∷ trees) h
  later k v before t trees h (fault, inl (version, holds)) = (fault, inr (0, version ∙ ap Some (let e : k ≡ k + 0 = omega arith in e), ap Some (sym holds)))
  later k v before t trees h (fault, inr (j, version, holds)) = (fault, inr (suc j, version ∙ ap Some (let e : (k + 1) + j ≡ k + suc j = omega arith in e), holds))

  -- the first text is not too long, and neither are the others
  short_parts : (f : Frame) (fs : List Frame) → too_long table (f ∷ fs) ≡ None → (length (frame_text table f) ≤ max_text) × (too_long table fs ≡ None)
  short_parts f fs e = by (nat_le (length (frame_text table f)) max_text) refl e
    where
      none_some : Some f.commit ≡ None → ⊥
      none_some e = cc

      by : (b : Bool) → nat_le (length (frame_text table f)) max_text ≡ b → (if b then too_long table fs else Some f.commit) ≡ None → (length (frame_text table f) ≤ max_text) × (too_long table fs ≡ None)
      by true small e = (grind (arith, nat_tests), e)
      by false small e = absurd (none_some e)

  -- a text that is not too long says nothing
  long_first : (f : Frame) (fs : List Frame) → length (frame_text table f) ≤ max_text → too_long table (f ∷ fs) ≡ too_long table fs
  long_first f fs small = let e : nat_le (length (frame_text table f)) max_text ≡ true = grind (arith, nat_tests) in ap (λ b. if b then too_long table fs else Some f.commit) e

  module _ (h : Held) (k : ℕ) (before t : Trees) (rest bytes : List ℕ) (going : h.fault ≡ None) (none : h.rest ≡ []) where
    -- the bytes of a frame, and then others
    frame_first : next h ≡ k → trees_held h ≡ before → IsReadableTree table before.config → IsReadableTree table before.oper → AreFollowed table t → IsText table (frame_of k before t) → length (frame_text table (frame_of k before t)) ≤ max_text
        → bytes ≡ frame_bytes table (frame_of k before t) ++ rest → followed table h bytes ≡ followed table (moved h (size_of (length (frame_text table (frame_of k before t)))) k t.config t.oper) rest
    frame_first number holds c o it is small same =
        let text : List ℕ = frame_text table (frame_of k before t) in
        let read = frame-read text rest small in
        ap (followed table h) same ∙ whole-taken table h (framed text ++ rest) (length text) going none read.0
        ∙ (λ i. followed table (taken table h (size_of (length text)) (read.1 i)) (read.2 i))
        ∙ ap (λ s. followed table s rest) (frame_taken h k (size_of (length text)) before t number holds c o it is)

  along : (trees : List Trees) (h : Held) (k : ℕ) (before : Trees) → h.fault ≡ None → h.rest ≡ [] → next h ≡ k → trees_held h ≡ before → IsReadableTree table before.config → IsReadableTree table before.oper
      → All (AreFollowed table) trees → AreTexts table (frames_from k before trees) → too_long table (frames_from k before trees) ≡ None
      → (bytes more : List ℕ) → bytes ++ more ≡ bytes_of table (frames_from k before trees) → Reached k h.version before trees (followed table h bytes)
  along [] h k before going none number holds c o all texts short bytes more same =
      let empty : bytes ≡ [] = no_front bytes more same in
      subst (Reached k h.version before []) (sym (ap (followed table h) empty ∙ no_bytes table h)) (going, inl (refl, holds))
  along (t ∷ trees) h k before going none number holds c o all texts short bytes more same =
      let f : Frame = frame_of k before t in
      let text : List ℕ = frame_text table f in
      let rest : List ℕ = bytes_of table (frames_from (k + 1) t trees) in
      let small = short_parts f (frames_from (k + 1) t trees) short in
      elim (cases_lt (length bytes) (size_of (length text))) [
        | inl few ↦
            let held : followed table h bytes ≡ record h { rest = bytes } = ap (λ s. followed table s bytes) (λ i. record h { rest = none i }) ∙ part-held table h going bytes (not_all text rest bytes more small.0 same few) in
            subst (Reached k h.version before (t ∷ trees)) (sym held) (going, inl (refl, holds))
        | inr long ↦
            let it : AreFollowed table t = All-head (AreFollowed table) t trees all in
            let (begins, back) = split (framed text) rest bytes more same (omega (arith, frame_size text)) in
            let behind : List ℕ = drop (length (framed text)) bytes in
            let now : Held = moved h (size_of (length text)) k t.config t.oper in
            subst (Reached k h.version before (t ∷ trees)) (sym (frame_first h k before t behind bytes going none number holds c o it texts.0 small.0 begins))
            (later k h.version before t trees (followed table now behind)
            (along trees now (k + 1) t refl refl refl refl it.config it.oper (All-tail (AreFollowed table) t trees all) texts.1 small.1 behind more back))
      ]

  none_readable : IsReadableTree table []
  none_readable = record { ascending = refl; closed = refl; readable = λ k d inside. absurd (omega arith) }

  pub streams_followed : (first : ℕ) (trees : List Trees) → All (AreFollowed table) trees → AreTexts table (stream_of first trees) → too_long table (stream_of first trees) ≡ None → (bytes more : List ℕ) → bytes ++ more ≡ streamed table first trees
      → HoldsOneOf first trees (followed table (fresh_at first) bytes)
  streams_followed first trees all texts short bytes more same =
      at_last (followed table (fresh_at first) bytes) (along trees (fresh_at first) first nothing refl refl refl refl none_readable none_readable all texts short bytes more same)
    where
      at_last : (h : Held) → Reached first None nothing trees h → HoldsOneOf first trees h
      at_last h (fault, inl (version, holds)) = (fault, subst (λ v. AreTreesAt first trees v (trees_held h)) (sym version) holds)
      at_last h (fault, inr (j, version, holds)) = (fault, subst (λ v. AreTreesAt first trees v (trees_held h)) (sym version) (j, refl, holds))

  -- ---- to the last frame

  to_the_last : (trees : List Trees) (last : Trees) (h : Held) (k : ℕ) → h.fault ≡ None → h.rest ≡ [] → next h ≡ k → IsReadableTree table h.config → IsReadableTree table h.oper
      → All (AreFollowed table) (trees ++ last ∷ []) → AreTexts table (frames_from k (trees_held h) (trees ++ last ∷ [])) → too_long table (frames_from k (trees_held h) (trees ++ last ∷ [])) ≡ None
      → followed table h (bytes_of table (frames_from k (trees_held h) (trees ++ last ∷ [])))
      ≡ record { first = h.first; version = Some (k + length trees); config = last.config; oper = last.oper; at = h.at + length (bytes_of table (frames_from k (trees_held h) (trees ++ last ∷ []))); rest = []; fault = None }
  to_the_last [] last h k going none number c o all texts short =
      let f : Frame = frame_of k (trees_held h) last in
      let text : List ℕ = frame_text table f in
      let size : size_of (length text) ≡ length (framed text ++ []) = omega (arith, frame_size text, length-append (framed text) []) in
      frame_first h k (trees_held h) last [] (framed text ++ []) going none number refl c o (All-head (AreFollowed table) last [] all) texts.0 (short_parts f [] short).0 refl
      ∙ no_bytes table (moved h (size_of (length text)) k last.config last.oper)
      ∙ (λ i. record { first = h.first; version = Some (let e : k ≡ k + 0 = omega arith in e i); config = last.config; oper = last.oper; at = h.at + size i; rest = []; fault = None })
  to_the_last (t ∷ trees) last h k going none number c o all texts short =
      let f : Frame = frame_of k (trees_held h) t in
      let text : List ℕ = frame_text table f in
      let rest : List ℕ = bytes_of table (frames_from (k + 1) t (trees ++ last ∷ [])) in
      let parts = short_parts f (frames_from (k + 1) t (trees ++ last ∷ [])) short in
      let it : AreFollowed table t = All-head (AreFollowed table) t (trees ++ last ∷ []) all in
      let now : Held = moved h (size_of (length text)) k t.config t.oper in
      let size : (h.at + size_of (length text)) + length rest ≡ h.at + length (framed text ++ rest) = omega (arith, frame_size text, length-append (framed text) rest) in
      frame_first h k (trees_held h) t rest (framed text ++ rest) going none number refl c o it texts.0 parts.0 refl
      ∙ to_the_last trees last now (k + 1) refl refl refl it.config it.oper (All-tail (AreFollowed table) t (trees ++ last ∷ []) all) texts.1 parts.1
      ∙ (λ i. record { first = h.first; version = Some (let e : (k + 1) + length trees ≡ k + suc (length trees) = omega arith in e i); config = last.config; oper = last.oper; at = size i; rest = []; fault = None })

  pub holds_the_last : (first : ℕ) (trees : List Trees) (last : Trees) → All (AreFollowed table) (trees ++ last ∷ []) → AreTexts table (stream_of first (trees ++ last ∷ [])) → too_long table (stream_of first (trees ++ last ∷ [])) ≡ None
      → followed table (fresh_at first) (streamed table first (trees ++ last ∷ []))
      ≡ record { first = first; version = Some (first + length trees); config = last.config; oper = last.oper; at = length (streamed table first (trees ++ last ∷ [])); rest = []; fault = None }
  holds_the_last first trees last all texts short =
      to_the_last trees last (fresh_at first) first refl refl refl none_readable none_readable all texts short
      ∙ (λ i. record { first = first; version = Some (first + length trees); config = last.config; oper = last.oper; at = plus_none (length (streamed table first (trees ++ last ∷ []))) i; rest = []; fault = None })
    where
      plus_none : (n : ℕ) → 0 + n ≡ n
      plus_none n = omega arith

  -- ---- a stream that begins with a snapshot

  module _ (trees : List Trees) (k number : ℕ) (inside : k < length trees) where
    abbrev pub one : Trees
    one = slice_index_or trees k nothing

    abbrev pub rest : List Frame
    rest = frames_on trees (k + 1) (number + 1)

    -- its frames
    begun : snapshot number one ∷ rest ≡ stream_of number (drop k trees)
    begun =
        ap (λ b. snapshot number one ∷ frames_from (number + 1) b (drop (k + 1) trees)) (ap (λ m. slice_index_or (nothing ∷ trees) m nothing) (let e : k + 1 ≡ suc k = omega arith in e))
        ∙ ap (stream_of number) (sym (drop_more trees k nothing inside))

    pub begins : bytes_of table (snapshot number one ∷ []) ++ bytes_of table rest ≡ streamed table number (drop k trees)
    begins = sym (flat_map-append (frame_bytes table) (snapshot number one ∷ []) rest) ∙ ap (bytes_of table) begun

    pub snapshot_followed : (all after : List ℕ) → All (AreFollowed table) (drop k trees) → IsSnapshot table number one (Ok all) → ExportsOn table trees (k + 1) (number + 1) (Ok after)
        → (bytes more : List ℕ) → bytes ++ more ≡ all ++ after → HoldsOneOf number (drop k trees) (followed table (fresh_at number) bytes)
    snapshot_followed all after good whole later bytes more same =
        let parts = short_parts (snapshot number one) [] whole.1 in
        let texts : AreTexts table (snapshot number one ∷ rest) = (whole.2.0, later.2) in
        let short : too_long table (snapshot number one ∷ rest) ≡ None = long_first (snapshot number one) rest parts.0 ∙ later.1 in
        streams_followed number (drop k trees) good (subst (AreTexts table) begun texts) (ap (too_long table) (sym begun) ∙ short) bytes more
        (same ∙ (λ i. whole.0 i ++ later.0 i) ∙ begins)
