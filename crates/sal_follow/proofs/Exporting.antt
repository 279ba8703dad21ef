-- One frame more of an export.
use Rattle.std.proofs.Common.{◌≡◌, ℕ, zero, suc, ◌+◌, ◌<◌, ◌≤◌, List, [], ◌∷◌, ◌++◌, map, length, take, drop, get_or, Some, Result, Ok, Err, refl, ap, sym, subst, ◌∙◌, append_assoc, append-nil, arith, if◌then◌else◌}
use Rattle.std.specs.Prelude.{IsErrAnd, slice_index_or}
use Rattle.std.proofs.lemmas.Grind.{flat_map-append}
use Rattle.std.proofs.lemmas.List.{drop_more, drop_all}
use Rattle.sal_types.specs.declared.row.Row.{Row}
use Rattle.sal_types.specs.Tree.{under, IsAscending}
use Rattle.sal_delta.proofs.Exact.{merge-changes}
use Rattle.sal_delta.specs.Merge.{come}
use Rattle.sal_schema.specs.declared.table.SchemaTable.{SchemaTable}
use Rattle.sal_follow.specs.declared.fault.ExportFault.{ExportFault}
use Rattle.sal_follow.specs.declared.fault.ExportFault.TheVariants.{TooLong, NoMemory}
use Rattle.sal_follow.specs.declared.frame.Frame.{Frame}
use Rattle.sal_follow.specs.Exporting.{patch_of, frame_on, Puts, AreBetween}
use Rattle.sal_follow.specs.Laws.{StreamsGoOnAfter}
use Rattle.sal_follow.specs.Framed.{Trees, nothing, before_at, frame_of, frames_from, frames, frames_on, stream_of, frames_since, frame_bytes, bytes_of, exported, patch_by, patches, too_long, AreTexts, ExportsOn}

-- the result of a fault that is passed on
pub err_so : {X E : Type 0} (P : Result X E → Type 0) (result : Result X E) (e : E) → IsErrAnd result (λ d. d ≡ e) → P (Err e) → P result
err_so P (Ok x) e is holds = absurd is
err_so {X} {E} P (Err d) e is holds = subst (λ (f : E). P (Err f)) (sym is) holds

-- ---- lists

pub at-mapped : {A B : Type 0} (f : A → B) (xs : List A) (k : ℕ) (x : A) (d : B) → k < length xs → x ≡ get_or xs k x → get_or (map f xs) k d ≡ f x
at-mapped f [] k x d inside is = absurd (omega arith)
at-mapped f (y ∷ xs) zero x d inside is = ap f (sym is)
at-mapped f (y ∷ xs) (suc k) x d inside is = at-mapped f xs k x d (omega arith) is

next : (k : ℕ) → k + 1 ≡ suc k
next k = omega arith

-- ---- rows

pub under-root : (rows : List Row) → under rows [] ≡ rows
under-root [] = refl
under-root (row ∷ rows) = ap (λ rest. row ∷ rest) (under-root rows)

set_by : (rows : List Row) → map patch_by (map come rows) ≡ map patch_of rows
set_by [] = refl
set_by (row ∷ rows) = ap (λ rest. patch_of row ∷ rest) (set_by rows)

-- the patches of a first tree set each of its rows
pub opening : (rows : List Row) → IsAscending rows → map patch_of rows ≡ patches [] rows
opening rows ascending = sym (set_by rows) ∙ ap (map patch_by) (merge-changes [] rows refl ascending)

-- ---- frames

module _ (trees : List Trees) (k number : ℕ) where
  pub one_left : k < length trees → frames_on trees k number ≡ frame_on trees k number ∷ frames_on trees (k + 1) (number + 1)
  one_left inside =
      ap (frames_from number (before_at trees k)) (drop_more trees k nothing inside)
      ∙ ap (λ b. frame_on trees k number ∷ frames_from (number + 1) b (drop (k + 1) trees)) (sym (ap (λ m. get_or (nothing ∷ trees) m nothing) (next k)))

  pub none_left : length trees ≤ k → frames_on trees k number ≡ []
  none_left all = ap (frames_from number (before_at trees k)) (drop_all k trees all)

module _ (table : SchemaTable) (trees : List Trees) (from first : ℕ) where
  pub begun : AreBetween table trees from first [] from first
  begun = record { whole = refl; short = refl; texts = λ all. all }

  module _ (bytes : List ℕ) (k number : ℕ) (before : AreBetween table trees from first bytes k number) where
    pub one_more : (now : List ℕ) → k < length trees → Puts table (frame_on trees k number) bytes now (Ok tt) → AreBetween table trees from first now (k + 1) (number + 1)
    one_more now inside put =
        let f : Frame = frame_on trees k number in
        let rest : List Frame = frames_on trees (k + 1) (number + 1) in
        let split : frames_on trees k number ≡ f ∷ rest = one_left trees k number inside in record {
          whole =
              ap (λ b. b ++ bytes_of table rest) put.0 ∙ append_assoc bytes (frame_bytes table f) (bytes_of table rest) ∙ ap (λ fs. bytes ++ bytes_of table fs) (sym split) ∙ before.whole;
          short = sym (ap (λ b. if b then too_long table rest else Some number) put.1) ∙ ap (too_long table) (sym split) ∙ before.short;
          texts = λ all. before.texts (subst (AreTexts table) (sym split) (put.2, all));
        }

    pub too_long_now : (commit : ℕ) (now : List ℕ) → k < length trees → Puts table (frame_on trees k number) bytes now (Err (TooLong commit)) → ExportsOn table trees from first (Err (TooLong commit))
    too_long_now commit now inside put =
        sym before.short ∙ ap (too_long table) (one_left trees k number inside) ∙ ap (λ b. if b then too_long table (frames_on trees (k + 1) (number + 1)) else Some number) put.1 ∙ ap Some (sym put.0)

    -- a fault of this commit is the export's
    pub fails : (e : ExportFault) (now : List ℕ) → k < length trees → Puts table (frame_on trees k number) bytes now (Err e) → ExportsOn table trees from first (Err e)
    fails (TooLong commit) now inside put = too_long_now commit now inside put
    fails NoMemory now inside put = tt

    pub all_put : length trees ≤ k → ExportsOn table trees from first (Ok bytes)
    all_put all =
        let none : frames_on trees k number ≡ [] = none_left trees k number all in (
          sym (append-nil bytes) ∙ ap (λ fs. bytes ++ bytes_of table fs) (sym none) ∙ before.whole,
          sym before.short ∙ ap (too_long table) none,
          before.texts (subst (AreTexts table) (sym none) tt),
        )

-- ---- a stream that continues

split-at : (k : ℕ) (before : Trees) (trees : List Trees) (n : ℕ) → n ≤ length trees
    → frames_from k before (take n trees) ++ frames_from (k + n) (slice_index_or (before ∷ trees) n nothing) (drop n trees) ≡ frames_from k before trees
split-at k before trees zero e = ap (λ m. frames_from m before trees) (let same : k + 0 ≡ k = omega arith in same)
split-at k before [] (suc n) e = absurd (omega (arith, e))
split-at k before (t ∷ trees) (suc n) e =
    let on : k + suc n ≡ (k + 1) + n = omega arith in
    ap (λ m. frame_of k before t ∷ (frames_from (k + 1) t (take n trees) ++ frames_from m (slice_index_or (t ∷ trees) n nothing) (drop n trees))) on
    ∙ ap (λ fs. frame_of k before t ∷ fs) (split-at (k + 1) t trees n (omega (arith, e)))

pub goes-on : (table : SchemaTable) (trees : List Trees) (k : ℕ) → k ≤ length trees → exported table (take k trees) ++ bytes_of table (frames_since trees k) ≡ exported table trees
goes-on table trees k inside =
    let from : 0 + k ≡ k = omega arith in
    sym (flat_map-append (frame_bytes table) (frames (take k trees)) (frames_since trees k))
    ∙ ap (λ m. bytes_of table (frames (take k trees) ++ frames_from m (before_at trees k) (drop k trees))) (sym from)
    ∙ ap (bytes_of table) (split-at 0 nothing trees k inside)

-- one that continues after its last frame
append-frames : (k : ℕ) (before : Trees) (trees : List Trees) (last : Trees) (more : List Trees)
    → frames_from k before (trees ++ last ∷ []) ++ frames_from (k + length trees + 1) last more ≡ frames_from k before (trees ++ last ∷ more)
append-frames k before [] last more = let here : k + 0 + 1 ≡ k + 1 = omega arith in ap (λ m. frame_of k before last ∷ frames_from m last more) here
append-frames k before (t ∷ trees) last more =
    let on : k + suc (length trees) + 1 ≡ k + 1 + length trees + 1 = omega arith in
    ap (λ m. frame_of k before t ∷ (frames_from (k + 1) t (trees ++ last ∷ []) ++ frames_from m last more)) on
    ∙ ap (λ fs. frame_of k before t ∷ fs) (append-frames (k + 1) t trees last more)

pub goes-on-after : StreamsGoOnAfter
goes-on-after table first trees last more =
    sym (flat_map-append (frame_bytes table) (stream_of first (trees ++ last ∷ [])) (frames_from (first + length trees + 1) last more))
    ∙ ap (bytes_of table) (append-frames first nothing trees last more)
