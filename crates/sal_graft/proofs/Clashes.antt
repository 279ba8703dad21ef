-- The search for conflicts, step by step.
use Rattle.std.proofs.Common.{◌≡◌, ℕ, zero, suc, ◌+◌, ◌-◌, ◌<◌, ◌≤◌, Bool, true, false, List, [], ◌∷◌, ◌++◌, ◌&&◌, ◌||◌, length, take, drop, get_or, None, Some, refl, ap, sym, ◌∙◌, cond, if◌then◌else◌, arith, reverse}
use Rattle.std.proofs.lemmas.Bool.{or_parts}
use Rattle.std.specs.Prelude.{is_some, not, find}
use Rattle.std.specs.Option.{option_or, option_map}
use Rattle.std.proofs.lemmas.List.{take_more, drop_more, get_or_default}
use Rattle.sal_types.specs.declared.value.Store.{Store}
use Rattle.sal_types.specs.declared.value.Step.{Step}
use Rattle.sal_types.specs.declared.row.Row.{Row}
use Rattle.sal_types.specs.Tree.{cell, has}
use Rattle.sal_types.specs.Prefix.{is_prefix}
use Rattle.sal_rows.specs.declared.op.Act.{Act}
use Rattle.sal_rows.specs.declared.op.Act.TheVariants.{Put, Merge, Delete, Read}
use Rattle.sal_rows.specs.declared.op.Op.{Op}
use Rattle.sal_rows.specs.Apply.{same_store, checks_path, is_read}
use Rattle.sal_rows.specs.Commits.{numbers_after, numbers_in}
use Rattle.sal_rows.specs.declared.clash.Rules.{Rules}
use Rattle.sal_rows.specs.declared.clash.Rules.TheVariants.{One, Two}
use Rattle.sal_rows.specs.declared.clash.Span.{Span}
use Rattle.sal_rows.specs.PathClash.{difference, is_covered}
use Rattle.sal_mod.specs.Covers.{covers}
use Rattle.sal_mod.specs.Covers as by_mod
use Rattle.sal_mod.specs.Held.{has_reads}
use Rattle.std.specs.List.{list_any}
use Rattle.sal_rows.specs.Clash.{op_clash, clash_from, read_clash, reads_from, lost_parent, tip, depths_above, numbers_over}
use Rattle.sal_graft.specs.Rows.{conflict_at, lost_depth}
use Rattle.sal_graft.proofs.Setting.{is_set-last}
use Rattle.sal_rows.proofs.Numbers.{numbers_over-push, find_part}
use Rattle.sal_rows.proofs.Rising.{and_assoc}

-- ---- operation by operation

-- the remaining operations from an index on
pub clash_from-at : (opening : Store → List Row) (commits : List (List Op)) (rules : Rules) (base : Store → List Row) (spans : List Span) (ops : List Op) (i : ℕ) (op : Op) → i < length ops → op ≡ get_or ops i op
    → clash_from opening commits rules base spans (take i ops) (drop i ops) ≡ option_or (op_clash opening commits rules base spans (take i ops) op) (clash_from opening commits rules base spans (take (i + 1) ops) (drop (i + 1) ops))
clash_from-at opening commits rules base spans ops i op h at =
    let front : take (i + 1) ops ≡ take i ops ++ op ∷ [] = take_more ops i op h ∙ ap (λ (o : Op). take i ops ++ o ∷ []) (sym at) in
    let rest : drop i ops ≡ op ∷ drop (i + 1) ops = drop_more ops i op h ∙ ap (λ (o : Op). o ∷ drop (i + 1) ops) (sym at) in
    ap (clash_from opening commits rules base spans (take i ops)) rest ∙ ap (λ (done : List Op). option_or (op_clash opening commits rules base spans (take i ops) op) (clash_from opening commits rules base spans done (drop (i + 1) ops))) (sym front)

-- the same for the reads
pub reads_from-at : (opening : Store → List Row) (commits : List (List Op)) (spans : List Span) (ops : List Op) (i : ℕ) (op : Op) → i < length ops → op ≡ get_or ops i op
    → reads_from opening commits spans (take i ops) (drop i ops) ≡ option_or (read_clash opening commits spans (take i ops) op) (reads_from opening commits spans (take (i + 1) ops) (drop (i + 1) ops))
reads_from-at opening commits spans ops i op h at =
    let front : take (i + 1) ops ≡ take i ops ++ op ∷ [] = take_more ops i op h ∙ ap (λ (o : Op). take i ops ++ o ∷ []) (sym at) in
    let rest : drop i ops ≡ op ∷ drop (i + 1) ops = drop_more ops i op h ∙ ap (λ (o : Op). o ∷ drop (i + 1) ops) (sym at) in
    ap (reads_from opening commits spans (take i ops)) rest ∙ ap (λ (done : List Op). option_or (read_clash opening commits spans (take i ops) op) (reads_from opening commits spans done (drop (i + 1) ops))) (sym front)

-- without a read there is no conflict of one
pub no-reads : (opening : Store → List Row) (commits : List (List Op)) (spans : List Span) (earlier ops : List Op) → has_reads ops ≡ false → reads_from opening commits spans earlier ops ≡ None
no-reads opening commits spans earlier [] h = refl
no-reads opening commits spans earlier (op ∷ ops) h =
    ap (λ b. option_or (if b && not (is_covered earlier op.store op.path) then option_map (conflict_at (length earlier) op) (difference opening commits op.store spans op.path) else None) (reads_from opening commits spans (earlier ++ op ∷ []) ops)) (or_parts (is_read op.act) (has_reads ops) h).0
    ∙ no-reads opening commits spans (earlier ++ op ∷ []) ops (or_parts (is_read op.act) (has_reads ops) h).1

-- a read is not a write, so the walk over the writes skips it
pub read-no_write : (opening : Store → List Row) (commits : List (List Op)) (rules : Rules) (base : Store → List Row) (spans : List Span) (earlier : List Op) (op : Op) → is_read op.act ≡ true
    → op_clash opening commits rules base spans earlier op ≡ None
read-no_write opening commits rules base spans earlier op = of op.act
  where
    of : (act : Act) → is_read act ≡ true → op_clash opening commits rules base spans earlier (record { store = op.store; path = op.path; act = act }) ≡ None
    of (Put rows) e = cc
    of (Merge rows) e = cc
    of Delete e = cc
    of Read e = elim rules as (λ r. op_clash opening commits r base spans earlier (record { store = op.store; path = op.path; act = Read }) ≡ None) [ One ↦ refl | Two ↦ refl ]

-- the remaining operations after a read
pub clash_from-past : (opening : Store → List Row) (commits : List (List Op)) (rules : Rules) (base : Store → List Row) (spans : List Span) (ops : List Op) (i : ℕ) (op : Op) → i < length ops → op ≡ get_or ops i op
    → is_read op.act ≡ true → clash_from opening commits rules base spans (take i ops) (drop i ops) ≡ clash_from opening commits rules base spans (take (i + 1) ops) (drop (i + 1) ops)
clash_from-past opening commits rules base spans ops i op h at reads =
    clash_from-at opening commits rules base spans ops i op h at
    ∙ ap (λ o. option_or o (clash_from opening commits rules base spans (take (i + 1) ops) (drop (i + 1) ops))) (read-no_write opening commits rules base spans (take i ops) op reads)

-- the two tests for a cover are one
any_covers : (ops : List Op) (s : Store) (p : List Step) → list_any (covers s p) ops ≡ is_covered ops s p
any_covers [] s p = refl
any_covers (op ∷ ops) s p = λ i. and_assoc (same_store op.store s) (checks_path op.act) (is_prefix op.path p) i || any_covers ops s p i

pub covered-by : (s : Store) (ops : List Op) (p : List Step) (n : ℕ) → by_mod.is_covered s ops p n ≡ is_covered (take n ops) s p
covered-by s ops p n = any_covers (take n ops) s p

-- ---- parents

pub lost-parent : (opening : Store → List Row) (commits : List (List Op)) (base : Store → List Row) (earlier : List Op) (s : Store) (p : List Step)
    → lost_depth (base s) (tip opening commits s) earlier s p ≡ lost_parent opening commits base earlier s p
lost-parent opening commits base earlier s p =
    λ i. find (λ d. is_some (cell (base s) (take d p)) && (not (has (tip opening commits s) (take d p)) && not (is_set-last earlier s (take d p) i))) (depths_above p)

-- one number more, at the front
pub numbers-front : (a n : ℕ) → 0 < n → numbers_after a n ≡ (a + 1) ∷ numbers_after (a + 1) (n - 1)
numbers-front a zero h = absurd (omega arith)
numbers-front a (suc n) h = let e : n ≡ suc n - 1 = omega arith in ap (λ k. (a + 1) ∷ numbers_after (a + 1) k) e

-- one depth is looked at
pub find-depth : (t : ℕ → Bool) (d n : ℕ) → 1 ≤ d → d < n → find t (numbers_after (d - 1) (n - d)) ≡ cond (t d) (Some d) (find t (numbers_after (d + 1 - 1) (n - (d + 1))))
find-depth t d n low high =
    let front = numbers-front (d - 1) (n - d) (omega arith) in
    let here : d - 1 + 1 ≡ d = omega arith in
    let there : d ≡ d + 1 - 1 = omega arith in
    let fewer : n - d - 1 ≡ n - (d + 1) = omega arith in
    ap (find t) front ∙ (λ i. find t (here i ∷ numbers_after (here i) (fewer i))) ∙ ap (λ k. cond (t d) (Some d) (find t (numbers_after k (n - (d + 1))))) there

pub no-depth : (t : ℕ → Bool) (d n : ℕ) → n ≤ d → find t (numbers_after (d - 1) (n - d)) ≡ None
no-depth t d n h = let none : n - d ≡ 0 = omega arith in ap (λ k. find t (numbers_after (d - 1) k)) none

-- ---- spans

-- from the last span on, one is looked at
pub turn_span : (t : ℕ → Bool) (spans : List Span) (n : ℕ) (span : Span) → n < length spans → span ≡ get_or spans n span
    → find t (reverse (numbers_over (take (n + 1) spans))) ≡ option_or (find t (reverse (numbers_in span))) (find t (reverse (numbers_over (take n spans))))
turn_span t spans n span h at =
    let front : take (n + 1) spans ≡ take n spans ++ span ∷ [] = take_more spans n span h ∙ ap (λ (s : Span). take n spans ++ s ∷ []) (sym at) in
    ap (λ (l : List Span). find t (reverse (numbers_over l))) front
    ∙ ap (λ l. find t (reverse l)) (numbers_over-push (take n spans) span)
    ∙ find_part t (numbers_over (take n spans)) (numbers_in span)

-- the same, for a span that is read with some other one as the default
pub turn_at : (t : ℕ → Bool) (spans : List Span) (n : ℕ) (other : Span) → n < length spans
    → find t (reverse (numbers_over (take (n + 1) spans))) ≡ option_or (find t (reverse (numbers_in (get_or spans n other)))) (find t (reverse (numbers_over (take n spans))))
turn_at t spans n other h = turn_span t spans n (get_or spans n other) h (get_or_default spans n other (get_or spans n other) h)
