-- Rounds of augments, from one augment to the next.
use Rattle.std.proofs.Common.{◌≡◌, ℕ, zero, suc, ◌+◌, ◌-◌, ◌<◌, ◌≤◌, ◌==◌, true, false, List, [], ◌∷◌, fold, length, take, drop, get_or, Option, Some, None, if◌then◌else◌, refl, sym, ap, subst, ◌∙◌, inl, inr, arith}
use Rattle.std.specs.Prelude.{option_and_then}
use Rattle.std.specs.List.{slice_get}
use Rattle.std.proofs.lemmas.Bool.{cases_Bool}
use Rattle.std.proofs.lemmas.List.{take-append-drop, drop_more}
use Rattle.std.proofs.lemmas.List.Sums.{fold-append}
use Rattle.sal_stmt.specs.declared.stmt.Stmt.{Stmt}
use Rattle.sal_module.specs.declared.keyword.Keyword.{Keyword}
use Rattle.sal_grouping.specs.declared.rows.Row.{Row}
use Rattle.sal_grouping.specs.declared.node.Node.{Node}
use Rattle.sal_grouping.specs.Growth.{grown, seeds_in}
use Rattle.sal_grouping.specs.Augments.{Progress, kind_of, can_hold, has_nodes, follow, carried_to, carried_at, carried, after_try, tried, round, rounds}
use Rattle.sal_grouping.specs.Groupings.{path_of}
use Rattle.sal_grouping.proofs.FrameLists.{grown-length}
use Rattle.sal_grouping.proofs.IndexLists.{is-same}

module _ (stmts : List Stmt) (rows : List Row) (named : List (Option ℕ)) where
  carried-to : (owner k : ℕ) (forest : List Node) (target : ℕ) (kind : Option Keyword) (f : List Node) → carried_to rows named owner k forest target kind ≡ Some f → length forest ≤ length f
  carried-to owner k forest target kind f e = elim (cases_Bool (can_hold rows kind k (has_nodes rows named k))) [
    | inl holds ↦
        let grew = rw holds at e in
        let is : grown rows named owner (Some target) forest (seeds_in rows named kind k) ≡ f = cc in
        rw (← is) (grown-length rows named owner (Some target) forest (seeds_in rows named kind k))
    | inr fails ↦ let none = rw fails at e in cc
  ]

  carried-at : (owner k : ℕ) (forest : List Node) (target : Option ℕ) (f : List Node) → carried_at rows named owner k forest target ≡ Some f → length forest ≤ length f
  carried-at owner k forest None f e = cc
  carried-at owner k forest (Some target) f e = carried-to owner k forest target (option_and_then (kind_of rows) (slice_get forest target)) f e

  carried-length : (forest : List Node) (k : ℕ) (row : Option Row) (f : List Node) → carried stmts rows named forest k row ≡ Some f → length forest ≤ length f
  carried-length forest k None f e = cc
  carried-length forest k (Some row) f e = carried-at row.module k forest (follow rows forest None (path_of stmts row)) f e

  after-length : (now : Progress) (k : ℕ) (c : Option (List Node)) → ((f : List Node) → c ≡ Some f → length now.0 ≤ length f) → length now.0 ≤ length (after_try now k c).0
  after-length now k None each = omega arith
  after-length now k (Some f) each = each f refl

  tried-length : (now : Progress) (k : ℕ) → length now.0 ≤ length (tried stmts rows named now k).0
  tried-length now k = after-length now k (carried stmts rows named now.0 k (slice_get rows k)) (carried-length now.0 k (slice_get rows k))

  pub tries-length : (now : Progress) (ks : List ℕ) → length now.0 ≤ length (fold (tried stmts rows named) now ks).0
  tries-length now [] = omega arith
  tries-length now (k ∷ ks) = omega (arith, tried-length now k, tries-length (tried stmts rows named now k) ks)

  -- past the limit after one more
  pub tries-past : (start : Progress) (ks : List ℕ) (i k : ℕ) → i < length ks → k ≡ get_or ks i 0 → (now : Progress) → now ≡ fold (tried stmts rows named) start (take i ks)
      → 65536 < length (tried stmts rows named now k).0 → 65536 < length (fold (tried stmts rows named) start ks).0
  tries-past start ks i k h is now so past =
      let step = tried stmts rows named in
      let all : fold step start ks ≡ fold step (step now k) (drop (i + 1) ks) =
      ap (fold step start) (sym (take-append-drop i ks)) ∙ fold-append step start (take i ks) (drop i ks) ∙ ap (λ (p : Progress). fold step p (drop i ks)) (sym so)
      ∙ ap (fold step now) (drop_more ks i 0 h) ∙ ap (λ j. fold step (step now j) (drop (i + 1) ks)) (sym is) in
      let count = ap (λ (p : Progress). length p.0) all in
      omega (arith, tries-length (step now k) (drop (i + 1) ks), past, count)

  round-length : (now : Progress) → length now.0 ≤ length (round stmts rows named now).0
  round-length now = tries-length (now.0, []) now.1

  pub rounds-none : (now : Progress) → rounds 0 stmts rows named now ≡ now
  unfolding rounds
  rounds-none now = refl

  rounds-suc : (n : ℕ) (now : Progress) → rounds (suc n) stmts rows named now
      ≡ (if length (round stmts rows named now).1 == length now.1 then round stmts rows named now else rounds n stmts rows named (round stmts rows named now))
  unfolding rounds
  rounds-suc n now = refl

  pub rounds-length : (n : ℕ) (now : Progress) → length now.0 ≤ length (rounds n stmts rows named now).0
  rounds-length zero now = rw (rounds-none now) (omega arith)
  rounds-length (suc n) now = rw (rounds-suc n now) (elim (cases_Bool (length (round stmts rows named now).1 == length now.1)) [
    | inl holds ↦ rw holds (round-length now)
    | inr fails ↦ rw fails (omega (arith, round-length now, rounds-length n (round stmts rows named now)))
  ])

  pub rounds-end : (n : ℕ) (now : Progress) → 0 < n → (length (round stmts rows named now).1 == length now.1) ≡ true → rounds n stmts rows named now ≡ round stmts rows named now
  rounds-end zero now h e = absurd (omega arith)
  rounds-end (suc n) now h e = rounds-suc n now ∙ rw e refl

  pub rounds-more : (n : ℕ) (now : Progress) → 0 < n → (length (round stmts rows named now).1 == length now.1) ≡ false → rounds n stmts rows named now ≡ rounds (n - 1) stmts rows named (round stmts rows named now)
  rounds-more zero now h e = absurd (omega arith)
  rounds-more (suc n) now h e = let less : suc n - 1 ≡ n = omega arith in rw less (rounds-suc n now ∙ rw e refl)

  pub rounds-past : (n : ℕ) (now : Progress) → 0 < n → 65536 < length (round stmts rows named now).0 → 65536 < length (rounds n stmts rows named now).0
  rounds-past zero now h past = absurd (omega arith)
  rounds-past (suc n) now h past = rw (rounds-suc n now) (elim (cases_Bool (length (round stmts rows named now).1 == length now.1)) [
    | inl holds ↦ rw holds past
    | inr fails ↦ rw fails (omega (arith, past, rounds-length n (round stmts rows named now)))
  ])

  -- ---- n rounds, of which some are left

  module _ (n count left : ℕ) (start now : Progress) (same : n ≡ count) (is : rounds count stmts rows named start ≡ rounds left stmts rows named now) where
    all : rounds n stmts rows named start ≡ rounds left stmts rows named now
    all = ap (λ k. rounds k stmts rows named start) same ∙ is

    pub left-past : 0 < left → 65536 < length (round stmts rows named now).0 → 65536 < length (rounds n stmts rows named start).0
    left-past some past =
        let P : Progress → Type 0 = λ p. 65536 < length p.0 in
        subst P (sym all) (rounds-past left now some past)

    pub left-end : 0 < left → length (round stmts rows named now).1 ≡ length now.1 → round stmts rows named now ≡ rounds n stmts rows named start
    left-end some e = sym (rounds-end left now some (is-same (length (round stmts rows named now).1) (length now.1) e)) ∙ sym all

    pub left-none : left ≡ 0 → now ≡ rounds n stmts rows named start
    left-none none = sym (all ∙ ap (λ k. rounds k stmts rows named now) none ∙ rounds-none now)
