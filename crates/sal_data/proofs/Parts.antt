-- The rows of a tree at a path and below it, and the runs of these.
use Rattle.std.proofs.Common.{◌≡◌, true, List, [], ◌∷◌, ◌++◌, length, Option, Some, None, sym, ap, subst, ◌∙◌, append_assoc}
use Rattle.std.specs.List.{slice_get}
use Rattle.sal_types.specs.declared.value.Cell.{Cell}
use Rattle.sal_types.specs.declared.value.Step.{Step}
use Rattle.sal_types.specs.declared.row.Row.{Row}
use Rattle.sal_types.specs.Prefix.{is_prefix}
use Rattle.sal_types.specs.Tree.{cell, under, IsAscending}
use Rattle.sal_types.proofs.Prefixes.{IsPrefix-from_test, is_prefix-append}
use Rattle.sal_rows.proofs.Cells.{IsAscending-filter}
use Rattle.sal_data.specs.Written.{step_of, runs_of}
use Rattle.sal_data.proofs.Listed.{In, In-filter, In-filter_from}
use Rattle.sal_data.proofs.Fronts.{slice_get-behind, Rises, rises, In-cell, cell-In}
use Rattle.sal_data.proofs.RunsApart.{AreRuns, are_runs, unique}
use Rattle.sal_data.proofs.Composed.{at_row}

module _ (rows : List Row) where
  -- these are the tree's rows at the path and below it
  pub record IsPart (path : List Step) (here : List Row) : Type 0 where
    pub rise : Rises here
    pub from : (row : Row) → In row here → (cell rows row.path ≡ Some row.cell) × (is_prefix path row.path ≡ true)
    pub all : (q : List Step) (c : Cell) → cell rows (path ++ q) ≡ Some c → In (record { path = path ++ q; cell = c }) here

  pub part_at : (path : List Step) → IsAscending rows → IsPart path (under rows path)
  part_at path h = record {
    rise = rises (under rows path) (IsAscending-filter (is_prefix path) rows h);
    from = λ row there. let (was, below) = In-filter_from (λ (r : Row). is_prefix path r.path) row rows there in (cell-In rows row (rises rows h) was, below);
    all = λ q c e. In-filter (λ (r : Row). is_prefix path r.path) (record { path = path ++ q; cell = c }) rows (In-cell rows (path ++ q) c e) (is_prefix-append path q);
  }

  module _ (path : List Step) (here : List Row) (part : IsPart path here) where
    pub runs : AreRuns path here (runs_of (length path) here)
    runs = are_runs path here part.rise (λ row there. (part.from row there).1)

    -- a run with a step has the rows at the path with one more step, and below it
    pub part_of : (run : List Row) (s : Step) → In run (runs_of (length path) here) → step_of (length path) run ≡ Some s → IsPart (path ++ s ∷ []) run
    part_of run s there at = record {
      rise = runs.rising run there;
      from = λ row mine. ((part.from row (runs.from run there row mine)).0, below row mine);
      all = λ q c e. whole q c e;
    }
      where
        first : (p : List Step) → slice_get p 0 ≡ Some s → (q : List Step) × (p ≡ s ∷ q)
        first [] e = cc
        first (t ∷ q) e = let same : t ≡ s = cc in (q, ap (λ u. u ∷ q) same)

        below : (row : Row) → In row run → is_prefix (path ++ s ∷ []) row.path ≡ true
        below row mine =
            let (rest, is) = IsPrefix-from_test path row.path (part.from row (runs.from run there row mine)).1 in
            let next : slice_get rest 0 ≡ Some s =
            sym (slice_get-behind path rest) ∙ ap (λ p. slice_get p (length path)) (sym is) ∙ runs.same run there row mine ∙ at in
            let (q, goes_on) = first rest next in
            ap (is_prefix (path ++ s ∷ [])) (is ∙ ap (λ r. path ++ r) goes_on ∙ sym (append_assoc path (s ∷ []) q)) ∙ is_prefix-append (path ++ s ∷ []) q

        whole : (q : List Step) (c : Cell) → cell rows ((path ++ s ∷ []) ++ q) ≡ Some c → In (record { path = (path ++ s ∷ []) ++ q; cell = c }) run
        whole q c e =
            let same : (path ++ s ∷ []) ++ q ≡ path ++ s ∷ q = append_assoc path (s ∷ []) q in
            let row = at_row rows (path ++ s ∷ q) c in
            let (other, among, mine) = runs.all row (part.all (s ∷ q) c (ap (cell rows) (sym same) ∙ e)) in
            let of_other : step_of (length path) other ≡ Some s = sym (runs.same other among row mine) ∙ slice_get-behind path (s ∷ q) in
            let one = unique path (runs_of (length path) here) other run runs.rise among there (of_other ∙ sym at) in
            subst (λ (r : List Step). In (at_row rows r c) run) (sym same) (subst (λ r. In row r) one mine)

    -- each row below has a run
    pub run_of : (s : Step) (q : List Step) (c : Cell) → cell rows (path ++ s ∷ q) ≡ Some c → (run : List Row) × In run (runs_of (length path) here) × (step_of (length path) run ≡ Some s)
    run_of s q c e =
        let row = at_row rows (path ++ s ∷ q) c in
        let (run, there, mine) = runs.all row (part.all (s ∷ q) c e) in
        (run, there, sym (runs.same run there row mine) ∙ slice_get-behind path (s ∷ q))

    -- each run has a row
    pub row_of : (run : List Row) → In run (runs_of (length path) here) → (q : List Step) × (c : Cell) × (cell rows (path ++ q) ≡ Some c) × (step_of (length path) run ≡ slice_get q 0)
    row_of run there =
        let (row, mine) = runs.filled run there in
        let (known, below) = part.from row (runs.from run there row mine) in
        let (rest, is) = IsPrefix-from_test path row.path below in
        (rest, row.cell, ap (cell rows) (sym is) ∙ known, sym (runs.same run there row mine) ∙ ap (λ p. slice_get p (length path)) is ∙ slice_get-behind path rest)

    pub row_of_step : (run : List Row) (s : Step) → In run (runs_of (length path) here) → step_of (length path) run ≡ Some s → (q : List Step) × (c : Cell) × (cell rows (path ++ s ∷ q) ≡ Some c)
    row_of_step run s there at = by (row_of run there)
      where
        by : ((q : List Step) × (c : Cell) × (cell rows (path ++ q) ≡ Some c) × (step_of (length path) run ≡ slice_get q 0)) → (q : List Step) × (c : Cell) × (cell rows (path ++ s ∷ q) ≡ Some c)
        by ([], c, known, is) = let never : ◌≡◌ {A = Option Step} None (Some s) = sym is ∙ at in cc
        by (t ∷ q, c, known, is) = let found : ◌≡◌ {A = Option Step} (Some t) (Some s) = sym is ∙ at in let same : t ≡ s = cc in (q, c, ap (λ u. cell rows (path ++ u ∷ q)) (sym same) ∙ known)
