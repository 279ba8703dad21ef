-- The lines of domains, one after another.
use Rattle.std.proofs.Common.{◌≡◌, ◌∙◌, ◌+◌, ◌<◌, ℕ, List, [], ◌++◌, append_assoc, ap, get_or, length, sym, take}
use Rattle.sal_module.proofs.Numbered.{numbered, numbered-take}
use Rattle.sal_lint.specs.Lines.{lines_of}

-- with one more domain
pub next : (i : ℕ) (all : List (List (List ℕ))) (start before now : List ℕ) → i < length all → before ≡ start ++ numbered lines_of 0 (take i all)
    → now ≡ before ++ lines_of i (get_or all i []) → now ≡ start ++ numbered lines_of 0 (take (i + 1) all)
next i all start before now h so_far step =
    step ∙ ap (λ front. front ++ lines_of i (get_or all i [])) so_far ∙ append_assoc start (numbered lines_of 0 (take i all)) (lines_of i (get_or all i []))
    ∙ ap (λ lines. start ++ lines) (sym (numbered-take lines_of all i [] h))
