-- The lines of modules whose texts are borrowed.
use Rattle.std.proofs.Common.{◌≡◌, ◌∙◌, ◌+◌, ◌<◌, ℕ, List, [], ◌∷◌, ◌++◌, Bor, append_assoc, ap, get_or, length, map, refl, sym, take}
use Rattle.sal_module.proofs.Numbered.{numbered, numbered-take}
use Rattle.sal_lint.specs.Lines.{module_lines}

abbrev pub lines_by : ℕ → ℕ → Bor (List ℕ) → List ℕ
lines_by d m text = module_lines d m text.now

pub all : (d m : ℕ) (texts : List (Bor (List ℕ))) → numbered (lines_by d) m texts ≡ numbered (module_lines d) m (map (λ (text : Bor (List ℕ)). text.now) texts)
all d m [] = refl
all d m (text ∷ texts) = ap (λ rest. module_lines d m text.now ++ rest) (all d (m + 1) texts)

-- with one more module
pub next : (d i : ℕ) (texts : List (Bor (List ℕ))) (x : Bor (List ℕ)) (start before now : List ℕ) → i < length texts → before ≡ start ++ numbered (lines_by d) 0 (take i texts)
    → now ≡ before ++ lines_by d i (get_or texts i x) → now ≡ start ++ numbered (lines_by d) 0 (take (i + 1) texts)
next d i texts x start before now h so_far step =
    step ∙ ap (λ front. front ++ lines_by d i (get_or texts i x)) so_far ∙ append_assoc start (numbered (lines_by d) 0 (take i texts)) (lines_by d i (get_or texts i x))
    ∙ ap (λ lines. start ++ lines) (sym (numbered-take (lines_by d) texts i x h))
