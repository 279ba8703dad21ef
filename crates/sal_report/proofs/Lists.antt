-- Lines written one after another, as a loop does.
use Rattle.std.proofs.Common.{◌≡◌, ℕ, ◌+◌, ◌<◌, ◌≤◌, List, [], ◌∷◌, ◌++◌, length, get_or, drop, append_assoc, append-nil, refl, ap, sym, ◌∙◌}
use Rattle.std.proofs.lemmas.List.{drop_more, drop_all}
use Rattle.sal_schema.specs.declared.table.SchemaTable.{SchemaTable}
use Rattle.sal_script.specs.declared.reply.StepReply.{StepReply}
use Rattle.sal_script.specs.Report.{client_lines, reply_line, reply_lines}

-- the lines of a list, the first with this number
abbrev pub lines_from : {A : Type 0} → (ℕ → A → List ℕ) → ℕ → List A → List ℕ
lines_from line k [] = []
lines_from line k (x ∷ xs) = line k x ++ lines_from line (k + 1) xs

module _ {A : Type 0} (line : ℕ → A → List ℕ) (done whole : List ℕ) (i : ℕ) (xs : List A) (so_far : done ++ lines_from line i (drop i xs) ≡ whole) where
  pub one_line : (x : A) (next : List ℕ) → i < length xs → x ≡ get_or xs i x → next ≡ done ++ line i x → next ++ lines_from line (i + 1) (drop (i + 1) xs) ≡ whole
  one_line x next h is written =
      let split : drop i xs ≡ x ∷ drop (i + 1) xs = drop_more xs i x h ∙ ap (λ first. first ∷ drop (i + 1) xs) (sym is) in
      let rest = lines_from line (i + 1) (drop (i + 1) xs) in
      ap (λ t. t ++ rest) written ∙ append_assoc done (line i x) rest ∙ ap (λ ys. done ++ lines_from line i ys) (sym split) ∙ so_far

  pub all_lines : length xs ≤ i → done ≡ whole
  all_lines h = sym (append-nil done) ∙ ap (λ ys. done ++ lines_from line i ys) (sym (drop_all i xs h)) ∙ so_far

module _ (tables : List SchemaTable) where
  pub client_lines-from : (client s : ℕ) (rs : List StepReply) → client_lines tables client s rs ≡ lines_from (reply_line tables client) s rs
  client_lines-from client s [] = refl
  client_lines-from client s (r ∷ rs) = ap (λ rest. reply_line tables client s r ++ rest) (client_lines-from client (s + 1) rs)

  abbrev pub client_text : ℕ → List StepReply → List ℕ
  client_text client rs = client_lines tables client 0 rs

  pub reply_lines-from : (c : ℕ) (rss : List (List StepReply)) → reply_lines tables c rss ≡ lines_from client_text c rss
  reply_lines-from c [] = refl
  reply_lines-from c (rs ∷ rss) = ap (λ rest. client_text c rs ++ rest) (reply_lines-from (c + 1) rss)
