-- A done submission has no conflict.
use Rattle.std.proofs.Common.{◌≡◌, ℕ, ◌+◌, Bool, true, false, List, [], ◌∷◌, ◌++◌, length, Option, None, Some, refl, ap, sym, ◌∙◌, append_assoc, if◌then◌else◌}
use Rattle.std.specs.Prelude.{not, ◌&&◌, slice_get, unwrap_or}
use Rattle.std.specs.List.{position_from}
use Rattle.std.specs.Option.{option_or, option_map}
use Rattle.std.proofs.lemmas.Option.{none-some, same_Some}
use Rattle.sal_types.specs.declared.value.Store.{Store}
use Rattle.sal_types.specs.declared.value.Store.TheVariants.{Config, Oper}
use Rattle.sal_types.specs.declared.row.Row.{Row}
use Rattle.sal_rows.specs.declared.clash.Clash.{Clash}
use Rattle.sal_rows.specs.declared.clash.Rules.{Rules}
use Rattle.sal_rows.specs.declared.clash.Span.{Span}
use Rattle.sal_rows.specs.declared.op.Op.{Op}
use Rattle.sal_rows.specs.declared.outcome.Outcome.{Outcome}
use Rattle.sal_rows.specs.declared.outcome.Outcome.TheVariants.{ChainFailed as FailedBy, Done}
use Rattle.sal_rows.specs.Apply.{checks_path, is_read, rows_of_act}
use Rattle.sal_rows.specs.Clash.{at_row, checks_leafs, clash, clash_from, is_stale, leaf_clash, lost_parent, needs_parents, op_clash, parent_clash, path_clash, read_clash, reads_from}
use Rattle.sal_rows.specs.PathClash.{difference, is_covered}
use Rattle.sal_rows.specs.Spans.{spans}
use Rattle.sal_rows.proofs.Named.{path_found}
use Rattle.sal_schema.specs.declared.table.SchemaTable.{SchemaTable}
use Rattle.sal_history.specs.History.{outcome, unmounted_of}
use Rattle.sal_history.specs.Outcome.{conflict_of, decide, invalid}
use Rattle.sal_history.specs.Submissions.{Sent, done_chains, done_ops, failing}
use Rattle.sal_history.specs.World.{Domain, opening_of, rules_of}
use Rattle.sal_history.proofs.Decisions.{clashing}
use Rattle.sal_history_laws.proofs.Closing.{lost_clash}

-- ---- a conflict is of one of the operations

-- a conflict is of the operation with this index
abbrev IsAt : ℕ → Option Clash → Type 0
IsAt n o = (c : Clash) → o ≡ Some c → c.op ≡ n

at_map : {X : Type 0} (n : ℕ) (f : X → Clash) (o : Option X) → ((x : X) → (f x).op ≡ n) → IsAt n (option_map f o)
at_map n f None at c e = absurd (none-some c e)
at_map n f (Some x) at c e = ap (λ (d : Clash). d.op) (sym (same_Some (f x) c e)) ∙ at x

at_if : (n : ℕ) (b : Bool) (o : Option Clash) → IsAt n o → IsAt n (if b then o else None)
at_if n true o at = at
at_if n false o at = λ c e. absurd (none-some c e)

at_or : (n : ℕ) (a b : Option Clash) → IsAt n a → IsAt n b → IsAt n (option_or a b)
at_or n None b first second = second
at_or n (Some x) b first second = first

slice_get-seam : {X : Type 0} (xs ys : List X) (y : X) → slice_get (xs ++ y ∷ ys) (length xs) ≡ Some y
slice_get-seam [] ys y = refl
slice_get-seam (x ∷ xs) ys y = slice_get-seam xs ys y

module _ (opening : Store → List Row) (cs : List (List Op)) (rules : Rules) (base : Store → List Row) (pieces : List Span) where
  at_op : (earlier : List Op) (op : Op) → IsAt (length earlier) (op_clash opening cs rules base pieces earlier op)
  at_op earlier op =
      at_or (length earlier) (parent_clash opening cs base pieces earlier op) (option_or (path_clash opening cs pieces earlier op) (leaf_clash opening cs rules base pieces earlier op))
      (at_if (length earlier) (needs_parents op.act) (option_map (lost_clash opening cs pieces earlier op) (lost_parent opening cs base earlier op.store op.path))
      (at_map (length earlier) (lost_clash opening cs pieces earlier op) (lost_parent opening cs base earlier op.store op.path) (λ d. refl)))
      (at_or (length earlier) (path_clash opening cs pieces earlier op) (leaf_clash opening cs rules base pieces earlier op)
      (at_if (length earlier) (checks_path op.act && not (is_covered earlier op.store op.path)) (option_map (path_found earlier op) (difference opening cs op.store pieces op.path))
      (at_map (length earlier) (path_found earlier op) (difference opening cs op.store pieces op.path) (λ x. refl)))
      (at_if (length earlier) (checks_leafs rules op.act && not (is_covered earlier op.store op.path)) (option_map (at_row opening cs base pieces earlier op) (position_from (is_stale opening cs base pieces op.store) 0 (rows_of_act op.act)))
      (at_map (length earlier) (at_row opening cs base pieces earlier op) (position_from (is_stale opening cs base pieces op.store) 0 (rows_of_act op.act)) (λ x. refl))))

  at_read : (earlier : List Op) (op : Op) → IsAt (length earlier) (read_clash opening cs pieces earlier op)
  at_read earlier op =
      at_if (length earlier) (is_read op.act && not (is_covered earlier op.store op.path)) (option_map (path_found earlier op) (difference opening cs op.store pieces op.path))
      (at_map (length earlier) (path_found earlier op) (difference opening cs op.store pieces op.path) (λ x. refl))

  -- a conflict of an operation, or one of those after it, is of an operation that is there
  abbrev IsThere : List Op → Clash → Type 0
  IsThere ops c = (op : Op) × (slice_get ops c.op ≡ Some op)

  here_or_later : (earlier ops : List Op) (op : Op) (c : Clash) (mine later : Option Clash) → IsAt (length earlier) mine → (later ≡ Some c → IsThere ((earlier ++ op ∷ []) ++ ops) c) → option_or mine later ≡ Some c
      → IsThere (earlier ++ op ∷ ops) c
  here_or_later earlier ops op c None later at rest e =
      let (x, there) = rest e in
      (x, ap (λ (l : List Op). slice_get l c.op) (sym (append_assoc earlier (op ∷ []) ops)) ∙ there)
  here_or_later earlier ops op c (Some d) later at rest e = (op, ap (slice_get (earlier ++ op ∷ ops)) (at c e) ∙ slice_get-seam earlier ops op)

  write_there : (earlier ops : List Op) (c : Clash) → clash_from opening cs rules base pieces earlier ops ≡ Some c → IsThere (earlier ++ ops) c
  write_there earlier [] c e = absurd (none-some c e)
  write_there earlier (op ∷ ops) c e =
      here_or_later earlier ops op c (op_clash opening cs rules base pieces earlier op) (clash_from opening cs rules base pieces (earlier ++ op ∷ []) ops) (at_op earlier op) (write_there (earlier ++ op ∷ []) ops c) e

  read_there : (earlier ops : List Op) (c : Clash) → reads_from opening cs pieces earlier ops ≡ Some c → IsThere (earlier ++ ops) c
  read_there earlier [] c e = absurd (none-some c e)
  read_there earlier (op ∷ ops) c e =
      here_or_later earlier ops op c (read_clash opening cs pieces earlier op) (reads_from opening cs pieces (earlier ++ op ∷ []) ops) (at_read earlier op) (read_there (earlier ++ op ∷ []) ops c) e

  op_there : (ops : List Op) (c : Clash) → clash opening cs rules base pieces ops ≡ Some c → IsThere ops c
  op_there ops c e = by (clash_from opening cs rules base pieces [] ops) refl e
    where
      by : (o : Option Clash) → clash_from opening cs rules base pieces [] ops ≡ o → option_or o (reads_from opening cs pieces [] ops) ≡ Some c → IsThere ops c
      by None none f = read_there [] ops c f
      by (Some d) some f = write_there [] ops c (some ∙ f)

no_clash : (ops : List Op) (o : Option Clash) (rest : Option Outcome) (n commit : ℕ) → ((c : Clash) → o ≡ Some c → (op : Op) × (slice_get ops c.op ≡ Some op))
    → unwrap_or (option_or (clashing ops o) rest) (Done n) ≡ Done commit → o ≡ None
no_clash ops None rest n commit there e = refl
no_clash ops (Some c) rest n commit there e =
    let (op, at) = there c refl in
    let no : conflict_of c op ≡ Done commit = ap (λ (x : Option Op). unwrap_or (option_or (option_map (conflict_of c) x) rest) (Done n)) (sym at) ∙ e in
    cc

-- a done outcome is the decision itself
in_itself : (o : Option ℕ) (live : Bool) (domain : ℕ) (d : Outcome) (commit : ℕ) → unwrap_or (option_or (option_map FailedBy o) (unmounted_of live domain)) d ≡ Done commit → d ≡ Done commit
in_itself None true domain d commit e = e
in_itself None false domain d commit e = cc
in_itself (Some n) live domain d commit e = cc

module _ (world : List Domain) (by : ℕ → SchemaTable) (live : ℕ → Bool) (ss : List Sent) (os : List Outcome) (s : Sent) where
  -- a done submission has no conflict
  pub done-quiet : (commit : ℕ) → outcome world by live ss os s ≡ Done commit
      → clash (opening_of world s.base.domain) (done_ops s.base.domain ss os) (rules_of world s.base.domain) s.base.trees (spans s.base.commit s.base.chain (done_chains s.base.domain ss os)) s.ops ≡ None
  done-quiet commit e =
      let domain = s.base.domain in
      let opening = opening_of world domain in
      let cs = done_ops domain ss os in
      let pieces = spans s.base.commit s.base.chain (done_chains domain ss os) in
      let rules = rules_of world domain in
      let here : decide (by domain) opening cs rules s.base.trees pieces s.ops ≡ Done commit =
      in_itself (failing s.base.chain ss os) (live domain) domain (decide (by domain) opening cs rules s.base.trees pieces s.ops) commit e in
      no_clash s.ops (clash opening cs rules s.base.trees pieces s.ops) (option_or (invalid (by domain) opening cs Config s.ops) (invalid (by domain) opening cs Oper s.ops)) (length cs + 1) commit (op_there opening cs rules s.base.trees pieces s.ops) here
