use Rattle.std.proofs.Common.{◌≡◌, ◌∙◌, ◌+◌, ◌<◌, ◌≤◌, Bool, true, false, List, [], ℕ, Some, length, drop, get_or, refl, sym, ap, arith}
use Rattle.std.specs.Prelude.{is_some, ◌||◌}
use Rattle.std.specs.List.{list_any}
use Rattle.std.proofs.lemmas.List.{drop_more, drop_all}
use Rattle.sal_schema.specs.declared.table.SchemaTable.{SchemaTable}
use Rattle.sal_schema.specs.Names.{child_of}
use Rattle.sal_data.proofs.members.has_child_of_some.Goals as goal

abbrev has : SchemaTable → ℕ → List ℕ → List ℕ → Bool
has table node name m = is_some (child_of table (Some node) m name)

one_more : (test : List ℕ → Bool) (modules : List (List ℕ)) (i : ℕ) (b : Bool) → i < length modules → list_any test modules ≡ list_any test (drop i modules) → test (get_or modules i []) ≡ b → list_any test modules ≡ (b || list_any test (drop (i + 1) modules))
one_more test modules i b low is here = is ∙ ap (list_any test) (drop_more modules i [] low) ∙ ap (λ b. b || list_any test (drop (i + 1) modules)) here

pub loop-module-init : goal.loop-module-init
loop-module-init c = refl

pub loop-module-preserved : goal.loop-module-preserved
loop-module-preserved c =
    let table = c.args.schema.now in
    one_more (has table c.args.node c.args.name.now) table.modules c.loop-module.module false (omega arith) c.loop-module.invariant (sym c.has_child.ensures ∙ c.if-has_child.false)

pub returns-then-has_child : goal.returns-then-has_child
returns-then-has_child c =
    let table = c.args.schema.now in
    sym (one_more (has table c.args.node c.args.name.now) table.modules c.loop-module.module true (omega arith) c.loop-module.invariant (sym c.has_child.ensures ∙ c.if-has_child.true))

pub returns : goal.returns
returns c =
    let table = c.args.schema.now in
    let end : length table.modules ≤ c.loop-module.module = omega arith in
    sym (c.loop-module.invariant ∙ ap (list_any (has table c.args.node c.args.name.now)) (drop_all c.loop-module.module table.modules end))
