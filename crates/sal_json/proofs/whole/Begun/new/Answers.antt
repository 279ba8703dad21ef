use Rattle.std.proofs.Common.{subst, sym, map, option_map, true}
use Rattle.std.specs.String.{string_bytes}
use Rattle.regex_extract.specs.Bounds.{IsAnchored}
use Rattle.regex_hir.specs.Meaning.{meaning}
use Rattle.sal_json.specs.Patterns.{IsFoundAs}
use Rattle.sal_json.proofs.Found.{found_as_tree}
use Rattle.sal_json.proofs.whole.Begun.new.Goals as goal

pub invariant_of-result : goal.invariant_of-result
invariant_of-result c =
    let p = c.args.parsed in
    let read = found_as_tree c.args.source.now p.hir (map (option_map string_bytes) p.names.items) c.requires.read in
    let same = sym c.in_ok-program.ensures in (
      subst (λ hir. IsFoundAs hir (string_bytes c.in_ok-source.source)) same (subst (IsFoundAs p.hir) (sym c.in_ok-source.ensures.ok) read),
      ∣ subst (λ hir. IsAnchored true (meaning hir)) same c.requires.begun ∣₁,
    )
