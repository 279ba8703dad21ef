use Rattle.std.proofs.Common.{◌≡◌, ◌∙◌, ℕ, List, [], ◌∷◌, Some, refl, ap}
use Rattle.std.specs.String.{string_bytes}
use Rattle.sal_module.specs.Imports.{find_named, prefix_of}
use Rattle.sal_module.proofs.NamedPrefixes.{find_named-put}
use Rattle.sal_module.proofs.prefixes.with_own.Goals as goal

pub returns : goal.returns
returns c =
    let is : string_bytes c.in_ok-prefix.prefix ≡ prefix_of c.args.stmt.now = c.in_ok-prefix.ensures.ok ∙ c.value_of.ensures in
    λ q. find_named-put c.new-map.result c.insert.new.self c.in_ok-prefix.prefix (Some c.args.number) c.in_ok-insert.ensures.updates [] (λ p. rw c.new-map.ensures.empty refl) refl q
    ∙ ap (λ (b : List ℕ). find_named ((b, Some c.args.number) ∷ []) q) is
