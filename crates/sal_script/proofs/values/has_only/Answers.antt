use Rattle.std.proofs.Common.{◌≡◌, ℕ, List, map, true, false, ◌&&◌, Bor, string_bytes, ap, sym, ◌∙◌, rules}
use Rattle.serde_json.specs.View.{view, members_view}
use Rattle.sal_script.specs.Json.{all_named}
use Rattle.sal_script.proofs.JsonData.{all_named-member}
use Rattle.sal_script.proofs.values.has_only.Goals as goal

pub returns-then-not-is_among : goal.returns-then-not-is_among
returns-then-not-is_among c =
    let names = map (λ (name : Bor (List ℕ)). name.now) c.args.names.now in
    let rest = all_named names (members_view c.next.new.self) in
    let all : c.into_iter-key-iterator.result ≡ c.args.members.now.entries = search rules in
    let no : c.is_among.result ≡ false = search rules in
    let one = all_named-member c.args.names.now c.as_str.result.now (string_bytes c.in-Some.key.now) (view c.in-Some.field-0-1.now) (members_view c.next.new.self) c.is_among.result c.as_str.ensures.value c.is_among.ensures in
    sym (ap (λ es. all_named names (members_view es)) (sym all) ∙ sym c.loop-key.invariant ∙ ap (λ es. all_named names (members_view es)) c.in-Some.ensures.steps ∙ one ∙ ap (λ r. r && rest) no)

pub loop-key-preserved : goal.loop-key-preserved
loop-key-preserved c =
    let names = map (λ (name : Bor (List ℕ)). name.now) c.args.names.now in
    let rest = all_named names (members_view c.next.new.self) in
    let yes : c.is_among.result ≡ true = search rules in
    let one = all_named-member c.args.names.now c.as_str.result.now (string_bytes c.in-Some.key.now) (view c.in-Some.field-0-1.now) (members_view c.next.new.self) c.is_among.result c.as_str.ensures.value c.is_among.ensures in
    sym (ap (λ es. all_named names (members_view es)) c.in-Some.ensures.steps ∙ one ∙ ap (λ r. r && rest) yes) ∙ c.loop-key.invariant
