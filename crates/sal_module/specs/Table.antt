-- The table of the profile, taken from the code's constant.
use Rattle.std.specs.Prelude.{ℕ, List, [], map, find, Option, option_map, option_and_then, unwrap_or}
use Rattle.std.specs.List.{flat_map}
use Rattle.std.specs.Borrow.{Bor}
use Rattle.sal_module.specs.declared.keyword.Keyword.{Keyword}
use Rattle.sal_module.specs.declared.argument.Form.{Form}
use Rattle.sal_module.specs.declared.argument.Form.TheVariants.{Text}
use Rattle.sal_module.specs.declared.table.Often.{Often}
use Rattle.sal_module.specs.declared.table.TheConstants.{TABLE}
use Rattle.sal_module.specs.Keywords.{same_keyword, keyword_of}

-- a keyword and how often its statement may occur
abbrev pub Entry : Type 0
Entry = Keyword × Often

pub record Rule : Type 0 where
  pub argument : Form
  pub entries : List Entry

abbrev pub rule_view : Form × Bor (List (Bor (List Entry))) → Rule
rule_view rule = record { argument = rule.0; entries = flat_map (λ (part : Bor (List Entry)). part.now) rule.1.now }

abbrev pub row_view : Keyword × Form × Bor (List (Bor (List Entry))) → Keyword × Rule
row_view row = (row.0, rule_view (row.1, row.2))

abbrev pub rule_among : List (Keyword × Rule) → Keyword → Option Rule
rule_among rows keyword = option_map (λ (row : Keyword × Rule). row.1) (find (λ (row : Keyword × Rule). same_keyword row.0 keyword) rows)

unfoldable pub rows : List (Keyword × Rule)
rows = map (λ row. (row.0, record { argument = row.1; entries = flat_map (λ part. part.now) row.2.now })) TABLE

unfoldable pub rule_at : Keyword → Option Rule
unfolding rows
rule_at keyword = rule_among rows keyword

-- any text, and no substatements
abbrev pub text_rule : Rule
text_rule = record { argument = Text; entries = [] }

-- the rule of a statement, by the spelling of its keyword
unfoldable pub rule_of : List ℕ → Rule
rule_of word = unwrap_or (option_and_then rule_at (keyword_of word)) text_rule
