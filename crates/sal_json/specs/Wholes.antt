-- What contracts see of a compiled pattern.
use Rattle.sal_json.specs.Patterns.{Text}
use Rattle.sal_json.specs.declared.whole.Kind.{Kind}
use Rattle.sal_json.specs.declared.whole.Kind.TheVariants.{Begun, Free}

-- the text of the pattern
abbrev pub kind_text : Kind → Text
kind_text (Begun pattern) = pattern
kind_text (Free pattern) = pattern
