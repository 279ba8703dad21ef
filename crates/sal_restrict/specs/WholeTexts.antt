-- Patterns of whole texts.
use Rattle.std.specs.Prelude.{ℕ, List, ◌++◌, codes}

-- the pattern that a text matches if all of it matches this one
abbrev pub whole_text : List ℕ → List ℕ
whole_text p = codes "\\A(?:" ++ (p ++ codes ")\\z")
