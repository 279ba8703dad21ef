-- The statements of a module that the profile refuses, or that are read and ignored.
use Rattle.std.specs.Prelude.{ℕ, zero, suc, Bool, ◌||◌, List, [], ◌∷◌, ◌++◌, Option, None, Some, if◌then◌else◌}
use Rattle.std.specs.List.{flat_map}
use Rattle.sal_stmt.specs.declared.stmt.Stmt.{Stmt, out-Stmt}
use Rattle.sal_module.specs.declared.keyword.Keyword.TheVariants as word
use Rattle.sal_module.specs.LeftOut.{is_instance_identifier, is_ordered_by_user, lacks_keys}
use Rattle.sal_module.specs.Profile.{is_left_out_word, is_prefixed}
use Rattle.sal_module.specs.Statements.{is_named, subs_of}
use Rattle.sal_lint.specs.declared.notes.Note.{Note}
use Rattle.sal_lint.specs.declared.notes.Note.TheVariants.{Ignored, Refused}
use Rattle.sal_lint.specs.declared.notes.Noted.{Noted}

-- a keyword that the profile leaves out
abbrev pub is_left_out : Stmt → Bool
is_left_out stmt = is_left_out_word (out-Stmt stmt).keyword

-- such a statement, a list without keys, one that its user orders, or an instance identifier
abbrev pub is_refused : Stmt → Bool
is_refused stmt = is_left_out stmt || (lacks_keys stmt || (is_ordered_by_user stmt || is_instance_identifier stmt))

-- a condition, or a default value
abbrev pub is_ignored : Stmt → Bool
is_ignored stmt = is_named word.Must stmt || (is_named word.When stmt || (is_named word.IfFeature stmt || is_named word.Default stmt))

abbrev pub note_of : Stmt → Option Note
note_of stmt = if is_refused stmt then Some Refused else (if is_ignored stmt then Some Ignored else None)

abbrev pub noted : ℕ → Option Note → List Noted
noted at None = []
noted at (Some note) = record { note = note; at = at } ∷ []

-- what is noted of the statement itself
abbrev pub own_notes : Stmt → List Noted
own_notes stmt = noted (out-Stmt stmt).at (note_of stmt)

-- the statements of its block are not looked at: the profile leaves it out, or it is of an extension
abbrev pub is_closed : Stmt → Bool
is_closed stmt = is_left_out stmt || (is_prefixed (out-Stmt stmt).keyword || is_named word.Extension stmt)

-- of a statement and those in `levels` levels below it, in the order of the text
unfoldable pub notes_in : ℕ → Stmt → List Noted
notes_in zero stmt = own_notes stmt
notes_in (suc levels) stmt = own_notes stmt ++ (if is_closed stmt then [] else flat_map (notes_in levels) (subs_of stmt))
