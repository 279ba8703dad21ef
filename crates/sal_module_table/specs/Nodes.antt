-- The properties that a node has from its statement (RFC 7950 section 7).
use Rattle.std.specs.Prelude.{ℕ, Bool, true, false, List as Row, [], Option, Some, None, is_some, find, min, option_map, if◌then◌else◌, codes}
use Rattle.std.specs.List.{list_any}
use Rattle.std.specs.Option.{option_map_or}
use Rattle.sal_stmt.specs.declared.stmt.Stmt.{Stmt, out-Stmt}
use Rattle.sal_module.specs.declared.keyword.Keyword.{Keyword}
use Rattle.sal_module.specs.declared.keyword.Keyword.TheVariants as word
use Rattle.sal_module.specs.Keywords.{same, keyword_of}
use Rattle.sal_module.specs.Arguments.{decimal}
use Rattle.sal_module.specs.Statements.{is_named, subs_of, argument_of}
use Rattle.sal_module.specs.Modules.{stmt_at}
use Rattle.sal_grouping.specs.declared.forest.Branch.{Branch}
use Rattle.sal_grouping.specs.declared.forest.Implied.{Implied}
use Rattle.sal_grouping.specs.declared.forest.Implied.TheVariants as implied
use Rattle.sal_schema.specs.declared.kind.Kind.{Kind}
use Rattle.sal_schema.specs.declared.kind.Kind.TheVariants.{Container, List, LeafList, Leaf, Choice, Case, Rpc, Input, Output, Notification}

-- ---- its statement

-- the statement at the offset of a node
abbrev pub stmt_of : Row Stmt → Branch → Option Stmt
stmt_of stmts b = stmt_at stmts b.source b.at

-- the statement of a node that is not implied
abbrev pub own_stmt : Row Stmt → Branch → Option Stmt
own_stmt stmts b = if is_some b.implied then None else stmt_of stmts b

-- ---- its kind

abbrev pub has : Keyword → Option Stmt → Bool
has keyword None = false
has keyword (Some stmt) = list_any (is_named keyword) (subs_of stmt)

abbrev pub keyword_in : Option Stmt → Option Keyword
keyword_in None = None
keyword_in (Some stmt) = keyword_of (out-Stmt stmt).keyword

-- No other statement makes a node.
abbrev pub kind_among : Bool → Option Keyword → Kind
kind_among presence (Some word.List) = List
kind_among presence (Some word.LeafList) = LeafList
kind_among presence (Some word.Leaf) = Leaf
kind_among presence (Some word.Choice) = Choice
kind_among presence (Some word.Case) = Case
kind_among presence (Some word.Rpc) = Rpc
kind_among presence (Some word.Input) = Input
kind_among presence (Some word.Output) = Output
kind_among presence (Some word.Notification) = Notification
kind_among presence keyword = Container presence

abbrev pub kind_in : Option Stmt → Option Implied → Kind
kind_in stmt None = kind_among (has word.Presence stmt) (keyword_in stmt)
kind_in stmt (Some implied.Case) = Case
kind_in stmt (Some implied.Input) = Input
kind_in stmt (Some implied.Output) = Output

abbrev pub kind_of : Row Stmt → Branch → Kind
kind_of stmts b = kind_in (stmt_of stmts b) b.implied

-- ---- its name

abbrev pub argument_in : Option Stmt → Row ℕ
argument_in None = []
argument_in (Some stmt) = argument_of stmt

abbrev pub name_in : Kind → Row ℕ → Row ℕ
name_in Input name = codes "input"
name_in Output name = codes "output"
name_in kind name = name

-- an implied case has the name of its node
abbrev pub name_of : Row Stmt → Branch → Row ℕ
name_of stmts b = name_in (kind_of stmts b) (argument_in (stmt_of stmts b))

-- ---- its substatements

-- the argument of the statement of this keyword
abbrev pub stated : Keyword → Option Stmt → Option (Row ℕ)
stated keyword None = None
stated keyword (Some stmt) = option_map argument_of (find (is_named keyword) (subs_of stmt))

abbrev pub is_true : Row ℕ → Bool
is_true text = same text (codes "true")

abbrev pub own_config : Option Stmt → Option Bool
own_config stmt = option_map is_true (stated word.Config stmt)

abbrev pub is_mandatory : Option Stmt → Bool
is_mandatory stmt = option_map_or is_true (stated word.Mandatory stmt) false

-- A number of the profile is below 2 ^ 32.
abbrev pub count_of : Row ℕ → ℕ
count_of text = min (decimal text) 4294967295

abbrev pub min_elements : Option Stmt → ℕ
min_elements stmt = option_map_or count_of (stated word.MinElements stmt) 0

abbrev pub limit_of : Row ℕ → Option ℕ
limit_of text = if same text (codes "unbounded") then None else Some (count_of text)

abbrev pub max_elements : Option Stmt → Option ℕ
max_elements stmt = option_map_or limit_of (stated word.MaxElements stmt) None

-- the parameters of an operation, and the nodes below a notification, are not data
abbrev pub is_operation : Kind → Bool
is_operation Rpc = true
is_operation Notification = true
is_operation kind = false
