-- Properties of the kinds of schema nodes (RFC 7950 section 7).
use Rattle.std.specs.Prelude.{ℕ, Bool, true, false, List as Row, codes}
use Rattle.sal_schema.specs.contracts.kind.KindPartialEq.TheImpl as kind_partial_eq
use Rattle.sal_schema.specs.declared.kind.Kind.{Kind}
use Rattle.sal_schema.specs.declared.kind.Kind.TheVariants.{Container, List, LeafList, Leaf, Choice, Case, Rpc, Input, Output, Notification}

-- the derived `==` of kinds
abbrev pub kind_eq : Kind → Kind → Bool
kind_eq = (kind_partial_eq.ghosts).eq

-- a step of a path names it: a container, a list, a leaf-list or a leaf
abbrev pub is_data : Kind → Bool
is_data (Container presence) = true
is_data List = true
is_data LeafList = true
is_data Leaf = true
is_data kind = false

-- paths skip it
abbrev pub is_choice_or_case : Kind → Bool
is_choice_or_case Choice = true
is_choice_or_case Case = true
is_choice_or_case kind = false

-- the input or output of an RPC, or a notification: the parent of the data of a message
abbrev pub is_message : Kind → Bool
is_message Input = true
is_message Output = true
is_message Notification = true
is_message kind = false

-- its entries have keys or a value
abbrev pub has_entries : Kind → Bool
has_entries List = true
has_entries LeafList = true
has_entries kind = false

abbrev pub is_list : Kind → Bool
is_list List = true
is_list kind = false

abbrev pub is_leaf_list : Kind → Bool
is_leaf_list LeafList = true
is_leaf_list kind = false

abbrev pub is_leaf : Kind → Bool
is_leaf Leaf = true
is_leaf kind = false

-- it has a type
abbrev pub has_type : Kind → Bool
has_type Leaf = true
has_type LeafList = true
has_type kind = false

abbrev pub is_presence : Kind → Bool
is_presence (Container presence) = presence
is_presence kind = false

abbrev pub is_choice : Kind → Bool
is_choice Choice = true
is_choice kind = false

abbrev pub is_case : Kind → Bool
is_case Case = true
is_case kind = false

abbrev pub is_rpc : Kind → Bool
is_rpc Rpc = true
is_rpc kind = false

abbrev pub is_notification : Kind → Bool
is_notification Notification = true
is_notification kind = false

-- the input or the output of an RPC
abbrev pub is_parameters : Kind → Bool
is_parameters Input = true
is_parameters Output = true
is_parameters kind = false

-- its word in the table's text
abbrev pub word : Kind → Row ℕ
word (Container false) = codes "container"
word (Container true) = codes "presence"
word List = codes "list"
word LeafList = codes "leaf-list"
word Leaf = codes "leaf"
word Choice = codes "choice"
word Case = codes "case"
word Rpc = codes "rpc"
word Input = codes "input"
word Output = codes "output"
word Notification = codes "notification"
