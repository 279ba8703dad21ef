use Rattle.sal_command.proofs.Numerals.{read_plain, unread_plain}
use Rattle.sal_command.proofs.words.value_of.Goals as goal

pub returns-in-Ok : goal.returns-in-Ok
returns-in-Ok c = read_plain c.args.word.now c.in-Ok.number c.parse.result c.parse.ensures.value.0 c.in-Ok.is c.requires

pub returns-in-Err : goal.returns-in-Err
returns-in-Err c = unread_plain c.args.word.now _ c.parse.result c.parse.ensures.value.0 c.in-Err.is c.requires
