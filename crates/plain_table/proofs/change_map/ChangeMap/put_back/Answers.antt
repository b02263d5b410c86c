use Rattle.plain_table.proofs.Undo.{is_taken_back, is_set_back}
use Rattle.plain_table.proofs.change_map.ChangeMap.put_back.Goals as goal

pub returns-in-None : goal.returns-in-None
returns-in-None c = λ first was. is_taken_back was c.key_of.ensures c.in-None.is c.remove.ensures

pub returns-in-Some : goal.returns-in-Some
returns-in-Some c = λ first was. is_set_back was c.in-Some.old c.in-Some.is c.replace.ensures
