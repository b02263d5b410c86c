use Rattle.cmd_file.proofs.Forms.{items_have_their_form}
use Rattle.cmd_file.proofs.laws.items_have_their_form.Goals as goal

pub returns : goal.returns
returns c = items_have_their_form
