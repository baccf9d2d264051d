use Rattle.message_tokens.proofs.Plain.{common_plain}
use Rattle.message_tokens.proofs.is_common.Goals as goal

pub returns : goal.returns
returns c = common_plain _
