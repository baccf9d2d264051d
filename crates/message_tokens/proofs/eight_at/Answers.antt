use Rattle.message_tokens.proofs.Eight.{eight_joined}
use Rattle.message_tokens.proofs.eight_at.Goals as goal

pub returns : goal.returns
returns c = eight_joined c.args.s.now c.args.at c.from_be_bytes.result c.from_be_bytes.ensures
