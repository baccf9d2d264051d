use Rattle.std.proofs.Common.{rules}
use Rattle.classes.specs.Bytes.{is_blank}
use Rattle.message_tokens.proofs.Heads.{lacks_byte}
use Rattle.message_tokens.proofs.Cursor.lacks_comma.Goals as goal

pub returns : goal.returns
returns c = λ e. lacks_byte c.args.s.now _ _ (c.run_end-from.ensures is_blank (λ b r h. search rules)) c.get_or.result c.get_or.ensures e
