use Rattle.std.proofs.lemmas.Str.{utf8_valid_len-IsUtf8}
use Rattle.fastly_toml.proofs.Loops.{is_text}
use Rattle.fastly_toml.proofs.texts.text_of.Goals as goal

pub returns-in-Ok : goal.returns-in-Ok
returns-in-Ok c = is_text c.args.bytes.now c.in-Ok.text.now c.in-Ok.ensures.cases.0 (utf8_valid_len-IsUtf8 c.args.bytes.now c.in-Ok.ensures.cases.1)
