use Rattle.std.proofs.Common.{◌∙◌}
use Rattle.wasm_reader.proofs.Text.{text_is}
use Rattle.wasm_reader.proofs.names.is_text.Goals as goal

pub returns : goal.returns
returns c = c.is_ok.ensures.value ∙ text_is c.from_utf8.result c.args.bytes.now _ _ (λ x h. h.1) (λ y h. h.0) c.from_utf8.ensures.cases
