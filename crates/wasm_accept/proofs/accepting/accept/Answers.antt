use Rattle.wasm_accept.proofs.Readiness.{read_is_ready}
use Rattle.wasm_accept.proofs.accepting.accept.Goals as goal

pub validate-requires : goal.validate-requires
validate-requires c = read_is_ready c.args.bytes.now c.in-Ok.whole c.in-Ok.ensures.found
