use Rattle.wasm_code.proofs.numbers.+signed.Given as goal

abbrev pub decreases-signed : goal.decreases-signed
decreases-signed l = l.limit
