use Rattle.wasm_code.proofs.numbers.+unsigned.Given as goal

abbrev pub decreases-unsigned : goal.decreases-unsigned
decreases-unsigned l = l.limit
