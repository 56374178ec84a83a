use Rattle.std.proofs.Common.{◌≡◌, ◌+◌, ℕ, true, List, length, rules, arith, subst}
use Rattle.std.specs.Prelude.{nat_le, Err, Ok}
use Rattle.std.proofs.lemmas.Grind.{common_steps}
use Rattle.wasm_memory.specs.Linear.{Linear}
use Rattle.edge_abi.specs.declared.status.Refusal.{Refusal}
use Rattle.edge_abi.specs.declared.status.Status.TheVariants as status
use Rattle.edge_abi.specs.Refusals.{Judges}
use Rattle.cache_calls.specs.Options.{text_given, as_keys, terms_of}
use Rattle.cache_calls.proofs.Judging.{judges_behind}
use Rattle.cache_calls.proofs.writings.terms_at.Goals as goal

pub returns-in_err-surrogates-clause-asked : goal.returns-in_err-surrogates-clause-asked
returns-in_err-surrogates-clause-asked c =
    let m : Linear = c.args.memory.now in
    let keys : List ℕ = text_given m c.args.mask 32 (c.args.q + 40) in
    let refusal : Refusal = c.in_err-surrogates.field-0.0 in
    let same : c.from_residual-in_err-surrogates.result ≡ Err refusal = search rules in
    let short : nat_le (length (text_given m c.args.mask 128 (c.args.q + 56))) 65536 ≡ true = first_of (search rules, grind (arith, common_steps)) in
    let given : c.text_given.result.now ≡ keys = search rules in
    let asked : Judges (as_keys keys) (Err refusal) = subst (λ (text : List ℕ). Judges (as_keys text) (Err refusal)) given c.in_err-surrogates.ensures.asked in
    rw same (judges_behind (nat_le (length (text_given m c.args.mask 128 (c.args.q + 56))) 65536) status.Limitexceeded (as_keys keys) (λ found. Ok (terms_of m c.args.mask c.args.q found)) refusal short asked)
