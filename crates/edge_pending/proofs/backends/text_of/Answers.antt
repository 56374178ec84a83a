use Rattle.std.proofs.Common.{List, ℕ, sym, subst}
use Rattle.std.specs.Prelude.{IsUtf8}
use Rattle.edge_pending.proofs.Addresses.{address_text}
use Rattle.edge_pending.proofs.backends.text_of.Goals as goal

pub unreachable-requires : goal.unreachable-requires
unreachable-requires c =
    let P : List ℕ → Type 0 = IsUtf8 in
    c.in-Err.ensures.cases.0 (subst P (sym c.bytes.ensures) (address_text c.args.address.now c.requires))
