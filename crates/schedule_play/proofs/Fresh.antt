-- One more answered call, and the ticket that it may give.
use Rattle.std.specs.Prelude.{◌≡◌, ℕ, Bool, true, false, List, [], ◌∷◌, ◌++◌, refl}
use Rattle.cache_types.specs.declared.outer.OuterReply.{OuterReply}
use Rattle.cache_types.specs.declared.outer.OuterReply.TheVariants.{Started}
use Rattle.player.specs.Plays.{Answered}
use Rattle.player.specs.Tickets.{held_after, held_behind, is_among, IsFresh, AreFreshBehind}

pub held-more : (held : List ℕ) (trace : List Answered) (a : Answered) → held_behind held (trace ++ a ∷ []) ≡ held_after (held_behind held trace) a
held-more held [] a = refl
held-more held (b ∷ trace) a = held-more (held_after held b) trace a

pub fresh-more : (held : List ℕ) (trace : List Answered) (a : Answered) → AreFreshBehind held trace → IsFresh (held_behind held trace) a.reply → AreFreshBehind held (trace ++ a ∷ [])
fresh-more held [] a fresh new = (new, tt)
fresh-more held (b ∷ trace) a fresh new = (fresh.0, fresh-more (held_after held b) trace a fresh.1 new)

pub fresh-given : (reply : OuterReply) (held : List ℕ) → ((ticket : ℕ) → reply ≡ Started ticket → is_among held ticket ≡ true → ⊥) → IsFresh held reply
fresh-given (Started ticket) held none =
    let with : (b : Bool) → is_among held ticket ≡ b → is_among held ticket ≡ false = elim [ true ↦ λ is. absurd (none ticket refl is) | false ↦ λ is. is ] in with (is_among held ticket) refl
fresh-given _ held none = tt
