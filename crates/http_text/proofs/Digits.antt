-- The number that digits tell, one digit after the other.
use Rattle.std.proofs.Common.{◌≡◌, ℕ, ◌+◌, ◌*◌, ◌<◌, List, length, take, get_or, min, sym, ◌∙◌, ap, arith}
use Rattle.std.proofs.lemmas.List.{take_more}
use Rattle.std.specs.Char.{digit_value}
use Rattle.std.specs.Str.Parse.{digits_value}
use Rattle.httparse.proofs.ChunkLemmas.{digits_value_after_push}

capped : (v w d m : ℕ) → v ≡ min w m → min (v * 10 + d) m ≡ min (w * 10 + d) m
capped v w d m e = omega arith

pub digits_more : (text : List ℕ) (i v r : ℕ) → i < length text → v ≡ min (digits_value 10 (take i text)) 67108865
    → r ≡ min (v * 10 + digit_value (get_or text i 0)) 67108865 → r ≡ min (digits_value 10 (take (i + 1) text)) 67108865
digits_more text i v r inside before after =
    after ∙ capped v (digits_value 10 (take i text)) _ 67108865 before
    ∙ ap (λ n. min n 67108865) (sym (ap (digits_value 10) (take_more text i 0 inside) ∙ digits_value_after_push 10 0 (take i text) (get_or text i 0)))
