-- The lines that a batch file alone has, read back.
use Rattle.std.proofs.Common.{◌≡◌, ℕ, false, List, refl, sym, ◌∙◌, ap, lit<}
use Rattle.std.specs.Prelude.{bytes_eq, codes, decimal}
use Rattle.hex.specs.Hex.{IsBytes}
use Rattle.edge_words.specs.Reading.{number_in, number_from_to}
use Rattle.edge_words.proofs.Numbers.{other_bytes}
use Rattle.edge_words.proofs.Laws.{IsNumber, IsFromTo, number_codec, number_from_to_codec}
use Rattle.play_files.specs.Play.{request_text}
use Rattle.play_files.specs.Reading.{request_in}
use Rattle.play_files.proofs.Lines.{IsNamed, named_codec, request_law}

pub limit_law : IsNamed (codes "limit") decimal IsNumber number_in
limit_law = named_codec (codes "limit") decimal IsNumber number_in refl number_codec

pub workers_law : IsNamed (codes "workers") decimal (IsFromTo 1 16) (number_from_to 1 16)
workers_law = named_codec (codes "workers") decimal (IsFromTo 1 16) (number_from_to 1 16) refl (number_from_to_codec 1 16 (lit< tt))

-- the last line is no request
pub no_request : (text : List ℕ) → IsBytes text → bytes_eq (request_text text) (codes "end") ≡ false
no_request text fits = other_bytes (request_text text) (codes "end") (λ e. cc (sym (request_law.again text fits) ∙ ap request_in e))
