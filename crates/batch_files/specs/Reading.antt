-- Reading the lines that a batch file alone has, on lists.
use Rattle.std.specs.Prelude.{ℕ, List, codes, Option}
use Rattle.edge_words.specs.Reading.{number_in, number_from_to}
use Rattle.play_files.specs.Reading.{named_in}

abbrev pub limit_in : List ℕ → Option ℕ
limit_in line = named_in (codes "limit") number_in line

abbrev pub workers_in : List ℕ → Option ℕ
workers_in line = named_in (codes "workers") (number_from_to 1 16) line
