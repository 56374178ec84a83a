-- The run of a load: scripted guests and their schedule, made of random words.
use Rattle.std.specs.Prelude.{ℕ, zero, suc, ◌+◌, ◌*◌, ◌/◌, ◌%◌, List, [], ◌∷◌, ◌++◌, replicate, None}
use Rattle.cache_types.specs.declared.calls.CacheCall.TheVariants.{TxLookup, TxInsert, Write, Finish, Read}
use Rattle.cache_types.specs.declared.calls.Terms.{Terms}
use Rattle.script_lines.specs.declared.line.Line.{Line}
use Rattle.script_lines.specs.declared.line.Named.TheVariants as named
use Rattle.script_lines.specs.declared.step.Step.{Step}
use Rattle.run_files.specs.declared.run.Run.{Run}
use Rattle.edge_load.specs.Words.{word}

-- the first so many of these, from number 0 on
unfoldable pub upto : {X : Type 0} → (ℕ → X) → ℕ → List X
upto f zero = []
upto f (suc n) = upto f n ++ f n ∷ []

-- an object's terms say how long it is fresh, in nanoseconds
abbrev pub terms_for : ℕ → Terms
terms_for max = record { max_age = max; initial_age = 0; stale = 0; surrogates = []; metadata = [] }

-- a lookup of the word's key
abbrev pub looks : ℕ → Line
looks w = record { call = TxLookup (w % 64 ∷ []) []; named = named.Nothing }

-- an insertion by the lookup of this line
abbrev pub inserts : ℕ → ℕ → Line
inserts at w = record { call = TxInsert 0 (record { terms = terms_for (1 + 1000 * ((w / 64) % 4096)); rule = []; length = None }); named = named.Line at }

-- 64 bytes, the finish, and a read of the lookup
abbrev pub writes : ℕ → ℕ → Line
writes at byte = record { call = Write 0 (replicate 64 byte); named = named.Line at }

abbrev pub finishes : ℕ → Line
finishes at = record { call = Finish 0; named = named.Line at }

abbrev pub reads : ℕ → Line
reads at = record { call = Read 0 0 64; named = named.Line at }

-- one round by one word, its first line being this one of the guest's
abbrev pub round : ℕ → ℕ → ℕ → List Line
round byte at w = looks w ∷ inserts at w ∷ writes (at + 1) byte ∷ finishes (at + 1) ∷ reads at ∷ []

-- the first so many rounds of a guest, whose index from 0 is this
unfoldable pub rounds : ℕ → ℕ → ℕ → List Line
rounds number index zero = []
rounds number index (suc n) = rounds number index n ++ round ((index + 1) % 256) (5 * n + 1) (word number (4 * index + n))

-- a guest has four rounds
abbrev pub guest : ℕ → ℕ → List Line
guest number index = rounds number index 4

-- a step of the schedule, whose index from 0 is this; the guests' 2,000 words come before its own
abbrev pub step : ℕ → ℕ → Step
step number index = record { reading = 1000 * (index + 1); player = 1 + word number (2000 + index) % 500 }

-- 500 guests, and so many steps
abbrev pub load_part : ℕ → ℕ → Run
load_part number steps = record { guests = upto (guest number) 500; steps = upto (step number) steps }

-- a load has 50,000 steps
abbrev pub load_run : ℕ → Run
load_run number = load_part number 50000
