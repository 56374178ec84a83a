-- A command of one file is one of several, and what is refused reads nothing more.
use Rattle.std.specs.Prelude.{◌≡◌, ℕ, List, [], ◌∷◌, Result, Ok, Err, refl}
use Rattle.edge_outside.specs.declared.fault.IoFault.{IoFault}
use Rattle.edge_outside.specs.Files.{Read}
use Rattle.edge_top.specs.declared.exit.Exit.{Exit}
use Rattle.edge_top.specs.Exit.{of_read}
use Rattle.edge_top.specs.Worked.{Worked}
use Rattle.edge_top.specs.Does.{After, ReadsOne}
use Rattle.edge_top.specs.Several.{Follows, Then, ReadsThen, OnOne}

read_then : (Work : List ℕ → Worked → Type 0) (name asked : List ℕ) (answer : Result (List ℕ) IoFault) (worked : Worked) → asked ≡ name → After Work answer worked → ReadsThen (name ∷ []) (OnOne Work) ((asked, answer) ∷ []) worked
read_then Work name asked (Ok bytes) worked is works = record {
  these = (asked, Ok bytes) ∷ [];
  others = [];
  parts = refl;
  files = Ok (bytes ∷ []);
  are = (is, refl, tt);
  follows = (refl, works);
}
read_then Work name asked (Err fault) worked is ended = record {
  these = (asked, Err fault) ∷ [];
  others = [];
  parts = refl;
  files = Err (of_read fault);
  are = (
    fault,
    (
      record {
        earlier = [];
        left = name ∷ [];
        asked_are = refl;
        before = [];
        last = (asked, Err fault) ∷ [];
        calls_are = refl;
        values = [];
        answered = tt;
        ends = (is, refl);
      },
      refl,
    ),
  );
  follows = (refl, ended);
}

pub one_is_several : (Work : List ℕ → Worked → Type 0) (name : List ℕ) (reads : List Read) (worked : Worked) → ReadsOne name Work reads worked → ReadsThen (name ∷ []) (OnOne Work) reads worked
one_is_several Work name [] worked one = absurd one
one_is_several Work name (read ∷ []) worked one = read_then Work name read.0 read.1 worked one.0 one.1
one_is_several Work name (read ∷ (other ∷ reads)) worked one = absurd one

nothing_more : {V : Type 0} (Is : Result V Exit → Type 0) (Next : V → List Read → Worked → Type 0) (found : Result V Exit) (reads : List Read) (worked : Worked) → ((value : V) → Is (Ok value) → ⊥) → Is found → Follows Next found reads worked → reads ≡ []
nothing_more Is Next (Ok value) reads worked refused is follows = absurd (refused value is)
nothing_more Is Next (Err early) reads worked refused is follows = follows.0

-- what is refused reads nothing more
pub refused_reads_nothing : {V : Type 0} (Is : Result V Exit → Type 0) (Next : V → List Read → Worked → Type 0) (reads : List Read) (worked : Worked) → ((value : V) → Is (Ok value) → ⊥) → Then Is Next reads worked → reads ≡ []
refused_reads_nothing Is Next reads worked refused then = nothing_more Is Next then.found reads worked refused then.is then.follows
