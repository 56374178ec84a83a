-- A machine that reads exactly the good texts tells the first line that can't stand where it stands.
use Rattle.std.proofs.Common.{◌≡◌, ◌<◌, ◌≤◌, ◌+◌, ◌-◌, ℕ, suc, true, List, [], ◌∷◌, ◌++◌, length, take, refl, sym, ◌∙◌, ap, subst, Option, None, Some, Result, Ok, Err, arith, inl, inr, append_assoc, append-nil}
use Rattle.std.specs.Option.{option_map_or}
use Rattle.std.specs.Result.{IfOk, IfErr}
use Rattle.std.specs.List.{list_all}
use Rattle.std.proofs.lemmas.Option.{same_Some}
use Rattle.edge_words.specs.Words.{text_of}
use Rattle.edge_words.specs.Reading.{parts_at, whole_lines, after_lines, all_but_last, last_of, ◌>>=◌}
use Rattle.edge_words.proofs.Lines.{lacks, lines_takes, lines_again, not_last}
use Rattle.edge_words.proofs.Laws.{bind_some}
use Rattle.edge_words.proofs.Parts.{words_left}
use Rattle.line_reader.specs.declared.fault.RunFault.{RunFault}
use Rattle.line_reader.specs.declared.fault.RunFault.TheVariants as fault
use Rattle.line_reader.specs.ByLines.{Machine, after_all, ok_or_line, told, told_of, Tells, IsReadAs, Begins, IsBadLine, IsFirstBad}

-- ---- one line of a text

-- a cut takes the first line off
cut_whole : (rest line after : List ℕ) → parts_at 10 rest ≡ line ∷ parts_at 10 after → (whole_lines rest ≡ line ∷ whole_lines after) × (after_lines rest ≡ after_lines after)
cut_whole rest line after e =
    let more = not_last line (parts_at 10 after) (words_left 10 after) in
    (ap all_but_last e ∙ more.0, ap last_of e ∙ more.1)

told_next : {S V : Type 0} (m : Machine S V) (n : ℕ) (p : S) (rest line after : List ℕ) → parts_at 10 rest ≡ line ∷ parts_at 10 after
    → told m n p (whole_lines rest) (after_lines rest) ≡ option_map_or (λ next. told m (n + 1) next (whole_lines after) (after_lines after)) (m.after p line) (Err n)
told_next m n p rest line after e =
    let parts = cut_whole rest line after e in
    ap (λ (lines : List (List ℕ)). told m n p lines (after_lines rest)) parts.0 ∙ ap (λ (tail : List ℕ). told m n p (line ∷ whole_lines after) tail) parts.1

pub told_goes : {S V : Type 0} (m : Machine S V) (n : ℕ) (p q : S) (rest line after : List ℕ) → parts_at 10 rest ≡ line ∷ parts_at 10 after → m.after p line ≡ Some q
    → told m n p (whole_lines rest) (after_lines rest) ≡ told m (n + 1) q (whole_lines after) (after_lines after)
told_goes {S} {V} m n p q rest line after e goes =
    told_next m n p rest line after e ∙ ap (λ (o : Option S). option_map_or (λ next. told m (n + 1) next (whole_lines after) (after_lines after)) o (Err n)) goes

pub told_bad : {S V : Type 0} (m : Machine S V) (n : ℕ) (p : S) (rest line after : List ℕ) → parts_at 10 rest ≡ line ∷ parts_at 10 after → m.after p line ≡ None
    → told m n p (whole_lines rest) (after_lines rest) ≡ Err n
told_bad {S} {V} m n p rest line after e stuck =
    told_next m n p rest line after e ∙ ap (λ (o : Option S). option_map_or (λ next. told m (n + 1) next (whole_lines after) (after_lines after)) o (Err n)) stuck

pub told_end : {S V : Type 0} (m : Machine S V) (n : ℕ) (p : S) (rest : List ℕ) → parts_at 10 rest ≡ rest ∷ [] → told m n p (whole_lines rest) (after_lines rest) ≡ ok_or_line n (m.finished p rest)
told_end m n p rest e =
    ap (λ (lines : List (List ℕ)). told m n p lines (after_lines rest)) (ap all_but_last e) ∙ ap (λ (tail : List ℕ). told m n p [] tail) (ap last_of e)

-- ---- what was told

-- the first i lines are taken, and not one more; where all are taken the text is not finished
record Stops {S V : Type 0} (m : Machine S V) (p : S) (lines : List (List ℕ)) (rest : List ℕ) (i : ℕ) : Type 0 where
  within : i ≤ length lines
  state : S
  front : after_all m p (take i lines) ≡ Some state
  here : i < length lines → after_all m p (take (i + 1) lines) ≡ None
  last : i ≡ length lines → m.finished state rest ≡ None

stops_here : {S V : Type 0} (m : Machine S V) (k n : ℕ) (p : S) (line : List ℕ) (lines : List (List ℕ)) (rest : List ℕ) → m.after p line ≡ None → k ≡ n → (i : ℕ) × (n ≡ k + i) × Stops m p (line ∷ lines) rest i
stops_here m k n p line lines rest none same = (
  0,
  omega arith,
  record {
    within = omega arith;
    state = p;
    front = refl;
    here = λ lt. rw none refl;
    last = λ e. absurd (omega (arith, e));
  },
)

stops_later : {S V : Type 0} (m : Machine S V) (k n : ℕ) (p q : S) (line : List ℕ) (lines : List (List ℕ)) (rest : List ℕ) → m.after p line ≡ Some q → (i : ℕ) × (n ≡ k + 1 + i) × Stops m q lines rest i → (i : ℕ) × (n ≡ k + i) × Stops m p (line ∷ lines) rest i
stops_later m k n p q line lines rest goes found =
    let stops = found.2 in
    let next : (ls : List (List ℕ)) → after_all m p (line ∷ ls) ≡ after_all m q ls = λ ls. rw goes refl in
    let one : suc found.0 + 1 ≡ suc (found.0 + 1) = omega arith in (
      suc found.0,
      omega (arith, found.1),
      record {
        within = omega (arith, stops.within);
        state = stops.state;
        front = next (take found.0 lines) ∙ stops.front;
        here = λ lt. ap (λ (n : ℕ). after_all m p (take n (line ∷ lines))) one ∙ next (take (found.0 + 1) lines) ∙ stops.here (omega (arith, lt));
        last = λ e. stops.last (omega (arith, e));
      },
    )

told_stops : {S V : Type 0} (m : Machine S V) (k n : ℕ) (p : S) (lines : List (List ℕ)) (rest : List ℕ) → told m k p lines rest ≡ Err n → (i : ℕ) × (n ≡ k + i) × Stops m p lines rest i
told_stops {S} {V} m k n p [] rest e =
    let with : (o : Option V) → m.finished p rest ≡ o → ok_or_line k o ≡ Err n → (i : ℕ) × (n ≡ k + i) × Stops m p [] rest i =
    elim [
      | None ↦ λ none told.
          let same : k ≡ n = cc told in
          (0, omega arith, record { within = omega arith; state = p; front = refl; here = λ lt. absurd (omega (arith, lt)); last = λ _. none })
      | Some value ↦ λ some told. cc told
    ] in with (m.finished p rest) refl e
told_stops {S} {V} m k n p (line ∷ lines) rest e =
    let with : (o : Option S) → m.after p line ≡ o → option_map_or (λ next. told m (k + 1) next lines rest) o (Err k) ≡ Err n → (i : ℕ) × (n ≡ k + i) × Stops m p (line ∷ lines) rest i =
    elim [
      | None ↦ λ none told. let same : k ≡ n = cc told in stops_here m k n p line lines rest none same
      | Some q ↦ λ goes told. stops_later m k n p q line lines rest goes (told_stops m (k + 1) n q lines rest told)
    ] in with (m.after p line) refl e

told_found : {S V : Type 0} (m : Machine S V) (k : ℕ) (p : S) (lines : List (List ℕ)) (rest : List ℕ) (value : V) → told m k p lines rest ≡ Ok value → (q : S) × (after_all m p lines ≡ Some q) × (m.finished q rest ≡ Some value)
told_found {S} {V} m k p [] rest value e =
    let with : (o : Option V) → m.finished p rest ≡ o → ok_or_line k o ≡ Ok value → (q : S) × (Some p ≡ Some q) × (m.finished q rest ≡ Some value) =
    elim [
      | None ↦ λ none told. cc told
      | Some found ↦ λ some told. (p, refl, cc (some, told))
    ] in with (m.finished p rest) refl e
told_found {S} {V} m k p (line ∷ lines) rest value e =
    let with : (o : Option S) → m.after p line ≡ o → option_map_or (λ next. told m (k + 1) next lines rest) o (Err k) ≡ Ok value → (q : S) × (after_all m p (line ∷ lines) ≡ Some q) × (m.finished q rest ≡ Some value) =
    elim [
      | None ↦ λ none told. cc told
      | Some next ↦ λ goes told. let found = told_found m (k + 1) next lines rest value told in (found.0, rw goes found.1, found.2)
    ] in with (m.after p line) refl e

told_all : {S V : Type 0} (m : Machine S V) (k : ℕ) (p q : S) (lines : List (List ℕ)) (rest : List ℕ) → after_all m p lines ≡ Some q → told m k p lines rest ≡ ok_or_line (k + length lines) (m.finished q rest)
told_all {S} m k p q [] rest e =
    let none : k ≡ k + 0 = omega arith in
    ap (λ (r : S). ok_or_line k (m.finished r rest)) (same_Some _ _ e) ∙ ap (λ (n : ℕ). ok_or_line n (m.finished q rest)) none
told_all {S} m k p q (line ∷ lines) rest e =
    let first = bind_some (m.after p line) (λ next. after_all m next lines) q e in
    let count : k + 1 + length lines ≡ k + length (line ∷ lines) = omega arith in
    ap (λ (o : Option S). option_map_or (λ next. told m (k + 1) next lines rest) o (Err k)) first.1
    ∙ told_all m (k + 1) first.0 q lines rest first.2
    ∙ ap (λ (n : ℕ). ok_or_line n (m.finished q rest)) count

after_all-append : {S V : Type 0} (m : Machine S V) (p : S) (front back : List (List ℕ)) → after_all m p (front ++ back) ≡ (after_all m p front >>= λ q. after_all m q back)
after_all-append m p [] back = refl
after_all-append {S} m p (line ∷ front) back =
    let with : (o : Option S) → (o >>= λ q. after_all m q (front ++ back)) ≡ ((o >>= λ q. after_all m q front) >>= λ q. after_all m q back) =
    elim [ None ↦ refl | Some q ↦ after_all-append m q front back ] in with (m.after p line)

-- ---- a machine that reads exactly the good texts

-- What the lines so far were, and that each state is that of a text which can be finished. What is good is taken line by
-- line, and what is taken to the end is good.
pub record IsExact {S V : Type 0} (m : Machine S V) (Fits : V → Type 0) (spell : V → List (List ℕ)) (lines_to : S → List (List ℕ)) (Stands : S → Type 0) : Type 0 where
  pub starts : Stands m.start
  pub at_start : lines_to m.start ≡ []
  pub takes : (p q : S) (line : List ℕ) → Stands p → m.after p line ≡ Some q → Stands q × (lines_to q ≡ lines_to p ++ line ∷ [])
  pub begins : (p : S) → Stands p → Begins Fits spell (lines_to p)
  pub ends : (p : S) (rest : List ℕ) (value : V) → Stands p → m.finished p rest ≡ Some value → Fits value × (spell value ≡ lines_to p) × (rest ≡ [])
  pub goes : (value : V) → Fits value → (p : S) × (after_all m m.start (spell value) ≡ Some p) × (m.finished p [] ≡ Some value)
  pub feed : (value : V) → Fits value → list_all (lacks 10) (spell value) ≡ true

lines_take : {S V : Type 0} (m : Machine S V) (Fits : V → Type 0) (spell : V → List (List ℕ)) (lines_to : S → List (List ℕ)) (Stands : S → Type 0) → IsExact m Fits spell lines_to Stands
    → (p q : S) (lines : List (List ℕ)) → Stands p → after_all m p lines ≡ Some q → Stands q × (lines_to q ≡ lines_to p ++ lines)
lines_take {S} m Fits spell lines_to Stands exact p q [] stands e =
    let P : S → Type 0 = λ q. Stands q × (lines_to q ≡ lines_to p ++ []) in
    subst P (same_Some _ _ e) (stands, sym (append-nil (lines_to p)))
lines_take m Fits spell lines_to Stands exact p q (line ∷ lines) stands e =
    let first = bind_some (m.after p line) (λ next. after_all m next lines) q e in
    let taken = exact.takes p first.0 line stands first.1 in
    let rest = lines_take m Fits spell lines_to Stands exact first.0 q lines taken.0 first.2 in
    (rest.0, rest.1 ∙ ap (λ (ls : List (List ℕ)). ls ++ lines) taken.1 ∙ append_assoc (lines_to p) (line ∷ []) lines)

-- the same from the start
all_take : {S V : Type 0} (m : Machine S V) (Fits : V → Type 0) (spell : V → List (List ℕ)) (lines_to : S → List (List ℕ)) (Stands : S → Type 0) → IsExact m Fits spell lines_to Stands
    → (q : S) (lines : List (List ℕ)) → after_all m m.start lines ≡ Some q → Stands q × (lines_to q ≡ lines)
all_take m Fits spell lines_to Stands exact q lines e =
    let taken = lines_take m Fits spell lines_to Stands exact m.start q lines exact.starts e in
    (taken.0, taken.1 ∙ ap (λ (ls : List (List ℕ)). ls ++ lines) exact.at_start)

-- some good text begins with lines that the machine takes
begins_some : {S V : Type 0} (m : Machine S V) (Fits : V → Type 0) (spell : V → List (List ℕ)) (lines_to : S → List (List ℕ)) (Stands : S → Type 0) → IsExact m Fits spell lines_to Stands
    → (lines : List (List ℕ)) (p : S) → after_all m m.start lines ≡ Some p → Begins Fits spell lines
begins_some m Fits spell lines_to Stands exact lines p e =
    let taken = all_take m Fits spell lines_to Stands exact p lines e in
    let P : List (List ℕ) → Type 0 = Begins Fits spell in
    subst P taken.1 (exact.begins p taken.0)

-- and none with lines that it doesn't take
begins_none : {S V : Type 0} (m : Machine S V) (Fits : V → Type 0) (spell : V → List (List ℕ)) (lines_to : S → List (List ℕ)) (Stands : S → Type 0) → IsExact m Fits spell lines_to Stands
    → (lines : List (List ℕ)) → after_all m m.start lines ≡ None → Begins Fits spell lines → ⊥
begins_none {S} m Fits spell lines_to Stands exact lines none begins =
    let all = exact.goes begins.value begins.fits in
    let split = ap (after_all m m.start) begins.begins ∙ after_all-append m m.start lines begins.rest in
    cc (sym all.1 ∙ split ∙ ap (λ (o : Option S). o >>= λ q. after_all m q begins.rest) none)

-- ---- in the words of the texts

-- what is read is spelled so
pub found_value : {S V : Type 0} (m : Machine S V) (Fits : V → Type 0) (spell : V → List (List ℕ)) (lines_to : S → List (List ℕ)) (Stands : S → Type 0) → IsExact m Fits spell lines_to Stands
    → (bytes : List ℕ) (value : V) → told_of m bytes ≡ Ok value → Fits value × (bytes ≡ text_of (spell value))
found_value m Fits spell lines_to Stands exact bytes value e =
    let found = told_found m 1 m.start (whole_lines bytes) (after_lines bytes) value e in
    let taken = all_take m Fits spell lines_to Stands exact found.0 (whole_lines bytes) found.1 in
    let ended = exact.ends found.0 (after_lines bytes) value taken.0 found.2 in (
      ended.0,
      sym (lines_takes bytes)
          ∙ ap (λ (tail : List ℕ). text_of (whole_lines bytes) ++ tail) ended.2
          ∙ append-nil (text_of (whole_lines bytes))
          ∙ ap text_of (sym (ended.1 ∙ taken.1)),
    )

-- what is spelled so is read
pub again_value : {S V : Type 0} (m : Machine S V) (Fits : V → Type 0) (spell : V → List (List ℕ)) (lines_to : S → List (List ℕ)) (Stands : S → Type 0) → IsExact m Fits spell lines_to Stands
    → (bytes : List ℕ) (value : V) → Fits value → bytes ≡ text_of (spell value) → told_of m bytes ≡ Ok value
again_value m Fits spell lines_to Stands exact bytes value fits e =
    let cut = lines_again (spell value) (exact.feed value fits) in
    let goes = exact.goes value fits in
    ap (told_of m) e
    ∙ ap (λ (lines : List (List ℕ)). told m 1 m.start lines (after_lines (text_of (spell value)))) cut.0
    ∙ ap (λ (tail : List ℕ). told m 1 m.start (spell value) tail) cut.1
    ∙ told_all m 1 m.start goes.0 (spell value) [] goes.1
    ∙ ap (ok_or_line (1 + length (spell value))) goes.2

-- the line that is told is the first that can't stand where it stands
pub bad_line : {S V : Type 0} (m : Machine S V) (Fits : V → Type 0) (spell : V → List (List ℕ)) (lines_to : S → List (List ℕ)) (Stands : S → Type 0) → IsExact m Fits spell lines_to Stands
    → (bytes : List ℕ) (n : ℕ) → told_of m bytes ≡ Err n → IsBadLine Fits spell bytes n
bad_line m Fits spell lines_to Stands exact bytes n e =
    let found = told_stops m 1 n m.start (whole_lines bytes) (after_lines bytes) e in
    let stops = found.2 in
    let here : n - 1 ≡ found.0 = omega (arith, found.1) in
    let next : n ≡ found.0 + 1 = omega (arith, found.1) in
    let P : ℕ → Type 0 = λ k. Begins Fits spell (take k (whole_lines bytes)) in
    record {
      none = λ value fits same. cc (sym e ∙ again_value m Fits spell lines_to Stands exact bytes value fits same);
      first = omega (arith, found.1);
      within = omega (arith, found.1, stops.within);
      before = subst P (sym here) (begins_some m Fits spell lines_to Stands exact (take found.0 (whole_lines bytes)) stops.state stops.front);
      here = λ within begins. begins_none m Fits spell lines_to Stands exact (take (found.0 + 1) (whole_lines bytes)) (stops.here (omega (arith, within, found.1))) (subst P next begins);
    }

-- ---- the answer of a reader

-- a text has one value at most
pub one_value : {S V : Type 0} (m : Machine S V) (Fits : V → Type 0) (spell : V → List (List ℕ)) (lines_to : S → List (List ℕ)) (Stands : S → Type 0) → IsExact m Fits spell lines_to Stands
    → (bytes : List ℕ) (one other : V) → Fits one → bytes ≡ text_of (spell one) → Fits other → bytes ≡ text_of (spell other) → one ≡ other
one_value m Fits spell lines_to Stands exact bytes one other fits is fits' is' =
    cc (sym (again_value m Fits spell lines_to Stands exact bytes one fits is) ∙ again_value m Fits spell lines_to Stands exact bytes other fits' is')

pub answer_found : {S V : Type 0} (m : Machine S V) (Fits : V → Type 0) (spell : V → List (List ℕ)) (lines_to : S → List (List ℕ)) (Stands : S → Type 0) → IsExact m Fits spell lines_to Stands
    → (bytes : List ℕ) (answer : Result V RunFault) → Tells answer (told_of m bytes) → IfOk answer (λ value. Fits value × (bytes ≡ text_of (spell value)))
answer_found m Fits spell lines_to Stands exact bytes (Ok value) tells = found_value m Fits spell lines_to Stands exact bytes value tells
answer_found m Fits spell lines_to Stands exact bytes (Err _) tells = tt

pub answer_only : {S V : Type 0} (m : Machine S V) (Fits : V → Type 0) (spell : V → List (List ℕ)) (lines_to : S → List (List ℕ)) (Stands : S → Type 0) → IsExact m Fits spell lines_to Stands
    → (bytes : List ℕ) (answer : Result V RunFault) (value : V) → Tells answer (told_of m bytes) → Fits value → bytes ≡ text_of (spell value) → IsReadAs value answer
answer_only m Fits spell lines_to Stands exact bytes (Ok read) value tells fits e = inl (cc (sym tells ∙ again_value m Fits spell lines_to Stands exact bytes value fits e))
answer_only m Fits spell lines_to Stands exact bytes (Err (fault.Line n)) value tells fits e = cc (sym tells.1 ∙ again_value m Fits spell lines_to Stands exact bytes value fits e)
answer_only m Fits spell lines_to Stands exact bytes (Err fault.OutOfMemory) value tells fits e = inr refl

pub answer_line : {S V : Type 0} (m : Machine S V) (Fits : V → Type 0) (spell : V → List (List ℕ)) (lines_to : S → List (List ℕ)) (Stands : S → Type 0) → IsExact m Fits spell lines_to Stands
    → (bytes : List ℕ) (answer : Result V RunFault) → Tells answer (told_of m bytes) → IfErr answer (IsFirstBad Fits spell bytes)
answer_line m Fits spell lines_to Stands exact bytes (Ok value) tells = tt
answer_line m Fits spell lines_to Stands exact bytes (Err (fault.Line n)) tells = (tells.0, bad_line m Fits spell lines_to Stands exact bytes tells.0 tells.1, tells.2)
answer_line m Fits spell lines_to Stands exact bytes (Err fault.OutOfMemory) tells = tt
