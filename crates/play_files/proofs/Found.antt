-- What a reading found, in the words of the texts alone.
use Rattle.std.proofs.Common.{◌≡◌, ◌<◌, ◌≤◌, ◌+◌, ◌-◌, ℕ, true, false, List, [], ◌∷◌, ◌++◌, length, take, refl, sym, ◌∙◌, ap, subst, Option, None, Some, Ok, Err, arith, inl, inr, append_assoc, append-nil, length-append}
use Rattle.std.specs.Prelude.{nat_lt, bytes_eq, codes}
use Rattle.std.proofs.lemmas.Bool.Decides.{nat_tests}
use Rattle.std.proofs.lemmas.Option.{same_Some}
use Rattle.std.proofs.Math.Seq.{take-append_seam}
use Rattle.edge_words.specs.Words.{text_of}
use Rattle.edge_words.specs.Reading.{parts_at, whole_lines, after_lines, all_but_last, last_of, ◌>>=◌}
use Rattle.edge_words.proofs.Lines.{lines_takes, lines_again, not_last}
use Rattle.edge_words.proofs.Laws.{bind_some, map_some}
use Rattle.edge_words.proofs.ChoiceLaws.{chosen}
use Rattle.edge_words.proofs.Parts.{words_left}
use Rattle.http_front.specs.declared.heads.Incoming.{Incoming}
use Rattle.http_front.proofs.Found.{one_request}
use Rattle.line_reader.specs.declared.fault.RunFault.TheVariants as fault
use Rattle.line_reader.specs.ByLines.{after_all, Begins, IsBadLine, IsReadAs}
use Rattle.script_lines.specs.declared.step.Step.{Step}
use Rattle.run_files.specs.Run.{most_guests, most_steps, most_bytes}
use Rattle.run_files.specs.Reading.{step_at}
use Rattle.play_files.specs.declared.play.PlayFile.{PlayFile}
use Rattle.play_files.specs.declared.machine.State.{State}
use Rattle.play_files.specs.Requests.{AreRequestTexts, AreRequests}
use Rattle.play_files.specs.Play.{Play, play_lines, play_text, IsPlay, IsGoodPlay, IsPlayFile}
use Rattle.play_files.specs.Reading.{request_in}
use Rattle.play_files.specs.Machine.{Head, Progress, Start, Begun, Fuelled, Asking, Steps, Over, head_of, seen, after_line, finished, machine, lines_to, IsProgress, texts_in, AreGood, requests_in, IsSound, EndsWith}
use Rattle.play_files.specs.Begins.{IsFirstBad}
use Rattle.play_files.proofs.Machines.{line_takes, begins_to, length_more}
use Rattle.play_files.proofs.Again.{play_goes, play_feed}

-- ---- lines

-- some lines were read, and the next one has this number
pub record IsAt (bytes rest : List ℕ) (number : ℕ) (p : Progress) : Type 0 where
  pub lines : List (List ℕ)
  pub number_is : number ≡ length lines + 1
  pub lines_are : whole_lines bytes ≡ lines ++ whole_lines rest
  pub rest_is : after_lines bytes ≡ after_lines rest
  pub goes : after_all machine Start lines ≡ Some p
  pub spelled : lines_to p ≡ lines
  pub stands : IsProgress p

-- a cut takes the first line off
pub cut_whole : (rest line after : List ℕ) → parts_at 10 rest ≡ line ∷ parts_at 10 after → (whole_lines rest ≡ line ∷ whole_lines after) × (after_lines rest ≡ after_lines after)
cut_whole rest line after e =
    let more = not_last line (parts_at 10 after) (words_left 10 after) in
    (ap all_but_last e ∙ more.0, ap last_of e ∙ more.1)

all-append : (p : Progress) (front back : List (List ℕ)) → after_all machine p (front ++ back) ≡ (after_all machine p front >>= λ q. after_all machine q back)
all-append p [] back = refl
all-append p (line ∷ front) back =
    let with : (o : Option Progress) → (o >>= λ q. after_all machine q (front ++ back)) ≡ ((o >>= λ q. after_all machine q front) >>= λ q. after_all machine q back) =
    elim [ None ↦ refl | Some q ↦ all-append q front back ] in with (after_line p line)

-- ---- good requests stay good

pub good_front : (texts more : List (List ℕ)) → AreRequestTexts (texts ++ more) → AreRequestTexts texts
good_front [] more good = tt
good_front (text ∷ texts) more good = (good.0, good_front texts more good.1)

asking_back : (head : Head) (texts : List (List ℕ)) (line : List ℕ) (q : Progress) → after_line (Asking head texts) line ≡ Some q → AreGood q → AreRequestTexts texts
asking_back head texts line q e =
    let P : Progress → Type 0 = λ q. AreGood q → AreRequestTexts texts in
    elim (chosen (bytes_eq line (codes "steps")) _ _ (Some q) e) [
      | inl steps ↦ subst P (same_Some _ _ steps.1) (λ good. good)
      | inr other ↦
          elim (chosen (nat_lt (length texts) most_guests) _ _ (Some q) other.1) [
            | inl room ↦
                let read = map_some (λ (text : List ℕ). Asking head (texts ++ text ∷ [])) (request_in line) q room.1 in
                subst P read.2 (good_front texts (read.0 ∷ []))
            | inr none ↦ cc none.1
          ]
    ]

steps_back : (head : Head) (texts : List (List ℕ)) (steps : List Step) (line : List ℕ) (q : Progress) → after_line (Steps head texts steps) line ≡ Some q → AreGood q → AreRequestTexts texts
steps_back head texts steps line q e =
    let P : Progress → Type 0 = λ q. AreGood q → AreRequestTexts texts in
    elim (chosen (bytes_eq line (codes "end")) _ _ (Some q) e) [
      | inl end ↦ subst P (same_Some _ _ end.1) (λ good. good)
      | inr other ↦
          elim (chosen (nat_lt (length steps) most_steps) _ _ (Some q) other.1) [
            | inl room ↦
                let read = map_some (λ (step : Step). Steps head texts (steps ++ step ∷ [])) (step_at (length texts) line) q room.1 in
                subst P read.2 (λ good. good)
            | inr none ↦ cc none.1
          ]
    ]

good_back : (p q : Progress) (line : List ℕ) → after_line p line ≡ Some q → AreGood q → AreGood p
good_back Start q line e good = tt
good_back Begun q line e good = tt
good_back (Fuelled fuel) q line e good = tt
good_back (Asking head texts) q line e good = asking_back head texts line q e good
good_back (Steps head texts steps) q line e good = steps_back head texts steps line q e good
good_back (Over head texts steps) q line e good = cc e

good_all : (lines : List (List ℕ)) (p q : Progress) → after_all machine p lines ≡ Some q → AreGood q → AreGood p
good_all [] p q e good = subst AreGood (sym (same_Some _ _ e)) good
good_all (line ∷ lines) p q e good =
    let first = bind_some (after_line p line) (λ next. after_all machine next lines) q e in
    good_back p first.0 line first.1 (good_all lines first.0 q first.2 good)

pub sound_good : (texts : List (List ℕ)) (requests : List Incoming) → AreRequests texts requests → AreRequestTexts texts
sound_good [] [] sound = tt
sound_good [] (one ∷ requests) sound = absurd sound
sound_good (text ∷ texts) [] sound = absurd sound
sound_good (text ∷ texts) (one ∷ requests) sound = ((one, sound.0), sound_good texts requests sound.1)

-- ---- the line that is told

-- the state in which a play file ends
abbrev over_of : Play → Progress
over_of play = Over (head_of play.fuel play.random) play.texts play.steps

-- a line that leads to no good state stands in no good file behind these lines
stuck : (lines : List (List ℕ)) (p : Progress) (line : List ℕ) → after_all machine Start lines ≡ Some p → ((q : Progress) → after_line p line ≡ Some q → AreGood q → ⊥)
    → (play : Play) → IsGoodPlay play → (rest : List (List ℕ)) → play_lines play ≡ lines ++ (line ∷ rest) → ⊥
stuck lines p line goes none play fits rest e =
    let all : after_all machine Start (lines ++ (line ∷ rest)) ≡ Some (over_of play) = ap (after_all machine Start) (sym e) ∙ play_goes play fits.is in
    let split = bind_some (after_all machine Start lines) (λ q. after_all machine q (line ∷ rest)) (over_of play) (sym (all-append Start lines (line ∷ rest)) ∙ all) in
    let same : split.0 ≡ p = same_Some _ _ (sym split.1 ∙ goes) in
    let next = bind_some (after_line split.0 line) (λ q. after_all machine q rest) (over_of play) split.2 in
    none next.0 (subst (λ (r : Progress). after_line r line ≡ Some next.0) same next.1) (good_all rest next.0 (over_of play) next.2 fits.requests)

-- the lines of a good file, whole and with nothing behind them
play_whole : (play : Play) (bytes : List ℕ) → IsPlay play → bytes ≡ text_of (play_lines play) → (whole_lines bytes ≡ play_lines play) × (after_lines bytes ≡ [])
play_whole play bytes fits e =
    let again = lines_again (play_lines play) (play_feed play fits) in
    (ap whole_lines e ∙ again.0, ap after_lines e ∙ again.1)

pub bad_here : (bytes rest line after : List ℕ) (number : ℕ) (p : Progress) → IsAt bytes rest number p → AreGood p → parts_at 10 rest ≡ line ∷ parts_at 10 after
    → ((q : Progress) → after_line p line ≡ Some q → AreGood q → ⊥) → IsBadLine IsGoodPlay play_lines bytes number
bad_here bytes rest line after number p at good e none =
    let lines : List (List ℕ) = at.lines in
    let more : List (List ℕ) = whole_lines after in
    let whole : whole_lines bytes ≡ lines ++ (line ∷ more) = at.lines_are ∙ ap (λ (ls : List (List ℕ)). lines ++ ls) (cut_whole rest line after e).0 in
    let count = ap (λ (ls : List (List ℕ)). length ls) whole in
    let before : number - 1 ≡ length lines = omega (arith, at.number_is) in
    let here : number ≡ length (lines ++ line ∷ []) = omega (arith, at.number_is, length_more lines line) in
    let taken : take (number - 1) (whole_lines bytes) ≡ lines =
    ap (λ (ls : List (List ℕ)). take (number - 1) ls) whole ∙ ap (λ (n : ℕ). take n (lines ++ (line ∷ more))) before ∙ take-append_seam lines (line ∷ more)
    in
    let next : take number (whole_lines bytes) ≡ lines ++ line ∷ [] =
    ap (λ (ls : List (List ℕ)). take number ls) (whole ∙ sym (append_assoc lines (line ∷ []) more))
    ∙ ap (λ (n : ℕ). take n ((lines ++ line ∷ []) ++ more)) here ∙ take-append_seam (lines ++ line ∷ []) more
    in
    record {
      none = λ play fits same. stuck lines p line at.goes none play fits more (sym (play_whole play bytes fits.is same).0 ∙ whole);
      first = omega (arith, at.number_is);
      within = omega (arith, at.number_is, count, length-append lines (line ∷ more));
      before = subst (Begins IsGoodPlay play_lines) (at.spelled ∙ sym taken) (begins_to p at.stands good);
      here = λ within begins. stuck lines p line at.goes none begins.value begins.fits begins.rest
          (begins.begins ∙ ap (λ (ls : List (List ℕ)). ls ++ begins.rest) next ∙ append_assoc lines (line ∷ []) begins.rest);
    }

pub bad_end : (bytes rest : List ℕ) (number : ℕ) (p : Progress) → IsAt bytes rest number p → AreGood p → parts_at 10 rest ≡ rest ∷ [] → finished p rest ≡ None → IsBadLine IsGoodPlay play_lines bytes number
bad_end bytes rest number p at good e none =
    let lines : List (List ℕ) = at.lines in
    let whole : whole_lines bytes ≡ lines ++ [] = at.lines_are ∙ ap (λ (ls : List (List ℕ)). lines ++ ls) (ap all_but_last e) in
    let tail : after_lines bytes ≡ rest = at.rest_is ∙ ap last_of e in
    let count = ap (λ (ls : List (List ℕ)). length ls) whole in
    let before : number - 1 ≡ length lines = omega (arith, at.number_is) in
    let taken : take (number - 1) (whole_lines bytes) ≡ lines =
    ap (λ (ls : List (List ℕ)). take (number - 1) ls) whole ∙ ap (λ (n : ℕ). take n (lines ++ [])) before ∙ take-append_seam lines []
    in
    record {
      none = λ play fits same.
          let is = play_whole play bytes fits.is same in
          let all : after_all machine Start lines ≡ Some (over_of play) = ap (after_all machine Start) (sym (append-nil lines) ∙ sym whole ∙ is.0) ∙ play_goes play fits.is in
          let over : p ≡ over_of play = same_Some _ _ (sym at.goes ∙ all) in
          let ended : finished p rest ≡ finished (over_of play) [] = ap (λ (q : Progress). finished q rest) over ∙ ap (finished (over_of play)) (sym tail ∙ is.1) in
          cc (sym none ∙ ended);
      first = omega (arith, at.number_is);
      within = omega (arith, at.number_is, count, length-append lines []);
      before = subst (Begins IsGoodPlay play_lines) (at.spelled ∙ sym taken) (begins_to p at.stands good);
      here = λ within begins. absurd (omega (arith, at.number_is, within, count, length-append lines []));
    }

-- ---- the loop

pub at_start : (bytes : List ℕ) → IsAt bytes bytes 1 Start
at_start bytes = record { lines = []; number_is = refl; lines_are = refl; rest_is = refl; goes = refl; spelled = refl; stands = tt }

pub at_next : (bytes rest line after : List ℕ) (number : ℕ) (p q : Progress) → IsAt bytes rest number p → parts_at 10 rest ≡ line ∷ parts_at 10 after → after_line p line ≡ Some q → IsAt bytes after (number + 1) q
at_next bytes rest line after number p q at e goes =
    let parts = cut_whole rest line after e in
    let taken = line_takes p q line at.stands goes in
    let last : (after_line p line >>= λ r. after_all machine r []) ≡ Some q = rw goes refl in
    record {
      lines = at.lines ++ line ∷ [];
      number_is = omega (arith, at.number_is, length_more at.lines line);
      lines_are = at.lines_are ∙ ap (λ (ls : List (List ℕ)). at.lines ++ ls) parts.0 ∙ sym (append_assoc at.lines (line ∷ []) (whole_lines after));
      rest_is = at.rest_is ∙ parts.1;
      goes = all-append Start at.lines (line ∷ []) ∙ ap (λ (o : Option Progress). o >>= λ r. after_all machine r (line ∷ [])) at.goes ∙ last;
      spelled = taken.1 ∙ ap (λ (ls : List (List ℕ)). ls ++ line ∷ []) at.spelled;
      stands = taken.0;
    }

-- ---- the answer

pub file_found : (bytes rest : List ℕ) (number : ℕ) (s : State) (file : PlayFile) → IsAt bytes rest number (seen s) → IsSound s → parts_at 10 rest ≡ rest ∷ [] → EndsWith s rest (Some file) → IsPlayFile bytes file
unfolding play_text
file_found bytes rest number s file at sound e ends =
    let texts : List (List ℕ) = texts_in (seen s) in
    let fits = subst IsProgress ends.0 at.stands in
    let whole : whole_lines bytes ≡ lines_to (Over (head_of file.fuel file.random) texts file.steps) =
    at.lines_are ∙ ap (λ (ls : List (List ℕ)). at.lines ++ ls) (ap all_but_last e) ∙ append-nil at.lines ∙ sym at.spelled ∙ ap lines_to ends.0
    in
    let tail : after_lines bytes ≡ [] = at.rest_is ∙ ap last_of e ∙ ends.2 in
    record {
      texts = texts;
      requests = subst (AreRequests texts) ends.1 sound;
      is = record { fuel = fits.head_is.fuel; random = fits.head_is.random; few_requests = fits.few_requests; texts = fits.all_bytes; few_steps = fits.few_steps; steps = fits.all_steps };
      spelled = sym (lines_takes bytes) ∙ ap (λ (l : List ℕ). text_of (whole_lines bytes) ++ l) tail ∙ append-nil (text_of (whole_lines bytes)) ∙ ap text_of whole;
    }

-- what a file says, with each request by its text
abbrev said_in : PlayFile → List (List ℕ) → Play
said_in file texts = record { fuel = file.fuel; random = file.random; texts = texts; steps = file.steps }

pub same_requests : (texts : List (List ℕ)) (xs ys : List Incoming) → AreRequests texts xs → AreRequests texts ys → xs ≡ ys
same_requests [] [] [] a b = refl
same_requests [] (x ∷ xs) ys a b = absurd a
same_requests [] [] (y ∷ ys) a b = absurd b
same_requests (text ∷ texts) [] ys a b = absurd a
same_requests (text ∷ texts) (x ∷ xs) [] a b = absurd b
same_requests (text ∷ texts) (x ∷ xs) (y ∷ ys) a b =
    let one : x ≡ y = one_request text text text [] [] x y a.0 b.0 (sym (append-nil text)) (sym (append-nil text)) in
    ap (λ (z : Incoming). z ∷ xs) one ∙ ap (λ (zs : List Incoming). y ∷ zs) (same_requests texts xs ys a.1 b.1)

-- bytes are one play file at most
one_file : (bytes : List ℕ) (a b : PlayFile) → IsPlayFile bytes a → IsPlayFile bytes b → a ≡ b
unfolding play_text
one_file bytes a b x y =
    let p : Play = said_in a x.texts in
    let q : Play = said_in b y.texts in
    let lines : play_lines p ≡ play_lines q = sym (play_whole p bytes x.is x.spelled).0 ∙ (play_whole q bytes y.is y.spelled).0 in
    let over : over_of p ≡ over_of q = same_Some _ _ (sym (play_goes p x.is) ∙ ap (after_all machine Start) lines ∙ play_goes q y.is) in
    let head : head_of a.fuel a.random ≡ head_of b.fuel b.random = cc over in
    let texts : x.texts ≡ y.texts = cc over in
    let steps : a.steps ≡ b.steps = cc over in
    let fuel : a.fuel ≡ b.fuel = ap (λ (h : Head). h.fuel) head in
    let random : a.random ≡ b.random = ap (λ (h : Head). h.random) head in
    let requests : a.requests ≡ b.requests = same_requests y.texts a.requests b.requests (subst (λ (ts : List (List ℕ)). AreRequests ts a.requests) texts x.requests) y.requests in
    λ k. record { fuel = fuel k; random = random k; requests = requests k; steps = steps k }

-- a good file of the value that was read
file_good : (bytes : List ℕ) (file : PlayFile) → (x : IsPlayFile bytes file) → IsGoodPlay (said_in file x.texts)
file_good bytes file x = record { is = x.is; requests = sound_good x.texts file.requests x.requests }

no_fault : (bytes : List ℕ) (n : ℕ) (file : PlayFile) → length bytes ≤ most_bytes → IsFirstBad bytes n → IsPlayFile bytes file → ⊥
unfolding play_text
no_fault bytes n file small bad x =
    let fits : nat_lt most_bytes (length bytes) ≡ false = grind (arith, nat_tests) in
    let line : IsBadLine IsGoodPlay play_lines bytes n = rw fits at bad in
    line.none (said_in file x.texts) (file_good bytes file x) x.spelled

pub only_this : (bytes : List ℕ) (read file : PlayFile) → IsPlayFile bytes read → IsPlayFile bytes file → IsReadAs file (Ok read)
only_this bytes read file is other = inl (ap Ok (one_file bytes read file is other))

pub never_bad : (bytes : List ℕ) (n : ℕ) (file : PlayFile) → length bytes ≤ most_bytes → IsFirstBad bytes n → IsPlayFile bytes file → IsReadAs file (Err (fault.Line n))
never_bad bytes n file small bad x = absurd (no_fault bytes n file small bad x)

pub bad_small : (bytes : List ℕ) (n : ℕ) → length bytes ≤ most_bytes → IsBadLine IsGoodPlay play_lines bytes n → IsFirstBad bytes n
bad_small bytes n small bad = let fits : nat_lt most_bytes (length bytes) ≡ false = grind (arith, nat_tests) in rw fits bad

pub too_large : (bytes : List ℕ) → most_bytes < length bytes → IsFirstBad bytes 1
too_large bytes large = let big : nat_lt most_bytes (length bytes) ≡ true = grind (arith, nat_tests) in rw big refl

-- a line that leads nowhere is told
pub told_here : (bytes rest line after : List ℕ) (number : ℕ) (s : State) → length bytes ≤ most_bytes → IsAt bytes rest number (seen s) → IsSound s → parts_at 10 rest ≡ line ∷ parts_at 10 after
    → ((q : Progress) → after_line (seen s) line ≡ Some q → AreGood q → ⊥) → IsFirstBad bytes number
told_here bytes rest line after number s small at sound e none =
    bad_small bytes number small (bad_here bytes rest line after number (seen s) at (sound_good (texts_in (seen s)) (requests_in s) sound) e none)

-- and so is the end that comes too early, or isn't one
pub told_end : (bytes rest : List ℕ) (number : ℕ) (s : State) → length bytes ≤ most_bytes → IsAt bytes rest number (seen s) → IsSound s → parts_at 10 rest ≡ rest ∷ [] → finished (seen s) rest ≡ None → IsFirstBad bytes number
told_end bytes rest number s small at sound e none =
    bad_small bytes number small (bad_end bytes rest number (seen s) at (sound_good (texts_in (seen s)) (requests_in s) sound) e none)
