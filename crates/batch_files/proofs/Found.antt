-- What a reading found, in the words of the texts alone.
use Rattle.std.proofs.Common.{◌≡◌, ◌<◌, ◌≤◌, ◌+◌, ◌-◌, ℕ, true, false, List, [], ◌∷◌, ◌++◌, length, take, refl, sym, ◌∙◌, ap, subst, Option, None, Some, Ok, Err, arith, inl, inr, append_assoc, append-nil, length-append}
use Rattle.std.specs.Prelude.{nat_lt, bytes_eq, codes}
use Rattle.std.proofs.lemmas.Bool.Decides.{nat_tests}
use Rattle.std.proofs.lemmas.Option.{same_Some}
use Rattle.std.proofs.Math.Seq.{take-append_seam}
use Rattle.edge_words.specs.Words.{text_of}
use Rattle.edge_words.specs.Reading.{parts_at, whole_lines, after_lines, all_but_last, last_of, ◌>>=◌}
use Rattle.edge_words.proofs.Lines.{lines_takes, lines_again, not_last}
use Rattle.edge_words.proofs.Laws.{bind_some, map_some}
use Rattle.edge_words.proofs.ChoiceLaws.{chosen}
use Rattle.edge_words.proofs.Parts.{words_left}
use Rattle.http_front.specs.declared.heads.Incoming.{Incoming}
use Rattle.http_front.proofs.Found.{one_request}
use Rattle.line_reader.specs.declared.fault.RunFault.TheVariants as fault
use Rattle.line_reader.specs.ByLines.{after_all, Begins, IsBadLine, IsReadAs}
use Rattle.run_files.specs.Run.{most_guests, most_bytes}
use Rattle.batch_files.specs.declared.batch.BatchFile.{BatchFile}
use Rattle.batch_files.specs.declared.machine.Head.{Head}
use Rattle.batch_files.specs.declared.machine.State.{State}
use Rattle.play_files.specs.Requests.{AreRequestTexts, AreRequests}
use Rattle.batch_files.specs.Batch.{Batch, batch_lines, batch_text, said_in, IsBatch, IsGoodBatch, IsBatchFile}
use Rattle.play_files.specs.Reading.{request_in}
use Rattle.batch_files.specs.Machine.{Progress, Start, Begun, Fuelled, Drawn, Limited, Asking, Over, head_of, seen, after_line, finished, machine, lines_to, IsProgress, texts_in, AreGood, requests_in, IsSound, EndsWith}
use Rattle.batch_files.specs.Begins.{IsFirstBad}
use Rattle.batch_files.proofs.Machines.{line_takes, begins_to}
use Rattle.play_files.proofs.Machines.{length_more}
use Rattle.play_files.proofs.Found.{cut_whole, good_front, same_requests, sound_good}
use Rattle.batch_files.proofs.Again.{batch_goes, batch_feed}

-- ---- lines

-- some lines were read, and the next one has this number
pub record IsAt (bytes rest : List ℕ) (number : ℕ) (p : Progress) : Type 0 where
  pub lines : List (List ℕ)
  pub number_is : number ≡ length lines + 1
  pub lines_are : whole_lines bytes ≡ lines ++ whole_lines rest
  pub rest_is : after_lines bytes ≡ after_lines rest
  pub goes : after_all machine Start lines ≡ Some p
  pub spelled : lines_to p ≡ lines
  pub stands : IsProgress p

all-append : (p : Progress) (front back : List (List ℕ)) → after_all machine p (front ++ back) ≡ (after_all machine p front >>= λ q. after_all machine q back)
all-append p [] back = refl
all-append p (line ∷ front) back =
    let with : (o : Option Progress) → (o >>= λ q. after_all machine q (front ++ back)) ≡ ((o >>= λ q. after_all machine q front) >>= λ q. after_all machine q back) =
    elim [ None ↦ refl | Some q ↦ all-append q front back ] in with (after_line p line)

-- ---- good requests stay good

asking_back : (head : Head) (texts : List (List ℕ)) (line : List ℕ) (q : Progress) → after_line (Asking head texts) line ≡ Some q → AreGood q → AreRequestTexts texts
asking_back head texts line q e =
    let P : Progress → Type 0 = λ q. AreGood q → AreRequestTexts texts in
    elim (chosen (bytes_eq line (codes "end")) _ _ (Some q) e) [
      | inl end ↦ subst P (same_Some _ _ end.1) (λ good. good)
      | inr other ↦
          elim (chosen (nat_lt (length texts) most_guests) _ _ (Some q) other.1) [
            | inl room ↦
                let read = map_some (λ (text : List ℕ). Asking head (texts ++ text ∷ [])) (request_in line) q room.1 in
                subst P read.2 (good_front texts (read.0 ∷ []))
            | inr none ↦ cc none.1
          ]
    ]

good_back : (p q : Progress) (line : List ℕ) → after_line p line ≡ Some q → AreGood q → AreGood p
good_back Start q line e good = tt
good_back Begun q line e good = tt
good_back (Fuelled fuel) q line e good = tt
good_back (Drawn fuel random) q line e good = tt
good_back (Limited fuel random limit) q line e good = tt
good_back (Asking head texts) q line e good = asking_back head texts line q e good
good_back (Over head texts) q line e good = cc e

good_all : (lines : List (List ℕ)) (p q : Progress) → after_all machine p lines ≡ Some q → AreGood q → AreGood p
good_all [] p q e good = subst AreGood (sym (same_Some _ _ e)) good
good_all (line ∷ lines) p q e good =
    let first = bind_some (after_line p line) (λ next. after_all machine next lines) q e in
    good_back p first.0 line first.1 (good_all lines first.0 q first.2 good)

-- ---- the line that is told

-- the state in which a batch file ends
abbrev over_of : Batch → Progress
over_of batch = Over (head_of batch.fuel batch.random batch.limit batch.workers) batch.texts

-- a line that leads to no good state stands in no good file behind these lines
stuck : (lines : List (List ℕ)) (p : Progress) (line : List ℕ) → after_all machine Start lines ≡ Some p → ((q : Progress) → after_line p line ≡ Some q → AreGood q → ⊥)
    → (batch : Batch) → IsGoodBatch batch → (rest : List (List ℕ)) → batch_lines batch ≡ lines ++ (line ∷ rest) → ⊥
stuck lines p line goes none batch fits rest e =
    let all : after_all machine Start (lines ++ (line ∷ rest)) ≡ Some (over_of batch) = ap (after_all machine Start) (sym e) ∙ batch_goes batch fits.is in
    let split = bind_some (after_all machine Start lines) (λ q. after_all machine q (line ∷ rest)) (over_of batch) (sym (all-append Start lines (line ∷ rest)) ∙ all) in
    let same : split.0 ≡ p = same_Some _ _ (sym split.1 ∙ goes) in
    let next = bind_some (after_line split.0 line) (λ q. after_all machine q rest) (over_of batch) split.2 in
    none next.0 (subst (λ (r : Progress). after_line r line ≡ Some next.0) same next.1) (good_all rest next.0 (over_of batch) next.2 fits.requests)

-- the lines of a good file, whole and with nothing behind them
batch_whole : (batch : Batch) (bytes : List ℕ) → IsBatch batch → bytes ≡ text_of (batch_lines batch) → (whole_lines bytes ≡ batch_lines batch) × (after_lines bytes ≡ [])
batch_whole batch bytes fits e =
    let again = lines_again (batch_lines batch) (batch_feed batch fits) in
    (ap whole_lines e ∙ again.0, ap after_lines e ∙ again.1)

pub bad_here : (bytes rest line after : List ℕ) (number : ℕ) (p : Progress) → IsAt bytes rest number p → AreGood p → parts_at 10 rest ≡ line ∷ parts_at 10 after
    → ((q : Progress) → after_line p line ≡ Some q → AreGood q → ⊥) → IsBadLine IsGoodBatch batch_lines bytes number
bad_here bytes rest line after number p at good e none =
    let lines : List (List ℕ) = at.lines in
    let more : List (List ℕ) = whole_lines after in
    let whole : whole_lines bytes ≡ lines ++ (line ∷ more) = at.lines_are ∙ ap (λ (ls : List (List ℕ)). lines ++ ls) (cut_whole rest line after e).0 in
    let count = ap (λ (ls : List (List ℕ)). length ls) whole in
    let before : number - 1 ≡ length lines = omega (arith, at.number_is) in
    let here : number ≡ length (lines ++ line ∷ []) = omega (arith, at.number_is, length_more lines line) in
    let taken : take (number - 1) (whole_lines bytes) ≡ lines =
    ap (λ (ls : List (List ℕ)). take (number - 1) ls) whole ∙ ap (λ (n : ℕ). take n (lines ++ (line ∷ more))) before ∙ take-append_seam lines (line ∷ more)
    in
    let next : take number (whole_lines bytes) ≡ lines ++ line ∷ [] =
    ap (λ (ls : List (List ℕ)). take number ls) (whole ∙ sym (append_assoc lines (line ∷ []) more))
    ∙ ap (λ (n : ℕ). take n ((lines ++ line ∷ []) ++ more)) here ∙ take-append_seam (lines ++ line ∷ []) more
    in
    record {
      none = λ batch fits same. stuck lines p line at.goes none batch fits more (sym (batch_whole batch bytes fits.is same).0 ∙ whole);
      first = omega (arith, at.number_is);
      within = omega (arith, at.number_is, count, length-append lines (line ∷ more));
      before = subst (Begins IsGoodBatch batch_lines) (at.spelled ∙ sym taken) (begins_to p at.stands good);
      here = λ within begins. stuck lines p line at.goes none begins.value begins.fits begins.rest
          (begins.begins ∙ ap (λ (ls : List (List ℕ)). ls ++ begins.rest) next ∙ append_assoc lines (line ∷ []) begins.rest);
    }

pub bad_end : (bytes rest : List ℕ) (number : ℕ) (p : Progress) → IsAt bytes rest number p → AreGood p → parts_at 10 rest ≡ rest ∷ [] → finished p rest ≡ None → IsBadLine IsGoodBatch batch_lines bytes number
bad_end bytes rest number p at good e none =
    let lines : List (List ℕ) = at.lines in
    let whole : whole_lines bytes ≡ lines ++ [] = at.lines_are ∙ ap (λ (ls : List (List ℕ)). lines ++ ls) (ap all_but_last e) in
    let tail : after_lines bytes ≡ rest = at.rest_is ∙ ap last_of e in
    let count = ap (λ (ls : List (List ℕ)). length ls) whole in
    let before : number - 1 ≡ length lines = omega (arith, at.number_is) in
    let taken : take (number - 1) (whole_lines bytes) ≡ lines =
    ap (λ (ls : List (List ℕ)). take (number - 1) ls) whole ∙ ap (λ (n : ℕ). take n (lines ++ [])) before ∙ take-append_seam lines []
    in
    record {
      none = λ batch fits same.
          let is = batch_whole batch bytes fits.is same in
          let all : after_all machine Start lines ≡ Some (over_of batch) = ap (after_all machine Start) (sym (append-nil lines) ∙ sym whole ∙ is.0) ∙ batch_goes batch fits.is in
          let over : p ≡ over_of batch = same_Some _ _ (sym at.goes ∙ all) in
          let ended : finished p rest ≡ finished (over_of batch) [] = ap (λ (q : Progress). finished q rest) over ∙ ap (finished (over_of batch)) (sym tail ∙ is.1) in
          cc (sym none ∙ ended);
      first = omega (arith, at.number_is);
      within = omega (arith, at.number_is, count, length-append lines []);
      before = subst (Begins IsGoodBatch batch_lines) (at.spelled ∙ sym taken) (begins_to p at.stands good);
      here = λ within begins. absurd (omega (arith, at.number_is, within, count, length-append lines []));
    }

-- ---- the loop

pub at_start : (bytes : List ℕ) → IsAt bytes bytes 1 Start
at_start bytes = record { lines = []; number_is = refl; lines_are = refl; rest_is = refl; goes = refl; spelled = refl; stands = tt }

pub at_next : (bytes rest line after : List ℕ) (number : ℕ) (p q : Progress) → IsAt bytes rest number p → parts_at 10 rest ≡ line ∷ parts_at 10 after → after_line p line ≡ Some q → IsAt bytes after (number + 1) q
at_next bytes rest line after number p q at e goes =
    let parts = cut_whole rest line after e in
    let taken = line_takes p q line at.stands goes in
    let last : (after_line p line >>= λ r. after_all machine r []) ≡ Some q = rw goes refl in
    record {
      lines = at.lines ++ line ∷ [];
      number_is = omega (arith, at.number_is, length_more at.lines line);
      lines_are = at.lines_are ∙ ap (λ (ls : List (List ℕ)). at.lines ++ ls) parts.0 ∙ sym (append_assoc at.lines (line ∷ []) (whole_lines after));
      rest_is = at.rest_is ∙ parts.1;
      goes = all-append Start at.lines (line ∷ []) ∙ ap (λ (o : Option Progress). o >>= λ r. after_all machine r (line ∷ [])) at.goes ∙ last;
      spelled = taken.1 ∙ ap (λ (ls : List (List ℕ)). ls ++ line ∷ []) at.spelled;
      stands = taken.0;
    }

-- ---- the answer

pub file_found : (bytes rest : List ℕ) (number : ℕ) (s : State) (file : BatchFile) → IsAt bytes rest number (seen s) → IsSound s → parts_at 10 rest ≡ rest ∷ [] → EndsWith s rest (Some file) → IsBatchFile bytes file
unfolding batch_text
file_found bytes rest number s file at sound e ends =
    let texts : List (List ℕ) = texts_in (seen s) in
    let fits = subst IsProgress ends.0 at.stands in
    let whole : whole_lines bytes ≡ lines_to (Over (head_of file.fuel file.random file.limit file.workers) texts) =
    at.lines_are ∙ ap (λ (ls : List (List ℕ)). at.lines ++ ls) (ap all_but_last e) ∙ append-nil at.lines ∙ sym at.spelled ∙ ap lines_to ends.0
    in
    let tail : after_lines bytes ≡ [] = at.rest_is ∙ ap last_of e ∙ ends.2 in
    record {
      texts = texts;
      requests = subst (AreRequests texts) ends.1 sound;
      is = record {
        fuel = fits.head_is.fuel;
        random = fits.head_is.random;
        limit = fits.head_is.limit;
        some_workers = fits.head_is.some_workers;
        few_workers = fits.head_is.few_workers;
        few_requests = fits.few_requests;
        texts = fits.all_bytes;
      };
      spelled = sym (lines_takes bytes) ∙ ap (λ (l : List ℕ). text_of (whole_lines bytes) ++ l) tail ∙ append-nil (text_of (whole_lines bytes)) ∙ ap text_of whole;
    }

-- bytes are one batch file at most
one_file : (bytes : List ℕ) (a b : BatchFile) → IsBatchFile bytes a → IsBatchFile bytes b → a ≡ b
unfolding batch_text
one_file bytes a b x y =
    let p : Batch = said_in a x.texts in
    let q : Batch = said_in b y.texts in
    let lines : batch_lines p ≡ batch_lines q = sym (batch_whole p bytes x.is x.spelled).0 ∙ (batch_whole q bytes y.is y.spelled).0 in
    let over : over_of p ≡ over_of q = same_Some _ _ (sym (batch_goes p x.is) ∙ ap (after_all machine Start) lines ∙ batch_goes q y.is) in
    let head : head_of a.fuel a.random a.limit a.workers ≡ head_of b.fuel b.random b.limit b.workers = cc over in
    let texts : x.texts ≡ y.texts = cc over in
    let fuel : a.fuel ≡ b.fuel = ap (λ (h : Head). h.fuel) head in
    let random : a.random ≡ b.random = ap (λ (h : Head). h.random) head in
    let limit : a.limit ≡ b.limit = ap (λ (h : Head). h.limit) head in
    let workers : a.workers ≡ b.workers = ap (λ (h : Head). h.workers) head in
    let requests : a.requests ≡ b.requests = same_requests y.texts a.requests b.requests (subst (λ (ts : List (List ℕ)). AreRequests ts a.requests) texts x.requests) y.requests in
    λ k. record { fuel = fuel k; random = random k; limit = limit k; workers = workers k; requests = requests k }

-- a good file of the value that was read
file_good : (bytes : List ℕ) (file : BatchFile) → (x : IsBatchFile bytes file) → IsGoodBatch (said_in file x.texts)
file_good bytes file x = record { is = x.is; requests = sound_good x.texts file.requests x.requests }

no_fault : (bytes : List ℕ) (n : ℕ) (file : BatchFile) → length bytes ≤ most_bytes → IsFirstBad bytes n → IsBatchFile bytes file → ⊥
unfolding batch_text
no_fault bytes n file small bad x =
    let fits : nat_lt most_bytes (length bytes) ≡ false = grind (arith, nat_tests) in
    let line : IsBadLine IsGoodBatch batch_lines bytes n = rw fits at bad in
    line.none (said_in file x.texts) (file_good bytes file x) x.spelled

pub only_this : (bytes : List ℕ) (read file : BatchFile) → IsBatchFile bytes read → IsBatchFile bytes file → IsReadAs file (Ok read)
only_this bytes read file is other = inl (ap Ok (one_file bytes read file is other))

pub never_bad : (bytes : List ℕ) (n : ℕ) (file : BatchFile) → length bytes ≤ most_bytes → IsFirstBad bytes n → IsBatchFile bytes file → IsReadAs file (Err (fault.Line n))
never_bad bytes n file small bad x = absurd (no_fault bytes n file small bad x)

pub bad_small : (bytes : List ℕ) (n : ℕ) → length bytes ≤ most_bytes → IsBadLine IsGoodBatch batch_lines bytes n → IsFirstBad bytes n
bad_small bytes n small bad = let fits : nat_lt most_bytes (length bytes) ≡ false = grind (arith, nat_tests) in rw fits bad

pub too_large : (bytes : List ℕ) → most_bytes < length bytes → IsFirstBad bytes 1
too_large bytes large = let big : nat_lt most_bytes (length bytes) ≡ true = grind (arith, nat_tests) in rw big refl

-- a line that leads nowhere is told
pub told_here : (bytes rest line after : List ℕ) (number : ℕ) (s : State) → length bytes ≤ most_bytes → IsAt bytes rest number (seen s) → IsSound s → parts_at 10 rest ≡ line ∷ parts_at 10 after
    → ((q : Progress) → after_line (seen s) line ≡ Some q → AreGood q → ⊥) → IsFirstBad bytes number
told_here bytes rest line after number s small at sound e none =
    bad_small bytes number small (bad_here bytes rest line after number (seen s) at (sound_good (texts_in (seen s)) (requests_in s) sound) e none)

-- and so is the end that comes too early, or isn't one
pub told_end : (bytes rest : List ℕ) (number : ℕ) (s : State) → length bytes ≤ most_bytes → IsAt bytes rest number (seen s) → IsSound s → parts_at 10 rest ≡ rest ∷ [] → finished (seen s) rest ≡ None → IsFirstBad bytes number
told_end bytes rest number s small at sound e none =
    bad_small bytes number small (bad_end bytes rest number (seen s) at (sound_good (texts_in (seen s)) (requests_in s) sound) e none)
